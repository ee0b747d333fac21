-- The measures of polynomials, one after the other, and those of the answers of a circuit.
use Rattle.std.proofs.Common.{◌≡◌, ◌∙◌, ℕ, ◌+◌, ◌<◌, ◌≤◌, Err, Ok, Option, Result, List, ◌∷◌, ◌++◌, [], length, map, take}
use Rattle.std.proofs.Common.{get_or, ap, arith, subst}
use Rattle.std.specs.Prelude.{IfOk}
use Rattle.std.specs.Global.{Vec}
use Rattle.std.specs.List.{All, AllZip}
use Rattle.std.proofs.lemmas.List.{map_more, take_all}
use Rattle.std.proofs.lemmas.Result.{on_ok_weaker}
use Rattle.std.proofs.lemmas.Slice.Zip.{all_zipped_more}
use Rattle.node_store.specs.Stores.{Grows, IsSound, Knows, Reads, State, family, no_handle}
use Rattle.node_store.specs.declared.refusal.SolveRefusal.{SolveRefusal}
use Rattle.node_store.specs.declared.refusal.SolveRefusal.TheVariants as stops
use Rattle.node_store.specs.declared.store.Handle.{Handle}
use Rattle.node_store.proofs.StoreLaws.{Grows-family, Grows-knows, Reads-refl, Reads-trans, fits}
use Rattle.aig_reader.specs.Circuit.{Circuit}
use Rattle.diagram_measures.specs.Measured.{degree_of, nodes_of}
use Rattle.diagram_measures.specs.declared.measured.Measures.{Measures}
use Rattle.circuit_solve.specs.Answers.{HoldsAnswers, answers_list, answers_of}
use Rattle.circuit_solve.specs.Laws.{IsAsked}
use Rattle.circuit_solve.specs.Measured.{AreMeasured, FindsMeasures, IsMeasured}
use Rattle.circuit_solve.specs.declared.answers.Answered.{Answered}
use Rattle.circuit_solve.proofs.CareLaws.{answers_exist}

-- ---- one after the other; s is the state before them

module _ (s : State) (polynomials : List Handle) where
  -- the first i are measured; t is the state after them
  pub record Measured (t : State) (i : ℕ) (found : List Measures) : Type 0 where
    pub reads : Reads s t
    pub are : AllZip (IsMeasured s.vars) (map (family s) (take i polynomials)) found

  pub none_measured : Measured s 0 []
  none_measured = record { reads = Reads-refl s; are = tt }

  module _ (known : All (Knows s) polynomials) {t : State} (i : ℕ) {found : List Measures} (so_far : Measured t i found)
      (less : i < length polynomials) where
    abbrev h : Handle
    h = get_or polynomials i no_handle

    here_known : Knows s h
    here_known = known i no_handle less

    pub handle_later : Knows t h
    handle_later = Grows-knows s t h so_far.reads.grows here_known

    same : family t h ≡ family s h
    same = Grows-family s t h so_far.reads.grows here_known

    pub one_measured : {u : State} {m : Measures} {more : List Measures} → Reads t u → m.terms ≡ length (family t h)
        → m.degree ≡ degree_of (family t h) → m.nodes ≡ nodes_of t.vars (family t h) → more ≡ found ++ m ∷ [] → Measured u (i + 1) more
    one_measured {u} {m} {more} reads terms degree nodes items =
        let one : IsMeasured s.vars (family s h) m = record {
          terms = terms ∙ ap length same;
          degree = degree ∙ ap degree_of same;
          nodes = nodes ∙ (ap (λ n. nodes_of n (family t h)) so_far.reads.grows.vars ∙ ap (nodes_of s.vars) same);
        } in record {
          reads = Reads-trans s t u so_far.reads reads;
          are = rw (items, map_more (family s) polynomials i no_handle less) (all_zipped_more (IsMeasured s.vars)
              (map (family s) (take i polynomials)) found (family s h) m so_far.are one);
        }

  -- after the last one
  pub all_measured : {t : State} (i : ℕ) {found : List Measures} → length polynomials ≤ i → Measured t i found
      → AllZip (IsMeasured s.vars) (map (family s) polynomials) found
  all_measured i all so_far = rw (take_all i polynomials all) at so_far.are

-- ---- those of the answers; s is the state at the call, and t the one after the answers

module _ {s t : State} (c : Circuit) (care : Option ℕ) (vars_are : s.vars ≡ c.inputs) (grows : Grows s t) (sound : IsSound t)
    (found : Answered) (holds : HoldsAnswers t c care found) (given : List Handle) (same_handles : given ≡ found.polynomials.items) where
  pub measures_given : (measures : Vec Measures) → AllZip (IsMeasured t.vars) (map (family t) given) measures.items
      → FindsMeasures s.capacity c care (Ok measures)
  measures_given measures are = record {
    measures = subst (λ n. AllZip (IsMeasured n) (answers_of c care) measures.items) (grows.vars ∙ vars_are)
        (subst (λ fs. AllZip (IsMeasured t.vars) fs measures.items) (ap (map (family t)) same_handles ∙ holds.are) are);
    fits = omega (arith, fits t c.inputs (answers_list c care) sound holds.held, grows.capacity);
    exhausted = λ e. cc;
  }

-- ---- on a greater table

-- what is found but for want of slots is found with more
pub measures_with_more : {slots more : ℕ} (c : Circuit) (care : Option ℕ) (r : Result (Vec Measures) SolveRefusal) → slots ≤ more
    → (r ≡ Err stops.Full → ⊥) → FindsMeasures slots c care r → FindsMeasures more c care r
measures_with_more c care r less other gives = record {
  measures = gives.measures;
  fits = on_ok_weaker r (λ fits. omega (arith, fits, less)) gives.fits;
  exhausted = λ e. absurd (other e);
}

-- ---- the answers are those of the circuit

pub measures_are : {slots : ℕ} (c : Circuit) (care : Option ℕ) → IsAsked c care → (r : Result (Vec Measures) SolveRefusal)
    → FindsMeasures slots c care r → IfOk r (λ found. AreMeasured c care found.items)
measures_are c care asks (Err e) gives = tt
measures_are c care asks (Ok found) gives = (answers_of c care, answers_exist c care asks, gives.measures)
