-- What is counted and listed after each of the two phases.
use Rattle.std.proofs.Common.{◌≡◌, ◌∙◌, ℕ, ◌+◌, ◌-◌, ◌<◌, ◌≤◌, Err, List, Ok, Option, Result, length, map, true, ap, ap₂, arith}
use Rattle.std.proofs.Common.{refl, reverse, sym}
use Rattle.std.specs.Prelude.{IsErrAnd}
use Rattle.std.specs.List.{All, sum_by}
use Rattle.std.proofs.lemmas.List.{reverse-reverse}
use Rattle.lattice.specs.Words.{Family}
use Rattle.node_store.specs.Stores.{Denotes, Grows, IsSound, Knows, Reads, State, family}
use Rattle.node_store.specs.declared.store.Handle.{Handle}
use Rattle.node_store.proofs.StoreLaws.{All_known-later, Denotes-family, Denotes-knows, families_later}
use Rattle.aig_reader.specs.Circuit.{Circuit}
use Rattle.set_algebra.specs.Refusals.{unlisted_refusal}
use Rattle.set_algebra.specs.Terms.{terms_of}
use Rattle.set_algebra.specs.declared.counted.WalkRefusal.{WalkRefusal}
use Rattle.set_algebra.specs.declared.counted.WalkRefusal.TheVariants as unlisted
use Rattle.set_algebra.specs.declared.refusal.TermsRefusal.{TermsRefusal}
use Rattle.set_algebra.specs.declared.refusal.TermsRefusal.TheVariants as stops
use Rattle.circuit_solve.specs.Answers.{answer_terms}
use Rattle.circuit_solve.specs.Phases.{FindsLeads, FindsSolved, HoldsFirst, HoldsSecond}
use Rattle.circuit_solve.specs.Solved.{basis_by, care_leads, first_phase_list, second_phase_list}
use Rattle.circuit_solve.specs.declared.phases.FirstPhase.{FirstPhase}
use Rattle.circuit_solve.specs.declared.phases.SecondPhase.{SecondPhase}
use Rattle.circuit_solve.specs.declared.solution.Solution.{Solution}
use Rattle.circuit_solve.proofs.CareLaws.{same_solved}
use Rattle.circuit_solve.proofs.Found.{search_listed, search_over, search_unlisted, terms_by}

-- ---- the leads; s is the state at the call, t the one after phase 1, u the one after its answers' terms were counted

module _ {s t : State} (c : Circuit) (care : Option ℕ) (limit : ℕ) (grows : Grows s t) (sound : IsSound t) (found : FirstPhase)
    (holds : HoldsFirst t c care found) (given : List Handle) (same : given ≡ found.polynomials.items) where
  terms_are : terms_of t given ≡ answer_terms c care
  terms_are = terms_by t given (sym (ap (map (family t)) same ∙ holds.are))

  pub leads_over : {planned : ℕ} → limit < terms_of t given → FindsLeads planned s.capacity limit c care (Err stops.Over)
  leads_over more = search_over grows sound c.inputs (first_phase_list c care) holds.held (omega (arith, rw terms_are at more))

  module _ {u : State} (reads : Reads t u) (terms : ℕ) (are : terms ≡ terms_of t given) (within : terms ≤ limit) where
    denote : Denotes u found.leads (care_leads c care)
    denote = reads.grows.known found.leads.0 (care_leads c care) holds.leads

    pub leads_known : Knows u found.leads
    leads_known = Denotes-knows u found.leads (care_leads c care) denote

    leads_are : family u found.leads ≡ care_leads c care
    leads_are = Denotes-family u found.leads (care_leads c care) denote

    counted : terms + length (family u found.leads) ≡ answer_terms c care + length (care_leads c care)
    counted = ap₂ (λ m n. m + n) (are ∙ terms_are) (ap length leads_are)

    pub leads_listed : {planned : ℕ} {leads : Family} → leads ≡ reverse (family u found.leads)
        → length (family u found.leads) ≤ limit - terms → FindsLeads planned s.capacity limit c care (Ok leads)
    leads_listed members few = search_listed grows sound c.inputs (first_phase_list c care) holds.held counted
        (ap reverse members ∙ (reverse-reverse _ ∙ leads_are)) (omega (arith, few, within))

    pub leads_unlisted : {planned : ℕ} (x : WalkRefusal) (r : Result Family TermsRefusal) → IsErrAnd r (λ e. e ≡ unlisted_refusal x)
        → (x ≡ unlisted.Over → limit - terms < length (family u found.leads)) → FindsLeads planned s.capacity limit c care r
    leads_unlisted x r passed over = search_unlisted grows sound c.inputs (first_phase_list c care) holds.held counted x r passed
        (λ e. omega (arith, over e, within))

-- ---- what solves the circuit; s is the state at the call, t the one after phase 2, u the one after the answers were listed

module _ {s t : State} (c : Circuit) (care : Option ℕ) (limit : ℕ) (grows : Grows s t) (sound : IsSound t) (found : SecondPhase)
    (holds : HoldsSecond t c care found) (given : List Handle) (same : given ≡ found.polynomials.items) where
  abbrev all_terms : ℕ
  all_terms = answer_terms c care + sum_by length (basis_by c care true)

  given_are : map (family t) given ≡ map (family t) found.polynomials.items
  given_are = ap (map (family t)) same

  terms_here : terms_of t given ≡ answer_terms c care
  terms_here = terms_by t given (sym (given_are ∙ holds.are))

  pub answers_unlisted : (x : WalkRefusal) (r : Result Solution TermsRefusal) → IsErrAnd r (λ e. e ≡ unlisted_refusal x)
      → (x ≡ unlisted.Over → limit < terms_of t given) → FindsSolved s.capacity limit c care r
  answers_unlisted x r passed over = search_unlisted grows sound c.inputs (second_phase_list c care) holds.held {counted = all_terms} refl
      x r passed (λ e. omega (arith, rw terms_here at (over e)))

  module _ {u : State} (reads : Reads t u) (elements : List Handle) (others : elements ≡ found.elements.items) (left : ℕ)
      (first : left + terms_of t given ≡ limit) where
    pub elements_known : All (Knows u) elements
    elements_known = rw others (All_known-later t u found.elements.items reads.grows holds.elements_known)

    elements_are : map (family u) elements ≡ basis_by c care true
    elements_are = ap (map (family u)) others
        ∙ (families_later t u found.elements.items reads.grows holds.elements_known ∙ holds.elements_are)

    terms_there : terms_of u elements ≡ sum_by length (basis_by c care true)
    terms_there = terms_by u elements (sym elements_are)

    pub elements_unlisted : (x : WalkRefusal) (r : Result Solution TermsRefusal) → IsErrAnd r (λ e. e ≡ unlisted_refusal x)
        → (x ≡ unlisted.Over → left < terms_of u elements) → FindsSolved s.capacity limit c care r
    elements_unlisted x r passed over = search_unlisted grows sound c.inputs (second_phase_list c care) holds.held {counted = all_terms}
        refl x r passed (λ e. omega (arith, rw terms_there at (over e), rw terms_here at first))

    pub all_listed : (more : ℕ) {xs ys : List Family} → more + terms_of u elements ≡ left → map reverse xs ≡ map (family t) given
        → map reverse ys ≡ map (family u) elements
        → FindsSolved s.capacity limit c care (Ok (record { polynomials = xs; basis = ys }))
    all_listed more second xs_are ys_are = search_listed grows sound c.inputs (second_phase_list c care) holds.held
        {counted = all_terms} refl (same_solved (xs_are ∙ (given_are ∙ holds.are)) (ys_are ∙ elements_are))
        (omega (arith, rw terms_there at second, rw terms_here at first))
