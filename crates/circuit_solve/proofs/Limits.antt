-- The first limit that what solves a circuit passes.
use Rattle.std.proofs.Common.{◌≡◌, ◌≢◌, ◌∙◌, ℕ, ◌≤◌, ◌^◌, Bool, true, false, Err, List, [], None, Ok, Option, Result, Some, length}
use Rattle.std.proofs.Common.{ap, arith, map, refl, reverse, subst, sym}
use Rattle.std.specs.Prelude.{IfErr, IfOk}
use Rattle.std.proofs.lemmas.Bool.Decides.{nat_tests}
use Rattle.std.proofs.lemmas.List.{length-map}
use Rattle.lattice.specs.Words.{Covers, Family, working_set}
use Rattle.lattice.proofs.Diagrams.{covers_left}
use Rattle.aig_reader.specs.Circuit.{Circuit}
use Rattle.set_algebra.specs.declared.refusal.TermsRefusal.{TermsRefusal}
use Rattle.set_algebra.specs.declared.refusal.TermsRefusal.TheVariants as stops
use Rattle.circuit_solve.specs.Answers.{FindsAnswers}
use Rattle.circuit_solve.specs.Laws.{IsAsked}
use Rattle.circuit_solve.specs.Phases.{FindsLeads, FindsSolved}
use Rattle.circuit_solve.specs.Solved.{IsSolved, Solved, basis_by, care_leads, first_nodes, first_phase_list, first_refused}
use Rattle.circuit_solve.specs.Solved.{second_phase_list, solved, solved_by}
use Rattle.circuit_solve.specs.declared.solution.Solution.{Solution}
use Rattle.circuit_solve.proofs.CareLaws.{solved_exists, solved_unique}
use Rattle.circuit_solve.proofs.ElementSteps.{basis_listed}

module _ (bits limit : ℕ) (c : Circuit) (care : Option ℕ) (asks : IsAsked c care) where
  -- the refusal of each thing that solves the circuit
  abbrev Refuses : (with_basis : Bool) → TermsRefusal → Type 0
  Refuses with_basis e = (s : Solved) → IsSolved c care with_basis s → first_refused bits limit c care with_basis s ≡ Some e

  -- it is that of the one that is found
  refuses : (with_basis : Bool) (e : TermsRefusal)
      → first_refused bits limit c care with_basis (solved_by c care with_basis) ≡ Some e → Refuses with_basis e
  refuses with_basis e at s is =
      let one : s ≡ solved_by c care with_basis =
      solved_unique c care with_basis s (solved_by c care with_basis) asks is (solved_exists c care with_basis asks) in
      ap (first_refused bits limit c care with_basis) one ∙ at

  -- ---- without a basis

  module _ {lists basis : List Family} (none : basis ≡ []) (h : FindsAnswers (2 ^ bits) limit c care (Ok lists)) where
    abbrev S : Solved
    S = record { polynomials = map reverse lists; basis = map reverse basis }

    same : solved_by c care false ≡ S
    same = rw (none, h.answer) refl

    pub answers_solve : IsSolved c care false S
    answers_solve = subst (IsSolved c care false) same (solved_exists c care false asks)

    pub answers_within : first_refused bits limit c care false S ≡ None
    answers_within = subst (λ s. first_refused bits limit c care false s ≡ None) same (grind (arith, nat_tests, h.fits, h.few))

  pub stopped_answers : (e : TermsRefusal) → FindsAnswers (2 ^ bits) limit c care (Err e) → e ≢ stops.Memory → Refuses false e
  stopped_answers stops.Full h other = refuses false stops.Full (grind (arith, nat_tests, h.exhausted refl))
  stopped_answers stops.Over h other = refuses false stops.Over (grind (arith, nat_tests, h.terms refl))
  stopped_answers stops.Memory h other = absurd (other refl)

  -- ---- with a basis

  -- as many elements as leads
  leads_counted : length (basis_by c care true) ≡ length (care_leads c care)
  leads_counted = ap length (sym (basis_listed c care)) ∙ length-map (care_leads c care) _

  many_leads : {planned : ℕ} → FindsLeads planned (2 ^ bits) limit c care (Err stops.Over) → Refuses true stops.Over
  many_leads h = refuses true stops.Over (grind (arith, nat_tests, h.terms refl, leads_counted))

  -- phase 1 was stopped on a table of its own, or on one that is not full
  pub stopped_first : (e : TermsRefusal) → FindsLeads (first_nodes c care true) (2 ^ bits) limit c care (Err e) → e ≢ stops.Memory
      → Refuses true e
  stopped_first stops.Full h other = refuses true stops.Full (grind (arith, nat_tests, h.exhausted refl))
  stopped_first stops.Over h other = many_leads h
  stopped_first stops.Memory h other = absurd (other refl)

  pub stopped_early : {planned : ℕ} (e : TermsRefusal) → FindsLeads planned (2 ^ bits) limit c care (Err e) → e ≢ stops.Memory
      → e ≢ stops.Full → Refuses true e
  stopped_early stops.Full h other others = absurd (others refl)
  stopped_early stops.Over h other others = many_leads h
  stopped_early stops.Memory h other others = absurd (other refl)

  module _ {planned : ℕ} (found : Family) (first : FindsLeads planned (2 ^ bits) limit c care (Ok found)) where
    stopped_last : (e : TermsRefusal) → FindsSolved (2 ^ bits) limit c care (Err e) → e ≢ stops.Memory → Refuses true e
    stopped_last stops.Full h other = refuses true stops.Full
        (grind (arith, nat_tests, first.fits, first.few, leads_counted, h.exhausted refl))
    stopped_last stops.Over h other = refuses true stops.Over
        (grind (arith, nat_tests, first.fits, first.few, leads_counted, h.terms refl))
    stopped_last stops.Memory h other = absurd (other refl)

    pub not_found : (r : Result Solution TermsRefusal) → FindsSolved (2 ^ bits) limit c care r
        → IfErr r (λ e. e ≢ stops.Memory → Refuses true e)
    not_found (Ok lists) h = tt
    not_found (Err e) h = stopped_last e h

    pub found_within : (r : Result Solution TermsRefusal) → FindsSolved (2 ^ bits) limit c care r
        → IfOk r (λ s. first_refused bits limit c care true (solved s) ≡ None)
    found_within (Err e) h = tt
    found_within (Ok s) h = subst (λ k. first_refused bits limit c care true k ≡ None) (sym h.answer)
        (grind (arith, nat_tests, first.fits, first.few, leads_counted, h.fits, h.few))

    pub found_solved : (r : Result Solution TermsRefusal) → FindsSolved (2 ^ bits) limit c care r
        → IfOk r (λ s. IsSolved c care true (solved s))
    found_solved (Err e) h = tt
    found_solved (Ok s) h = subst (IsSolved c care true) (sym h.answer) (solved_exists c care true asks)

-- ---- stores of 2^small slots, and of 2^bits, which are no fewer

module _ (small bits limit : ℕ) (more : 2 ^ small ≤ 2 ^ bits) (c : Circuit) (care : Option ℕ) where
  -- what is within the limits with the fewer is with the more
  pub within_more : (r : Result Solution TermsRefusal) → IfOk r (λ s. first_refused small limit c care true (solved s) ≡ None)
      → IfOk r (λ s. first_refused bits limit c care true (solved s) ≡ None)
  within_more (Ok s) none = grind (arith, nat_tests, none, more)
  within_more (Err e) none = tt

  -- and what is refused for another cause than its nodes is refused for it
  pub refused_with_more : (e : TermsRefusal) → e ≢ stops.Full → (s : Solved) → first_refused small limit c care true s ≡ Some e
      → first_refused bits limit c care true s ≡ Some e
  refused_with_more e other s over = grind (arith, nat_tests, other, over, more)

-- ---- both phases in one store

-- the plan of phase 2 has what phase 1 needs
pub first_covered : {plan : List Family} (c : Circuit) (care : Option ℕ) → plan ≡ working_set c.inputs (second_phase_list c care)
    → Covers plan (working_set c.inputs (first_phase_list c care))
first_covered c care is = rw is (covers_left c.inputs _ (first_phase_list c care) _ (λ f i. i))

-- what a phase gives is told of its store's slots, and so of as many
module _ (c : Circuit) (care : Option ℕ) {slots others limit : ℕ} (is : slots ≡ others) where
  pub leads_by : {planned : ℕ} {r : Result Family TermsRefusal} → FindsLeads planned slots limit c care r
      → FindsLeads planned others limit c care r
  leads_by found = rw (← is) found

  pub solved_with : {r : Result Solution TermsRefusal} → FindsSolved slots limit c care r → FindsSolved others limit c care r
  solved_with found = rw (← is) found
