-- The circuit that a job looks at, from what the steps found: the bytes say one to a job, or one cause why there is none.
use Rattle.std.proofs.Common.{◌≡◌, ◌∙◌, ◌<◌, ◌≤◌, ◌+◌, ◌-◌, ℕ, false, true, List, length, drop, ap, arith, refl, subst, sym, Option}
use Rattle.std.proofs.lemmas.Bool.{le-ltb, lt-ltb}
use Rattle.std.proofs.lemmas.List.{length-drop}
use Rattle.std.specs.Prelude.{Ok, Err, IfErr, IfOk, Result}
use Rattle.lattice.proofs.Polynomials.{ok_is}
use Rattle.aig_miter.specs.Miter.{miter}
use Rattle.aig_pairs.specs.Laws.{IsSound}
use Rattle.aig_pairs.specs.Matching.{Matches}
use Rattle.aig_pairs.specs.Pairs.{ReadsPair, in_parts, whole}
use Rattle.aig_pairs.specs.declared.matching.MatchRefusal.TheVariants as unmatched
use Rattle.aig_pairs.specs.declared.pairs.PairRefusal.TheVariants as unpaired
use Rattle.aig_pairs.proofs.PairLaws.{one_match, one_pair, within}
use Rattle.aig_reader.specs.Circuit.{Circuit}
use Rattle.aig_reader.specs.Reading.{IsReading, circuit, placed_in}
use Rattle.aig_reader.specs.declared.circuit.Aig.{Aig}
use Rattle.aig_reader.specs.declared.circuit.TheConstants.{MAX_GATES}
use Rattle.aig_reader.specs.declared.refusal.Fault.{Fault}
use Rattle.aig_reader.specs.declared.refusal.Refusal.{Refusal}
use Rattle.aig_reader.proofs.Values.{one_reading}
use Rattle.circuit_words.specs.declared.job.CircuitJob.{CircuitJob}
use Rattle.program.specs.declared.outcome.Outcome.{Outcome}
use Rattle.program.specs.declared.outcome.Outcome.TheVariants as ends
use Rattle.circuit_run.specs.Parts.{EndsBy, Finds, FindsDifference, IsUnread}
use Rattle.circuit_run.specs.Subjects.{Compares, IsSubject, compares, difference_by, matched, miter_within, no_pair, of_one}
use Rattle.circuit_run.specs.Subjects.{of_two, one_alone, other_inputs, other_outputs}
use Rattle.circuit_run.specs.declared.ends.CircuitEnd.{CircuitEnd}
use Rattle.circuit_run.specs.declared.ends.CircuitEnd.TheVariants.{TooManyGates}

-- ---- one subject

-- a job does not compare two circuits and not
both : {A : Type 0} (job : CircuitJob) → compares job.mode ≡ false → compares job.mode ≡ true → A
both job one two = let bad : false ≡ true = sym one ∙ two in absurd cc

module _ (job : CircuitJob) (c d : Circuit) (first : IsSound c) (second : IsSound d) where
  one_compared : {a b : Result Circuit CircuitEnd} → Compares job c d a → Compares job c d b → a ≡ b
  one_compared (matched over is) (matched other so) =
      let same = one_match c d (Ok over) (Ok other) first second is so in ap (difference_by job c) cc
  one_compared (matched over is) (other_inputs so) = let bad = one_match c d (Ok over) (Err unmatched.Inputs) first second is so in cc
  one_compared (matched over is) (other_outputs so) = let bad = one_match c d (Ok over) (Err unmatched.Outputs) first second is so in cc
  one_compared (other_inputs is) (matched other so) = let bad = one_match c d (Err unmatched.Inputs) (Ok other) first second is so in cc
  one_compared (other_inputs is) (other_inputs so) = refl
  one_compared (other_inputs is) (other_outputs so) =
      let bad = one_match c d (Err unmatched.Inputs) (Err unmatched.Outputs) first second is so in cc
  one_compared (other_outputs is) (matched other so) = let bad = one_match c d (Err unmatched.Outputs) (Ok other) first second is so in cc
  one_compared (other_outputs is) (other_inputs so) =
      let bad = one_match c d (Err unmatched.Outputs) (Err unmatched.Inputs) first second is so in cc
  one_compared (other_outputs is) (other_outputs so) = refl

module _ {job : CircuitJob} {bytes : List ℕ} where
  -- the bytes say one thing to a job
  pub one_subject : {a b : Result Circuit CircuitEnd} → IsSubject job bytes a → IsSubject job bytes b → a ≡ b
  one_subject (of_one r one x) (of_one s again y) = let same = one_reading bytes r s x y in cc
  one_subject (of_one r one x) (of_two c d found two y first second is) = both job one two
  one_subject (of_one r one x) (no_pair refusal two y) = both job one two
  one_subject (of_one r one x) (one_alone two y) = both job one two
  one_subject (of_two c d found two x first second is) (of_one s one y) = both job one two
  one_subject {b = b} (of_two c d found two x first second is) (of_two e f other again y third fourth so) =
      let same = one_pair bytes (Ok (c, d)) (Ok (e, f)) x y in
      let pairs : (c, d) ≡ (e, f) = ok_is (Ok (c, d)) refl same in
      let firsts : e ≡ c = ap (λ (p : Circuit × Circuit). p.0) (sym pairs) in
      let seconds : f ≡ d = ap (λ (p : Circuit × Circuit). p.1) (sym pairs) in
      one_compared job c d first second is
      (subst (λ (f : Circuit). Compares job c f b) seconds (subst (λ (e : Circuit). Compares job e f b) firsts so))
  one_subject (of_two c d found two x first second is) (no_pair refusal again y) =
      let bad = one_pair bytes (Ok (c, d)) (Err (unpaired.Bad refusal)) x y in cc
  one_subject (of_two c d found two x first second is) (one_alone again y) =
      let bad = one_pair bytes (Ok (c, d)) (Err unpaired.Alone) x y in cc
  one_subject (no_pair refusal two x) (of_one s one y) = both job one two
  one_subject (no_pair refusal two x) (of_two c d found again y first second is) =
      let bad = one_pair bytes (Err (unpaired.Bad refusal)) (Ok (c, d)) x y in cc
  one_subject (no_pair refusal two x) (no_pair other again y) =
      let same = one_pair bytes (Err (unpaired.Bad refusal)) (Err (unpaired.Bad other)) x y in cc
  one_subject (no_pair refusal two x) (one_alone again y) =
      let bad = one_pair bytes (Err (unpaired.Bad refusal)) (Err unpaired.Alone) x y in cc
  one_subject (one_alone two x) (of_one s one y) = both job one two
  one_subject (one_alone two x) (of_two c d found again y first second is) =
      let bad = one_pair bytes (Err unpaired.Alone) (Ok (c, d)) x y in cc
  one_subject (one_alone two x) (no_pair refusal again y) =
      let bad = one_pair bytes (Err unpaired.Alone) (Err (unpaired.Bad refusal)) x y in cc
  one_subject (one_alone two x) (one_alone again y) = refl

-- ---- what the steps found

-- an end by one cause is one by another that follows from it
pub ends_more : {P Q : CircuitEnd → Type 0} (o : Outcome CircuitEnd) → ((end : CircuitEnd) → P end → Q end) → EndsBy P o → EndsBy Q o
ends_more (ends.Own end) f is = f end is
ends_more ends.Memory f is = tt
ends_more _ f is = is

-- a fault stands in the bytes
placed_within : (bytes : List ℕ) (refusal : Refusal) (read : Result Circuit Fault) → Err refusal ≡ placed_in bytes read
    → refusal.byte ≤ length bytes
placed_within bytes refusal (Ok c) e = absurd cc
placed_within bytes refusal (Err fault) e = let is : refusal.byte ≡ length bytes - fault.left = cc in omega arith

fault_within : (bytes : List ℕ) (refusal : Refusal) → IsReading bytes (Err refusal) → refusal.byte ≤ length bytes
fault_within bytes refusal reading = placed_within bytes refusal reading.read reading.is

-- and one of a pair in those of both
pub pair_fault : (bytes : List ℕ) (refusal : Refusal) → ReadsPair bytes (Err (unpaired.Bad refusal)) → refusal.byte ≤ length bytes
pair_fault bytes refusal (in_parts at first (Ok second) part reading e) = absurd cc
pair_fault bytes refusal (in_parts at first (Err fault) part reading e) =
    let is : refusal ≡ record fault { byte = at + fault.byte } = cc in let byte = ap (λ (r : Refusal). r.byte) is in
    let some = within bytes at part.part.parted in let few = fault_within (drop at bytes) fault reading in
    omega (arith, byte, some, few, length-drop at bytes)
pair_fault bytes refusal (whole (Ok c) none reading e) = absurd cc
pair_fault bytes refusal (whole (Err fault) none reading e) =
    let is : refusal ≡ fault = cc in subst (λ (r : Refusal). r.byte ≤ length bytes) (sym is) (fault_within bytes fault reading)

-- the miter is found, or has too many gates
module _ (c d : Circuit) (care : Option ℕ) where
  pub miter_found : (m : Circuit) → m ≡ miter c d care → length m.gates ≤ MAX_GATES → miter_within c d care ≡ Ok m
  miter_found m is few =
      let fits = subst (λ (m : Circuit). length m.gates ≤ MAX_GATES) is few in
      rw (le-ltb MAX_GATES (length (miter c d care).gates) fits) (ap Ok (sym is))

  pub miter_large : MAX_GATES < length (miter c d care).gates → miter_within c d care ≡ Err TooManyGates
  miter_large many = rw (lt-ltb MAX_GATES (length (miter c d care).gates) many) refl

-- what the job compares is found of circuits whose names match
pub difference_found : (job : CircuitJob) (c d over : Circuit) → Matches c d (Ok over) → (r : Result Aig (Outcome CircuitEnd))
    → Finds circuit r (difference_by job c over) → FindsDifference job c d r
difference_found job c d over is (Ok aig) found = subst (Compares job c d) found (matched over is)
difference_found job c d over is (Err (ends.Own end)) found = subst (Compares job c d) found (matched over is)
difference_found job c d over is (Err ends.Memory) found = tt
difference_found job c d over is (Err _) found = found

module _ (job : CircuitJob) (bytes : List ℕ) (two : compares job.mode ≡ true) (first second : Aig)
    (reads : ReadsPair bytes (Ok (circuit first, circuit second))) where
  abbrev subject_of : {found : Result Circuit CircuitEnd} → Compares job (circuit first) (circuit second) found → IsSubject job bytes found
  subject_of {found = found} is = of_two (circuit first) (circuit second) found two reads first.fits second.fits is

  -- and it is what the bytes say
  pub compared_is : (r : Result Aig (Outcome CircuitEnd)) → FindsDifference job (circuit first) (circuit second) r
      → IfOk r (λ aig. IsSubject job bytes (Ok (circuit aig)))
  compared_is (Ok aig) is = subject_of is
  compared_is (Err o) is = tt

  pub compared_ends : (r : Result Aig (Outcome CircuitEnd)) → FindsDifference job (circuit first) (circuit second) r
      → IfErr r (EndsBy (IsUnread job bytes))
  compared_ends (Ok aig) is = tt
  compared_ends (Err o) is = ends_more o (λ end h. subject_of h) is
