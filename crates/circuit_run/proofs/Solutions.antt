-- What solves a circuit is printed: as many polynomials as there are outputs that are answered, and each one in its inputs.
use Rattle.std.proofs.Common.{◌≡◌, ◌∙◌, ℕ, ◌+◌, ◌<◌, Bool, true, false, List, [], length, map, arith, refl, sym, subst}
use Rattle.std.proofs.Common.{Option, Some, None}
use Rattle.std.specs.List.{All, AllZip}
use Rattle.std.specs.Option.{ForSome}
use Rattle.std.proofs.lemmas.List.Edits.{length-remove}
use Rattle.std.proofs.lemmas.List.Elements.{All-cons, All-nil}
use Rattle.std.proofs.lemmas.Slice.Zip.{AllZip-long, AllZip-map}
use Rattle.lattice.specs.Words.{Family, IsElementOf, IsFamily, numbers_below}
use Rattle.lattice.proofs.Polynomials.{zip_fold, zip_weaker}
use Rattle.aig_reader.specs.Circuit.{Circuit}
use Rattle.circuit_solve.specs.Care.{AreAnswers, CareIdeal, IsAnswerTo, asked}
use Rattle.circuit_solve.specs.Measured.{IsMeasured}
use Rattle.circuit_solve.specs.Ones.{AreLeastOnes, IsLeastOne}
use Rattle.circuit_solve.specs.Solved.{IsSolved, IsWanted, Solved}
use Rattle.diagram_measures.specs.declared.measured.Measures.{Measures}
use Rattle.circuit_run.specs.Texts.{answered, measures_of}
use Rattle.circuit_run.proofs.PrintedLines.{numbers_count}

-- as many outputs are answered as are numbered
asked_count : (c : Circuit) (care : Option ℕ) → ForSome care (λ output. output < length c.outputs)
    → length (asked c care) ≡ length (answered (length c.outputs) care)
asked_count c None within = sym (numbers_count (length c.outputs))
asked_count c (Some output) within =
    let less = within output refl in let many = numbers_count (length c.outputs) in
    let numbers = map (λ k. k + 1) (numbers_below (length c.outputs)) in
    omega (arith, many, length-remove c.outputs output less, length-remove numbers output (rw many less))

-- and as many have a least point or none
pub points_count : (c : Circuit) (care : Option ℕ) (points : List (Option ℕ)) → AreLeastOnes c care points
    → ForSome care (λ output. output < length c.outputs) → length points ≡ length (answered (length c.outputs) care)
points_count c care points are within = AllZip-long (IsLeastOne c care) (asked c care) points are ∙ asked_count c care within

module _ {c : Circuit} {care : Option ℕ} {with_basis : Bool} {s : Solved} (is : IsSolved c care with_basis s) where
  pub solved_count : ForSome care (λ output. output < length c.outputs)
      → length s.polynomials ≡ length (answered (length c.outputs) care)
  solved_count within = AllZip-long (IsAnswerTo c care) (asked c care) s.polynomials is.answers ∙ asked_count c care within

  pub polynomials_are : All (IsFamily c.inputs) s.polynomials
  polynomials_are = zip_fold (IsAnswerTo c care) (λ ls ps. All (IsFamily c.inputs) ps) (All-nil (IsFamily c.inputs))
      (λ l ls p ps answer rest. All-cons (IsFamily c.inputs) p ps answer.family rest) (asked c care) s.polynomials is.answers

  pub elements_are : All (IsFamily c.inputs) s.basis
  elements_are = wanted with_basis is.basis
    where
      wanted : (with_basis : Bool) → IsWanted c care with_basis s.basis → All (IsFamily c.inputs) s.basis
      wanted false none = subst (All (IsFamily c.inputs)) (sym none) (All-nil (IsFamily c.inputs))
      wanted true reduced = zip_fold (IsElementOf (CareIdeal c care)) (λ ms bs. All (IsFamily c.inputs) bs) (All-nil (IsFamily c.inputs))
          (λ m ms b bs element rest. All-cons (IsFamily c.inputs) b bs element.member.0 rest) reduced.leads s.basis reduced.elements

-- ---- measures

-- what measures polynomials has all their measures
pub measures_are : (n : ℕ) (polynomials : List Family) (found : List Measures) → AllZip (IsMeasured n) polynomials found
    → found ≡ map (measures_of n) polynomials
measures_are n polynomials found zip = AllZip-map (measures_of n) polynomials found
    (zip_weaker (IsMeasured n) (λ p m. m ≡ measures_of n p) same polynomials found zip)
  where
    same : (p : Family) (m : Measures) → IsMeasured n p m → m ≡ measures_of n p
    same p m is = λ i. record { terms = is.terms i; degree = is.degree i; nodes = is.nodes i }

-- the answers without a basis
abbrev pub alone : List Family → Solved
alone polynomials = record { polynomials = polynomials; basis = [] }

pub alone_solves : (c : Circuit) (care : Option ℕ) (polynomials : List Family) → AreAnswers c care polynomials
    → IsSolved c care false (alone polynomials)
alone_solves c care polynomials are = record { answers = are; basis = refl }
