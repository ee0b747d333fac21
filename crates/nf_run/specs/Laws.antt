-- Laws of joint bases and of what is due. The functions of src/laws.rt have them as their contracts.
use Rattle.std.specs.Prelude.{◌≡◌, ◌++◌, ℕ, List, Ok, codes}
use Rattle.lattice.specs.Family.{Family}
use Rattle.pla_reader.specs.Reading.{Description, description, reading_of}
use Rattle.pla_reader.specs.declared.pla.Pla.{Pla}
use Rattle.program.specs.Duties.{IsDueFor, done, silent}
use Rattle.program.specs.Examples.{two_points}
use Rattle.program.specs.declared.outcome.Outcome.TheVariants as ends
use Rattle.nf_run.specs.Due.{IsDue, QueryDue}
use Rattle.nf_run.specs.Duty.{query_duty}
use Rattle.nf_run.specs.Joint.{IsJointBasis, joint_basis_of}
use Rattle.nf_run.specs.declared.ends.QueryEnd.TheVariants.{QueryText, TwoOutputs}
use Rattle.nf_run.specs.declared.joint.Joining.{Joining}
use Rattle.nf_run.specs.declared.joint.Joining.TheVariants.{Meet, Union}
use Rattle.nf_run.specs.declared.mode.QueryMode.{QueryMode}
use Rattle.nf_run.specs.declared.mode.QueryMode.TheVariants.{Join, Reduce}
use Rattle.nf_run.specs.declared.queries.QueryWhy.TheVariants.{TermOrder}

-- ---- joint bases

-- the intersection and the sum of the ideals of two outputs' care points have a reduced basis each, and only one
abbrev pub JointBasisExists : Type 0
JointBasisExists = (d : Description) (joining : Joining) → IsJointBasis d joining (joint_basis_of d joining)

abbrev pub JointBasisIsUnique : Type 0
JointBasisIsUnique = (d : Description) (joining : Joining) (b c : List Family) → IsJointBasis d joining b → IsJointBasis d joining c → b ≡ c

-- ---- what is due

-- something is due for a mode and bytes that describe this
abbrev pub SomeIsDue : Pla → Type 0
SomeIsDue p = (mode : QueryMode) (bits : ℕ) (bytes : List ℕ) → reading_of bytes ≡ Ok (description p) → (due : QueryDue) × IsDue mode bits bytes due

-- a file of three points, of which each of two outputs has two
abbrev pub two_outputs : List ℕ
two_outputs = codes ".i 2\n.o 2\n.ilb a b\n.ob f g\n.type fr\n11 1-\n00 00\n10 -1\n.e\n"

-- what is due for two files: so the premises of the clauses of `nf_run` are met in each mode
abbrev pub DueForExamples : Type 0
DueForExamples = let duty = query_duty 19 in
    IsDueFor duty Reduce (two_points ++ codes "f = a\nf = a*b + 1\n") (done (codes "f = b\nf = b + 1\n"))
    × IsDueFor duty Reduce (two_points ++ codes "f = b + a\n") (silent (ends.Own (QueryText 1 TermOrder)))
    × IsDueFor duty (Join Meet) two_points (silent (ends.Own TwoOutputs))
    × IsDueFor duty (Join Union) two_outputs (done (codes "0 = a*b + b\n"))
    × IsDueFor duty (Join Meet) two_outputs (done (codes "0 = b\n0 = a\n"))
