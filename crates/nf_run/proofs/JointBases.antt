-- The reduced basis of the intersection and of the sum of the ideals of two outputs' care points.
use Rattle.std.proofs.Common.{◌≡◌, ◌↔◌, List, map, refl}
use Rattle.lattice.specs.Words.{Ideal, IsReducedBasis, basis_element_of, reduced_basis_of, Family, IsFamily}
use Rattle.lattice.proofs.Polynomials.{IsFamily-care_set, IsFamily-combine, IsReducedBasis-unique, basis_same, intersection_law}
use Rattle.lattice.proofs.Polynomials.{reduced_basis_exists, sum_law}
use Rattle.pla_reader.specs.Reading.{Description}
use Rattle.nf_run.specs.Found.{output_points}
use Rattle.nf_run.specs.Joint.{IsJointBasis, joint_basis_of, joint_ideal, joint_leads, joint_points}
use Rattle.nf_run.specs.declared.joint.Joining.{Joining}
use Rattle.nf_run.specs.declared.joint.Joining.TheVariants.{Meet, Union}

-- the points put together are a family
pub joint_fits : (d : Description) (joining : Joining) → IsFamily d.inputs (joint_points d joining)
joint_fits d Union = IsFamily-combine _ d.inputs _ _
joint_fits d Meet = IsFamily-combine _ d.inputs _ _

-- the reduced basis has an element for each lead
pub basis_listed : (d : Description) (joining : Joining)
    → map (λ m. basis_element_of d.inputs m (joint_points d joining)) (joint_leads d joining) ≡ joint_basis_of d joining
unfolding reduced_basis_of
basis_listed d joining = refl

same_ideal : (d : Description) (joining : Joining) (p : Family) → joint_ideal d joining p ↔ Ideal d.inputs (joint_points d joining) p
same_ideal d Union = intersection_law d.inputs (output_points d 1) (output_points d 2) (IsFamily-care_set d.inputs d.kind d.rows 1)
    (IsFamily-care_set d.inputs d.kind d.rows 2)
same_ideal d Meet = sum_law d.inputs (output_points d 1) (output_points d 2) (IsFamily-care_set d.inputs d.kind d.rows 1)
    (IsFamily-care_set d.inputs d.kind d.rows 2)

joint_same : (d : Description) (joining : Joining) (basis : List Family)
    → IsJointBasis d joining basis ↔ IsReducedBasis d.inputs (joint_points d joining) basis
joint_same d joining basis =
    basis_same d.inputs (joint_points d joining) (joint_fits d joining) (joint_ideal d joining) (same_ideal d joining) basis

-- there is a reduced basis
pub joint_exists : (d : Description) (joining : Joining) → IsJointBasis d joining (joint_basis_of d joining)
joint_exists d joining = (joint_same d joining _).1 (reduced_basis_exists d.inputs (joint_points d joining) (joint_fits d joining))

-- and only one
pub joint_unique : (d : Description) (joining : Joining) (b c : List Family) → IsJointBasis d joining b → IsJointBasis d joining c → b ≡ c
joint_unique d joining b c one two =
    IsReducedBasis-unique d.inputs (joint_points d joining) b c ((joint_same d joining b).0 one) ((joint_same d joining c).0 two)
