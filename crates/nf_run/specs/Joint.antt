-- The ideals of the care points of two outputs put together, the reduced basis of what comes out, and what finding it needs.
use Rattle.std.specs.Prelude.{◌≡◌, ℕ, ◌^◌, ◌++◌, ◌∷◌, List, [], Option, Some, None, Result, if◌then◌else◌, length, map, nat_lt, reverse, sum_by}
use Rattle.std.specs.List.{All, flat_map}
use Rattle.lattice.specs.Basis.{basis_element_of, leads_of, reduced_basis_of, standard_of}
use Rattle.lattice.specs.Family.{Covers, Family, inter_of, union_of}
use Rattle.lattice.specs.Ideals.{Ideal, Intersection, IsReducedBasisOf, Polynomials, Sum}
use Rattle.lattice.specs.WorkingLists.{basis_element_list, working_set}
use Rattle.node_store.specs.Stores.{Denotes, Knows, State, family}
use Rattle.node_store.specs.declared.store.Handle.{Handle}
use Rattle.pla_reader.specs.Reading.{Description}
use Rattle.set_algebra.specs.declared.refusal.TermsRefusal.{TermsRefusal}
use Rattle.set_algebra.specs.declared.refusal.TermsRefusal.TheVariants.{Full, Over}
use Rattle.std_monomials.specs.PointLeads.{point_leads_list}
use Rattle.cube_build.specs.CarePoints.{points_list}
use Rattle.nf_run.specs.Found.{AreFound, SearchGives, output_points}
use Rattle.nf_run.specs.declared.joint.Joining.{Joining}
use Rattle.nf_run.specs.declared.joint.Joining.TheVariants.{Meet, Union}
use Rattle.nf_run.specs.declared.phases.Joint.{Joint}

-- of the polynomials that vanish at the care points of output 1 and of those that vanish at the care points of output 2: the common
-- ones, or the sums of one of the former and one of the latter
abbrev pub joint_ideal : Description → Joining → Polynomials
joint_ideal d Union = Intersection (Ideal d.inputs (output_points d 1)) (Ideal d.inputs (output_points d 2))
joint_ideal d Meet = Sum d.inputs (Ideal d.inputs (output_points d 1)) (Ideal d.inputs (output_points d 2))

-- the reduced basis of these
abbrev pub IsJointBasis : Description → Joining → List Family → Type 0
IsJointBasis d joining basis = IsReducedBasisOf (joint_ideal d joining) basis

-- ---- by families

-- all members of two families, or the common ones
abbrev pub joined : Joining → ℕ → Family → Family → Family
joined Union = union_of
joined Meet = inter_of

-- the points of both outputs put together
abbrev pub joint_points : Description → Joining → Family
joint_points d joining = joined joining d.inputs (output_points d 1) (output_points d 2)

-- their leads, and their reduced basis
abbrev pub joint_leads : Description → Joining → Family
joint_leads d joining = leads_of d.inputs (standard_of d.inputs (joint_points d joining))

abbrev pub joint_basis_of : Description → Joining → List Family
joint_basis_of d joining = reduced_basis_of d.inputs (joint_points d joining)

-- ---- the families that are needed

-- of the points
abbrev pub joint_points_list : Description → Joining → List Family
joint_points_list d joining = points_list d 1 ++ (points_list d 2 ++ joint_points d joining ∷ [])

-- of phase 1: of the points and their leads
abbrev pub first_phase_list : Description → Joining → List Family
first_phase_list d joining = joint_points_list d joining ++ point_leads_list d.inputs (joint_points d joining)

-- of the elements with some leads
abbrev pub elements_list : ℕ → Family → List ℕ → List Family
elements_list n points leads = flat_map (λ m. basis_element_list n m points) leads

-- of phase 2: these, and of the elements
abbrev pub second_phase_list : Description → Joining → List Family
second_phase_list d joining =
    first_phase_list d joining ++ elements_list d.inputs (joint_points d joining) (joint_leads d joining)

-- the nodes that the leads need, and those that the elements need too
abbrev pub first_nodes : Description → Joining → ℕ
first_nodes d joining = length (working_set d.inputs (first_phase_list d joining))

abbrev pub last_nodes : Description → Joining → ℕ
last_nodes d joining = length (working_set d.inputs (second_phase_list d joining))

-- the first limit that a basis passes, of stores of 2^bits slots and of a number of terms: the nodes and then the leads of phase 1,
-- and the nodes and then all terms of phase 2
abbrev pub first_refused : (bits limit : ℕ) → Description → Joining → List Family → Option TermsRefusal
first_refused bits limit d joining basis =
    if nat_lt (2 ^ bits) (first_nodes d joining) then Some Full
    else if nat_lt limit (length basis) then Some Over
    else if nat_lt (2 ^ bits) (last_nodes d joining) then Some Full
    else if nat_lt limit (sum_by length basis) then Some Over
    else None

-- ---- what was found

-- phase 1 was done
pub record HoldsJoint (s : State) (d : Description) (joining : Joining) (found : Joint) : Type 0 where
  pub points : Denotes s found.points (joint_points d joining)
  pub leads : Denotes s found.leads (joint_leads d joining)
  pub held : Covers s.held (working_set d.inputs (first_phase_list d joining))

-- the handles are of the elements with these leads, and what they needed is held
abbrev pub HoldsElements : State → ℕ → Family → List ℕ → List Handle → Type 0
HoldsElements s n points = AreFound s n (λ m. basis_element_of n m points) (λ m. basis_element_list n m points)

-- phase 2 was done
pub record HoldsBasis (s : State) (d : Description) (joining : Joining) (found : List Handle) : Type 0 where
  pub known : All (Knows s) found
  pub are : map (family s) found ≡ joint_basis_of d joining
  pub held : Covers s.held (working_set d.inputs (second_phase_list d joining))

-- ---- what a phase gives

-- phase 1: the leads, from the greatest to the least
abbrev pub FindsLeads : (planned slots limit : ℕ) → Description → Joining → Result Family TermsRefusal → Type 0
FindsLeads planned slots limit d joining = SearchGives slots limit planned (first_nodes d joining) (length (joint_leads d joining))
    (λ leads. reverse leads ≡ joint_leads d joining)

-- phase 2: the basis, with the terms of each element from the greatest to the least
abbrev pub FindsBasis : (slots limit : ℕ) → Description → Joining → Result (List Family) TermsRefusal → Type 0
FindsBasis slots limit d joining = let nodes = last_nodes d joining in
    SearchGives slots limit nodes nodes (sum_by length (joint_basis_of d joining)) (λ lists. map reverse lists ≡ joint_basis_of d joining)
