-- Leads of small sets of points by computation.
use Rattle.std.proofs.Common.{◌≡◌, ℕ, true, List, [], ◌∷◌, refl}
use Rattle.lattice.specs.Words.{divides, has, numbers_below, family_where, combine, IsLead, standard_of, has_divisors, leads_of}
use Rattle.lattice.specs.Words.{low_cofactor, high_cofactor, join}
use Rattle.lattice.proofs.Polynomials.{IsFamily-family_where, leads_are_minimal}

is_lead : (n : ℕ) (points : List ℕ) (m : ℕ)
    → has (leads_of n (standard_of n (family_where n (has points)))) m ≡ true → IsLead n (family_where n (has points)) m
is_lead n points m i = ((leads_are_minimal n (family_where n (has points)) (IsFamily-family_where n (has points)) m).0 i).1

-- the leads of the tests, by computation
pub leads : IsLead 2 (family_where 2 (has (3 ∷ 0 ∷ []))) 2 × IsLead 2 (family_where 2 (has (0 ∷ 2 ∷ 3 ∷ []))) 3
    × IsLead 2 (family_where 2 (has [])) 0 × IsLead 3 (family_where 3 (has (5 ∷ []))) 1 × IsLead 3 (family_where 3 (has (5 ∷ []))) 2
    × IsLead 3 (family_where 3 (has (5 ∷ []))) 4 × IsLead 3 (family_where 3 (has (0 ∷ 3 ∷ 5 ∷ 6 ∷ []))) 4
unfolding standard_of has_divisors leads_of combine family_where numbers_below low_cofactor high_cofactor join has divides
leads = (
  is_lead 2 (3 ∷ 0 ∷ []) 2 refl,
  is_lead 2 (0 ∷ 2 ∷ 3 ∷ []) 3 refl,
  is_lead 2 [] 0 refl,
  is_lead 3 (5 ∷ []) 1 refl,
  is_lead 3 (5 ∷ []) 2 refl,
  is_lead 3 (5 ∷ []) 4 refl,
  is_lead 3 (0 ∷ 3 ∷ 5 ∷ 6 ∷ []) 4 refl,
)
