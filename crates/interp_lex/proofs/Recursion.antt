-- The recursion at the first variable of the zeros and the ones, which d variables follow: a step over n variables is one over d.
use Rattle.std.proofs.Common.{◌≡◌, ◌≢◌, ℕ, suc, ◌<◌, ◌≤◌, Bool, false, ◌&&◌, List, [], ◌∷◌, ◌++◌, refl, ◌∙◌, ◌⊎◌, inl, inr, append_assoc}
use Rattle.lattice.specs.Words.{Family, IsFamily, AreDisjoint, combine, low_cofactor, high_cofactor, join, is_empty}
use Rattle.lattice.specs.Words.{interpolate, upper_zeros, upper_ones, lower_points, interpolation_list}
use Rattle.lattice.proofs.Diagrams.{not_empty, combine-narrow}
use Rattle.lattice.proofs.Polynomials.{IsFamily-combine, IsFamily-ones_of, IsFamily-low_cofactor, IsFamily-high_cofactor, upper_disjoint}
use Rattle.lattice.proofs.Polynomials.{lower_disjoint, upper, lower, IsLeast-interpolate, interpolate-narrow, interpolation_list-narrow}
use Rattle.bool_poly.proofs.OnesLemmas.{ones_of-narrow, ones_list-narrow}
use Rattle.interp_lex.specs.Parts.{common_of, upper_list, lower_of, lower_list}

-- ---- the points of a step over more variables

module _ (d n : ℕ) (le : d ≤ n) where
  abbrev narrow : (k : Bool → Bool → Bool) (f g : Family) → k false false ≡ false → IsFamily d f → IsFamily d g
      → combine k n f g ≡ combine k d f g
  narrow k f g e ff fg = combine-narrow k e d n f g ff fg le

  module _ (Z O : Family) where
    pub upper_zeros_are : common_of n (low_cofactor d Z) (high_cofactor d Z) (low_cofactor d O) (high_cofactor d O) ≡ upper_zeros d Z O
    unfolding upper_zeros
    upper_zeros_are = simp (narrow, IsFamily-combine, IsFamily-low_cofactor, IsFamily-high_cofactor)

    pub upper_ones_are : common_of n (low_cofactor d Z) (high_cofactor d O) (low_cofactor d O) (high_cofactor d Z) ≡ upper_ones d Z O
    unfolding upper_ones
    upper_ones_are = simp (narrow, IsFamily-combine, IsFamily-low_cofactor, IsFamily-high_cofactor)

    pub upper_list_is : upper_list n (low_cofactor d Z) (high_cofactor d Z) (low_cofactor d O) (high_cofactor d O)
        ≡ upper_list d (low_cofactor d Z) (high_cofactor d Z) (low_cofactor d O) (high_cofactor d O)
    upper_list_is = simp (narrow, IsFamily-combine, IsFamily-low_cofactor, IsFamily-high_cofactor)

    pub lower_points_are : (h : Family) → lower_of n h (low_cofactor d Z) (high_cofactor d Z) (high_cofactor d O) ≡ lower_points d h Z O
    unfolding lower_points
    lower_points_are h =
        simp (narrow, ones_of-narrow d n, IsFamily-combine, IsFamily-ones_of, IsFamily-low_cofactor, IsFamily-high_cofactor)

    pub lower_list_is : (h : Family) → IsFamily d h
        → lower_list n h (low_cofactor d Z) (high_cofactor d Z) (low_cofactor d O) (high_cofactor d O)
        ≡ lower_list d h (low_cofactor d Z) (high_cofactor d Z) (low_cofactor d O) (high_cofactor d O)
    lower_list_is h is =
        let ones = ones_of-narrow d n in let list = ones_list-narrow d n in
        simp (narrow, ones, list, IsFamily-combine, IsFamily-ones_of, IsFamily-low_cofactor, IsFamily-high_cofactor)

-- ---- the families of a step

-- the polynomials of the upper and the lower part, and what is needed, in the order in which it is found
module _ (d : ℕ) (Z O : Family) where
  abbrev pub h : Family
  h = interpolate d (upper_zeros d Z O) (upper_ones d Z O)

  abbrev pub g : Family
  g = interpolate d (lower_points d h Z O) (lower_points d h O Z)

  abbrev pub upper_needs : List Family
  upper_needs = upper_list d (low_cofactor d Z) (high_cofactor d Z) (low_cofactor d O) (high_cofactor d O)

  abbrev pub lower_needs : List Family
  lower_needs = lower_list d h (low_cofactor d Z) (high_cofactor d Z) (low_cofactor d O) (high_cofactor d O)

  -- what is needed after the points of the lower part were found, and after those of the upper part, for the result r
  abbrev pub after_lower : Family → List Family
  after_lower r = interpolation_list d (lower_points d h Z O) (lower_points d h O Z) ++ g ∷ r ∷ []

  abbrev pub after_upper : Family → List Family
  after_upper r = interpolation_list d (upper_zeros d Z O) (upper_ones d Z O) ++ h ∷ (lower_needs ++ after_lower r)

  abbrev pub step_list : Family → List Family
  step_list r = upper_needs ++ after_upper r

some_high : (f g : Family) → (f ≢ []) ⊎ (g ≢ []) → (is_empty f && is_empty g) ≡ false
some_high f g (inl ne) = rw (not_empty f ne) refl
some_high [] g (inr ne) = not_empty g ne
some_high (x ∷ f) g (inr ne) = refl

interpolate_step : (d : ℕ) (Z O : Family) → Z ≢ [] → O ≢ [] → interpolate (suc d) Z O ≡ join d (g d Z O) (h d Z O)
unfolding interpolate
interpolate_step d [] O nz nn = absurd (nz refl)
interpolate_step d (z ∷ Z) [] nz nn = absurd (nn refl)
interpolate_step d (z ∷ Z) (o ∷ O) nz nn = refl

-- the working list of a step
pub list_step : (d : ℕ) (Z O : Family) → Z ≢ [] → O ≢ [] → (high_cofactor d Z ≢ []) ⊎ (high_cofactor d O ≢ [])
    → interpolation_list (suc d) Z O ≡ step_list d Z O (join d (g d Z O) (h d Z O))
unfolding interpolation_list upper_zeros upper_ones lower_points
list_step d Z O some_zero some_one high = simp (not_empty, some_high, append_assoc)

-- points over d variables that have no member in common
pub record Points (d : ℕ) (Z O : Family) : Type 0 where
  pub zeros_fit : IsFamily d Z
  pub ones_fit : IsFamily d O
  pub apart : AreDisjoint Z O

-- zeros and ones that have members with the variable and none with one before it
pub record Split (n d : ℕ) (Z O : Family) : Type 0 where
  pub points : Points (suc d) Z O
  pub less : d < n
  pub some_zero : Z ≢ []
  pub some_one : O ≢ []
  pub high : (high_cofactor d Z ≢ []) ⊎ (high_cofactor d O ≢ [])

module _ {n d : ℕ} {Z O : Family} (k : Split n d Z O) where
  pub points_above : Points d (upper_zeros d Z O) (upper_ones d Z O)
  unfolding upper_zeros upper_ones
  points_above = record {
    zeros_fit = IsFamily-combine _ d _ _;
    ones_fit = IsFamily-combine _ d _ _;
    apart = upper_disjoint d Z O _ _ k.points.apart (upper d Z O);
  }

  pub points_below : Points d (lower_points d (h d Z O) Z O) (lower_points d (h d Z O) O Z)
  unfolding lower_points
  points_below = let up = points_above in record {
    zeros_fit = IsFamily-combine _ d _ _;
    ones_fit = IsFamily-combine _ d _ _;
    apart = lower_disjoint d Z O (h d Z O) _ _ _ _ k.points.apart (upper d Z O)
        (IsLeast-interpolate d _ _ up.zeros_fit.below up.ones_fit.below up.apart).fits (lower d Z O (h d Z O));
  }

  -- the result
  pub result_is : interpolate n Z O ≡ join d (g d Z O) (h d Z O)
  result_is = interpolate-narrow (suc d) n Z O k.points.zeros_fit k.points.ones_fit k.less k.points.apart
      ∙ interpolate_step d Z O k.some_zero k.some_one

  -- the working list
  pub list_is : interpolation_list n Z O ≡ step_list d Z O (interpolate n Z O)
  list_is = interpolation_list-narrow (suc d) n Z O k.points.zeros_fit k.points.ones_fit k.less
      ∙ (list_step d Z O k.some_zero k.some_one k.high ∙ rw result_is refl)
