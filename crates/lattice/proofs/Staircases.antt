-- The standard monomials and the leads of a family over more variables, and cut at its first variable, with their working lists.
use Rattle.std.proofs.Common.{◌≡◌, ◌≢◌, ◌↔◌, ℕ, zero, suc, ◌+◌, ◌-◌, ◌^◌, ◌<◌, ◌≤◌, Bool, true, false, not, ◌&&◌, List, [], ◌∷◌}
use Rattle.std.proofs.Common.{◌++◌, filter, refl, ◌∙◌, ap, subst, arith, ltb, lt-ltb, sym, ⊎_elim}
use Rattle.std.proofs.lemmas.Bool.{cases_eq, cases_Bool, and_from, false_from_ne_true}
use Rattle.lattice.specs.Words.{Family, IsFamily, has, divides, numbers_below, family_where, inter_of, IsStandard, Covers, low_cofactor}
use Rattle.lattice.specs.Words.{high_cofactor, join, level, standard_of, leads_of, has_divisors, IsClosed, standard_list, leads_list}
use Rattle.lattice.specs.Words.{operation_list, needs, working_set, sub}
use Rattle.lattice.specs.declared.op.Op.TheVariants.{Standard, Leads}
use Rattle.lattice.proofs.Families.{IsFamily-nil, IsFamily-unit, has-nil, has_none, has_head, has_other, below_bound}
use Rattle.lattice.proofs.Families.{has-family_where_below, family_where_has, same_below, IsFamily_wider, IsFamily-combine}
use Rattle.lattice.proofs.NumberLaws.{steady}
use Rattle.lattice.proofs.Cofactors.{not_empty, high_cofactor_none, low_cofactor_whole, join-nil, IsFamily_level, level-below}
use Rattle.lattice.proofs.Cofactors.{IsFamily-low_cofactor, IsFamily-high_cofactor, has-low_cofactor, has-high_cofactor, cases_empty}
use Rattle.lattice.proofs.Pointwise.{combine-right_empty, combine-right_empty_lost}
use Rattle.lattice.proofs.WorkingSets.{covers_nil, covers_append, covers_cons}
use Rattle.lattice.proofs.Values.{divides_both_high}
use Rattle.lattice.proofs.Standard.{divides_le, standard_of_family, either, both}
use Rattle.lattice.proofs.Results.{has_divisor, list_all_has, IsFamily-leads_of, leads_by_recursion, divides_zero, standard_by_recursion}

-- ---- standard monomials over more variables

standard_of-more : (d : ℕ) (f : Family) → IsFamily d f → standard_of d [] ≡ [] → standard_of (suc d) f ≡ standard_of d f
unfolding standard_of
standard_of-more d f is nil =
    grind (arith, high_cofactor_none, low_cofactor_whole, IsFamily_wider, combine-right_empty, combine-right_empty_lost, join-nil)

standard_of-nil : (d : ℕ) → standard_of d [] ≡ []
unfolding standard_of
standard_of-nil zero = refl
standard_of-nil (suc d) = standard_of-more d [] (IsFamily-nil d) (standard_of-nil d) ∙ standard_of-nil d

-- The standard monomials of points over more variables are those over the fewer ones of the points.
pub standard_of-narrow : (d n : ℕ) (f : Family) → IsFamily d f → d ≤ n → standard_of n f ≡ standard_of d f
standard_of-narrow d n f is le =
    steady (λ i. standard_of i f) d n (λ k l. standard_of-more k f (IsFamily_wider d k f is l) (standard_of-nil k)) le

-- and the working list
standard_list-more : (d : ℕ) (f : Family) → IsFamily d f → standard_list (suc d) f ≡ standard_list d f
unfolding standard_list
standard_list-more d f is = rw (high_cofactor_none d f is) refl

-- So is what finding them needs.
pub standard_list-narrow : (d n : ℕ) (f : Family) → IsFamily d f → d ≤ n → standard_list n f ≡ standard_list d f
standard_list-narrow d n f is le = steady (λ i. standard_list i f) d n (λ k l. standard_list-more k f (IsFamily_wider d k f is l)) le

-- what is needed over n variables, in the order in which it is found
abbrev pub standard_split : ℕ → ℕ → Family → List Family
standard_split n d f =
    either d f ∷ both d f ∷ (standard_list d (either d f) ++ (standard_list d (both d f) ++ (standard_of n f ∷ [])))

standard_list-full : (d : ℕ) (f : Family) → high_cofactor d f ≢ [] → standard_list (suc d) f ≡ standard_split (suc d) d f
unfolding standard_list
standard_list-full d f full = rw (not_empty (high_cofactor d f) full) refl

-- the working set of the operation
pub needs-standard : (n : ℕ) (f : Family) → needs Standard n f [] 0 ≡ working_set n (standard_list n f)
unfolding needs operation_list
needs-standard n f = refl

-- ---- constants

-- The empty family and {0} are their own standard monomials.
pub standard_of-constant : (n : ℕ) (f : Family) → IsFamily 0 f → standard_of n f ≡ f
unfolding standard_of
standard_of-constant n f is = standard_of-narrow 0 n f is (omega arith)

-- Of which nothing is needed.
pub needs-constant : (n : ℕ) (f : Family) (hs : List Family) → IsFamily 0 f → Covers hs (needs Standard n f [] 0)
unfolding standard_list
needs-constant n f hs is = rw (needs-standard n f, standard_list-narrow 0 n f is (omega arith)) (covers_nil n hs)

-- ---- families whose first variable d others follow

module _ (n d : ℕ) (f : Family) (is : IsFamily n f) (top : level n f ≡ suc d) (less : d < n) where
  after : IsFamily (suc d) f
  after = rw top at (IsFamily_level n f is)

  full : high_cofactor d f ≢ []
  full none =
      let low : IsFamily d f = subst (IsFamily d) (low_cofactor_whole d f after none) (IsFamily-low_cofactor d f) in
      let le : level n f ≤ d = level-below d n f low (omega arith) in omega (arith, le, top)

  -- the standard monomials by those of the two families of points
  pub standard_of-join : standard_of n f ≡ join d (standard_of d (either d f)) (standard_of d (both d f))
  unfolding standard_of
  standard_of-join = standard_of-narrow (suc d) n f after less

  -- and the working list
  pub standard_list-split : standard_list n f ≡ standard_split n d f
  standard_list-split =
      rw (standard_list-narrow (suc d) n f after less, standard_list-full d f full, standard_of-narrow (suc d) n f after less) refl

-- ---- leads of families without a variable

no_divisors : (x : ℕ) → (0 ≡ x → ⊥) → has_divisors [] x ≡ false
unfolding has_divisors
no_divisors x ne =
    false_from_ne_true (has_divisors [] x)
    (λ all. has_none 0 (list_all_has (has []) (filter (λ k. divides k x) (numbers_below x)) 0 all (has_divisor x 0
    ∙ and_from (divides 0 x) (ltb 0 x) (divides_zero x) (lt-ltb 0 x (omega arith)))))

zero_divisors : has_divisors [] 0 ≡ true
unfolding has_divisors numbers_below
zero_divisors = refl

lead_test : (d : ℕ) (f : Family) (x : ℕ) → x < 2 ^ d → has (leads_of d f) x ≡ (not (has f x) && has_divisors f x)
unfolding leads_of
lead_test d f x l = has-family_where_below d (λ m. not (has f m) && has_divisors f m) x l

lead_of_nil : (d x : ℕ) → x < 2 ^ d → has (leads_of d []) x ≡ has (0 ∷ []) x
lead_of_nil d x l = grind (arith, lead_test, has-nil, zero_divisors, has_head, no_divisors, has_other, cases_eq)

-- the one lead where nothing is standard
pub leads_of-nil : (d : ℕ) → leads_of d [] ≡ 0 ∷ []
leads_of-nil d = same_below d (leads_of d []) (0 ∷ []) (IsFamily-leads_of d []) (IsFamily-unit d) (lead_of_nil d)

-- no lead where all is standard
pub leads_of-all : leads_of 0 (0 ∷ []) ≡ []
unfolding leads_of has_divisors family_where numbers_below has
leads_of-all = refl

-- The one family over no variables that is not empty.
pub unit_only : (f : Family) → IsFamily 0 f → f ≢ [] → f ≡ 0 ∷ []
unfolding family_where numbers_below
unit_only f is some = grind (arith, family_where_has 0 f is, cases_Bool (has f 0))

-- ---- the working set of the operation, with d variables left

pub leads_list-nil : (d : ℕ) → leads_list d [] ≡ []
unfolding leads_list
leads_list-nil zero = refl
leads_list-nil (suc d) = refl

-- the working set of the leads, by their list
pub needs-leads : (n x d : ℕ) (f : Family) → n + 1 - x ≡ d → needs Leads n f [] x ≡ working_set n (leads_list d f)
unfolding needs operation_list
needs-leads n x d f e = ap (λ k. working_set n (leads_list k f)) e

-- The leads of no monomials need nothing.
pub needs-nil : (n x : ℕ) (hs : List Family) → Covers hs (needs Leads n [] [] x)
needs-nil n x hs = rw (needs-leads n x (n + 1 - x) [] refl, leads_list-nil (n + 1 - x)) (covers_nil n hs)

-- Nor do those with no variable left.
pub needs-none_left : (n x : ℕ) (f : Family) (hs : List Family) → n + 1 - x ≡ 0 → Covers hs (needs Leads n f [] x)
unfolding leads_list
needs-none_left n x f hs e = rw (needs-leads n x 0 f e) (covers_nil n hs)

-- ---- cut at a variable

module _ (d : ℕ) (f : Family) (closed : IsClosed f) where
  -- The monomials without a variable are closed where all are.
  pub low_closed : IsClosed (low_cofactor d f)
  low_closed m k i div =
      let b = below_bound d (low_cofactor d f) m (IsFamily-low_cofactor d f) i in let le = divides_le k m div in
      let c = closed m k in grind (arith, has-low_cofactor d f m b, has-low_cofactor d f k)

  -- So are those with it.
  pub high_closed : IsClosed (high_cofactor d f)
  high_closed m k i div =
      let b = below_bound d (high_cofactor d f) m (IsFamily-high_cofactor d f) i in let le = divides_le k m div in
      let c = closed (2 ^ d + m) (2 ^ d + k) in
      grind (arith, has-high_cofactor d f m b, has-high_cofactor d f k, divides_both_high d k m)

-- the leads of the upper half that are standard below, at the variable that d variables follow
abbrev pub kept_of : ℕ → Family → Family
kept_of d f = inter_of d (leads_of d (high_cofactor d f)) (low_cofactor d f)

-- what is needed, in the order in which it is found, for the leads r
abbrev pub leads_split : ℕ → Family → Family → List Family
leads_split d f r = leads_list d (low_cofactor d f) ++ (leads_list d (high_cofactor d f) ++ (kept_of d f ∷ r ∷ []))

leads_list-some : (d : ℕ) (f : Family) → f ≢ [] → leads_list (suc d) f ≡ leads_split d f (leads_of (suc d) f)
unfolding leads_list
leads_list-some d f some = rw (not_empty f some) refl

-- The leads by those of both parts.
pub leads_of-join : (n x : ℕ) (f : Family) → 1 ≤ x → x ≤ n → IsFamily (n + 1 - x) f → IsClosed f
    → leads_of (n + 1 - x) f ≡ join (n - x) (leads_of (n - x) (low_cofactor (n - x) f)) (kept_of (n - x) f)
leads_of-join n x f first last is closed =
    let e : n + 1 - x ≡ n - x + 1 = omega arith in
    ap (λ k. leads_of k f) e ∙ leads_by_recursion (n - x) f (subst (λ k. IsFamily k f) e is) closed

-- And the working list.
pub leads_list-split : (n x : ℕ) (f : Family) → 1 ≤ x → x ≤ n → f ≢ []
    → leads_list (n + 1 - x) f ≡ leads_split (n - x) f (leads_of (n + 1 - x) f)
leads_list-split n x f first last some =
    let e : n + 1 - x ≡ suc (n - x) = omega arith in rw (e, leads_list-some (n - x) f some) refl

-- ---- plans with every family have the working sets

module _ (plan : List Family) (n : ℕ) (any : (f : Family) → IsFamily n f → Covers plan (sub n f)) where
  each : (d : ℕ) → d ≤ n → (f : Family) → IsFamily d f → Covers plan (sub n f)
  each d le f is = any f (IsFamily_wider d n f is le)

  -- A plan with every family has the working set of the standard monomials.
  pub any_standard_list : (d : ℕ) → d ≤ n → (f : Family) → IsFamily d f → Covers plan (working_set n (standard_list d f))
  unfolding standard_list
  any_standard_list zero le f is = covers_nil n plan
  any_standard_list (suc d) le f is =
      let less : d ≤ n = omega arith in let small = each d less in let whole = each (suc d) le _ (standard_of_family (suc d) f is) in
      let first = any_standard_list d less (either d f) (IsFamily-combine _ d _ _) in
      let second = any_standard_list d less (both d f) (IsFamily-combine _ d _ _) in
      ⊎_elim
      (λ none.
      let low : IsFamily d f = subst (IsFamily d) (low_cofactor_whole d f is none) (IsFamily-low_cofactor d f) in
      rw (standard_list-more d f low) (any_standard_list d less f low))
      (λ full. rw (standard_list-full d f full)
      (search (covers_append, covers_cons, covers_nil, small, IsFamily-combine) depth 16 fits 3000))
      (cases_empty (high_cofactor d f))

  -- And that of the leads.
  pub any_leads_list : (d : ℕ) → d ≤ n → (f : Family) → Covers plan (working_set n (leads_list d f))
  unfolding leads_list
  any_leads_list zero le f = covers_nil n plan
  any_leads_list (suc d) le f =
      let less : d ≤ n = omega arith in let small = each d less in let whole = each (suc d) le _ (IsFamily-leads_of (suc d) f) in
      let low = any_leads_list d less (low_cofactor d f) in let high = any_leads_list d less (high_cofactor d f) in
      ⊎_elim (λ none. subst (λ k. Covers plan (working_set n (leads_list (suc d) k))) (sym none) (covers_nil n plan))
      (λ some. rw (leads_list-some d f some) (search (covers_append, covers_cons, covers_nil, small, IsFamily-combine) depth 16 fits 3000))
      (cases_empty f)

-- ---- a family of the standard monomials

same_member : {b c : Bool} {P : Type 0} → (b ≡ true) ↔ P → (c ≡ true) ↔ P → c ≡ b
same_member {b} {c} one two = grind (arith, cases_Bool b, cases_Bool c, one, two)

-- A family whose members are the standard monomials of points is theirs.
pub standard_of-members : (n : ℕ) (points monos : Family) → IsFamily n points → IsFamily n monos
    → ((m : ℕ) → (has monos m ≡ true) ↔ ((m < 2 ^ n) × IsStandard n points m)) → monos ≡ standard_of n points
standard_of-members n points monos is fits are =
    let law = standard_by_recursion n points is in
    same_below n monos (standard_of n points) fits law.0 (λ m l. same_member (law.1 m) (are m))
