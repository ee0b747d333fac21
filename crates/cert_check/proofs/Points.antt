-- Tests and counts over all points, terms that go from the greatest monomial to the least, and the leads of a list of points.
use Rattle.std.proofs.Common.{◌≡◌, ℕ, ◌%◌, ◌<◌, true, List, [], ◌∷◌, ◌++◌, reverse, refl, sym, ap, ◌∙◌, subst, ⊎_elim, arith, rules, zero}
use Rattle.std.proofs.Common.{suc, ◌+◌, ◌^◌, ◌≤◌, Bool, false, not, ◌&&◌, ◌||◌, ◌==◌, cond, length, get_or, take, filter, count_by, ap₂}
use Rattle.std.proofs.Common.{add-one, ◌≢◌, ◌↔◌, inl, inr}
use Rattle.std.specs.List.Sorted.{IsStrictlyIncreasing}
use Rattle.std.proofs.lemmas.List.{take_all}
use Rattle.lattice.specs.Words.{has, value, Family, divides, IsFamily, numbers_below, family_where, combine, union_of, Vanishes, IsGreatest}
use Rattle.lattice.specs.Words.{Fits, IsStandard, IsLead, standard_of}
use Rattle.lattice.proofs.Polynomials.{has-nil, has-cons, has_none, has_cases, has-append, ascends-nil, ascends-cons, ascends-append, count}
use Rattle.lattice.proofs.Polynomials.{count-append, value-count, has_head, has_tail, has-family_where, has-family_where_below}
use Rattle.lattice.proofs.Polynomials.{family_where_has, value_cases, divides_le, length_where, family_where-agree, All-has, All-from_has}
use Rattle.lattice.proofs.Polynomials.{has-combine, standard_more, below_bound, IsFamily-family_where, divides_trans, standard_divisor}
use Rattle.lattice.proofs.Polynomials.{standard_by_recursion, has-numbers_below, length-standard_of, standard_from_count, divides_self}
use Rattle.lattice.proofs.Polynomials.{any_either, any_kept, counts_none, reverse_cons}
use Rattle.std.specs.List.{All, list_any, zip}
use Rattle.std.proofs.lemmas.Bool.{false≢true, or_cases, and_parts, false_from_ne_true, or_parts, cases_Bool, cases_eq, true_from_ne_false}
use Rattle.std.proofs.lemmas.Bool.{not-true, not-false, eq-eqb, eqb-true, ltb-true, lt-ltb}
use Rattle.std.proofs.lemmas.List.Elements.{All-head, All-tail}
use Rattle.std.proofs.lemmas.List.Folds.{list_any_more, list_any-append, list_any_none}
use Rattle.std.proofs.lemmas.List.Sums.{length-filter, sum_by_more, sum_by_push}
use Rattle.std.proofs.lemmas.Option.{slice_get-get_or}
use Rattle.std.proofs.lemmas.Slice.Zip.{length-zip, get_or-zip}
use Rattle.cert_check.specs.declared.care.Care.{Care}
use Rattle.cert_check.specs.Marks.{MarksCare, CountsDivisors}
use Rattle.cert_check.specs.Faults.{misses, is_one_in, is_divided, miscounts}
use Rattle.std.proofs.lemmas.Grind.{common_steps}

pub has-reverse : (xs : List ℕ) (x : ℕ) → has (reverse xs) x ≡ has xs x
has-reverse [] x = refl
has-reverse (y ∷ xs) x = grind (arith, reverse_cons, has-append, has-cons, has-nil, has-reverse xs x)

-- strictly descending terms below a limit make a family below it
pub ascends_below : (m : ℕ) (ms : List ℕ) → IsStrictlyIncreasing (reverse ms) → ((x : ℕ) → has ms x ≡ true → x < m) →
    IsStrictlyIncreasing (reverse (m ∷ ms))
ascends_below m ms up below =
    subst IsStrictlyIncreasing (sym (reverse_cons m ms))
    (ascends-append (reverse ms) (m ∷ []) up (ascends-cons m [] (λ y h. has_none y h) ascends-nil)
    (λ x y h k. ⊎_elim (λ e. let less : x < m = below x (sym (has-reverse ms x) ∙ h) in omega arith)
    (λ n. has_none y n) (has_cases m [] y k)))

count-reverse : (p : List ℕ) (a : ℕ) → count (reverse p) a ≡ count p a
count-reverse [] a = refl
count-reverse (m ∷ p) a = rw reverse_cons (omega (arith, count-append (reverse p) (m ∷ []) a, count-append (m ∷ []) p a, count-reverse p a))

pub value-reverse : (p : List ℕ) (a : ℕ) → value (reverse p) a ≡ value p a
value-reverse p a = value-count (reverse p) a ∙ (ap (λ (n : ℕ). n % 2) (count-reverse p a) ∙ sym (value-count p a))

-- ==== Tests and counts over all points, by tables over them.

-- ---- lists, by their places

-- a test of each element, as one of its place: whether one passes, and how many do
module _ {X : Type 0} (test : X → Bool) (at : ℕ → Bool) (xs : List X) (d : X) where
  one_more : (n : ℕ) (ks : List ℕ) → n < length xs → test (get_or xs n d) ≡ at n
      → (list_any test (take n xs) ≡ list_any at ks) × (count_by test (take n xs) ≡ count_by at ks)
      → (list_any test (take (n + 1) xs) ≡ list_any at (ks ++ n ∷ [])) × (count_by test (take (n + 1) xs) ≡ count_by at (ks ++ n ∷ []))
  one_more n ks within same before = search (rules, arith, list_any_more, list_any-append, sum_by_more, sum_by_push)

  by_places : (n : ℕ) → n ≤ length xs → ((a : ℕ) → a < n → test (get_or xs a d) ≡ at a)
      → (list_any test (take n xs) ≡ list_any at (numbers_below n)) × (count_by test (take n xs) ≡ count_by at (numbers_below n))
  unfolding numbers_below
  by_places zero most same = (refl, refl)
  by_places (suc n) most same = rw add-one at
      (one_more n (numbers_below n) most (same n (omega arith)) (by_places n (omega arith) (λ a below. same a (omega arith))))

  by_points : (size : ℕ) → length xs ≡ size → ((a : ℕ) → a < size → test (get_or xs a d) ≡ at a)
      → (list_any test xs ≡ list_any at (numbers_below size)) × (count_by test xs ≡ count_by at (numbers_below size))
  by_points size is same = rw (take_all size xs (omega arith)) at (by_places size (omega arith) same)

any_where : (n : ℕ) (test p : ℕ → Bool) → list_any p (family_where n test) ≡ list_any (λ x. test x && p x) (numbers_below (2 ^ n))
unfolding family_where
any_where n test p = any_kept p test (numbers_below (2 ^ n))

any_family : (n : ℕ) (f : Family) (p : ℕ → Bool) → IsFamily n f → list_any p f ≡ list_any (λ x. has f x && p x) (numbers_below (2 ^ n))
any_family n f p is = cc (family_where_has n f is, any_where n (has f) p)

-- ---- care points

no_care : Care
no_care = record { zero = false; one = false }

module _ (n : ℕ) (zeros ones : Family) (care : List Care) (marks : MarksCare n zeros ones care) where
  care_at : (a : ℕ) → a < 2 ^ n → ((get_or care a no_care).zero ≡ has zeros a) × ((get_or care a no_care).one ≡ has ones a)
  care_at a below = marks.each a (get_or care a no_care) (slice_get-get_or care a no_care (omega (arith, marks.size)))

  pub care_count : length (filter (λ (c : Care). c.zero || c.one) care) ≡ length (union_of n zeros ones)
  unfolding combine
  care_count = length-filter _ care ∙ ((by_points _ (λ a. has zeros a || has ones a) care no_care (2 ^ n) marks.size
      (λ a below. ap₂ (λ (x y : Bool). x || y) (care_at a below).0 (care_at a below).1)).1 ∙ sym (length_where n _))

  module _ (terms : Family) (counts : List ℕ) (counted : CountsDivisors n terms counts) where
    -- a test of each point's entries, as one of the point
    by_pairs : (test : Care × ℕ → Bool) (at : ℕ → Bool) → ((a : ℕ) → a < 2 ^ n → (c : Care) (k : ℕ) → c.zero ≡ has zeros a
        → c.one ≡ has ones a → (k % 2 == 1) ≡ (value terms a == 1) → test (c, k) ≡ at a)
        → list_any test (zip care counts) ≡ list_any at (numbers_below (2 ^ n))
    unfolding value
    by_pairs test at same = (by_points test at (zip care counts) (no_care, 0) (2 ^ n)
        (let e = length-zip care counts in omega (arith, e, marks.size, counted.size))
        (λ a below. rw (get_or-zip care counts a (no_care, 0) (omega (arith, marks.size)) (omega (arith, counted.size)))
        (same a below _ _ (care_at a below).0 (care_at a below).1 (ap (λ (c : ℕ). c % 2 == 1) (counted.each a below))))).0

    pub misses_by_table : list_any (λ (p : Care × ℕ). cond (p.1 % 2 == 1) p.0.zero p.0.one) (zip care counts) ≡ misses zeros ones terms
    unfolding misses
    misses_by_table =
        by_pairs _ (λ a. (has zeros a && value terms a == 1) || (has ones a && value terms a == 0))
        (λ a below c k zero one odd. grind (arith, value_cases terms a))
        ∙ sym (rw (any_family n zeros _ marks.zeros_below, any_family n ones _ marks.ones_below) (any_either _ _ (numbers_below (2 ^ n))))

    pub ones_by_table : list_any (λ (p : Care × ℕ). p.1 % 2 == 1 && (p.0.zero || p.0.one)) (zip care counts) ≡
        is_one_in (union_of n zeros ones) terms
    unfolding is_one_in combine
    ones_by_table = search (rules, arith, by_pairs, any_where)

-- ---- what greatest monomials divide

pub any_from : (p : ℕ → Bool) (xs : List ℕ) → list_any p xs ≡ true → (x : ℕ) × (has xs x ≡ true) × (p x ≡ true)
any_from p [] some = absurd (false≢true some)
any_from p (x ∷ xs) some = grind (arith, has_head, has_tail, any_from p xs, or_cases)

pub any_to : (p : ℕ → Bool) (xs : List ℕ) (x : ℕ) → has xs x ≡ true → p x ≡ true → list_any p xs ≡ true
any_to p [] x h passes = has_none x h
any_to p (y ∷ xs) x h passes = grind (arith, has_cases y xs x h, any_to p xs x)

-- the numbers below 2 ^ n that are among the tops divide a point where one of the tops does
divided_where : (n : ℕ) (tops : List ℕ) (a : ℕ) → a < 2 ^ n → list_any (λ t. divides t a) (family_where n (has tops)) ≡ is_divided tops a
unfolding is_divided
divided_where n tops a below =
    let p = λ (t : ℕ). divides t a in let kept = family_where n (has tops) in
    grind (arith, any_from p, any_to p, and_parts, has-family_where n (has tops), has-family_where_below n (has tops), divides_le)

module _ (n : ℕ) (tops : List ℕ) (counts : List ℕ) (counted : CountsDivisors n (family_where n (has tops)) counts)
  where
    free_at : (a : ℕ) → a < 2 ^ n → (get_or counts a 0 == 0) ≡ not (is_divided tops a)
    free_at a below =
        rw (counted.each a below, counts_none (λ m. divides m a) (family_where n (has tops))) (ap not (divided_where n tops a below))

    pub free_count : length (filter (λ c. c == 0) counts) ≡ length (family_where n (λ m. not (is_divided tops m)))
    free_count = length-filter _ counts ∙ ((by_points (λ c. c == 0) _ counts 0 (2 ^ n) counted.size free_at).1 ∙ sym (length_where n _))

    pub reducible_by_table : (terms : List ℕ) → All (λ m. m < length counts) terms → list_any
        (λ m. not (get_or counts m 0 == 0)) terms ≡ list_any (is_divided tops) terms
    reducible_by_table [] below = refl
    reducible_by_table (t ∷ terms) below =
        let rest = reducible_by_table terms (All-tail (λ m. m < length counts) t terms below) in
        grind (arith, free_at t, counted.size, All-head (λ m. m < length counts) t terms below, rest)

-- ---- the table of a polynomial's terms

pub is_one-reverse : (points : Family) (terms : List ℕ) → is_one_in points (reverse terms) ≡ is_one_in points terms
unfolding is_one_in
is_one-reverse points terms = simp value-reverse

pub misses-reverse : (zeros ones : Family) (terms : List ℕ) → misses zeros ones (reverse terms) ≡ misses zeros ones terms
unfolding misses
misses-reverse zeros ones terms = simp value-reverse

-- the table of the terms, in whatever order, is that of the polynomial
pub terms_counted : {n : ℕ} {terms seen counts table : List ℕ} → IsFamily n (reverse terms) → seen ≡ terms → table ≡ counts
    → CountsDivisors n (family_where n (has seen)) counts → CountsDivisors n (reverse terms) table
terms_counted {n} {terms} family seen_is table_is counted =
    let same = family_where-agree n _ _ (λ x below. sym (has-reverse terms x)) ∙ sym (family_where_has n (reverse terms) family) in
    rw (table_is, ← same, ← seen_is) counted

-- ==== Tests of values and what they say, and the leads of a list of points.

pub any_none : (p : ℕ → Bool) (xs : List ℕ) → ((x : ℕ) → has xs x ≡ true → p x ≡ false) → list_any p xs ≡ false
any_none p xs none = list_any_none p xs (All-from_has (λ x. p x ≡ false) xs none)

pub none_of : (p : ℕ → Bool) (xs : List ℕ) → list_any p xs ≡ false → (x : ℕ) → has xs x ≡ true → p x ≡ false
none_of p xs none x h = grind (arith, any_to p xs x h)

module _ (terms : List ℕ) where
  is_zero_at : (a : ℕ) → ((value terms a == 1) ≡ false) ↔ (value (reverse terms) a ≡ 0)
  is_zero_at a = (λ e. grind (arith, value-reverse terms a, value_cases terms a), λ e. grind (arith, value-reverse terms a))

  is_one_at : (a : ℕ) → ((value terms a == 0) ≡ false) ↔ (value (reverse terms) a ≡ 1)
  is_one_at a = (λ e. grind (arith, value-reverse terms a, value_cases terms a), λ e. grind (arith, value-reverse terms a))

  -- the polynomial of the terms vanishes where it is 1 at none of the points
  pub vanishes_iff : (points : Family) → (is_one_in points terms ≡ false) ↔ Vanishes (reverse terms) points
  unfolding is_one_in
  vanishes_iff points = (
    λ none. All-from_has _ points (λ a h. (is_zero_at a).0 (none_of _ points none a h)),
    λ van. any_none _ points (λ a h. (is_zero_at a).1 (All-has (λ b. value (reverse terms) b ≡ 0) points a van h)),
  )

  -- and it fits where it misses no value
  pub fits_iff : (zeros ones : Family) → (misses zeros ones terms ≡ false) ↔ Fits zeros ones (reverse terms)
  unfolding misses is_one_in
  fits_iff zeros ones = (
    λ none. grind (arith, common_steps, or_parts, All-from_has, is_zero_at, none_of, is_one_at),
    λ fits. rw ((vanishes_iff zeros).1 fits.zero_at) (any_none _ ones
        (λ a h. (is_one_at a).1 (All-has (λ b. value (reverse terms) b ≡ 1) ones a fits.one_at h))),
  )

-- ---- standard monomials of two lists of points, and of their union

module _ (n : ℕ) (zeros ones : Family) (zf : IsFamily n zeros) (of : IsFamily n ones) where
  has-union : (a : ℕ) → has (union_of n zeros ones) a ≡ has (zeros ++ ones) a
  has-union a = has-combine (λ x y. x || y) n zeros ones a refl zf of ∙ sym (has-append zeros ones a)

  pub standard_in_both : (m : ℕ) → IsStandard n (union_of n zeros ones) m ↔ IsStandard n (zeros ++ ones) m
  standard_in_both m = (standard_more n _ _ m (λ a h. sym (has-union a) ∙ h), standard_more n _ _ m (λ a h. has-union a ∙ h))

-- ==== Leads: they do not divide one another, and one of them divides each monomial that is not standard

divides_antisym : (a b : ℕ) → divides a b ≡ true → divides b a ≡ true → a ≡ b
divides_antisym a b ab ba = omega (arith, divides_le a b ab, divides_le b a ba)

-- a divisor that fails a test and whose divisors pass it
first_divisor : (p : ℕ → Bool) (b m : ℕ) → m < b → p m ≡ false
    → (t : ℕ) × (p t ≡ false) × (divides t m ≡ true) × ((d : ℕ) → divides d t ≡ true → d ≢ t → p d ≡ true)
first_divisor p zero m less fails = absurd (omega arith)
first_divisor p (suc b) m less fails = elim (cases_Bool (list_any (λ d. divides d m && not (p d)) (numbers_below m))) [
  | inl some ↦
      let from = any_from (λ d. divides d m && not (p d)) (numbers_below m) some in
      let both = and_parts (divides from.0 m) (not (p from.0)) from.2 in
      let first = first_divisor p b from.0 (grind (arith, ltb-true, has-numbers_below, from.1)) (not-true _ both.1) in
      (first.0, first.1, divides_trans first.0 from.0 m first.2 both.0, first.3)
  | inr none ↦
      let past = none_of (λ d. divides d m && not (p d)) (numbers_below m) none in
      (m, fails, divides_self m, λ d div ne. grind (arith, past d, has-numbers_below m d, lt-ltb d m, divides_le d m div))
]

module _ (n : ℕ) (points : Family) (f : IsFamily n points) where
  -- two leads of which one divides the other are the same
  pub leads_apart : (s t : ℕ) → IsLead n points s → IsLead n points t → divides s t ≡ true → s ≡ t
  leads_apart s t ls lt div = ⊎_elim (λ e. e) (λ (ne : s ≢ t). absurd (ls.not_standard (lt.least s div ne))) (cases_eq s t)

  is_std : (m : ℕ) → (has (standard_of n points) m ≡ true) ↔ ((m < 2 ^ n) × IsStandard n points m)
  is_std = (standard_by_recursion n points f).1

  -- a lead divides each monomial that is not standard
  lead_below : (m : ℕ) → m < 2 ^ n → has (standard_of n points) m ≡ false → (t : ℕ) × (t < 2 ^ n) × IsLead n points t × (divides t m ≡ true)
  lead_below m below other =
      let first = first_divisor (has (standard_of n points)) (suc m) m (omega arith) other in
      let le = divides_le first.0 m first.2 in
      let small : first.0 < 2 ^ n = omega arith in (
        first.0,
        small,
        record {
          not_standard = λ std. false≢true (sym first.1 ∙ (is_std first.0).1 (small, std));
          least = λ d div ne. ((is_std d).0 (first.3 d div ne)).1;
        },
        first.2,
      )

  -- ---- monomials that no top divides, where these are the leads

  module _ (tops : List ℕ) (all : (m : ℕ) → (has tops m ≡ true) ↔ ((m < 2 ^ n) × IsLead n points m)) where
    pub undivided_is_standard : (m : ℕ) → m < 2 ^ n → IsStandard n points m → is_divided tops m ≡ false
    unfolding is_divided
    undivided_is_standard m below std = any_none (λ t. divides t m) tops (λ t h. false_from_ne_true (divides t m)
        (λ div. ((all t).0 h).1.not_standard (standard_divisor n points f.below m t below div std)))

    standard_is_undivided : (m : ℕ) → m < 2 ^ n → is_divided tops m ≡ false → has (standard_of n points) m ≡ true
    unfolding is_divided
    standard_is_undivided m below none = true_from_ne_false _ (λ other. let lead = lead_below m below other in
        false≢true (sym (none_of (λ t. divides t m) tops none lead.0 ((all lead.0).1 (lead.1, lead.2))) ∙ lead.3))

    pub counts_right : miscounts n points tops ≡ false
    unfolding miscounts
    counts_right = ap not (eq-eqb (length (family_where n (λ m. not (is_divided tops m)))) (length points)
        (ap length (family_where-agree n _ (has (standard_of n points))
        (λ m below. grind (arith, undivided_is_standard m below, is_std m, standard_is_undivided m below))
        ∙ sym (family_where_has n _ (standard_by_recursion n points f).0)) ∙ length-standard_of n points f))

  -- ---- monomials that no top divides, where there are as many as points

  module _ (tops : List ℕ) (elements : (t : ℕ) → has tops t ≡ true → (t < 2 ^ n) ×
      ((p : List ℕ) × IsFamily n p × IsGreatest p t × Vanishes p points)) (counted : miscounts n points tops ≡ false)
    where
      pub standard_undivided : (m : ℕ) → m < 2 ^ n → is_divided tops m ≡ false → IsStandard n points m
      unfolding miscounts is_divided
      standard_undivided m below none =
          let rest = family_where n (λ m. not (is_divided tops m)) in
          let family = IsFamily-family_where n (λ m. not (is_divided tops m)) in
          ((standard_from_count n points tops rest f family elements (λ k. (
            λ h. let small = below_bound n rest k family h in
                (small, none_of (λ t. divides t k) tops (not-true _ (sym (has-family_where_below n _ k small) ∙ h))),
            λ c. has-family_where_below n _ k c.0 ∙ ap not (any_none (λ t. divides t k) tops c.1),
          )) (eqb-true _ _ (not-false _ counted)) m).0 (has-family_where_below n _ m below ∙ ap not none)).1

      -- where no top divides another one, they are the leads
      pub tops_are_leads : ((s t : ℕ) → has tops s ≡ true → has tops t ≡ true → divides s t ≡ true → s ≡ t)
          → (m : ℕ) → (has tops m ≡ true) ↔ ((m < 2 ^ n) × IsLead n points m)
      unfolding is_divided
      tops_are_leads apart m = (
        λ h. let e = elements m h in (
          e.0,
          record {
            not_standard = λ std. std e.1.0 e.1.1 e.1.2 e.1.3;
            least = λ d div ne. let le = divides_le d m div in let below = e.0 in standard_undivided d (omega arith)
                (any_none (λ t. divides t d) tops (λ s i. false_from_ne_true (divides s d) (λ by. ne (divides_antisym d m div
                (subst (λ (t : ℕ). divides t d ≡ true) (apart s m i h (divides_trans s d m by div)) by)))));
          },
        ),
        λ c.
            let from = any_from (λ t. divides t m) tops (true_from_ne_false _ (λ none. c.1.not_standard (standard_undivided m c.0 none))) in
            let e = elements from.0 from.1 in
            ⊎_elim (λ (same : from.0 ≡ m). subst (λ (t : ℕ). has tops t ≡ true) same from.1)
            (λ (ne : from.0 ≢ m). absurd (c.1.least from.0 from.2 ne e.1.0 e.1.1 e.1.2 e.1.3)) (cases_eq from.0 m),
      )
