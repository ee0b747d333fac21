-- The first check that fails, the verdicts in turn, and that an answer is right exactly where no check of it fails.
use Rattle.std.proofs.Common.{◌≡◌, ℕ, suc, ◌-◌, ◌<◌, ◌≤◌, Bool, true, false, ltb, List, [], ◌∷◌, ◌++◌, length, get_or, reverse, refl, sym}
use Rattle.std.proofs.Common.{ap, ◌∙◌, arith, ◌+◌, ◌^◌, take, drop, map, cond, ◌||◌, subst, ⊎_elim, append_assoc, append-nil, ◌↔◌}
use Rattle.std.proofs.Common.{zero, Some, slice_get, rules}
use Rattle.std.specs.List.{slice_get, All, list_any, AllZip}
use Rattle.std.specs.Option.{option_map_or}
use Rattle.std.proofs.lemmas.List.{take_more, drop_all, flat_map_more}
use Rattle.std.proofs.lemmas.List.Elements.{All-nil, All-head, All-tail, All-append, All-take}
use Rattle.lattice.specs.Words.{Family, IsFamily, care_zeros, care_ones, care_set, divides, has, union_of, IsGreatest, Vanishes, IsStandard}
use Rattle.lattice.specs.Words.{IsBasisElement, IsReducedBasis, IsLeast, is_zero, is_one}
use Rattle.pla_reader.specs.Reading.{Description}
use Rattle.lattice.proofs.Polynomials.{terms_below as below_all, has_none, has_head, has_cases, has-append, All-has, All-from_has}
use Rattle.lattice.proofs.Polynomials.{ascends-nil, ascends-cons, ascends_tail, ascends_head, ascends-append, divides_self, has_tail}
use Rattle.lattice.proofs.Polynomials.{below_bound, IsLeast-standard, IsLeast-from_standard, IsFamily-combine, drop_next, reverse_cons}
use Rattle.cert_check.specs.declared.refusal.Fault.{Fault}
use Rattle.cert_check.specs.declared.refusal.Verdict.TheVariants.{Yes, No}
use Rattle.cert_check.specs.Faults.{Check, first_verdict, misses, is_comparable, is_below_last, greatest_of, element_checks, basis_checks}
use Rattle.cert_check.specs.Faults.{is_divided, miscounts, reduced_checks, output_checks, checks_from, verdict_on}
use Rattle.cert_check.specs.declared.answer.Given.{Given}
use Rattle.cert_check.specs.declared.refusal.Stop.{Stop}
use Rattle.cert_check.specs.Parts.{Fails}
use Rattle.cert_check.specs.declared.answer.GivenOutput.{GivenOutput}
use Rattle.cert_check.specs.declared.refusal.Fault.TheVariants.{Count, Reducible}
use Rattle.cert_check.specs.Right.{polynomial, IsOutputOver, IsAnswerFor, IsRightFor, IsRight}
use Rattle.std.specs.List.Sorted.{IsStrictlyIncreasing}
use Rattle.std.proofs.lemmas.Bool.{or_parts, ltb-false, false≢true, le-ltb}
use Rattle.cert_check.specs.declared.refusal.Verdict.{Verdict}
use Rattle.cert_check.proofs.Points.{has-reverse, none_of, any_none, vanishes_iff, fits_iff, standard_in_both, leads_apart}
use Rattle.cert_check.proofs.Points.{undivided_is_standard, counts_right, standard_undivided, tops_are_leads}
use Rattle.cert_check.proofs.Marked.{points_family}
use Rattle.cert_check.specs.declared.refusal.Stop.TheVariants as stop

pub goes_past : (test : Bool) (line : ℕ) (why : Fault) (rest : List Check) → test ≡ false → first_verdict
    ((test, line, why) ∷ rest) ≡ first_verdict rest
unfolding first_verdict
goes_past test line why rest passes = rw passes refl

pub none_failed : first_verdict [] ≡ Yes
unfolding first_verdict
none_failed = refl

-- what fails in front of other checks, and what does not
pub fails_in_front : (checks rest : List Check) (e : Stop) → Fails e (first_verdict checks) → Fails e (first_verdict (checks ++ rest))
unfolding first_verdict
fails_in_front checks rest stop.Memory fails = tt
fails_in_front [] rest (stop.Fault line why) fails = cc
fails_in_front (check ∷ checks) rest (stop.Fault line why) fails = grind (arith, fails, fails_in_front checks rest (stop.Fault line why))

pub fine_in_front : (checks rest : List Check) → first_verdict checks ≡ Yes → first_verdict (checks ++ rest) ≡ first_verdict rest
unfolding first_verdict
fine_in_front [] rest fine = refl
fine_in_front (check ∷ checks) rest fine = grind (arith, fine, fine_in_front checks rest)

-- ---- the greatest monomial of an element

-- whether there is none, or it compares with one of the earlier ones; whether it is less than the last of them
abbrev pub has_no_lead : (earlier : List ℕ) → (terms : List ℕ) → Bool
has_no_lead earlier terms = option_map_or (is_comparable earlier) (slice_get terms 0) true

abbrev pub is_out_of_order : (earlier : List ℕ) → (terms : List ℕ) → Bool
is_out_of_order earlier terms = option_map_or (is_below_last earlier) (slice_get terms 0) false

pub no_lead_of_zero : (earlier terms : List ℕ) → length terms < 1 → has_no_lead earlier terms ≡ true
no_lead_of_zero earlier [] none = refl
no_lead_of_zero earlier (top ∷ tail) none = absurd (omega arith)

pub lead_tests : (earlier terms : List ℕ) (top : ℕ) → 1 ≤ length terms → top ≡ get_or terms 0 top
    → (has_no_lead earlier terms ≡ is_comparable earlier top) × (is_out_of_order earlier terms ≡ is_below_last earlier top)
lead_tests earlier [] top some is = absurd (omega arith)
lead_tests earlier (t ∷ tail) top some is = (ap (is_comparable earlier) (sym is), ap (is_below_last earlier) (sym is))

pub below_last_of_none : (others : List ℕ) (m : ℕ) → length others < 1 → is_below_last others m ≡ false
unfolding is_below_last
below_last_of_none [] m none = refl
below_last_of_none (t ∷ others) m none = absurd (omega arith)

pub below_last_of : (others : List ℕ) (m last : ℕ) → 1 ≤ length others → last ≡ get_or others (length others - 1) last
    → is_below_last others m ≡ ltb m last
unfolding is_below_last
below_last_of [] m last some is = absurd (omega arith)
below_last_of (t ∷ []) m last some is = grind (arith, is)
below_last_of (t ∷ u ∷ others) m last some is =
    let e : length (t ∷ u ∷ others) - 1 ≡ suc (length (u ∷ others) - 1) = omega arith in
    below_last_of (u ∷ others) m last (omega arith) (is ∙ ap (λ (k : ℕ). get_or (t ∷ u ∷ others) k last) e)

-- ==== The verdict on one element, and on elements in turn

-- ---- elements in turn

pub tops_next : (elements : List Given) (i top : ℕ) (element : Given) (tops new : List ℕ) → i < length elements →
    element ≡ get_or elements i element → tops ≡ greatest_of (take i elements) → take 1 element.terms ≡ top ∷ []
    → new ≡ tops ++ top ∷ [] → new ≡ greatest_of (take (i + 1) elements)
unfolding greatest_of
tops_next elements i top element tops new within is so_far here new_is =
    cc (take_more elements i element within, flat_map_more (λ (e : Given). take 1 e.terms) [] (take i elements) element)

module _ (points : Family) (elements : List Given) (i : ℕ) (element : Given) (earlier : List ℕ)
    (within : i < length elements) (is : element ≡ get_or elements i element)
    (so_far : first_verdict (basis_checks points [] elements) ≡ first_verdict (basis_checks points earlier (drop i elements))) where
  here_first : first_verdict (basis_checks points [] elements) ≡ first_verdict
      (element_checks points earlier element ++ basis_checks points (earlier ++ take 1 element.terms) (drop (i + 1) elements))
  unfolding basis_checks
  here_first = so_far ∙ ap (λ (es : List Given). first_verdict (basis_checks points earlier es)) (drop_next elements i element within is)

  pub elements_fail : (e : Stop) → Fails e (first_verdict (element_checks points earlier element)) → Fails e
      (first_verdict (basis_checks points [] elements))
  elements_fail e fails = rw here_first (fails_in_front (element_checks points earlier element) _ e fails)

  pub elements_next : (top : ℕ) (new : List ℕ) → first_verdict (element_checks points earlier element) ≡ Yes →
      take 1 element.terms ≡ top ∷ [] → new ≡ earlier ++ top ∷ [] → first_verdict
      (basis_checks points [] elements) ≡ first_verdict (basis_checks points new (drop (i + 1) elements))
  elements_next top new fine here new_is =
      here_first ∙ (fine_in_front (element_checks points earlier element) _ fine ∙ rw (here, ← new_is) refl)

pub elements_fine : (points : Family) (elements : List Given) (i : ℕ) (earlier : List ℕ) → first_verdict
    (basis_checks points [] elements) ≡ first_verdict (basis_checks points earlier (drop i elements)) → length elements
    ≤ i → first_verdict (basis_checks points [] elements) ≡ Yes
unfolding basis_checks
elements_fine points elements i earlier so_far whole = grind (arith, drop_all, none_failed)

pub no_tops : (tops : List ℕ) → tops ≡ [] → tops ≡ greatest_of []
unfolding greatest_of
no_tops tops none = none

-- ==== The verdict on what can be reduced, on an output, and on outputs in turn

pub tail_below : (n : ℕ) (terms seen : List ℕ) → All (λ m. m < n) terms → seen ≡ drop 1 terms → All (λ m. m < n) seen
tail_below n [] seen all is = rw is all
tail_below n (t ∷ terms) seen all is = rw is (All-tail (λ m. m < n) t terms all)

-- the check of an element but for its greatest monomial
abbrev pub tail_check : List ℕ → Given → Check
tail_check tops element = (list_any (is_divided tops) (drop 1 element.terms), element.line, Reducible)

module _ (tops : List ℕ) (given : GivenOutput) (i : ℕ)
    (so_far : first_verdict (reduced_checks tops given) ≡ first_verdict (map (tail_check tops) (drop i given.basis))) where
  pub tail_here : (element : Given) → i < length given.basis → element ≡ get_or given.basis i element
      → first_verdict (reduced_checks tops given)
      ≡ cond (list_any (is_divided tops) (drop 1 element.terms)) (No element.line Reducible)
      (first_verdict (map (tail_check tops) (drop (i + 1) given.basis)))
  unfolding first_verdict
  tail_here element within is = so_far ∙ rw (drop_next given.basis i element within is) refl

  pub tails_fine : length given.basis ≤ i → first_verdict (reduced_checks tops given) ≡ Yes
  tails_fine whole = so_far ∙ rw (drop_all i given.basis whole) none_failed

-- ---- one output

module _ (n : ℕ) (zeros ones points : Family) (given : GivenOutput) (fits : misses zeros ones given.poly.terms ≡ false) where
  -- the checks behind those of the values and of the elements
  abbrev count_checks : List Check
  count_checks = (miscounts n points (greatest_of given.basis), given.poly.line, Count) ∷ reduced_checks (greatest_of given.basis) given

  behind_value : first_verdict (output_checks n zeros ones points given) ≡ first_verdict
      (basis_checks points [] given.basis ++ count_checks)
  unfolding first_verdict output_checks
  behind_value = rw fits refl

  pub basis_fails : (e : Stop) → Fails e (first_verdict (basis_checks points [] given.basis))
      → Fails e (first_verdict (output_checks n zeros ones points given))
  basis_fails e fails = rw behind_value (fails_in_front (basis_checks points [] given.basis) count_checks e fails)

  pub behind_basis : (tops : List ℕ) → first_verdict (basis_checks points [] given.basis) ≡ Yes → tops ≡ greatest_of given.basis
      → first_verdict (output_checks n zeros ones points given)
      ≡ cond (miscounts n points tops) (No given.poly.line Count) (first_verdict (reduced_checks tops given))
  unfolding first_verdict
  behind_basis tops fine is = behind_value ∙ (fine_in_front (basis_checks points [] given.basis) count_checks fine ∙ rw (← is) refl)

-- the greatest monomials lie below 2 ^ n
greatest_below : (n : ℕ) (elements : List Given) → All (λ e. IsFamily n (polynomial e)) elements → All
    (λ m. m < 2 ^ n) (greatest_of elements)
unfolding greatest_of
greatest_below n [] families = All-nil (λ m. m < 2 ^ n)
greatest_below n (e ∷ elements) families = All-append (λ m. m < 2 ^ n) (take 1 e.terms) (greatest_of elements)
    (All-take (λ m. m < 2 ^ n) 1 e.terms (below_all n e.terms (All-head (λ d. IsFamily n (polynomial d)) e elements families)))
    (greatest_below n elements (All-tail (λ d. IsFamily n (polynomial d)) e elements families))

pub tops_below : (n : ℕ) (elements seen : List Given) (tops table : List ℕ) → All (λ e. IsFamily n (polynomial e))
    elements → table ≡ tops → tops ≡ greatest_of seen → seen ≡ elements → All (λ m. m < 2 ^ n) table
tops_below n elements seen tops table families table_is tops_are seen_are = grind (arith, greatest_below n elements families)

-- the terms of polynomials lie below the size of a table
pub terms_within : {n size : ℕ} {terms seen : List ℕ} → IsFamily n (reverse terms) → seen ≡ terms → size ≡ 2 ^ n → All (λ m. m < size) seen
terms_within {n} {terms = terms} family seen_is is = rw (seen_is, is) (below_all n terms family)

pub elements_within : (n size : ℕ) (elements : List Given) → All (λ e. IsFamily n (polynomial e)) elements → size ≡ 2
    ^ n → All (λ e. All (λ m. m < size) e.terms) elements
elements_within n size elements families is i d within = terms_within (families i d within) refl is

-- ---- outputs in turn

module _ (p : Description) (answer : List GivenOutput) (i : ℕ)
    (so_far : verdict_on p answer ≡ first_verdict (checks_from p (i + 1) (drop i answer))) where
  module _ (given : GivenOutput) (output : ℕ) (within : i < length answer) (is : given ≡ get_or answer i given)
      (number : output ≡ i + 1) where
    abbrev here : List Check
    here = output_checks p.inputs (care_zeros p.inputs p.kind p.rows output) (care_ones p.inputs p.kind p.rows output)
        (care_set p.inputs p.kind p.rows output) given

    output_here : verdict_on p answer ≡ first_verdict (here ++ checks_from p (output + 1) (drop (i + 1) answer))
    unfolding checks_from
    output_here = rw (so_far, drop_next answer i given within is, number) refl

    pub output_fails : (e : Stop) → Fails e (first_verdict here) → Fails e (verdict_on p answer)
    output_fails e fails = rw output_here (fails_in_front here _ e fails)

    pub output_fine : first_verdict here ≡ Yes → verdict_on p answer ≡ first_verdict (checks_from p (i + 1 + 1) (drop (i + 1) answer))
    output_fine fine = rw (output_here, fine_in_front here _ fine, number) refl

  pub outputs_fine : length answer ≤ i → verdict_on p answer ≡ Yes
  unfolding checks_from
  outputs_fine whole = grind (arith, drop_all, none_failed)

-- ==== An output, and so an answer, is right exactly where no check of it fails.

-- ---- where no check fails

pub passed : (test : Bool) (line : ℕ) (why : Fault) (rest : List Check) → first_verdict ((test, line, why) ∷ rest) ≡
    Yes → (test ≡ false) × (first_verdict rest ≡ Yes)
unfolding first_verdict
passed test line why rest fine = grind (arith, fine)

pub passed_both : (checks rest : List Check) → first_verdict (checks ++ rest) ≡ Yes → (first_verdict checks ≡ Yes) ×
    (first_verdict rest ≡ Yes)
unfolding first_verdict
passed_both [] rest fine = (refl, fine)
passed_both (check ∷ checks) rest fine = grind (arith, fine, passed_both checks rest)

-- ---- greatest monomials that are apart, ascending

record AreSpread (tops : List ℕ) : Type 0 where
  ascends : IsStrictlyIncreasing tops
  apart : (s t : ℕ) → has tops s ≡ true → has tops t ≡ true → divides s t ≡ true → s ≡ t

meets_none : (tops : List ℕ) (m s : ℕ) → is_comparable tops m ≡ false → has tops s ≡ true → (divides s m ≡ false) × (divides m s ≡ false)
unfolding is_comparable
meets_none tops m s none i = or_parts (divides s m) (divides m s) (none_of (λ t. divides t m || divides m t) tops none s i)

-- what is not below the last of an ascending list is not below any of them
not_below : (tops : List ℕ) (m : ℕ) → IsStrictlyIncreasing tops → is_below_last tops m ≡ false → (s : ℕ) → has tops s ≡ true → s ≤ m
unfolding is_below_last
not_below [] m up none s i = has_none s i
not_below (t ∷ []) m up none s i = grind (arith, ltb-false m t, none, has_cases t [] s i, has_none {P = ⊥} s)
not_below (t ∷ u ∷ tops) m up none s i =
    let later = not_below (u ∷ tops) m (ascends_tail t (u ∷ tops) up) none in
    grind (arith, later, ascends_head t (u ∷ tops) up u, has_head u tops, has_cases t (u ∷ tops) s i)

one_of : (m s : ℕ) → has (m ∷ []) s ≡ true → m ≡ s
one_of m s i = ⊎_elim (λ e. e) (λ h. has_none s h) (has_cases m [] s i)

spread_more : (tops : List ℕ) (m : ℕ) → AreSpread tops → is_comparable tops m ≡ false → is_below_last tops m ≡ false →
    AreSpread (tops ++ m ∷ [])
spread_more tops m spread none order = record {
  ascends = ascends-append tops (m ∷ []) spread.ascends (ascends-cons m [] (λ y h. has_none y h) ascends-nil)
      (λ x y i j. grind (arith, not_below tops m spread.ascends order x i, meets_none tops m x none i, divides_self x, one_of m y j));
  apart = λ s t i j div.
      let both : (r : ℕ) → has (tops ++ m ∷ []) r ≡ (has tops r || has (m ∷ []) r) = has-append tops (m ∷ []) in
      grind (arith, i, j, both s, both t, one_of m, spread.apart s t, meets_none tops m s none, meets_none tops m t none);
}

front_below : (xs ys : List ℕ) (t s : ℕ) → IsStrictlyIncreasing (xs ++ t ∷ ys) → has xs s ≡ true → s < t
front_below [] ys t s up i = has_none s i
front_below (x ∷ xs) ys t s up i =
    let rest = front_below xs ys t s (ascends_tail x (xs ++ t ∷ ys) up) in
    grind (arith, rest, ascends_head x (xs ++ t ∷ ys) up t, has-append xs (t ∷ ys) t, has_head t ys, has_cases x xs s i)

not_below_last : (tops : List ℕ) (t : ℕ) → ((s : ℕ) → has tops s ≡ true → s ≤ t) → is_below_last tops t ≡ false
unfolding is_below_last
not_below_last [] t most = refl
not_below_last (s ∷ []) t most = le-ltb t s (most s (has_head s []))
not_below_last (s ∷ u ∷ tops) t most = not_below_last (u ∷ tops) t (λ r i. most r (has_tail s (u ∷ tops) r i))

-- one of them compares with none before it, and is not below the last of these
spread_at : (earlier rest : List ℕ) (t : ℕ) → AreSpread (earlier ++ t ∷ rest)
    → (is_comparable earlier t ≡ false) × (is_below_last earlier t ≡ false)
unfolding is_comparable
spread_at earlier rest t spread = (
  any_none (λ s. divides s t || divides t s) earlier
      (λ s i. grind (arith, front_below earlier rest t s spread.ascends i, spread.apart, has-append earlier (t ∷ rest), has_head t rest)),
  not_below_last earlier t (λ s i. let less = front_below earlier rest t s spread.ascends i in omega arith),
)

-- ---- the terms of an element

-- an element that vanishes on the points, with its greatest monomial, which is its first term, and the others
record HasTop (n : ℕ) (points : Family) (t : ℕ) (e : Given) : Type 0 where
  tail : List ℕ
  terms : e.terms ≡ t ∷ tail
  family : IsFamily n (polynomial e)
  vanishes : Vanishes (polynomial e) points
  greatest : IsGreatest (polynomial e) t
  less : (k : ℕ) → has tail k ≡ true → k < t

module _ (n : ℕ) (points : Family) where
  first_is_greatest : (top : ℕ) (tail : List ℕ) (line : ℕ) → IsFamily n (reverse (top ∷ tail)) → Vanishes (reverse (top ∷ tail)) points
      → HasTop n points top (record { terms = top ∷ tail; line = line })
  first_is_greatest top tail line family vanishes =
      let less : (k : ℕ) → has tail k ≡ true → k < top = λ k i.
      front_below (reverse tail) [] top k (rw reverse_cons at family.ascends) (has-reverse tail k ∙ i) in
      record {
        tail = tail;
        terms = refl;
        family = family;
        vanishes = vanishes;
        greatest = record {
          member = has-reverse (top ∷ tail) top ∙ has_head top tail;
          top = All-from_has (λ k. k ≤ top) (reverse (top ∷ tail))
              (λ k i. grind (arith, less k, has_cases top tail k, has-reverse (top ∷ tail) k));
        };
        less = less;
      }

  -- an element of a basis has its lead as its first term
  element_has_top : (m : ℕ) (terms : List ℕ) (line : ℕ) → IsBasisElement n points m (reverse terms)
      → HasTop n points m (record { terms = terms; line = line })
  element_has_top m [] line element = has_none m (sym (has-reverse [] m) ∙ element.greatest.member)
  element_has_top m (t ∷ tail) line element =
      let first = first_is_greatest t tail line element.family element.vanishes in
      let le : t ≤ m = All-has (λ k. k ≤ m) (reverse (t ∷ tail)) t element.greatest.top first.greatest.member in
      let ge : m ≤ t = All-has (λ k. k ≤ t) (reverse (t ∷ tail)) m first.greatest.top element.greatest.member in
      let same : t ≡ m = omega arith in
      subst (λ (k : ℕ). HasTop n points k (record { terms = t ∷ tail; line = line })) same first

  -- ==== The elements of a basis: that no check of them fails, and what this says

  abbrev HaveTops : List ℕ → List Given → Type 0
  HaveTops = AllZip (HasTop n points)

  abbrev AreFamilies : List Given → Type 0
  AreFamilies = All (λ e. IsFamily n (polynomial e))

  elements_pass : (elements : List Given) (earlier : List ℕ) → AreFamilies elements
      → first_verdict (basis_checks points earlier elements) ≡ Yes → AreSpread earlier
      → AreSpread (earlier ++ greatest_of elements) × HaveTops (greatest_of elements) elements
  unfolding basis_checks greatest_of
  elements_pass [] earlier families fine spread = (rw append-nil spread, tt)
  elements_pass (e ∷ elements) earlier families fine spread = pass_one e.terms e.line
      (All-head (λ d. IsFamily n (polynomial d)) e elements families)
      (λ next. elements_pass elements next (All-tail (λ d. IsFamily n (polynomial d)) e elements families)) fine
    where
      pass_one : (terms : List ℕ) (line : ℕ) → IsFamily n (reverse terms)
          → ((next : List ℕ) → first_verdict (basis_checks points next elements) ≡ Yes → AreSpread next
          → AreSpread (next ++ greatest_of elements) × HaveTops (greatest_of elements) elements)
          → first_verdict (basis_checks points earlier (record { terms = terms; line = line } ∷ elements)) ≡ Yes
          → AreSpread (earlier ++ greatest_of (record { terms = terms; line = line } ∷ elements))
          × HaveTops (greatest_of (record { terms = terms; line = line } ∷ elements)) (record { terms = terms; line = line } ∷ elements)
      pass_one [] line family again fine = search (rules, arith, passed_both, passed, false≢true)
      pass_one (t ∷ tail) line family again fine =
          grind (arith, passed_both, passed, spread_more, vanishes_iff, append_assoc, first_is_greatest)

  -- the element of a top
  element_of : (tops : List ℕ) (elements : List Given) → HaveTops tops elements → (t : ℕ) → has tops t ≡ true
      → (t < 2 ^ n) × ((p : List ℕ) × IsFamily n p × IsGreatest p t × Vanishes p points)
  element_of [] elements zip t i = has_none t i
  element_of (s ∷ tops) [] zip t i = absurd zip
  element_of (s ∷ tops) (e ∷ elements) zip t i = grind (arith, has_cases s tops t i, below_bound, element_of tops elements zip.1 t)

  module _ (all_tops : List ℕ) where
    -- then the elements are those of the reduced basis
    elements_right : (tops : List ℕ) (elements : List Given) → ((m : ℕ) → m < 2 ^ n → is_divided all_tops m ≡ false → IsStandard n points m)
        → HaveTops tops elements → first_verdict (map (tail_check all_tops) elements) ≡ Yes
        → AllZip (IsBasisElement n points) tops (map polynomial elements)
    elements_right [] [] standard zip fine = tt
    elements_right (s ∷ tops) (e ∷ elements) standard zip fine =
        let one = passed (list_any (is_divided all_tops) (drop 1 e.terms)) e.line Reducible (map (tail_check all_tops) elements) fine in
        let tail_fine : list_any (is_divided all_tops) zip.0.tail ≡ false = rw zip.0.terms at one.0 in (
          record {
            family = zip.0.family;
            vanishes = zip.0.vanishes;
            greatest = zip.0.greatest;
            reduced = λ k i ne. standard k (below_bound n (polynomial e) k zip.0.family i)
                (grind (arith, none_of, has_cases, has-reverse, zip.0.terms));
          },
          elements_right tops elements standard zip.1 one.1,
        )
    elements_right tops elements standard zip fine = absurd zip

    -- nothing behind the first terms is divided by a lead
    tails_undivided : (rest : List ℕ) (elements : List Given)
        → ((m : ℕ) → m < 2 ^ n → IsStandard n points m → is_divided all_tops m ≡ false)
        → AllZip (IsBasisElement n points) rest (map polynomial elements) → first_verdict (map (tail_check all_tops) elements) ≡ Yes
    tails_undivided rest [] standard zip = none_failed
    tails_undivided [] (e ∷ elements) standard zip = absurd zip
    tails_undivided (t ∷ rest) (e ∷ elements) standard zip =
        let top = element_has_top t e.terms e.line zip.0 in
        let fine : list_any (is_divided all_tops) (drop 1 e.terms) ≡ false =
        rw top.terms (any_none (is_divided all_tops) top.tail (λ k i.
        let less = top.less k i in
        grind (arith, has-reverse e.terms k, top.terms, has_tail t top.tail k, below_bound n (polynomial e) k))) in
        goes_past _ e.line Reducible _ fine ∙ tails_undivided rest elements standard zip.1

  -- what is left of the leads and of the elements, behind those that were looked at
  elements_from : (elements : List Given) (earlier rest : List ℕ) → AllZip (IsBasisElement n points) rest (map polynomial elements)
      → AreSpread (earlier ++ rest) → (first_verdict (basis_checks points earlier elements) ≡ Yes) × (greatest_of elements ≡ rest)
  unfolding basis_checks greatest_of first_verdict
  elements_from [] earlier [] zip spread = (none_failed, refl)
  elements_from (e ∷ elements) earlier (t ∷ rest) zip spread =
      let top = element_has_top t e.terms e.line zip.0 in let tests = spread_at earlier rest t spread in
      let zero = (vanishes_iff e.terms points).1 zip.0.vanishes in
      let later = elements_from elements (earlier ++ t ∷ []) rest zip.1 (rw append_assoc spread) in
      (rw (zero, top.terms, tests.0, tests.1) later.0, rw (top.terms, later.1))
  elements_from elements earlier rest zip spread = absurd zip

-- ==== An answer is right exactly where no check of it fails

module _ (n : ℕ) (zeros ones : Family) (zf : IsFamily n zeros) (of : IsFamily n ones) (given : GivenOutput)
    (over : IsOutputOver n given) where
  abbrev points : Family
  points = union_of n zeros ones

  abbrev tops : List ℕ
  tops = greatest_of given.basis

  pf : IsFamily n points
  pf = IsFamily-combine (λ a b. a || b) n zeros ones

  -- what it says that no check fails
  record Pass : Type 0 where
    value : misses zeros ones given.poly.terms ≡ false
    basis : first_verdict (basis_checks points [] given.basis) ≡ Yes
    count : miscounts n points tops ≡ false
    poly : list_any (is_divided tops) given.poly.terms ≡ false
    tails : first_verdict (map (tail_check tops) given.basis) ≡ Yes

  pass_from : first_verdict (output_checks n zeros ones points given) ≡ Yes → Pass
  unfolding output_checks reduced_checks
  pass_from fine = search (rules, arith, passed, passed_both, points, tops)

  pass_to : Pass → first_verdict (output_checks n zeros ones points given) ≡ Yes
  unfolding first_verdict output_checks reduced_checks
  pass_to pass = rw pass.value (fine_in_front (basis_checks points [] given.basis) _ pass.basis ∙ rw (pass.count, pass.poly) pass.tails)

  -- the polynomial is least and its list is the reduced basis
  abbrev Right : Type 0
  Right = IsLeast n zeros ones (polynomial given.poly) × IsReducedBasis n points (map polynomial given.basis)

  right_from : Pass → Right
  right_from pass =
      let spread = elements_pass n points given.basis [] over.basis pass.basis
      (record { ascends = ascends-nil; apart = λ s t i j div. has_none s i }) in
      let elements = element_of n points tops given.basis spread.1 in
      let standard = standard_undivided n points pf tops elements pass.count in (
        IsLeast-from_standard n zeros ones (polynomial given.poly) over.poly ((fits_iff given.poly.terms zeros ones).0 pass.value)
            (λ m i. (standard_in_both n zeros ones zf of m).0 (grind (arith, below_bound, none_of, has-reverse))),
        record {
          leads = tops;
          ascends = spread.0.ascends;
          all_leads = tops_are_leads n points pf tops elements pass.count spread.0.apart;
          elements = elements_right n points tops tops given.basis standard spread.1 pass.tails;
        },
      )

  pass_right : Right → Pass
  pass_right (least, basis) =
      let found = elements_from n points given.basis [] basis.leads basis.elements (record {
        ascends = basis.ascends;
        apart = λ s t i j. leads_apart n points pf s t ((basis.all_leads s).0 i).1 ((basis.all_leads t).0 j).1;
      }) in
      let undivided : (m : ℕ) → m < 2 ^ n → IsStandard n points m → is_divided tops m ≡ false =
      λ m below std. rw found.1 (undivided_is_standard n points pf basis.leads basis.all_leads m below std) in
      record {
        value = (fits_iff given.poly.terms zeros ones).1 least.fits;
        basis = found.0;
        count = rw found.1 (counts_right n points pf basis.leads basis.all_leads);
        poly = any_none (is_divided tops) given.poly.terms (λ m i. let member = has-reverse given.poly.terms m ∙ i in
            undivided m (below_bound n (polynomial given.poly) m over.poly member) ((standard_in_both n zeros ones zf of m).1
            (IsLeast-standard n zeros ones (polynomial given.poly) least m member)));
        tails = tails_undivided n points tops basis.leads given.basis undivided basis.elements;
      }

  output_right : (first_verdict (output_checks n zeros ones points given) ≡ Yes) ↔ Right
  output_right = (λ fine. right_from (pass_from fine), λ right. pass_to (pass_right right))

-- ---- all outputs

module _ (p : Description) where
  -- the outputs from this number on are given rightly
  abbrev IsRightFrom : ℕ → List GivenOutput → Type 0
  IsRightFrom output answer = (k : ℕ) (given : GivenOutput) → slice_get answer k ≡ Some given → IsRightFor p (k + output) given

  right_cons : (o : GivenOutput) (answer : List GivenOutput) (output : ℕ) → IsRightFor p output o → IsRightFrom (output + 1) answer
      → IsRightFrom output (o ∷ answer)
  right_cons o answer output here later zero given at = grind arith
  right_cons o answer output here later (suc k) given at = grind (arith, later k given)

  right_parts : (o : GivenOutput) (answer : List GivenOutput) (output : ℕ) → IsRightFrom output (o ∷ answer)
      → IsRightFor p output o × IsRightFrom (output + 1) answer
  right_parts o answer output right = (grind (arith, right 0 o refl), λ k given at. grind (arith, right (suc k) given at))

  outputs_right : (answer : List GivenOutput) (output : ℕ) → All (IsOutputOver p.inputs) answer
      → (first_verdict (checks_from p output answer) ≡ Yes) ↔ IsRightFrom output answer
  unfolding checks_from
  outputs_right [] output over = (λ fine k given at. absurd cc, λ right. none_failed)
  outputs_right (o ∷ answer) output over =
      let here = output_right p.inputs _ _ (points_family (is_zero p.kind) p.inputs p.rows output)
      (points_family (is_one p.kind) p.inputs p.rows output) o (All-head (IsOutputOver p.inputs) o answer over) in
      let later = outputs_right answer (output + 1) (All-tail (IsOutputOver p.inputs) o answer over) in (
        λ fine. let both = passed_both _ (checks_from p (output + 1) answer) fine in let right = here.0 both.0 in
            right_cons o answer output (record { least = right.0; basis = right.1 }) (later.0 both.1),
        λ right. let both = right_parts o answer output right in
            fine_in_front _ (checks_from p (output + 1) answer) (here.1 (both.0.least, both.0.basis)) ∙ later.1 both.1,
      )

  -- the verdict is yes exactly where the answer is right
  pub yes_where_right : (answer : List GivenOutput) → IsAnswerFor p answer → (verdict_on p answer ≡ Yes) ↔ IsRight p answer
  yes_where_right answer for = outputs_right answer 1 for.polynomials

  pub verdict_tells : (answer : List GivenOutput) (v : Verdict) → IsAnswerFor p answer → verdict_on p answer ≡ v →
      (v ≡ Yes) ↔ IsRight p answer
  verdict_tells answer v for is = let whole = yes_where_right answer for in
      (λ yes. whole.0 (is ∙ yes), λ right. sym is ∙ whole.1 right)
