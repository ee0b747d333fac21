-- The variables of a monomial, from its first one on and on both sides of a place, and its factors, of which those before a place stay.
use Rattle.std.proofs.Common.{◌≡◌, ◌≢◌, ℕ, ◌+◌, ◌-◌, ◌*◌, ◌/◌, ◌%◌, ◌^◌, ◌<◌, Bool, true, false, List, [], ◌∷◌, ◌++◌, length, refl, sym}
use Rattle.std.proofs.Common.{◌≤◌, get_or, rules}
use Rattle.std.proofs.Common.{◌∙◌, ap, subst, arith, add-zero, ⊎_elim, suc, codes, cond, pow_pos, take, drop, ne_eqb, length-append}
use Rattle.std.proofs.lemmas.Grind.{pow_more, common_steps}
use Rattle.std.proofs.lemmas.Bool.{cases_lt, cases_eq, cases_Bool, false≢true}
use Rattle.std.proofs.lemmas.Nat.{and_comm, shr_split, and_mask, xor_shr}
use Rattle.std.proofs.lemmas.Nat.Bits.{and_pow, bit_at_cat_low, bit_at_cat_high, ones_shr}
use Rattle.std.proofs.lemmas.List.{take_all}
use Rattle.std.proofs.lemmas.List.Concat.{flat_map-append}
use Rattle.std.proofs.Math.Seq.{take-append_seam}
use Rattle.std.proofs.Math.Nat.{pow-le-pow_right, mod-lt, div-eq_of_lt, one-mul}
use Rattle.std.specs.Int.{bit_at}
use Rattle.std.specs.Int.RustNames.{bit_xor}
use Rattle.std.specs.Int.Bits.{xor_assoc, xor_self, xor_zero_l, xor_zero_r}
use lib.Bits.{bit_and}
use Rattle.std.specs.List.{flat_map, join_by}
use Rattle.lattice.specs.Words.{divides}
use Rattle.lattice.proofs.Polynomials.{weight_below, divides_both_high, divides_zero}
use Rattle.anf_printer.specs.Text.{variables_of, monomial_text, factors_text, product_text}

-- a weight is in a number by the bit at its place
weight_same : (d m n : ℕ) → bit_at m d ≡ bit_at n d → divides (2 ^ d) m ≡ divides (2 ^ d) n
unfolding divides
weight_same d m n same = rw (and_comm (2 ^ d) m, and_comm (2 ^ d) n, and_pow m d, and_pow n d, same) refl

-- one below place k sees the bits below k alone, and one from k up those from k up
weight_low : (d k q r : ℕ) → d < k → divides (2 ^ d) (q * 2 ^ k + r) ≡ divides (2 ^ d) r
weight_low d k q r low = weight_same d (q * 2 ^ k + r) r (bit_at_cat_low q k r d low)

weight_high : (d k q r : ℕ) → r < 2 ^ k → k ≤ d → divides (2 ^ d) (q * 2 ^ k + r) ≡ divides (2 ^ d) (q * 2 ^ k + 0)
weight_high d k q r less high = weight_same d (q * 2 ^ k + r) (q * 2 ^ k + 0) (bit_at_cat_high q k r d less high
    ∙ sym (bit_at_cat_high q k 0 d (pow_pos k) high))

variables_of_none : (names : List (List ℕ)) → variables_of names 0 ≡ []
unfolding variables_of
variables_of_none [] = refl
variables_of_none (name ∷ names) = rw (weight_below (length names) 0 (pow_pos (length names))) (variables_of_none names)

variables_low : (names : List (List ℕ)) (k q r : ℕ) → length names ≤ k → variables_of names (q * 2 ^ k + r) ≡ variables_of names r
unfolding variables_of
variables_low [] k q r few = refl
variables_low (name ∷ names) k q r few = rw (weight_low (length names) k q r (omega arith), variables_low names k q r (omega arith)) refl

variables_none : (names : List (List ℕ)) (k q : ℕ) → length names ≤ k → variables_of names (q * 2 ^ k) ≡ []
variables_none names k q few = (rw add-zero at (variables_low names k q 0 few)) ∙ variables_of_none names

more_in_front : (b : Bool) (x : List ℕ) (xs ys : List (List ℕ)) → cond b (x ∷ (xs ++ ys)) (xs ++ ys) ≡ cond b (x ∷ xs) xs ++ ys
more_in_front true x xs ys = refl
more_in_front false x xs ys = refl

-- the variables from place k up, then those below
variables_parts : (names : List (List ℕ)) (k q r : ℕ) → r < 2 ^ k
    → variables_of names (q * 2 ^ k + r) ≡ variables_of names (q * 2 ^ k) ++ variables_of names r
unfolding variables_of
variables_parts [] k q r less = refl
variables_parts (name ∷ names) k q r less = ⊎_elim (λ (low : length names < k).
    variables_low (name ∷ names) k q r (omega arith) ∙ sym (ap (λ vs. vs ++ variables_of (name ∷ names) r)
    (variables_none (name ∷ names) k q (omega arith)))) (λ (high : k ≤ length names).
    let wide : 2 ^ k ≤ 2 ^ length names = pow-le-pow_right (omega arith) high in
    let gone : divides (2 ^ length names) r ≡ false = weight_below (length names) r (omega arith) in
    let same = rw add-zero at (weight_high (length names) k q r less high) in
    rw (same, gone, variables_parts names k q r less) (more_in_front (divides (2 ^ length names) (q * 2 ^ k)) name
    (variables_of names (q * 2 ^ k)) (variables_of names r))) (cases_lt (length names) k)

has_greatest : (d a : ℕ) → a < 2 ^ d → divides (2 ^ d) (2 ^ d + a) ≡ true
has_greatest d a less = rw add-zero at (divides_both_high d 0 a (pow_pos d) less ∙ divides_zero a)

-- the first variable is that of the greatest weight
first_and_rest : (names : List (List ℕ)) (d a : ℕ) (name : List ℕ) → a < 2 ^ d → d < length names
    → name ≡ get_or names (length names - 1 - d) name → variables_of names (2 ^ d + a) ≡ name ∷ variables_of names a
unfolding variables_of
first_and_rest [] d a name less few is = absurd (omega arith)
first_and_rest (other ∷ names) d a name less few is = ⊎_elim (λ (same : length names ≡ d).
    let here : divides (2 ^ length names) (2 ^ d + a) ≡ true = subst (λ k. divides (2 ^ k) (2 ^ d + a) ≡ true) (sym same)
    (has_greatest d a less) in
    let gone : divides (2 ^ length names) a ≡ false = weight_below (length names) a (subst (λ k. a < 2 ^ k) (sym same) less) in
    let at : length (other ∷ names) - 1 - d ≡ 0 = omega arith in
    let named : name ≡ other = is ∙ ap (λ i. get_or (other ∷ names) i name) at in
    let behind : variables_of names (2 ^ d + a) ≡ variables_of names a = rw one-mul at (variables_low names d 1 a (omega arith)) in
    rw (here, gone) (cc)) (λ (ne : length names ≢ d).
    let next : 2 ^ (d + 1) ≤ 2 ^ length names = pow-le-pow_right (omega arith) (omega arith) in
    let double : 2 * 2 ^ d ≤ 2 ^ length names = omega (arith, pow_more 2 d) in
    let absent : divides (2 ^ length names) (2 ^ d + a) ≡ false = weight_below (length names) (2 ^ d + a) (omega arith) in
    let gone : divides (2 ^ length names) a ≡ false = weight_below (length names) a (omega arith) in
    let at : length (other ∷ names) - 1 - d ≡ suc (length names - 1 - d) = omega arith in
    let later : variables_of names (2 ^ d + a) ≡ name ∷ variables_of names a = first_and_rest names d a name less (omega arith) (is
    ∙ ap (λ i. get_or (other ∷ names) i name) at) in
    rw (absent, gone) later) (cases_eq (length names) d)

pub variables_of_first : (names : List (List ℕ)) (d m : ℕ) (name : List ℕ) → 2 ^ d ≤ m → m < 2 * 2 ^ d → d < length names
    → name ≡ get_or names (length names - 1 - d) name → variables_of names m ≡ name ∷ variables_of names (m - 2 ^ d)
variables_of_first names d m name from below few is = grind (arith, first_and_rest names d (m - 2 ^ d) name (omega arith) few is)

-- a weight that is no greater than a monomial of n variables is that of a variable
pub weight_is_below : (d m n : ℕ) → 2 ^ d ≤ m → m < 2 ^ n → d < n
weight_is_below d m n from below = search (rules, arith, pow-le-pow_right, cases_lt)

pub factors_none : (names : List (List ℕ)) → factors_text names 0 ≡ []
unfolding factors_text
factors_none names = rw (variables_of_none names) refl

-- by the first variable
pub factors_first : (names : List (List ℕ)) (m rest : ℕ) (name : List ℕ) → variables_of names m ≡ name ∷ variables_of names rest
    → factors_text names m ≡ codes "*" ++ name ++ factors_text names rest
unfolding factors_text
factors_first names m rest name first = rw first refl

pub length_factors : (names : List (List ℕ)) (m rest : ℕ) (name : List ℕ) → variables_of names m ≡ name ∷ variables_of names rest
    → length (factors_text names m) ≡ 1 + length name + length (factors_text names rest)
length_factors names m rest name first = rw (factors_first names m rest name first) (grind (arith, common_steps))

-- the factors from place k up, then those below
factors_parts : (names : List (List ℕ)) (k m : ℕ) → factors_text names m
    ≡ factors_text names (m / 2 ^ k * 2 ^ k) ++ factors_text names (m % 2 ^ k)
unfolding factors_text
factors_parts names k m =
    let apart : variables_of names m ≡ variables_of names (m / 2 ^ k * 2 ^ k) ++ variables_of names (m % 2 ^ k) =
    ap (variables_of names) (sym (shr_split m k)) ∙ variables_parts names k (m / 2 ^ k) (m % 2 ^ k) (mod-lt m (pow_pos k)) in
    rw (apart, flat_map-append) refl

-- ---- the bits from the first one at which two numbers differ on

same_bits : (a b : ℕ) → bit_xor a b ≡ 0 → a ≡ b
same_bits a b none = sym (sym (xor_zero_l b) ∙ sym (ap (λ x. bit_xor x b) none) ∙ xor_assoc a b b
    ∙ ap (bit_xor a) (xor_self b) ∙ xor_zero_r a)

-- the bits that the shifted mask leaves
mask_low : (a k : ℕ) → k < 64 → bit_and a ((2 ^ 64 - 1) / 2 ^ (63 - k)) ≡ a % 2 ^ (k + 1)
mask_low a k within = rw (ones_shr 64 (63 - k) (omega arith)) (let e : 64 - (63 - k) ≡ k + 1 = omega arith in rw (e, and_mask) refl)

-- above them the numbers agree
pub same_from : (a b k : ℕ) → bit_xor a b < 2 ^ k → a / 2 ^ k ≡ b / 2 ^ k
same_from a b k less = same_bits (a / 2 ^ k) (b / 2 ^ k) (sym (xor_shr a b k) ∙ div-eq_of_lt less)

-- the factors that stay, and those behind them
pub factors_masked : (names : List (List ℕ)) (a k : ℕ) → k < 64 → factors_text names a
    ≡ factors_text names (a / 2 ^ (k + 1) * 2 ^ (k + 1)) ++ factors_text names (bit_and a ((2 ^ 64 - 1) / 2 ^ (63 - k)))
factors_masked names a k within = rw (mask_low a k within) (factors_parts names (k + 1) a)

-- what stays where as many bytes are cut off as those behind have
pub factors_cut : (names : List (List ℕ)) (a k n : ℕ) (items : List ℕ) → k < 64 → items ≡ factors_text names a
    → n + length (factors_text names (bit_and a ((2 ^ 64 - 1) / 2 ^ (63 - k)))) ≡ length items
    → take n items ≡ factors_text names (a / 2 ^ (k + 1) * 2 ^ (k + 1))
factors_cut names a k n items within is count =
    let front = factors_text names (a / 2 ^ (k + 1) * 2 ^ (k + 1)) in
    let behind = factors_text names (bit_and a ((2 ^ 64 - 1) / 2 ^ (63 - k))) in
    let parts : items ≡ front ++ behind = is ∙ factors_masked names a k within in
    let sum : length items ≡ length front + length behind = ap length parts ∙ length-append front behind in
    let all : n ≡ length front = omega arith in
    rw (all, parts) (take-append_seam front behind)

-- a number without variables is 0
variables_some : (names : List (List ℕ)) (m : ℕ) → m < 2 ^ length names → variables_of names m ≡ [] → m ≡ 0
unfolding variables_of
variables_some [] m less none = omega (arith, less)
variables_some (name ∷ names) m less none = ⊎_elim (λ (set : divides (2 ^ length names) m ≡ true).
    absurd (omega (arith, ap length (rw set at none))))
    (λ (clear : divides (2 ^ length names) m ≡ false). ⊎_elim (λ (below : m < 2 ^ length names).
    variables_some names m below (rw clear at none)) (λ (from : 2 ^ length names ≤ m).
    let bound : m < 2 ^ suc (length names) = less in
    let is : 2 ^ length names + (m - 2 ^ length names) ≡ m = omega arith in
    let set : divides (2 ^ length names) m ≡ true = subst (λ m. divides (2 ^ length names) m ≡ true) is
    (has_greatest (length names) (m - 2 ^ length names) (omega arith)) in
    absurd (false≢true (sym clear ∙ set))) (cases_lt m (2 ^ length names))) (cases_Bool (divides (2 ^ length names) m))

product_joined : (names : List (List ℕ)) → names ≢ [] → product_text (flat_map (λ n. codes "*" ++ n) names)
    ≡ join_by (λ n. n) (codes "*") names
unfolding product_text
product_joined [] some = absurd (some refl)
product_joined (name ∷ names) some = refl

pub monomial_text_factors : (names : List (List ℕ)) (m : ℕ) → m < 2 ^ length names
    → monomial_text names m ≡ product_text (factors_text names m)
unfolding monomial_text factors_text product_text
monomial_text_factors names m less = ⊎_elim (λ (is : m ≡ 0). rw (is, variables_of_none names) refl) (λ (some : m ≢ 0).
    rw (ne_eqb m 0 some) (sym (product_joined (variables_of names m) (λ none. some (variables_some names m less none))))) (cases_eq m 0)

-- what a pattern takes from the factors
pub product_text_none : (s : List ℕ) → length s < 1 → product_text s ≡ codes "1"
unfolding product_text
product_text_none [] few = refl
product_text_none (sign ∷ product) few = absurd (omega arith)

pub product_text_some : (s : List ℕ) → 1 ≤ length s → product_text s ≡ take (length s - 1) (drop 1 s)
unfolding product_text
product_text_some [] some = absurd (omega arith)
product_text_some (sign ∷ product) some = grind (arith, common_steps, take_all)

pub ruleset product_rules = (common_steps, product_text_none, product_text_some)

-- what the steps of a loop over the variables want
pub ruleset factor_rules = (common_steps, factors_none, factors_first, length_factors)
