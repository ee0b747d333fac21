-- The place and the quotient of a key, as the code finds them.
use Rattle.std.proofs.Common.{◌≡◌, ℕ, suc, ◌+◌, ◌-◌, ◌*◌, ◌/◌, ◌%◌, ◌^◌, ◌<◌, ◌≤◌, true, is_some, sym, ap, ◌∙◌, arith, pow_mono}
use Rattle.std.proofs.Math.Pow.{shl-shr, shr-shr, field, mod-pow-add}
use Rattle.std.proofs.lemmas.Bool.{cases_Bool}
use Rattle.lattice.specs.Words.{mixed_key, cache_place, quotient, takes_family, takes_variable}
use Rattle.lattice.specs.declared.limits.TheConstants.{MIN_CACHE_BITS, MAX_BITS, HANDLE_UNIT, MIXING}
use Rattle.lattice.specs.declared.op.Op.{Op}
use Rattle.lattice.proofs.Diagrams.{cache_place_below, quotient_below}
use Rattle.node_store.specs.Stores.{State, IsSound, AreOperands}
use Rattle.node_store.specs.declared.store.Handle.{Handle}

-- the mixing of a key in the upper bits of a word, from a product of 64 bits
raised : (k key : ℕ) → k ≡ key → k * MIXING % 2 ^ 64 * 2 ^ 12 % 2 ^ 64 ≡ mixed_key key * 2 ^ 12
raised k key ks = omega (arith, ks)

-- the place is one of the cache
pub place_inside : (c key : ℕ) → c ≤ MAX_BITS → cache_place c key < 2 ^ c
place_inside c key le = cache_place_below c key (omega arith)

-- the quotient is a number of 40 bits
pub small_quotient : (c key : ℕ) → MIN_CACHE_BITS ≤ c → quotient c key < 2 ^ 40
small_quotient c key le =
    let rest : 52 - c ≤ 40 = omega arith in let most : 2 ^ (52 - c) ≤ 2 ^ 40 = pow_mono rest in
    let less : quotient c key < 2 ^ (52 - c) = quotient_below c key in omega arith

-- the place, as the code finds it
pub place_is : (c k key : ℕ) → c ≤ MAX_BITS → k ≡ key
    → k * MIXING % 2 ^ 64 * 2 ^ 12 % 2 ^ 64 / 2 ^ (64 - c) ≡ cache_place c key
unfolding cache_place
place_is c k key le ks =
    let m = mixed_key key in let whole : 12 + (52 - c) ≡ 64 - c = omega arith in
    ap (λ n. n / 2 ^ (64 - c)) (raised k key ks) ∙ ap (λ n. m * 2 ^ 12 / 2 ^ n) (sym whole)
    ∙ sym (shr-shr (m * 2 ^ 12) 12 (52 - c)) ∙ ap (λ n. n / 2 ^ (52 - c)) (shl-shr m 12)

-- without it the quotient is left
cut_is : (c k key : ℕ) → c ≤ MAX_BITS → k ≡ key
    → k * MIXING % 2 ^ 64 * 2 ^ 12 % 2 ^ 64 * 2 ^ c % 2 ^ 64 / 2 ^ c ≡ quotient c key * 2 ^ 12
unfolding quotient
cut_is c k key le ks =
    let m = mixed_key key in let whole : (64 - c) + c ≡ 64 = omega arith in let rest : (52 - c) + 12 ≡ 64 - c = omega arith in
    let low : m * 2 ^ 12 % 2 ^ 12 ≡ 0 = omega arith in
    ap (λ n. n * 2 ^ c % 2 ^ 64 / 2 ^ c) (raised k key ks) ∙ ap (λ n. m * 2 ^ 12 * 2 ^ c % 2 ^ n / 2 ^ c) (sym whole)
    ∙ field (m * 2 ^ 12 * 2 ^ c) (64 - c) c ∙ ap (λ n. n % 2 ^ (64 - c)) (shl-shr (m * 2 ^ 12) c)
    ∙ ap (λ n. m * 2 ^ 12 % 2 ^ n) (sym rest) ∙ mod-pow-add (m * 2 ^ 12) (52 - c) 12
    ∙ ap (λ n. n % 2 ^ (52 - c) * 2 ^ 12 + m * 2 ^ 12 % 2 ^ 12) (shl-shr m 12) ∙ omega (arith, low)

-- the base, as the code finds it
pub base_is : (c k key : ℕ) → c ≤ MAX_BITS → k ≡ key
    → k * MIXING % 2 ^ 64 * 2 ^ 12 % 2 ^ 64 * 2 ^ c % 2 ^ 64 / 2 ^ c * 4096 ≡ quotient c key * HANDLE_UNIT
base_is c k key le ks = let cut = cut_is c k key le ks in omega (arith, cut)

-- a base, and a word over it, are numbers of 64 bits
pub word_fits : (c key base r : ℕ) → MIN_CACHE_BITS ≤ c → base ≡ quotient c key * HANDLE_UNIT → suc r < HANDLE_UNIT
    → base + r + 1 ≤ 18446744073709551615
word_fits c key base r le is fits = omega (arith, small_quotient c key le)

-- a first operand has room in a key where the handles that the store knows have
pub first_small : (s : State) (op : Op) (a : Handle) (b : ℕ) → ((h : ℕ) → is_some (s.known h) ≡ true → suc h < HANDLE_UNIT)
    → AreOperands s op a b → a.0 < HANDLE_UNIT
first_small s op a b small operands = omega (arith, small a.0 operands.first)

-- a second operand has room in a key where the handles that the store knows have
pub second_small : (s : State) (op : Op) (a : Handle) (b : ℕ) → IsSound s → ((h : ℕ) → is_some (s.known h) ≡ true → suc h < HANDLE_UNIT)
    → AreOperands s op a b → b < HANDLE_UNIT
second_small s op a b sound small operands =
    grind (arith, cases_Bool (takes_family op), cases_Bool (takes_variable op), small b, sound.vars_high)
