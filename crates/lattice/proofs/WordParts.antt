-- The parts of a word, from a word that is made of parts below their bounds.
use Rattle.std.proofs.Common.{mod-lt, pow_pos, ◌≡◌, ℕ, suc, ◌+◌, ◌-◌, ◌*◌, ◌/◌, ◌%◌, ◌^◌, ◌<◌, ◌≤◌, List, [], ◌∷◌, Some, slice_get, sym, ap}
use Rattle.std.proofs.Common.{◌∙◌, pow-add, arith}
use Rattle.std.proofs.Math.Nat.{div-add-mod}
use Rattle.std.proofs.lemmas.Nat.{div_below}
use Rattle.lattice.specs.declared.limits.TheConstants.{HANDLE_UNIT, KEY_BITS, MIXING, UNMIXING}
use Rattle.lattice.specs.declared.op.Op.{Op}
use Rattle.lattice.specs.declared.op.Op.TheVariants.{Union, Inter, Minus, Xor, Product, Ones, Least, Standard, Leads, TimesVar}
use Rattle.lattice.specs.Words.{node_word, var_of, lo_of, hi_of, mixed_key, cache_place, quotient, cache_word, key_at, result_of, number_of}
use Rattle.lattice.specs.Words.{key_for}

-- The variable of a word.
pub var_of-word : (var lo hi : ℕ) → lo < HANDLE_UNIT → hi < HANDLE_UNIT → var_of (node_word var lo hi) ≡ var
var_of-word var lo hi l h = omega arith

-- The low child of a word.
pub lo_of-word : (var lo hi : ℕ) → lo < HANDLE_UNIT → hi < HANDLE_UNIT → lo_of (node_word var lo hi) ≡ lo
lo_of-word var lo hi l h = omega arith

-- The high child of a word.
pub hi_of-word : (var lo hi : ℕ) → hi < HANDLE_UNIT → hi_of (node_word var lo hi) ≡ hi
hi_of-word var lo hi h = omega arith

-- Two words with the same parts are one word.
pub same_word : (w w' : ℕ) → var_of w ≡ var_of w' → lo_of w ≡ lo_of w' → hi_of w ≡ hi_of w' → w ≡ w'
same_word w w' v l h = omega arith

operations : List Op
operations = Union ∷ Inter ∷ Minus ∷ Xor ∷ Product ∷ Ones ∷ Least ∷ Standard ∷ Leads ∷ TimesVar ∷ []

numbered : (op : Op) → slice_get operations (number_of op - 1) ≡ Some op
unfolding operations
numbered op = grind arith

-- The numbers of the operations are from 1 to 10.
pub number_within : (op : Op) → (1 ≤ number_of op) × (number_of op ≤ 10)
number_within op = grind arith

-- An operation's number tells it.
pub same_number : (op op' : Op) → number_of op ≡ number_of op' → op ≡ op'
same_number op op' e = cc (numbered op, numbered op', ap (λ n. slice_get operations (n - 1)) e)

-- A key is below 2 ^ 52.
pub key_below : (op : Op) (a b : ℕ) → a < HANDLE_UNIT → b < HANDLE_UNIT → key_for op a b < 2 ^ KEY_BITS
key_below op a b l h = omega (arith, (number_within op).1)

-- the mixing of a key tells it
pub unmixed : (key : ℕ) → key < 2 ^ KEY_BITS → mixed_key key * UNMIXING % 2 ^ KEY_BITS ≡ key
unmixed key less = omega arith

-- it is made of the key's place and quotient
pub mixing-parts : (c key : ℕ) → cache_place c key * 2 ^ (KEY_BITS - c) + quotient c key ≡ mixed_key key
unfolding cache_place quotient
mixing-parts c key = omega (arith, div-add-mod (mixed_key key) (2 ^ (KEY_BITS - c)))

-- Two keys with one place and one quotient are one key.
pub same_key : (c key other : ℕ) → key < 2 ^ KEY_BITS → other < 2 ^ KEY_BITS → cache_place c key ≡ cache_place c other
    → quotient c key ≡ quotient c other → key ≡ other
same_key c key other less less' places quotients = cc (mixing-parts c key, mixing-parts c other, unmixed key less, unmixed other less')

-- The place of a key is one of the cache.
pub cache_place_below : (c key : ℕ) → c ≤ KEY_BITS → cache_place c key < 2 ^ c
unfolding cache_place
cache_place_below c key le =
    let sum : c + (KEY_BITS - c) ≡ KEY_BITS = omega arith in
    let whole : 2 ^ c * 2 ^ (KEY_BITS - c) ≡ 2 ^ KEY_BITS = sym (pow-add 2 c (KEY_BITS - c)) ∙ ap (λ k. 2 ^ k) sum in
    div_below (mixed_key key) (2 ^ (KEY_BITS - c)) (2 ^ c) (pow_pos (KEY_BITS - c)) (rw whole (mod-lt (key * MIXING) (omega arith)))

-- The quotient of a key is small.
pub quotient_below : (c key : ℕ) → quotient c key < 2 ^ (KEY_BITS - c)
unfolding quotient
quotient_below c key = mod-lt (mixed_key key) (pow_pos (KEY_BITS - c))

-- The quotient in a cache word.
pub quotient_of-word : (c key result : ℕ) → suc result < HANDLE_UNIT → cache_word c key result / HANDLE_UNIT ≡ quotient c key
quotient_of-word c key result fits = omega arith

-- The result in a cache word.
pub result_of-word : (c key result : ℕ) → suc result < HANDLE_UNIT → result_of (cache_word c key result) ≡ result
result_of-word c key result fits = omega arith

-- the key of a cache word at the key's place
pub key_at-word : (c key result : ℕ) → key < 2 ^ KEY_BITS → suc result < HANDLE_UNIT
    → key_at c (cache_place c key) (cache_word c key result) ≡ key
key_at-word c key result less fits = cc (quotient_of-word c key result fits, mixing-parts c key, unmixed key less)
