-- The key of a cache word, as the code finds it.
use Rattle.std.proofs.Common.{◌≡◌, ℕ, ◌+◌, ◌-◌, ◌*◌, ◌/◌, ◌%◌, ◌^◌, ◌<◌, ◌≤◌, sym, ap, ◌∙◌, subst, pow-add, arith}
use Rattle.std.proofs.Math.Nat.{mod-eq_of_lt}
use Rattle.std.proofs.Math.Pow.{mod-mod-pow}
use Rattle.std.proofs.lemmas.Nat.{mul-add-lt, pow_pos}
use Rattle.lattice.specs.declared.limits.TheConstants.{MAX_BITS, HANDLE_UNIT, KEY_BITS, UNMIXING}
use Rattle.lattice.specs.Words.{cache_bits, key_at}

-- a place is the upper part of a key's mixing
pub place_part : (bits at : ℕ) → bits ≤ MAX_BITS → at < 2 ^ cache_bits bits → at * 2 ^ (KEY_BITS - cache_bits bits) < 2 ^ KEY_BITS
place_part bits at le less =
    let c : ℕ = cache_bits bits in let sum : (KEY_BITS - c) + c ≡ KEY_BITS = omega arith in
    let whole : 2 ^ (KEY_BITS - c) * 2 ^ c ≡ 2 ^ KEY_BITS = sym (pow-add 2 (KEY_BITS - c) c) ∙ ap (λ (k : ℕ). 2 ^ k) sum in
    let n : ℕ = at * 2 ^ (KEY_BITS - c) in
    let sum' : n + 0 < 2 ^ (KEY_BITS - c) * 2 ^ c = mul-add-lt at (2 ^ (KEY_BITS - c)) 0 (2 ^ c) less (pow_pos (KEY_BITS - c)) in
    subst (λ (k : ℕ). n < k) whole (omega (arith, sum'))

-- what the code finds of it
pub shifted : (bits c at x : ℕ) → bits ≤ MAX_BITS → at < 2 ^ cache_bits bits → c ≡ cache_bits bits → x ≡ at
    → x * 2 ^ (KEY_BITS - c) % 2 ^ 64 ≡ at * 2 ^ (KEY_BITS - cache_bits bits)
shifted bits c at x le less cs xs =
    let part = place_part bits at le less in
    let small : at * 2 ^ (KEY_BITS - cache_bits bits) < 2 ^ 64 = omega (arith, part) in
    (λ i. xs i * 2 ^ (KEY_BITS - cs i) % 2 ^ 64) ∙ mod-eq_of_lt small

pub found_key : (bits at w n : ℕ) → n ≡ at * 2 ^ (KEY_BITS - cache_bits bits)
    → (n + w / HANDLE_UNIT) * UNMIXING % 2 ^ 64 % 2 ^ KEY_BITS ≡ key_at (cache_bits bits) at w
found_key bits at w n is = mod-mod-pow ((n + w / HANDLE_UNIT) * UNMIXING) 12 52
    ∙ ap (λ (m : ℕ). (m + w / HANDLE_UNIT) * UNMIXING % 2 ^ KEY_BITS) is
