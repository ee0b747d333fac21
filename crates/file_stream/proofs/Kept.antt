-- The bytes that are kept in an array.
use Rattle.std.proofs.Common.{◌≡◌, ℕ, suc, zero, ◌+◌, ◌<◌, true, false, List, [], ◌∷◌, length, get_or, set, take, refl, sym}
use Rattle.std.proofs.Common.{◌∙◌, arith, length-take, ne_eqb, eq-eqb}
use Rattle.std.specs.Prelude.{◌==◌}
use Rattle.std.proofs.lemmas.List.{take_more_set}
use Rattle.pla_reader.specs.Lines.{is_blank}
use Rattle.file_stream.specs.Digests.{after_byte, is_settled, ends_blank}
use Rattle.file_stream.proofs.Digests.{after_open, after_settled}
use Rattle.lattice.proofs.Polynomials.{or_second, or_third}

last_at : (kept : List ℕ) (n : ℕ) → n < length kept → ends_blank (take (suc n) kept) ≡ is_blank (get_or kept n 0)
last_at [] n lt = absurd (omega arith)
last_at (x ∷ xs) zero lt = refl
last_at (x ∷ []) (suc n) lt = absurd (omega arith)
last_at (x ∷ y ∷ ys) (suc n) lt = last_at (y ∷ ys) n (omega arith)

pub keeps_first : (kept : List ℕ) (b : ℕ) → 0 < length kept → is_blank b ≡ false → take 1 (set kept 0 b) ≡ after_byte [] b
keeps_first [] b lt e = absurd (omega arith)
keeps_first (x ∷ xs) b lt e = rw e refl

pub keeps_one_more : (kept : List ℕ) (n b : ℕ) → length kept ≡ 7 → n < 7 → (get_or kept 0 0 == 35) ≡ false
    → is_blank (get_or kept n 0) ≡ false → suc n < 7
    → take (suc n + 1) (set kept (suc n) b) ≡ after_byte (take (suc n) kept) b
keeps_one_more [] n b l lt f e m = absurd (omega arith)
keeps_one_more (x ∷ xs) n b l lt f e m =
    let size : (length (x ∷ take n xs) == 7) ≡ false = ne_eqb (length (x ∷ take n xs)) 7 (omega (arith, length-take n xs)) in
    let settled : is_settled (x ∷ take n xs) ≡ false = rw (size, f, last_at (x ∷ xs) n (omega arith), e) refl in
    take_more_set (x ∷ xs) (suc n) b (omega arith) ∙ sym (after_open x (take n xs) b settled)

kept_as : (kept : List ℕ) (n b : ℕ) → is_settled (take (suc n) kept) ≡ true → 0 < length kept
    → take (suc n) kept ≡ after_byte (take (suc n) kept) b
kept_as [] n b e lt = absurd (omega arith)
kept_as (x ∷ xs) n b e lt = sym (after_settled x (take n xs) b e)

pub full_settles : (kept : List ℕ) (n b : ℕ) → length kept ≡ 7 → suc n ≡ 7 → take (suc n) kept ≡ after_byte (take (suc n) kept) b
full_settles [] n b l e = absurd (omega arith)
full_settles (x ∷ xs) n b l e =
    let size : (length (x ∷ take n xs) == 7) ≡ true = eq-eqb (length (x ∷ take n xs)) 7 (omega (arith, length-take n xs)) in
    kept_as (x ∷ xs) n b (rw size refl) (omega arith)

pub comment_settles : (kept : List ℕ) (n b : ℕ) → length kept ≡ 7 → (get_or kept 0 0 == 35) ≡ true
    → take (suc n) kept ≡ after_byte (take (suc n) kept) b
comment_settles [] n b l e = absurd (omega arith)
comment_settles (x ∷ xs) n b l e
    = kept_as (x ∷ xs) n b (or_second (length (x ∷ take n xs) == 7) (x == 35) (ends_blank (x ∷ take n xs)) e) (omega arith)

pub blank_settles : (kept : List ℕ) (n b : ℕ) → length kept ≡ 7 → n < 7 → is_blank (get_or kept n 0) ≡ true
    → take (suc n) kept ≡ after_byte (take (suc n) kept) b
blank_settles [] n b l lt e = absurd (omega arith)
blank_settles (x ∷ xs) n b l lt e =
    kept_as (x ∷ xs) n b (or_third (length (x ∷ take n xs) == 7) (x == 35) (ends_blank (x ∷ take n xs)) (last_at (x ∷ xs) n (omega arith)
    ∙ e)) (omega arith)
