-- A row fits the sizes and the type, and the numbers of its line ascend.
use Rattle.std.proofs.Common.{◌≡◌, ℕ, ◌+◌, ◌*◌, Bool, true, false, cond, bit_and, List, [], ◌∷◌, length, codes, ◌&&◌, take, drop}
use Rattle.std.proofs.Common.{refl, arith}
use Rattle.std.proofs.lemmas.Nat.{and_block}
use Rattle.std.specs.Int.Bits.{and_step}
use Rattle.std.proofs.lemmas.List.{length-take-le, length-drop}
use Rattle.lattice.specs.Words.{divides}
use Rattle.lattice.specs.declared.kind.Kind.{Kind}
use Rattle.pla_reader.specs.Description.{has_off, has_dc, FitsSizes}
use Rattle.pla_reader.specs.Grammar.{is_one_of, symbols}
use Rattle.pla_reader.specs.Reading.{input_mask, output_mask, row_of}
use Rattle.pla_reader.proofs.Symbols.{bit, input_mask-lt, output_mask-lt}

-- ---- masks

-- symbols that never pass both tests make masks with no bit in common
masks_apart : (p q : ℕ → Bool) → ((s : ℕ) → p s ≡ true → q s ≡ false) → (xs : List ℕ) → bit_and (output_mask p xs) (output_mask q xs) ≡ 0
unfolding output_mask
masks_apart p q apart [] = refl
masks_apart p q apart (s ∷ xs) = grind (arith, and_step, masks_apart p q apart xs, apart s)

mask_none : (p : ℕ → Bool) → ((s : ℕ) → p s ≡ false) → (xs : List ℕ) → output_mask p xs ≡ 0
unfolding output_mask
mask_none p never [] = refl
mask_none p never (s ∷ xs) = rw (never s, mask_none p never xs) refl

pub cond_bit : (t : Bool) (n : ℕ) → cond t n 0 ≡ bit t * n
cond_bit t n = grind arith

-- where each symbol that passes q passes p, the mask of q lies within that of p
pub mask_within : (p q : ℕ → Bool) → ((s : ℕ) → q s ≡ true → p s ≡ true) → (xs : List ℕ)
    → bit_and (input_mask q xs) (input_mask p xs) ≡ input_mask q xs
unfolding input_mask
mask_within p q within [] = refl
mask_within p q within (s ∷ xs) = grind (arith, cond_bit, and_block, bit, input_mask-lt, within s, mask_within p q within xs)

pub row_fits : (inputs outputs : ℕ) (kind : Kind) (number : ℕ) (line : List ℕ) → length (symbols line) ≡ inputs + outputs
    → FitsSizes inputs outputs kind (row_of inputs kind number line)
unfolding row_of divides
row_fits inputs outputs kind number line len =
    let ins = take inputs (symbols line) in let outs = drop inputs (symbols line) in
    let on : ℕ → Bool = is_one_of (codes "14") in let off : ℕ → Bool = λ s. has_off kind && is_one_of (codes "0") s in
    let dc : ℕ → Bool = λ s. has_dc kind && is_one_of (codes "-2") s in
    let ins_len : length ins ≡ inputs = length-take-le inputs (symbols line) (omega arith) in
    let outs_len : length outs ≡ outputs = omega (arith, length-drop inputs (symbols line)) in
    let within = mask_within (is_one_of (codes "01")) (is_one_of (codes "1")) (λ s e. grind arith) ins in
    let on_or_off = masks_apart on off (λ s e. grind arith) outs in let on_or_dc = masks_apart on dc (λ s e. grind arith) outs in
    let off_or_dc = masks_apart off dc (λ s e. grind arith) outs in
    let no_off : has_off kind ≡ false → output_mask off outs ≡ 0 = λ e. mask_none off (λ s. rw e refl) outs in
    let no_dc : has_dc kind ≡ false → output_mask dc outs ≡ 0 = λ e. mask_none dc (λ s. rw e refl) outs in
    grind (arith, input_mask-lt, output_mask-lt)

-- ---- the numbers of the lines
