-- The symbols of a line and of its parts, and the masks that they make.
use Rattle.std.proofs.Common.{◌≡◌, ℕ, ◌+◌, ◌*◌, ◌^◌, ◌%◌, ◌<◌, ◌≤◌, Bool, ◌&&◌, cond, bit_or, List, [], ◌∷◌, ◌++◌, length, get_or}
use Rattle.std.proofs.Common.{false, take, drop, length-drop, refl, sym, ap, arith}
use Rattle.std.specs.List.{list_all, count_by}
use Rattle.std.proofs.Math.Nat.{pow-succ'}
use Rattle.std.proofs.Math.Pow.{pow_mono}
use Rattle.std.proofs.lemmas.Nat.{pow_below}
use Rattle.std.specs.Int.Bits.{or_shifted_r}
use Rattle.std.proofs.lemmas.List.{length_push, take_more, get_or-drop, get_or-take, length-take, length-take-le}
use Rattle.std.proofs.lemmas.List.Folds.{list_all_at, list_all_more}
use Rattle.std.proofs.Math.Seq.{drop-cons}
use Rattle.std.proofs.lemmas.List.Sums.{length-filter}
use Rattle.std.proofs.lemmas.Grind.{common_steps}
use Rattle.pla_reader.specs.Grammar.{is_symbol, symbols}
use Rattle.pla_reader.specs.Reading.{input_mask, output_mask}

abbrev pub bit : Bool → ℕ
bit t = cond t 1 0

pub symbols_nil : symbols [] ≡ []
unfolding symbols
symbols_nil = refl

pub symbols_cons : (byte : ℕ) (line : List ℕ) → symbols (byte ∷ line) ≡ cond (is_symbol byte) (byte ∷ symbols line) (symbols line)
unfolding symbols
symbols_cons byte line = refl

pub symbols_at : (line : List ℕ) (i : ℕ) → i < length line → symbols (drop i line)
    ≡ cond (is_symbol (get_or line i 0)) (get_or line i 0 ∷ symbols (drop (i + 1) line)) (symbols (drop (i + 1) line))
unfolding symbols
symbols_at line i lt = grind (arith, drop-cons line i 0 lt)

pub count_is : (line : List ℕ) → count_by is_symbol line ≡ length (symbols line)
unfolding symbols
count_is line = sym (length-filter is_symbol line)

-- where no symbol is left
pub none_left : (all : List ℕ) (n : ℕ) → drop n all ≡ [] → length all ≤ n
none_left all n none = omega (arith, length-drop n all, ap length none)

-- the symbol behind the first so many
module _ (all : List ℕ) (n s : ℕ) (later : List ℕ) (next : drop n all ≡ s ∷ later) where
  pub one_left : n < length all
  one_left = omega (arith, length-drop n all, ap length next)

  pub next_is : get_or all n 0 ≡ s
  next_is = grind (arith, get_or-drop n all 0 0)

  pub next_taken : take (n + 1) all ≡ take n all ++ s ∷ []
  next_taken = grind (arith, take_more all n 0 one_left, next_is)

  pub next_dropped : drop (n + 1) all ≡ later
  next_dropped = grind (arith, drop-cons all n 0 one_left)

  module _ (good : ℕ → Bool) where
    pub next_good : list_all good (take (n + 1) all) ≡ (list_all good (take n all) && good s)
    next_good = rw (list_all_more good all n 0 one_left, next_is) refl

    pub one_bad : good s ≡ false → list_all good all ≡ false
    one_bad bad = list_all_at good all n 0 one_left (rw next_is bad)

    pub bad_taken : good s ≡ false → (m : ℕ) → n < m → list_all good (take m all) ≡ false
    bad_taken bad m lt =
        let long : n < length (take m all) = (let at = one_left in grind (arith, length-take)) in
        list_all_at good (take m all) n 0 long (rw (get_or-take m all n 0 lt, next_is) bad)

module _ (test : ℕ → Bool) where
  pub input_mask_nil : input_mask test [] ≡ 0
  unfolding input_mask
  input_mask_nil = refl

  pub output_mask_nil : output_mask test [] ≡ 0
  unfolding output_mask
  output_mask_nil = refl

  pub input_mask_push : (xs : List ℕ) (s : ℕ) → input_mask test (xs ++ s ∷ []) ≡ 2 * input_mask test xs + bit (test s)
  unfolding input_mask
  input_mask_push [] s = omega arith
  input_mask_push (x ∷ xs) s = grind (arith, common_steps, length_push xs s, pow-succ' 2 (length xs), input_mask_push xs s)

  pub input_mask-lt : (xs : List ℕ) → input_mask test xs < 2 ^ length xs
  unfolding input_mask
  input_mask-lt [] = omega arith
  input_mask-lt (x ∷ xs) = grind (arith, input_mask-lt xs, pow-succ' 2 (length xs))

  pub output_mask_push : (xs : List ℕ) (s : ℕ) → output_mask test (xs ++ s ∷ []) ≡ bit (test s) * 2 ^ length xs + output_mask test xs
  unfolding output_mask
  output_mask_push [] s = omega arith
  output_mask_push (x ∷ xs) s = grind (arith, output_mask_push xs s, pow-succ' 2 (length xs))

  pub output_mask-lt : (xs : List ℕ) → output_mask test xs < 2 ^ length xs
  unfolding output_mask
  output_mask-lt [] = omega arith
  output_mask-lt (x ∷ xs) = grind (arith, pow-succ' 2 (length xs), output_mask-lt xs)

  pub input_mask_small : (xs : List ℕ) → length xs ≤ 62 → input_mask test xs < 2 ^ 62
  input_mask_small xs few = let small : 2 ^ length xs ≤ 2 ^ 62 = pow_mono few in omega (arith, small, input_mask-lt xs)

pub or_next : (t : Bool) (k m : ℕ) → k < 64 → m < 2 ^ k → bit_or m (bit t * 2 ^ k % 2 ^ 64) ≡ bit t * 2 ^ k + m
or_next t k m few below = grind (arith, pow_below k 64 few, or_shifted_r (bit t) k m below)

-- the mask of outputs with the next symbol's bit
pub mask_next : (test : ℕ → Bool) (all : List ℕ) (n s : ℕ) (later : List ℕ) → drop n all ≡ s ∷ later → n < 64 → (m b : ℕ)
    → m ≡ output_mask test (take n all) → b ≡ bit (test s) → bit_or m (b * 2 ^ n % 2 ^ 64) ≡ output_mask test (take (n + 1) all)
mask_next test all n s later next few m b is is_bit =
    let lt = one_left all n s later next in let long = length-take-le n all (omega arith) in
    let below : output_mask test (take n all) < 2 ^ n = grind (arith, output_mask-lt test (take n all)) in
    rw (is, is_bit, next_taken all n s later next, output_mask_push, long) (or_next (test s) n (output_mask test (take n all)) few below)

pub ruleset row_steps = (common_steps, symbols_nil, symbols_cons, none_left, one_left, next_taken, next_dropped, next_good)

pub ruleset input_steps = (row_steps, input_mask_nil, input_mask_push, input_mask_small, bad_taken)

pub ruleset output_steps = (row_steps, output_mask_nil)
