-- The number that digits write, read up to a limit.
use Rattle.std.proofs.Common.{inl, inr, ◌≡◌, ℕ, suc, ◌+◌, ◌-◌, ◌*◌, ◌<◌, min, Bool, true, not, leb}
use Rattle.std.proofs.Common.{List, [], ◌∷◌, length, get_or, take, refl, arith}
use Rattle.std.specs.List.{list_all, position_or_len}
use Rattle.std.specs.Char.{digit_value, is_ascii_digit}
use Rattle.std.specs.Str.Parse.{digits_value}
use Rattle.std.proofs.lemmas.Bool.{cases_Bool, and_parts, leb-true, lt-ltb, le-ltb}
use Rattle.std.proofs.lemmas.Int.Digits.{digits_value_more}
use Rattle.std.proofs.lemmas.List.Sums.{AllPass-from_list_all}

digit_is : (byte : ℕ) → is_ascii_digit byte ≡ true → digit_value byte ≡ byte - 48
digit_is byte e = grind (arith, leb-true, and_parts, leb, le-ltb, lt-ltb)

capped : (cap v d n : ℕ) → v ≡ min cap n → min (v * 10 + d) cap ≡ min cap (n * 10 + d)
capped cap v d n e = omega arith

pub number_more : (cap : ℕ) (digits : List ℕ) (i v : ℕ) → i < length digits → list_all is_ascii_digit digits ≡ true
    → v ≡ min cap (digits_value 10 (take i digits))
    → min (v * 10 + (get_or digits i 0 - 48)) cap ≡ min cap (digits_value 10 (take (i + 1) digits))
number_more cap digits i v lt all e = grind (arith, digit_is, AllPass-from_list_all, capped, min, digits_value_more)

pub front_passes : (p : ℕ → Bool) (xs : List ℕ) → list_all p (take (position_or_len (λ x. not (p x)) xs) xs) ≡ true
front_passes p [] = refl
front_passes p (x ∷ xs) = let others = position_or_len (λ y. not (p y)) xs in elim (cases_Bool (p x)) [
  | inl e ↦ let one : 1 + others ≡ suc others = omega arith in rw (e, one) (rw e (front_passes p xs))
  | inr e ↦ rw e refl
]
