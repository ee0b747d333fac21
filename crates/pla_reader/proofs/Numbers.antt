-- The number that digits write, read up to a limit.
use Rattle.std.proofs.Common.{◌≡◌, ℕ, ◌+◌, ◌-◌, ◌*◌, ◌<◌, ◌≤◌, min, true, leb, List, length, get_or, take, arith}
use Rattle.std.specs.List.{list_all}
use Rattle.std.specs.Char.{digit_value, is_ascii_digit}
use Rattle.std.specs.Str.Parse.{digits_value}
use Rattle.std.proofs.lemmas.Bool.{and_parts, leb-true, lt-ltb, le-ltb}
use Rattle.std.proofs.lemmas.Int.Digits.{digits_value_more}
use Rattle.std.proofs.lemmas.List.Sums.{AllPass-from_list_all}

digit_is : (byte : ℕ) → is_ascii_digit byte ≡ true → (digit_value byte ≡ byte - 48) × (48 ≤ byte) × (byte ≤ 57)
digit_is byte e = grind (arith, leb-true, and_parts, leb, le-ltb, lt-ltb)

capped : (v d n : ℕ) → v ≡ min 1000 n → min (v * 10 + d) 1000 ≡ min 1000 (n * 10 + d)
capped v d n e = omega arith

pub number_more : (digits : List ℕ) (i v : ℕ) → i < length digits → list_all is_ascii_digit digits ≡ true
    → v ≡ min 1000 (digits_value 10 (take i digits))
    → min (v * 10 + (get_or digits i 0 - 48)) 1000 ≡ min 1000 (digits_value 10 (take (i + 1) digits))
number_more digits i v lt all e = grind (arith, digit_is, AllPass-from_list_all, capped, min, digits_value_more)
