-- Names that can be printed.
use Rattle.std.specs.Prelude.{ℕ, Bool, false, not, ◌&&◌, ◌||◌, ◌==◌, nat_lt, List, [], ◌∷◌, length, IsTrue, codes}
use Rattle.std.specs.List.{list_any, list_all}
use Rattle.std.specs.Char.{is_ascii_alphabetic, is_ascii_alphanumeric}
use Rattle.lattice.specs.Family.{is_distinct}
use Rattle.lattice.specs.Cofactors.{is_empty}

-- whether a plain name may go on with the byte: a letter, a digit or one of _ . [ ] < >
abbrev pub continues_name : ℕ → Bool
continues_name b = is_ascii_alphanumeric b || list_any (λ c. c == b) (codes "_.[]<>")

-- whether the name is plain: 1 to 32 bytes, the first of which is a letter or _
unfoldable pub is_plain : List ℕ → Bool
is_plain [] = false
is_plain (first ∷ rest) = nat_lt (length rest) 32 && ((is_ascii_alphabetic first || first == 95) && list_all continues_name rest)

-- whether there are names, all of them plain and no two of them the same
unfoldable pub are_plain : List (List ℕ) → Bool
are_plain names = not (is_empty names) && (list_all is_plain names && is_distinct names)

abbrev pub ArePlain : List (List ℕ) → Type 0
ArePlain names = IsTrue (are_plain names)
