-- The files that were sent, when one more is.
use Rattle.std.proofs.Common.{◌≡◌, ℕ, suc, ◌+◌, true, List, [], ◌∷◌, ◌++◌, length, refl, subst, arith}
use Rattle.file_relay.specs.Messages.{HasFile, HaveFiles, has_no_end}
use Rattle.file_relay.specs.declared.message.Message.{Message}
use Rattle.file_relay.specs.declared.message.Message.TheVariants.{File, End}

-- one more file
pub have-snoc : (n : ℕ) (ms : List Message) (fs : List (List ℕ)) (m : Message) (f : List ℕ) → HaveFiles n ms fs
    → HasFile (n + length fs) m f
    → HaveFiles n (ms ++ m ∷ []) (fs ++ f ∷ [])
have-snoc n [] [] m f h k = let e : n + 0 ≡ n = omega arith in (subst (λ x. HasFile x m f) e k, tt)
have-snoc n [] (g ∷ fs) m f h k = absurd h
have-snoc n (x ∷ ms) [] m f h k = absurd h
have-snoc n (x ∷ ms) (g ∷ fs) m f h k =
    let e : n + suc (length fs) ≡ n + 1 + length fs = omega arith in (h.0, have-snoc (n + 1) ms fs m f h.1 (subst (λ x. HasFile x m f) e k))

-- no end mark is among messages that have files
pub no_end_of : (n : ℕ) (ms : List Message) (fs : List (List ℕ)) → HaveFiles n ms fs → has_no_end ms ≡ true
no_end_of n [] fs h = refl
no_end_of n (m ∷ ms) [] h = absurd h
no_end_of n (File k piece ∷ ms) (f ∷ fs) h = no_end_of (n + 1) ms fs h.1
no_end_of n (End ∷ ms) (f ∷ fs) h = absurd h.0
