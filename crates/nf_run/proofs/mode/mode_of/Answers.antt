use Rattle.std.proofs.Common.{◌≡◌, ℕ, List, [], ◌∷◌, length, get_or, ap, arith, Bor, Option, Some}
use Rattle.std.specs.Prelude.{option_map, slice_get}
use Rattle.nf_run.proofs.mode.mode_of.Goals as goal

-- two words, by the second one
two_words : (words : List (List ℕ)) (word : Option (Bor (List ℕ))) (w : Bor (List ℕ)) → length words ≡ 2
    → option_map (λ w. w.now) word ≡ slice_get words 1 → word ≡ Some w → words ≡ get_or words 0 [] ∷ w.now ∷ []
two_words [] word w two at is = absurd (omega arith)
two_words (x ∷ []) word w two at is = absurd (omega arith)
two_words (x ∷ y ∷ []) word w two at is = cc (ap (option_map (λ (v : Bor (List ℕ)). v.now)) is)
two_words (x ∷ y ∷ z ∷ words) word w two at is = absurd (omega arith)

pub returns-in-Some-reduce-clause-asked : goal.returns-in-Some-reduce-clause-asked
returns-in-Some-reduce-clause-asked c = grind (arith, two_words c.args.words.now c.word.result)

pub returns-in-Some-union-clause-asked : goal.returns-in-Some-union-clause-asked
returns-in-Some-union-clause-asked c = grind (arith, two_words c.args.words.now c.word.result)

pub returns-in-Some-meet-clause-asked : goal.returns-in-Some-meet-clause-asked
returns-in-Some-meet-clause-asked c = grind (arith, two_words c.args.words.now c.word.result)
