-- The word of a short line.
use Rattle.std.proofs.Common.{◌≡◌, ℕ, true, false, List, [], ◌∷◌, ◌++◌, length, take, refl, sym, ap, ◌∙◌, append-nil, append_assoc, inl}
use Rattle.std.proofs.Common.{inr, true≢false, eqb-true, subst}
use Rattle.std.specs.Prelude.{◌==◌, ◌||◌, nat_lt, codes}
use Rattle.std.specs.List.{slice_split, onto_first, list_any}
use Rattle.std.specs.Str.{bytes_eq}
use Rattle.std.specs.Io.BufRead.{strip_last}
use Rattle.std.proofs.lemmas.Bool.{cases_Bool}
use Rattle.pla_reader.specs.Lines.{before_comment, content, is_blank, words_of}
use Rattle.file_stream.specs.Files.{closes, says}
use Rattle.file_stream.specs.Digests.{is_solid, at_most_one, begins_comment, IsShort, empty, solid, ended}
use Rattle.file_stream.specs.Cutters.{has_no_feed}
use Rattle.lattice.proofs.Polynomials.{positive, strip_last-append, strip_last-cons, strip_last-cons₂, strip_one}
use Rattle.file_stream.proofs.Digests.{solid_passes, solid_cases, content-comment, content-word, words-word, blank_facts}

-- ---- a line without a blank

split-solid : (w : List ℕ) → is_solid w ≡ true → slice_split is_blank w ≡ w ∷ []
split-solid [] h = refl
split-solid (b ∷ w) h = let s = solid_cases b w h in rw (s.0) (ap (onto_first b) (split-solid w s.1))

words-solid : (w : List ℕ) → is_solid w ≡ true → words_of w ≡ at_most_one w
unfolding words_of
words-solid [] h = refl
words-solid (b ∷ w) h = rw (split-solid (b ∷ w) h, positive (length w)) refl

no_blank : (b last : ℕ) → is_blank b ≡ false → is_blank last ≡ true → (b == last) ≡ false
no_blank b last h e = elim (cases_Bool (b == last)) [
  | inl t ↦ absurd (true≢false (sym e ∙ (ap is_blank (sym (eqb-true b last t)) ∙ h)))
  | inr f ↦ f
]

strip-solid : (last : ℕ) (w : List ℕ) → is_blank last ≡ true → is_solid w ≡ true → strip_last last w ≡ w
strip-solid last [] e h = refl
strip-solid last (b ∷ w) e h =
    let s = solid_cases b w h in strip_last-cons last b w (no_blank b last s.0 e) ∙ ap (λ t. b ∷ t) (strip-solid last w e s.1)

solid-strip : (w : List ℕ) → is_solid w ≡ true → is_solid (strip_last 13 w) ≡ true
solid-strip [] h = refl
solid-strip (b ∷ []) h = elim (cases_Bool (b == 13)) [
  | inl t ↦ ap is_solid (strip_one 13 b t)
  | inr f ↦ ap is_solid (strip_last-cons 13 b [] f) ∙ h
]
solid-strip (b ∷ c ∷ w) h = let s = solid_cases b (c ∷ w) h in rw (strip_last-cons₂ 13 b c w, s.0) (solid-strip (c ∷ w) s.1)

comment-strip : (w : List ℕ) → begins_comment w ≡ false → begins_comment (strip_last 13 w) ≡ false
comment-strip [] h = refl
comment-strip (b ∷ []) h = elim (cases_Bool (b == 13)) [
  | inl t ↦ ap begins_comment (strip_one 13 b t)
  | inr f ↦ ap begins_comment (strip_last-cons 13 b [] f) ∙ h
]
comment-strip (b ∷ c ∷ w) h = ap begins_comment (strip_last-cons₂ 13 b c w) ∙ h

before-solid : (w : List ℕ) → is_solid w ≡ true → begins_comment w ≡ false → before_comment true w ≡ w
before-solid [] h n = refl
before-solid (b ∷ w) h n = let s = solid_cases b w h in
    rw (n, s.0) (ap (λ t. b ∷ t) (subst (λ t. before_comment false t ≡ t) (append-nil w) (solid_passes w [] s.1)))

strip-feed : (line : List ℕ) → strip_last 10 (line ++ 10 ∷ []) ≡ line
strip-feed line = strip_last-append 10 line 10 [] ∙ append-nil line

solid_word : (w : List ℕ) → is_solid w ≡ true → begins_comment w ≡ false
    → words_of (content (w ++ 10 ∷ [])) ≡ at_most_one (strip_last 9 (strip_last 32 (strip_last 13 w)))
unfolding content
solid_word w h n =
    let s = strip_last 13 w in let k : is_solid s ≡ true = solid-strip w h in
    let first : before_comment true (strip_last 13 (strip_last 10 (w ++ 10 ∷ []))) ≡ s
    = ap (λ t. before_comment true (strip_last 13 t)) (strip-feed w) ∙ before-solid s k (comment-strip w n) in
    let last : strip_last 9 (strip_last 32 s) ≡ s = ap (strip_last 9) (strip-solid 32 s refl k) ∙ strip-solid 9 s refl k in
    ap words_of first ∙ (words-solid s k ∙ ap at_most_one (sym last))

-- ---- a word and a blank

strip-blank : (w : List ℕ) (c : ℕ) → is_solid w ≡ true → is_blank c ≡ true → strip_last 9 (strip_last 32 (strip_last 13 (w ++ c ∷ []))) ≡ w
strip-blank w c k e =
    let stays : strip_last 13 (w ++ c ∷ []) ≡ w ++ c ∷ [] = strip_last-append 13 w c []
    ∙ ap (λ t. w ++ t) (strip_last-cons 13 c [] (blank_facts c e).1) in
    ap (λ t. strip_last 9 (strip_last 32 t)) stays ∙ elim (cases_Bool (c == 32)) [
      | inl t ↦ ap (strip_last 9) (strip_last-append 32 w c [] ∙ (ap (λ t. w ++ t) (strip_one 32 c t) ∙ append-nil w))
          ∙ strip-solid 9 w refl k
      | inr f ↦
          let tab : (c == 9) ≡ true = rw f at e in
          ap (strip_last 9) (strip_last-append 32 w c [] ∙ ap (λ t. w ++ t) (strip_last-cons 32 c [] f))
          ∙ (strip_last-append 9 w c [] ∙ (ap (λ t. w ++ t) (strip_one 9 c tab) ∙ append-nil w))
    ]

pub one_word : (d : List ℕ) → IsShort d → begins_comment d ≡ false
    → words_of (content (d ++ 10 ∷ [])) ≡ at_most_one (strip_last 9 (strip_last 32 (strip_last 13 d)))
one_word _ empty n = solid_word [] refl n
one_word _ (solid b w k) n = solid_word (b ∷ w) k n
one_word _ (ended b w c k m e) n =
    ap (λ t. words_of (content (b ∷ t))) (append_assoc w (c ∷ []) (10 ∷ []))
    ∙ (ap words_of (content-word b w c (10 ∷ []) k m e)
    ∙ (words-word b w c [] k e ∙ (ap (λ t. (b ∷ w) ∷ t) (words-solid [] refl) ∙ ap at_most_one (sym (strip-blank (b ∷ w) c k e)))))

pub comment_word : (d : List ℕ) → begins_comment d ≡ true → words_of (content (d ++ 10 ∷ [])) ≡ []
comment_word [] h = absurd (true≢false (sym h))
comment_word (b ∷ w) h = rw (eqb-true b 35 h) (ap words_of (content-comment (w ++ 10 ∷ [])) ∙ words-solid [] refl)

-- ---- the end of a stream

closing_word : (ws : List (List ℕ)) → list_any (λ word. bytes_eq word (codes ".e") || bytes_eq word (codes ".end")) (take 1 ws) ≡ true
    → nat_lt 0 (length ws) ≡ true
closing_word [] h = absurd (true≢false (sym h))
closing_word (w ∷ ws) h = positive (length ws)

-- something stands on a line that ends a file
pub closes_says : (line : List ℕ) → closes line ≡ true → says line ≡ true
closes_says line h = closing_word (words_of (content line)) h

pub feed_cases : (b : ℕ) (bs : List ℕ) → has_no_feed (b ∷ bs) ≡ true → ((b == 10) ≡ false) × (has_no_feed bs ≡ true)
feed_cases b bs h = elim (cases_Bool (b == 10)) [
  | inl t ↦ absurd (true≢false (sym (rw t at h)))
  | inr f ↦ (f, rw f at h)
]

strip-unfed : (line : List ℕ) → has_no_feed line ≡ true → strip_last 10 line ≡ line
strip-unfed [] h = refl
strip-unfed (b ∷ line) h = let c = feed_cases b line h in strip_last-cons 10 b line c.0 ∙ ap (λ t. b ∷ t) (strip-unfed line c.1)

content-feed : (line : List ℕ) → has_no_feed line ≡ true → content (line ++ 10 ∷ []) ≡ content line
unfolding content
content-feed line h = ap (λ t. before_comment true (strip_last 13 t)) (strip-feed line ∙ sym (strip-unfed line h))

-- the line feed of the last line may be missing
pub says-feed : (line : List ℕ) → has_no_feed line ≡ true → says (line ++ 10 ∷ []) ≡ says line
says-feed line h = ap (λ t. nat_lt 0 (length (words_of t))) (content-feed line h)

content-nothing : content [] ≡ []
unfolding content
content-nothing = refl

pub says-nothing : says [] ≡ false
says-nothing = rw (content-nothing, words-solid [] refl) refl
