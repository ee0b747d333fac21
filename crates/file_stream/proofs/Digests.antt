-- A short line stands for a longer one.
use Rattle.std.proofs.Common.{◌≡◌, ℕ, Bool, true, false, ltb, List, [], ◌∷◌, ◌++◌, length, refl, sym, ap, ◌∙◌}
use Rattle.std.proofs.Common.{append_assoc, arith, inl, inr, true≢false, eqb-true}
use Rattle.std.specs.Prelude.{◌&&◌, ◌||◌}
use Rattle.std.specs.Prelude.{◌==◌}
use Rattle.std.specs.Io.BufRead.{strip_last}
use Rattle.std.proofs.lemmas.Bool.{cases_Bool}
use Rattle.std.proofs.lemmas.Bool.Decides.{nat_tests}
use Rattle.lattice.proofs.Polynomials.{or_second, or_third, positive, strip_last-append, strip_last-cons, strip_last-cons₂}
use Rattle.pla_reader.specs.Lines.{before_comment, content, is_blank, words_of}
use Rattle.file_stream.specs.Files.{closes, says}
use Rattle.file_stream.specs.Digests.{ends_blank, IsShort, empty, solid, ended, Stands, after_byte, is_settled, is_solid}
use Rattle.std.specs.List.{filter, onto_first, slice_split}

pub Stands-nothing : Stands [] []
Stands-nothing = record { closes_too = λ rest. refl; says_too = λ rest. refl }

pub Stands-push : (short line : List ℕ) (b : ℕ) → Stands short line → Stands (short ++ b ∷ []) (line ++ b ∷ [])
Stands-push short line b h = record {
  closes_too = λ rest. ap closes (append_assoc short (b ∷ []) rest)
      ∙ (h.closes_too (b ∷ rest) ∙ sym (ap closes (append_assoc line (b ∷ []) rest)));
  says_too = λ rest. ap says (append_assoc short (b ∷ []) rest) ∙ (h.says_too (b ∷ rest) ∙ sym (ap says (append_assoc line (b ∷ []) rest)));
}

pub blank_facts : (b : ℕ) → is_blank b ≡ true → ((b == 10) ≡ false) × ((b == 13) ≡ false) × ((b == 35) ≡ false)
blank_facts b e = grind (arith, nat_tests)

content-blank : (b : ℕ) (line : List ℕ) → is_blank b ≡ true → content (b ∷ line) ≡ b ∷ content line
unfolding content
content-blank b line e =
    let f = blank_facts b e in
    rw (strip_last-cons 10 b line f.0, strip_last-cons 13 b (strip_last 10 line) f.1, f.2, e) refl

words-blank : (b : ℕ) (line : List ℕ) → is_blank b ≡ true → words_of (content (b ∷ line)) ≡ words_of (content line)
unfolding words_of
words-blank b line e = ap words_of (content-blank b line e) ∙ rw e refl

-- blanks in front say nothing
pub Stands-blank : (line : List ℕ) (b : ℕ) → is_blank b ≡ true → Stands [] line → Stands [] (line ++ b ∷ [])
Stands-blank line b e h = record {
  closes_too = λ rest. rw (← words-blank b rest e) (h.closes_too (b ∷ rest) ∙ sym (ap closes (append_assoc line (b ∷ []) rest)));
  says_too = λ rest. rw (← words-blank b rest e) (h.says_too (b ∷ rest) ∙ sym (ap says (append_assoc line (b ∷ []) rest)));
}

-- ---- a comment

pub content-comment : (line : List ℕ) → content (35 ∷ line) ≡ []
unfolding content
content-comment line = rw (strip_last-cons 10 35 line refl, strip_last-cons 13 35 (strip_last 10 line) refl) refl

pub same_comment : (r s : List ℕ) → (closes (35 ∷ r) ≡ closes (35 ∷ s)) × (says (35 ∷ r) ≡ says (35 ∷ s))
same_comment r s = (rw (content-comment r, content-comment s) refl, rw (content-comment r, content-comment s) refl)

-- ---- a word and a blank

pub solid_cases : (b : ℕ) (bs : List ℕ) → is_solid (b ∷ bs) ≡ true → (is_blank b ≡ false) × (is_solid bs ≡ true)
solid_cases b bs h = elim (cases_Bool (is_blank b)) [
  | inl t ↦ absurd (true≢false (sym (rw t at h)))
  | inr f ↦ (f, rw f at h)
]

pub solid_passes : (w t : List ℕ) → is_solid w ≡ true → before_comment false (w ++ t) ≡ w ++ before_comment false t
solid_passes [] t h = refl
solid_passes (b ∷ w) t h = let s = solid_cases b w h in rw (s.0) (ap (λ l. b ∷ l) (solid_passes w t s.1))

-- a word in front of a line whose line feed is taken off behind the byte that follows the word
content-front : (x : ℕ) (w : List ℕ) (a : ℕ) (rest r : List ℕ) → is_solid (x ∷ w) ≡ true → (x == 35) ≡ false
    → strip_last 10 (a ∷ rest) ≡ a ∷ r → content ((x ∷ w) ++ a ∷ rest) ≡ (x ∷ w) ++ before_comment false (strip_last 13 (a ∷ r))
unfolding content
content-front x w a rest r h n e =
    let s = solid_cases x w h in let t = strip_last 13 (a ∷ r) in
    let one = strip_last-append 10 (x ∷ w) a rest ∙ ap (λ l. (x ∷ w) ++ l) e in
    let last : before_comment true ((x ∷ w) ++ t) ≡ (x ∷ w) ++ before_comment false t
    = rw (n, s.0) (ap (λ l. x ∷ l) (solid_passes w t s.1)) in
    ap (λ l. before_comment true (strip_last 13 l)) one ∙ (ap (before_comment true) (strip_last-append 13 (x ∷ w) a r) ∙ last)

pub content-word : (b : ℕ) (w : List ℕ) (c : ℕ) (rest : List ℕ) → is_solid (b ∷ w) ≡ true → (b == 35) ≡ false → is_blank c ≡ true
    → content ((b ∷ w) ++ c ∷ rest) ≡ (b ∷ w) ++ c ∷ before_comment true (strip_last 13 (strip_last 10 rest))
content-word b w c rest h n e =
    let f = blank_facts c e in let r = strip_last 10 rest in
    let blank : before_comment false (c ∷ strip_last 13 r) ≡ c ∷ before_comment true (strip_last 13 r) = rw e refl in
    content-front b w c rest r h n (strip_last-cons 10 c rest f.0)
    ∙ ap (λ l. (b ∷ w) ++ l) (ap (before_comment false) (strip_last-cons 13 c r f.1) ∙ blank)

split-word : (w : List ℕ) (c : ℕ) (s : List ℕ) → is_solid w ≡ true → is_blank c ≡ true
    → slice_split is_blank (w ++ c ∷ s) ≡ w ∷ slice_split is_blank s
split-word [] c s h e = rw e refl
split-word (b ∷ w) c s h e = let k = solid_cases b w h in rw (k.0) (ap (onto_first b) (split-word w c s k.1 e))

pub words-word : (b : ℕ) (w : List ℕ) (c : ℕ) (s : List ℕ) → is_solid (b ∷ w) ≡ true → is_blank c ≡ true
    → words_of ((b ∷ w) ++ c ∷ s) ≡ (b ∷ w) ∷ words_of s
unfolding words_of
words-word b w c s h e = rw (split-word (b ∷ w) c s h e, positive (length w)) refl

pub same_word : (b : ℕ) (w : List ℕ) (c : ℕ) (r s : List ℕ) → is_solid (b ∷ w) ≡ true → (b == 35) ≡ false → is_blank c ≡ true
    → (closes ((b ∷ w) ++ c ∷ r) ≡ closes ((b ∷ w) ++ c ∷ s)) × (says ((b ∷ w) ++ c ∷ r) ≡ says ((b ∷ w) ++ c ∷ s))
same_word b w c r s h n e =
    let words = λ (t : List ℕ). ap words_of (content-word b w c t h n e)
    ∙ words-word b w c (before_comment true (strip_last 13 (strip_last 10 t))) h e in
    let something = λ (t : List ℕ). ap (λ (l : List (List ℕ)). ltb 0 (length l)) (words t)
    ∙ positive (length (words_of (before_comment true (strip_last 13 (strip_last 10 t))))) in
    (rw (words r, words s) refl, something r ∙ sym (something s))

-- ---- a word of five bytes or more

-- what stands behind the word
abbrev behind : (a b : ℕ) (rest : List ℕ) → List ℕ
behind a b rest = before_comment false (strip_last 13 (a ∷ strip_last 10 (b ∷ rest)))

abbrev Splits : List ℕ → List ℕ → Type 0
Splits w t = (p : List ℕ) × (ps : List (List ℕ)) × (slice_split is_blank (w ++ t) ≡ (w ++ p) ∷ ps)

split_some : (t : List ℕ) → Splits [] t
split_some [] = ([], [], refl)
split_some (x ∷ t) = elim (cases_Bool (is_blank x)) [
  | inl e ↦ ([], slice_split is_blank t, rw e refl)
  | inr e ↦ let r = split_some t in (x ∷ r.0, r.1, rw (e, r.2) refl)
]

split_long : (w t : List ℕ) → is_solid w ≡ true → Splits w t
split_long [] t h = split_some t
split_long (b ∷ w) t h = let s = solid_cases b w h in let r = split_long w t s.1 in (r.0, r.1, rw (s.0, r.2) refl)

words-long : (b : ℕ) (w t : List ℕ) → is_solid (b ∷ w) ≡ true
    → (p : List ℕ) × (ps : List (List ℕ)) × (words_of ((b ∷ w) ++ t) ≡ ((b ∷ w) ++ p) ∷ ps)
unfolding words_of
words-long b w t h = let r = split_long (b ∷ w) t h in
    (r.0, filter (λ word. ltb 0 (length word)) r.1, rw (r.2, positive (length (w ++ r.0))) refl)

neither : (x y u v m n : Bool) → (x && (y && false)) || (u && (v && (m && (n && false)))) ≡ false
neither x y u v m n = grind (arith, cases_Bool)

pub same_long : (a₁ a₂ a₃ a₄ a₅ a b : ℕ) (rest : List ℕ) → is_solid (a₁ ∷ a₂ ∷ a₃ ∷ a₄ ∷ a₅ ∷ []) ≡ true → (a₁ == 35) ≡ false
    → (closes (a₁ ∷ a₂ ∷ a₃ ∷ a₄ ∷ a₅ ∷ a ∷ b ∷ rest) ≡ false) × (says (a₁ ∷ a₂ ∷ a₃ ∷ a₄ ∷ a₅ ∷ a ∷ b ∷ rest) ≡ true)
same_long a₁ a₂ a₃ a₄ a₅ a b rest h n =
    let w : List ℕ = a₂ ∷ a₃ ∷ a₄ ∷ a₅ ∷ [] in
    let r = words-long a₁ w (behind a b rest) h in
    let words = ap words_of (content-front a₁ w a (b ∷ rest) (strip_last 10 (b ∷ rest)) h n (strip_last-cons₂ 10 a b rest)) ∙ r.2 in (
      rw words (ap (λ t. t || false) (neither (a₁ == 46) (a₂ == 101) (a₁ == 46) (a₂ == 101) (a₃ == 110) (a₄ == 100))),
      ap (λ (l : List (List ℕ)). ltb 0 (length l)) words ∙ positive (length r.1),
    )

-- ---- one more byte

last-solid : (b : ℕ) (w : List ℕ) → is_solid (b ∷ w) ≡ true → ends_blank (b ∷ w) ≡ false
last-solid b [] h = (solid_cases b [] h).0
last-solid b (x ∷ w) h = last-solid x w (solid_cases b (x ∷ w) h).1

last-ended : (b : ℕ) (w : List ℕ) (c : ℕ) → ends_blank (b ∷ (w ++ c ∷ [])) ≡ is_blank c
last-ended b [] c = refl
last-ended b (x ∷ w) c = last-ended x w c

solid-snoc : (w : List ℕ) (c : ℕ) → is_solid w ≡ true → is_blank c ≡ false → is_solid (w ++ c ∷ []) ≡ true
solid-snoc [] c h e = rw e refl
solid-snoc (b ∷ w) c h e = let s = solid_cases b w h in rw (s.0) (solid-snoc w c s.1 e)

-- where a byte behind the short line changes nothing
Stands-same : (short line : List ℕ) (b : ℕ)
    → ((r s : List ℕ) → (closes (short ++ r) ≡ closes (short ++ s)) × (says (short ++ r) ≡ says (short ++ s)))
    → Stands short line → Stands short (line ++ b ∷ [])
Stands-same short line b same h = record {
  closes_too = λ rest. (same rest (b ∷ rest)).0 ∙ (h.closes_too (b ∷ rest) ∙ sym (ap closes (append_assoc line (b ∷ []) rest)));
  says_too = λ rest. (same rest (b ∷ rest)).1 ∙ (h.says_too (b ∷ rest) ∙ sym (ap says (append_assoc line (b ∷ []) rest)));
}

pub after_settled : (x : ℕ) (w : List ℕ) (b : ℕ) → is_settled (x ∷ w) ≡ true → after_byte (x ∷ w) b ≡ x ∷ w
after_settled x w b e = rw e refl

pub after_open : (x : ℕ) (w : List ℕ) (b : ℕ) → is_settled (x ∷ w) ≡ false → after_byte (x ∷ w) b ≡ (x ∷ w) ++ b ∷ []
after_open x w b e = rw e refl

abbrev Same : List ℕ → Type 0
Same short = (r s : List ℕ) → (closes (short ++ r) ≡ closes (short ++ s)) × (says (short ++ r) ≡ says (short ++ s))

front_solid : (a₁ a₂ a₃ a₄ a₅ : ℕ) (w : List ℕ) → is_solid (a₁ ∷ a₂ ∷ a₃ ∷ a₄ ∷ a₅ ∷ w) ≡ true
    → is_solid (a₁ ∷ a₂ ∷ a₃ ∷ a₄ ∷ a₅ ∷ []) ≡ true
front_solid a₁ a₂ a₃ a₄ a₅ w h =
    let s₁ = solid_cases a₁ (a₂ ∷ a₃ ∷ a₄ ∷ a₅ ∷ w) h in let s₂ = solid_cases a₂ (a₃ ∷ a₄ ∷ a₅ ∷ w) s₁.1 in
    let s₃ = solid_cases a₃ (a₄ ∷ a₅ ∷ w) s₂.1 in let s₄ = solid_cases a₄ (a₅ ∷ w) s₃.1 in let s₅ = solid_cases a₅ w s₄.1 in
    rw (s₁.0, s₂.0, s₃.0, s₄.0, s₅.0) refl

same_seven : (x : ℕ) (w : List ℕ) → is_solid (x ∷ w) ≡ true → (x == 35) ≡ false → length (x ∷ w) ≡ 7 → Same (x ∷ w)
same_seven x [] k n l = absurd (omega arith)
same_seven x (a ∷ []) k n l = absurd (omega arith)
same_seven x (a ∷ b ∷ []) k n l = absurd (omega arith)
same_seven x (a ∷ b ∷ c ∷ []) k n l = absurd (omega arith)
same_seven x (a ∷ b ∷ c ∷ d ∷ []) k n l = absurd (omega arith)
same_seven x (a ∷ b ∷ c ∷ d ∷ e ∷ []) k n l = absurd (omega arith)
same_seven x (a ∷ b ∷ c ∷ d ∷ e ∷ f ∷ []) k n l =
    let h = front_solid x a b c d (e ∷ f ∷ []) k in
    λ r s. let p = same_long x a b c d e f r h n in let q = same_long x a b c d e f s h n in (p.0 ∙ sym q.0, p.1 ∙ sym q.1)
same_seven x (a ∷ b ∷ c ∷ d ∷ e ∷ f ∷ g ∷ t) k n l = absurd (omega arith)

same_settled : (x : ℕ) (w : List ℕ) → is_solid (x ∷ w) ≡ true → is_settled (x ∷ w) ≡ true → Same (x ∷ w)
same_settled x w k e = elim (cases_Bool (x == 35)) [
  | inl c ↦ rw (eqb-true x 35 c) (λ r s. same_comment (w ++ r) (w ++ s))
  | inr n ↦ elim (cases_Bool (length (x ∷ w) == 7)) [
    | inl l ↦ same_seven x w k n (eqb-true (length (x ∷ w)) 7 l)
    | inr l ↦ absurd (true≢false (sym (rw (l, n, last-solid x w k) at e)))
  ]
]

no_comment : (x : ℕ) (w : List ℕ) → is_settled (x ∷ w) ≡ false → (x == 35) ≡ false
no_comment x w e = elim (cases_Bool (x == 35)) [
  | inl c ↦ absurd (true≢false (sym (or_second (length (x ∷ w) == 7) (x == 35) (ends_blank (x ∷ w)) c) ∙ e))
  | inr n ↦ n
]

short-snoc : (x : ℕ) (w : List ℕ) (b : ℕ) → is_solid (x ∷ w) ≡ true → is_settled (x ∷ w) ≡ false → IsShort ((x ∷ w) ++ b ∷ [])
short-snoc x w b k e = elim (cases_Bool (is_blank b)) [
  | inl c ↦ ended x w b k (no_comment x w e) c
  | inr c ↦ solid x (w ++ b ∷ []) (solid-snoc (x ∷ w) b k c)
]

-- what is kept after one more byte stands for the longer line
pub stands_after : (short line : List ℕ) (b : ℕ) → IsShort short → Stands short line
    → Stands (after_byte short b) (line ++ b ∷ []) × IsShort (after_byte short b)
stands_after _ line b empty h = elim (cases_Bool (is_blank b)) [
  | inl e ↦ rw e (Stands-blank line b e h, empty)
  | inr e ↦ rw e (Stands-push [] line b h, solid b [] (rw e refl))
]
stands_after _ line b (solid x w k) h = elim (cases_Bool (is_settled (x ∷ w))) [
  | inl e ↦ rw (after_settled x w b e) (Stands-same (x ∷ w) line b (same_settled x w k e) h, solid x w k)
  | inr e ↦ rw (after_open x w b e) (Stands-push (x ∷ w) line b h, short-snoc x w b k e)
]
stands_after _ line b (ended x w c k n e) h =
    let settled : is_settled (x ∷ (w ++ c ∷ [])) ≡ true
    = or_third (length (x ∷ (w ++ c ∷ [])) == 7) (x == 35) (ends_blank (x ∷ (w ++ c ∷ []))) (last-ended x w c ∙ e) in
    let same : Same (x ∷ (w ++ c ∷ []))
    = λ r s. rw (append_assoc (x ∷ w) (c ∷ []) r, append_assoc (x ∷ w) (c ∷ []) s) (same_word x w c r s k n e) in
    rw (after_settled x (w ++ c ∷ []) b settled) (Stands-same (x ∷ (w ++ c ∷ [])) line b same h, ended x w c k n e)

-- what is kept at the end of a line answers for it
pub stands_at : (short line : List ℕ) → Stands short line
    → (closes (short ++ 10 ∷ []) ≡ closes (line ++ 10 ∷ [])) × (says (short ++ 10 ∷ []) ≡ says (line ++ 10 ∷ []))
stands_at short line h = (h.closes_too (10 ∷ []), h.says_too (10 ∷ []))
