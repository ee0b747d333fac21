-- A text cut at a byte, the factors, terms and lines of an answer in turn, and that what they give fits the description.
use Rattle.std.proofs.Common.{◌≡◌, ℕ, ◌+◌, ◌-◌, cond, ltb, eqb, List, [], ◌∷◌, length, take, drop, Option, Some, None, Bor, rules, arith}
use Rattle.std.proofs.Common.{◌*◌, ◌^◌, ◌<◌, ◌≤◌, Bool, true, false, not, ◌||◌, codes, refl, sym, ap, ◌∙◌, ◌&&◌, ◌++◌, append_assoc}
use Rattle.std.proofs.Common.{bytes_eq, ⊎_elim, Ok, Err, zero, suc, map, reverse, Result, subst, IfOk}
use Rattle.std.specs.List.{position_or_len, list_all, All}
use Rattle.std.proofs.lemmas.Bool.{cases_lt, lt-ltb, le-ltb, false≢true, and_parts, lt-leb, le-leb, cases_Bool, ne_eqb}
use Rattle.std.proofs.lemmas.List.{take_all, length-drop, append-nil, length_push, nil_from_length}
use Rattle.std.proofs.lemmas.List.Sums.{fails_before_first, sum_by-cons}
use Rattle.std.proofs.lemmas.List.Splits.{slice_split_none, slice_split_first, join_with_byte-slice_split, length-slice_split}
use Rattle.cert_check.specs.Reading.{parts, is_term, terms_in, factors_of, place_of, factors_product, monomial_of, are_known, ascends_from}
use Rattle.cert_check.specs.Reading.{monomials_of, are_ordered, is_sum, words, is_right, is_left, is_line, is_element, left_fault}
use Rattle.cert_check.specs.Reading.{right_fault, line_fault, with_element, with_line, bare, Reading, read_on, GivesAnswer, is_next}
use Rattle.cert_check.specs.Reading.{left_of, right_of}
use Rattle.std.proofs.lemmas.Grind.{pow_more}
use Rattle.std.proofs.Math.Nat.{pow-le-pow_right, mul_comm}
use Rattle.lattice.specs.Words.{includes, is_empty, has, IsFamily}
use Rattle.std.specs.Option.{option_or, option_map_or}
use Rattle.std.specs.List.Sorted.{IsStrictlyIncreasing}
use Rattle.std.proofs.Math.Bool.{and-false}
use Rattle.std.proofs.lemmas.Bool.Decides.{nat_tests}
use Rattle.std.proofs.lemmas.Slice.Eq.{bytes_eq-Decides}
use Rattle.std.proofs.lemmas.List.Elements.{All-nil, All-cons, All-push, All-head, All-tail}
use Rattle.lattice.proofs.Polynomials.{has_none, has_cases, ascends-nil, is_family, place_within}
use Rattle.pla_reader.specs.declared.refusal.LineRefusal.{LineRefusal}
use Rattle.pla_reader.specs.Parts.{Stops, text_refusal}
use Rattle.pla_reader.specs.Lines.{lines_of}
use Rattle.pla_reader.specs.Reading.{Description}
use Rattle.cert_check.specs.declared.answer.Given.{Given}
use Rattle.cert_check.specs.declared.answer.GivenOutput.{GivenOutput}
use Rattle.cert_check.specs.declared.refusal.AnswerWhy.{AnswerWhy}
use Rattle.cert_check.specs.declared.refusal.AnswerWhy.TheVariants.{BadLine, MissingOutput}
use Rattle.cert_check.specs.Right.{polynomial, IsOutputOver, IsAnswerFor}
use Rattle.pla_reader.specs.declared.refusal.TextRefusal.{TextRefusal}
use Rattle.cert_check.proofs.Points.{has-reverse, ascends_below}
use Rattle.pla_reader.specs.declared.refusal.LineRefusal.TheVariants as line_refusal

-- how much is left, and one more where anything is
abbrev pub left_length : Option (Bor (List ℕ)) → ℕ
left_length None = 0
left_length (Some rest) = length rest.now + 1

abbrev place : (byte : ℕ) → List ℕ → ℕ
place byte text = position_or_len (λ b. eqb b byte) text

-- what a search for the byte answers
abbrev pub FindsByte : ℕ → List ℕ → Option ℕ → Type 0
FindsByte byte text found = found ≡ cond (ltb (place byte text) (length text)) (Some (place byte text)) None

pub parts_whole : (byte : ℕ) (text : List ℕ) (found : Option ℕ) → FindsByte byte text found → found ≡ None → parts byte text ≡ text ∷ []
parts_whole byte text found is none = grind (arith, lt-ltb, slice_split_none, eqb, fails_before_first, cases_lt)

pub parts_first : (byte : ℕ) (text : List ℕ) (found : Option ℕ) (end : ℕ) → FindsByte byte text found → found ≡ Some end
    → parts byte text ≡ take end text ∷ parts byte (take (length text - (end + 1)) (drop (end + 1) text))
parts_first byte text found end is some = search (rules, arith, place, lt-ltb, take_all, length-drop, slice_split_first, le-ltb, cases_lt)

-- ==== The terms and the factors on the right side of a line, read one after the other.

pub factors_of_other : (term : List ℕ) → bytes_eq term (codes "1") ≡ false → factors_of term ≡ parts 42 term
unfolding factors_of
factors_of_other term other = rw other refl

-- the words that are terms are all known where each word is no term, or known
pub known_by_words : (names : List (List ℕ)) (words : List (List ℕ)) → list_all
    (λ word. not (is_term word) || list_all (includes names) (factors_of word)) words ≡ are_known names (terms_in words)
unfolding terms_in are_known
known_by_words names [] = refl
known_by_words names (word ∷ words) = grind (arith, known_by_words names words)

-- ---- the places of names

-- the place of a name that is one of the names is one of theirs
pub known_place : (names : List (List ℕ)) (name : List ℕ) → includes names name ≡ true → place_of names name < length names
unfolding includes
known_place names name known = place_within (λ other. bytes_eq other name) names known

-- ---- the factors of a term

-- what is read of the factors, and what is left of them
pub record ReadsFactors (names factors left : List (List ℕ)) (product least : ℕ) : Type 0 where
  pub known : list_all (includes names) left ≡ true
  pub ascends : ascends_from names least left ≡ ascends_from names 0 factors
  pub product_is : product + factors_product names left ≡ factors_product names factors
  pub within : least ≤ length names
  pub room : product + 2 ^ (length names - least) ≤ 2 ^ length names

module _ (names factors rest : List (List ℕ)) (name : List ℕ) (place product least : ℕ)
    (so_far : ReadsFactors names factors (name ∷ rest) product least) (is : place ≡ place_of names name) where
  pub factor_within : place < length names
  factor_within = rw is (known_place names name (and_parts (includes names name) (list_all (includes names) rest) so_far.known).0)

  pub factors_fall : place < least → ascends_from names 0 factors ≡ false
  unfolding ascends_from
  factors_fall less = sym so_far.ascends ∙ rw (lt-leb least (place_of names name) (rw (← is) less)) refl

  pub factors_more : (weight : ℕ) → least ≤ place → weight ≡ 2 ^ (length names - 1 - place)
      → ReadsFactors names factors rest (product + weight) (place + 1)
  unfolding ascends_from factors_product
  factors_more weight less weight_is =
      let small = factor_within in
      let up : 2 ^ (length names - place) ≤ 2 ^ (length names - least) = pow-le-pow_right (omega arith) (omega arith) in
      let doubled : 2 ^ (length names - place) ≡ 2 * 2 ^ (length names - 1 - place) = ap (λ (e : ℕ). 2 ^ e) (omega arith)
      ∙ pow_more 2 (length names - 1 - place) ∙ mul_comm (2 ^ (length names - 1 - place)) 2 in
      let same : 2 ^ (length names - (place + 1)) ≡ 2 ^ (length names - 1 - place) = ap (λ (e : ℕ). 2 ^ e) (omega arith) in
      let here : 2 ^ (length names - 1 - place_of names name) ≡ weight = rw (← is) (sym weight_is) in
      let whole = so_far.product_is in
      let cons = sum_by-cons (λ other. 2 ^ (length names - 1 - place_of names other)) name rest in
      grind (arith, and_parts, le-leb)

pub factors_whole : (names factors : List (List ℕ)) (product least : ℕ) → ReadsFactors names factors [] product least
    → (ascends_from names 0 factors ≡ true) × (product ≡ factors_product names factors)
unfolding ascends_from factors_product
factors_whole names factors product least so_far = (sym so_far.ascends, let e = so_far.product_is in omega (arith, e))

-- the term 1 has no factors
pub one_ascends : (names : List (List ℕ)) (term : List ℕ) → bytes_eq term (codes "1") ≡ true → ascends_from names 0 (factors_of term) ≡ true
unfolding ascends_from factors_of
one_ascends names term one = rw one refl

pub one_is : (names : List (List ℕ)) (term : List ℕ) → bytes_eq term (codes "1") ≡ true → 0 ≡ monomial_of names term
unfolding monomial_of factors_product factors_of
one_is names term one = rw one refl

-- ==== The terms on the right side of a line, read one after the other

-- what is read of the terms, and what is left of the words
pub record ReadsTerms (names words left : List (List ℕ)) (limit : ℕ) (monos : List ℕ) : Type 0 where
  pub known : are_known names (terms_in left) ≡ true
  pub ordered : are_ordered names limit (terms_in left) ≡ are_ordered names (2 ^ length names) (terms_in words)
  pub monos_are : monos ++ monomials_of names left ≡ monomials_of names words

pub terms_none : (names words : List (List ℕ)) (limit : ℕ) (monos : List ℕ) → are_known names (terms_in words) ≡ true
    → limit ≡ 2 ^ length names → monos ≡ [] → ReadsTerms names words words limit monos
terms_none names words limit monos known limit_is none = record { known = known; ordered = rw limit_is refl; monos_are = rw none refl }

module _ (names words rest : List (List ℕ)) (word : List ℕ) (limit : ℕ) (monos : List ℕ)
    (so_far : ReadsTerms names words (word ∷ rest) limit monos) where
  pub terms_skip : is_term word ≡ false → ReadsTerms names words rest limit monos
  unfolding terms_in monomials_of
  terms_skip other = search (rules, arith)

  module _ (term : is_term word ≡ true) where
    both_known : (list_all (includes names) (factors_of word) ≡ true) × (are_known names (terms_in rest) ≡ true)
    unfolding terms_in are_known
    both_known = and_parts (list_all (includes names) (factors_of word)) _ (rw term at so_far.known)

    pub term_known : list_all (includes names) (factors_of word) ≡ true
    term_known = both_known.0

    ordered_here : are_ordered names (2 ^ length names) (terms_in words) ≡ (ascends_from names 0 (factors_of word) &&
        (ltb (monomial_of names word) limit && are_ordered names (monomial_of names word) (terms_in rest)))
    unfolding terms_in are_ordered
    ordered_here = sym so_far.ordered ∙ rw term refl

    pub factors_refused : ascends_from names 0 (factors_of word) ≡ false → are_ordered names (2 ^ length names) (terms_in words) ≡ false
    factors_refused falls = ordered_here ∙ rw falls refl

    module _ (m : ℕ) (ascends : ascends_from names 0 (factors_of word) ≡ true) (is : m ≡ monomial_of names word) where
      pub term_refused : limit ≤ m → are_ordered names (2 ^ length names) (terms_in words) ≡ false
      term_refused most = ordered_here ∙ rw (ascends, ← is, le-ltb m limit most) refl

      pub terms_more : (new : List ℕ) → m < limit → new ≡ monos ++ m ∷ [] → ReadsTerms names words rest m new
      unfolding terms_in monomials_of
      terms_more new less new_is = search (rules, arith, both_known, ordered_here, lt-ltb, append_assoc)

pub terms_whole : (names words : List (List ℕ)) (limit : ℕ) (monos : List ℕ) → ReadsTerms names words [] limit monos
    → (are_ordered names (2 ^ length names) (terms_in words) ≡ true) × (monos ≡ monomials_of names words)
unfolding terms_in are_ordered monomials_of
terms_whole names words limit monos so_far = (sym so_far.ordered, sym (append-nil monos) ∙ so_far.monos_are)

-- ==== A sum, read term by term

pub no_sum : (term : List ℕ) (words : List (List ℕ)) → is_term term ≡ false → is_sum (term ∷ words) ≡ false
unfolding is_sum
no_sum term [] other = other
no_sum term (joint ∷ words) other = rw other refl

pub sum_step : (term joint : List ℕ) (words : List (List ℕ)) → is_term term ≡ true
    → is_sum (term ∷ joint ∷ words) ≡ (bytes_eq joint (codes "+") && is_sum words)
unfolding is_sum
sum_step term joint words good = rw good refl

-- ==== The form of a line, the lines of an answer in turn, and that what they give fits the description.

-- a right side is 0 alone, or a sum
zero_from : (right : List ℕ) (ws : List (List ℕ)) → words right ≡ ws → is_right ws ≡ (bytes_eq right (codes "0") || is_sum ws)
zero_from [] [] cut = cc
zero_from (b ∷ right) [] cut = absurd (omega (arith, length-slice_split (λ x. eqb x 32) (b ∷ right), ap length cut))
zero_from right (w ∷ []) cut = cc (join_with_byte-slice_split 32 right)
zero_from right (w ∷ v ∷ ws) cut = search (rules, arith, bytes_eq-Decides, cases_Bool)

pub right_by_sum : (right : List ℕ) (sum : Bool) → bytes_eq right (codes "0") ≡ false → sum ≡ is_sum (words right) →
    sum ≡ is_right (words right)
right_by_sum right sum other is = rw (zero_from right (words right) refl, other) is

-- a line of two words has no right side
pub two_words : (line left rest last : List ℕ) → words line ≡ left ∷ words rest → words rest ≡ last ∷ [] → is_line (words line) ≡ false
unfolding is_line is_sum
two_words line left rest last cut ends = rw (cut, ends, and-false (bytes_eq last (codes "=")), and-false (is_left left)) refl

-- ---- faults of a line

module _ (ins outs : List (List ℕ)) (before : ℕ) (line : List (List ℕ)) where
  pub bad_line : is_line line ≡ false → line_fault ins outs before line ≡ Some BadLine
  unfolding line_fault
  bad_line bad = rw bad refl

  module _ (left right : List ℕ) (good : is_line line ≡ true) (cut : line ≡ left ∷ codes "=" ∷ words right) where
    line_fault-sides : line_fault ins outs before line ≡ option_or (left_fault outs before left) (right_fault ins (words right))
    unfolding line_fault
    line_fault-sides = rw good (rw cut refl)

    pub left_stops : (why : AnswerWhy) → left_fault outs before left ≡ Some why → line_fault ins outs before line ≡ Some why
    left_stops why fault = rw (line_fault-sides, fault) refl

    pub right_stops : (e : LineRefusal AnswerWhy) → left_fault outs before left ≡ None → Stops e (right_fault ins (words right))
        → Stops e (line_fault ins outs before line)
    right_stops e fine stops = rw (line_fault-sides, fine) stops

    pub no_fault : left_fault outs before left ≡ None → right_fault ins (words right) ≡ None → line_fault ins outs before line ≡ None
    no_fault fine well = rw (line_fault-sides, fine) well

    pub adds_element : (read new : List GivenOutput) (number : ℕ) (terms : List ℕ) → is_element left ≡ true → terms ≡
        monomials_of ins (words right) → new ≡ with_element read (record { terms = terms; line = number }) → new ≡
        with_line ins read number line
    unfolding with_line
    adds_element read new number terms element is new_is = rw cut (rw element (rw (← is) new_is))

    pub adds_output : (read new : List GivenOutput) (number : ℕ) (terms : List ℕ) (none : List Given) → is_element
        left ≡ false → terms ≡ monomials_of ins (words right) → none ≡ [] → new ≡ read ++ record
        { poly = record { terms = terms; line = number }; basis = none } ∷ [] → new ≡ with_line ins read number line
    unfolding with_line
    adds_output read new number terms none other is none_is new_is = rw cut (rw other (rw (← is, ← none_is) new_is))

-- ---- one more element

pub with_element-push : (read : List GivenOutput) (output : GivenOutput) (element : Given) → with_element
    (read ++ output ∷ []) element ≡ read ++ record { poly = output.poly; basis = output.basis ++ element ∷ [] } ∷ []
unfolding with_element
with_element-push [] output element = refl
with_element-push (o ∷ []) output element = refl
with_element-push (o ∷ p ∷ read) output element = ap (λ (os : List GivenOutput). o ∷ os) (with_element-push (p ∷ read) output element)

pub element_alone : (old new : List GivenOutput) (element : Given) → old ≡ new ++ [] → length old ≡ 0 → new ≡ with_element old element
unfolding with_element
element_alone old new element is none = grind (arith, append-nil new, nil_from_length old)

pub element_added : (old rest new : List GivenOutput) (last : GivenOutput) (basis : List Given) (element : Given) →
    old ≡ rest ++ last ∷ [] → basis ≡ last.basis ++ element ∷ [] → new ≡ rest ++ record
    { poly = last.poly; basis = basis } ∷ [] → new ≡ with_element old element
element_added old rest new last basis element old_is basis_is new_is = grind (arith, with_element-push)

-- ==== The lines of an answer, read one after the other

-- so many lines were read, and the rest of the text goes on from what they gave
pub record ReadsLines (ins outs : List (List ℕ)) (text rest : List ℕ) (count : ℕ) (read : List GivenOutput) : Type 0
  where
    pub goes_on : read_on ins outs 0 [] (lines_of text) ≡ read_on ins outs count read (lines_of rest)
    pub room : count + length rest ≤ length text

pub none_read : (ins outs : List (List ℕ)) (text : List ℕ) (read : List GivenOutput) → read ≡ [] → ReadsLines ins outs text text 0 read
none_read ins outs text read none = record { goes_on = rw none refl; room = omega arith }

module _ (ins outs : List (List ℕ)) (text rest : List ℕ) (count : ℕ) (read : List GivenOutput)
    (so_far : ReadsLines ins outs text rest count read) where
  module _ (line after : List ℕ) (cut : lines_of rest ≡ line ∷ lines_of after) (some : 0 < length line)
      (all : length line + length after ≡ length rest) where
    next_line : (b : Bool) → is_empty (bare line) ≡ b → read_on ins outs 0 [] (lines_of text) ≡ cond b
        (read_on ins outs (count + 1) read (lines_of after))
        (option_map_or (λ why. Err (count + 1, why)) (line_fault ins outs (length read) (words (bare line)))
        (read_on ins outs (count + 1) (with_line ins read (count + 1) (words (bare line))) (lines_of after)))
    unfolding read_on
    next_line b is = rw (so_far.goes_on, cut, is) refl

    pub line_skipped : is_empty (bare line) ≡ true → ReadsLines ins outs text after (count + 1) read
    line_skipped empty = record { goes_on = next_line true empty; room = let r = so_far.room in omega arith }

    pub line_added : (new : List GivenOutput) → is_empty (bare line) ≡ false → line_fault ins outs (length read)
        (words (bare line)) ≡ None → new ≡ with_line ins read (count + 1) (words (bare line)) → ReadsLines ins outs
        text after (count + 1) new
    line_added new filled fine is = record {
      goes_on = rw (next_line false filled, fine, is) refl;
      room = let r = so_far.room in omega arith;
    }

    pub line_refused : (e : LineRefusal AnswerWhy) → is_empty (bare line) ≡ false → Stops e
        (line_fault ins outs (length read) (words (bare line))) → GivesAnswer (Err (text_refusal e (count + 1)))
        (read_on ins outs 0 [] (lines_of text))
    line_refused (line_refusal.Memory) filled stops = tt
    line_refused (line_refusal.Bad why) filled stops = rw (next_line false filled, stops) refl

  pub output_missing : rest ≡ [] → length read < length outs → read_on ins outs 0 [] (lines_of text) ≡ Err (count, MissingOutput)
  unfolding read_on
  output_missing nothing few = rw (so_far.goes_on, nothing, lt-ltb (length read) (length outs) few) refl

  pub all_read : rest ≡ [] → length outs ≤ length read → read_on ins outs 0 [] (lines_of text) ≡ Ok read
  unfolding read_on
  all_read nothing enough = rw (so_far.goes_on, nothing, le-ltb (length read) (length outs) enough) refl

-- a text is empty where its length is 0
pub empty_is : (xs : List ℕ) (b : Bool) → b ≡ eqb (length xs) 0 → is_empty xs ≡ b
empty_is [] b is = sym is
empty_is (x ∷ xs) b is = sym (is ∙ ne_eqb (length (x ∷ xs)) 0 (λ e. omega (arith, e)))

-- ==== What is read without a fault is an answer by polynomials over the inputs

-- ---- terms in order are a polynomial

module _ (names : List (List ℕ)) where
  ordered-parts : (limit : ℕ) (term : List ℕ) (terms : List (List ℕ)) → are_ordered names limit (term ∷ terms) ≡ true
      → (monomial_of names term < limit) × (are_ordered names (monomial_of names term) terms ≡ true)
  unfolding are_ordered
  ordered-parts limit term terms ordered = grind (arith, ordered)

  ordered_terms : (limit : ℕ) (terms : List (List ℕ)) → are_ordered names limit terms ≡ true
      → IsStrictlyIncreasing (reverse (map (monomial_of names) terms))
      × ((x : ℕ) → has (map (monomial_of names) terms) x ≡ true → x < limit)
  unfolding are_ordered
  ordered_terms limit [] ordered = (ascends-nil, λ x h. has_none x h)
  ordered_terms limit (term ∷ terms) ordered =
      let m = monomial_of names term in let parts = ordered-parts limit term terms ordered in
      let later = ordered_terms m terms parts.1 in (
        ascends_below m (map (monomial_of names) terms) later.0 later.1,
        λ x h. grind (arith, has_cases m (map (monomial_of names) terms) x h, later.1 x, parts.0),
      )

  -- terms in order are a polynomial over the inputs
  pub ordered_family : (n : ℕ) (right : List (List ℕ)) → are_ordered names (2 ^ n) (terms_in right) ≡ true → IsFamily n
      (reverse (monomials_of names right))
  unfolding monomials_of
  ordered_family n right ordered =
      let both = ordered_terms (2 ^ n) (terms_in right) ordered in
      is_family n (reverse (map (monomial_of names) (terms_in right))) both.0
      (λ x h. both.1 x (sym (has-reverse (map (monomial_of names) (terms_in right)) x) ∙ h))

-- ---- a line without a fault

module _ (ins outs : List (List ℕ)) (before : ℕ) (line : List (List ℕ)) (fine : line_fault ins outs before line ≡ None) where
  terms_fine : are_ordered ins (2 ^ length ins) (terms_in (right_of line)) ≡ true
  unfolding right_fault line_fault
  terms_fine = grind (arith, fine)

  next_fine : is_element (left_of line) ≡ false → is_next outs before (left_of line) ≡ true
  unfolding left_fault line_fault
  next_fine other = grind (arith, fine, other)

next_within : (outs : List (List ℕ)) (before : ℕ) (name : List ℕ) → is_next outs before name ≡ true → before < length outs
next_within [] before name next = absurd (false≢true next)
next_within (o ∷ outs) zero name next = omega arith
next_within (o ∷ outs) (suc before) name next = grind (arith, next_within outs before name next)

-- ---- one more line

with_element-fits : (n : ℕ) (read : List GivenOutput) (element : Given) → All (IsOutputOver n) read → IsFamily n (polynomial element)
    → All (IsOutputOver n) (with_element read element) × (length (with_element read element) ≡ length read)
unfolding with_element
with_element-fits n [] element all family = (all, refl)
with_element-fits n (o ∷ []) element all family =
    let over = All-head (IsOutputOver n) o [] all in
    (All-cons (IsOutputOver n) _ [] (search (rules, arith, All-push)) (All-nil (IsOutputOver n)), refl)
with_element-fits n (o ∷ p ∷ read) element all family =
    let later = with_element-fits n (p ∷ read) element (All-tail (IsOutputOver n) o (p ∷ read) all) family in
    (All-cons (IsOutputOver n) o _ (All-head (IsOutputOver n) o (p ∷ read) all) later.0, ap suc later.1)

fine_unless : (fault : Option AnswerWhy) (number : ℕ) (reading : Reading) (answer : List GivenOutput)
    → option_map_or (λ why. Err (number, why)) fault reading ≡ Ok answer → (fault ≡ None) × (reading ≡ Ok answer)
fine_unless None number reading answer is = (refl, is)
fine_unless (Some why) number reading answer is = absurd cc

-- so many outputs at most, all of them over the inputs
pub record FitsOutputs (n count : ℕ) (read : List GivenOutput) : Type 0 where
  pub over : All (IsOutputOver n) read
  pub few : length read ≤ count

module _ (ins outs : List (List ℕ)) where
  fits_line : (read : List GivenOutput) (number : ℕ) (line : List (List ℕ)) → FitsOutputs (length ins) (length outs)
      read → line_fault ins outs (length read) line ≡ None → FitsOutputs (length ins) (length outs) (with_line ins read number line)
  unfolding with_line
  fits_line read number line fits fine =
      let given : Given = record { terms = monomials_of ins (right_of line); line = number } in
      let output : GivenOutput = record { poly = given; basis = [] } in
      let family : IsFamily (length ins) (polynomial given) = ordered_family ins (length ins) (right_of line)
      (terms_fine ins outs (length read) line fine) in
      ⊎_elim (λ (element : is_element (left_of line) ≡ true). rw element (
      let next = with_element-fits (length ins) read given fits.over family in
      record { over = next.0; few = let f = fits.few in omega (arith, f, next.1) }))
      (λ (other : is_element (left_of line) ≡ false).
      let within = next_within outs (length read) (left_of line) (next_fine ins outs (length read) line fine other) in
      rw other (search (rules, arith, All-push, All-nil, length_push)))
      (cases_Bool (is_element (left_of line)))

  read_fits : (count : ℕ) (read : List GivenOutput) (lines : List (List ℕ)) (answer : List GivenOutput) → FitsOutputs
      (length ins) (length outs) read → read_on ins outs count read lines ≡ Ok answer → All (IsOutputOver (length ins))
      answer × (length answer ≡ length outs)
  unfolding read_on
  read_fits count read [] answer fits is =
      let parts : (read ≡ answer) × (length outs ≤ length read) = grind (arith, is, nat_tests) in
      let few = fits.few in rw (← parts.0) (fits.over, omega arith)
  read_fits count read (line ∷ lines) answer fits is = ⊎_elim
      (λ (empty : is_empty (bare line) ≡ true). read_fits (count + 1) read lines answer fits (rw empty at is))
      (λ (filled : is_empty (bare line) ≡ false).
      let parts = fine_unless (line_fault ins outs (length read) (words (bare line))) (count + 1)
      (read_on ins outs (count + 1) (with_line ins read (count + 1) (words (bare line))) lines) answer (rw filled at is) in
      read_fits (count + 1) (with_line ins read (count + 1) (words (bare line))) lines answer
      (fits_line read (count + 1) (words (bare line)) fits parts.0) parts.1) (cases_Bool (is_empty (bare line)))

-- what is answered fits the description
pub answer_fits : (ins outs : List (List ℕ)) (p : Description) (text : List ℕ)
    (result : Result (List GivenOutput) (TextRefusal AnswerWhy)) → length ins ≡ p.inputs → length outs ≡ p.outputs → GivesAnswer
    result (read_on ins outs 0 [] (lines_of text)) → IfOk result (IsAnswerFor p)
answer_fits ins outs p text (Ok answer) in_count out_count is =
    let fits = read_fits ins outs 0 [] (lines_of text) answer
    (record { over = All-nil (IsOutputOver (length ins)); few = omega arith }) is in
    record { count = fits.1 ∙ out_count; polynomials = subst (λ (n : ℕ). All (IsOutputOver n) answer) in_count fits.0 }
answer_fits ins outs p text (Err e) in_count out_count is = tt
