-- What is counted and printed of one output after the other.
use Rattle.std.proofs.Common.{◌≡◌, ℕ, suc, ◌+◌, ◌<◌, ◌≤◌, ◌^◌, List, [], ◌∷◌, ◌++◌, length, map, get_or, reverse, sym, ◌∙◌, ap, ap₂}
use Rattle.std.proofs.Common.{arith, refl, codes, decimal, take, append_assoc, Option, Some, length-take}
use Rattle.std.proofs.Common.{inl, inr, Bool, not}
use Rattle.std.specs.Prelude.{IfNone, IfSome, IsSome}
use Rattle.std.specs.List.{All, enumerate_from, flat_map, sum_by}
use Rattle.std.proofs.Math.Pow.{pow_mono}
use Rattle.std.proofs.lemmas.Bool.{cases_Bool}
use Rattle.std.proofs.lemmas.List.{flat_map_more, get_or-map, length-map, length-reverse, map-append, map_more}
use Rattle.std.proofs.lemmas.List.{map_push, reverse-reverse}
use Rattle.std.proofs.lemmas.List.Elements.{All-cons, All-get_or, All-nil}
use Rattle.std.proofs.lemmas.List.Filters.{length-filter_both}
use Rattle.std.proofs.lemmas.List.Sums.{sum_by-cons, sum_by-take-le, sum_by_more}
use Rattle.std.proofs.lemmas.Option.{slice_get-get_or}
use Rattle.std.proofs.lemmas.Slice.Zip.{length-zip}
use Rattle.lattice.specs.declared.limits.TheConstants.{MAX_VARS}
use Rattle.lattice.specs.Words.{Family, IsFamily, family_where, has, numbers_below, IsBasisElement, dc_set, off_set, on_set, points_where}
use Rattle.lattice.specs.Words.{is_basis}
use Rattle.lattice.specs.declared.kind.Mode.{Mode}
use Rattle.lattice.specs.declared.row.Row.{Row}
use Rattle.lattice.proofs.Polynomials.{length-numbers_below, zip_fold}
use Rattle.node_store.specs.Stores.{Denotes, State, family, Grows}
use Rattle.node_store.proofs.StoreLaws.{Denotes-family, Grows-family}
use Rattle.node_store.specs.declared.store.Handle.{Handle}
use Rattle.pla_reader.specs.Reading.{Description, description}
use Rattle.pla_reader.specs.declared.pla.Pla.{Pla}
use Rattle.pla_reader.proofs.ArrangedInputs.{count_printed}
use Rattle.anf_printer.specs.Text.{Answer, IsAnswerOver as IsAnswer, shown_answer, texts_of}
use Rattle.anf_printer.specs.declared.answer.Shown.{Shown}
use Rattle.watch.specs.declared.note.Note.{Note}
use Rattle.node_store.proofs.StoreLaws.{All_known-later, families_later, length-later}
use Rattle.set_algebra.proofs.Calls.{terms_of-later}
use Rattle.interp_run.specs.Answers.{AreAnswers, IsAnswerOf, notes_from, summary_line, texts}
use Rattle.interp_run.specs.Phases.{AreHandles, KnowsOutput, OutputHandles, answer_in, second_terms, terms_of}

-- ==== sums of terms over the outputs so far, and what a store knows of them later

module _ (s : State) (solved : List OutputHandles) (i : ℕ) (o : OutputHandles) (is : o ≡ get_or solved i o) (within : i < length solved)
    (known : All (KnowsOutput s) solved) where
  pub KnowsOutput-at : KnowsOutput s o
  KnowsOutput-at = rw is (All-get_or (KnowsOutput s) solved i o within known)

  -- one more output, which is counted in later states
  pub solved_so_far : (t u : State) → Grows s t → Grows s u
      → (second_terms s (take (i + 1) solved)
      ≡ second_terms s (take i solved) + (length (family t o.polynomial) + terms_of u o.basis))
      × (second_terms s (take (i + 1) solved) ≤ second_terms s solved)
  solved_so_far t u to_t to_u = grind (arith, sum_by_more, sum_by-take-le, length-later, terms_of-later)

  -- what is printed of one more output
  pub shown_more : (t u : State) (before after : List Shown) (x : Shown) → Grows s t → Grows s u
      → map shown_answer before ≡ map (answer_in s) (take i solved) → x.poly ≡ reverse (family t o.polynomial)
      → map reverse x.basis ≡ map (family u) o.basis → after ≡ before ++ x ∷ []
      → map shown_answer after ≡ map (answer_in s) (take (i + 1) solved)
  shown_more t u before after x to_t to_u so_far poly basis pushed =
      let first : reverse x.poly ≡ family s o.polynomial = ap reverse poly
      ∙ (reverse-reverse (family t o.polynomial) ∙ Grows-family s t o.polynomial to_t KnowsOutput-at.0) in
      let rest : map reverse x.basis ≡ map (family s) o.basis = basis ∙ families_later s u o.basis to_u KnowsOutput-at.1 in
      let one : shown_answer x ≡ answer_in s o = ap₂ (λ (p : Family) (b : List Family). record { polynomial = p; basis = b }) first rest in
      ap (map shown_answer) pushed ∙ (map_push shown_answer before x
      ∙ (ap₂ (λ (xs : List Answer) (y : Answer). xs ++ y ∷ []) so_far (one ∙ ap (answer_in s) is)
      ∙ sym (map_more (answer_in s) solved i o within)))

-- handles of families

pub handles_long : (s : State) (hs : List Handle) (fs : List Family) → AreHandles s hs fs → length hs ≡ length fs
handles_long s hs fs are = sym (length-map hs (family s)) ∙ ap length are.1

pub handles_later : (s t : State) (hs : List Handle) (fs : List Family) → Grows s t → AreHandles s hs fs → AreHandles t hs fs
handles_later s t hs fs grows are = (All_known-later s t hs grows are.0, families_later s t hs grows are.0 ∙ are.1)

-- ==== the texts of answers, their number and their families

-- there are as many notes as answers, with their elements
pub told : (first : ℕ) (answers : List Answer) → (length (notes_from first answers) ≡ length answers)
    × (sum_by (λ (n : Note). n.basis) (notes_from first answers) ≡ sum_by (λ (a : Answer). length a.basis) answers)
unfolding notes_from
told first [] = (refl, refl)
told first (a ∷ answers) = omega (arith, sum_by-cons, told (first + 1) answers)

-- as many notes as texts, and no more than outputs can be
pub counts_fit : (p : Pla) (mode : Mode) (answers : List Answer) (pages : List (List ℕ)) (notes : List Note)
    → AreAnswers (description p) mode answers → pages ≡ texts (description p) mode answers → notes ≡ notes_from 1 answers
    → (length notes ≡ length pages) × (length pages ≤ 64)
unfolding texts_of
counts_fit p mode answers pages notes are pages_are notes_are = grind (arith, count_printed, length-map, length-zip, told)

pub are_answers : (d : Description) (mode : Mode) (shown : List Shown) → AreAnswers d mode (map shown_answer shown)
    → All (λ s. IsAnswer d.inputs (shown_answer s)) shown
are_answers d mode shown are k e within =
    let there = slice_get-get_or (map shown_answer shown) k (shown_answer e) (omega (arith, length-map shown shown_answer)) in
    let is : IsAnswerOf d mode (k + 1) (shown_answer (get_or shown k e)) =
    rw (get_or-map shown_answer shown k e (shown_answer e) within) at (are.each k _ there) in
    record {
      polynomial = is.least.family;
      basis = elim (cases_Bool (is_basis mode)) [
        | inl basis ↦ let reduced = is.basis basis in zip_fold (IsBasisElement d.inputs _) (λ ms bs. All (IsFamily d.inputs) bs)
            (All-nil (IsFamily d.inputs)) (λ m ms b bs is rest. All-cons (IsFamily d.inputs) b bs is.family rest)
            reduced.leads _ reduced.elements
        | inr bare ↦ rw (is.bare bare) (All-nil (IsFamily d.inputs))
      ];
    }

-- ==== what is printed and told of one output more

-- one more output stands behind the others with its number
next_shown : (shown : List Shown) (i : ℕ) (s : Shown) → i < length shown → s ≡ get_or shown i s
    → enumerate_from 1 (map shown_answer (take (i + 1) shown))
    ≡ enumerate_from 1 (map shown_answer (take i shown)) ++ (i + 1, shown_answer s) ∷ []
next_shown shown i s within is =
    let size : 1 + length (map shown_answer (take i shown)) ≡ i + 1 = simp (length-map, length-take) (omega arith) in
    rw (map_more shown_answer shown i s within, ← is) (pushed 1 (map shown_answer (take i shown)) (shown_answer s)
    ∙ ap (λ (n : ℕ). enumerate_from 1 (map shown_answer (take i shown)) ++ (n, shown_answer s) ∷ []) size)
  where
    pushed : (n : ℕ) (xs : List Answer) (a : Answer) → enumerate_from n (xs ++ a ∷ []) ≡ enumerate_from n xs ++ (n + length xs, a) ∷ []
    pushed n [] a = let e : n ≡ n + 0 = omega arith in ap (λ (k : ℕ). (k, a) ∷ []) e
    pushed n (x ∷ xs) a = let e : n + 1 + length xs ≡ n + suc (length xs) = omega arith in
        ap (λ ys. (n, x) ∷ ys) (pushed (n + 1) xs a ∙ ap (λ (k : ℕ). enumerate_from (n + 1) xs ++ (k, a) ∷ []) e)

pub notes_next : (shown : List Shown) (i : ℕ) (s : Shown) (notes next : List Note) → i < length shown → s ≡ get_or shown i s
    → notes ≡ notes_from 1 (map shown_answer (take i shown))
    → next ≡ notes ++ record { output = i + 1; terms = length s.poly; basis = length s.basis } ∷ []
    → next ≡ notes_from 1 (map shown_answer (take (i + 1) shown))
unfolding notes_from
notes_next shown i s notes next within is sofar here =
    rw (here, sofar, next_shown shown i s within is) (simp (map-append, length-reverse, length-map))

-- the lines of the outputs from the given number on
abbrev pub lines_from : ℕ → List Answer → List ℕ
lines_from first answers = flat_map summary_line (enumerate_from first answers)

pub line_next : (shown : List Shown) (i : ℕ) (s : Shown) (front text next : List ℕ) → i < length shown
    → s ≡ get_or shown i s → text ≡ front ++ lines_from 1 (map shown_answer (take i shown))
    → next ≡ text ++ (codes "f" ++ decimal (i + 1) ++ codes " " ++ decimal (length s.poly) ++ codes "\n")
    → next ≡ front ++ lines_from 1 (map shown_answer (take (i + 1) shown))
line_next shown i s front text next within is sofar here =
    rw (here, sofar, append_assoc) (ap (λ (x : List ℕ). front ++ x) (rw (next_shown shown i s within is, ← length-reverse s.poly)
    (flat_map_more summary_line [] (enumerate_from 1 (map shown_answer (take i shown))) (i + 1, shown_answer s))))

-- ---- care points

-- there are no more of them than points, so a count within that limit is answered
pub points_counted : (test : Bool → Bool → Bool → Bool) (n : ℕ) (rows : List Row) (output : ℕ) (s : State) (h : Handle) (o : Option ℕ)
    → n ≤ MAX_VARS → Denotes s h (points_where test n rows output) → IfNone o (2 ^ MAX_VARS < length (family s h)) → IsSome o
unfolding points_where family_where
points_counted test n rows output s h o le is over =
    let passes : ℕ → Bool = λ a. test (has (on_set n rows output) a) (has (off_set n rows output) a) (has (dc_set n rows output) a) in
    let few : length (family s h) ≤ 2 ^ MAX_VARS = omega (
      arith,
      ap length (Denotes-family s h (points_where test n rows output) is),
      length-filter_both passes (λ a. not (passes a)) (λ a. refl) (numbers_below (2 ^ n)),
      length-numbers_below (2 ^ n),
      pow_mono le,
    ) in
    some o few over
  where
    some : (o : Option ℕ) {k limit : ℕ} → k ≤ limit → IfNone o (limit < k) → IsSome o
    some o few over = grind arith

pub within_some : (o : Option ℕ) (k limit : ℕ) → o ≡ Some k → IfSome o (λ n. n ≤ limit) → k ≤ limit
within_some o k limit is within = grind arith
