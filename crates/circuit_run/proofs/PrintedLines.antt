-- The lines that are printed of polynomials and of the elements of a basis.
use Rattle.std.proofs.Common.{◌≡◌, ◌∙◌, ℕ, zero, suc, ◌+◌, ◌/◌, ◌^◌, ◌<◌, ◌≤◌, codes, List, [], ◌∷◌, ◌++◌, length, get_or, take, drop}
use Rattle.std.proofs.Common.{map, reverse, add-one, ap, append_assoc, arith}
use Rattle.std.proofs.Common.{refl, rules, subst, sym, Option, Some, None}
use Rattle.std.specs.Prelude.{flat_map, zip}
use Rattle.std.specs.List.{All}
use Rattle.std.proofs.lemmas.List.{flat_map_more, get_or-map, length-map, map-append}
use Rattle.std.proofs.lemmas.List.Elements.{All-append, All-cons, All-drop, All-head, All-map, All-nil, All-push, All-tail, All-take}
use Rattle.std.proofs.lemmas.List.Elements.{All-weaker}
use Rattle.std.proofs.lemmas.Grind.{common_steps, pow_more}
use Rattle.lattice.specs.Words.{Family, IsFamily, numbers_below}
use Rattle.lattice.proofs.Polynomials.{length-numbers_below}
use Rattle.anf_printer.specs.Text.{IsLineOver, left_text, shown_line}
use Rattle.anf_printer.specs.declared.lines.Left.{Left}
use Rattle.anf_printer.specs.declared.lines.Left.TheVariants.{Output, Zero}
use Rattle.anf_printer.specs.declared.lines.Line.{Line}
use Rattle.circuit_run.specs.Texts.{answered, bit_text, found_text, point_text}

-- ---- the numbers of outputs

pub numbers_none : map (λ k. k + 1) (numbers_below 0) ≡ []
unfolding numbers_below
numbers_none = refl

pub numbers_more : (k : ℕ) → map (λ k. k + 1) (numbers_below (k + 1)) ≡ map (λ k. k + 1) (numbers_below k) ++ (k + 1) ∷ []
unfolding numbers_below
numbers_more k = search (rules, arith, add-one, map-append)

pub numbers_count : (n : ℕ) → length (map (λ k. k + 1) (numbers_below n)) ≡ n
numbers_count n = length-map (numbers_below n) (λ k. k + 1) ∙ length-numbers_below n

pub ruleset number_rules = (common_steps, numbers_none, numbers_more, numbers_count)

-- those that are answered are those of outputs
abbrev pub IsNumber : (outputs number : ℕ) → Type 0
IsNumber outputs number = (1 ≤ number) × (number ≤ outputs)

all_numbers : (outputs : ℕ) → All (IsNumber outputs) (map (λ k. k + 1) (numbers_below outputs))
unfolding numbers_below
all_numbers zero = All-nil (IsNumber 0)
all_numbers (suc n) = rw map-append (All-push (IsNumber (suc n)) (map (λ k. k + 1) (numbers_below n)) (n + 1)
    (All-weaker (IsNumber n) (IsNumber (suc n)) (λ k h. (h.0, omega (arith, h.1))) _ (all_numbers n)) (omega arith, omega arith))

pub answered_numbers : (outputs : ℕ) (care : Option ℕ) → All (IsNumber outputs) (answered outputs care)
answered_numbers outputs None = all_numbers outputs
answered_numbers outputs (Some output) =
    All-append (IsNumber outputs) (take output _) (drop (suc output) _) (All-take (IsNumber outputs) output _ (all_numbers outputs))
    (All-drop (IsNumber outputs) (suc output) _ (all_numbers outputs))

-- ---- lines

-- those of polynomials, by their terms
abbrev pub lines_for : List ℕ → List (List ℕ) → List (Left × Family)
lines_for numbers polynomials = zip (map (λ number. Output number) numbers) (map reverse polynomials)

-- of one more polynomial
pub lines_more : (numbers : List ℕ) (polynomials : List (List ℕ)) (i j number : ℕ) (terms : List ℕ) → i < length numbers
    → i < length polynomials → number ≡ get_or numbers i number → terms ≡ get_or polynomials i terms → j ≡ i + 1
    → lines_for (take j numbers) (take j polynomials)
    ≡ lines_for (take i numbers) (take i polynomials) ++ (Output number, reverse terms) ∷ []
lines_more [] polynomials i j number terms less short is same next = absurd (omega arith)
lines_more (k ∷ numbers) [] i j number terms less short is same next = absurd (omega arith)
lines_more (k ∷ numbers) (p ∷ polynomials) zero j number terms less short is same next = rw next cc
lines_more (k ∷ numbers) (p ∷ polynomials) (suc i) j number terms less short is same next =
    let so_far = lines_more numbers polynomials i (i + 1) number terms (omega arith) (omega arith) is same refl in
    rw next (search (rules, arith, add-one, so_far))

-- lines that are printed are over so many inputs and outputs
module _ (inputs outputs : ℕ) where
  polynomials_over : (numbers : List ℕ) (polynomials : List (List ℕ)) → All (IsNumber outputs) numbers
      → All (IsFamily inputs) (map reverse polynomials) → All (IsLineOver inputs outputs) (lines_for numbers polynomials)
  polynomials_over [] polynomials over families = All-nil (IsLineOver inputs outputs)
  polynomials_over (number ∷ numbers) [] over families = All-nil (IsLineOver inputs outputs)
  polynomials_over (number ∷ numbers) (p ∷ polynomials) over families =
      All-cons (IsLineOver inputs outputs) (Output number, reverse p) (lines_for numbers polynomials)
      (record {
        left = All-head (IsNumber outputs) number numbers over;
        polynomial = All-head (IsFamily inputs) (reverse p) (map reverse polynomials) families;
      })
      (polynomials_over numbers polynomials (All-tail (IsNumber outputs) number numbers over)
      (All-tail (IsFamily inputs) (reverse p) (map reverse polynomials) families))

  module _ (numbers : List ℕ) (polynomials basis : List (List ℕ)) where
    abbrev all_lines : List (Left × Family)
    all_lines = lines_for numbers polynomials ++ map (λ element. (Zero, element)) (map reverse basis)

    pub lines_over : (lines : List Line) → map shown_line lines ≡ all_lines → All (IsNumber outputs) numbers
        → All (IsFamily inputs) (map reverse polynomials) → All (IsFamily inputs) (map reverse basis)
        → All (λ l. IsLineOver inputs outputs (shown_line l)) lines
    lines_over lines is over families elements k d less =
        let all : All (IsLineOver inputs outputs) all_lines = All-append (IsLineOver inputs outputs) (lines_for numbers polynomials) _
        (polynomials_over numbers polynomials over families)
        (All-map (IsLineOver inputs outputs) (λ element. (Zero, element)) (map reverse basis)
        (λ k d less. record { left = tt; polynomial = elements k d less })) in
        subst (IsLineOver inputs outputs)
        (ap (λ ls. get_or ls k (shown_line d)) (sym is) ∙ get_or-map shown_line lines k d (shown_line d) less)
        (all k (shown_line d) (subst (λ ls. k < length ls) is (rw (length-map lines shown_line) less)))

-- ---- lines of what was found of each output

module _ {A : Type 0} where
  numbered_more : (numbers : List ℕ) (found : List A) (i j number : ℕ) (x : A) → i < length numbers → i < length found
      → number ≡ get_or numbers i number → x ≡ get_or found i x → j ≡ i + 1
      → zip (take j numbers) (take j found) ≡ zip (take i numbers) (take i found) ++ (number, x) ∷ []
  numbered_more [] found i j number x less short is same next = absurd (omega arith)
  numbered_more (k ∷ numbers) [] i j number x less short is same next = absurd (omega arith)
  numbered_more (k ∷ numbers) (y ∷ found) zero j number x less short is same next = rw next cc
  numbered_more (k ∷ numbers) (y ∷ found) (suc i) j number x less short is same next =
      let so_far = numbered_more numbers found i (i + 1) number x (omega arith) (omega arith) is same refl in
      rw next (search (rules, arith, add-one, so_far))

  -- of one more output
  pub found_more : (line : List ℕ → A → List ℕ) (outputs : List (List ℕ)) (numbers : List ℕ) (found : List A) (i j number : ℕ) (x : A)
      → i < length numbers → i < length found → number ≡ get_or numbers i number → x ≡ get_or found i x → j ≡ i + 1
      → found_text line outputs (take i numbers) (take i found) ++ line (left_text outputs (Output number)) x
      ≡ found_text line outputs (take j numbers) (take j found)
  found_more line outputs numbers found i j number x less short is same next =
      let of_each : ℕ × A → List ℕ = λ o. line (left_text outputs (Output o.0)) o.1 in
      flat_map_more of_each [] (zip (take i numbers) (take i found)) (number, x)
      ∙ ap (flat_map of_each) (sym (numbered_more numbers found i j number x less short is same next))

-- ---- points, one name more

module _ (names : List (List ℕ)) (i : ℕ) (name : List ℕ) (next : drop i names ≡ name ∷ drop (i + 1) names) where
  pub weight_half : (weight : ℕ) → weight ≡ 2 ^ length (drop i names) → weight / 2 ≡ 2 ^ length (drop (i + 1) names)
  weight_half weight is =
      let count : length (drop i names) ≡ length (drop (i + 1) names) + 1 = ap length next ∙ omega arith in
      let double = pow_more 2 (length (drop (i + 1) names)) in rw (is, count) (omega (arith, double))

  pub point_next : (point : ℕ) → point_text (drop i names) point
      ≡ codes " " ++ name ++ bit_text (2 ^ length (drop (i + 1) names)) point ++ point_text (drop (i + 1) names) point
  unfolding point_text
  point_next point = rw next refl

-- the pieces of the line of an output that differs
pub difference_line : (text name bits a b c d : List ℕ) → a ≡ text ++ name → b ≡ a ++ codes ": different at" → c ≡ b ++ bits
    → d ≡ c ++ 10 ∷ [] → d ≡ text ++ (name ++ codes ": different at" ++ bits ++ codes "\n")
difference_line text name bits a b c d first second third last =
    let differs = codes ": different at" in
    let one = second ∙ (ap (λ x. x ++ differs) first ∙ append_assoc text name differs) in
    let two = third ∙ (ap (λ x. x ++ bits) one ∙ append_assoc text (name ++ differs) bits) in
    last ∙ (ap (λ x. x ++ 10 ∷ []) two ∙ append_assoc text (name ++ differs ++ bits) (10 ∷ []))
