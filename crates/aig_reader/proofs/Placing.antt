-- Gates that are placed: what is true of them, and that they are placed in one way.
use Rattle.std.proofs.Common.{◌≡◌, ◌≢◌, ℕ, zero, suc, ◌-◌, ◌+◌, ◌*◌, ◌/◌, ◌%◌, ◌≤◌, ◌<◌, true, false, cond, ltb, eqb, ◌&&◌}
use Rattle.std.proofs.Common.{List, [], ◌∷◌, ◌++◌, length, get_or, set, replicate, take, inl, inr, ◌⊎◌, Some}
use Rattle.std.proofs.Common.{refl, sym, ap, ◌∙◌, subst, arith, eq-eqb}
use Rattle.std.specs.Prelude.{slice_get}
use Rattle.std.proofs.lemmas.Bool.{ltb-true, ltb-false, lt-ltb, le-ltb, eqb-true, ne_eqb, and_parts, and_from, and_left, and_right}
use Rattle.std.proofs.lemmas.Bool.{both_ways, cases_lt, cases_eq, cond-true, cond-false, cond_both}
use Rattle.std.proofs.lemmas.Option.{slice_get_within, slice_get-get_or, same_Some, none-some, get_or_from_slice_get}
use Rattle.std.proofs.lemmas.List.{length-set, length-replicate, length-take-le, length_push, get_or-set_same, get_or-set_other}
use Rattle.std.proofs.lemmas.List.{get_or_past, get_or_push, take_more, take_all}
use Rattle.lattice.proofs.Diagrams.{get_cases}
use Rattle.aig_reader.specs.declared.circuit.Gate.{Gate}
use Rattle.aig_reader.specs.Ascii.{IsUpTo}
use Rattle.aig_reader.specs.Order.{IsGrounded, no_gate, on_grounded, Ordered, Places, already, with_operands}
use Rattle.aig_reader.specs.Order.{ArePlaced, none_placed, one_more}
use Rattle.aig_reader.specs.Order.{gate_of, unplaced, is_open, number, renumbered, renumbered_gate, put, IsAmong, IsSound}
use Rattle.aig_reader.specs.Laws.{OrderKept}
use Rattle.aig_reader.proofs.Circuits.{zeros_up_to}

-- ---- whether a variable is vacant

open_parts : (inputs v n : ℕ) → (ltb inputs v && eqb n 0) ≡ true → (inputs < v) × (n ≡ 0)
open_parts inputs v n e = let p = and_parts (ltb inputs v) (eqb n 0) e in (ltb-true inputs v p.0, eqb-true n 0 p.1)

has_number : (inputs v n : ℕ) → (ltb inputs v && eqb n 0) ≡ false → inputs < v → n ≢ 0
has_number inputs v n e lt = λ none.
    both_ways (ltb inputs v && eqb n 0) e (and_from (ltb inputs v) (eqb n 0) (lt-ltb inputs v lt) (eq-eqb n 0 none))

closed_by_number : (inputs v n : ℕ) → n ≢ 0 → (ltb inputs v && eqb n 0) ≡ false
closed_by_number inputs v n some = and_right (ltb inputs v) (eqb n 0) (ne_eqb n 0 some)

closed_below : (inputs v n : ℕ) → v ≤ inputs → (ltb inputs v && eqb n 0) ≡ false
closed_below inputs v n le = and_left (ltb inputs v) (eqb n 0) (le-ltb inputs v le)

number_within : (numbers : List ℕ) (v : ℕ) → get_or numbers v 0 ≢ 0 → v < length numbers
number_within numbers v some = elim (cases_lt v (length numbers)) [
  | inl lt ↦ lt
  | inr le ↦ absurd (some (get_or_past numbers v 0 le))
]

-- ---- a gate more

stays_get : {A : Type 0} (xs ys : List A) (j : ℕ) (y : A) → slice_get xs j ≡ Some y → slice_get (xs ++ ys) j ≡ Some y
stays_get [] ys j y e = absurd (none-some y e)
stays_get (z ∷ xs) ys zero y e = e
stays_get (z ∷ xs) ys (suc j) y e = stays_get xs ys j y e

abbrev made : (left right : ℕ) → Gate
made left right = record { left = left; right = right }

same_gate : (a b d e : ℕ) → a ≡ b → d ≡ e → made a d ≡ made b e
same_gate a b d e p q = ap (λ x. made x d) p ∙ ap (λ y. made b y) q

module _ (inputs : ℕ) where
  pub open_is_gate : (p : Ordered) (v : ℕ) → is_open inputs p v ≡ true → inputs < v
  open_is_gate p v vacant = (open_parts inputs v (get_or p.numbers v 0) vacant).0

  pub closed_is_other : (p : Ordered) (v w : ℕ) → is_open inputs p v ≡ true → is_open inputs p w ≡ false → w ≢ v
  closed_is_other p v w vacant closed = λ same.
      both_ways (is_open inputs p v) (subst (λ u. is_open inputs p u ≡ false) same closed) vacant

  pub put_other : (p : Ordered) (v w : ℕ) (g : Gate) → w ≢ v → is_open inputs (put inputs p v g) w ≡ is_open inputs p w
  put_other p v w g other =
      ap (λ n. ltb inputs w && eqb n 0) (get_or-set_other p.numbers v w (inputs + 1 + length p.gates) 0 other)

  pub put_closes : (p : Ordered) (v : ℕ) (g : Gate) → v < length p.numbers → is_open inputs (put inputs p v g) v ≡ false
  put_closes p v g lt =
      let at = get_or-set_same p.numbers v (inputs + 1 + length p.gates) 0 lt in
      closed_by_number inputs v (get_or (set p.numbers v (inputs + 1 + length p.gates)) v 0) (λ none. absurd (omega (arith, at, none)))

  pub put_keeps : (p : Ordered) (v w : ℕ) (g : Gate) → is_open inputs p w ≡ false → is_open inputs (put inputs p v g) w ≡ false
  put_keeps p v w g closed = elim (cases_eq w v) [
    | inr other ↦ put_other p v w g other ∙ closed
    | inl same ↦ elim (cases_lt inputs w) [
      | inr le ↦ closed_below inputs w (get_or (set p.numbers v (inputs + 1 + length p.gates)) w 0) le
      | inl lt ↦
          let within = number_within p.numbers w (has_number inputs w (get_or p.numbers w 0) closed lt) in
          subst (λ u. is_open inputs (put inputs p u g) w ≡ false) same (put_closes p w g within)
    ]
  ]

  pub number_of_gate : (p : Ordered) (v : ℕ) → inputs < v → number inputs p v ≡ get_or p.numbers v 0
  number_of_gate p v lt = cond-true (ltb inputs v) (get_or p.numbers v 0) v (lt-ltb inputs v lt)

  pub number_of_input : (p : Ordered) (v : ℕ) → v ≤ inputs → number inputs p v ≡ v
  number_of_input p v le = cond-false (ltb inputs v) (get_or p.numbers v 0) v (le-ltb inputs v le)

  number_up_to : (p : Ordered) (v : ℕ) → IsUpTo (inputs + length p.gates) p.numbers → number inputs p v ≤ inputs + length p.gates
  number_up_to p v up = cond_both (ltb inputs v) (get_or p.numbers v 0) v (λ n. n ≤ inputs + length p.gates) (λ e. up v)
      (λ e. omega (arith, ltb-false inputs v e))

  pub renumbered_below : (p : Ordered) (literal : ℕ) → IsUpTo (inputs + length p.gates) p.numbers
      → renumbered inputs p literal < 2 * (inputs + 1 + length p.gates)
  renumbered_below p literal up = omega (arith, number_up_to p (literal / 2) up)

  renumbered_stays : (p : Ordered) (v : ℕ) (g : Gate) (literal : ℕ) → literal / 2 ≢ v
      → renumbered inputs (put inputs p v g) literal ≡ renumbered inputs p literal
  renumbered_stays p v g literal other = ap (λ n. 2 * cond (ltb inputs (literal / 2)) n (literal / 2) + literal % 2)
      (get_or-set_other p.numbers v (literal / 2) (inputs + 1 + length p.gates) 0 other)

  gate_stays : (p : Ordered) (v : ℕ) (g h : Gate) → is_open inputs p v ≡ true → is_open inputs p (h.left / 2) ≡ false
      → is_open inputs p (h.right / 2) ≡ false → renumbered_gate inputs p h ≡ renumbered_gate inputs (put inputs p v g) h
  gate_stays p v g h vacant left right = same_gate _ _ _ _
      (sym (renumbered_stays p v g h.left (closed_is_other p v (h.left / 2) vacant left)))
      (sym (renumbered_stays p v g h.right (closed_is_other p v (h.right / 2) vacant right)))

  -- ---- what is true of gates that are placed

  was_among : (p : Ordered) (v w : ℕ) (g h : Gate) → is_open inputs p v ≡ true → w ≢ v → IsAmong inputs p w h
      → IsAmong inputs (put inputs p v g) w h
  was_among p v w g h vacant other before = record {
    position = before.position;
    number = get_or-set_other p.numbers v w (inputs + 1 + length p.gates) 0 other ∙ before.number;
    there = stays_get p.gates (renumbered_gate inputs p g ∷ []) before.position (renumbered_gate inputs p h) before.there
        ∙ ap (λ x. Some x) (gate_stays p v g h vacant before.left before.right);
    left = put_keeps p v (h.left / 2) g before.left;
    right = put_keeps p v (h.right / 2) g before.right;
  }

  is_last : (p : Ordered) (v : ℕ) (g : Gate) → is_open inputs p v ≡ true → v < length p.numbers
      → is_open inputs p (g.left / 2) ≡ false → is_open inputs p (g.right / 2) ≡ false → IsAmong inputs (put inputs p v g) v g
  is_last p v g vacant within left right = record {
    position = length p.gates;
    number = get_or-set_same p.numbers v (inputs + 1 + length p.gates) 0 within;
    there = slice_get-get_or (p.gates ++ renumbered_gate inputs p g ∷ []) (length p.gates) (renumbered_gate inputs p g)
        (omega (arith, length_push p.gates (renumbered_gate inputs p g)))
        ∙ ap (λ x. Some x) (get_or_push p.gates (renumbered_gate inputs p g) (renumbered_gate inputs p g) (length p.gates) refl
        ∙ gate_stays p v g g vacant left right);
    left = put_keeps p v (g.left / 2) g left;
    right = put_keeps p v (g.right / 2) g right;
  }

  module _ (gates : List Gate) where
    gate_within : (p : Ordered) (v : ℕ) (g : Gate) → IsSound inputs gates p → inputs < v → gate_of inputs gates v ≡ Some g
        → v < length p.numbers
    gate_within p v g s lt is = omega (arith, s.size, lt, slice_get_within gates (v - (inputs + 1)) g is)

    pub put_sound : (p : Ordered) (v : ℕ) (g : Gate) → IsSound inputs gates p → gate_of inputs gates v ≡ Some g
        → is_open inputs p v ≡ true → is_open inputs p (g.left / 2) ≡ false → is_open inputs p (g.right / 2) ≡ false
        → IsSound inputs gates (put inputs p v g)
    put_sound p v g s is vacant left right =
        let last : ℕ = inputs + 1 + length p.gates in let new : Gate = renumbered_gate inputs p g in
        let within = gate_within p v g s (open_is_gate p v vacant) is in
        let more = length_push p.gates new in record {
          size = length-set p.numbers v last ∙ s.size;
          up_to = λ i. elim (cases_eq i v) [
            | inl same ↦
                let at : get_or (set p.numbers v last) i 0 ≡ last =
                subst (λ u. get_or (set p.numbers v last) u 0 ≡ last) (sym same) (get_or-set_same p.numbers v last 0 within) in
                omega (arith, at, more)
            | inr other ↦ omega (arith, get_or-set_other p.numbers v i last 0 other, s.up_to i, more)
          ];
          left = λ j h at. elim (get_cases p.gates new j h at) [
            | inl before ↦ s.left j h before
            | inr end ↦
                let here : renumbered inputs p g.left ≡ h.left = ap (λ x. x.left) end.1 in
                omega (arith, end.0, here, renumbered_below p g.left s.up_to)
          ];
          right = λ j h at. elim (get_cases p.gates new j h at) [
            | inl before ↦ s.right j h before
            | inr end ↦
                let here : renumbered inputs p g.right ≡ h.right = ap (λ x. x.right) end.1 in
                omega (arith, end.0, here, renumbered_below p g.right s.up_to)
          ];
          each = λ w h lt at closed. elim (cases_eq w v) [
            | inl same ↦
                let one : g ≡ h = same_Some g h (sym is ∙ ap (gate_of inputs gates) (sym same) ∙ at) in
                subst (λ u. IsAmong inputs (put inputs p v g) u h) (sym same)
                (subst (λ x. IsAmong inputs (put inputs p v g) v x) one (is_last p v g vacant within left right))
            | inr other ↦ was_among p v w g h vacant other (s.each w h lt at (sym (put_other p v w g other) ∙ closed))
          ];
        }

    pub unplaced_sound : IsSound inputs gates (unplaced inputs (length gates))
    unplaced_sound = let size : ℕ = inputs + 1 + length gates in record {
      size = length-replicate size 0;
      up_to = λ i. omega (arith, zeros_up_to 0 size i);
      left = λ j g at. absurd (none-some g at);
      right = λ j g at. absurd (none-some g at);
      each = λ v g lt at closed. let zero_there = zeros_up_to 0 size v in
          absurd (has_number inputs v (get_or (replicate size 0) v 0) closed lt (omega (arith, zero_there)));
    }

    pub places_keep : {p q : Ordered} {v : ℕ} → Places inputs gates p v q → (w : ℕ) → is_open inputs p w ≡ false
        → is_open inputs q w ≡ false
    places_keep (already p v here) w closed = closed
    places_keep (with_operands p q r v g vacant is left right still) w closed =
        put_keeps r v w g (places_keep right w (places_keep left w closed))

    pub places_sound : {p q : Ordered} {v : ℕ} → Places inputs gates p v q → IsSound inputs gates p
        → IsSound inputs gates q × (is_open inputs q v ≡ false)
    places_sound (already p v here) s = (s, here)
    places_sound (with_operands p q r v g vacant is left right still) s =
        let a = places_sound left s in let b = places_sound right a.0 in
        let within = gate_within r v g b.0 (open_is_gate r v still) is in
        (put_sound r v g b.0 is still (places_keep right (g.left / 2) a.1) b.1, put_closes r v g within)

    once : {p q : Ordered} {v : ℕ} → Places inputs gates p v q → {a b : Ordered} {w : ℕ} → Places inputs gates a w b → p ≡ a → v ≡ w
        → q ≡ b
    once (already p v here) (already a w there) e f = e
    once (already p v here) (with_operands a b d w h vacant is left right still) e f =
        absurd (both_ways (is_open inputs a w) (subst (λ u. is_open inputs a u ≡ false) f
        (subst (λ s. is_open inputs s v ≡ false) e here)) vacant)
    once (with_operands p q r v g vacant is left right still) (already a w there) e f =
        absurd (both_ways (is_open inputs a w) there (subst (λ u. is_open inputs a u ≡ true) f
        (subst (λ s. is_open inputs s v ≡ true) e vacant)))
    once (with_operands p q r v g vacant is left right still) (with_operands a b d w h clear at first second yet) e f =
        let one : g ≡ h = same_Some g h (sym is ∙ ap (gate_of inputs gates) f ∙ at) in
        let middle = once left first e (ap (λ x. x.left / 2) one) in let end = once right second middle (ap (λ x. x.right / 2) one) in
        ap (λ s. put inputs s v g) end ∙ ap (λ u. put inputs d u g) f ∙ ap (λ x. put inputs d w x) one

    -- what is placed already is placed again with no change
    pub stays : (p q : Ordered) (v : ℕ) → Places inputs gates p v q → is_open inputs p v ≡ false → q ≡ p
    stays p q v places closed = once places (already p v closed) refl refl

    pub placed_once : {k : ℕ} {p : Ordered} → ArePlaced inputs gates k p → {n : ℕ} {q : Ordered} → ArePlaced inputs gates n q → k ≡ n
        → p ≡ q
    placed_once none_placed none_placed e = refl
    placed_once none_placed (one_more n a b all one) e = absurd (omega arith)
    placed_once (one_more k p q all one) none_placed e = absurd (omega arith)
    placed_once (one_more k p q all one) (one_more n a b each other) e =
        once one other (placed_once all each (omega arith)) (omega arith)

    pub placed_sound : {k : ℕ} {p : Ordered} → ArePlaced inputs gates k p
        → IsSound inputs gates p × ((j : ℕ) → j < k → is_open inputs p (inputs + 1 + j) ≡ false)
    placed_sound none_placed = (unplaced_sound, λ j lt. absurd (omega arith))
    placed_sound (one_more k p q all one) =
        let before = placed_sound all in let now = places_sound one before.0 in (
          now.0,
          λ j lt. elim (cases_lt j k) [
            | inl less ↦ places_keep one (inputs + 1 + j) (before.1 j less)
            | inr more ↦ let here : k ≡ j = omega arith in subst (λ i. is_open inputs q (inputs + 1 + i) ≡ false) here now.1
          ],
        )

    -- ---- what can be placed

    module _ (p : Ordered) (s : IsSound inputs gates p) where
      -- the operands of a gate that is placed have lower numbers
      pub operands_lower : (v : ℕ) (g : Gate) → inputs < v → gate_of inputs gates v ≡ Some g → is_open inputs p v ≡ false
          → (number inputs p (g.left / 2) < number inputs p v) × (number inputs p (g.right / 2) < number inputs p v)
      operands_lower v g lt is closed =
          let among = s.each v g lt is closed in let own = number_of_gate p v lt in
          let left : renumbered inputs p g.left < 2 * (inputs + 1 + among.position) =
          s.left among.position (renumbered_gate inputs p g) among.there in
          let right : renumbered inputs p g.right < 2 * (inputs + 1 + among.position) =
          s.right among.position (renumbered_gate inputs p g) among.there in
          (omega (arith, left, own, among.number), omega (arith, right, own, among.number))

      -- the gate of a variable that is placed
      pub line_of : (v : ℕ) → inputs < v → is_open inputs p v ≡ false → (g : Gate) × (gate_of inputs gates v ≡ Some g)
      line_of v lt closed =
          let some = number_within p.numbers v (has_number inputs v (get_or p.numbers v 0) closed lt) in
          let k : ℕ = v - (inputs + 1) in let g : Gate = get_or gates k (made 0 0) in
          (g, slice_get-get_or gates k (made 0 0) (omega (arith, some, s.size, lt)))

      grounded_below : (n v : ℕ) → number inputs p v < n → is_open inputs p v ≡ false → IsGrounded inputs gates v
      grounded_below zero v below closed = absurd (omega arith)
      grounded_below (suc n) v below closed = elim (cases_lt inputs v) [
        | inr le ↦ no_gate v le
        | inl lt ↦
            let line = line_of v lt closed in let g = line.0 in let among = s.each v g lt line.1 closed in
            let lower = operands_lower v g lt line.1 closed in
            on_grounded v g lt line.1 (grounded_below n (g.left / 2) (omega (arith, lower.0, below)) among.left)
            (grounded_below n (g.right / 2) (omega (arith, lower.1, below)) among.right)
      ]

      pub grounded : (v : ℕ) → is_open inputs p v ≡ false → IsGrounded inputs gates v
      grounded v closed = grounded_below (suc (number inputs p v)) v (omega arith) closed

    -- no gate is grounded that is one of gates each of which stands on another one of them
    pub none_grounded : (S : ℕ → Type 0)
        → ((v : ℕ) → S v → (inputs < v) × ((g : Gate) → gate_of inputs gates v ≡ Some g → S (g.left / 2) ⊎ S (g.right / 2)))
        → {v : ℕ} → IsGrounded inputs gates v → S v → ⊥
    none_grounded S turns (no_gate v le) on = absurd (omega (arith, le, (turns v on).0))
    none_grounded S turns (on_grounded v g lt is left right) on = elim ((turns v on).1 g is) [
      | inl more ↦ none_grounded S turns left more
      | inr more ↦ none_grounded S turns right more
    ]

-- ---- gates that are in order

module _ (inputs : ℕ) (gates : List Gate)
    (in_order : (k : ℕ) (g : Gate) → slice_get gates k ≡ Some g → (g.left < 2 * (inputs + 1 + k)) × (g.right < 2 * (inputs + 1 + k)))
  where
    -- the first gates are placed as they stand, so many
    record AreKept (k : ℕ) (p : Ordered) : Type 0 where
      front : p.gates ≡ take k gates
      size : length p.numbers ≡ inputs + 1 + length gates
      same : (v : ℕ) → inputs < v → v < inputs + 1 + k → get_or p.numbers v 0 ≡ v
      later : (v : ℕ) → inputs + 1 + k ≤ v → get_or p.numbers v 0 ≡ 0

    module _ (k : ℕ) (p : Ordered) (within : k < length gates) (kept : AreKept k p) where
      before_closed : (v : ℕ) → v < inputs + 1 + k → is_open inputs p v ≡ false
      before_closed v lt = elim (cases_lt inputs v) [
        | inr le ↦ closed_below inputs v (get_or p.numbers v 0) le
        | inl more ↦ let own = kept.same v more lt in
            closed_by_number inputs v (get_or p.numbers v 0) (λ none. absurd (omega (arith, own, none)))
      ]

      literal_same : (literal : ℕ) → literal < 2 * (inputs + 1 + k) → renumbered inputs p literal ≡ literal
      literal_same literal lt =
          let v : ℕ = literal / 2 in let own : number inputs p v ≡ v = elim (cases_lt inputs v) [
            | inr le ↦ number_of_input inputs p v le
            | inl more ↦ number_of_gate inputs p v more ∙ kept.same v more (omega (arith, lt))
          ] in omega (arith, own)

      kept_put : (g : Gate) → slice_get gates k ≡ Some g → AreKept (suc k) (put inputs p (inputs + 1 + k) g)
      kept_put g is =
          let v : ℕ = inputs + 1 + k in let last : ℕ = inputs + 1 + length p.gates in let low = in_order k g is in
          let plain : renumbered_gate inputs p g ≡ g = same_gate _ _ _ _ (literal_same g.left low.0) (literal_same g.right low.1) in
          let at : get_or gates k g ≡ g = get_or_from_slice_get gates k g g is in
          let one : k + 1 ≡ suc k = omega arith in
          let long : length p.gates ≡ k = ap length kept.front ∙ length-take-le k gates (omega (arith, within)) in
          let set_here = get_or-set_same p.numbers v last 0 (omega (arith, kept.size, within)) in record {
            front = ap (λ xs. xs ++ renumbered_gate inputs p g ∷ []) kept.front ∙ ap (λ x. take k gates ++ x ∷ []) (plain ∙ sym at)
                ∙ sym (take_more gates k g within) ∙ ap (λ n. take n gates) one;
            size = length-set p.numbers v last ∙ kept.size;
            same = λ w more lt. elim (cases_lt w v) [
              | inl less ↦
                  get_or-set_other p.numbers v w last 0 (λ here. absurd (omega (arith, less, here))) ∙ kept.same w more less
              | inr le ↦
                  let here : v ≡ w = omega (arith, lt, le) in
                  subst (λ u. get_or (set p.numbers v last) u 0 ≡ u) here (set_here ∙ ap (λ n. inputs + 1 + n) long)
            ];
            later = λ w le. get_or-set_other p.numbers v w last 0 (λ here. absurd (omega (arith, le, here)))
                ∙ kept.later w (omega (arith, le));
          }

      kept_place : {a q : Ordered} {v : ℕ} → Places inputs gates a v q → a ≡ p → v ≡ inputs + 1 + k → AreKept (suc k) q
      kept_place (already a v here) e f =
          let none = ap (λ s. get_or s.numbers v 0) e ∙ kept.later v (omega (arith, f)) in
          absurd (has_number inputs v (get_or a.numbers v 0) here (omega (arith, f)) none)
      kept_place (with_operands a q r v g vacant is left right still) e f =
          let place : v - (inputs + 1) ≡ k = omega (arith, f) in
          let at : slice_get gates k ≡ Some g = ap (slice_get gates) (sym place) ∙ is in let low = in_order k g at in
          let middle : q ≡ p = stays inputs gates p q (g.left / 2) (subst (λ s. Places inputs gates s (g.left / 2) q) e left)
          (before_closed (g.left / 2) (omega (arith, low.0))) in
          let end : r ≡ p = stays inputs gates p r (g.right / 2) (subst (λ s. Places inputs gates s (g.right / 2) r) middle right)
          (before_closed (g.right / 2) (omega (arith, low.1))) in
          subst (λ s. AreKept (suc k) (put inputs s v g)) (sym end)
          (subst (λ u. AreKept (suc k) (put inputs p u g)) (sym f) (kept_put g at))

    all_kept : {k : ℕ} {p : Ordered} → ArePlaced inputs gates k p → k ≤ length gates → AreKept k p
    all_kept none_placed le = record {
      front = refl;
      size = length-replicate (inputs + 1 + length gates) 0;
      same = λ v more lt. absurd (omega arith);
      later = λ v more. omega (arith, zeros_up_to 0 (inputs + 1 + length gates) v);
    }
    all_kept (one_more k p q all one) le = kept_place k p (omega arith) (all_kept all (omega arith)) one refl refl

pub order_kept : OrderKept
order_kept inputs gates p in_order all = let kept = all_kept inputs gates in_order all (omega arith) in
    kept.front ∙ take_all (length gates) gates (omega arith)
