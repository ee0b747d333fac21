-- Seats as they are made, and as they are before the start.
use Rattle.std.proofs.Common.{◌≡◌, ℕ, zero, suc, ◌+◌, ◌-◌, ◌<◌, ◌≤◌, List, [], ◌∷◌, ◌++◌, length, get_or, map}
use Rattle.std.proofs.Common.{sym, refl, ap, ◌∙◌, subst, arith, ◌⊎◌, inl, inr}
use Rattle.std.specs.Prelude.{cond, ltb, ◌==◌}
use Rattle.std.specs.List.{All, sum_by}
use Rattle.std.proofs.lemmas.Bool.Decides.{nat_tests}
use Rattle.std.proofs.Math.Seq.{get_or-append_seam}
use Rattle.std.proofs.lemmas.List.{get_or_append_left, length-append, length-map, get_or-map, map-append, same_lists}
use Rattle.std.proofs.lemmas.List.Elements.{All-append}
use Rattle.std.proofs.lemmas.List.Sums.{sum_by-cons, sum_by-append, get_or-le-sum_by}
use mathlib.Core.Option.{some}
use lib.ListN.{get_elem?}
use Rattle.job_counter.specs.Numbers.{times}
use Rattle.job_deques.specs.declared.view.Hold.{Hold}
use Rattle.job_deques.specs.declared.view.TheConstants.{ALL_PARTS}
use Rattle.job_deques.specs.declared.way.Way.{Way}
use Rattle.job_deques.specs.declared.seat.Seat.{Seat}
use Rattle.job_deques.specs.Rule.{hold}
use Rattle.job_deques.specs.Seats.{Layout, IsTaking, own_deque, own_view, way_view, took, all_took, parts_of, first_parts}
use Rattle.job_deques.specs.Dealt.{AreFresh, AreApart, AreJoined, layout_of, numbered}
use Rattle.job_deques.specs.Hands.{AreTaking, IsUnused, places, numbers_below}
use Rattle.job_deques.proofs.Listed.{all_behind, head}
use Rattle.job_deques.proofs.Seated.{stole_none}
use Rattle.job_deques.proofs.Given.{length-numbers, number_at}

-- ---- as they are made

abbrev IsFresh : ℕ → Seat → Type 0
IsFresh i s = (s.at ≡ i) × (own_view s.own ≡ hold ALL_PARTS [] []) × (length s.ways.items ≡ 0)

pub fresh_more : (seats : List Seat) (s : Seat) → AreFresh seats → IsFresh (length seats) s → AreFresh (seats ++ s ∷ [])
fresh_more seats s all new i d inside =
    let same : (i < length seats) ⊎ (i ≡ length seats) = grind (arith, length-append seats (s ∷ [])) in
    elim same [
      | inl less ↦ subst (IsFresh i) (sym (get_or_append_left seats (s ∷ []) d i less)) (all i d less)
      | inr e ↦
          let here : get_or (seats ++ s ∷ []) i d ≡ s = ap (λ (n : ℕ). get_or (seats ++ s ∷ []) n d) e ∙ get_or-append_seam seats s [] d in
          subst (IsFresh i) (sym here) (subst (λ (n : ℕ). IsFresh n s) (sym e) new)
    ]

name_at : {X Y : Type 0} (f : X → Y) (xs : List X) (i : ℕ) (d : X) → i < length xs → get_elem? (map f xs) i ≡ some (f (get_or xs i d))
name_at f [] i d less = absurd (omega (arith, less))
name_at f (x ∷ xs) zero d less = refl
name_at f (x ∷ xs) (suc i) d less = name_at f xs i d (omega (arith, less))

pub begun : (seats : List Seat) (count : ℕ) → AreFresh seats → AreApart (numbered (layout_of seats count) 0) seats
begun seats count all = record {
  total = refl;
  each = λ i d less.
      let f = all i d less in record {
        number = f.0;
        name = name_at (λ (s : Seat). own_deque s.own) seats i d less;
        pushed = ap (λ (v : Hold). v.pushed) f.1;
        parts = omega (arith, ap (λ (v : Hold). v.parts) f.1);
        many = f.2;
        each = λ k w inside. absurd (omega (arith, inside, f.2));
        idle = λ x. omega (arith, ap (λ (v : Hold). times x v.taken) f.1, stole_none (get_or seats i d).ways.items x f.2);
      };
}

-- ---- before the start

first_of : (own total at j : ℕ) → own ≡ ALL_PARTS - total → j < total
    → cond (at == j) own 0 + cond (ltb j total) 1 0 ≡ cond (at == j) (ALL_PARTS - total) 0 + 1
first_of own total at j is less = grind (arith, nat_tests)

module _ (l : Layout) (seats : List Seat) (all : AreJoined l seats) where
  pub joined_places : places seats ≡ numbers_below l.total
  joined_places = same_lists (places seats) (numbers_below l.total)
      (omega (arith, length-map seats (λ (s : Seat). s.at), length-numbers l.total, all.total)) same
    where
      same : (k d : ℕ) → k < length (places seats) → get_or (places seats) k d ≡ get_or (numbers_below l.total) k d
      same k d less =
          let inside : k < length seats = omega (arith, less, length-map seats (λ (s : Seat). s.at)) in
          let below : k < l.total = omega (arith, inside, all.total) in let s : Seat = head seats (omega (arith, inside)) in
          get_or-map (λ (u : Seat). u.at) seats k s d inside ∙ ((all.each k s inside).number ∙ sym (number_at l.total k d below))

  pub joined_unused : All (IsUnused l) seats
  joined_unused i d less =
      let s : Seat = get_or seats i d in let h = all.each i d less in record {
        parts = λ j below. rw h.many (first_of (own_view s.own).parts l.total s.at j (omega (arith, h.parts)) below);
        none = h.idle;
      }

  pub joined_each : All (IsTaking l) seats
  joined_each i d less =
      let s : Seat = get_or seats i d in let h = all.each i d less in
      let inside : i < l.total = omega (arith, less, all.total) in record {
        at = omega (arith, h.number, inside);
        name = rw h.number h.name;
        pushed = rw h.number h.pushed;
        within = λ x. omega (arith, h.idle x);
        few = omega (arith, h.many);
        ways = h.each;
        idle = λ x w there. omega (arith, h.idle x, get_or-le-sum_by (λ (u : Way). times x (way_view u).taken) s.ways.items s.at w there);
      }

-- the parts of seats that took nothing
pub unused_parts : (l : Layout) (j : ℕ) (seats : List Seat) → j < l.total → All (IsUnused l) seats
    → sum_by (parts_of j) seats ≡ sum_by (first_parts l j) (places seats)
unused_parts l j [] less all = refl
unused_parts l j (s ∷ seats) less all =
    let here = (all 0 s (omega arith)).parts j less in
    let rest = unused_parts l j seats less (all_behind (IsUnused l) s seats all) in
    omega (arith, here, rest, sum_by-cons (parts_of j) s seats, sum_by-cons (first_parts l j) s.at (places seats))

pub joined_taking : (l : Layout) (seats : List Seat) → 0 < l.total → l.total ≤ ALL_PARTS → AreJoined l seats → AreTaking l seats
joined_taking l seats any small all = record {
  some = any;
  small = small;
  few = omega (arith, length-map seats (λ (s : Seat). s.at), all.total);
  each = joined_each l seats all;
  parts = λ j less. unused_parts l j seats less (joined_unused l seats all);
}

pub unused_took : (l : Layout) (x : ℕ) (seats : List Seat) → All (IsUnused l) seats → all_took seats x ≡ 0
unused_took l x [] all = refl
unused_took l x (s ∷ seats) all =
    let rest = unused_took l x seats (all_behind (IsUnused l) s seats all) in
    omega (arith, (all 0 s (omega arith)).none x, rest, sum_by-cons (λ (u : Seat). took u x) s seats)

-- ---- hands that are halved and united

pub taking_part : (l : Layout) (seats part : List Seat) → AreTaking l seats → length part ≤ length seats → All (IsTaking l) part
    → All (IsUnused l) part → AreTaking l part
taking_part l seats part of fewer each unused = record {
  some = of.some;
  small = of.small;
  few = omega (arith, of.few, fewer, length-map seats (λ (s : Seat). s.at), length-map part (λ (s : Seat). s.at));
  each = each;
  parts = λ j less. unused_parts l j part less unused;
}

pub taking_both : (l : Layout) (xs ys : List Seat) → AreTaking l xs → AreTaking l ys → length (places xs ++ places ys) ≤ l.total
    → AreTaking l (xs ++ ys)
taking_both l xs ys one two few =
    let both = map-append (λ (s : Seat). s.at) xs ys in record {
      some = one.some;
      small = one.small;
      few = rw both few;
      each = All-append (IsTaking l) xs ys one.each two.each;
      parts = λ j less. rw both (omega (
        arith,
        one.parts j less,
        two.parts j less,
        sum_by-append (parts_of j) xs ys,
        sum_by-append (first_parts l j) (places xs) (places ys),
      ));
    }
