-- A way leaves its seat, and its owner takes it in.
use Rattle.std.proofs.Common.{◌≡◌, ℕ, zero, suc, ◌+◌, ◌<◌, List, [], ◌∷◌, ◌++◌, length, get_or, set, sym, refl, ap, ◌∙◌, subst, arith}
use Rattle.std.proofs.Common.{◌⊎◌, inl, inr}
use Rattle.std.specs.Prelude.{Bool, true, false, cond, ltb, ◌==◌}
use mathlib.Core.Option.{some-injective}
use Rattle.std.specs.List.{All, sum_by}
use Rattle.std.proofs.lemmas.Bool.Decides.{nat_tests}
use Rattle.std.proofs.Math.Seq.{get_or-append_seam}
use Rattle.std.proofs.lemmas.List.{get_or_append_left, length-append, length-map, get_or-map}
use Rattle.std.proofs.lemmas.List.Elements.{All-set, All-cons}
use Rattle.std.proofs.lemmas.List.Sums.{sum_by-cons, sum_by-set, sum_by_push, sum_by-append}
use Rattle.job_counter.specs.Numbers.{times}
use Rattle.job_deques.specs.declared.view.Hold.{Hold}
use Rattle.job_deques.specs.declared.way.Way.{Way}
use Rattle.job_deques.specs.declared.own.Own.{Own}
use Rattle.job_deques.specs.declared.seat.Seat.{Seat}
use Rattle.job_deques.specs.Rule.{IsWithin, together}
use Rattle.job_deques.specs.Seats.{Layout, IsWay, IsTaking, parts_of, took, stole, own_view, way_view, own_deque, way_deque}
use Rattle.job_deques.specs.Hands.{AreWhole, CanTakeBack, GaveWay, TookBack, places, numbers_below}
use Rattle.job_deques.proofs.Listed.{all_behind}

-- ---- a seat gives its last way

one_fewer : (j n : ℕ) → cond (ltb j (n + 1)) 1 0 ≡ cond (ltb j n) 1 0 + cond (n == j) 1 0
one_fewer j n = grind (arith, nat_tests)

module _ (s t : Seat) (w : Way) (gave : s.ways.items ≡ t.ways.items ++ w ∷ []) (own : t.own ≡ s.own) (at : t.at ≡ s.at) where
  longer : length s.ways.items ≡ length t.ways.items + 1
  longer = ap length gave ∙ length-append t.ways.items (w ∷ [])

  its_way : (l : Layout) → IsTaking l s → IsWay l (length t.ways.items) w
  its_way l h =
      let here = h.ways (length t.ways.items) w (omega (arith, longer)) in
      let is : get_or s.ways.items (length t.ways.items) w ≡ w =
      ap (λ (ws : List Way). get_or ws (length t.ways.items) w) gave ∙ get_or-append_seam t.ways.items w [] w in
      subst (IsWay l (length t.ways.items)) is here

  still : (l : Layout) → IsTaking l s → IsTaking l t
  still l h = record {
    at = rw at h.at;
    name = rw (at, own) h.name;
    pushed = rw (at, own) h.pushed;
    within = rw own h.within;
    few = omega (arith, longer, h.few);
    ways = λ k d less.
        let same : get_or s.ways.items k d ≡ get_or t.ways.items k d =
        ap (λ (ws : List Way). get_or ws k d) gave ∙ get_or_append_left t.ways.items (w ∷ []) d k less in
        subst (IsWay l k) same (h.ways k d (omega (arith, less, longer)));
    idle = λ x d less.
        let inside : s.at < length t.ways.items = omega (arith, less, at) in
        let same : get_or s.ways.items s.at d ≡ get_or t.ways.items s.at d =
        ap (λ (ws : List Way). get_or ws s.at d) gave ∙ get_or_append_left t.ways.items (w ∷ []) d s.at inside in
        rw (at, sym same) (h.idle x d (omega (arith, inside, longer)));
  }

  parts_given : (j : ℕ) → parts_of j s ≡ parts_of j t + cond (length t.ways.items == j) 1 0
  parts_given j =
      let fewer = ap (λ (n : ℕ). cond (ltb j n) 1 0) longer ∙ one_fewer j (length t.ways.items) in
      let same : cond (t.at == j) (own_view t.own).parts 0 ≡ cond (s.at == j) (own_view s.own).parts 0 = rw (at, own) refl in
      omega (arith, fewer, same)

  took_given : (x : ℕ) → took s x ≡ took t x + times x (way_view w).taken
  took_given x =
      let same : times x (own_view t.own).taken ≡ times x (own_view s.own).taken = rw own refl in
      let more : stole s.ways.items x ≡ stole t.ways.items x + times x (way_view w).taken =
      ap (λ (ws : List Way). stole ws x) gave ∙ sum_by_push (λ (v : Way). times x (way_view v).taken) t.ways.items w in
      omega (arith, same, more)

  pub gave_first : (seats : List Seat) → GaveWay (length t.ways.items) w (s ∷ seats) (t ∷ seats)
  gave_first seats = record {
    places = ap (λ (n : ℕ). n ∷ places seats) at;
    way = λ l all. let h = all 0 s (omega arith) in (omega (arith, longer, h.few), its_way l h);
    each = λ l all. All-cons (IsTaking l) t seats (still l (all 0 s (omega arith))) (all_behind (IsTaking l) s seats all);
    parts = λ j. omega (arith, parts_given j, sum_by-cons (parts_of j) s seats, sum_by-cons (parts_of j) t seats);
    took = λ x. omega (arith, took_given x, sum_by-cons (λ (u : Seat). took u x) s seats, sum_by-cons (λ (u : Seat). took u x) t seats);
    fewer = omega (
      arith,
      longer,
      sum_by-cons (λ (u : Seat). length u.ways.items) s seats,
      sum_by-cons (λ (u : Seat). length u.ways.items) t seats,
    );
  }

-- a seat before the one that gave a way, which is as it was
pub gave_later : (s t : Seat) (old new : List Seat) (j : ℕ) (w : Way) → t ≡ s → GaveWay j w old new → GaveWay j w (s ∷ old) (t ∷ new)
gave_later s t old new j w same gave = rw same (record {
  places = ap (λ (l : List ℕ). s.at ∷ l) gave.places;
  way = λ l all. gave.way l (all_behind (IsTaking l) s old all);
  each = λ l all. All-cons (IsTaking l) s new (all 0 s (omega arith)) (gave.each l (all_behind (IsTaking l) s old all));
  parts = λ i. omega (arith, gave.parts i, sum_by-cons (parts_of i) s old, sum_by-cons (parts_of i) s new);
  took = λ x. omega (arith, gave.took x, sum_by-cons (λ (u : Seat). took u x) s old, sum_by-cons (λ (u : Seat). took u x) s new);
  fewer = omega (
    arith,
    gave.fewer,
    sum_by-cons (λ (u : Seat). length u.ways.items) s old,
    sum_by-cons (λ (u : Seat). length u.ways.items) s new,
  );
})

-- ---- an owner takes in a way

pub length-numbers : (n : ℕ) → length (numbers_below n) ≡ n
length-numbers zero = refl
length-numbers (suc n) = omega (arith, length-append (numbers_below n) (n ∷ []), length-numbers n)

pub number_at : (n i d : ℕ) → i < n → get_or (numbers_below n) i d ≡ i
number_at zero i d less = absurd (omega (arith, less))
number_at (suc n) i d less =
    let same : (i < n) ⊎ (i ≡ n) = grind arith in
    elim same [
      | inl below ↦ get_or_append_left (numbers_below n) (n ∷ []) d i (rw (length-numbers n) below) ∙ number_at n i d below
      | inr e ↦
          let last : get_or (numbers_below (suc n)) (length (numbers_below n)) d ≡ n = get_or-append_seam (numbers_below n) n [] d in
          rw e (subst (λ (k : ℕ). get_or (numbers_below (suc n)) k d ≡ n) (length-numbers n) last)
    ]

-- as many seats as there are, each at its number
pub all_seats : (seats : List Seat) (n : ℕ) → places seats ≡ numbers_below n → length seats ≡ n
all_seats seats n whole = sym (length-map seats (λ (u : Seat). u.at)) ∙ (ap length whole ∙ length-numbers n)

pub number_of : (seats : List Seat) (n i : ℕ) (d : Seat) → places seats ≡ numbers_below n → i < n → (get_or seats i d).at ≡ i
number_of seats n i d whole less =
    let within : i < length seats = rw (all_seats seats n whole) less in
    sym (get_or-map (λ (u : Seat). u.at) seats i d 0 within) ∙ (ap (λ (l : List ℕ). get_or l i 0) whole ∙ number_at n i 0 less)

pub at_place : (seats : List Seat) (n i : ℕ) (s : Seat) → places seats ≡ numbers_below n → i < n → s ≡ get_or seats i s → s.at ≡ i
at_place seats n i s whole less is = ap (λ (u : Seat). u.at) is ∙ number_of seats n i s whole less

-- a way to the deque is one to what the seat at its number has of its own
pub its_owner : (l : Layout) (i : ℕ) (w : Way) (seats : List Seat) (s : Seat) → i < length seats → s ≡ get_or seats i s → s.at ≡ i
    → IsWay l i w → All (IsTaking l) seats → way_deque w ≡ own_deque s.own
its_owner l i w seats s less is at way all =
    let here : IsTaking l s = subst (IsTaking l) (sym is) (all i s less) in
    some-injective _ _ (sym way.name ∙ (ap l.name (sym at) ∙ here.name))

more_parts : (b : Bool) (p : ℕ) → cond b (p + 1) 0 ≡ cond b p 0 + cond b 1 0
more_parts true p = refl
more_parts false p = refl

places_set : (seats : List Seat) (i : ℕ) (s t : Seat) → s ≡ get_or seats i s → i < length seats → t.at ≡ s.at
    → places (set seats i t) ≡ places seats
places_set [] i s t is less at = refl
places_set (x ∷ seats) zero s t is less at = ap (λ (n : ℕ). n ∷ places seats) (at ∙ ap (λ (u : Seat). u.at) is)
places_set (x ∷ seats) (suc i) s t is less at = ap (λ (l : List ℕ). x.at ∷ l) (places_set seats i s t is (omega (arith, less)) at)

module _ (l : Layout) (i : ℕ) (w : Way) (seats : List Seat) (s : Seat) (own : Own) (less : i < length seats) (is : s ≡ get_or seats i s)
    (at : s.at ≡ i) (way : IsWay l i w) (deque : own_deque own ≡ own_deque s.own)
    (view : own_view own ≡ together (own_view s.own) (way_view w)) (within : IsWithin (own_view own)) where
  abbrev fed : Seat
  fed = record s { own = own }

  set_sum : (f : Seat → ℕ) (n : ℕ) → f fed ≡ f s + n → sum_by f (set seats i fed) ≡ sum_by f seats + n
  set_sum f n more = let here = ap f is in omega (arith, sum_by-set f seats i fed s less, here, more)

  at_work : IsTaking l s → IsTaking l fed
  at_work h = record {
    at = h.at;
    name = rw deque h.name;
    pushed = ap (λ (v : Hold). v.pushed) view ∙ h.pushed;
    within = within;
    few = h.few;
    ways = h.ways;
    idle = h.idle;
  }

  more_of : (j : ℕ) → parts_of j fed ≡ parts_of j s + cond (i == j) 1 0
  more_of j =
      let one : ℕ = 1 in
      let parts : (own_view own).parts ≡ (own_view s.own).parts + 1 = omega (arith, ap (λ (v : Hold). v.parts) view, way.part) in
      let here : cond (s.at == j) (own_view own).parts 0 ≡ cond (s.at == j) (own_view s.own).parts 0 + cond (s.at == j) 1 0 =
      rw parts (more_parts (s.at == j) (own_view s.own).parts) in
      let there : cond (s.at == j) one 0 ≡ cond (i == j) one 0 = rw at refl in omega (arith, here, there)

  more_taken : (x : ℕ) → took fed x ≡ took s x + times x (way_view w).taken
  more_taken x =
      let both = ap (λ (v : Hold). times x v.taken) view ∙ sum_by-append _ (own_view s.own).taken (way_view w).taken in omega (arith, both)

  pub took_back : All (IsTaking l) seats → TookBack l i w seats (set seats i fed)
  took_back all = record {
    places = places_set seats i s fed is less refl;
    each = All-set (IsTaking l) seats i fed (at_work (subst (IsTaking l) (sym is) (all i s less))) all;
    parts = λ j. set_sum (parts_of j) (cond (i == j) 1 0) (more_of j);
    took = λ x. set_sum (λ u. took u x) (times x (way_view w).taken) (more_taken x);
    same = omega (arith, set_sum (λ u. length u.ways.items) 0 (omega arith));
  }

pub can_take_back : (l : Layout) (j : ℕ) (w : Way) (old mid : List Seat) → AreWhole l old → GaveWay j w old mid → CanTakeBack l j w mid
can_take_back l j w old mid now gave = record {
  small = now.of.small;
  each = gave.each l now.of.each;
  whole = gave.places ∙ now.whole;
  less = (gave.way l now.of.each).0;
  way = (gave.way l now.of.each).1;
}

pub gave_back : (l : Layout) (j : ℕ) (w : Way) (old mid new : List Seat) → AreWhole l old → GaveWay j w old mid → TookBack l j w mid new
    → AreWhole l new
gave_back l j w old mid new now gave back = record {
  of = record {
    some = now.of.some;
    small = now.of.small;
    few = rw (back.places, gave.places) now.of.few;
    each = back.each;
    parts = λ i less. rw (back.places, gave.places) (omega (arith, now.of.parts i less, gave.parts i, back.parts i));
  };
  whole = back.places ∙ (gave.places ∙ now.whole);
}

-- where the numbers below a number go on with another, this is it
pub next_number : (n total a : ℕ) (rest : List ℕ) → numbers_below n ++ a ∷ rest ≡ numbers_below total → a ≡ n
next_number n total a rest is =
    let many = ap length is in
    let less : n < total = omega (arith, many, length-append (numbers_below n) (a ∷ rest), length-numbers n, length-numbers total) in
    let here : get_or (numbers_below n ++ a ∷ rest) n 0 ≡ a =
    subst (λ (k : ℕ). get_or (numbers_below n ++ a ∷ rest) k 0 ≡ a) (length-numbers n) (get_or-append_seam (numbers_below n) a rest 0) in
    sym here ∙ (ap (λ (l : List ℕ). get_or l n 0) is ∙ number_at total n 0 less)
