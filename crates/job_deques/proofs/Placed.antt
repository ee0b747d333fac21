-- Seats before the start, of which one changed.
use Rattle.std.proofs.Common.{◌≡◌, ◌≢◌, ℕ, suc, ◌+◌, ◌%◌, ◌<◌, List, [], ◌∷◌, ◌++◌, length, get_or, set, sym, refl, ap, ◌∙◌, subst, arith}
use Rattle.std.proofs.Common.{◌⊎◌, inl, inr, append-nil}
use Rattle.std.specs.Prelude.{Bool, true, false, cond, ltb, ◌==◌}
use Rattle.std.proofs.lemmas.Bool.Decides.{nat_tests}
use Rattle.std.proofs.Math.Seq.{get_or-append_seam}
use Rattle.std.proofs.lemmas.List.{get_or_append_left, get_or-set_same, get_or-set_other, length-set, length-append}
use Rattle.std.proofs.lemmas.List.Sums.{sum_by_push}
use Rattle.job_counter.specs.Numbers.{times}
use Rattle.job_deques.specs.declared.view.Hold.{Hold}
use Rattle.job_deques.specs.declared.view.TheConstants.{ALL_PARTS}
use Rattle.job_deques.specs.declared.way.Way.{Way}
use Rattle.job_deques.specs.declared.own.Own.{Own}
use Rattle.job_deques.specs.declared.seat.Seat.{Seat}
use Rattle.job_deques.specs.Rule.{hold, one_part, without_part}
use Rattle.job_deques.specs.Seats.{Layout, IsWay, AreWays, own_view, own_deque, way_view, way_deque, stole}
use Rattle.job_deques.specs.Dealt.{IsSet, AreSet, AreApart, AreLending, numbered, dealt}

-- one seat changed, and the others are as they were
seats_set : (l m : Layout) (ways owed ways' owed' : ℕ → ℕ) (seats : List Seat) (k : ℕ) (s : Seat) → AreSet l ways owed seats
    → m.total ≡ l.total → IsSet m k (ways' k) (owed' k) s
    → ((i : ℕ) (u : Seat) → i ≢ k → IsSet l i (ways i) (owed i) u → IsSet m i (ways' i) (owed' i) u) → AreSet m ways' owed' (set seats k s)
seats_set l m ways owed ways' owed' seats k s all same new others = record {
  total = length-set seats k s ∙ (all.total ∙ sym same);
  each = λ i d less.
      let apart : (i ≡ k) ⊎ (i ≢ k) = grind arith in
      let within : i < length seats = rw (sym (length-set seats k s)) less in
      elim apart [
        | inl e ↦ rw (e, get_or-set_same seats k s d (rw (sym e) within)) new
        | inr ne ↦ rw (get_or-set_other seats k i s d ne) (others i (get_or seats i d) ne (all.each i d within))
      ];
}

seat_at : (l : Layout) (ways owed : ℕ → ℕ) (seats : List Seat) (i : ℕ) (s : Seat) → i < length seats → s ≡ get_or seats i s
    → AreSet l ways owed seats → IsSet l i (ways i) (owed i) s
seat_at l ways owed seats i s less is all = subst (IsSet l i (ways i) (owed i)) (sym is) (all.each i s less)

-- ---- a number is dealt

cond_list : (b c : Bool) (n : ℕ) → b ≡ c → cond b (n ∷ []) [] ≡ cond c (n ∷ []) []
cond_list b c n same = rw same refl

is_rest : (r j : ℕ) → r ≡ j → (r == j) ≡ true
is_rest r j e = grind (arith, nat_tests)

is_other : (r j : ℕ) → r ≢ j → (r == j) ≡ false
is_other r j ne = grind (arith, nat_tests)

pub has_all : (l : Layout) (seats : List Seat) (j : ℕ) (s : Seat) → j < length seats → s ≡ get_or seats j s → AreApart l seats
    → (own_view s.own).parts ≡ ALL_PARTS
has_all l seats j s less is all = let here = seat_at l _ _ seats j s less is all in omega (arith, here.parts)

pub dealt_more : (l : Layout) (n j : ℕ) (seats : List Seat) (s : Seat) (own : Own) → j ≡ n % l.total → j < length seats
    → s ≡ get_or seats j s → own_deque own ≡ own_deque s.own
    → own_view own ≡ hold (own_view s.own).parts ((own_view s.own).pushed ++ n ∷ []) (own_view s.own).taken
    → AreApart (numbered l n) seats → AreApart (numbered l (suc n)) (set seats j (record s { own = own }))
dealt_more l n j seats s own rest less is deque view all =
    let here = seat_at (numbered l n) _ _ seats j s less is all in
    seats_set (numbered l n) (numbered l (suc n)) _ _ _ _ seats j _ all refl (record {
      number = here.number;
      name = rw deque here.name;
      pushed = ap (λ (v : Hold). v.pushed) view ∙ (ap (λ (ys : List ℕ). ys ++ n ∷ []) here.pushed
          ∙ sym (ap (λ (ys : List ℕ). dealt l.total j n ++ ys) (cond_list _ _ n (is_rest (n % l.total) j (sym rest)))));
      parts = rw (ap (λ (v : Hold). v.parts) view) here.parts;
      many = here.many;
      each = λ k w there. absurd (omega (arith, there, here.many));
      idle = λ x. let same = ap (λ (v : Hold). times x v.taken) view in omega (arith, same, here.idle x);
    }) (λ i u ne h. record {
      number = h.number;
      name = h.name;
      pushed = h.pushed ∙ sym (ap (λ (ys : List ℕ). dealt l.total i n ++ ys)
          (cond_list _ _ n (is_other (n % l.total) i (λ same. ne (sym same ∙ sym rest)))) ∙ append-nil (dealt l.total i n));
      parts = h.parts;
      many = h.many;
      each = λ k w there. absurd (omega (arith, there, h.many));
      idle = h.idle;
    })

-- ---- an owner lends a part, and a seat receives it

more_ways : (l : Layout) (ways : List Way) (j : ℕ) (w : Way) → length ways ≡ j → IsWay l j w → AreWays l ways → AreWays l (ways ++ w ∷ [])
more_ways l ways j w many new all k d inside =
    let same : (k < length ways) ⊎ (k ≡ length ways) = grind (arith, length-append ways (w ∷ [])) in
    elim same [
      | inl less ↦ subst (IsWay l k) (sym (get_or_append_left ways (w ∷ []) d k less)) (all k d less)
      | inr e ↦
          let here : get_or (ways ++ w ∷ []) k d ≡ w = ap (λ (n : ℕ). get_or (ways ++ w ∷ []) n d) e ∙ get_or-append_seam ways w [] d in
          subst (IsWay l k) (sym here) (subst (λ (n : ℕ). IsWay l n w) (sym many ∙ sym e) new)
    ]

lent_here : (i j : ℕ) → (i + cond (ltb j (j + 1)) 1 0 ≡ i + 1) × (i + cond (ltb j j) 1 0 ≡ i)
lent_here i j = (grind (arith, nat_tests), grind (arith, nat_tests))

lent_else : (i j k : ℕ) → k ≢ j → i + cond (ltb k (j + 1)) 1 0 ≡ i + cond (ltb k j) 1 0
lent_else i j k ne = grind (arith, nat_tests)

ways_here : (total i j : ℕ) → cond (ltb i i) total (cond (i == i) j 0) ≡ j
ways_here total i j = grind (arith, nat_tests)

ways_other : (total i j k : ℕ) → k ≢ i → cond (ltb k i) total (cond (k == i) (j + 1) 0) ≡ cond (ltb k i) total (cond (k == i) j 0)
ways_other total i j k ne = grind (arith, nat_tests)

module _ (l : Layout) (i j : ℕ) (seats : List Seat) (s : Seat) (less : j < length seats) (is : s ≡ get_or seats j s) where
  abbrev Ways : ℕ → ℕ
  Ways k = cond (ltb k i) l.total (cond (k == i) j 0)

  was : AreLending l i j seats → IsSet l j (Ways j) i s
  was all = subst (λ (n : ℕ). IsSet l j (Ways j) n s) (lent_here i j).1 (seat_at l Ways (λ k. i + cond (ltb k j) 1 0) seats j s less is all)

  pub enough : i < l.total → l.total < ALL_PARTS → AreLending l i j seats → 1 < (own_view s.own).parts
  enough inside small all = omega (arith, (was all).parts, inside, small)

  pub its_way : (w : Way) → AreLending l i j seats → way_deque w ≡ own_deque s.own → way_view w ≡ one_part (own_view s.own) → IsWay l j w
  its_way w all deque view = record {
    name = rw deque (was all).name;
    pushed = ap (λ (v : Hold). v.pushed) view ∙ (was all).pushed;
    within = λ x. let none = ap (λ (v : Hold). times x v.taken) view in omega (arith, none);
    part = ap (λ (v : Hold). v.parts) view;
  }

  pub lent : (own : Own) → own_deque own ≡ own_deque s.own → own_view own ≡ without_part (own_view s.own) → i < l.total
      → l.total < ALL_PARTS → AreLending l i j seats
      → AreSet l Ways (λ k. i + cond (ltb k (j + 1)) 1 0) (set seats j (record s { own = own }))
  lent own deque view inside small all = let here = was all in
      seats_set l l _ _ _ _ seats j _ all refl (record {
        number = here.number;
        name = rw deque here.name;
        pushed = ap (λ (v : Hold). v.pushed) view ∙ here.pushed;
        parts = rw ((lent_here i j).0) (omega (arith, ap (λ (v : Hold). v.parts) view, here.parts, inside, small));
        many = here.many;
        each = here.each;
        idle = λ x. let same = ap (λ (v : Hold). times x v.taken) view in omega (arith, same, here.idle x);
      }) (λ k u ne h. rw (lent_else i j k ne) h)

pub received : (l : Layout) (i j : ℕ) (seats : List Seat) (s t : Seat) (w : Way) → i < length seats → s ≡ get_or seats i s
    → t.ways.items ≡ s.ways.items ++ w ∷ [] → t.own ≡ s.own → t.at ≡ s.at → IsWay l j w → (way_view w).taken ≡ []
    → AreSet l (λ k. cond (ltb k i) l.total (cond (k == i) j 0)) (λ k. i + cond (ltb k (j + 1)) 1 0) seats
    → AreLending l i (j + 1) (set seats i t)
received l i j seats s t w less is more kept number way unused all =
    let there = seat_at l (λ k. cond (ltb k i) l.total (cond (k == i) j 0)) (λ k. i + cond (ltb k (j + 1)) 1 0) seats i s less is all in
    let here = subst (λ (n : ℕ). IsSet l i n (i + cond (ltb i (j + 1)) 1 0) s) (ways_here l.total i j) there in
    seats_set l l _ _ _ _ seats i t all refl (record {
      number = number ∙ here.number;
      name = rw kept here.name;
      pushed = rw kept here.pushed;
      parts = rw kept here.parts;
      many = omega (arith, ap length more, length-append s.ways.items (w ∷ []), here.many, ways_here l.total i (j + 1));
      each = rw more (more_ways l s.ways.items j w here.many way here.each);
      idle = λ x.
          let own : times x (own_view t.own).taken ≡ times x (own_view s.own).taken = rw kept refl in
          let none : times x (way_view w).taken ≡ 0 = rw unused refl in
          let longer : stole t.ways.items x ≡ stole s.ways.items x + times x (way_view w).taken =
          ap (λ (ws : List Way). stole ws x) more ∙ sum_by_push (λ (u : Way). times x (way_view u).taken) s.ways.items w in
          omega (arith, own, none, longer, here.idle x);
    }) (λ k u ne h. rw (ways_other l.total i j k ne) h)
