-- What a worker took, and from whom.
use Rattle.std.proofs.Common.{◌≡◌, ℕ, ◌+◌, ◌%◌, ◌<◌, List, [], ◌∷◌, length, get_or, set, sym, refl, ap, ◌∙◌, ◌≢◌, subst}
use Rattle.std.proofs.Common.{arith, ◌⊎◌, inl, inr}
use Rattle.std.proofs.Math.Nat.{mod-lt}
use Rattle.std.proofs.lemmas.Bool.Decides.{nat_tests}
use Rattle.std.proofs.lemmas.List.{get_or-set_same, get_or-set_other, length-set}
use Rattle.std.proofs.lemmas.List.Sums.{sum_by-set, sum_by-append}
use Rattle.job_counter.specs.Numbers.{times}
use Rattle.job_deques.specs.declared.view.Hold.{Hold}
use Rattle.job_deques.specs.declared.way.Way.{Way}
use Rattle.job_deques.specs.declared.own.Own.{Own}
use Rattle.job_deques.specs.declared.seat.Seat.{Seat}
use Rattle.job_deques.specs.Rule.{Took, IsWithin}
use Rattle.job_deques.specs.Seats.{Layout, IsWay, AreWays, AreBelow, IsTaking, StaysAtWork, own_view, own_deque, way_view, way_deque, stole}

-- a number that was taken was taken once more, and was pushed
pub more : (n : ℕ) (v w : Hold) → Took v (n ∷ []) w
    → (w.pushed ≡ v.pushed) × (w.parts ≡ v.parts) × ((x : ℕ) → times x w.taken ≡ times x v.taken + times x (n ∷ []))
    × (0 < times n v.pushed)
more n v w took =
    let longer : (x : ℕ) → times x w.taken ≡ times x v.taken + times x (n ∷ []) =
    λ x. ap (λ (u : Hold). times x u.taken) took.0 ∙ sum_by-append _ v.taken (n ∷ []) in
    let itself : times n (n ∷ []) ≡ 1 = grind (arith, nat_tests) in
    let pushed = ap (λ (u : Hold). u.pushed) took.0 in (
      pushed,
      ap (λ (u : Hold). u.parts) took.0,
      longer,
      rw (sym pushed) (omega (arith, took.1 n, longer n, itself)),
    )

pub stays : (s : Seat) → StaysAtWork s s
stays s = record { at = refl; parts = refl; many = refl; taking = λ l h. h }

pub stays_on : {s t u : Seat} → StaysAtWork s t → StaysAtWork t u → StaysAtWork s u
stays_on one two = record {
  at = two.at ∙ one.at;
  parts = two.parts ∙ one.parts;
  many = two.many ∙ one.many;
  taking = λ l h. two.taking l (one.taking l h);
}

-- a seat after its own deque was used, and after a way was
pub own_used : (s : Seat) (own : Own) → own_deque own ≡ own_deque s.own → (own_view own).pushed ≡ (own_view s.own).pushed
    → (own_view own).parts ≡ (own_view s.own).parts → (IsWithin (own_view s.own) → IsWithin (own_view own))
    → StaysAtWork s (record s { own = own })
own_used s own deque pushed parts within = record {
  at = refl;
  parts = parts;
  many = refl;
  taking = λ l h. record {
    at = h.at;
    name = rw deque h.name;
    pushed = pushed ∙ h.pushed;
    within = within h.within;
    few = h.few;
    ways = h.ways;
    idle = h.idle;
  };
}

pub own_same : (s : Seat) (own : Own) → own_deque own ≡ own_deque s.own → own_view own ≡ own_view s.own
    → StaysAtWork s (record s { own = own })
own_same s own deque view =
    own_used s own deque (ap (λ (v : Hold). v.pushed) view) (ap (λ (v : Hold). v.parts) view) (λ within. rw view within)

module _ (s t : Seat) (i : ℕ) (old w : Way) (less : i < length s.ways.items) (is : old ≡ get_or s.ways.items i old)
    (apart : i ≢ s.at) (at : t.at ≡ s.at) (own : t.own ≡ s.own) (ways : t.ways.items ≡ set s.ways.items i w)
    (deque : way_deque w ≡ way_deque old) (pushed : (way_view w).pushed ≡ (way_view old).pushed)
    (parts : (way_view w).parts ≡ (way_view old).parts) (within : IsWithin (way_view old) → IsWithin (way_view w)) where
  ways_set : (l : Layout) → AreWays l s.ways.items → AreWays l (set s.ways.items i w)
  ways_set l all j d inside =
      let same : (j ≡ i) ⊎ (j ≢ i) = grind arith in
      let there : j < length s.ways.items = rw (sym (length-set s.ways.items i w)) inside in
      elim same [
        | inl e ↦
            let was : IsWay l j old = subst (IsWay l j) (ap (λ (k : ℕ). get_or s.ways.items k old) e ∙ sym is) (all j old there) in
            rw (e, get_or-set_same s.ways.items i w d less) (rw (sym e) (record {
              name = rw deque was.name;
              pushed = pushed ∙ was.pushed;
              within = within was.within;
              part = parts ∙ was.part;
            }))
        | inr ne ↦ rw (get_or-set_other s.ways.items i j w d ne) (all j d there)
      ]

  pub way_used : StaysAtWork s t
  way_used = record {
    at = at;
    parts = ap (λ (o : Own). (own_view o).parts) own;
    many = ap length ways ∙ length-set s.ways.items i w;
    taking = λ l h. record {
      at = rw at h.at;
      name = rw (at, own) h.name;
      pushed = rw (at, own) h.pushed;
      within = rw own h.within;
      few = rw (ways, length-set s.ways.items i w) h.few;
      ways = rw ways (ways_set l h.ways);
      idle = λ x d inside.
          let there : s.at < length s.ways.items = omega (arith, inside, at, ap length ways, length-set s.ways.items i w) in
          rw (at, ways, get_or-set_other s.ways.items i s.at w d (λ e. apart (sym e))) (h.idle x d there);
    };
  }

-- where a number lies that is taken by the length
pub inside : (n total len : ℕ) → 0 < total → total ≡ len → n % total < len
inside n total len any same = rw (sym same) (mod-lt n any)

pub stole_none : (ways : List Way) (x : ℕ) → length ways ≡ 0 → stole ways x ≡ 0
stole_none [] x none = refl
stole_none (w ∷ ways) x none = absurd (omega (arith, none))

pub stole_set : (ways : List Way) (i : ℕ) (w old : Way) (x : ℕ) → i < length ways → old ≡ get_or ways i old
    → stole (set ways i w) x + times x (way_view old).taken ≡ stole ways x + times x (way_view w).taken
stole_set ways i w old x less at =
    let e = ap (λ (u : Way). times x (way_view u).taken) at in
    omega (arith, e, sum_by-set (λ (u : Way). times x (way_view u).taken) ways i w old less)

-- a number that was taken by a way is below the count
pub below_of : (l : Layout) (s : Seat) (from n : ℕ) (old : Way) → from < length s.ways.items → old ≡ get_or s.ways.items from old
    → IsTaking l s → AreBelow l → 0 < times n (way_view old).pushed → n < l.count
below_of l s from n old less at h below pushed =
    let way : IsWay l from old = subst (IsWay l from) (sym at) (h.ways from old less) in
    below from n (omega (arith, less, h.few)) (rw (sym way.pushed) pushed)
