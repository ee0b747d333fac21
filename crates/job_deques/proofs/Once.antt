-- What the seats of a hand took, of one seat and of all.
use Rattle.std.proofs.Common.{◌≡◌, ◌≢◌, ℕ, zero, suc, ◌+◌, ◌-◌, ◌%◌, ◌<◌, ◌≤◌, List, [], ◌∷◌, length, get_or, take}
use Rattle.std.proofs.Common.{sym, refl, ap, ap₂, ◌∙◌, subst, arith}
use Rattle.std.proofs.Common.{◌⊎◌, inl, inr, add-one}
use Rattle.std.specs.Prelude.{Bool, true, false, cond, ltb, ◌==◌}
use Rattle.std.specs.List.{All, AllZip, sum_by}
use Rattle.std.proofs.Math.Nat.{mod-lt}
use Rattle.std.proofs.lemmas.Bool.Decides.{nat_tests}
use Rattle.std.proofs.Math.Seq.{take-length}
use Rattle.std.proofs.lemmas.List.Elements.{AllZip-get_or, length_all_zip}
use Rattle.std.proofs.lemmas.List.Sums.{sum_by-cons, sum_by_push, sum_by_more, sum_by-append}
use Rattle.job_counter.specs.Numbers.{times, once_below}
use Rattle.job_counter.proofs.Times.{once_more}
use Rattle.job_deques.specs.declared.view.TheConstants.{ALL_PARTS}
use Rattle.job_deques.specs.declared.way.Way.{Way}
use Rattle.job_deques.specs.declared.seat.Seat.{Seat}
use Rattle.job_deques.specs.Rule.{TookAll}
use Rattle.job_deques.specs.Seats.{Layout, IsTaking, AreBelow, StaysAtWork, parts_of, first_parts, took, all_took, stole}
use Rattle.job_deques.specs.Seats.{own_view, way_view}
use Rattle.job_deques.specs.Hands.{AreTaking, AreWhole, HasNoWay, places, numbers_below, pushed_to}
use Rattle.job_deques.specs.Dealt.{numbered, dealt}
use Rattle.job_deques.proofs.Listed.{all_behind, head}
use Rattle.job_deques.proofs.Seated.{stole_none}
use Rattle.job_deques.proofs.Given.{all_seats, number_of}

-- ---- a test of numbers

next_one : (j n k : ℕ) → cond (ltb j n) k 0 + cond (n == j) k 0 ≡ cond (ltb j (suc n)) k 0
next_one j n k = grind (arith, nat_tests)

none_yet : (j k : ℕ) → cond (ltb j zero) k 0 ≡ 0
none_yet j k = grind (arith, nat_tests)

there_now : (j n k : ℕ) → j < n → cond (ltb j n) k 0 ≡ k
there_now j n k less = grind (arith, nat_tests)

-- ---- seats that went on taking

zip_same : (j : ℕ) (old new : List Seat) → AllZip StaysAtWork old new
    → (places new ≡ places old) × (sum_by (parts_of j) new ≡ sum_by (parts_of j) old)
zip_same j [] [] same = (refl, refl)
zip_same j [] (t ∷ new) same = absurd same
zip_same j (s ∷ old) [] same = absurd same
zip_same j (s ∷ old) (t ∷ new) same =
    let here : parts_of j t ≡ parts_of j s = rw (same.0.at, same.0.parts, same.0.many) refl in
    let rest = zip_same j old new same.1 in (
      ap₂ (λ (n : ℕ) (l : List ℕ). n ∷ l) same.0.at rest.0,
      omega (arith, here, rest.1, sum_by-cons (parts_of j) s old, sum_by-cons (parts_of j) t new),
    )

module _ (old new : List Seat) (same : AllZip StaysAtWork old new) where
  pub stay_places : places new ≡ places old
  stay_places = (zip_same 0 old new same).0

  stay_at : (k : ℕ) (d : Seat) → k < length new → (k < length old) × StaysAtWork (get_or old k d) (get_or new k d)
  stay_at k d less =
      let within : k < length old = omega (arith, less, length_all_zip StaysAtWork old new same) in
      (within, AllZip-get_or StaysAtWork old new k d d same within)

  pub stay_taking : (l : Layout) → AreTaking l old → AreTaking l new
  stay_taking l of = record {
    some = of.some;
    small = of.small;
    few = rw stay_places of.few;
    each = λ k d less. let at = stay_at k d less in at.1.taking l (of.each k d at.0);
    parts = λ j less. rw stay_places ((zip_same j old new same).1 ∙ of.parts j less);
  }

  pub stay_bare : All HasNoWay old → All HasNoWay new
  stay_bare bare k d less = let at = stay_at k d less in at.1.many ∙ bare k d at.0

-- ---- each number is dealt to one deque

more_pushed : (l : Layout) (x n : ℕ) → pushed_to l x (numbers_below (suc n)) ≡ pushed_to l x (numbers_below n) + times x (l.pushed n)
more_pushed l x n = sum_by_push (λ (j : ℕ). times x (l.pushed j)) (numbers_below n) n

times-cond : (x n : ℕ) (b : Bool) → times x (cond b (n ∷ []) []) ≡ cond b (times x (n ∷ [])) 0
times-cond x n true = refl
times-cond x n false = refl

one_deque : (r m t : ℕ) → cond (r == m) t 0 + cond (ltb r m) t 0 ≡ cond (ltb r (suc m)) t 0
one_deque r m t = grind (arith, nat_tests)

one_more_dealt : (l : Layout) (x n m : ℕ) → pushed_to (numbered l (suc n)) x (numbers_below m)
    ≡ pushed_to (numbered l n) x (numbers_below m) + cond (ltb (n % l.total) m) (times x (n ∷ [])) 0
one_more_dealt l x n zero = grind (arith, nat_tests)
one_more_dealt l x n (suc m) =
    let here : times x (dealt l.total m (suc n)) ≡ times x (dealt l.total m n) + cond (n % l.total == m) (times x (n ∷ [])) 0 =
    sum_by-append _ (dealt l.total m n) (cond (n % l.total == m) (n ∷ []) [])
    ∙ ap (λ (k : ℕ). times x (dealt l.total m n) + k) (times-cond x n (n % l.total == m)) in
    omega (
      arith,
      here,
      one_more_dealt l x n m,
      one_deque (n % l.total) m (times x (n ∷ [])),
      more_pushed (numbered l (suc n)) x m,
      more_pushed (numbered l n) x m,
    )

none_dealt : (l : Layout) (x m : ℕ) → pushed_to (numbered l zero) x (numbers_below m) ≡ 0
none_dealt l x zero = refl
none_dealt l x (suc m) = omega (arith, none_dealt l x m, more_pushed (numbered l zero) x m)

once_none : (x : ℕ) → once_below x zero ≡ 0
once_none x = grind (arith, nat_tests)

pub dealt_once : (l : Layout) (x n : ℕ) → 0 < l.total → pushed_to (numbered l n) x (numbers_below l.total) ≡ once_below x n
dealt_once l x zero some = none_dealt l x l.total ∙ sym (once_none x)
dealt_once l x (suc n) some =
    let hit = there_now (n % l.total) l.total (times x (n ∷ [])) (mod-lt n some) in
    omega (arith, one_more_dealt l x n l.total, hit, dealt_once l x n some, once_more x n) ∙ ap (once_below x) (add-one n)

-- a number that was dealt is below the count
dealt_below : (total j n x : ℕ) → 0 < times x (dealt total j n) → x < n
dealt_below total j zero x some = absurd (omega (arith, some))
dealt_below total j (suc n) x some =
    let both = sum_by-append (λ (y : ℕ). cond (y == x) 1 0) (dealt total j n) (cond (n % total == j) (n ∷ []) []) in
    let here = times-cond x n (n % total == j) in
    let is : (n ≡ x) ⊎ (times x (n ∷ []) ≡ 0) = grind (arith, nat_tests) in
    let there : (0 < times x (dealt total j n)) ⊎ (0 < cond (n % total == j) (times x (n ∷ [])) 0) = grind (arith, both, here, some) in
    elim there [
      | inl h ↦ let below = dealt_below total j n x h in omega (arith, below)
      | inr h ↦ elim is [ inl e ↦ omega (arith, e) | inr none ↦ absurd (not_cond (n % total == j) (times x (n ∷ [])) none h) ]
    ]
  where
    not_cond : (b : Bool) (t : ℕ) → t ≡ 0 → 0 < cond b t 0 → ⊥
    not_cond true t none some = omega (arith, none, some)
    not_cond false t none some = omega (arith, some)

pub all_below : (l : Layout) → AreBelow (numbered l l.count)
all_below l j x inside some = dealt_below l.total j l.count x some

-- ---- one seat took each number once

more_own : (at n own : ℕ) → at ≢ n → cond (ltb at (suc n)) own 0 ≡ cond (ltb at n) own 0
more_own at n own apart = grind (arith, nat_tests)

first_own : (at own : ℕ) → (cond (ltb at at) own 0 ≡ 0) × (cond (ltb at (suc at)) own 0 ≡ own)
first_own at own = (grind (arith, nat_tests), grind (arith, nat_tests))

module _ (l : Layout) (s : Seat) (h : IsTaking l s) (x : ℕ) where
  abbrev own_took : ℕ
  own_took = times x (own_view s.own).taken

  own_within : own_took ≤ times x (l.pushed s.at)
  own_within = rw (sym h.pushed) (h.within x)

  of_ways : (n : ℕ) → n ≤ length s.ways.items
      → stole (take n s.ways.items) x + cond (ltb s.at n) own_took 0 ≤ pushed_to l x (numbers_below n)
  of_ways zero le = omega (arith, none_yet s.at own_took)
  of_ways (suc n) le =
      let less : n < length s.ways.items = omega (arith, le) in
      let d : Way = head s.ways.items (omega (arith, le)) in let way = h.ways n d less in
      let more : stole (take (suc n) s.ways.items) x ≡ stole (take n s.ways.items) x + times x (way_view (get_or s.ways.items n d)).taken =
      rw (sym (add-one n)) (sum_by_more (λ (w : Way). times x (way_view w).taken) s.ways.items n d less) in
      let within : times x (way_view (get_or s.ways.items n d)).taken ≤ times x (l.pushed n) = rw (sym way.pushed) (way.within x) in
      let rest = of_ways n (omega (arith, le)) in let pushed = more_pushed l x n in
      let same : (s.at ≡ n) ⊎ (s.at ≢ n) = grind arith in
      elim same [
        | inl e ↦
            let idle : times x (way_view (get_or s.ways.items n d)).taken ≡ 0 =
            subst (λ (k : ℕ). times x (way_view (get_or s.ways.items k d)).taken ≡ 0) e (h.idle x d (rw e less)) in
            let mine : own_took ≤ times x (l.pushed n) = subst (λ (k : ℕ). own_took ≤ times x (l.pushed k)) e own_within in
            let before : cond (ltb s.at n) own_took 0 ≡ 0 = rw (sym e) ((first_own s.at own_took).0) in
            let after : cond (ltb s.at (suc n)) own_took 0 ≡ own_took = rw (sym e) ((first_own s.at own_took).1) in
            omega (arith, more, idle, mine, before, after, rest, pushed)
        | inr ne ↦ omega (arith, more, within, more_own s.at n own_took ne, rest, pushed)
      ]

  of_others : (m n : ℕ) → n ≡ length s.ways.items + m
      → stole s.ways.items x + cond (ltb s.at n) own_took 0 ≤ pushed_to l x (numbers_below n)
  of_others zero n is =
      let end : n ≡ length s.ways.items = omega (arith, is) in
      let all : stole (take (length s.ways.items) s.ways.items) x ≡ stole s.ways.items x = rw (take-length s.ways.items) refl in
      rw end (omega (arith, all, of_ways (length s.ways.items) (omega arith)))
  of_others (suc m) zero is = absurd (omega (arith, is))
  of_others (suc m) (suc n) is =
      let rest = of_others m n (omega (arith, is)) in let pushed = more_pushed l x n in
      let same : (s.at ≡ n) ⊎ (s.at ≢ n) = grind arith in
      elim same [
        | inl e ↦
            let mine : own_took ≤ times x (l.pushed n) = subst (λ (k : ℕ). own_took ≤ times x (l.pushed k)) e own_within in
            let before : cond (ltb s.at n) own_took 0 ≡ 0 = rw (sym e) ((first_own s.at own_took).0) in
            let after : cond (ltb s.at (suc n)) own_took 0 ≡ own_took = rw (sym e) ((first_own s.at own_took).1) in
            omega (arith, mine, before, after, rest, pushed)
        | inr ne ↦ omega (arith, more_own s.at n own_took ne, rest, pushed)
      ]

  pub seat_once : took s x ≤ pushed_to l x (numbers_below l.total)
  seat_once =
      let all = of_others (l.total - length s.ways.items) l.total (omega (arith, h.few)) in
      omega (arith, all, there_now s.at l.total own_took h.at)

-- ---- all seats that gave back their ways

pub whole_once : (l : Layout) (x : ℕ) (seats : List Seat) → All (IsTaking l) seats → All HasNoWay seats
    → all_took seats x ≤ pushed_to l x (places seats)
whole_once l x [] each bare = omega arith
whole_once l x (s ∷ seats) each bare =
    let rest = whole_once l x seats (all_behind (IsTaking l) s seats each) (all_behind HasNoWay s seats bare) in
    let none = stole_none s.ways.items x (bare 0 s (omega arith)) in
    let within = own_within l s (each 0 s (omega arith)) x in
    omega (
      arith,
      rest,
      none,
      within,
      sum_by-cons (λ (u : Seat). took u x) s seats,
      sum_by-cons (λ (j : ℕ). times x (l.pushed j)) s.at (places seats),
    )

whole_taken : (l : Layout) (x : ℕ) (seats : List Seat) → All (IsTaking l) seats → All HasNoWay seats
    → All (λ s. times x (own_view s.own).taken ≡ times x (own_view s.own).pushed) seats → all_took seats x ≡ pushed_to l x (places seats)
whole_taken l x [] each bare all = refl
whole_taken l x (s ∷ seats) each bare all =
    let P : Seat → Type 0 = λ u. times x (own_view u.own).taken ≡ times x (own_view u.own).pushed in
    let rest = whole_taken l x seats (all_behind (IsTaking l) s seats each) (all_behind HasNoWay s seats bare) (all_behind P s seats all) in
    let none = stole_none s.ways.items x (bare 0 s (omega arith)) in
    let here : times x (own_view s.own).taken ≡ times x (l.pushed s.at) =
    all 0 s (omega arith) ∙ ap (times x) (each 0 s (omega arith)).pushed in
    omega (
      arith,
      rest,
      none,
      here,
      sum_by-cons (λ (u : Seat). took u x) s seats,
      sum_by-cons (λ (j : ℕ). times x (l.pushed j)) s.at (places seats),
    )

-- ---- each owner has all parts

-- how many seats have the number, and the sum of what these have
module _ (j : ℕ) (p : Seat → ℕ) where
  abbrev one_at : Seat → ℕ
  one_at s = cond (s.at == j) 1 0

  abbrev sum_at : Seat → ℕ
  sum_at s = cond (s.at == j) (p s) 0

  -- a seat has the number or not
  at_or_not : (s : Seat) → ((one_at s ≡ 1) × (sum_at s ≡ p s)) ⊎ ((one_at s ≡ 0) × (sum_at s ≡ 0))
  at_or_not s = by_case (s.at == j) (p s)
    where
      by_case : (b : Bool) (n : ℕ) → ((cond {A = ℕ} b 1 0 ≡ 1) × (cond b n 0 ≡ n)) ⊎ ((cond {A = ℕ} b 1 0 ≡ 0) × (cond b n 0 ≡ 0))
      by_case true n = inl (refl, refl)
      by_case false n = inr (refl, refl)

  is_at : (s : Seat) → s.at ≡ j → one_at s ≡ 1
  is_at s e = grind (arith, nat_tests)

  none_at : (seats : List Seat) → sum_by one_at seats ≡ 0 → sum_by sum_at seats ≡ 0
  none_at [] none = refl
  none_at (s ∷ seats) none = elim (at_or_not s) [
    | inl is ↦ absurd (omega (arith, none, is.0, sum_by-cons one_at s seats))
    | inr is ↦
        let fewer : sum_by one_at seats ≡ 0 = omega (arith, none, is.0, sum_by-cons one_at s seats) in
        omega (arith, is.1, none_at seats fewer, sum_by-cons sum_at s seats)
  ]

  some_at : (seats : List Seat) (i : ℕ) (d : Seat) → i < length seats → (get_or seats i d).at ≡ j → 1 ≤ sum_by one_at seats
  some_at [] i d less is = absurd (omega (arith, less))
  some_at (s ∷ seats) zero d less is = omega (arith, is_at s is, sum_by-cons one_at s seats)
  some_at (s ∷ seats) (suc i) d less is = omega (arith, some_at seats i d (omega (arith, less)) is, sum_by-cons one_at s seats)

  -- where only one seat has the number, the sum is what it has
  pub only_at : (seats : List Seat) (i : ℕ) (d : Seat) → i < length seats → (get_or seats i d).at ≡ j → sum_by one_at seats ≡ 1
      → sum_by sum_at seats ≡ p (get_or seats i d)
  only_at [] i d less is one = absurd (omega (arith, less))
  only_at (s ∷ seats) zero d less is one = elim (at_or_not s) [
    | inl here ↦
        let none : sum_by one_at seats ≡ 0 = omega (arith, one, here.0, sum_by-cons one_at s seats) in
        omega (arith, here.1, none_at seats none, sum_by-cons sum_at s seats)
    | inr not ↦ absurd (omega (arith, not.0, is_at s is))
  ]
  only_at (s ∷ seats) (suc i) d less is one =
      let within : i < length seats = omega (arith, less) in let some = some_at seats i d within is in
      elim (at_or_not s) [
        | inl here ↦ absurd (omega (arith, one, here.0, some, sum_by-cons one_at s seats))
        | inr not ↦
            let same : sum_by one_at seats ≡ 1 = omega (arith, one, not.0, sum_by-cons one_at s seats) in
            omega (arith, not.1, only_at seats i d within is same, sum_by-cons sum_at s seats)
      ]

sum_places : (g : ℕ → ℕ) (seats : List Seat) → sum_by (λ s. g s.at) seats ≡ sum_by g (places seats)
sum_places g [] = refl
sum_places g (s ∷ seats) =
    omega (arith, sum_places g seats, sum_by-cons (λ (u : Seat). g u.at) s seats, sum_by-cons g s.at (places seats))

one_number : (j n : ℕ) → sum_by (λ i. cond (i == j) 1 0) (numbers_below n) ≡ cond (ltb j n) 1 0
one_number j zero = sym (none_yet j 1)
one_number j (suc n) = omega (arith, one_number j n, sum_by_push (λ (i : ℕ). cond (i == j) 1 0) (numbers_below n) n, next_one j n 1)

parts_below : (l : Layout) (j n : ℕ) → sum_by (first_parts l j) (numbers_below n) ≡ cond (ltb j n) (ALL_PARTS - l.total) 0 + n
parts_below l j zero = omega (arith, none_yet j (ALL_PARTS - l.total))
parts_below l j (suc n) =
    omega (arith, parts_below l j n, sum_by_push (first_parts l j) (numbers_below n) n, next_one j n (ALL_PARTS - l.total))

bare_parts : (j : ℕ) (seats : List Seat) → All HasNoWay seats
    → sum_by (parts_of j) seats ≡ sum_by (λ s. cond (s.at == j) (own_view s.own).parts 0) seats
bare_parts j [] bare = refl
bare_parts j (s ∷ seats) bare =
    let one : ℕ = 1 in
    let here : cond (ltb j (length s.ways.items)) one 0 ≡ 0 = rw (bare 0 s (omega arith)) (none_yet j one) in
    let rest = bare_parts j seats (all_behind HasNoWay s seats bare) in
    let sum = sum_by-cons (λ (u : Seat). cond (u.at == j) (own_view u.own).parts 0) s seats in
    omega (arith, here, rest, sum_by-cons (parts_of j) s seats, sum)

module _ (l : Layout) (seats : List Seat) (now : AreWhole l seats) (bare : All HasNoWay seats) where
  all_parts : (k : ℕ) (d : Seat) → k < length seats → (own_view (get_or seats k d).own).parts ≡ ALL_PARTS
  all_parts k d less =
      let below : k < l.total = omega (arith, less, all_seats seats l.total now.whole) in
      let one : sum_by (λ s. cond (s.at == k) 1 0) seats ≡ 1 =
      sum_places (λ i. cond (i == k) 1 0) seats ∙ (ap (sum_by (λ i. cond (i == k) 1 0)) now.whole
      ∙ (one_number k l.total ∙ there_now k l.total 1 below)) in
      let first : sum_by (first_parts l k) (places seats) ≡ sum_by (first_parts l k) (numbers_below l.total) = rw now.whole refl in
      let only = only_at k (λ (s : Seat). (own_view s.own).parts) seats k d less (number_of seats l.total k d now.whole below) one in
      omega (
        arith,
        only,
        first,
        bare_parts k seats bare,
        now.of.parts k below,
        parts_below l k l.total,
        there_now k l.total (ALL_PARTS - l.total) below,
        now.of.small,
      )

  -- no number is left where each owner found its deque empty
  pub whole_over : All (λ s. TookAll (own_view s.own)) seats → (x : ℕ) → all_took seats x ≡ pushed_to l x (numbers_below l.total)
  whole_over all x =
      whole_taken l x seats now.of.each bare (λ k d less. all k d less (all_parts k d less) x) ∙ ap (pushed_to l x) now.whole

pub stay_whole : (l : Layout) (old new : List Seat) → AllZip StaysAtWork old new → AreWhole l old → AreWhole l new
stay_whole l old new same now = record { of = stay_taking old new same l now.of; whole = stay_places old new same ∙ now.whole }

-- what one seat took, or none
pub few_once : (l : Layout) (x : ℕ) (seats : List Seat) → length seats ≤ 1 → All (IsTaking l) seats
    → all_took seats x ≤ pushed_to l x (numbers_below l.total)
few_once l x [] few each = omega arith
few_once l x (s ∷ []) few each =
    omega (arith, seat_once l s (each 0 s (omega arith)) x, sum_by-cons (λ (u : Seat). took u x) s [])
few_once l x (s ∷ t ∷ seats) few each = absurd (omega (arith, few))
