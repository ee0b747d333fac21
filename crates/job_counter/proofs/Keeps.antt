-- The steps of the counter keep its rule: sums over what the seats know, and what a step makes of them.
use Rattle.std.proofs.Common.{◌≡◌, ℕ, zero, suc, ◌+◌, ◌/◌, ◌%◌, ◌<◌, ◌≤◌, List, [], ◌∷◌, ◌++◌, length, get_or, set, sym, refl, ap, ap₂}
use Rattle.std.proofs.Common.{◌∙◌, subst, arith, length-set, length-append, get_or-set_same}
use Rattle.std.specs.List.{sum_by}
use Rattle.std.proofs.Math.Nat.{mod-eq_of_lt}
use Rattle.std.proofs.lemmas.List.{set-get_or}
use Rattle.std.proofs.lemmas.List.Sums.{sum_by-cons, sum_by_push, sum_by-le-sum_by, count_by-le-length}
use mathlib.Core.Option.{some}
use lib.ListN.{get_elem?}
use Rattle.atomic_table.specs.Table.{State, Me, keeps, stepped, Allows, Splits, Joins}
use Rattle.atomic_table.proofs.Lists.{at_set, at_snoc, set_else, set_again}
use Rattle.job_counter.specs.declared.counter.TheConstants.{ALL_PARTS}
use Rattle.job_counter.specs.declared.view.Hand.{Hand}
use Rattle.job_counter.specs.Numbers.{times, once_below}
use Rattle.job_counter.specs.Rule.{Rule, hand, Drew, Counted, first_half, second_half, both_hands}
use Rattle.job_counter.proofs.Sums.{total-set}
use Rattle.job_counter.proofs.Times.{times-append, once_more}

-- ---- sums

-- each seat drew no more numbers than it has parts
abbrev AllWithin : List Hand → Type 0
AllWithin l = (id : ℕ) (v : Hand) → get_elem? l id ≡ some v → length v.drawn ≤ v.parts

within_set : (l : List Hand) (i : ℕ) (w : Hand) → AllWithin l → length w.drawn ≤ w.parts → AllWithin (set l i w)
within_set l i w all new j v e = grind (arith, at_set l i j w v e)

-- where each seat drew no more than its parts, so did all together
total_within : (l : List Hand) → AllWithin l → sum_by (λ v. length v.drawn) l ≤ sum_by (λ v. v.parts) l
total_within [] all = omega arith
total_within (x ∷ xs) all =
    let rest = total_within xs (λ i v e. all (suc i) v e) in let here = all zero x refl in
    omega (arith, sum_by-cons (λ (v : Hand). length v.drawn) x xs, sum_by-cons (λ (v : Hand). v.parts) x xs)

-- a number is drawn no more often than numbers are drawn
total_times : (x : ℕ) (l : List Hand) → sum_by (λ v. times x v.drawn) l ≤ sum_by (λ v. length v.drawn) l
total_times x l = sum_by-le-sum_by _ _ l (λ (v : Hand). count_by-le-length _ v.drawn)

-- a seat with all parts drew all that was drawn
alone : (l : List Hand) → AllWithin l → (id : ℕ) (v : Hand) → get_elem? l id ≡ some v → v.parts ≡ sum_by (λ v. v.parts) l
    → (length v.drawn ≡ sum_by (λ v. length v.drawn) l) × ((x : ℕ) → times x v.drawn ≡ sum_by (λ v. times x v.drawn) l)
alone l all id v at whole =
    let spent : Hand = hand 0 [] in
    let others = total_within (set l id spent) (within_set l id spent all (omega arith)) in
    let parts = total-set (λ (h : Hand). h.parts) l id v spent at in (
      omega (arith, others, parts, whole, total-set (λ (h : Hand). length h.drawn) l id v spent at),
      λ x. omega (arith, others, parts, whole, total_times x (set l id spent), total-set (λ (h : Hand). times x h.drawn) l id v spent at),
    )

-- ---- steps

-- one number more was drawn, which is the word as it was
one_more : (s : State (Unit {0}) Hand) → Rule s → (id : ℕ) (v : Hand) → get_elem? s.views id ≡ some v → length v.drawn < v.parts
    → (c : List (ℕ × Unit {0})) → Rule (stepped s 0 (get_or s.words 0 0 + 1) id c (hand v.parts (v.drawn ++ get_or s.words 0 0 ∷ [])) keeps)
one_more s given id v at part c =
    let n : ℕ = get_or s.words 0 0 in let w : Hand = hand v.parts (v.drawn ++ n ∷ []) in
    let longer : length (v.drawn ++ n ∷ []) ≡ length v.drawn + 1 = length-append v.drawn (n ∷ []) in
    let here : get_or (set s.words 0 (n + 1)) 0 0 ≡ n + 1 = get_or-set_same s.words 0 (n + 1) 0 (omega (arith, given.one_word)) in record {
      one_word = length-set s.words 0 (n + 1) ∙ given.one_word;
      parts = omega (arith, given.parts, total-set (λ (h : Hand). h.parts) s.views id v w at);
      within = within_set s.views id w given.within (omega arith);
      count = omega (arith, given.count, here, longer, total-set (λ (h : Hand). length h.drawn) s.views id v w at);
      once = λ x. omega (
        arith,
        total-set (λ (h : Hand). times x h.drawn) s.views id v w at,
        given.once x,
        times-append x v.drawn (n ∷ []),
        once_more x n,
      ) ∙ ap (once_below x) (sym here);
    }

pub draws : (slots id : ℕ) (me : Me (Unit {0}) Hand) → length me.0.drawn < me.0.parts
    → Allows Rule slots id me 0 (λ n. (n + 1) % 18446744073709551616) (Drew me)
draws slots id me part s given _ at small =
    let n : ℕ = get_or s.words 0 0 in
    let whole : (n + 1) % 18446744073709551616 ≡ n + 1 =
    mod-eq_of_lt (omega (arith, total_within s.views given.within, given.parts, given.count)) in
    let mine : (x : ℕ) → times x me.0.drawn ≤ once_below x n =
    λ x. omega (arith, total-set (λ (h : Hand). times x h.drawn) s.views id me.0 (hand 0 []) at, given.once x) in
    (hand me.0.parts (me.0.drawn ++ n ∷ []), keeps, tt, rw whole (one_more s given id me.0 at part me.1), (refl, refl, mine))

pub divides : (id : ℕ) (v : Hand) → length v.drawn ≤ v.parts / 2 → Splits Rule id v (first_half v) (second_half v)
divides id v few s given at =
    let left : Hand = first_half v in let right : Hand = second_half v in let l : List Hand = set s.views id left in
    let total : (f : Hand → ℕ) → sum_by f (l ++ right ∷ []) + f v ≡ sum_by f s.views + (f left + f right) =
    λ f. omega (arith, total-set f s.views id v left at, sum_by_push f l right) in record {
      one_word = given.one_word;
      parts = omega (arith, given.parts, total (λ (h : Hand). h.parts));
      within = λ j u e. grind (arith, within_set s.views id left given.within (omega arith) j u, at_snoc l right u j e);
      count = omega (arith, given.count, total (λ (h : Hand). length h.drawn));
      once = λ x. omega (arith, given.once x, total (λ (h : Hand). times x h.drawn));
    }

pub unites : (id : ℕ) (v : Hand) (other : ℕ) (w : Hand) → Joins Rule id v other w (both_hands v w) (hand 0 [])
unites id v other w s given at apart at' =
    let both : Hand = both_hands v w in let spent : Hand = hand 0 [] in let l : List Hand = set s.views id both in
    let was : get_elem? s.views other ≡ some w = sym (set_else s.views id other both apart) ∙ at' in
    let longer = length-append v.drawn w.drawn in
    let fits : length both.drawn ≤ both.parts = omega (arith, longer, given.within id v at, given.within other w was) in
    let total : (f : Hand → ℕ) → sum_by f (set l other spent) + (f v + f w) ≡ sum_by f s.views + (f both + f spent) =
    λ f. omega (arith, total-set f s.views id v both at, total-set f l other w spent at') in record {
      one_word = given.one_word;
      parts = omega (arith, given.parts, total (λ (h : Hand). h.parts));
      within = within_set l other spent (within_set s.views id both given.within fits) (omega arith);
      count = omega (arith, longer, given.count, total (λ (h : Hand). length h.drawn));
      once = λ x. omega (arith, total (λ (h : Hand). times x h.drawn), given.once x, times-append x v.drawn w.drawn);
    }

pub counts : (slots id : ℕ) (me : Me (Unit {0}) Hand) → Allows Rule slots id me 0 (λ n. n) (Counted me)
counts slots id me s given _ at small =
    let drew = λ (all : me.0.parts ≡ ALL_PARTS). alone s.views given.within id me.0 at (all ∙ sym given.parts) in
    let words = sym (set-get_or s.words 0 0) in
    let views = sym (set_again s.views id me.0 at) in (
      me.0,
      keeps,
      tt,
      subst Rule (ap₂ (λ ws vs. record { words = ws; homes = s.homes; views = vs }) words views) given,
      (refl, λ all. (drew all).0 ∙ given.count, λ all x. (drew all).1 x ∙ given.once x),
    )
