-- The steps of a deque keep its rule.
use Rattle.std.proofs.Common.{◌≡◌, ℕ, zero, suc, ◌+◌, ◌<◌, ◌≤◌, List, [], ◌∷◌, ◌++◌, set, sym, refl, ap}
use Rattle.std.proofs.Common.{◌∙◌, ◌≢◌, subst, ⊎_elim, arith}
use Rattle.std.specs.List.{sum_by}
use Rattle.std.proofs.lemmas.List.Sums.{get_or-le-sum_by, sum_by-cons, sum_by_push}
use mathlib.Core.Option.{some, some-ne-none}
use lib.ListN.{get_elem?}
use Rattle.crossbeam_deque.proofs.Lists.{at_set, at_snoc, set_else}
use Rattle.crossbeam_deque.specs.Tasks.{Pushes, Takes, Finds, Learns, Forks, Merges}
use Rattle.job_counter.specs.Numbers.{times}
use Rattle.job_counter.proofs.Sums.{found, total-set}
use Rattle.job_counter.proofs.Times.{times-append}
use Rattle.job_deques.specs.declared.view.TheConstants.{ALL_PARTS}
use Rattle.job_deques.specs.declared.view.Hold.{Hold}
use Rattle.job_deques.specs.Rule.{Kept, hold, IsWithin, Pushed, Took, TookAll, without_part, one_part, together}

-- ---- sums

-- a pass has no more of anything than all have
one_of_all : (f : Hold → ℕ) (l : List Hold) (i : ℕ) (v : Hold) → get_elem? l i ≡ some v → f v ≤ sum_by f l
one_of_all f l i v e = let at = found l i v e in rw (sym (ap f at.1)) (get_or-le-sum_by f l i v at.0)

-- where one pass has all parts, each other has none
others_idle : (l : List Hold) (i : ℕ) (v : Hold) → get_elem? l i ≡ some v → v.parts ≡ sum_by (λ v. v.parts) l
    → (j : ℕ) (u : Hold) → ¬ (j ≡ i) → get_elem? l j ≡ some u → u.parts ≡ 0
others_idle l i v e whole j u apart at =
    let spent : Hold = hold 0 [] [] in
    let there : get_elem? (set l i spent) j ≡ some u = set_else l i j spent apart ∙ at in
    omega (arith, whole, total-set (λ (h : Hold). h.parts) l i v spent e, one_of_all (λ (h : Hold). h.parts) (set l i spent) j u there)

idle_sum : (f : Hold → ℕ) → (l : List Hold) → ((j : ℕ) (u : Hold) → get_elem? l j ≡ some u → f u ≡ 0) → sum_by f l ≡ 0
idle_sum f [] none = refl
idle_sum f (x ∷ xs) none = omega (arith, sum_by-cons f x xs, none zero x refl, idle_sum f xs (λ j u e. none (suc j) u e))

-- ---- what holds of each pass

module _ (F : ℕ → Hold → Type 0) (views : List Hold) (port : ℕ) (w : Hold) where
  -- what holds of each pass after one changed
  all-set : F port w → ((j : ℕ) (u : Hold) → j ≢ port → get_elem? views j ≡ some u → F j u)
      → (j : ℕ) (u : Hold) → get_elem? (set views port w) j ≡ some u → F j u
  all-set mine others j u e =
      ⊎_elim (λ (x : (j ≡ port) × (w ≡ u)). subst (λ (y : ℕ × Hold). F y.0 y.1) (λ i. (sym x.0 i, x.1 i)) mine)
      (λ (x : (j ≢ port) × (get_elem? views j ≡ some u)). others j u x.0 x.1) (at_set views port j w u e)

abbrev Knows : List ℕ → ℕ → Hold → Type 0
Knows pushed j u = 0 < u.parts → u.pushed ≡ pushed

abbrev IdleIsEmpty : ℕ → Hold → Type 0
IdleIsEmpty j u = u.parts ≡ 0 → u.taken ≡ []

-- who has all parts took all that was taken
alone : (views : List Hold) (port : ℕ) (v : Hold) (f : Hold → ℕ) → ((u : Hold) → u.taken ≡ [] → f u ≡ 0)
    → ((j : ℕ) (u : Hold) → get_elem? views j ≡ some u → IdleIsEmpty j u) → get_elem? views port ≡ some v
    → v.parts ≡ sum_by (λ v. v.parts) views → sum_by f views ≡ f v
alone views port v f empty idle at whole =
    let spent : Hold = hold 0 [] [] in
    let rest : sum_by f (set views port spent) ≡ 0 =
    idle_sum f (set views port spent) (all-set (λ _ u. f u ≡ 0) views port spent (empty spent refl)
    (λ j u apart e. empty u (idle j u e (others_idle views port v at whole j u apart e)))) in
    omega (arith, rest, total-set f views port v spent at, empty spent refl)

-- ---- steps

-- the first pass alone
abbrev first_views : List Hold
first_views = hold ALL_PARTS [] [] ∷ []

nothing_else : (j : ℕ) (u : Hold) → j ≢ 0 → get_elem? first_views j ≡ some u → ⊥
nothing_else zero u apart e = apart refl
nothing_else (suc j) u apart e = some-ne-none u (sym e)

pub begins : Kept [] first_views
begins = record {
  pushed = [];
  parts = refl;
  known = all-set (Knows []) first_views 0 (hold ALL_PARTS [] []) (λ _. refl) (λ j u apart e. absurd (nothing_else j u apart e));
  idle = all-set IdleIsEmpty first_views 0 (hold ALL_PARTS [] []) (λ none. absurd (omega arith))
      (λ j u apart e. absurd (nothing_else j u apart e));
  once = λ x. refl;
}

pub pushes : (port : ℕ) (v : Hold) (x : ℕ) → v.parts ≡ ALL_PARTS → Pushes Kept port v (x ∷ []) (Pushed v (x ∷ []))
pushes port v x whole items views h at =
    let w : Hold = hold v.parts (v.pushed ++ x ∷ []) v.taken in
    let mine : v.pushed ≡ h.pushed = h.known port v at (omega arith) in (
      w,
      record {
        pushed = h.pushed ++ x ∷ [];
        parts = omega (arith, h.parts, total-set (λ (u : Hold). u.parts) views port v w at);
        known = all-set (Knows (h.pushed ++ x ∷ [])) views port w (λ _. ap (λ l. l ++ x ∷ []) mine)
            (λ j u apart e some_part. absurd (omega (arith, some_part, others_idle views port v at (whole ∙ sym h.parts) j u apart e)));
        idle = all-set IdleIsEmpty views port w (λ none. absurd (omega arith)) (λ j u apart e. h.idle j u e);
        once = λ y. omega (
          arith,
          h.once y,
          total-set (λ (u : Hold). times y u.taken) views port v w at,
          times-append y h.pushed (x ∷ []),
          times-append y items (x ∷ []),
        );
      },
      refl,
    )

pub takes : (port : ℕ) (v : Hold) → 0 < v.parts → Takes Kept port v 1 (Took v)
takes port v some_part xs items views _ _ h at =
    let w : Hold = hold v.parts v.pushed (v.taken ++ xs) in
    let mine : v.pushed ≡ h.pushed = h.known port v at some_part in
    let within : IsWithin w = λ y. rw mine (omega (
      arith,
      h.once y,
      one_of_all (λ (u : Hold). times y u.taken) views port v at,
      times-append y v.taken xs,
      times-append y xs items,
    )) in (
      w,
      record {
        pushed = h.pushed;
        parts = omega (arith, h.parts, total-set (λ (u : Hold). u.parts) views port v w at);
        known = all-set (Knows h.pushed) views port w (λ _. mine) (λ j u apart e. h.known j u e);
        idle = all-set IdleIsEmpty views port w (λ none. absurd (omega arith)) (λ j u apart e. h.idle j u e);
        once = λ y. omega (
          arith,
          h.once y,
          total-set (λ (u : Hold). times y u.taken) views port v w at,
          times-append y v.taken xs,
          times-append y xs items,
        );
      },
      (refl, within),
    )

pub learns : (port : ℕ) (v : Hold) → 0 < v.parts → Learns Kept port v (λ _. IsWithin v)
learns port v some_part items views h at y =
    let mine : v.pushed ≡ h.pushed = h.known port v at some_part in
    rw mine (omega (arith, h.once y, one_of_all (λ (u : Hold). times y u.taken) views port v at))

pub finds : (port : ℕ) (v : Hold) → Finds Kept port v (TookAll v)
finds port v views h at whole x =
    let mine : v.pushed ≡ h.pushed = h.known port v at (omega arith) in
    let all = alone views port v (λ (u : Hold). times x u.taken) (λ u e. rw e refl) h.idle at (whole ∙ sym h.parts) in
    rw mine (omega (arith, h.once x, all))

pub forks : (port : ℕ) (v : Hold) → 1 < v.parts → Forks Kept port v (without_part v) (one_part v)
forks port v more items views h at =
    let left : Hold = without_part v in let right : Hold = one_part v in let l : List Hold = set views port left in
    let mine : v.pushed ≡ h.pushed = h.known port v at (omega arith) in
    let total : (f : Hold → ℕ) → sum_by f (l ++ right ∷ []) + f v ≡ sum_by f views + (f left + f right) =
    λ f. omega (arith, total-set f views port v left at, sum_by_push f l right) in record {
      pushed = h.pushed;
      parts = omega (arith, h.parts, total (λ (u : Hold). u.parts));
      known = λ j u e. ⊎_elim (all-set (Knows h.pushed) views port left (λ _. mine) (λ j u apart e. h.known j u e) j u)
          (λ (is : right ≡ u). subst (Knows h.pushed j) is (λ _. mine)) (at_snoc l right u j e);
      idle = λ j u e. ⊎_elim (all-set IdleIsEmpty views port left (λ none. absurd (omega arith)) (λ j u apart e. h.idle j u e) j u)
          (λ (is : right ≡ u). subst (IdleIsEmpty j) is (λ _. refl)) (at_snoc l right u j e);
      once = λ x. omega (arith, h.once x, total (λ (u : Hold). times x u.taken));
    }

pub merges : (port : ℕ) (v : Hold) (other : ℕ) (w : Hold) → 0 < v.parts → Merges Kept port v other w (together v w) (hold 0 [] [])
merges port v other w some_part items views h at apart at' =
    let both : Hold = together v w in let spent : Hold = hold 0 [] [] in let l : List Hold = set views port both in
    let mine : v.pushed ≡ h.pushed = h.known port v at some_part in
    let total : (f : Hold → ℕ) → sum_by f (set l other spent) + (f v + f w) ≡ sum_by f views + (f both + f spent) =
    λ f. omega (arith, total-set f views port v both at, total-set f l other w spent at') in record {
      pushed = h.pushed;
      parts = omega (arith, h.parts, total (λ (u : Hold). u.parts));
      known = all-set (Knows h.pushed) l other spent (λ none. absurd (omega arith))
          (λ j u _. all-set (Knows h.pushed) views port both (λ _. mine) (λ j u apart e. h.known j u e) j u);
      idle = all-set IdleIsEmpty l other spent (λ _. refl)
          (λ j u _. all-set IdleIsEmpty views port both (λ none. absurd (omega arith)) (λ j u apart e. h.idle j u e) j u);
      once = λ x. omega (arith, h.once x, total (λ (u : Hold). times x u.taken), times-append x v.taken w.taken);
    }
