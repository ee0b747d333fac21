-- Listed points, and the families that a store has of them: they are apart where the lists are, and the least polynomial on the
-- families is the one on the lists.
use Rattle.std.proofs.Common.{◌≡◌, ℕ, ◌^◌, ◌<◌, true, ltb, List, [], length, ap, subst, sym, ◌∙◌}
use Rattle.std.specs.List.{All}
use Rattle.std.proofs.lemmas.Bool.{and_parts}
use Rattle.lattice.specs.Words.{Family, has, family_where, AreDisjoint, value, Fits, IsLeast, working_set}
use Rattle.lattice.proofs.Polynomials.{All-from_has, All-has, has-family_where, has-family_where_below}
use Rattle.node_store.specs.AnyFamily.{MayHoldAny, every_family}
use Rattle.node_store.specs.Plain.{plain_state}
use Rattle.node_store.specs.Stores.{State, Denotes, Grows, IsFull, family}
use Rattle.node_store.specs.declared.store.Handle.{Handle}
use Rattle.node_store.proofs.StoreLaws.{Denotes-family, MayHoldAny-later, MayHoldAny-made}

abbrev listed : ℕ → List ℕ → Family
listed n points = family_where n (has points)

module _ (n : ℕ) where
  to_list : (points : List ℕ) (x : ℕ) → has (listed n points) x ≡ true → has points x ≡ true
  to_list points x i = (and_parts (has points x) (ltb x (2 ^ n)) (sym (has-family_where n (has points) x) ∙ i)).0

  -- what holds at each listed point holds at each of the family, and the other way round
  module _ (Holds : ℕ → Type 0) (points : List ℕ) where
    at_family : All Holds points → All Holds (listed n points)
    at_family all = All-from_has Holds (listed n points) (λ x i. All-has Holds points x all (to_list points x i))

    at_list : All (λ a. a < 2 ^ n) points → All Holds (listed n points) → All Holds points
    at_list below all = All-from_has Holds points (λ x i.
        All-has Holds (listed n points) x all
        (has-family_where_below n (has points) x (All-has (λ a. a < 2 ^ n) points x below i) ∙ i))

  fits_family : (zeros ones : List ℕ) (p : Family) → Fits zeros ones p → Fits (listed n zeros) (listed n ones) p
  fits_family zeros ones p fits = record {
    zero_at = at_family (λ a. value p a ≡ 0) zeros fits.zero_at;
    one_at = at_family (λ a. value p a ≡ 1) ones fits.one_at;
  }

  least_on_lists : (zeros ones : List ℕ) (p : Family) → All (λ a. a < 2 ^ n) zeros → All (λ a. a < 2 ^ n) ones
      → IsLeast n (listed n zeros) (listed n ones) p → IsLeast n zeros ones p
  least_on_lists zeros ones p zeros_below ones_below is = record {
    family = is.family;
    fits = record {
      zero_at = at_list (λ a. value p a ≡ 0) zeros zeros_below is.fits.zero_at;
      one_at = at_list (λ a. value p a ≡ 1) ones ones_below is.fits.one_at;
    };
    least = λ q family fits other. is.least q family (fits_family zeros ones q fits) other;
  }

-- a store over n variables that was made for any family, and two calls on it that gave the handles of two lists' families
module _ (n slots : ℕ) (families : List Family) (s t u : State) (made : s ≡ plain_state n slots families 0 [])
    (first : Grows s t) (second : Grows t u) where
  pub any : families ≡ working_set n (every_family n) → MayHoldAny n u
  any all = MayHoldAny-later n t u second (MayHoldAny-later n s t first (MayHoldAny-made s n slots families made all))

  vars_are : u.vars ≡ n
  unfolding plain_state
  vars_are = second.vars ∙ first.vars ∙ ap (λ w. w.vars) made

  module _ (a b : Handle) (zeros ones : List ℕ) (of_zeros : Denotes t a (listed n zeros)) (of_ones : Denotes u b (listed n ones)) where
    zeros_are : family u a ≡ listed n zeros
    zeros_are = Denotes-family u a (listed n zeros) (second.known a.0 (listed n zeros) of_zeros)

    ones_are : family u b ≡ listed n ones
    ones_are = Denotes-family u b (listed n ones) of_ones

    pub apart : AreDisjoint zeros ones → AreDisjoint (family u a) (family u b)
    apart lists = rw (zeros_are, ones_are) (λ x i j. lists x (to_list n zeros x i) (to_list n ones x j))

    pub least_on : (p : Family) → All (λ x. x < 2 ^ n) zeros → All (λ x. x < 2 ^ n) ones
        → IsLeast u.vars (family u a) (family u b) p → IsLeast n zeros ones p
    least_on p zeros_below ones_below = rw (zeros_are, ones_are, vars_are) (λ is. least_on_lists n zeros ones p zeros_below ones_below is)

-- where an intern was refused on the way to u, the families of the plan are more than the slots
pub over_plan : (n slots : ℕ) (families : List Family) (s t u : State) → s ≡ plain_state n slots families 0 [] → Grows s u → IsFull t u
    → slots < length families
unfolding plain_state
over_plan n slots families s t u made grows full =
    let plan : u.plan ≡ families = grows.plan ∙ ap (λ w. w.plan) made in
    let capacity : u.capacity ≡ slots = grows.capacity ∙ ap (λ w. w.capacity) made in
    subst (λ fs. slots < length fs) plan (subst (λ k. k < length u.plan) capacity full.over)
