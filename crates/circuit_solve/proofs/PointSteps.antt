-- The calls that find the points where a polynomial is 1, and those that find the least one with the values of a given one at points.
use Rattle.std.proofs.Common.{◌≡◌, ◌∙◌, Result, Ok, List, [], ◌∷◌, ◌++◌, refl}
use Rattle.lattice.specs.Words.{Family, Covers, interpolate, interpolation_list, minus_of, ones_list, ones_of, power, working_set}
use Rattle.lattice.specs.declared.op.Op.TheVariants.{Ones}
use Rattle.lattice.proofs.Diagrams.{IsFamily-power}
use Rattle.lattice.proofs.Polynomials.{IsFamily-ones_of}
use Rattle.node_store.specs.Stores.{State, Builds, Gives, IsSound, Knows, family, needs_of}
use Rattle.node_store.specs.declared.store.Full.{Full}
use Rattle.node_store.specs.declared.store.Handle.{Handle}
use Rattle.set_algebra.proofs.Calls.{Calls, after_built, after_call, call_planned, calls_begin, found_at_hand, known_at_hand, last_call}
use Rattle.set_algebra.proofs.Calls.{last_planned}
use Rattle.bool_poly.proofs.OnesLemmas.{needs_ones}
use Rattle.circuit_solve.specs.Reduced.{points_list, reduced, values_list}

-- ---- the points where a polynomial is 1; s is the state at the call

module _ {s : State} (polynomial : Handle) (sound : IsSound s) (known : Knows s polynomial)
    (planned : Covers s.plan (working_set s.vars (points_list s.vars (family s polynomial)))) where
  abbrev F : Family
  F = family s polynomial

  abbrev A : Family
  A = power s.vars

  pub points_start : Calls s s s.vars (points_list s.vars F) (A ∷ ones_list s.vars F A) ((polynomial, F) ∷ [])
  points_start = calls_begin planned (known_at_hand sound known, tt)

  -- t is the state after all points
  module _ {t : State} {all : Handle} (one : Builds s t (Ok all) A) where
    pub after_all : Calls s t s.vars (points_list s.vars F) (ones_list s.vars F A) ((all, A) ∷ (polynomial, F) ∷ [])
    after_all = after_built points_start refl (IsFamily-power s.vars) one

    where_needs : needs_of t Ones polynomial all.0 ≡ working_set s.vars (ones_list s.vars F A)
    where_needs = let k = after_all in
        needs_ones t.vars (family t polynomial) (family t all) all.0 ∙ rw (k.reads.grows.vars, k.here.0.0, k.here.1.0.0) refl

    pub where_planned : Covers t.plan (needs_of t Ones polynomial all.0)
    where_planned = last_planned after_all where_needs

    pub where_given : {u : State} (r : Result Handle Full)
        → Gives t u r (ones_of t.vars (family t polynomial) (family t all)) (needs_of t Ones polynomial all.0)
        → Gives s u r (ones_of s.vars F A) (working_set s.vars (points_list s.vars F))
    where_given r two = let k = after_all in
        last_call k r where_needs (rw (k.reads.grows.vars, k.here.0.0, k.here.1.0.0) refl) two

-- ---- the least polynomial with the values of a given one; s is the state at the call

module _ {s : State} (points given : Handle) (sound : IsSound s) (points_known : Knows s points) (given_known : Knows s given)
    (planned : Covers s.plan (working_set s.vars (values_list s.vars (family s points) (family s given)))) where
  abbrev P : Family
  P = family s points

  abbrev G : Family
  G = family s given

  abbrev E : Family
  E = ones_of s.vars G P

  abbrev Z : Family
  Z = minus_of s.vars P E

  -- in t these families are still to be found, and these handles were
  abbrev In : State → List Family → List (Handle × Family) → Type 0
  In t rest hs = Calls s t s.vars (values_list s.vars P G) rest (hs ++ (given, G) ∷ (points, P) ∷ [])

  values_start : In s (values_list s.vars P G) []
  values_start = calls_begin planned (known_at_hand sound given_known, (known_at_hand sound points_known, tt))

  ones_needs : needs_of s Ones given points.0 ≡ working_set s.vars (ones_list s.vars G P)
  ones_needs = needs_ones s.vars G P points.0

  pub ones_planned : Covers s.plan (needs_of s Ones given points.0)
  ones_planned = call_planned (ones_list s.vars G P) _ values_start ones_needs

  -- t is the state after the points where it is 1
  module _ {t : State} {ones : Handle} (okay : IsSound t) (one : Gives s t (Ok ones) E (needs_of s Ones given points.0)) where
    pub after_values : In t (Z ∷ interpolation_list s.vars Z E) ((ones, E) ∷ [])
    after_values = let found = after_call (ones_list s.vars G P) _ values_start ones_needs refl (IsFamily-ones_of s.vars G P) one in
        found_at_hand okay found found.here.0

    abbrev needed : List Family
    needed = minus_of t.vars (family t points) (family t ones)
        ∷ interpolation_list t.vars (minus_of t.vars (family t points) (family t ones)) (family t ones)

    least_needs : working_set t.vars needed ≡ working_set s.vars (Z ∷ interpolation_list s.vars Z E)
    least_needs = let k = after_values in rw (k.reads.grows.vars, k.here.0.0, k.here.1.1.0.0) refl

    pub least_planned : Covers t.plan (working_set t.vars needed)
    least_planned = last_planned after_values least_needs

    pub reduced_given : {u : State} (r : Result Handle Full)
        → Gives t u r (interpolate t.vars (minus_of t.vars (family t points) (family t ones)) (family t ones)) (working_set t.vars needed)
        → Gives s u r (reduced s.vars P G) (working_set s.vars (values_list s.vars P G))
    unfolding reduced
    reduced_given r two = let k = after_values in
        last_call k r least_needs (rw (k.reads.grows.vars, k.here.0.0, k.here.1.1.0.0) refl) two
