-- What is built from the covers of an output, call by call.
use Rattle.std.proofs.Common.{◌≡◌, ◌||◌, List, [], ◌∷◌, Ok, refl}
use Rattle.lattice.specs.Words.{Family, Covers, first_only, minus_of, power, union_of, working_set}
use Rattle.lattice.proofs.Diagrams.{IsFamily-power}
use Rattle.lattice.proofs.Polynomials.{IsFamily-combine}
use Rattle.node_store.specs.Stores.{State, Builds, Gives, IsSound, Knows, family}
use Rattle.node_store.specs.declared.store.Handle.{Handle}
use Rattle.set_algebra.proofs.Calls.{Calls, IsAtHand, after_built, after_call, after_combined, call_planned, calls_begin, known_at_hand}
use Rattle.cube_build.specs.GivenCareSets.{fd_list, fdr_list, outside_list}

-- ---- the points outside a family

-- s is the state at the call
module _ {s : State} (a : Handle) (sound : IsSound s) (known : Knows s a)
    (planned : Covers s.plan (working_set s.vars (outside_list s.vars (family s a)))) where
  pub outside_start : Calls s s s.vars (outside_list s.vars (family s a)) (outside_list s.vars (family s a)) ((a, family s a) ∷ [])
  outside_start = calls_begin planned (known_at_hand sound known, tt)

  -- t is the state after all points
  pub outside_all : {t : State} {h : Handle} → Builds s t (Ok h) (power s.vars) → Calls s t s.vars (outside_list s.vars (family s a))
      (minus_of s.vars (power s.vars) (family s a) ∷ []) ((h, power s.vars) ∷ (a, family s a) ∷ [])
  outside_all one = after_built outside_start refl (IsFamily-power s.vars) one

-- a call for them, of a family at hand
module _ {s t : State} {all : List Family} {hs : List (Handle × Family)} {a : Handle} {A : Family}
    (k : Calls s t s.vars all (outside_list s.vars A) hs) (x : IsAtHand t s.vars a A) where
  outside_needs : working_set t.vars (outside_list t.vars (family t a)) ≡ working_set s.vars (outside_list s.vars A)
  outside_needs = rw (k.reads.grows.vars, x.0) refl

  pub outside_planned : Covers t.plan (working_set t.vars (outside_list t.vars (family t a)))
  outside_planned = call_planned (outside_list s.vars A) [] k outside_needs

  pub after_outside : {u : State} {h : Handle} → Gives t u (Ok h) (minus_of t.vars (power t.vars) (family t a))
      (working_set t.vars (outside_list t.vars (family t a))) → Calls s u s.vars all [] ((h, minus_of s.vars (power s.vars) A) ∷ hs)
  after_outside = after_call (outside_list s.vars A) [] k outside_needs (rw (k.reads.grows.vars, x.0) refl)
      (IsFamily-combine first_only s.vars (power s.vars) A)

-- ---- in a type fd: s is the state at the call, t the one after the ones, u the one after all that is listed

module _ {s : State} (on dc : Handle) (sound : IsSound s) (on_known : Knows s on) (dc_known : Knows s dc)
    (planned : Covers s.plan (working_set s.vars (fd_list s.vars (family s on) (family s dc)))) where
  abbrev fds : List Family
  fds = fd_list s.vars (family s on) (family s dc)

  pub fd_start : Calls s s s.vars fds fds ((on, family s on) ∷ (dc, family s dc) ∷ [])
  fd_start = calls_begin planned (known_at_hand sound on_known, (known_at_hand sound dc_known, tt))

  module _ {t : State} {ones : Handle} (one : Builds s t (Ok ones) (minus_of s.vars (family s on) (family s dc))) where
    abbrev L : Family
    L = union_of s.vars (family s on) (family s dc)

    pub fd_ones : Calls s t s.vars fds (L ∷ outside_list s.vars L)
        ((ones, minus_of s.vars (family s on) (family s dc)) ∷ (on, family s on) ∷ (dc, family s dc) ∷ [])
    fd_ones = after_combined first_only refl fd_start fd_start.here.0 fd_start.here.1.0 one

    pub fd_listed : {u : State} {listed : Handle} → Builds t u (Ok listed) (union_of t.vars (family t on) (family t dc))
        → Calls s u s.vars fds (outside_list s.vars L) ((listed, L)
        ∷ (ones, minus_of s.vars (family s on) (family s dc)) ∷ (on, family s on) ∷ (dc, family s dc) ∷ [])
    fd_listed two = after_combined (λ a b. a || b) refl fd_ones fd_ones.here.1.0 fd_ones.here.1.1.0 two

-- ---- in a type fdr

module _ {s : State} (on off dc : Handle) (sound : IsSound s) (on_known : Knows s on) (off_known : Knows s off) (dc_known : Knows s dc)
    (planned : Covers s.plan (working_set s.vars (fdr_list s.vars (family s on) (family s off) (family s dc)))) where
  abbrev fdrs : List Family
  fdrs = fdr_list s.vars (family s on) (family s off) (family s dc)

  pub fdr_start : Calls s s s.vars fdrs fdrs ((on, family s on) ∷ (off, family s off) ∷ (dc, family s dc) ∷ [])
  fdr_start = calls_begin planned (known_at_hand sound on_known, (known_at_hand sound off_known, (known_at_hand sound dc_known, tt)))

  pub fdr_ones : {t : State} {ones : Handle} → Builds s t (Ok ones) (minus_of s.vars (family s on) (family s dc))
      → Calls s t s.vars fdrs (minus_of s.vars (family s off) (family s dc) ∷ []) ((ones, minus_of s.vars (family s on) (family s dc))
      ∷ (on, family s on) ∷ (off, family s off) ∷ (dc, family s dc) ∷ [])
  fdr_ones one = after_combined first_only refl fdr_start fdr_start.here.0 fdr_start.here.1.1.0 one
