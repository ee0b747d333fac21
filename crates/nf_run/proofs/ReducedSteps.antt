-- The terms of a polynomial one after the other, and the calls that find the least one with its values.
use Rattle.std.proofs.Common.{◌≡◌, ◌∙◌, ◌||◌, ℕ, ◌+◌, ◌<◌, ◌≤◌, ◌^◌, Result, Ok, Err, IfOk, Some, length, take, drop, get_or, List, []}
use Rattle.std.proofs.Common.{◌∷◌, ◌++◌, add-one, sym, refl, ap, subst}
use Rattle.std.specs.List.{All}
use Rattle.std.proofs.Math.Seq.{drop-cons}
use Rattle.std.proofs.lemmas.List.{drop_all, take_all, take_more}
use Rattle.lattice.specs.Words.{Family, Covers, minus_of, union_of, interpolate, ones_of, interpolation_list, ones_list, working_set}
use Rattle.lattice.specs.declared.op.Op.TheVariants.{Ones}
use Rattle.lattice.proofs.Diagrams.{IsFamily-nil, IsFamily-single}
use Rattle.lattice.proofs.Polynomials.{IsFamily-family_where, IsFamily-ones_of, family_where_has, listed-next}
use Rattle.node_store.specs.Stores.{State, Builds, Gives, IsSound, Knows, family, needs_of}
use Rattle.node_store.specs.declared.store.Full.{Full}
use Rattle.node_store.specs.declared.store.Handle.{Handle}
use Rattle.node_store.proofs.StoreLaws.{Denotes-family, known_after}
use Rattle.set_algebra.proofs.Calls.{Calls, after_built, after_call, after_combined, call_planned, calls_begin, found_at_hand, handle_end}
use Rattle.set_algebra.proofs.Calls.{known_at_hand, last_call, last_planned}
use Rattle.bool_poly.proofs.OnesLemmas.{needs_ones}
use Rattle.nf_run.proofs.LeastValues.{reduced_is}
use Rattle.nf_run.specs.Reduced.{IsReduced, reduced, reduced_list, sum_of_terms, terms_from, terms_list, values_list}

-- ---- the terms of a polynomial; s is the state before them, t the one after i of them, whose sum is `sum`

abbrev pub SumsTerms : State → State → List ℕ → ℕ → Handle → Type 0
SumsTerms s t terms i sum = Calls s t s.vars (terms_list s.vars terms) (terms_from s.vars (take i terms) (drop i terms))
    ((sum, sum_of_terms s.vars (take i terms)) ∷ [])

pub no_terms : {s : State} (terms : List ℕ) → Covers s.plan (working_set s.vars (terms_list s.vars terms)) → IsSound s
    → SumsTerms s s terms 0 (record { 0 = 0 })
no_terms {s} terms planned ok =
    calls_begin planned ((ok.empty ∙ ap Some (family_where_has s.vars [] (IsFamily-nil s.vars)), IsFamily-family_where s.vars _), tt)

module _ {s t : State} {sum : Handle} (terms : List ℕ) (i : ℕ) (below : All (λ m. m < 2 ^ s.vars) terms)
    (so_far : SumsTerms s t terms i sum) (less : i < length terms) {m : ℕ} (is : m ≡ get_or terms i m) where
  abbrev before : Family
  before = sum_of_terms s.vars (take i terms)

  abbrev later : List Family
  later = terms_from s.vars (take (i + 1) terms) (drop (i + 1) terms)

  next_is : sum_of_terms s.vars (take (i + 1) terms) ≡ union_of s.vars before (m ∷ [])
  next_is = rw (take_more terms i m less, ← is) (sym (listed-next s.vars (take i terms) m))

  rest_is : terms_from s.vars (take i terms) (drop i terms) ≡ (m ∷ []) ∷ union_of s.vars before (m ∷ []) ∷ later
  unfolding terms_from
  rest_is = rw (drop-cons terms i m less, take_more terms i m less, add-one, ← is, listed-next s.vars (take i terms) m) refl

  pub at_term : Calls s t s.vars (terms_list s.vars terms) ((m ∷ []) ∷ union_of s.vars before (m ∷ []) ∷ later) ((sum, before) ∷ [])
  at_term = subst (λ rest. Calls s t s.vars (terms_list s.vars terms) rest ((sum, before) ∷ [])) rest_is so_far

  -- u is the state after the term
  module _ {u : State} {next : Handle} (one : Builds t u (Ok next) (m ∷ [])) where
    pub after_term : Calls s u s.vars (terms_list s.vars terms) (union_of s.vars before (m ∷ []) ∷ later)
        ((next, m ∷ []) ∷ (sum, before) ∷ [])
    after_term = after_built at_term refl (IsFamily-single s.vars m (subst (λ k. k < 2 ^ s.vars) (sym is) (below i m less))) one

    pub one_more : {v : State} {r : Handle} → Builds u v (Ok r) (union_of u.vars (family u sum) (family u next))
        → SumsTerms s v terms (i + 1) r
    one_more two = let k = after_combined (λ a b. a || b) refl after_term after_term.here.1.0 after_term.here.0 two in
        record { reads = k.reads; le = k.le; planned = k.planned; whole = k.whole; here = (rw next_is k.here.0, tt) }

-- after the last term
pub sums_whole : {s t : State} {sum : Handle} (terms : List ℕ) (i : ℕ) → SumsTerms s t terms i sum → length terms ≤ i
    → Gives s t (Ok sum) (sum_of_terms s.vars terms) (working_set s.vars (terms_list s.vars terms))
unfolding terms_from
sums_whole {s} {t} {sum} terms i so_far all =
    let k : Calls s t s.vars (terms_list s.vars terms) [] ((sum, sum_of_terms s.vars terms) ∷ []) =
    rw (take_all i terms all, drop_all i terms all) at so_far in
    handle_end k k.here.0

-- ---- the least polynomial with the values of a given one; s is the state at the call

-- what it denotes has the values, and is the least one
pub reduced_right : (s : State) (points : Handle) (terms : List ℕ) → Knows s points → IsSound s → {t : State} (r : Result Handle Full)
    → Gives s t r (reduced s.vars (sum_of_terms s.vars terms) (family s points)) (working_set s.vars (reduced_list s.vars terms
    (family s points)))
    → IfOk r (λ h. IsReduced s.vars (family s points) (sum_of_terms s.vars terms) (family t h))
reduced_right s points terms known sound {t = t} (Ok h) gives =
    rw (Denotes-family t h _ gives.ok) (reduced_is s.vars (sum_of_terms s.vars terms) (family s points) (known_after s points sound known))
reduced_right s points terms known sound (Err e) gives = tt

module _ {s : State} (points : Handle) (terms : List ℕ) (sound : IsSound s) (known : Knows s points)
    (planned : Covers s.plan (working_set s.vars (reduced_list s.vars terms (family s points)))) where
  abbrev P : Family
  P = family s points

  abbrev R : Family
  R = sum_of_terms s.vars terms

  abbrev E : Family
  E = ones_of s.vars R P

  abbrev Z : Family
  Z = minus_of s.vars P E

  -- in t these families are still to be found, and these handles were
  abbrev In : State → List Family → List (Handle × Family) → Type 0
  In t rest hs = Calls s t s.vars (reduced_list s.vars terms P) rest (hs ++ (points, P) ∷ [])

  pub reduced_start : In s (terms_list s.vars terms ++ values_list s.vars R P) []
  reduced_start = calls_begin planned (known_at_hand sound known, tt)

  pub terms_planned : Covers s.plan (working_set s.vars (terms_list s.vars terms))
  terms_planned = call_planned (terms_list s.vars terms) _ reduced_start refl

  -- t is the state after the polynomial
  module _ {t : State} {given : Handle} (one : Gives s t (Ok given) R (working_set s.vars (terms_list s.vars terms))) where
    pub after_given : In t (values_list s.vars R P) ((given, R) ∷ [])
    after_given = after_call (terms_list s.vars terms) _ reduced_start refl refl (IsFamily-family_where s.vars _) one

    ones_needs : needs_of t Ones given points.0 ≡ working_set s.vars (ones_list s.vars R P)
    ones_needs = let k = after_given in
        needs_ones t.vars (family t given) (family t points) points.0 ∙ rw (k.reads.grows.vars, k.here.0.0, k.here.1.0.0) refl

    pub ones_planned : Covers t.plan (needs_of t Ones given points.0)
    ones_planned = call_planned (ones_list s.vars R P) _ after_given ones_needs

    -- u is the state after the points where it is 1
    module _ {u : State} {ones : Handle} (okay : IsSound u)
        (two : Gives t u (Ok ones) (ones_of t.vars (family t given) (family t points)) (needs_of t Ones given points.0)) where
      pub after_values : In u (Z ∷ interpolation_list s.vars Z E) ((ones, E) ∷ (given, R) ∷ [])
      after_values = let k = after_given in
          let found = after_call (ones_list s.vars R P) _ k ones_needs (rw (k.reads.grows.vars, k.here.0.0, k.here.1.0.0) refl)
          (IsFamily-ones_of s.vars R P) two in found_at_hand okay found found.here.0

      abbrev asked : List Family
      asked = minus_of u.vars (family u points) (family u ones)
          ∷ interpolation_list u.vars (minus_of u.vars (family u points) (family u ones)) (family u ones)

      least_needs : working_set u.vars asked ≡ working_set s.vars (Z ∷ interpolation_list s.vars Z E)
      least_needs = let k = after_values in rw (k.reads.grows.vars, k.here.0.0, k.here.1.1.0.0) refl

      pub least_planned : Covers u.plan (working_set u.vars asked)
      least_planned = last_planned after_values least_needs

      pub reduced_given : {v : State} (r : Result Handle Full)
          → Gives u v r (interpolate u.vars (minus_of u.vars (family u points) (family u ones)) (family u ones)) (working_set u.vars asked)
          → Gives s v r (reduced s.vars R P) (working_set s.vars (reduced_list s.vars terms P))
      unfolding reduced
      reduced_given r three = let k = after_values in
          last_call k r least_needs (rw (k.reads.grows.vars, k.here.0.0, k.here.1.1.0.0) refl) three
