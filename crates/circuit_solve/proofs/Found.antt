-- Families that are found one after the other, and what a search gives that lists what was found.
use Rattle.std.proofs.Common.{◌≡◌, ◌∙◌, ℕ, ◌<◌, ◌≤◌, Err, Result, Ok, List, [], ◌∷◌, ◌++◌, length, map, ap, refl, sym, arith}
use Rattle.std.specs.Prelude.{IsErrAnd}
use Rattle.std.specs.List.{All, AllZip, sum_by}
use Rattle.std.proofs.lemmas.List.{flat_map_more}
use Rattle.std.proofs.lemmas.List.Elements.{All-cons, All-nil}
use Rattle.std.proofs.lemmas.List.Folds.{fold-map}
use Rattle.std.proofs.lemmas.Result.{err_from_is_err_and, on_ok_weaker}
use Rattle.std.proofs.lemmas.Slice.Zip.{all_zipped_more}
use Rattle.lattice.specs.Words.{Covers, Family, working_set}
use Rattle.lattice.proofs.Diagrams.{covers_append, covers_nil}
use Rattle.lattice.proofs.Polynomials.{zip_fold, zip_weaker}
use Rattle.node_store.specs.Stores.{Denotes, Grows, IsSound, Knows, State, family}
use Rattle.node_store.specs.declared.store.Handle.{Handle}
use Rattle.node_store.proofs.StoreLaws.{Denotes-family, Denotes-knows, fits}
use Rattle.set_algebra.specs.Refusals.{unlisted_refusal}
use Rattle.set_algebra.specs.Terms.{terms_of}
use Rattle.set_algebra.specs.declared.counted.WalkRefusal.{WalkRefusal}
use Rattle.set_algebra.specs.declared.counted.WalkRefusal.TheVariants as unlisted
use Rattle.set_algebra.specs.declared.refusal.TermsRefusal.{TermsRefusal}
use Rattle.set_algebra.specs.declared.refusal.TermsRefusal.TheVariants as stops
use Rattle.circuit_solve.specs.Found.{AreFound, SearchGives}

-- ---- families of things, one after the other

module _ {T : Type 0} (s : State) (family_of : T → Family) (things : List T) (found : List Handle)
    (each : AllZip (λ x h. Denotes s h (family_of x)) things found) where
  pub all_known : All (Knows s) found
  all_known = zip_fold (λ x h. Denotes s h (family_of x)) (λ _. All (Knows s)) (All-nil (Knows s))
      (λ x xs h hs is rest. All-cons (Knows s) h hs (Denotes-knows s h (family_of x) is) rest) things found each

  pub all_families : map (family s) found ≡ map family_of things
  all_families = zip_fold (λ x h. Denotes s h (family_of x)) (λ xs hs. map (family s) hs ≡ map family_of xs) refl
      (λ x xs h hs is rest. cc (Denotes-family s h (family_of x) is)) things found each

module _ {T : Type 0} {n : ℕ} {family_of : T → Family} {needs : T → List Family} where
  -- nothing was found yet
  pub none_found : (s : State) → AreFound s n family_of needs [] []
  none_found s = record { each = tt; held = covers_nil n s.held }

  -- t is the state after one more
  pub one_found : {s t : State} {things : List T} {found more : List Handle} (x : T) {h : Handle} → Grows s t
      → AreFound s n family_of needs things found → Denotes t h (family_of x) → Covers t.held (working_set n (needs x))
      → more ≡ found ++ h ∷ [] → AreFound t n family_of needs (things ++ x ∷ []) more
  one_found {s} {t} {things} {found} x {h} grows so_far is held items = record {
    each = rw items (all_zipped_more (λ y k. Denotes t k (family_of y)) things found x h
        (zip_weaker (λ y k. Denotes s k (family_of y)) (λ y k. Denotes t k (family_of y)) (λ y k. grows.known k.0 (family_of y))
        things found so_far.each) is);
    held = rw (sym (flat_map_more needs [] things x))
        (covers_append n t.held _ (needs x) (λ f j. grows.held f (so_far.held f j)) held);
  }

  module _ {s : State} {things : List T} {found : List Handle} (are : AreFound s n family_of needs things found) where
    pub found_known : All (Knows s) found
    found_known = all_known s family_of things found are.each

    pub found_families : map (family s) found ≡ map family_of things
    found_families = all_families s family_of things found are.each

-- the terms of polynomials are those of their families
pub terms_by : (s : State) (found : List Handle) {fs : List Family} → fs ≡ map (family s) found → terms_of s found ≡ sum_by length fs
terms_by s found are = sym (fold-map _ (family s) 0 found) ∙ ap (sum_by length) (sym are)

-- ---- what is listed at the end; s is the state at the call, t the one in which all was found, and so many members or terms are counted

module _ {s t : State} (grows : Grows s t) (sound : IsSound t) (n : ℕ) (list : List Family) (held : Covers t.held (working_set n list))
  where
    -- there were too many before the last were counted
    pub search_over : {T : Type 0} {limit planned count : ℕ} {IsAnswer : T → Type 0} → limit < count
        → SearchGives s.capacity limit planned (length (working_set n list)) count IsAnswer (Err stops.Over)
    search_over more = record {
      answer = tt;
      fits = tt;
      few = tt;
      exhausted = λ e. cc;
      terms = λ _. (omega (arith, fits t n list sound held, grows.capacity), more);
    }

    module _ {T : Type 0} {limit planned : ℕ} {IsAnswer : T → Type 0} {counted count : ℕ} (same : counted ≡ count) where
      -- all were listed
      pub search_listed : {x : T} → IsAnswer x → counted ≤ limit
          → SearchGives s.capacity limit planned (length (working_set n list)) count IsAnswer (Ok x)
      search_listed answer few = record {
        answer = answer;
        fits = omega (arith, fits t n list sound held, grows.capacity);
        few = rw same at few;
        exhausted = λ e. cc;
        terms = λ e. cc;
      }

      -- there were too many, or memory ran out
      pub search_unlisted : (x : WalkRefusal) (r : Result T TermsRefusal) → IsErrAnd r (λ e. e ≡ unlisted_refusal x)
          → (x ≡ unlisted.Over → limit < counted) → SearchGives s.capacity limit planned (length (working_set n list)) count IsAnswer r
      search_unlisted unlisted.Over r passed over = let p = err_from_is_err_and r passed in
          rw (p.1, p.2) (search_over (rw same at (over refl)))
      search_unlisted unlisted.Memory r passed over = let p = err_from_is_err_and r passed in
          rw (p.1, p.2) (record { answer = tt; fits = tt; few = tt; exhausted = λ e. cc; terms = λ e. cc })

-- ---- on a greater table

-- what a search gives that was not stopped by want of slots, it gives with more
pub with_more : {T : Type 0} {slots more limit nodes count : ℕ} {IsAnswer : T → Type 0} (r : Result T TermsRefusal) → slots ≤ more
    → (r ≡ Err stops.Full → ⊥) → SearchGives slots limit nodes nodes count IsAnswer r → SearchGives more limit nodes nodes count IsAnswer r
with_more r less other h = record {
  answer = h.answer;
  fits = on_ok_weaker r (λ fits. omega (arith, fits, less)) h.fits;
  few = h.few;
  exhausted = λ e. absurd (other e);
  terms = λ e. let is = h.terms e in (omega (arith, is.0, less), is.1);
}
