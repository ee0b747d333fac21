-- Families that are found one after the other, and what a search gives that lists what was found.
use Rattle.std.proofs.Common.{◌≡◌, ◌∙◌, ℕ, ◌<◌, ◌≤◌, Result, Ok, List, [], ◌∷◌, ◌++◌, length, map, ap, refl, sym, arith}
use Rattle.std.specs.Prelude.{IsErrAnd}
use Rattle.std.specs.List.{All, AllZip, sum_by}
use Rattle.std.proofs.lemmas.List.{flat_map_more}
use Rattle.std.proofs.lemmas.List.Elements.{All-cons, All-nil}
use Rattle.std.proofs.lemmas.List.Folds.{fold-map}
use Rattle.std.proofs.lemmas.Result.{err_from_is_err_and}
use Rattle.std.proofs.lemmas.Slice.Zip.{all_zipped_more}
use Rattle.lattice.specs.Words.{Covers, Family, working_set}
use Rattle.lattice.proofs.Diagrams.{covers_append, covers_nil}
use Rattle.lattice.proofs.Polynomials.{zip_fold, zip_weaker}
use Rattle.node_store.specs.Stores.{Denotes, Grows, IsSound, Knows, State, family}
use Rattle.node_store.specs.declared.store.Handle.{Handle}
use Rattle.node_store.proofs.StoreLaws.{Denotes-family, Denotes-knows, fits}
use Rattle.set_algebra.specs.Refusals.{unlisted_refusal}
use Rattle.set_algebra.specs.Terms.{terms_of}
use Rattle.set_algebra.specs.declared.counted.WalkRefusal.{WalkRefusal}
use Rattle.set_algebra.specs.declared.counted.WalkRefusal.TheVariants as unlisted
use Rattle.set_algebra.specs.declared.refusal.TermsRefusal.{TermsRefusal}
use Rattle.nf_run.specs.Found.{AreFound, SearchGives}

-- ---- lists of pairs

pub zip_all : {X Y : Type 0} (R : X → Y → Type 0) (P : Y → Type 0) → ((x : X) (y : Y) → R x y → P y) → (xs : List X) (ys : List Y)
    → AllZip R xs ys → All P ys
zip_all R P each = zip_fold R (λ _. All P) (All-nil P) (λ x xs y ys r p. All-cons P y ys (each x y r) p)

pub zip_map : {X Y Z : Type 0} {R : X → Y → Type 0} (f : X → Z) (g : Y → Z) → ((x : X) (y : Y) → R x y → g y ≡ f x)
    → (xs : List X) (ys : List Y) → AllZip R xs ys → map g ys ≡ map f xs
zip_map {R = R} f g same = zip_fold R (λ xs ys. map g ys ≡ map f xs) refl (λ x xs y ys r p. cc (same x y r))

-- ---- families of things, one after the other

module _ {T : Type 0} {n : ℕ} {family_of : T → Family} {needs : T → List Family} where
  -- nothing was found yet
  pub none_found : (s : State) → AreFound s n family_of needs [] []
  none_found s = record { each = tt; held = covers_nil n s.held }

  -- t is the state after one more
  pub one_found : {s t : State} {things : List T} {found more : List Handle} (x : T) {h : Handle} → Grows s t
      → AreFound s n family_of needs things found → Denotes t h (family_of x) → Covers t.held (working_set n (needs x))
      → more ≡ found ++ h ∷ [] → AreFound t n family_of needs (things ++ x ∷ []) more
  one_found {s} {t} {things} {found} x {h} grows so_far is held items = record {
    each = rw items (all_zipped_more (λ y k. Denotes t k (family_of y)) things found x h
        (zip_weaker (λ y k. Denotes s k (family_of y)) (λ y k. Denotes t k (family_of y)) (λ y k. grows.known k.0 (family_of y))
        things found so_far.each) is);
    held = rw (sym (flat_map_more needs [] things x))
        (covers_append n t.held _ (needs x) (λ f j. grows.held f (so_far.held f j)) held);
  }

  module _ {s : State} {things : List T} {found : List Handle} (are : AreFound s n family_of needs things found) where
    pub found_known : All (Knows s) found
    found_known = zip_all (λ x h. Denotes s h (family_of x)) (Knows s) (λ x h. Denotes-knows s h (family_of x)) things found are.each

    pub found_families : map (family s) found ≡ map family_of things
    found_families =
        zip_map family_of (family s) (λ x h. Denotes-family s h (family_of x)) things found are.each

-- the terms of polynomials are those of their families
pub terms_counted : (s : State) (found : List Handle) {fs : List Family} → map (family s) found ≡ fs → terms_of s found ≡ sum_by length fs
terms_counted s found are = sym (fold-map _ (family s) 0 found) ∙ ap (sum_by length) are

-- ---- what is listed at the end; s is the state at the call, t the one in which all was found, and so many members or terms are counted

module _ {s t : State} (grows : Grows s t) (sound : IsSound t) (n : ℕ) (list : List Family) (held : Covers t.held (working_set n list))
  where
    nodes : length (working_set n list) ≤ s.capacity
    nodes = omega (arith, fits t n list sound held, grows.capacity)

    module _ {T : Type 0} {limit planned : ℕ} {IsAnswer : T → Type 0} {counted count : ℕ} (same : counted ≡ count) where
      -- all were listed
      pub search_listed : {x : T} → IsAnswer x → counted ≤ limit
          → SearchGives s.capacity limit planned (length (working_set n list)) count IsAnswer (Ok x)
      search_listed answer few =
          record { answer = answer; fits = nodes; few = rw same at few; exhausted = λ e. cc; terms = λ e. cc }

      -- there were too many, or memory ran out
      pub search_unlisted : (x : WalkRefusal) (r : Result T TermsRefusal) → IsErrAnd r (λ e. e ≡ unlisted_refusal x)
          → (x ≡ unlisted.Over → limit < counted) → SearchGives s.capacity limit planned (length (working_set n list)) count IsAnswer r
      search_unlisted unlisted.Over r passed over = let p = err_from_is_err_and r passed in
          rw (p.1, p.2) (record { answer = tt; fits = tt; few = tt; exhausted = λ e. cc; terms = λ _. (nodes, rw same at (over refl)) })
      search_unlisted unlisted.Memory r passed over = let p = err_from_is_err_and r passed in
          rw (p.1, p.2) (record { answer = tt; fits = tt; few = tt; exhausted = λ e. cc; terms = λ e. cc })
