-- The points of some rows and of one row more, the cubes of the rows that say something of an output, and the union of the cubes.
use Rattle.std.proofs.Common.{◌≡◌, ℕ, ◌-◌, ◌+◌, ◌*◌, ◌%◌, ◌^◌, ◌<◌, Bool, true, false, cond, ◌⊎◌, List, [], ◌∷◌, ◌++◌, map, length, take}
use Rattle.std.proofs.Common.{drop, get_or, refl, sym, ◌∙◌, ap, ap₂, append-nil, nat_eq, bit_and, arith, Ok, Some, rules, min, subst}
use Rattle.std.proofs.Common.{⊎_elim, zero, suc, ◌≤◌, inl, inr}
use Rattle.std.specs.List.{filter, flat_map}
use Rattle.std.proofs.lemmas.List.{map-append, take-append-drop, take_all, take_more}
use Rattle.std.proofs.lemmas.List.Elements.{filter-append, filter_more}
use Rattle.std.proofs.lemmas.List.Folds.{list_any-append}
use Rattle.std.proofs.lemmas.Nat.{one_shl}
use Rattle.lattice.specs.Words.{Family, divides, union_of, combine, Has, cube, cover, rows_with, first_rows, cover_list, Covers, sub}
use Rattle.lattice.specs.Words.{working_set, numbers_below, care_list, output_numbers}
use Rattle.lattice.specs.declared.row.Row.{Row}
use Rattle.lattice.proofs.Diagrams.{Has-nil, Has-cases, Has-head, Has-append_left, Has-append_right, Has-append_cases, covers_each}
use Rattle.lattice.proofs.Diagrams.{covers_family, covers_nil, sub-nil}
use Rattle.lattice.proofs.Polynomials.{has-family_where_below, family_where-agree, family_where-none, divides_by_bits}
use Rattle.std.proofs.lemmas.Slice.Zip.{AllZip-long, all_zipped_more}
use Rattle.node_store.specs.Stores.{State, family, Knows, Denotes, IsSound, IsPlanned, Gives, Builds, Grows}
use Rattle.node_store.specs.declared.store.Handle.{Handle}
use Rattle.node_store.proofs.StoreLaws.{Denotes-family, Denotes-knows, Grows-refl, Grows-trans}
use Rattle.cube_build.specs.PointSets.{mask_of}
use Rattle.cube_build.specs.UsedCubes.{AreCubes, names_output, used_cube}
use Rattle.cube_build.specs.declared.covers.PointSet.{PointSet}
use Rattle.std.specs.Int.{w64, trailing_zeros}
use Rattle.std.proofs.Math.Pow.{pow_mono}
use Rattle.std.proofs.lemmas.Bool.{cases_Bool, cases_lt}
use Rattle.std.proofs.lemmas.Bool.Decides.{nat_tests}
use Rattle.std.proofs.lemmas.Grind.{flat_map-append}
use Rattle.std.proofs.lemmas.Nat.Bits.{bit_at-zero, bit_at-pow_same, bit_at-pow_other, bit_at-trailing_zeros, bit_at_above}
use Rattle.lattice.specs.declared.kind.Kind.{Kind}
use Rattle.lattice.specs.declared.kind.Kind.TheVariants.{F, Fd, Fr, Fdr}
use Rattle.pla_reader.specs.Description.{FitsSizes}
use Rattle.cube_build.specs.declared.covers.PointSet.TheVariants.{On, Off, Dc}

-- ---- whether a mask has an output's bit

pub bit_says : (k mask m : ℕ) → k < 64 → mask ≡ m → nat_eq (bit_and (1 * 2 ^ k % 2 ^ 64) mask) (1 * 2 ^ k % 2 ^ 64) ≡ divides (2 ^ k) m
unfolding divides
bit_says k mask m small e = ap₂ (λ (w x : ℕ). nat_eq (bit_and w x) w) (one_shl k 64 small) e

-- ---- the union of cubes

pub cover-nil : (n : ℕ) → cover n [] ≡ []
unfolding cover
cover-nil n = family_where-none n (λ a. false) (λ a b. refl)

pub cover-push : (n : ℕ) (rows : List Row) (r : Row) → cover n (rows ++ r ∷ []) ≡ union_of n (cover n rows) (cube n r)
unfolding cover cube combine
cover-push n rows r = grind (arith, family_where-agree, list_any-append, has-family_where_below)

-- ---- the list of the cubes and of their unions

first_rows-push : (rows : List Row) (r : Row) → first_rows (rows ++ r ∷ []) ≡ first_rows rows ++ (rows ++ r ∷ []) ∷ []
first_rows-push [] r = refl
first_rows-push (x ∷ rows) r = simp (map-append, first_rows-push rows r)

first_rows-append : (rows more : List Row) → (rest : List (List Row)) × (first_rows (rows ++ more) ≡ first_rows rows ++ rest)
first_rows-append [] more = (first_rows more, refl)
first_rows-append (x ∷ rows) more =
    let tail = first_rows-append rows more in (
      map (λ rs. x ∷ rs) tail.0,
      ap (λ (rs : List (List Row)). (x ∷ []) ∷ map (λ rs. x ∷ rs) rs) tail.1
          ∙ ap (λ (rs : List (List Row)). (x ∷ []) ∷ rs) (map-append (λ rs. x ∷ rs) (first_rows rows) tail.0),
    )

-- what one more row adds to the list
pub cover_list-push : (n : ℕ) (rows : List Row) (r : Row) (f : Family) → Has (cover_list n (rows ++ r ∷ [])) f
    → Has (cover_list n rows) f ⊎ ((cube n r ≡ f) ⊎ (cover n (rows ++ r ∷ []) ≡ f))
unfolding cover_list
cover_list-push n rows r f h =
    grind (arith, map-append, first_rows-push, Has-append_left, Has-nil, Has-cases, Has-append_cases, Has-append_right)

-- the list of more rows has the last cube and the union with it
pub cover_list-cube : (n : ℕ) (rows more : List Row) (r : Row) → Has (cover_list n ((rows ++ r ∷ []) ++ more)) (cube n r)
unfolding cover_list
cover_list-cube n rows more r = grind (arith, map-append, Has-append_left, Has-append_right, Has-head)

pub cover_list-cover : (n : ℕ) (rows more : List Row) (r : Row) → Has (cover_list n ((rows ++ r ∷ []) ++ more)) (cover n (rows ++ r ∷ []))
unfolding cover_list
cover_list-cover n rows more r =
    let here : Family = cover n (rows ++ r ∷ []) in let rest = first_rows-append (rows ++ r ∷ []) more in
    grind (arith, first_rows-push, map-append, Has-append_right, Has-append_left, Has-head)

-- ---- the rows up to one, by whether it is chosen

abbrev pub no_row : Row
no_row = record { line = 0; care = 0; value = 0; on = 0; off = 0; dc = 0 }

module _ (mask : Row → ℕ) (output : ℕ) (rows : List Row) (i : ℕ) (less : i < length rows) where
  pub rows_with-more : divides (2 ^ (output - 1)) (mask (get_or rows i no_row)) ≡ true
      → rows_with mask output (take (i + 1) rows) ≡ rows_with mask output (take i rows) ++ get_or rows i no_row ∷ []
  unfolding rows_with
  rows_with-more yes' =
      filter_more (λ r. divides (2 ^ (output - 1)) (mask r)) rows i no_row less
      ∙ ap (λ b. filter (λ r. divides (2 ^ (output - 1)) (mask r)) (take i rows) ++ cond b (get_or rows i no_row ∷ []) []) yes'

  pub rows_with-same : divides (2 ^ (output - 1)) (mask (get_or rows i no_row)) ≡ false
      → rows_with mask output (take (i + 1) rows) ≡ rows_with mask output (take i rows)
  unfolding rows_with
  rows_with-same no' =
      filter_more (λ r. divides (2 ^ (output - 1)) (mask r)) rows i no_row less
      ∙ (ap (λ b. filter (λ r. divides (2 ^ (output - 1)) (mask r)) (take i rows) ++ cond b (get_or rows i no_row ∷ []) []) no'
      ∙ append-nil (filter (λ r. divides (2 ^ (output - 1)) (mask r)) (take i rows)))

  -- and the rows after it
  pub rows_with-rest : divides (2 ^ (output - 1)) (mask (get_or rows i no_row)) ≡ true
      → rows_with mask output rows ≡ (rows_with mask output (take i rows) ++ get_or rows i no_row ∷ []) ++ rows_with mask output
      (drop (i + 1) rows)
  unfolding rows_with
  rows_with-rest yes' =
      let p : Row → Bool = λ r. divides (2 ^ (output - 1)) (mask r) in
      ap (filter p) (sym (take-append-drop (i + 1) rows))
      ∙ (filter-append p (take (i + 1) rows) (drop (i + 1) rows)
      ∙ ap (λ (rs : List Row). rs ++ filter p (drop (i + 1) rows)) (rows_with-more yes'))

-- ---- rows that say something of an output

-- a row that says nothing is in no set
silent : (set : PointSet) (r : Row) → names_output r ≡ false → mask_of set r ≡ 0
silent On r h = grind (arith, nat_tests)
silent Off r h = grind (arith, nat_tests)
silent Dc r h = grind (arith, nat_tests)

none_or_some : (m : ℕ) → (m ≡ 0) ⊎ (0 < m)
none_or_some m = grind arith

-- and any other is in one
loud : (r : Row) → names_output r ≡ true → (set : PointSet) × (0 < mask_of set r)
loud r h = grind (arith, none_or_some, nat_tests)

no_bit : (k m : ℕ) → m ≡ 0 → divides (2 ^ k) m ≡ false
no_bit k m none = grind (arith, cases_Bool, divides_by_bits, bit_at-pow_same, bit_at-zero)

-- a row in a set of an output says something
pub names_where : (set : PointSet) (r : Row) (k : ℕ) → divides (2 ^ k) (mask_of set r) ≡ true → names_output r ≡ true
names_where set r k h = grind (arith, cases_Bool, no_bit, silent)

-- the cube that is used of a row that says something is its own
pub used_cube-some : (n : ℕ) (r : Row) → names_output r ≡ true → used_cube n r ≡ cube n r
unfolding used_cube
used_cube-some n r h = rw h refl

pub used_cube-none : (n : ℕ) (r : Row) → names_output r ≡ false → used_cube n r ≡ []
unfolding used_cube
used_cube-none n r h = rw h refl

-- a mask of outputs has one of them
some_output : (outputs m : ℕ) → outputs ≤ 64 → m < 2 ^ outputs → 0 < m → (k : ℕ) × (k < outputs) × (divides (2 ^ k) m ≡ true)
some_output outputs m few below some =
    let most : 2 ^ outputs ≤ 2 ^ 64 = pow_mono few in
    let lowest = bit_at-trailing_zeros w64 m some (omega (arith, most)) in let k : ℕ = trailing_zeros w64 m in
    let within : k < outputs =
    elim (cases_lt k outputs) [ inl l ↦ l | inr l ↦ omega (arith, bit_at_above m outputs k below l, lowest.1) ] in (
      k,
      within,
      (divides_by_bits (2 ^ k) m).1 (λ j set. grind (arith, lowest.1, set, bit_at-pow_other k j)),
    )

-- ---- the list of a care set of all outputs

-- the list of each output is a part of that of all
pub output_part : (list : ℕ → List Family) (outputs k : ℕ) → k < outputs → Covers (flat_map list (output_numbers outputs)) (list (k + 1))
unfolding numbers_below
output_part list zero k less f h = absurd (omega arith)
output_part list (suc n) k less f h =
    let cases : (k < n) ⊎ (k ≡ n) = grind arith in
    let cut : flat_map list (output_numbers (suc n)) ≡ flat_map list (output_numbers n) ++ (list (n + 1) ++ []) =
    ap (flat_map list) (map-append (λ j. j + 1) (numbers_below n) (n ∷ [])) ∙ flat_map-append list (output_numbers n) ((n + 1) ∷ []) in
    subst (λ fs. Has fs f) (sym cut)
    (⊎_elim
    (λ l. Has-append_left (flat_map list (output_numbers n)) (list (n + 1) ++ []) f (output_part list n k l f h))
    (λ e. Has-append_right (flat_map list (output_numbers n)) (list (n + 1) ++ []) f
    (Has-append_left (list (n + 1)) [] f (subst (λ j. Has (list (j + 1)) f) e h)))
    cases)

-- the list of an output has the cube of a row that says something of it
module _ (n : ℕ) (rows : List Row) (i : ℕ) (less : i < length rows) where
  pub listed : (mask : Row → ℕ) (output : ℕ) → divides (2 ^ (output - 1)) (mask (get_or rows i no_row)) ≡ true
      → Has (cover_list n (rows_with mask output rows)) (cube n (get_or rows i no_row))
  listed mask output bit =
      let rest = rows_with-rest mask output rows i less bit in
      subst (λ rs. Has (cover_list n rs) (cube n (get_or rows i no_row))) (sym rest)
      (cover_list-cube n (rows_with mask output (take i rows)) (rows_with mask output (drop (i + 1) rows)) (get_or rows i no_row))

  -- the list of an output has the cube of each row in one of its sets
  pub in_care_list : (outputs : ℕ) (kind : Kind) (set : PointSet) (output : ℕ) → FitsSizes n outputs kind (get_or rows i no_row)
      → divides (2 ^ (output - 1)) (mask_of set (get_or rows i no_row)) ≡ true
      → Has (care_list n kind rows output) (cube n (get_or rows i no_row))
  unfolding care_list
  in_care_list outputs F On output fits bit = Has-append_left _ _ _ (listed (mask_of On) output bit)
  in_care_list outputs F Off output fits bit = let none = no_bit (output - 1) _ (fits.no_off refl) in cc
  in_care_list outputs F Dc output fits bit = let none = no_bit (output - 1) _ (fits.no_dc refl) in cc
  in_care_list outputs Fd On output fits bit = Has-append_left _ _ _ (listed (mask_of On) output bit)
  in_care_list outputs Fd Off output fits bit = let none = no_bit (output - 1) _ (fits.no_off refl) in cc
  in_care_list outputs Fd Dc output fits bit = Has-append_right _ _ _ (Has-append_left _ _ _ (listed (mask_of Dc) output bit))
  in_care_list outputs Fr On output fits bit = Has-append_left _ _ _ (listed (mask_of On) output bit)
  in_care_list outputs Fr Off output fits bit = Has-append_right _ _ _ (listed (mask_of Off) output bit)
  in_care_list outputs Fr Dc output fits bit = let none = no_bit (output - 1) _ (fits.no_dc refl) in cc
  in_care_list outputs Fdr On output fits bit = Has-append_left _ _ _ (listed (mask_of On) output bit)
  in_care_list outputs Fdr Off output fits bit = Has-append_right _ _ _ (Has-append_left _ _ _ (listed (mask_of Off) output bit))
  in_care_list outputs Fdr Dc output fits bit =
      Has-append_right _ _ _ (Has-append_right _ _ _ (Has-append_left _ _ _ (listed (mask_of Dc) output bit)))

mask_below : (n outputs : ℕ) (kind : Kind) (r : Row) (set : PointSet) → FitsSizes n outputs kind r → mask_of set r < 2 ^ outputs
mask_below n outputs kind r On fits = fits.on
mask_below n outputs kind r Off fits = fits.off
mask_below n outputs kind r Dc fits = fits.dc

-- what is planned for all outputs has each row's cube
pub used_planned : (n outputs : ℕ) (kind : Kind) (rows : List Row) (i : ℕ) → i < length rows → (fs : List Family) → outputs ≤ 64
    → FitsSizes n outputs kind (get_or rows i no_row)
    → Covers fs (working_set n (flat_map (care_list n kind rows) (output_numbers outputs)))
    → Covers fs (sub n (used_cube n (get_or rows i no_row)))
used_planned n outputs kind rows i less fs few fits planned =
    let r : Row = get_or rows i no_row in
    elim (cases_Bool (names_output r)) [
      | inl yes' ↦
          let some = loud r yes' in
          let at = some_output outputs (mask_of some.0 r) few (mask_below n outputs kind r some.0 fits) some.1 in
          let bit : divides (2 ^ (at.0 + 1 - 1)) (mask_of some.0 r) ≡ true = let same : at.0 + 1 - 1 ≡ at.0 = omega arith in rw same at.2 in
          subst (λ f. Covers fs (sub n f)) (sym (used_cube-some n r yes'))
          (covers_family n fs (flat_map (care_list n kind rows) (output_numbers outputs)) (cube n r) planned
          (output_part (care_list n kind rows) outputs at.0 at.1 (cube n r)
          (in_care_list n rows i less outputs kind some.0 (at.0 + 1) fits bit)))
      | inr no' ↦ subst (λ f. Covers fs (sub n f)) (sym (used_cube-none n r no')) (λ g h. absurd (Has-nil g (rw (sub-nil n) at h)))
    ]

-- ---- the handles of the cubes

-- they stay so
pub cubes_later : (s t : State) (rows : List Row) (cubes : List Handle) → Grows s t → AreCubes s rows cubes → AreCubes t rows cubes
cubes_later s t [] [] grows are = tt
cubes_later s t [] (h ∷ cubes) grows are = are
cubes_later s t (r ∷ rows) [] grows are = are
cubes_later s t (r ∷ rows) (h ∷ cubes) grows are = (rw grows.vars (grows.known _ _ are.0), cubes_later s t rows cubes grows are.1)

-- the handle at a row
pub cube_at : (s : State) (rows : List Row) (cubes : List Handle) (i : ℕ) (h : Handle) → i < length rows → AreCubes s rows cubes
    → Denotes s (get_or cubes i h) (used_cube s.vars (get_or rows i no_row))
cube_at s [] cubes i h less are = absurd (omega arith)
cube_at s (r ∷ rows) [] i h less are = absurd are
cube_at s (r ∷ rows) (k ∷ cubes) zero h less are = are.0
cube_at s (r ∷ rows) (k ∷ cubes) (suc i) h less are = cube_at s rows cubes i h (omega arith) are.1

-- one more row
pub cubes_next : (s t : State) (rows : List Row) (i : ℕ) (cubes : List Handle) (h : Handle) → i < length rows
    → AreCubes s (take i rows) cubes → Builds s t (Ok h) (used_cube s.vars (get_or rows i no_row))
    → AreCubes t (take (i + 1) rows) (cubes ++ h ∷ [])
cubes_next s t rows i cubes h less are is =
    let here : Denotes t h (used_cube t.vars (get_or rows i no_row)) = rw is.grows.vars is.ok in
    rw (take_more rows i no_row less)
    (all_zipped_more (λ r h. Denotes t h (used_cube t.vars r)) (take i rows) cubes (get_or rows i no_row) h
    (cubes_later s t (take i rows) cubes is.grows are) here)

-- the union of no cubes
pub cover_start : (s : State) → IsSound s → Gives s s (Ok (record { 0 = 0 })) (cover s.vars []) (working_set s.vars (cover_list s.vars []))
unfolding cover_list
cover_start s ok = search (rules, arith, Grows-refl, cover-nil, covers_nil)

-- s is the state before, t the one after the rows so far, r the row, whose cube is known, and `after` what comes after it
module _ (s t : State) (n : ℕ) (rows after : List Row) (r : Row) (all here : Handle) (n_is : n ≡ s.vars) (ok : IsSound t)
    (before : Gives s t (Ok all) (cover n rows) (working_set n (cover_list n rows))) (here_is : Denotes t here (cube n r)) where
  t_vars : t.vars ≡ n
  t_vars = before.grows.vars ∙ sym n_is

  united : union_of t.vars (family t all) (family t here) ≡ cover n (rows ++ r ∷ [])
  united = grind (arith, Denotes-family, cover-push)

  pub union_planned : Covers s.plan (working_set n (cover_list n ((rows ++ r ∷ []) ++ after)))
      → IsPlanned t (union_of t.vars (family t all) (family t here))
  union_planned planned =
      rw (united, t_vars, before.grows.plan)
      (covers_family n s.plan (cover_list n ((rows ++ r ∷ []) ++ after)) (cover n (rows ++ r ∷ [])) planned
      (cover_list-cover n rows after r))

  pub cover_next : (u : State) (new : Handle) → Builds t u (Ok new) (union_of t.vars (family t all) (family t here))
      → Gives s u (Ok new) (cover n (rows ++ r ∷ [])) (working_set n (cover_list n (rows ++ r ∷ [])))
  cover_next u new is = record {
    grows = Grows-trans s t u before.grows is.grows;
    ok = is.ok ∙ ap Some united;
    held = covers_each n u.held (cover_list n (rows ++ r ∷ []))
        (λ f listed g has. ⊎_elim
        (λ old. is.grows.held g (covers_family n t.held (cover_list n rows) f before.held old g has))
        (λ added. ⊎_elim
        (λ e. grind arith)
        (λ e. is.held g (subst (λ x. Has (sub t.vars x) g) (sym (united ∙ e)) (subst (λ (k : ℕ). Has (sub k f) g) (sym t_vars) has)))
        added)
        (cover_list-push n rows r f listed));
    quiet = is.quiet ∙ before.quiet;
    full = tt;
  }

-- ---- the loop over the rows and their cubes: s is the state before it, t the one after i rows

-- what is given by a list of rows
abbrev pub GivesRows : State → State → Handle → List Row → Type 0
GivesRows s t points chosen = Gives s t (Ok points) (cover s.vars chosen) (working_set s.vars (cover_list s.vars chosen))

module _ (s t : State) (rows : List Row) (cubes : List Handle) (set : PointSet) (output i : ℕ) (points : Handle)
    (before : GivesRows s t points (rows_with (mask_of set) output (take i rows))) (are : AreCubes s rows cubes) where
  -- the pair of the turn, and whether the row is chosen
  module _ (less : i < length rows) (row : Row) (here : Handle) (row_is : row ≡ get_or rows i no_row) (here_is : here ≡ get_or cubes i here)
      (chosen : Bool) (says : chosen ≡ divides (2 ^ (output - 1)) (mask_of set row)) where
    bit : divides (2 ^ (output - 1)) (mask_of set (get_or rows i no_row)) ≡ chosen
    bit = subst (λ r. divides (2 ^ (output - 1)) (mask_of set r) ≡ chosen) row_is (sym says)

    module _ (ok : IsSound t) (yes' : chosen ≡ true) where
      bit_is : divides (2 ^ (output - 1)) (mask_of set (get_or rows i no_row)) ≡ true
      bit_is = bit ∙ yes'

      known : Denotes t here (cube s.vars (get_or rows i no_row))
      known =
          let used = used_cube-some s.vars (get_or rows i no_row) (names_where set (get_or rows i no_row) (output - 1) bit_is) in
          grind (arith, cube_at s rows cubes i here less are)

      pub turn_known : Knows t here
      turn_known = Denotes-knows t here (cube s.vars (get_or rows i no_row)) known

      pub turn_planned : Covers s.plan (working_set s.vars (cover_list s.vars (rows_with (mask_of set) output rows)))
          → IsPlanned t (union_of t.vars (family t points) (family t here))
      turn_planned planned =
          union_planned s t s.vars (rows_with (mask_of set) output (take i rows)) (rows_with (mask_of set) output (drop (i + 1) rows))
          (get_or rows i no_row) points here refl ok before known
          (subst (λ rs. Covers s.plan (working_set s.vars (cover_list s.vars rs))) (rows_with-rest (mask_of set) output rows i less bit_is)
          planned)

      pub turn_chosen : (u : State) (new : Handle) → Builds t u (Ok new) (union_of t.vars (family t points) (family t here))
          → GivesRows s u new (rows_with (mask_of set) output (take (i + 1) rows))
      turn_chosen u new is =
          subst (GivesRows s u new) (sym (rows_with-more (mask_of set) output rows i less bit_is))
          (cover_next s t s.vars (rows_with (mask_of set) output (take i rows)) (rows_with (mask_of set) output (drop (i + 1) rows))
          (get_or rows i no_row) points here refl ok before known u new is)

    pub turn_other : chosen ≡ false → GivesRows s t points (rows_with (mask_of set) output (take (i + 1) rows))
    turn_other no' = subst (GivesRows s t points) (sym (rows_with-same (mask_of set) output rows i less (bit ∙ no'))) before

  -- after the last row
  pub turn_end : i ≡ min (length rows) (length cubes) → GivesRows s t points (rows_with (mask_of set) output rows)
  turn_end e = grind (arith, AllZip-long, take_all)
