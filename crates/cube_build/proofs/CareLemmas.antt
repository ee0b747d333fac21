-- The care points of an output by the type of the description, what is planned beside its covers, and what is found from them.
use Rattle.std.proofs.Common.{◌≡◌, ℕ, List, [], ◌∷◌, ◌++◌, refl, ◌∙◌, arith, ap, ap₂, append-nil, append_assoc, ◌+◌, ◌<◌, Result}
use Rattle.std.proofs.Common.{Ok, get_or, length, slice_set, sym, ◌≤◌, take, subst}
use Rattle.lattice.specs.Words.{Family, IsFamily, combine, power, union_of, minus_of, cover, in_cube, on_rows, off_rows, dc_rows, on_set}
use Rattle.lattice.specs.Words.{off_set, dc_set, points_where, care_zeros, care_ones, cover_list, care_list, Covers, working_set}
use Rattle.std.specs.List.{flat_map, list_any, AllZip}
use Rattle.lattice.specs.declared.row.Row.{Row}
use Rattle.lattice.specs.declared.kind.Kind.{Kind}
use Rattle.lattice.specs.declared.kind.Kind.TheVariants.{F, Fd, Fr, Fdr}
use Rattle.lattice.proofs.Diagrams.{has-power, covers_append, covers_nil, covers_part, covers_right, Has-append_left, part_at}
use Rattle.lattice.proofs.Polynomials.{IsFamily-family_where, has-family_where_below, family_where_has, family_where-agree, zip_at}
use Rattle.cube_build.specs.PointSets.{set_rows, sets_of}
use Rattle.cube_build.specs.GivenCareSets.{fd_list, fdr_list, outside_list, AreCovers, care_needs, GivesCareSets, IsCover}
use Rattle.cube_build.specs.GivenCareSets.{GivesCareSetsFrom, MayGiveCareSets}
use Rattle.std.proofs.lemmas.List.{get_or-set_other, get_or-set_same, get_or_default}
use Rattle.node_store.specs.Stores.{State, Gives, Grows, Reads, family}
use Rattle.node_store.specs.declared.store.Full.{Full}
use Rattle.node_store.specs.declared.store.Handle.{Handle}
use Rattle.node_store.proofs.StoreLaws.{Denotes-family, Grows-refl}
use Rattle.set_algebra.specs.GivenPoints.{GivesPoints}
use Rattle.set_algebra.specs.declared.points.ValuedPoints.{ValuedPoints}
use Rattle.set_algebra.proofs.Calls.{points_as}
use Rattle.cube_build.specs.declared.covers.PointSet.{PointSet}
use Rattle.cube_build.specs.declared.covers.PointSet.TheVariants.{On}

IsFamily-cover : (n : ℕ) (rows : List Row) → IsFamily n (cover n rows)
unfolding cover
IsFamily-cover n rows = IsFamily-family_where n (λ a. list_any (λ r. in_cube r a) rows)

module _ (n : ℕ) (rows : List Row) (output : ℕ) where
  pub ones_f : on_set n rows output ≡ care_ones n F rows output
  unfolding points_where
  ones_f = family_where_has n (on_set n rows output) (IsFamily-cover n (on_rows output rows))

  pub ones_fd : minus_of n (on_set n rows output) (dc_set n rows output) ≡ care_ones n Fd rows output
  unfolding points_where combine
  ones_fd = refl

  pub ones_fr : on_set n rows output ≡ care_ones n Fr rows output
  unfolding points_where
  ones_fr = family_where_has n (on_set n rows output) (IsFamily-cover n (on_rows output rows))

  pub ones_fdr : minus_of n (on_set n rows output) (dc_set n rows output) ≡ care_ones n Fdr rows output
  unfolding points_where combine
  ones_fdr = refl

  pub zeros_f : minus_of n (power n) (on_set n rows output) ≡ care_zeros n F rows output
  unfolding points_where combine
  zeros_f = grind (arith, family_where-agree, has-power)

  pub zeros_fd : minus_of n (power n) (union_of n (on_set n rows output) (dc_set n rows output)) ≡ care_zeros n Fd rows output
  unfolding points_where combine
  zeros_fd = grind (arith, family_where-agree, has-power, has-family_where_below)

  pub zeros_fr : off_set n rows output ≡ care_zeros n Fr rows output
  unfolding points_where
  zeros_fr = family_where_has n (off_set n rows output) (IsFamily-cover n (off_rows output rows))

  pub zeros_fdr : minus_of n (off_set n rows output) (dc_set n rows output) ≡ care_zeros n Fdr rows output
  unfolding points_where combine
  zeros_fdr = refl

-- ---- the list of the care sets: the covers, and what is built from them

abbrev pub covers_list : ℕ → Kind → List Row → ℕ → List Family
covers_list n kind rows output = flat_map (λ set. cover_list n (set_rows set output rows)) (sets_of kind)

abbrev pub rest_of : ℕ → Kind → (on off dc : Family) → List Family
rest_of n F on off dc = outside_list n on
rest_of n Fd on off dc = fd_list n on dc
rest_of n Fr on off dc = []
rest_of n Fdr on off dc = fdr_list n on off dc

module _ (n : ℕ) (rows : List Row) (output : ℕ) where
  abbrev ons : List Family
  ons = cover_list n (on_rows output rows)

  abbrev offs : List Family
  offs = cover_list n (off_rows output rows)

  abbrev dcs : List Family
  dcs = cover_list n (dc_rows output rows)

  abbrev pub rest_in : Kind → List Family
  rest_in kind = rest_of n kind (on_set n rows output) (off_set n rows output) (dc_set n rows output)

  pub care_list_parts : (kind : Kind) → covers_list n kind rows output ++ rest_in kind ≡ care_list n kind rows output
  unfolding care_list points_where combine
  care_list_parts F = ap₂ (λ fs f. fs ++ power n ∷ f ∷ []) (append-nil ons) (zeros_f n rows output)
  care_list_parts Fd =
      append_assoc ons (dcs ++ []) (rest_in Fd)
      ∙ ap₂ (λ ds f. ons ++ (ds ++ (minus_of n (on_set n rows output) (dc_set n rows output)
      ∷ union_of n (on_set n rows output) (dc_set n rows output) ∷ power n ∷ f ∷ []))) (append-nil dcs) (zeros_fd n rows output)
  care_list_parts Fr = append-nil (ons ++ (offs ++ [])) ∙ ap (λ fs. ons ++ fs) (append-nil offs)
  care_list_parts Fdr = simp (append_assoc, append-nil)

abbrev pub none : Handle
none = record { 0 = 0 }

-- ---- what is planned

-- each cover is, where the care sets are
pub cover_planned : (fs : List Family) (n : ℕ) (kind : Kind) (rows : List Row) (output k : ℕ) (d : PointSet) → k < length (sets_of kind)
    → Covers fs (care_needs n kind rows output)
    → Covers fs (working_set n (cover_list n (set_rows (get_or (sets_of kind) k d) output rows)))
cover_planned fs n kind rows output k d less planned =
    let parts = care_list_parts n rows output kind in
    let list : PointSet → List Family = λ set. cover_list n (set_rows set output rows) in
    covers_part n fs (covers_list n kind rows output ++ rest_in n rows output kind) (list (get_or (sets_of kind) k d))
    (subst (λ l. Covers fs (working_set n l)) (sym parts) planned)
    (λ f h. Has-append_left (covers_list n kind rows output) (rest_in n rows output kind) f (part_at list (sets_of kind) k d less f h))

-- and so is what is built from them
pub rest_planned : (fs : List Family) (n : ℕ) (kind : Kind) (rows : List Row) (output : ℕ) → Covers fs (care_needs n kind rows output)
    → Covers fs (working_set n (rest_in n rows output kind))
rest_planned fs n kind rows output planned =
    covers_right n fs (covers_list n kind rows output) (rest_in n rows output kind)
    (subst (λ l. Covers fs (working_set n l)) (sym (care_list_parts n rows output kind)) planned)

-- in a later state
pub later_planned : (s t : State) (n : ℕ) (kind : Kind) (rows : List Row) (output k : ℕ) (d : PointSet) → Reads s t → s.vars ≡ n
    → k < length (sets_of kind) → Covers s.plan (care_needs n kind rows output)
    → Covers t.plan (working_set t.vars (cover_list t.vars (set_rows (get_or (sets_of kind) k d) output rows)))
later_planned s t n kind rows output k d reads vars less planned = grind (arith, cover_planned)

-- ---- what is given

all_held : (s : State) (rows : List Row) (output : ℕ) (sets : List PointSet) (covers : List Handle)
    → AllZip (IsCover s rows output) sets covers
    → Covers s.held (working_set s.vars (flat_map (λ set. cover_list s.vars (set_rows set output rows)) sets))
all_held s rows output [] covers are = covers_nil s.vars s.held
all_held s rows output (set ∷ sets) [] are = absurd are
all_held s rows output (set ∷ sets) (h ∷ covers) are = grind (arith, covers_append, all_held s rows output sets covers are.1)

module _ (s : State) (kind : Kind) (rows : List Row) (output : ℕ) (covers : List Handle) (are : AreCovers s kind rows output covers) where
  pub cover_at : (k : ℕ) (e : Handle) → k < length (sets_of kind) → IsCover s rows output (get_or (sets_of kind) k On) (get_or covers k e)
  cover_at k e less = zip_at (IsCover s rows output) (sets_of kind) covers k On e are less

  pub cover_family : (k : ℕ) (e : Handle) → k < length (sets_of kind)
      → family s (get_or covers k e) ≡ cover s.vars (set_rows (get_or (sets_of kind) k On) output rows)
  cover_family k e less = Denotes-family s (get_or covers k e) _ (cover_at k e less).denotes

  pub care_given : {t : State} {r : Result ValuedPoints Full} {zeros ones : Family} → zeros ≡ care_zeros s.vars kind rows output
      → ones ≡ care_ones s.vars kind rows output → GivesPoints s t r zeros ones (working_set s.vars (rest_in s.vars rows output kind))
      → GivesCareSets s t r s.vars kind rows output
  care_given {t} z o is = points_as z o (λ grows held. subst (λ l. Covers t.held (working_set s.vars l))
      (care_list_parts s.vars rows output kind)
      (covers_append s.vars t.held (covers_list s.vars kind rows output) (rest_in s.vars rows output kind)
      (λ f i. grows.held f (all_held s rows output (sets_of kind) covers are f i)) held)) is

-- ---- one cover after the other

-- they stay so
pub cover_later : (s t : State) (rows : List Row) (output : ℕ) (set : PointSet) (h : Handle) → Grows s t → IsCover s rows output set h
    → IsCover t rows output set h
cover_later s t rows output set h grows is = grind arith

-- the handles at the first places are covers
abbrev pub FirstCovers : State → Kind → List Row → ℕ → ℕ → List Handle → Type 0
FirstCovers s kind rows output count covers =
    (k : ℕ) (e : Handle) → k < count → IsCover s rows output (get_or (sets_of kind) k On) (get_or covers k e)

sets_few : (kind : Kind) → length (sets_of kind) ≤ 3
sets_few F = omega arith
sets_few Fd = omega arith
sets_few Fr = omega arith
sets_few Fdr = omega arith

-- one more
pub covers_more : (s t : State) (kind : Kind) (rows : List Row) (output count : ℕ) (d : PointSet) (covers : List Handle) (h : Handle)
    → count < length (sets_of kind) → length covers ≡ 3 → FirstCovers s kind rows output count covers
    → Gives s t (Ok h) (cover s.vars (set_rows (get_or (sets_of kind) count d) output rows))
    (working_set s.vars (cover_list s.vars (set_rows (get_or (sets_of kind) count d) output rows)))
    → FirstCovers t kind rows output (count + 1) (slice_set covers count h)
covers_more s t kind rows output count d covers h less room before is k e within =
    grind (arith, sets_few, get_or-set_other, cover_later, get_or-set_same, get_or_default)

-- all of them, at the front of an array
pub all_covers : (s : State) (kind : Kind) (rows : List Row) (output : ℕ) (sets : List PointSet) (count : ℕ) (covers : List Handle)
    → sets ≡ sets_of kind → count ≡ length sets → length covers ≡ 3 → FirstCovers s kind rows output count covers
    → AreCovers s kind rows output (take (length sets) covers)
all_covers s kind rows output sets count covers all end room first = grind (arith, sets_few kind)

module _ (s : State) (covers : List Handle) where
  pub f_planned : MayGiveCareSets s F covers → Covers s.plan (working_set s.vars (outside_list s.vars (family s (get_or covers 0 none))))
  f_planned (rows, output, are, planned) =
      rw (cover_family s F rows output covers are 0 none (omega arith)) (rest_planned s.plan s.vars F rows output planned)

  pub fd_planned : MayGiveCareSets s Fd covers
      → Covers s.plan (working_set s.vars (fd_list s.vars (family s (get_or covers 0 none)) (family s (get_or covers 1 none))))
  fd_planned (rows, output, are, planned) =
      let at = cover_family s Fd rows output covers are in
      rw (at 0 none (omega arith), at 1 none (omega arith)) (rest_planned s.plan s.vars Fd rows output planned)

  pub fdr_planned : MayGiveCareSets s Fdr covers
      → Covers s.plan (working_set s.vars (fdr_list s.vars (family s (get_or covers 0 none)) (family s (get_or covers 1 none))
      (family s (get_or covers 2 none))))
  fdr_planned (rows, output, are, planned) =
      let at = cover_family s Fdr rows output covers are in
      rw (at 0 none (omega arith), at 1 none (omega arith), at 2 none (omega arith)) (rest_planned s.plan s.vars Fdr rows output planned)

  module _ (t : State) (r : Result ValuedPoints Full) where
    abbrev n : ℕ
    n = s.vars

    pub f_given : GivesPoints s t r (minus_of n (power n) (family s (get_or covers 0 none))) (family s (get_or covers 0 none))
        (working_set n (outside_list n (family s (get_or covers 0 none)))) → GivesCareSetsFrom s t r F covers
    f_given is rows output are =
        care_given s F rows output covers are (zeros_f n rows output) (ones_f n rows output)
        (rw (cover_family s F rows output covers are 0 none (omega arith)) at is)

    pub fd_given : GivesPoints s t r (minus_of n (power n) (union_of n (family s (get_or covers 0 none)) (family s (get_or covers 1 none))))
        (minus_of n (family s (get_or covers 0 none)) (family s (get_or covers 1 none)))
        (working_set n (fd_list n (family s (get_or covers 0 none)) (family s (get_or covers 1 none)))) → GivesCareSetsFrom s t r Fd covers
    fd_given is rows output are =
        let at = cover_family s Fd rows output covers are in
        care_given s Fd rows output covers are (zeros_fd n rows output) (ones_fd n rows output)
        (rw (at 0 none (omega arith), at 1 none (omega arith)) at is)

    pub fdr_given : GivesPoints s t r (minus_of n (family s (get_or covers 1 none)) (family s (get_or covers 2 none)))
        (minus_of n (family s (get_or covers 0 none)) (family s (get_or covers 2 none)))
        (working_set n (fdr_list n (family s (get_or covers 0 none)) (family s (get_or covers 1 none)) (family s (get_or covers 2 none))))
        → GivesCareSetsFrom s t r Fdr covers
    fdr_given is rows output are =
        let at = cover_family s Fdr rows output covers are in
        care_given s Fdr rows output covers are (zeros_fdr n rows output) (ones_fdr n rows output)
        (rw (at 0 none (omega arith), at 1 none (omega arith), at 2 none (omega arith)) at is)

  pub fr_given : GivesCareSetsFrom s s (Ok (record { zeros = get_or covers 1 none; ones = get_or covers 0 none })) Fr covers
  fr_given rows output are =
      let at = cover_at s Fr rows output covers are in
      care_given s Fr rows output covers are (zeros_fr s.vars rows output) (ones_fr s.vars rows output) (record {
        grows = Grows-refl s;
        zeros = (at 1 none (omega arith)).denotes;
        ones = (at 0 none (omega arith)).denotes;
        held = covers_nil s.vars s.held;
        quiet = refl;
        full = tt;
      })
