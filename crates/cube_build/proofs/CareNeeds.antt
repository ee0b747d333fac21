-- What callers use of covers, of the care sets and of the care points: what is planned, and later states.
use Rattle.std.proofs.Common.{◌≡◌, ℕ, ◌+◌, ◌-◌, ◌≤◌, List, subst, arith}
use Rattle.std.specs.List.{flat_map}
use Rattle.lattice.specs.Words.{Family, Covers, working_set, care_list, output_numbers}
use Rattle.lattice.specs.declared.row.Row.{Row}
use Rattle.lattice.specs.declared.kind.Kind.{Kind}
use Rattle.lattice.proofs.Diagrams.{covers_part}
use Rattle.node_store.specs.Stores.{Grows, State}
use Rattle.node_store.specs.declared.store.Handle.{Handle}
use Rattle.pla_reader.specs.Reading.{Description}
use Rattle.cube_build.specs.CarePoints.{HoldsPoints}
use Rattle.cube_build.specs.GivenCareSets.{care_needs}
use Rattle.cube_build.proofs.CoverLemmas.{output_part}
-- covers: that they are planned, and later states
pub use Rattle.cube_build.proofs.CareLemmas.{cover_planned, cover_later}

-- the plan of the care sets of all outputs has those of each
pub all_cares_have : (n outputs : ℕ) (kind : Kind) (rows : List Row) (output : ℕ) → 1 ≤ output → output ≤ outputs
    → Covers (working_set n (flat_map (care_list n kind rows) (output_numbers outputs))) (care_needs n kind rows output)
all_cares_have n outputs kind rows output first last =
    let all : List Family = flat_map (care_list n kind rows) (output_numbers outputs) in
    let same : output - 1 + 1 ≡ output = omega arith in
    covers_part n (working_set n all) all (care_list n kind rows output) (λ f h. h)
    (subst (λ j. Covers all (care_list n kind rows j)) same (output_part (care_list n kind rows) outputs (output - 1) (omega arith)))

-- care points that are held stay so
pub points_later : (s t : State) (d : Description) (output : ℕ) (h : Handle) → Grows s t → HoldsPoints s d output h
    → HoldsPoints t d output h
points_later s t d output h grows is = record { denotes = grows.known h.0 _ is.denotes; held = λ f i. grows.held f (is.held f i) }
