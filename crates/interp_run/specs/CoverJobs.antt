-- The covers of all outputs: a job for each output and each of its sets.
use Rattle.std.specs.Prelude.{◌≡◌, ℕ, ◌+◌, ◌*◌, ◌/◌, ◌%◌, ◌<◌, List, length, map, slice_index_or}
use Rattle.std.specs.List.{zip}
use Rattle.lattice.specs.Rows.{cover}
use Rattle.lattice.specs.WorkingLists.{cover_list}
use Rattle.lattice.specs.declared.row.Row.{Row}
use Rattle.node_store.specs.Stores.{State}
use Rattle.node_store.specs.declared.store.Handle.{Handle}
use Rattle.pla_reader.specs.Reading.{Description}
use Rattle.cube_build.specs.GivenCareSets.{IsCover}
use Rattle.cube_build.specs.PointSets.{set_rows, sets_of}
use Rattle.cube_build.specs.UsedCubes.{used_cube}
use Rattle.cube_build.specs.declared.covers.PointSet.{PointSet}
use Rattle.cube_build.specs.declared.covers.PointSet.TheVariants.{On}
use Rattle.fork_branches.specs.Jobs.{Tasks}

-- how many covers there are
abbrev pub cover_count : Description → ℕ
cover_count d = d.outputs * length (sets_of d.kind)

-- of which output the cover with a number is, and of which of its sets: those of output 1 come first, in the order of the sets
abbrev pub output_of : Description → ℕ → ℕ
output_of d number = number / length (sets_of d.kind) + 1

abbrev pub set_of : Description → ℕ → PointSet
set_of d number = slice_index_or (sets_of d.kind) (number % length (sets_of d.kind)) On

-- the rows whose cubes are united
abbrev pub united_rows : Description → ℕ → List Row
united_rows d number = set_rows (set_of d number) (output_of d number) d.rows

-- the covers as the jobs of a pool, which use the cubes of the rows
abbrev pub cover_jobs : Description → List Handle → Tasks
cover_jobs d cubes = record {
  total = cover_count d;
  vars = d.inputs;
  uses = zip cubes (map (used_cube d.inputs) d.rows);
  wanted = λ number. cover d.inputs (united_rows d number);
  working = λ number. cover_list d.inputs (united_rows d number);
}

-- the handles of all covers, and what they needed is held
pub record AreAllCovers (s : State) (d : Description) (covers : List Handle) : Type 0 where
  pub count : length covers ≡ cover_count d
  pub each : (x : ℕ) (h : Handle) → x < cover_count d → IsCover s d.rows (output_of d x) (set_of d x) (slice_index_or covers x h)
