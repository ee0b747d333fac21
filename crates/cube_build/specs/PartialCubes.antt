-- Cubes over the last variables alone, from which a cube is built.
use Rattle.std.specs.Prelude.{ℕ, ◌%◌, ◌^◌, ◌==◌, bit_and}
use Rattle.lattice.specs.Family.{Family, family_where}
use Rattle.lattice.specs.declared.row.Row.{Row}

-- the points over the last k variables that agree with the row in these
unfoldable pub cube_behind : ℕ → Row → Family
cube_behind k r = family_where k (λ a. bit_and a r.care == r.value % 2 ^ k)
