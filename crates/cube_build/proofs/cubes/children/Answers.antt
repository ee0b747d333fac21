use Rattle.std.proofs.Common.{arith}
use Rattle.cube_build.proofs.CubeLemmas.{low_rest, low_none, high_rest, high_none, bit_absent, bit_present, value_absent}
use Rattle.cube_build.proofs.cubes.children.Goals as goal

pub returns-then-row-weight-eq0-clause-low : goal.returns-then-row-weight-eq0-clause-low
returns-then-row-weight-eq0-clause-low c s ok is = grind (arith, low_rest, value_absent, bit_absent)

pub returns-then-row-weight-eq0-clause-high : goal.returns-then-row-weight-eq0-clause-high
returns-then-row-weight-eq0-clause-high c s ok is = grind (arith, high_rest, value_absent, bit_absent)

pub returns-then-row-weight-eq0-2-clause-low : goal.returns-then-row-weight-eq0-2-clause-low
returns-then-row-weight-eq0-2-clause-low c s ok is = grind (arith, low_rest, bit_absent)

pub returns-then-row-weight-eq0-2-clause-high : goal.returns-then-row-weight-eq0-2-clause-high
returns-then-row-weight-eq0-2-clause-high c s ok is = grind (arith, high_none, bit_absent, bit_present, ok.empty)

pub returns-else-row-weight-eq0-2-clause-low : goal.returns-else-row-weight-eq0-2-clause-low
returns-else-row-weight-eq0-2-clause-low c s ok is = grind (arith, low_none, bit_present, ok.empty)

pub returns-else-row-weight-eq0-2-clause-high : goal.returns-else-row-weight-eq0-2-clause-high
returns-else-row-weight-eq0-2-clause-high c s ok is = grind (arith, high_rest, bit_present)
