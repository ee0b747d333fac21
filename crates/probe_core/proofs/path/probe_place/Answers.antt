use Rattle.std.proofs.Common.{arith}
use Rattle.std.proofs.Math.Facts.{Fits-below}
use Rattle.lattice.proofs.Diagrams.{place_below}
use Rattle.probe_core.proofs.Places.{line_fits, placed}
use Rattle.probe_core.proofs.path.probe_place.Goals as goal

pub overflow_mul-result : goal.overflow_mul-result
overflow_mul-result c =
    let fits = line_fits c.args.bits c.args.word c.args.steps _ c.requires.bits.0 c.requires.bits.1 c.line_at.ensures in
    Fits-below {n = 16777216} tt (omega arith)

pub overflow_add-result-2 : goal.overflow_add-result-2
overflow_add-result-2 c =
    let fits = line_fits c.args.bits c.args.word c.args.steps _ c.requires.bits.0 c.requires.bits.1 c.line_at.ensures in
    Fits-below {n = 16777216} tt (omega arith)

pub returns-clause-place : goal.returns-clause-place
returns-clause-place c = placed c.args.bits c.args.word c.args.steps _ _ c.line_at.ensures c.start.ensures.is

pub returns-clause-inside : goal.returns-clause-inside
returns-clause-inside c = grind (
  arith,
  placed c.args.bits c.args.word c.args.steps _ _ c.line_at.ensures c.start.ensures.is,
  place_below c.args.bits c.args.word c.args.steps c.requires.bits.0,
)
