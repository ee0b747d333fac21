use Rattle.std.proofs.Common.{arith}
use Rattle.probe_core.proofs.Places.{some_lines, first_line}
use Rattle.probe_core.proofs.path.line_at.Goals as goal

pub returns-then-steps-lt-LINE : goal.returns-then-steps-lt-LINE
returns-then-steps-lt-LINE c = grind (arith, first_line c.args.bits c.requires.bits.0 c.requires.bits.1 c.args.word c.args.steps)

pub nonzero_rem-result : goal.nonzero_rem-result
nonzero_rem-result c = some_lines c.args.bits c.requires.bits.0 c.requires.bits.1
