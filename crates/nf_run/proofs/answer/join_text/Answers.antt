use Rattle.std.proofs.Common.{map, reverse}
use Rattle.pla_reader.specs.Reading.{description}
use Rattle.nf_run.proofs.Endings.{basis_due, basis_over}
use Rattle.nf_run.proofs.answer.join_text.Goals as goal

pub basis_text-requires : goal.basis_text-requires
basis_text-requires c = rw c.as_slice.ensures (basis_over (description c.args.p.now) c.args.joining _ c.in-Ok.ensures.basis)

pub returns-in-Ok-basis_text-clause-ok : goal.returns-in-Ok-basis_text-clause-ok
returns-in-Ok-basis_text-clause-ok c =
    rw (c.in-Ok-basis_text.ensures, c.as_slice.ensures) (basis_due (c.has_two_outputs.ensures.0 c.if-not-has_two_outputs.false)
    c.in_ok-check_rows.ensures.ok (map reverse c.in-Ok.basis) c.in-Ok.ensures.basis c.in-Ok.ensures.within)
