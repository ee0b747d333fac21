use Rattle.std.proofs.Common.{None, ap, ⊎_elim}
use Rattle.pla_reader.specs.Description.{has_off}
use Rattle.cube_sets.specs.Clashes.{IsClash}
use Rattle.cube_sets.proofs.Consistent.{clash_from_two, none_where_consistent, none_without_offs, least_if_some}
use Rattle.cube_sets.proofs.clash.conflict.Goals as goal

pub returns-in-F-clause-none : goal.returns-in-F-clause-none
returns-in-F-clause-none c =
    let p = c.args.p.now in let without = ⊎_elim (λ is. ap has_off is) (λ is. ap has_off is) c.in-F.is in
    none_where_consistent p.inputs p.outputs p.rows None (none_without_offs p.inputs p.outputs p.rows p.kind without p.fits.rows_fit)

pub returns-in-Fr-clause-none : goal.returns-in-Fr-clause-none
returns-in-Fr-clause-none c =
    let p = c.args.p.now in
    none_where_consistent p.inputs p.outputs p.rows c.least_clash.result
    (clash_from_two p.inputs p.outputs p.rows c.least_clash.result c.least_clash.ensures)

pub returns-in-Fr-clause-least : goal.returns-in-Fr-clause-least
returns-in-Fr-clause-least c =
    let p = c.args.p.now in
    least_if_some (IsClash p.inputs p.outputs p.rows p.rows) c.least_clash.result
    (clash_from_two p.inputs p.outputs p.rows c.least_clash.result c.least_clash.ensures)
