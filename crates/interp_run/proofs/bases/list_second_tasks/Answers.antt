use Rattle.lattice.specs.Words.{numbers_below}
use Rattle.pla_reader.specs.Reading.{description}
use Rattle.interp_run.proofs.PhaseLists.{second_more}
use Rattle.interp_run.proofs.bases.list_second_tasks.Goals as goal

pub loop-before-init : goal.loop-before-init
unfolding numbers_below
loop-before-init c = λ mode are. c.new-list.ensures.items

pub loop-before-preserved : goal.loop-before-preserved
loop-before-preserved c = λ mode are.
    second_more (description c.args.pla.now) mode c.args.leads.now c.loop-before.before c.index-leads-before.result
    c.loop-before.list.items c.in_ok-list.list.items c.index-leads-before.is c.loop-before-test.true c.requires.leads are
    (c.loop-before.invariant mode are) c.in_ok-list.ensures
