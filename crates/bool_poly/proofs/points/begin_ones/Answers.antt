use Rattle.node_store.proofs.StoreLaws.{then_reads}
use Rattle.set_algebra.proofs.Levels.{cofactors_before}
use Rattle.bool_poly.proofs.Steps.{OnesCut, low_asks, ones_cut, with_asks}
use Rattle.bool_poly.proofs.points.begin_ones.Goals as goal
use Rattle.bool_poly.proofs.points.begin_ones.Goals.{After-cut}
use Rattle.bool_poly.proofs.points.begin_ones.Given.{Over}

at_cut : (g : Over) (c : After-cut g)
    → OnesCut (g.S.Store.state c.args.store.now) (g.S.Store.state c.cut.new.store) c.args.h c.args.set c.cut.result
at_cut g c =
    ones_cut (g.met.S.Store.sound c.args.store.now) c.requires c.in-None.ensures.varies c.in-None.ensures.filled
    (then_reads c.found_ones.ensures.reads c.cut.ensures.reads)
    (cofactors_before c.found_ones.ensures.reads c.requires.polynomial c.requires.points c.cut.ensures.cofactors)

pub returns-in-None-clause-reads : goal.returns-in-None-clause-reads
returns-in-None-clause-reads g c = then_reads c.found_ones.ensures.reads c.cut.ensures.reads

pub returns-in-None-clause-cofactors : goal.returns-in-None-clause-cofactors
returns-in-None-clause-cofactors g c =
    cofactors_before c.found_ones.ensures.reads c.requires.polynomial c.requires.points c.cut.ensures.cofactors

pub returns-in-None-clause-low : goal.returns-in-None-clause-low
returns-in-None-clause-low g c = low_asks (at_cut g (goal.at.returns-in-None-clause-low g c).After-cut)

pub returns-in-None-clause-high : goal.returns-in-None-clause-high
returns-in-None-clause-high g c =
    with_asks (at_cut g (goal.at.returns-in-None-clause-high g c).After-cut) (g.met.S.Store.sound c.cut.new.store)
