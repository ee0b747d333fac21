use Rattle.std.proofs.Common.{◌-◌, ℕ, arith}
use Rattle.lattice.specs.Words.{power}
use Rattle.lattice.proofs.Diagrams.{power-zero, power_whole, IsFamily-power}
use Rattle.node_store.proofs.StoreLaws.{Builds-known, node_builds, node_parts, node_planned, power_grows, reads_one}
use Rattle.set_algebra.proofs.HalvesLemmas.{planned_high}
use Rattle.set_algebra.proofs.single.+power_below.Goals as goal

pub returns-then-count-eq0 : goal.returns-then-count-eq0
returns-then-count-eq0 g t c =
    let ok = g.met.S.Store.sound c.args.store.now in
    Builds-known _ (record { 0 = 1 }) (power c.args.count) ok (rw (c.if-count-eq0.true, power-zero) ok.unit)

pub power_below-requires : goal.power_below-requires
power_below-requires g t c κs within =
    let d : ℕ = c.args.count - 1 in let fits = IsFamily-power d in
    let planned = planned_high (g.S.Store.state c.args.store.now) d _ _ _ (power_whole c.args.count c.if-count-eq0.false) fits fits
    (omega (arith, c.requires.count, c.if-count-eq0.false)) c.requires.planned in
    (omega (arith, c.decreases, c.if-count-eq0.false), (within, (omega (arith, c.requires.count), planned)))

pub grow-requires : goal.grow-requires
grow-requires g t c =
    let may = power_grows c.args.count c.vars.result c.if-count-eq0.false c.requires.count (reads_one c.in_ok-rest.ensures)
    c.vars.ensures c.in_ok-rest.ensures.ok c.requires.planned in
    record { parts = node_parts may; planned = node_planned may (g.met.S.Store.sound c.power_below.new.store) }

pub returns : goal.returns
returns g t c =
    node_builds (power_grows c.args.count c.vars.result c.if-count-eq0.false c.requires.count (reads_one c.in_ok-rest.ensures)
    c.vars.ensures c.in_ok-rest.ensures.ok c.requires.planned) c.grow.ensures
