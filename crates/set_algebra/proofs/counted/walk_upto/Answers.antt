use Rattle.std.proofs.Common.{◌≤◌, ◌^◌, arith}
use Rattle.std.proofs.Math.Pow.{pow_mono}
use Rattle.lattice.specs.Words.{level}
use Rattle.lattice.specs.declared.limits.TheConstants.{MAX_VARS}
use Rattle.lattice.proofs.Diagrams.{level-below}
use Rattle.node_store.specs.Stores.{family}
use Rattle.node_store.proofs.StoreLaws.{known_after}
use Rattle.set_algebra.proofs.HalvesLemmas.{raised-zero}
use Rattle.set_algebra.proofs.counted.walk_upto.Goals as goal

pub walk_into-requires-clause-base : goal.walk_into-requires-clause-base
walk_into-requires-clause-base g c =
    let s = g.S.Store.state c.args.store.now in let ok = g.met.S.Store.sound c.args.store.now in let f = family s c.args.a in
    let most = level-below s.vars s.vars f (known_after s c.args.a ok c.requires) (omega arith) in
    let less : level s.vars f ≤ MAX_VARS = omega (arith, most, ok.vars_high) in
    let small : 2 ^ level s.vars f ≤ 2 ^ MAX_VARS = pow_mono less in omega (arith, small)

pub returns-clause-members : goal.returns-clause-members
returns-clause-members g c = rw (c.in_ok-walk_into.ensures.members, c.new-members.ensures) (raised-zero _)
