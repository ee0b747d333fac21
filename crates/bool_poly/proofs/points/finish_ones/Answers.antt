use Rattle.std.proofs.Common.{Ok, refl}
use Rattle.lattice.specs.Words.{answer}
use Rattle.lattice.specs.declared.op.Op.TheVariants.{Ones}
use Rattle.node_store.proofs.StoreLaws.{allowed_all, given_kept, handles}
use Rattle.bool_poly.proofs.Steps.{ones_node}
use Rattle.bool_poly.proofs.points.finish_ones.Goals as goal

pub grow-requires : goal.grow-requires
grow-requires g c =
    let is = c.requires in (ones_node (g.met.S.Store.sound c.args.store.now) is.asks is.varies is.filled is.cut is.halves).asked

pub keep-requires : goal.keep-requires
unfolding answer
keep-requires g c =
    let is = c.requires in let node = ones_node (g.met.S.Store.sound c.args.store.now) is.asks is.varies is.filled is.cut is.halves in
    given_kept (handles Ones refl refl is.asks.polynomial is.asks.points) (allowed_all Ones refl (λ e. cc) (λ e. cc) (λ e. cc))
    (node.given (Ok c.in_ok-r.r) c.in_ok-r.ensures)

pub returns : goal.returns
returns g c =
    let is = c.requires in let node = ones_node (g.met.S.Store.sound c.args.store.now) is.asks is.varies is.filled is.cut is.halves in
    rw c.keep.ensures (node.given (Ok c.in_ok-r.r) c.in_ok-r.ensures)
