use Rattle.std.proofs.Common.{refl, ◌∙◌}
use Rattle.std.proofs.lemmas.Option.{IfSome_then}
use Rattle.node_store.proofs.StoreLaws.{gives_as, gives_fewer, kept_given}
use Rattle.set_algebra.proofs.PairLemmas.{answer_is, includes_is, operands}
use Rattle.set_algebra.proofs.pointwise.found.Goals as goal

pub returns-clause-some : goal.returns-clause-some
returns-clause-some g c =
    let op = c.args.op in let s = g.S.Store.state c.args.store.now in let x = c.args.x in let y = c.args.y in let is = c.requires.op in
    IfSome_then c.look.result c.look.ensures.result (λ r kept. gives_fewer (λ k h. includes_is op s x y k is ∙ h)
    (gives_as (answer_is op s x y is) refl
    (kept_given (operands op s x y is c.requires.asks.first c.requires.asks.second) c.look.ensures.reads kept)))
