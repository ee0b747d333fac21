use Rattle.std.proofs.Common.{refl}
use Rattle.node_store.proofs.StoreLaws.{gives_as}
use Rattle.interp_lex.proofs.InterpolationNeeds.{needs_least}
use Rattle.interp_run.proofs.tasks.find_part.Goals as goal

pub least-requires-clause-planned : goal.least-requires-clause-planned
least-requires-clause-planned g c =
    rw (needs_least (g.S.Store.state c.args.store.now) c.args.care.zeros c.args.care.ones) (rw c.in-Polynomial.is at c.requires.planned)

pub returns-in-Polynomial-clause-gives : goal.returns-in-Polynomial-clause-gives
returns-in-Polynomial-clause-gives g c = rw c.in-Polynomial.is
    (gives_as refl (needs_least (g.S.Store.state c.args.store.now) c.args.care.zeros c.args.care.ones) c.least.ensures.result)
