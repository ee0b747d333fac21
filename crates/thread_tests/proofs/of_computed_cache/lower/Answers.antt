use Rattle.node_store.proofs.StoreLaws.{any_power, Grows-trans}
use Rattle.thread_tests.proofs.of_computed_cache.lower.Goals as goal

pub power-requires : goal.power-requires
power-requires g c = record { planned = any_power 3 (g.S.Store.state c.args.store.now) c.requires }

pub returns-in_err-quarter-clause-grows : goal.returns-in_err-quarter-clause-grows
returns-in_err-quarter-clause-grows g c = Grows-trans _ _ _ (Grows-trans _ _ _ c.power.ensures.grows c.node.ensures.reads.grows)
    c.node-2.ensures.reads.grows

pub returns-clause-grows : goal.returns-clause-grows
returns-clause-grows g c = Grows-trans _ _ _ (Grows-trans _ _ _ c.power.ensures.grows c.node.ensures.reads.grows)
    c.node-2.ensures.reads.grows
