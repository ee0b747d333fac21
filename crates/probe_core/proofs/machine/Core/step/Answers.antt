use Rattle.probe_core.proofs.EventLemmas.{stays_sound}
use Rattle.probe_core.proofs.machine.Core.step.Goals as goal

pub returns-in-Load-clause-sound : goal.returns-in-Load-clause-sound
returns-in-Load-clause-sound c = stays_sound _ _ _ _ _ c.in-Load.is tt c.requires c.load.ensures.after c.load.ensures.memory

pub returns-in-Exchange-clause-sound : goal.returns-in-Exchange-clause-sound
returns-in-Exchange-clause-sound c = stays_sound _ _ _ _ _ c.in-Exchange.is c.exchange.ensures.inside c.requires
    c.exchange.ensures.after c.exchange.ensures.memory

pub returns-in-Split-clause-sound : goal.returns-in-Split-clause-sound
returns-in-Split-clause-sound c = stays_sound _ _ _ _ _ c.in-Split.is tt c.requires c.split.ensures.after c.split.ensures.memory

pub returns-in-Join-clause-sound : goal.returns-in-Join-clause-sound
returns-in-Join-clause-sound c = stays_sound _ _ _ _ _ c.in-Join.is tt c.requires c.join.ensures.after c.join.ensures.memory

pub returns-in-CacheLoad-clause-sound : goal.returns-in-CacheLoad-clause-sound
returns-in-CacheLoad-clause-sound c = stays_sound _ _ _ _ _ c.in-CacheLoad.is tt c.requires c.cache_load.ensures.after
    c.cache_load.ensures.memory

pub returns-in-CacheStore-clause-sound : goal.returns-in-CacheStore-clause-sound
returns-in-CacheStore-clause-sound c = stays_sound _ _ _ _ _ c.in-CacheStore.is tt c.requires c.cache_store.ensures.after
    c.cache_store.ensures.memory
