use Rattle.std.proofs.Common.{◌∙◌}
use Rattle.node_store.specs.PlainOf.{state_of, key_of}
use Rattle.node_store.proofs.PlainLemmas.{kept_found}
use Rattle.node_store.proofs.plain.PlainStoreStore.look.Goals as goal

pub returns-clause-result : goal.returns-clause-result
returns-clause-result c =
    let s = c.args.self.now in
    kept_found (state_of s) s.kept.entries (key_of c.args.op c.args.a c.args.b) c.copied.result s.results (c.copied.ensures
    ∙ c.get.ensures.value)
