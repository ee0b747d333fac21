use Rattle.std.proofs.Common.{◌≡◌, ◌-◌, ◌<◌, ◌≤◌, Option, Some, None, slice_get, ◌∙◌, arith}
use Rattle.std.specs.Prelude.{IsNone, ◌↔◌}
use Rattle.std.proofs.lemmas.Option.{slice_get_within}
use Rattle.node_store.specs.Plain.{families, plain_state}
use Rattle.node_store.specs.PlainLaws.{some_is, some_at, length-families}
use Rattle.node_store.specs.Stores.{Knows}
use Rattle.node_store.specs.PlainOf.{state_of}
use Rattle.node_store.specs.declared.plain.PlainStore.{PlainStore}
use Rattle.node_store.specs.declared.store.Node.{Node}
use Rattle.node_store.specs.declared.store.Handle.{Handle}
use Rattle.node_store.proofs.plain.PlainStoreStore.node.Goals as goal

-- a known handle other than the constants has a slot
slot_there : (s : PlainStore) (h : Handle) (found : Option Node) → found ≡ slice_get s.nodes.keys (h.0 - 2) → 2 ≤ h.0
    → Knows (state_of s) h → IsNone found ↔ (h.0 < 2)
unfolding plain_state
slot_there s h (Some n) e big known = (λ none. cc, λ less. absurd (omega arith))
slot_there s h None e big known =
    let fits = slice_get_within (families s.vars s.nodes.keys) h.0 _ (some_is _ known) in
    let n = some_at s.nodes.keys (h.0 - 2) (omega (arith, length-families s.vars s.capacity s.plan.families s.refused s.nodes.keys)) in
    cc n.1

pub returns-clause-constant : goal.returns-clause-constant
returns-clause-constant c =
    slot_there c.args.self.now c.args.h c.copied.result (c.copied.ensures ∙ c.get_index.ensures.key) c.if-h-lt2.false c.requires
