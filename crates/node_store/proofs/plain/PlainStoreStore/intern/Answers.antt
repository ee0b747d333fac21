use Rattle.std.proofs.Common.{◌≡◌, ◌+◌, ◌++◌, ◌∷◌, [], slice_get, Some, is_some, sym, ap, ◌∙◌, refl, arith, rules, length}
use Rattle.std.proofs.lemmas.List.{length-append}
use Rattle.std.proofs.lemmas.Grind.{common_steps}
use Rattle.node_store.specs.PlainOf.{state_of}
use Rattle.node_store.specs.Stores.{node_family}
use Rattle.node_store.specs.Plain.{plain_state}
use Rattle.node_store.specs.PlainLaws.{get_last, plain_sound}
use Rattle.node_store.proofs.StoreLaws.{Builds-known, Builds-grown}
use Rattle.node_store.proofs.PlainLemmas.{same_node, found_at, there, not_there, sound, over, push_grows, push_new, push_table}
use Rattle.node_store.proofs.PlainLemmas.{refused_grows, refused_gives, refused_table, results_later}
use Rattle.node_store.proofs.plain.PlainStoreStore.intern.Goals as goal
use Rattle.node_store.proofs.plain.PlainStoreStore.intern.Goals.{After-insert}

-- the node was found

pub returns-in-Some : goal.returns-in-Some
returns-in-Some c =
    let s = c.args.self.now in let n = c.args.n.now in let place = c.in-Some.place in
    let at = found_at n s.nodes.keys place c.in-Some.ensures.index in let has = there s.nodes.keys n place at in
    let built = Builds-known (state_of s) (record { 0 = place + 2 }) (node_family (state_of s) n) (sound s) (s.table.here place n at) in
    search (rules, arith)

-- no slot was left

pub invariant_of-self-clause-table : goal.invariant_of-self-clause-table
invariant_of-self-clause-table c = refused_table c.args.self.now c.saturating_add-self.result (omega (arith, c.args.self.now.counted))

pub invariant_of-self-clause-results : goal.invariant_of-self-clause-results
invariant_of-self-clause-results c =
    let s = c.args.self.now in
    results_later (state_of s) (plain_state s.vars s.capacity s.plan.families c.saturating_add-self.result s.nodes.keys) s.kept.entries
    (refused_grows s c.saturating_add-self.result (omega (arith, s.counted))) s.results

pub returns-then-slot-self : goal.returns-then-slot-self
unfolding plain_state
returns-then-slot-self c = grind (arith, same_node, is_some, over, refused_gives, not_there)

-- the node is put in the slot after the last one

new_keys : (c : After-insert) → c.insert.new.self.keys ≡ c.args.self.now.nodes.keys ++ c.args.n.now ∷ []
new_keys c = grind (arith, common_steps, c.insert.ensures.succeeds, c.insert.ensures.keys, c.get_index_of.ensures.found, c.in_default.is)

pub invariant_of-self-2-clause-table : goal.invariant_of-self-2-clause-table
invariant_of-self-2-clause-table c = grind (arith, new_keys, push_table, is_some)

pub invariant_of-self-2-clause-room : goal.invariant_of-self-2-clause-room
invariant_of-self-2-clause-room c = grind (arith, new_keys, length-append)

pub invariant_of-self-2-clause-spare : goal.invariant_of-self-2-clause-spare
invariant_of-self-2-clause-spare c = grind (arith, new_keys, length-append)

pub invariant_of-self-2-clause-results : goal.invariant_of-self-2-clause-results
invariant_of-self-2-clause-results c = search (rules, arith, new_keys, results_later, push_grows)

pub returns : goal.returns
unfolding plain_state
returns c =
    let s = c.args.self.now in let n = c.args.n.now in let new = c.insert.new.self in let given = c.self-2-1.given in
    let keys = new_keys (goal.at.returns c).After-insert in let at = c.len-slot.ensures.len in
    let out = not_there n s.nodes.keys (sym c.get_index_of.ensures.found ∙ ap is_some c.in_default.is) in
    let last : slice_get new.keys (length s.nodes.keys) ≡ Some n = rw keys (get_last s.nodes.keys n) in
    let built = Builds-grown (state_of s) (plain_state s.vars s.capacity s.plan.families s.refused new.keys)
    (record { 0 = c.len-slot.result + 2 }) (node_family (state_of s) n)
    (plain_sound s.vars s.capacity s.plan.families s.refused new.keys given.0 s.sizes.0 s.sizes.1 given.1.1.1.0 s.counted)
    (rw keys (push_grows s n)) refl (rw (keys, at) (push_new s n)) in
    search (rules, arith, out, keys)
