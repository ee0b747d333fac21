use Rattle.std.proofs.Common.{◌≡◌, ◌++◌, ◌∷◌, [], ap, arith, length, None, inl, inr}
use Rattle.std.proofs.lemmas.List.{length-append}
use Rattle.std.proofs.lemmas.Grind.{common_steps}
use Rattle.indexmap.specs.IndexMap.{get}
use Rattle.indexmap.proofs.CallerLemmas.{insert_entry-new}
use Rattle.node_store.specs.declared.key.Key.{Key}
use Rattle.node_store.specs.declared.store.Handle.{Handle}
use Rattle.node_store.specs.Plain.{plain_state}
use Rattle.lattice.proofs.Diagrams.{get_cases}
use Rattle.node_store.specs.PlainOf.{key_of}
use Rattle.node_store.proofs.PlainLemmas.{same_key}
use Rattle.node_store.proofs.plain.PlainStoreStore.keep.Goals as goal
use Rattle.node_store.proofs.plain.PlainStoreStore.keep.Goals.{After-insert, else-len-self-via-then-len-self+else-is_none}
use Rattle.node_store.proofs.plain.PlainStoreStore.keep.Goals.{else-len-self-via-else-len-self}

-- a new key goes last, where there is room
new_entries : (c : After-insert)
    → c.insert.new.self.entries ≡ c.args.self.now.kept.entries ++ (key_of c.args.op c.args.a c.args.b, c.args.r) ∷ []
new_entries c =
    let s = c.args.self.now in let k : Key = key_of c.args.op c.args.a c.args.b in
    let none : get same_key s.kept k ≡ None = grind (arith, common_steps, c.get.ensures.value, c.is_none.ensures, c.if-is_none.true) in
    let new = insert_entry-new same_key s.kept k c.args.r none in
    grind (arith, common_steps, c.insert.ensures.succeeds, c.insert.ensures.entries, s.kept_spare, c.len.ensures.len, c.if-len-self.true)

pub invariant_of-self-clause-results : goal.invariant_of-self-clause-results
invariant_of-self-clause-results c = rw (new_entries (goal.at.invariant_of-self-clause-results c).After-insert) λ i e at.
    elim (get_cases c.args.self.now.kept.entries (key_of c.args.op c.args.a c.args.b, c.args.r) i e at) [
      | inl x ↦ c.args.self.now.results i e x
      | inr x ↦ rw (← x.1) c.requires
    ]

pub invariant_of-self-clause-kept_spare : goal.invariant_of-self-clause-kept_spare
invariant_of-self-clause-kept_spare c =
    let long = ap length (new_entries (goal.at.invariant_of-self-clause-kept_spare c).After-insert) in
    omega (arith, long, length-append {A = Key × Handle}, c.insert.ensures.spare, c.args.self.now.kept_spare)

pub returns-then-is_none : goal.returns-then-is_none
unfolding plain_state
returns-then-is_none c =
    let new = new_entries (goal.at.returns-then-is_none c).After-insert in grind (arith, common_steps, c.len.ensures.len)

pub returns-else-len-self-clause-new : goal.returns-else-len-self-clause-new
unfolding plain_state
returns-else-len-self-clause-new c few none = elim c.else-len-self.branch [
  | else-len-self-via-then-len-self+else-is_none w ↦ grind (arith, common_steps, w.get.ensures.value, w.is_none.ensures)
  | else-len-self-via-else-len-self w ↦ absurd (omega (arith, w.if-len-self.false))
]
