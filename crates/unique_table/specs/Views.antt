-- What contracts see of a seat of the shared table: a store.
use Rattle.std.specs.Prelude.{ℕ, suc, ◌^◌, ◌==◌, Option, Some, List, ◌∷◌}
use Rattle.std.specs.Map.{lookup}
use Rattle.atomic_table.specs.Seated.{TableId}
use Rattle.lattice.specs.Family.{Family}
use Rattle.lattice.specs.History.{refusals_of}
use Rattle.node_store.specs.Stores.{State}
use Rattle.unique_table.specs.declared.view.View.{View}
use Rattle.unique_table.specs.declared.view.About.{About}
use Rattle.unique_table.specs.declared.view.Terms.{Terms}

-- the terms of the table
abbrev pub terms_of : About → Terms
terms_of about = record { bits = about.bits; vars = about.vars; plan = about.plan.families }

-- the family of a handle, by pairs of handles with their families
abbrev pub known_by : List (ℕ × Family) → ℕ → Option Family
known_by pairs h = lookup (λ k. k == h) pairs

-- the name of a table
abbrev pub name_of : TableId → List ℕ
name_of z = z.words ∷ z.slots ∷ z.views_name ∷ z.atom ∷ z.block ∷ z.offset ∷ z.slot_names

-- what a seat did that its history does not tell: the place and the word of the cache word that it loaded last, and of the one
-- that it stored last, how many it loaded, how many it stored, and how many splits it came out of, as the one or as the other seat.
-- A seat that is split off another goes on from what that one did
pub record Steps : Type 0 where
  pub last : Option (ℕ × ℕ)
  pub put : Option (ℕ × ℕ)
  pub loads : ℕ
  pub stores : ℕ
  pub splits : ℕ

-- that of a view
abbrev pub steps_of : View → Steps
steps_of v = record { last = v.last; put = v.put; loads = v.loads; stores = v.stores; splits = v.splits }

-- one cache word was loaded
abbrev pub after_load : Steps → ℕ → ℕ → Steps
after_load s place w = record s { last = Some (place, w); loads = suc s.loads }

-- one cache word was stored
abbrev pub after_store : Steps → ℕ → ℕ → Steps
after_store s place w = record s { put = Some (place, w); stores = suc s.stores }

-- it was split in two
abbrev pub after_split : Steps → Steps
after_split s = record s { splits = suc s.splits }

-- a seat's view, as a store on the table of this name
unfoldable pub view_state : List ℕ → View → State
view_state name v = record {
  known = known_by v.known;
  held = v.held;
  plan = v.terms.plan;
  vars = v.terms.vars;
  capacity = 2 ^ v.terms.bits;
  refusals = refusals_of v.history;
  table = Some name;
  history = v.history;
}
