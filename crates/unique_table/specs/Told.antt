-- What the steps of a pass tell of its view, and what its calls leave.
use Rattle.std.specs.Prelude.{◌≡◌, ◌≢◌, ℕ, suc, ◌+◌, ◌-◌, ◌^◌, ◌<◌, ◌≤◌, ◌⊎◌, Bool, true, cond, Some, None, List, [], ◌∷◌, ◌++◌, length}
use Rattle.std.specs.List.{Contains}
use Rattle.atomic_table.specs.Table.{Me}
use Rattle.lattice.specs.Family.{Family, IsFamily, Has, Covers, is_distinct}
use Rattle.lattice.specs.Cofactors.{join}
use Rattle.lattice.specs.NodeWords.{var_of, lo_of, hi_of, place}
use Rattle.lattice.specs.declared.entry.Entry.{Entry}
use Rattle.lattice.specs.declared.entry.Entry.TheVariants.{Met, Ask, Full}
use Rattle.unique_table.specs.declared.view.View.{View}
use Rattle.unique_table.specs.Views.{known_by, view_state, steps_of, after_load, after_store}
use Rattle.unique_table.specs.Kept.{IsKept}
use Rattle.unique_table.specs.Rule.{IsNew, IsSoundView}

-- ---- a view goes on

-- the new view knows and holds what the old one did, and its history goes on with `more`
pub record Goes (v : View) (more : List Entry) (u : View) : Type 0 where
  pub terms : u.terms ≡ v.terms
  pub known : (h : ℕ) (f : Family) → known_by v.known h ≡ Some f → known_by u.known h ≡ Some f
  pub held : Covers u.held v.held
  pub history : u.history ≡ v.history ++ more

-- the family of the word's node, by those of its children
abbrev pub family_at : View → ℕ → Family → Family → Family
family_at v w low high = join (v.terms.vars - var_of w) low high

-- these are the families of the word's children
abbrev pub AreChildren : View → ℕ → Family → Family → Type 0
AreChildren v w low high = (known_by v.known (lo_of w) ≡ Some low) × (known_by v.known (hi_of w) ≡ Some high)

-- the children of the word's node are known, for the parts of the family
pub record HasChildren (u : View) (w : ℕ) (f : Family) : Type 0 where
  pub low : Family
  pub high : Family
  pub known : AreChildren u w low high
  pub low_after : IsFamily (u.terms.vars - var_of w) low
  pub high_after : IsFamily (u.terms.vars - var_of w) high
  pub is : f ≡ family_at u w low high

-- the slot s with the word w teaches: from its handle the children, and from the children its handle
pub record Teaches (v : View) (s w : ℕ) (u : View) : Type 0 where
  pub first : 1 ≤ var_of w
  pub last : var_of w ≤ u.terms.vars
  pub full : hi_of w ≢ 0
  pub children : (f : Family) → known_by v.known (suc (suc s)) ≡ Some f → HasChildren u w f
  pub handle : (low high : Family) → AreChildren v w low high → known_by u.known (suc (suc s)) ≡ Some (family_at u w low high)

-- the step met a slot
pub record Meets (v : View) (more : List Entry) (s w : ℕ) (u : View) : Type 0 where
  pub sound : IsSoundView u
  pub goes : Goes v more u
  pub teaches : Teaches v s w u

-- ---- what is asked

-- a slot was met with another word
abbrev pub MetOther : List Entry → ℕ → ℕ → Type 0
MetOther es w s = (other : ℕ) × Contains es (Met (suc (suc s)) other) × (other ≢ w)

-- the word is that of a node over known children with later variables, and its family is in the plan
pub record IsAsked (v : View) (w : ℕ) : Type 0 where
  pub low : Family
  pub high : Family
  pub first : 1 ≤ var_of w
  pub last : var_of w ≤ v.terms.vars
  pub full : hi_of w ≢ 0
  pub known : AreChildren v w low high
  pub low_after : IsFamily (v.terms.vars - var_of w) low
  pub high_after : IsFamily (v.terms.vars - var_of w) high
  pub planned : Has v.terms.plan (family_at v w low high)

-- the place is the d-th of the word's path, and the places before it were met with other words
pub record IsNext (v : View) (w d at : ℕ) : Type 0 where
  pub within : d < 2 ^ v.terms.bits
  pub there : place v.terms.bits w d ≡ at
  pub others : (e : ℕ) → e < d → MetOther v.history w (place v.terms.bits w e)

-- at the last place of the path the word is asked for, and all places before it were met with other words
abbrev pub EndsPath : View → ℕ → ℕ → Bool → Type 0
EndsPath v w at last = last ≡ true → IsAsked v w × ((d : ℕ) × IsNext v w d at × (suc d ≡ 2 ^ v.terms.bits))

-- there are distinct families of the plan, as many as slots, and f is none of them
pub record IsCrowded (slots : ℕ) (plan : List Family) (f : Family) : Type 0 where
  pub stored : List Family
  pub all : length stored ≡ slots
  pub apart : is_distinct stored ≡ true
  pub planned : Covers plan stored
  pub other : ¬ Has stored f

-- no slot is left for the word's node
abbrev pub HasNoRoom : View → ℕ → Type 0
HasNoRoom v w = (low high : Family) → AreChildren v w low high → IsCrowded (2 ^ v.terms.bits) v.terms.plan (family_at v w low high)

-- ---- what a step tells

abbrev pub Sat : Type 0
Sat = Me (Unit {0}) View

-- what each step on a node word keeps
pub record Keeps (m m' : Sat) : Type 0 where
  pub bare : m'.1 ≡ m.1
  pub sound : IsSoundView m'.0
  pub terms : m'.0.terms ≡ m.0.terms
  pub steps : steps_of m'.0 ≡ steps_of m.0

-- the slot has the word asked for
pub record Stands (v : View) (s w : ℕ) (u : View) : Type 0 where
  pub some : w ≢ 0
  pub meets : Meets v (Met (suc (suc s)) w ∷ Ask (suc (suc s)) w ∷ []) s w u

-- what a slot with another word adds: at the last place of the path it shows besides that the table is full
abbrev pub passing : Bool → ℕ → ℕ → ℕ → List Entry
passing last h other asked = Met h other ∷ cond last (Full asked ∷ []) []

-- the slot has another word than the one asked for
pub record Passes (v : View) (last : Bool) (s other asked : ℕ) (u : View) : Type 0 where
  pub some : other ≢ 0
  pub differs : other ≢ asked
  pub meets : Meets v (passing last (suc (suc s)) other asked) s other u
  pub over : last ≡ true → HasNoRoom v asked

-- the slot was vacant, and nothing was learned
pub record IsVacant (v : View) (s found : ℕ) (u : View) : Type 0 where
  pub none : found ≡ 0
  pub same : u ≡ v
  pub unknown : known_by v.known (suc (suc s)) ≡ None

-- a load at the slot s finds no word, another one, or the one asked for. A seat that is new finds none
abbrev pub Probed : ℕ → Bool → ℕ → Sat → ℕ → Sat → Type 0
Probed asked last s m found m' =
    Keeps m m' × (IsNew m.0 → found ≡ 0) × (IsVacant m.0 s found m'.0 ⊎ (Passes m.0 last s found asked m'.0 ⊎ ((found ≡ asked) × Stands m.0 s asked m'.0)))

-- an exchange of the word into the slot s leaves it there where it found no word or the word itself, and else another one. A seat that
-- is new finds none
abbrev pub Exchanged : Bool → ℕ → ℕ → Sat → ℕ → Sat → Type 0
Exchanged last s w m found m' =
    Keeps m m' × (IsNew m.0 → found ≡ 0) × ((((found ≡ 0) ⊎ (found ≡ w)) × Stands m.0 s w m'.0) ⊎ Passes m.0 last s found w m'.0)

-- a load that changes nothing
abbrev pub Checked : Sat → Sat → Type 0
Checked m m' = Keeps m m' × (m'.0 ≡ m.0)

-- a load of a word of the table that is the cache word of a place: it is vacant, or tells a kept result
pub record Looked (at : ℕ) (m : Sat) (found : ℕ) (m' : Sat) : Type 0 where
  pub bare : m'.1 ≡ m.1
  pub sound : IsSoundView m'.0
  pub terms : m'.0.terms ≡ m.0.terms
  pub goes : Goes m.0 [] m'.0
  pub steps : (place : ℕ) → at ≡ 2 ^ m.0.terms.bits + place → steps_of m'.0 ≡ after_load (steps_of m.0) place found
  pub vacant : IsNew m.0 → found ≡ 0
  pub word : (name : List ℕ) (place : ℕ) → at ≡ 2 ^ m.0.terms.bits + place
      → (found ≡ 0) ⊎ IsKept (view_state name m.0) (view_state name m'.0) m.0.terms.bits place found

-- a store of it
pub record Stored (at : ℕ) (m : Sat) (w : ℕ) (m' : Sat) : Type 0 where
  pub bare : m'.1 ≡ m.1
  pub sound : IsSoundView m'.0
  pub terms : m'.0.terms ≡ m.0.terms
  pub same : (name : List ℕ) → view_state name m'.0 ≡ view_state name m.0
  pub steps : (place : ℕ) → at ≡ 2 ^ m.0.terms.bits + place → steps_of m'.0 ≡ after_store (steps_of m.0) place w

-- ---- what a call leaves

-- from the d-th place on, each slot of the word's path was met once, with another word
abbrev pub PassesBy : ℕ → ℕ → ℕ → List Entry → Type 0
PassesBy bits w d [] = Unit {0}
PassesBy bits w d (Met h other ∷ es) = (h ≡ suc (suc (place bits w d))) × (other ≢ w) × PassesBy bits w (suc d) es
PassesBy bits w d (Ask h x ∷ es) = ⊥
PassesBy bits w d (Full x ∷ es) = ⊥

-- the word was found after the slots before it on its path
pub record Interned (v : View) (w s : ℕ) (u : View) : Type 0 where
  pub sound : IsSoundView u
  pub before : List Entry
  pub few : length before < 2 ^ v.terms.bits
  pub others : PassesBy v.terms.bits w 0 before
  pub there : s ≡ place v.terms.bits w (length before)
  pub goes : Goes v (before ++ Met (suc (suc s)) w ∷ Ask (suc (suc s)) w ∷ []) u
  pub handle : (low high : Family) → AreChildren v w low high → known_by u.known (suc (suc s)) ≡ Some (family_at v w low high)

-- each slot of the path has another word, so the table is full
pub record AllOthers (v : View) (w : ℕ) (u : View) : Type 0 where
  pub sound : IsSoundView u
  pub before : List Entry
  pub all : length before ≡ 2 ^ v.terms.bits
  pub others : PassesBy v.terms.bits w 0 before
  pub goes : Goes v (before ++ Full w ∷ []) u
  pub over : HasNoRoom v w
