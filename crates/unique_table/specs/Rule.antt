-- The rule of the shared table: what holds between any two steps, and the views that making, splitting and joining give.
use Rattle.std.specs.Prelude.{◌≡◌, ℕ, suc, ◌+◌, ◌^◌, ◌<◌, ◌≤◌, true, false, cond, Some, None, List, [], ◌∷◌, ◌++◌}
use Rattle.std.specs.List.{All, Contains}
use Rattle.atomic_table.specs.Table.{State}
use Rattle.lattice.specs.Family.{Family, Has, Covers, includes, is_distinct}
use Rattle.lattice.specs.Cofactors.{sub}
use Rattle.lattice.specs.Tables.{IsFilled, IsCanonical, DenotesIn, IsStored}
use Rattle.lattice.specs.History.{FitsHistory}
use Rattle.lattice.specs.declared.limits.TheConstants.{MAX_VARS, MIN_BITS, MAX_BITS}
use Rattle.node_store.specs.Stores.{IsSound}
use Rattle.unique_table.specs.declared.view.View.{View}
use Rattle.unique_table.specs.declared.view.About.{About}
use Rattle.unique_table.specs.declared.view.Terms.{Terms}
use Rattle.lattice.specs.NodeWords.{cache_bits}
use Rattle.lattice.specs.CacheWords.{IsVacantOrTrue}
use Rattle.unique_table.specs.ByViews.{ByViews}
use Rattle.unique_table.specs.TwoParts.{IsBoth, FitsNodes}
use Rattle.unique_table.specs.Views.{terms_of, known_by, view_state}

-- ---- the rule

-- the table is canonical, and each filled slot denotes a family of the one plan
pub record IsTable (t : Terms) (ws : List ℕ) : Type 0 where
  pub canonical : IsCanonical t.bits t.vars ws
  pub planned : (s : ℕ) → IsFilled ws s → (f : Family) × DenotesIn t.vars ws (suc (suc s)) f × Has t.plan f
  pub vars_low : 1 ≤ t.vars
  pub vars_high : t.vars ≤ MAX_VARS
  pub bits_low : MIN_BITS ≤ t.bits
  pub bits_high : t.bits ≤ MAX_BITS

-- what is known of a handle is what it denotes
abbrev pub IsPair : ℕ → List ℕ → ℕ × Family → Type 0
IsPair vars ws p = DenotesIn vars ws p.0 p.1

-- what a live seat knows, holds and met fits the table
pub record LiveFits (t : Terms) (ws : List ℕ) (v : View) : Type 0 where
  pub of : v.terms ≡ t
  pub empty : known_by v.known 0 ≡ Some []
  pub unit : known_by v.known 1 ≡ Some (0 ∷ [])
  pub known : All (IsPair t.vars ws) v.known
  pub subs : (h : ℕ) (f : Family) → known_by v.known h ≡ Some f → Covers v.held (sub t.vars f)
  pub held : All (IsStored t.vars ws) v.held
  pub apart : is_distinct v.held ≡ true
  pub history : FitsHistory (2 ^ t.bits) ws v.history

-- a spent seat owes nothing
abbrev pub Fits : Terms → List ℕ → View → Type 0
Fits t ws v = v.live ≡ true → LiveFits t ws v

-- the node words with the cache words behind them
abbrev pub IsWhole : About → List ℕ → Type 0
IsWhole about =
    IsBoth (2 ^ about.bits) (2 ^ cache_bits about.bits) (IsTable (terms_of about)) (IsVacantOrTrue (cache_bits about.bits) about.vars)

-- a view by itself
abbrev pub FitsWhole : About → List ℕ → View → Type 0
FitsWhole about = FitsNodes (2 ^ about.bits) (Fits (terms_of about))

-- no seat was split off, no cache word was stored and no slot was met: so nothing was done to the table
pub record IsNew (v : View) : Type 0 where
  pub whole : v.splits ≡ 0
  pub kept : v.stores ≡ 0
  pub met : v.history ≡ []

-- the table, each view by itself, and a seat that is new: it is the only one, and all words are vacant
abbrev pub Rule : About → State (Unit {0}) View → Type 0
Rule about = ByViews (IsWhole about) (FitsWhole about) IsNew

-- ---- views

-- the first view knows the two constants, and did nothing
abbrev pub first_view : About → View
first_view about = record {
  live = true;
  terms = terms_of about;
  known = (0, []) ∷ (1, 0 ∷ []) ∷ [];
  held = [];
  history = [];
  last = None;
  put = None;
  loads = 0;
  stores = 0;
  splits = 0;
}

-- a seat after one was split off it
abbrev pub split_view : View → View
split_view v = record v { splits = suc v.splits }

-- a second seat knows what the first one knows, and has no history yet
abbrev pub second_view : View → View
second_view v = record v { history = []; splits = suc v.splits }

-- the held families with those of another list
abbrev pub with_family : List Family → Family → List Family
with_family held f = cond (includes held f) held (f ∷ held)

abbrev pub merged : List Family → List Family → List Family
merged held [] = held
merged held (f ∷ fs) = merged (with_family held f) fs

abbrev pub joined_view : View → View → View
joined_view v w = record v { known = v.known ++ w.known; held = merged v.held w.held; history = v.history ++ w.history }

abbrev pub no_view : View
no_view = record {
  live = false;
  terms = record { bits = 0; vars = 0; plan = [] };
  known = [];
  held = [];
  history = [];
  last = None;
  put = None;
  loads = 0;
  stores = 0;
  splits = 1;
}

-- the seat is a store, each handle that it knows is one of a table of this size, and each pair is what it knows
pub record IsSoundView (v : View) : Type 0 where
  pub live : v.live ≡ true
  pub bits_high : v.terms.bits ≤ MAX_BITS
  pub store : (name : List ℕ) → IsSound (view_state name v)
  pub small : (h : ℕ) (f : Family) → known_by v.known h ≡ Some f → h < 2 ^ v.terms.bits + 2
  pub pairs : (h : ℕ) (f : Family) → Contains v.known (h, f) → known_by v.known h ≡ Some f
