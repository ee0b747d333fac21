-- The rule of the shared table, in the words of a sound table. The functions of src/laws.rt have these laws as their contracts.
use Rattle.std.specs.Prelude.{◌≡◌, ◌^◌, ℕ, true, List, drop, map, take}
use mathlib.Core.Option.{some}
use lib.ListN.{get_elem?}
use Rattle.atomic_table.specs.Table.{State}
use Rattle.lattice.specs.Family.{Family}
use Rattle.lattice.specs.SoundTables.{IsSoundOn, IsSoundTable}
use Rattle.unique_table.specs.declared.view.About.{About}
use Rattle.unique_table.specs.declared.view.View.{View}
use Rattle.unique_table.specs.Rule.{Rule}

-- the node words, which come first, and the cache words behind them
abbrev pub node_words : About → List ℕ → List ℕ
node_words about words = take (2 ^ about.bits) words

abbrev pub cache_words : About → List ℕ → List ℕ
cache_words about words = drop (2 ^ about.bits) words

-- Between any two steps the node words are a sound table with the cache words.
abbrev pub RuleIsSound : Type 0
RuleIsSound = (about : About) (s : State (Unit {0}) View) → Rule about s
    → IsSoundTable about.bits about.vars (node_words about s.words) (cache_words about s.words)

-- What a live seat met, and the handles that it knows, are sound on it.
abbrev pub SeatsAreSound : Type 0
SeatsAreSound = (about : About) (s : State (Unit {0}) View) → Rule about s → (id : ℕ) (v : View) → get_elem? s.views id ≡ some v
    → v.live ≡ true
    → IsSoundOn about.bits about.vars (node_words about s.words) v.history (map (λ (p : ℕ × Family). p.0) v.known)
