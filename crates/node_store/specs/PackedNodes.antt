-- Nodes that have a word.
use Rattle.std.specs.Prelude.{◌≡◌, ◌≢◌, ℕ, ◌<◌, ◌≤◌}
use Rattle.lattice.specs.NodeWords.{node_word}
use Rattle.lattice.specs.declared.limits.TheConstants.{MAX_VARS, HANDLE_UNIT}
use Rattle.node_store.specs.declared.store.Node.{Node}

-- the variable is one of the possible ones, and both handles have room in a word
pub record IsPackable (n : Node) : Type 0 where
  pub first : 1 ≤ n.var
  pub last : n.var ≤ MAX_VARS
  pub lo_small : n.lo.0 < HANDLE_UNIT
  pub hi_small : n.hi.0 < HANDLE_UNIT

-- the node has this word, and its high child is not Handle(0)
pub record IsPacked (word : ℕ) (n : Node) : Type 0 where
  pub packable : IsPackable n
  pub full : n.hi.0 ≢ 0
  pub word_is : node_word n.var n.lo.0 n.hi.0 ≡ word
