-- A word with a variable and a high child is that of a node.
use Rattle.std.proofs.Common.{◌≢◌, ℕ, ◌≤◌, arith}
use Rattle.lattice.specs.Words.{var_of, lo_of, hi_of}
use Rattle.lattice.specs.declared.limits.TheConstants.{MAX_VARS}
use Rattle.node_store.specs.declared.store.Node.{Node}
use Rattle.node_store.specs.PackedNodes.{IsPacked}
use Rattle.probe_core.specs.Seats.{handle}

-- the node of a word
abbrev pub node_of : ℕ → Node
node_of w = record { var = var_of w; lo = handle (lo_of w); hi = handle (hi_of w) }

-- a word with a variable and a high child is that of its node
pub packed : (w : ℕ) → 1 ≤ var_of w → var_of w ≤ MAX_VARS → hi_of w ≢ 0 → IsPacked w (node_of w)
packed w first last full = record {
  packable = record { first = first; last = last; lo_small = omega arith; hi_small = omega arith };
  full = full;
  word_is = omega arith;
}
