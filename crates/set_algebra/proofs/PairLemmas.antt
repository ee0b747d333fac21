-- The operands of a pointwise operation, what of it is kept, and its parts.
use Rattle.std.proofs.Common.{◌≡◌, true, arith}
use Rattle.lattice.specs.Words.{combine, includes, Family, sub, answer, test_of, is_pointwise}
use Rattle.lattice.specs.declared.op.Op.{Op}
use Rattle.lattice.proofs.Diagrams.{includes-needs, answer-pointwise, takes_family-pointwise, takes_variable-pointwise}
use Rattle.node_store.specs.Stores.{State, Knows, family, second, needs_of, AreOperands}
use Rattle.node_store.specs.declared.store.Handle.{Handle}

-- what a kept result says
pub answer_is : (op : Op) (s : State) (a b : Handle) → is_pointwise op ≡ true
    → answer op s.vars (family s a) (second s op b.0) b.0 ≡ combine (test_of op) s.vars (family s a) (family s b)
answer_is op s a b is = grind (arith, answer-pointwise, takes_family-pointwise)

-- what is kept
pub operands : (op : Op) (s : State) (a b : Handle) → is_pointwise op ≡ true → Knows s a → Knows s b → AreOperands s op a b.0
operands op s a b is ka kb = grind (arith, takes_variable-pointwise, takes_family-pointwise)

-- the working set is what the result's subfamilies are
pub includes_is : (op : Op) (s : State) (a b : Handle) (k : Family) → is_pointwise op ≡ true
    → includes (needs_of s op a b.0) k ≡ includes (sub s.vars (combine (test_of op) s.vars (family s a) (family s b))) k
includes_is op s a b k is = grind (arith, includes-needs, takes_family-pointwise)
