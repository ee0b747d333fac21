use Rattle.std.proofs.Common.{◌≡◌, ◌≤◌}
use Rattle.gen_pla.specs.Generated.{pairs}
use Rattle.gen_pla.proofs.pairs.Given as goal

abbrev pub invariant-loop-i : goal.invariant-loop-i
invariant-loop-i l = record { few : l.pairs ≤ l.i; counted : l.pairs ≡ pairs l.value l.i }
