use Rattle.std.proofs.Common.{◌≡◌, ℕ, ◌+◌, ◌<◌, ◌≤◌, get_or}
use Rattle.cert_check.proofs.counts.add_each.Given as goal

abbrev pub invariant-loop-i : goal.invariant-loop-i
invariant-loop-i l = record {
  done : (k : ℕ) → k < l.i → get_or l.numbers k 0 ≡ get_or l.fn.numbers k 0 + get_or l.others k 0;
  left : (k : ℕ) → l.i ≤ k → get_or l.numbers k 0 ≡ get_or l.fn.numbers k 0;
}
