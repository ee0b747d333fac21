use Rattle.std.proofs.Common.{◌≡◌, drop}
use Rattle.probe_core.specs.Seats.{united}
use Rattle.probe_core.proofs.seat.unite.Given as goal

-- the rest of the list leads to the whole union
abbrev pub invariant-loop-h : goal.invariant-loop-h
invariant-loop-h l = united l.known.items (drop l.h-index l.others) ≡ united l.fn.known.items l.fn.others
