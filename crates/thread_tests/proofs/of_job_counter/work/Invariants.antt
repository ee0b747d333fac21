use Rattle.std.proofs.Common.{◌≡◌, length}
use Rattle.job_counter.specs.Drawing.{drawing, IsOf}
use Rattle.thread_tests.proofs.of_job_counter.work.Given as goal

abbrev pub invariant-loop-turn : goal.invariant-loop-turn
invariant-loop-turn l = record {
  of : IsOf l.drawer l.fn.counter;
  parts : (drawing l.drawer).parts ≡ (drawing l.fn.drawer).parts;
  drawn : length (drawing l.drawer).drawn ≡ l._turn;
}
