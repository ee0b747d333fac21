use Rattle.std.proofs.Common.{◌≡◌, take}
use Rattle.job_counter.specs.Numbers.{times}
use Rattle.fork_branches.specs.Work.{numbers_of}
use Rattle.fork_branches.proofs.shares.has.Given as goal

abbrev pub invariant-loop-answer : goal.invariant-loop-answer
invariant-loop-answer l = times l.number (numbers_of (take l.answer-index l.answers)) ≡ 0
