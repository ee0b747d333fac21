use Rattle.std.proofs.Common.{arith, ℕ, ◌+◌, ◌^◌, ◌==◌}
use Rattle.lattice.specs.NodeWords.{place}
use Rattle.unique_table.specs.Told.{Passes}
use Rattle.unique_table.proofs.Calls.{walked_more, next_of, still_asked, found_further, all_passed}
use Rattle.unique_table.proofs.pass.Pass.find_further.Goals as goal

pub visit-slot-requires-clause-next : goal.visit-slot-requires-clause-next
visit-slot-requires-clause-next c = let first = c.requires.first in
    next_of first.0 c.args.word c.loop-steps.steps c.loop-steps.self (c.loop-steps.invariant.2 first.0 first.1) (grind arith)

pub loop-steps-preserved : goal.loop-steps-preserved
loop-steps-preserved c =
    let q = c.loop-steps.self in let same = c.visit-slot.ensures.same in let last = c.loop-steps.steps + 1 == 2 ^ q.bits in
    let passes : (other : ℕ) × Passes q.seat.me.0 last (place q.bits c.args.word c.loop-steps.steps) other c.args.word
    (c.visit-slot.new.self).seat.me.0 = grind (arith, c.visit-slot.ensures.none) in (
      grind (arith, c.loop-steps.invariant.0, same),
      still_asked _ _ _ _ passes.1.meets.goes c.loop-steps.invariant.1,
      λ p began. walked_more p c.args.word c.loop-steps.steps q (c.loop-steps.invariant.2 p began)
          (grind (arith, (c.loop-steps.invariant.2 p began).same)) c.visit-slot.new.self same
          (λ new. grind (arith, c.visit-slot.ensures.vacant new)) passes,
    )

pub returns-then-is_some-clause-some : goal.returns-then-is_some-clause-some
returns-then-is_some-clause-some c =
    found_further c.args.self.now c.loop-steps.self c.visit-slot.new.self c.args.word c.loop-steps.steps c.loop-steps.invariant.2
    (grind arith) c.visit-slot.ensures.same c.visit-slot.result c.visit-slot.ensures.some

pub returns-clause-none : goal.returns-clause-none
returns-clause-none c p began =
    let walked = c.loop-steps.invariant.2 p began in
    all_passed p c.args.word c.loop-steps.steps c.loop-steps.self walked (grind (arith, walked.same, c.loop-steps.invariant.0))
