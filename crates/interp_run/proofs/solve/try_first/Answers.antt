use Rattle.std.proofs.Common.{arith}
use Rattle.interp_run.proofs.solve.try_first.Goals as goal

pub find_first-requires-clause-slots : goal.find_first-requires-clause-slots
find_first-requires-clause-slots g c κs within =
    rw (c.new-pass.ensures.state, c.pass.ensures.state, c.in_ok-table.ensures.state) (omega arith)

pub find_first-requires-clause-vars : goal.find_first-requires-clause-vars
find_first-requires-clause-vars g c κs within = rw (c.new-pass.ensures.state, c.pass.ensures.state, c.in_ok-table.ensures.state)

pub find_first-requires-clause-planned : goal.find_first-requires-clause-planned
find_first-requires-clause-planned g c κs within =
    rw (c.new-pass.ensures.state, c.pass.ensures.state, c.in_ok-table.ensures.state, c.first_plan-plan.ensures) (λ f h. h)
