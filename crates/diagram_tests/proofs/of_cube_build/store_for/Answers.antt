use Rattle.std.proofs.Common.{◌≡◌, ◌^◌, IfOk, subst}
use Rattle.node_store.specs.PlainOf.{state_of}
use Rattle.diagram_tests.proofs.StoresForTests.{made_vars, made_plan}
use Rattle.diagram_tests.proofs.of_cube_build.store_for.Goals as goal

pub returns-clause-vars : goal.returns-clause-vars
returns-clause-vars g c = made_vars c.make.result c.args.vars (2 ^ c.args.bits) c.plan_of.result.families c.make.ensures.state

pub returns-clause-plan : goal.returns-clause-plan
returns-clause-plan g c =
    subst (λ fs. IfOk c.make.result (λ s. (state_of s).plan ≡ fs)) c.plan_of.ensures
    (made_plan c.make.result c.args.vars (2 ^ c.args.bits) c.plan_of.result.families c.make.ensures.state)
