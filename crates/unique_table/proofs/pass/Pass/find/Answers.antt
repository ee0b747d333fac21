use Rattle.std.proofs.Common.{arith}
use Rattle.unique_table.specs.Walks.{Walked}
use Rattle.unique_table.proofs.Calls.{first_passed, of_found, of_none}
use Rattle.unique_table.proofs.pass.Pass.find.Goals as goal
use Rattle.unique_table.proofs.pass.Pass.find.Goals.{Else-is_some}

passed : (c : Else-is_some) → Walked c.args.self.now c.args.word 1 c.visit-first.new.self
passed c =
    first_passed c.args.self.now c.args.word c.visit-first.new.self c.visit-first.ensures.same
    (λ new. grind (arith, c.visit-first.ensures.vacant new)) (grind (arith, c.visit-first.ensures.none))

pub find_further-requires-clause-first : goal.find_further-requires-clause-first
find_further-requires-clause-first c = (c.args.self.now, passed (goal.at.find_further-requires-clause-first c).Else-is_some)

pub returns-clause-some : goal.returns-clause-some
returns-clause-some c =
    let at = passed (goal.at.returns-clause-some c).Else-is_some in
    of_found c.args.self.now c.visit-first.new.self c.find_further.new.self c.args.word at c.find_further.result
    c.find_further.ensures.some

pub returns-clause-none : goal.returns-clause-none
returns-clause-none c =
    let at = passed (goal.at.returns-clause-none c).Else-is_some in
    of_none c.args.self.now c.visit-first.new.self c.find_further.new.self c.args.word at c.find_further.result
    c.find_further.ensures.none
