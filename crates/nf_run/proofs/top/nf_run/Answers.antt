use Rattle.std.proofs.Common.{rules}
use Rattle.nf_run.proofs.Endings.{ran_from}
use Rattle.nf_run.proofs.top.nf_run.Goals as goal

pub returns-clause-ran : goal.returns-clause-ran
returns-clause-ran g c = let ran = c.run.ensures.ran in (ran.0, ran.1, ran_from (search rules) ran.2, ran.3)

pub returns-clause-usage : goal.returns-clause-usage
returns-clause-usage g c = (c.run.ensures.usage, λ none. c.run.ensures.refused none (λ more. more))
