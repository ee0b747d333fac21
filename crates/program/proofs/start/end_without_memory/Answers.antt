use Rattle.program.proofs.start.end_without_memory.Goals as goal

pub returns-clause-line : goal.returns-clause-line
returns-clause-line g c = rw (← c.name.ensures.name) c.report.ensures.line
