use Rattle.std.proofs.Common.{◌∙◌, append_assoc, refl}
use Rattle.program.proofs.outcome.Outcome.message.Goals as goal

pub returns-in-Exhausted : goal.returns-in-Exhausted
returns-in-Exhausted g c = rw c.in-Exhausted.is (c.count_message.ensures ∙ simp append_assoc refl)
