use Rattle.std.proofs.Common.{arith}
use Rattle.std.proofs.lemmas.Grind.{common_steps}
use Rattle.pla_reader.proofs.Whole.{answers_refusal, no_size, read_whole}
use Rattle.pla_reader.proofs.reading.read.Goals as goal

pub returns-in_err-draft-clause-reading : goal.returns-in_err-draft-clause-reading
returns-in_err-draft-clause-reading c =
    let refused = answers_refusal c.args.bytes.now c.in_err-draft.field-0.0 c.in_err-draft.ensures in grind (arith, common_steps)

pub returns-in_default-clause-reading : goal.returns-in_default-clause-reading
returns-in_default-clause-reading c =
    let none = no_size _ _ c.in_ok-draft.field-0.count c.in_ok-draft.field-0.taken c.in_ok-draft.ensures in grind arith

pub returns-clause-reading : goal.returns-clause-reading
returns-clause-reading c =
    let whole = read_whole _ _ c.in_ok-draft.field-0.count c.in_ok-draft.field-0.taken c.in_ok-draft.ensures in grind (arith, common_steps)
