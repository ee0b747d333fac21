use Rattle.std.proofs.Common.{◌∙◌, sym}
use Rattle.batch_pipe.proofs.Stops.{is_long, is_usage, met, met_end, refuses}
use Rattle.batch_pipe.proofs.top.batch.Goals as goal

pub returns-clause-headline : goal.returns-clause-headline
returns-clause-headline g c = λ job bytes due asked told is calm quiet.
    let w = c.write_blocks-outcome.ensures in
    rw c.report.ensures.status (met c.one_is_due.ensures.lawful job bytes asked told calm quiet w.ends w.read w.write w.long due is)

pub returns-clause-answered : goal.returns-clause-answered
returns-clause-answered g c = λ job bytes asked told few calm quiet.
    let w = c.write_blocks-outcome.ensures in
    rw c.report.ensures.status (met_end c.one_is_due.ensures.lawful job bytes asked told calm quiet w.ends w.read w.write w.long few)

pub returns-clause-usage : goal.returns-clause-usage
returns-clause-usage g c = λ two. (is_usage c.write_blocks-outcome.ensures.ends (sym c.report.ensures.status ∙ two)).1

pub returns-clause-refused : goal.returns-clause-refused
returns-clause-refused g c = λ is.
    rw c.report.ensures.status (refuses c.one_is_due.ensures.lawful c.write_blocks-outcome.ensures.ends is)

pub returns-clause-untouched : goal.returns-clause-untouched
returns-clause-untouched g c = λ two.
    let w = c.write_blocks-outcome.ensures in let u = is_usage w.ends (sym c.report.ensures.status ∙ two) in (u.2, w.untouched u.0)

pub returns-clause-long : goal.returns-clause-long
returns-clause-long g c = λ ten.
    let w = c.write_blocks-outcome.ensures in w.long (is_long w.ends (sym c.report.ensures.status ∙ ten))
