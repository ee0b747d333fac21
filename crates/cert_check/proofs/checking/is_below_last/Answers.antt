use Rattle.std.proofs.Common.{ltb, sym, ap₂, ◌∙◌}
use Rattle.cert_check.proofs.RightAnswers.{below_last_of, below_last_of_none}
use Rattle.cert_check.proofs.checking.is_below_last.Goals as goal

pub returns-in-empty : goal.returns-in-empty
returns-in-empty c = sym (below_last_of_none c.args.others.now c.args.m c.in-empty.len_below)

pub returns-in-len1-up : goal.returns-in-len1-up
returns-in-len1-up c = ap₂ ltb c.m.view_is c.last.view_is ∙ sym
    (below_last_of c.args.others.now c.args.m c.last-item.result c.in-len1-up.len_at_least c.last-item.is)
