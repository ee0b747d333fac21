use Rattle.std.proofs.Common.{sym, ◌∙◌}
use Rattle.pla_reader.specs.Reading.{description}
use Rattle.nf_run.proofs.QueryAnswers.{named_planned}
use Rattle.nf_run.proofs.answering.points_for.Goals as goal

pub care_points-requires-clause-planned : goal.care_points-requires-clause-planned
care_points-requires-clause-planned g c =
    named_planned (description c.args.p.now) c.args.queries.now (g.S.Store.state c.args.store.now).plan c.requires.planned c.args.output
    (sym c.is_named.ensures ∙ c.if-is_named.true)
