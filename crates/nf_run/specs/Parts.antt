-- What the steps of a run find: words that the contract of `nf_run` does not need.
use Rattle.pla_reader.specs.declared.refusal.TextRefusal.{TextRefusal}
use Rattle.pla_reader.specs.declared.refusal.TextRefusal.TheVariants as unread
use Rattle.program.specs.declared.outcome.Outcome.{Outcome}
use Rattle.program.specs.declared.outcome.Outcome.TheVariants as ends
use Rattle.nf_run.specs.declared.ends.QueryEnd.{QueryEnd}
use Rattle.nf_run.specs.declared.ends.QueryEnd.TheVariants.{QueryText}
use Rattle.nf_run.specs.declared.queries.QueryWhy.{QueryWhy}

-- how a run ends whose queries are refused
abbrev pub refused_outcome : TextRefusal QueryWhy → Outcome QueryEnd
refused_outcome (unread.Bad line why) = ends.Own (QueryText line why)
refused_outcome unread.Memory = ends.Memory
