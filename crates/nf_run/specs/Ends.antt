-- The ends of runs of nfq that are none of each program: how they are told.
use Rattle.std.specs.Prelude.{ℕ, ◌++◌, List, codes, decimal}
use Rattle.program.specs.Outcomes.{Way}
use Rattle.nf_run.specs.Queries.{query_why_name}
use Rattle.nf_run.specs.declared.ends.QueryEnd.{QueryEnd}
use Rattle.nf_run.specs.declared.ends.QueryEnd.TheVariants.{QueryText, TwoOutputs}

-- what the line says
abbrev pub end_message : QueryEnd → List ℕ
end_message (QueryText line why) = codes "query line " ++ decimal line ++ codes ": " ++ query_why_name why
end_message TwoOutputs = codes "two outputs are needed"

-- an input is refused
abbrev pub end_way : QueryEnd → Way
end_way e = record { status = 3; message = end_message e }
