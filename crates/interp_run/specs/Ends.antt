-- The ends of runs of interp that are none of each program: how they are told.
use Rattle.std.specs.Prelude.{◌++◌, [], codes, decimal}
use Rattle.cert_check.specs.Causes.{answer_why_name}
use Rattle.program.specs.Outcomes.{Way}
use Rattle.interp_run.specs.declared.ends.OwnEnd.{OwnEnd}
use Rattle.interp_run.specs.declared.ends.OwnEnd.TheVariants.{AnswerText, No, Order, TooWide}

-- an answer that says no, an input that is refused, and an order that is none
abbrev pub end_way : OwnEnd → Way
end_way (No line why) = record { status = 1; message = [] }
end_way TooWide = record { status = 3; message = codes "more than 14 inputs cannot be checked" }
end_way (AnswerText line why) = record { status = 3; message = codes "answer line " ++ decimal line ++ codes ": " ++ answer_why_name why }
end_way Order = record { status = 12; message = codes "order must name every input once" }
