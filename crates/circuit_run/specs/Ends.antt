-- The ends of runs of circuit that are none of each program: how they are told.
use Rattle.std.specs.Prelude.{◌++◌, [], codes, decimal}
use Rattle.aig_reader.specs.Causes.{why_name}
use Rattle.program.specs.Outcomes.{Way}
use Rattle.circuit_run.specs.declared.ends.CircuitEnd.{CircuitEnd}
use Rattle.circuit_run.specs.declared.ends.CircuitEnd.TheVariants.{Alone, Care, Different, File, Invert, NoInputs, Order}
use Rattle.circuit_run.specs.declared.ends.CircuitEnd.TheVariants.{OtherInputs, OtherOutputs, TooManyGates}

-- an answer that says no, files that are refused, and names that are not among those of the circuit
abbrev pub end_way : CircuitEnd → Way
end_way Different = record { status = 1; message = [] }
end_way (File byte why) = record { status = 3; message = codes "byte " ++ decimal byte ++ codes ": " ++ why_name why }
end_way Alone = record { status = 3; message = codes "two circuits are needed" }
end_way OtherInputs = record { status = 3; message = codes "the circuits must have the same inputs" }
end_way OtherOutputs = record { status = 3; message = codes "the circuits must have the same outputs" }
end_way TooManyGates = record { status = 3; message = codes "more than 1000000 gates for both" }
end_way NoInputs = record { status = 3; message = codes "there are no inputs" }
end_way Order = record { status = 12; message = codes "order must name every input once" }
end_way Invert = record { status = 12; message = codes "invert must name inputs, each once" }
end_way Care = record { status = 12; message = codes "care must name an output" }
