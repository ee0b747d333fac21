use Rattle.std.proofs.Common.{◌≡◌, ◌+◌, ◌++◌, drop, length, map}
use Rattle.std.specs.Prelude.{replicate}
use Rattle.std.specs.List.{flat_map}
use Rattle.gate_build.specs.declared.steps.Step.TheVariants.{Skip}
use Rattle.gate_build.specs.Steps.{AreMarked, literals_of, needed_steps, step_of}
use Rattle.gate_build.proofs.steps.keep_needed.Given as goal

-- the steps from k on are found, and what they and the outputs need is marked
abbrev pub invariant-loop-k : goal.invariant-loop-k
invariant-loop-k l =
    let later = needed_steps (l.aig.inputs + 1 + l.k) l.aig.outputs (drop l.k (map (step_of l.aig.inputs l.aig.gates) l.aig.gates)) in
    record {
      steps : l.steps ≡ replicate l.k Skip ++ later;
      variables : length l.needed ≡ l.aig.inputs + 1 + length l.aig.gates;
      marked : AreMarked l.needed (flat_map literals_of later ++ l.aig.outputs);
    }
