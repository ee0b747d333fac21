use Rattle.std.proofs.Common.{◌≡◌, ℕ, ◌||◌, false, take, get_or}
use Rattle.gate_build.specs.Steps.{names}
use Rattle.gate_build.proofs.steps.mark_all.Given as goal

-- the literals before are marked
abbrev pub invariant-loop-literal : goal.invariant-loop-literal
invariant-loop-literal l =
    (v : ℕ) → get_or l.needed v false ≡ (names (take l.literal-index l.literals) v || get_or l.initial.needed v false)
