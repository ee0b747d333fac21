-- Laws of what solves a circuit, and of the least points at which its outputs are 1. The functions of src/laws.rt have them as their
-- contracts.
use Rattle.std.specs.Prelude.{◌≡◌, ℕ, ◌<◌, Bool, Option, length}
use Rattle.std.specs.Option.{ForSome}
use Rattle.aig_reader.specs.Circuit.{Circuit, IsCircuit}
use Rattle.gate_build.specs.Laws.{IsLiteral}
use Rattle.circuit_solve.specs.Ones.{IsLeastOne}
use Rattle.circuit_solve.specs.Solved.{IsSolved, Solved, solved_by}

-- each gate of the circuit stands on what is before it, and one of its outputs says which points are cared for, if any does
pub record IsAsked (c : Circuit) (care : Option ℕ) : Type 0 where
  pub fits : IsCircuit c.inputs c.gates c.outputs c.in_names c.out_names
  pub within : ForSome care (λ output. output < length c.outputs)

-- something solves a circuit
abbrev pub SolvedExists : Type 0
SolvedExists = (c : Circuit) (care : Option ℕ) (with_basis : Bool) → IsAsked c care → IsSolved c care with_basis (solved_by c care with_basis)

-- and one thing alone
abbrev pub SolvedIsUnique : Type 0
SolvedIsUnique = (c : Circuit) (care : Option ℕ) (with_basis : Bool) (s t : Solved) → IsAsked c care → IsSolved c care with_basis s
    → IsSolved c care with_basis t → s ≡ t

-- each literal of a circuit has a least one, or none
abbrev pub LeastOneExists : Type 0
LeastOneExists = (c : Circuit) (care : Option ℕ) (literal : ℕ) → IsAsked c care → IsLiteral c literal
    → (found : Option ℕ) × IsLeastOne c care literal found

-- and not two
abbrev pub LeastOneIsUnique : Type 0
LeastOneIsUnique = (c : Circuit) (care : Option ℕ) (literal : ℕ) (a b : Option ℕ) → IsLeastOne c care literal a → IsLeastOne c care literal b
    → a ≡ b
