-- The steps by which the polynomials of a circuit's gates are found.
use Rattle.std.specs.Prelude.{◌≡◌, ℕ, ◌+◌, ◌-◌, ◌/◌, ◌%◌, ◌==◌, nat_lt, Bool, false, not, ◌||◌, Option, Some, None, List, [], ◌∷◌, ◌++◌}
use Rattle.std.specs.Prelude.{map}
use Rattle.std.specs.Prelude.{slice_get, if◌then◌else◌}
use Rattle.std.specs.List.{flat_map, list_any, slice_index_or}
use Rattle.lattice.specs.Family.{Family, numbers_below, sum_of}
use Rattle.lattice.specs.Operations.{product_of}
use Rattle.lattice.specs.WorkingLists.{product_list, working_set}
use Rattle.aig_reader.specs.declared.circuit.Gate.{Gate}
use Rattle.aig_reader.specs.Circuit.{Circuit}
use Rattle.gate_build.specs.declared.steps.Choice.{Choice}
use Rattle.gate_build.specs.declared.steps.Step.{Step}
use Rattle.gate_build.specs.declared.steps.Step.TheVariants.{Skip, And, Xor, Mux}
use Rattle.gate_build.specs.Polynomials.{input_polynomial, polynomial_of}

-- ---- the form of a gate

-- the complement of a literal
unfoldable pub complement_of : ℕ → ℕ
complement_of literal = if literal % 2 == 0 then literal + 1 else literal - 1

-- the gate whose complement the literal is, if it is that of a gate
unfoldable pub inner_gate : (inputs : ℕ) → List Gate → (literal : ℕ) → Option Gate
inner_gate inputs gates literal =
    if literal % 2 == 0 || not (nat_lt inputs (literal / 2)) then None else slice_get gates (literal / 2 - (inputs + 1))

-- the choice by s between the complements of a and b
abbrev pub between_complements : (s a b : ℕ) → Choice
between_complements s a b = record { select = s; one = complement_of a; zero = complement_of b }

-- where neither of two gates is 1, of which an operand of the one is the complement of an operand of the other: that operand chooses
-- between the complements of the two others
unfoldable pub choice_of : Gate → Gate → Option Choice
choice_of u w =
    if complement_of u.left == w.left then Some (between_complements u.left u.right w.right)
    else if complement_of u.left == w.right then Some (between_complements u.left u.right w.left)
    else if complement_of u.right == w.left then Some (between_complements u.right u.left w.right)
    else if complement_of u.right == w.right then Some (between_complements u.right u.left w.left)
    else None

abbrev pub choice_between : Option Gate → Option Gate → Option Choice
choice_between (Some u) (Some w) = choice_of u w
choice_between _ _ = None

-- a choice between two complements is an exclusive or
abbrev pub choice_step : Choice → Step
choice_step c = if complement_of c.one == c.zero then Xor (record { left = c.select; right = c.zero }) else Mux c

abbrev pub step_by : Gate → Option Choice → Step
step_by g None = And g
step_by g (Some c) = choice_step c

-- how the polynomial of a gate is found
unfoldable pub step_of : (inputs : ℕ) → List Gate → Gate → Step
step_of inputs gates g = step_by g (choice_between (inner_gate inputs gates g.left) (inner_gate inputs gates g.right))

-- ---- the gates that are needed

-- the literals that a step needs
abbrev pub literals_of : Step → List ℕ
literals_of Skip = []
literals_of (And g) = g.left ∷ g.right ∷ []
literals_of (Xor p) = p.left ∷ p.right ∷ []
literals_of (Mux c) = c.select ∷ c.one ∷ c.zero ∷ []

-- whether one of the literals is the variable or its complement
abbrev pub names : List ℕ → (v : ℕ) → Bool
names literals v = list_any (λ literal. literal / 2 == v) literals

-- which variables some literals name
abbrev pub AreMarked : List Bool → List ℕ → Type 0
AreMarked marks literals = (v : ℕ) → slice_index_or marks v false ≡ names literals v

-- the steps of the gates from variable v on, without those that no output and no step behind them needs
unfoldable pub needed_steps : (v : ℕ) (outputs : List ℕ) → List Step → List Step
needed_steps v outputs [] = []
needed_steps v outputs (step ∷ steps) =
    let later = needed_steps (v + 1) outputs steps in
    (if names (flat_map literals_of later ++ outputs) v then step else Skip) ∷ later

-- the steps of a circuit, one for each gate
unfoldable pub steps_of : Circuit → List Step
steps_of c = needed_steps (c.inputs + 1) c.outputs (map (step_of c.inputs c.gates) c.gates)

-- ---- what a step gives and needs, by the polynomials of literals

-- a choice is zero + select * (one + zero)
abbrev pub step_polynomial : ℕ → (ℕ → Family) → Step → Family
step_polynomial n of_literal Skip = []
step_polynomial n of_literal (And g) = product_of n (of_literal g.left) (of_literal g.right)
step_polynomial n of_literal (Xor p) = sum_of n (of_literal p.left) (of_literal p.right)
step_polynomial n of_literal (Mux c) =
    sum_of n (of_literal c.zero) (product_of n (of_literal c.select) (sum_of n (of_literal c.one) (of_literal c.zero)))

abbrev pub step_list : ℕ → (ℕ → Family) → Step → List Family
step_list n of_literal Skip = []
step_list n of_literal (And g) = of_literal g.left ∷ of_literal g.right ∷ product_list n (of_literal g.left) (of_literal g.right)
step_list n of_literal (Xor p) = of_literal p.left ∷ of_literal p.right ∷ sum_of n (of_literal p.left) (of_literal p.right) ∷ []
step_list n of_literal (Mux c) =
    let differ = sum_of n (of_literal c.one) (of_literal c.zero) in
    of_literal c.select ∷ of_literal c.one ∷ of_literal c.zero ∷ differ ∷
    (product_list n (of_literal c.select) differ ++ step_polynomial n of_literal (Mux c) ∷ [])

-- ---- what the outputs need

-- what the gates need
abbrev pub gates_list : Circuit → List Family
gates_list c = flat_map (step_list c.inputs (polynomial_of c)) (steps_of c)

-- the inputs, what the gates need, and the outputs
unfoldable pub circuit_list : Circuit → List Family
circuit_list c = map (input_polynomial c.inputs) (numbers_below c.inputs) ++ (gates_list c ++ map (polynomial_of c) c.outputs)

-- the working set of a circuit
abbrev pub circuit_needs : Circuit → List Family
circuit_needs c = working_set c.inputs (circuit_list c)
