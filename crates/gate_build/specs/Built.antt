-- The polynomials of a circuit that a store knows.
use Rattle.std.specs.Prelude.{◌≡◌, ℕ, ◌+◌, ◌-◌, ◌*◌, ◌/◌, ◌<◌, nat_le, Bool, true, false, not, ◌||◌, Result, OnOk, OnErr, List, length}
use Rattle.std.specs.List.{AllZip, slice_index_or}
use Rattle.lattice.specs.Family.{Family, Covers}
use Rattle.lattice.specs.WorkingLists.{working_set}
use Rattle.node_store.specs.Stores.{State, Knows, Denotes, family, no_handle, Grows, IsFull, Gives}
use Rattle.node_store.specs.declared.store.Handle.{Handle}
use Rattle.node_store.specs.declared.store.Full.{Full}
use Rattle.aig_reader.specs.Circuit.{Circuit}
use Rattle.gate_build.specs.declared.steps.Step.{Step}
use Rattle.gate_build.specs.declared.steps.Step.TheVariants.{Skip}
use Rattle.gate_build.specs.Polynomials.{at_literal, polynomial_of}
use Rattle.gate_build.specs.Steps.{steps_of, step_polynomial, step_list}

-- the handles are of the polynomials of the outputs, in order
abbrev pub ArePolynomials : State → Circuit → List Handle → Type 0
ArePolynomials s c = AllZip (λ literal h. Denotes s h (polynomial_of c literal)) c.outputs

-- a call that finds families and then holds them, or finds the store full
pub record Finds {A : Type 0} (before after : State) (result : Result A Full) (needed : List Family) : Type 0 where
  pub grows : Grows before after
  pub held : OnOk result (Covers after.held needed)
  pub quiet : OnOk result (after.refusals ≡ before.refusals)
  pub full : OnErr result (IsFull before after)

-- ---- a handle for each variable

abbrev pub handle_of : List Handle → ℕ → Handle
handle_of handles v = slice_index_or handles v no_handle

-- the polynomial of a literal, by the handle of its variable
abbrev pub literal_family : State → List Handle → (literal : ℕ) → Family
literal_family s handles literal = at_literal s.vars (λ v. family s (handle_of handles v)) literal

-- the store knows the handle of the literal's variable
pub record KnowsLiteral (s : State) (handles : List Handle) (literal : ℕ) : Type 0 where
  pub within : literal / 2 < length handles
  pub known : Knows s (handle_of handles (literal / 2))

-- the plan has what a step needs
abbrev pub PlansStep : State → List Handle → Step → Type 0
PlansStep s handles step = Covers s.plan (working_set s.vars (step_list s.vars (literal_family s handles) step))

-- a call that gives the polynomial of a step and then holds what the step needed, or finds the store full
abbrev pub GivesStep : State → State → Result Handle Full → List Handle → Step → Type 0
GivesStep before after result handles step =
    let of_literal = literal_family before handles in
    Gives before after result (step_polynomial before.vars of_literal step) (working_set before.vars (step_list before.vars of_literal
    step))

abbrev pub is_skip : Step → Bool
is_skip Skip = true
is_skip _ = false

-- whether the variable is the constant, an input, or a gate that a step finds
abbrev pub is_found : Circuit → ℕ → Bool
is_found c v = nat_le v c.inputs || not (is_skip (slice_index_or (steps_of c) (v - (c.inputs + 1)) Skip))

-- of the variables below a count the handles of those that are found are of their polynomials
abbrev pub AreBuilt : State → Circuit → (count : ℕ) → List Handle → Type 0
AreBuilt s c count handles =
    (v : ℕ) → v < count → is_found c v ≡ true → Denotes s (handle_of handles v) (polynomial_of c (2 * v))
