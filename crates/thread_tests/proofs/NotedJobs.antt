-- The jobs of the tests need nothing, and give the constants.
use Rattle.std.proofs.Common.{◌≡◌, ℕ, zero, suc, ◌%◌, ◌^◌, ◌<◌, Some, Ok, [], ◌∷◌, arith, rules}
use Rattle.std.specs.Prelude.{◌==◌, cond}
use Rattle.std.proofs.lemmas.Nat.{mod_below}
use Rattle.lattice.proofs.Diagrams.{covers_nil}
use Rattle.node_store.specs.Stores.{State, IsSound, Gives}
use Rattle.node_store.proofs.StoreLaws.{Grows-refl}
use Rattle.fork_branches.specs.Jobs.{needed_by}
use Rattle.fork_branches.specs.Work.{MayWork}
use Rattle.thread_tests.specs.NotedJobs.{noted}

constant_of : (s : State) (r : ℕ) → IsSound s → r < 2 → s.known r ≡ Some (cond (r == 0) [] (0 ∷ []))
constant_of s zero sound less = sound.empty
constant_of s (suc zero) sound less = sound.unit
constant_of s (suc (suc r)) sound less = absurd (omega arith)

pub parity_gives : (s : State) (count number : ℕ) → IsSound s
    → Gives s s (Ok (record { 0 = number % 2 })) ((noted count).wanted number) (needed_by (noted count) number)
parity_gives s count number sound =
    search (Grows-refl, constant_of s (number % 2) sound (mod_below number 2 (omega arith)), covers_nil 3 s.held, rules)

pub may_note : (s : State) (count : ℕ) → count < 2 ^ 30 → s.vars ≡ 3 → MayWork (noted count) s
may_note s count few vars =
    record { few = few; vars = vars; uses = λ h f i. absurd (omega (arith, i.1)); planned = λ x less. covers_nil 3 s.plan }
