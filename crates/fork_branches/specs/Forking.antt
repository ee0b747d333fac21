-- What contracts see of the operations in branches.
use Rattle.std.specs.Prelude.{ℕ}
use Rattle.fork_branches.specs.declared.forked.Forked.{Forked}

-- by how many workers each operation runs
abbrev pub workers_for : {R : Type 0} → Forked R → ℕ
workers_for f = f.workers

-- an operation forks where its first variable is before this one
abbrev pub forks_before : {R : Type 0} → Forked R → ℕ
forks_before f = f.first
