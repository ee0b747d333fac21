-- The jobs of the tests.
use Rattle.std.specs.Prelude.{ℕ, ◌%◌, ◌==◌, cond, [], ◌∷◌}
use Rattle.fork_branches.specs.Jobs.{Tasks}

-- so many jobs: the even ones give the empty family, and the odd ones the family with the monomial 1 alone
abbrev pub noted : ℕ → Tasks
noted count = record {
  total = count;
  vars = 3;
  uses = [];
  wanted = λ x. cond (x % 2 == 0) [] (0 ∷ []);
  working = λ x. [];
}
