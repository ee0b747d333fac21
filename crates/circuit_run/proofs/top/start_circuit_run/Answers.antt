use Rattle.std.proofs.Common.{inl, inr, rules, ⊎_elim}
use Rattle.circuit_run.proofs.Endings.{ran_from}
use Rattle.circuit_run.proofs.top.start_circuit_run.Goals as goal

pub returns-clause-ran : goal.returns-clause-ran
returns-clause-ran g c =
    let ran = c.start_program.ensures.ran in
    (ran.0, ran.1, ⊎_elim (λ one. inl (one.0, ran_from (search rules) one.1)) (λ none. inr (none.0, none.1)) ran.2, ran.3)
