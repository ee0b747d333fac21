use Rattle.std.proofs.Common.{◌≡◌, Err, ap, false, rules}
use Rattle.lattice.specs.Words.{is_basis}
use Rattle.pla_reader.specs.Reading.{description}
use Rattle.interp_run.proofs.SolvedAnswers.{first_nodes_over, last_nodes_over}
use Rattle.interp_run.proofs.solve.refuse.Goals as goal

pub returns-in-Ok-clause-full : goal.returns-in-Ok-clause-full
returns-in-Ok-clause-full g c = λ is. last_nodes_over c.args.job.now (description c.args.pla.now) c.requires.consistent
    c.in-Ok.ensures.fits c.requires.over

pub returns-in-Err-clause-full : goal.returns-in-Err-clause-full
returns-in-Err-clause-full g c = λ is. first_nodes_over c.args.job.now (description c.args.pla.now) c.requires.consistent
    (c.in-Err.ensures.full (ap Err is))

pub returns-in-Anf-clause-full : goal.returns-in-Anf-clause-full
returns-in-Anf-clause-full g c =
    let bare : is_basis c.args.job.now.mode ≡ false = search rules in
    λ is. last_nodes_over c.args.job.now (description c.args.pla.now) c.requires.consistent (λ basis. cc) c.requires.over
