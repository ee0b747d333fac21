use Rattle.cube_sets.proofs.OneClash.{searched}
use Rattle.pla_reader.specs.Reading.{description}
use Rattle.nf_run.proofs.Endings.{some_due}
use Rattle.nf_run.proofs.laws.some_is_due.Goals as goal

pub returns : goal.returns
returns c = λ mode bits bytes is. some_due bits (description c.args.pla.now)
    (searched c.args.pla.now c.conflict.result c.conflict.ensures.none.0 c.conflict.ensures.least) mode bytes is
