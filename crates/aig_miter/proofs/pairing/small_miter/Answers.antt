use Rattle.std.proofs.Common.{arith}
use Rattle.aig_reader.specs.Reading.{circuit}
use Rattle.aig_miter.proofs.Miters.{miter_is_circuit}
use Rattle.aig_miter.proofs.pairing.small_miter.Goals as goal

pub invariant_of-result : goal.invariant_of-result
invariant_of-result c =
    let first = c.args.first.now in let second = c.args.second.now in
    let fits = miter_is_circuit (circuit first) (circuit second) c.args.care (record {
      first = first.fits;
      second = second.fits;
      inputs = c.requires.inputs;
      outputs = c.requires.outputs;
    }) c.requires.few in grind arith
