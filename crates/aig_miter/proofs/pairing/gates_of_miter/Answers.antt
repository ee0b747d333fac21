use Rattle.std.proofs.Common.{arith}
use Rattle.aig_reader.specs.Reading.{circuit}
use Rattle.aig_miter.proofs.Miters.{length-miter_gates}
use Rattle.aig_miter.proofs.pairing.gates_of_miter.Goals as goal

pub returns : goal.returns
returns c =
    let first = circuit c.args.first.now in let second = circuit c.args.second.now in
    omega (arith, c.len.ensures, c.len-2.ensures, c.len-3.ensures, length-miter_gates first second)
