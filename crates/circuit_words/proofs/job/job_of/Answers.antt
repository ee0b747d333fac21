use Rattle.std.proofs.Common.{arith, codes}
use Rattle.clap.specs.Words.{found_of}
use Rattle.lattice.specs.declared.limits.TheConstants.{MIN_BITS, MAX_BITS}
use Rattle.cli_words.proofs.Commands.{number_in}
use Rattle.circuit_words.proofs.job.job_of.Goals as goal

pub overflow_cast-result : goal.overflow_cast-result
overflow_cast-result c =
    omega (arith, number_in (found_of c.args.matches.now) (codes "nodes") MIN_BITS MAX_BITS _ c.requires.nodes c.number.ensures)

pub returns-clause-within : goal.returns-clause-within
returns-clause-within c =
    let f = found_of c.args.matches.now in
    record {
      nodes = number_in f (codes "nodes") MIN_BITS MAX_BITS c.number.result c.requires.nodes c.number.ensures;
      terms = number_in f (codes "terms") 1 1000000 c.number-2.result c.requires.terms c.number-2.ensures;
    }
