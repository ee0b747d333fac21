-- What a parse of the declared command finds.
use Rattle.std.proofs.Common.{◌≡◌, arith, refl}
use Rattle.clap.specs.Built.{IsParsedFrom}
use Rattle.clap.specs.Words.{app_of, found_of}
use Rattle.clap.specs.declared.builder.command.Command.{Command}
use Rattle.clap.specs.declared.parser.matches.ArgMatches.{ArgMatches}
use Rattle.lattice.specs.declared.limits.TheConstants.{MIN_BITS, MAX_BITS}
use Rattle.cli_words.specs.Arguments.{NameList, nodes_rule, terms_rule}
use Rattle.cli_words.proofs.Commands.{IsDeclared, mode_found, number_found}
use Rattle.circuit_words.specs.CommandLine.{HasEach, IsModeNames, circuit_command_at, mode_name, modes, options}

pub circuit_declared : (list : NameList) → IsDeclared circuit_command_at options list
circuit_declared list = record {
  rules = refl;
  ready = refl;
  leaves = refl;
  rules_simple = refl;
  free = refl;
  negates = refl;
  drops_name = refl;
  simple = refl;
  simple_and_free = refl;
  moves = refl;
}

-- a parse that succeeds has a value of MODE, and of each option with a default
pub each_found : (list : NameList) (c : Command) (m : ArgMatches) → app_of c ≡ circuit_command_at list → IsParsedFrom c m
    → IsModeNames list → HasEach (found_of m)
each_found list c m is p are =
    let declared = circuit_declared list in
    record {
      mode = mode_found circuit_command_at options list declared c m is p mode_name modes are (grind arith);
      nodes = number_found circuit_command_at options list declared c m is p 1 nodes_rule MIN_BITS MAX_BITS (grind arith) (omega arith);
      terms = number_found circuit_command_at options list declared c m is p 2 terms_rule 1 1000000 (grind arith) (omega arith);
    }
