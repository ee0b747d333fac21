-- What a parse of interp's command finds.
use Rattle.std.proofs.Common.{◌≡◌, arith, refl, ℕ, ◌∷◌}
use Rattle.std.specs.List.{slice_index_or}
use Rattle.clap.specs.Built.{IsParsedFrom}
use Rattle.clap.specs.Words.{Rule, app_of, found_of}
use Rattle.clap.specs.declared.builder.command.Command.{Command}
use Rattle.clap.specs.declared.parser.matches.ArgMatches.{ArgMatches}
use Rattle.lattice.specs.declared.limits.TheConstants.{MIN_BITS, MAX_BITS}
use Rattle.cli_words.specs.Arguments.{NameList, mode_rule}
use Rattle.cli_words.specs.CommandLine.{HasEach, IsModeNames, interp_command_at, mode_name, modes, options}
use Rattle.cli_words.proofs.EachFound.{mode_found, number_found}
use Rattle.cli_words.proofs.NamesMoved.{IsDeclared}

pub interp_declared : (list : NameList) → IsDeclared interp_command_at options list
interp_declared list = record {
  rules = refl;
  ready = refl;
  leaves = refl;
  rules_simple = refl;
  free = refl;
  negates = refl;
  drops_name = refl;
  simple = refl;
  simple_and_free = refl;
  moves = refl;
}

-- a parse that succeeds has a value of each argument
module _ (list : NameList) (c : Command) (m : ArgMatches) (is : app_of c ≡ interp_command_at list) (p : IsParsedFrom c m) where
  abbrev rule_at : ℕ → Rule
  rule_at k = slice_index_or (mode_rule list ∷ options) k (mode_rule list)

  pub each_found : IsModeNames list → HasEach (found_of m)
  each_found are =
      let declared = interp_declared list in
      record {
        mode = mode_found interp_command_at options list declared c m is p mode_name modes are (grind arith);
        workers = number_found interp_command_at options list declared c m is p 1 (rule_at 1) 1 16 (grind arith) (omega arith);
        nodes = number_found interp_command_at options list declared c m is p 2 (rule_at 2) MIN_BITS MAX_BITS (grind arith) (omega arith);
        terms = number_found interp_command_at options list declared c m is p 3 (rule_at 3) 1 1000000 (grind arith) (omega arith);
        seed = number_found interp_command_at options list declared c m is p 4 (rule_at 4) 0 18446744073709551615 (grind arith)
            (omega arith);
      }
