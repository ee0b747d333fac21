-- The declared command, and what its matches say.
use Rattle.std.specs.Prelude.{◌≡◌, ◌∷◌, [], ◌≤◌, List, map, Some, codes}
use Rattle.clap.specs.Words.{App, Row, Rule, Text, first_of}
use Rattle.clap.specs.declared.builder.value_parser.ValueParser.TheVariants as parser
use Rattle.clap.specs.declared.parser.matches.Found.{Found}
use Rattle.lattice.specs.declared.limits.TheConstants.{MIN_BITS, MAX_BITS}
use Rattle.lattice.specs.declared.Mode.{Mode}
use Rattle.lattice.specs.declared.Mode.TheVariants.{Anf, Basis, Check, Gen}
use Rattle.cli_words.specs.Arguments.{AreNames, HasModeOf, HasNumber, NameList, command_at, command_of, nodes_rule, number_of, option_rule}
use Rattle.cli_words.specs.Arguments.{terms_rule, text_rule}
use Rattle.cli_words.specs.declared.job.Job.{Job}

abbrev pub mode_name : Mode → Text
mode_name Anf = codes "anf"
mode_name Basis = codes "basis"
mode_name Check = codes "check"
mode_name Gen = codes "gen"

-- the values of MODE, in order
abbrev pub modes : List Mode
modes = Anf ∷ Basis ∷ Check ∷ Gen ∷ []

abbrev pub IsModeNames : NameList → Type 0
IsModeNames = AreNames (map mode_name modes)

-- the options in their order
abbrev pub options : List Rule
options =
    option_rule (codes "workers") (Some (parser.Unsigned 1 16)) (codes "1" ∷ [])
    ∷ nodes_rule
    ∷ terms_rule
    ∷ option_rule (codes "seed") (Some (parser.Unsigned 0 18446744073709551615)) (codes "0" ∷ [])
    ∷ text_rule (codes "order") ∷ []

-- `interp MODE [--workers N] [--nodes B] [--terms T] [--seed S] [--order NAMES]`, with the names at an address
abbrev pub interp_command_at : NameList → App
interp_command_at = command_at (codes "interp") options

-- the declared command
abbrev pub interp_command : App
interp_command = command_of (codes "interp") options (map mode_name modes)

-- the job is what the matches say
pub record IsJob (rows : List Row) (job : Job) : Type 0 where
  pub mode : first_of (codes "mode") rows ≡ Some (mode_name job.mode)
  pub workers : number_of (codes "workers") rows ≡ Some job.workers
  pub nodes : number_of (codes "nodes") rows ≡ Some job.nodes
  pub terms : number_of (codes "terms") rows ≡ Some job.terms
  pub seed : number_of (codes "seed") rows ≡ Some job.seed
  pub order : first_of (codes "order") rows ≡ job.order

-- its numbers are within the ranges of the options
pub record IsWithin (job : Job) : Type 0 where
  pub workers : (1 ≤ job.workers) × (job.workers ≤ 16)
  pub nodes : (MIN_BITS ≤ job.nodes) × (job.nodes ≤ MAX_BITS)
  pub terms : (1 ≤ job.terms) × (job.terms ≤ 1000000)

-- a parse found a value of each argument
pub record HasEach (found : Found) : Type 0 where
  pub mode : HasModeOf mode_name modes found
  pub workers : HasNumber found (codes "workers") 1 16
  pub nodes : HasNumber found (codes "nodes") MIN_BITS MAX_BITS
  pub terms : HasNumber found (codes "terms") 1 1000000
  pub seed : HasNumber found (codes "seed") 0 18446744073709551615
