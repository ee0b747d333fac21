-- The declared command, what its matches say, and what words ask for.
use Rattle.std.specs.Prelude.{◌≡◌, ◌≢◌, ◌∷◌, [], ◌≤◌, List, map, Some, codes}
use Rattle.clap.specs.Words.{App, Row, Rule, Text, fault_of, first_of, matches_of}
use Rattle.clap.specs.declared.parser.matches.Found.{Found}
use Rattle.lattice.specs.declared.limits.TheConstants.{MIN_BITS, MAX_BITS}
use Rattle.cli_words.specs.Arguments.{AreNames, HasModeOf, HasNumber, NameList, command_at, command_of, nodes_rule, number_of, terms_rule}
use Rattle.cli_words.specs.Arguments.{text_rule}
use Rattle.circuit_words.specs.declared.job.CircuitJob.{CircuitJob}
use Rattle.circuit_words.specs.declared.job.CircuitMode.{CircuitMode}
use Rattle.circuit_words.specs.declared.job.CircuitMode.TheVariants.{Anf, Basis, Count, Equal}

abbrev pub mode_name : CircuitMode → Text
mode_name Anf = codes "anf"
mode_name Basis = codes "basis"
mode_name Count = codes "count"
mode_name Equal = codes "equal"

-- the values of MODE, in order
abbrev pub modes : List CircuitMode
modes = Anf ∷ Basis ∷ Count ∷ Equal ∷ []

abbrev pub IsModeNames : NameList → Type 0
IsModeNames = AreNames (map mode_name modes)

-- the options in their order
abbrev pub options : List Rule
options = nodes_rule ∷ terms_rule ∷ text_rule (codes "order") ∷ text_rule (codes "care") ∷ text_rule (codes "invert") ∷ []

-- `circuit MODE [--nodes B] [--terms T] [--order NAMES] [--care NAME] [--invert NAMES]`, with the names at an address
abbrev pub circuit_command_at : NameList → App
circuit_command_at = command_at (codes "circuit") options

-- the declared command
abbrev pub circuit_command : App
circuit_command = command_of (codes "circuit") options (map mode_name modes)

-- the job is what the matches say
pub record IsJob (rows : List Row) (job : CircuitJob) : Type 0 where
  pub mode : first_of (codes "mode") rows ≡ Some (mode_name job.mode)
  pub nodes : number_of (codes "nodes") rows ≡ Some job.nodes
  pub terms : number_of (codes "terms") rows ≡ Some job.terms
  pub order : first_of (codes "order") rows ≡ job.order
  pub care : first_of (codes "care") rows ≡ job.care
  pub invert : first_of (codes "invert") rows ≡ job.invert

-- its numbers are within the ranges of the options
pub record IsWithin (job : CircuitJob) : Type 0 where
  pub nodes : (MIN_BITS ≤ job.nodes) × (job.nodes ≤ MAX_BITS)
  pub terms : (1 ≤ job.terms) × (job.terms ≤ 1000000)

-- the declared command refuses the words
abbrev pub IsRefused : List Text → Type 0
IsRefused words = fault_of circuit_command words ≢ []

-- the declared command takes the words, and they ask for this job
abbrev pub IsAsked : List Text → CircuitJob → Type 0
IsAsked words job = (fault_of circuit_command words ≡ []) × IsJob (matches_of circuit_command words) job

-- a parse found a value of MODE, and of each option with a default
pub record HasEach (found : Found) : Type 0 where
  pub mode : HasModeOf mode_name modes found
  pub nodes : HasNumber found (codes "nodes") MIN_BITS MAX_BITS
  pub terms : HasNumber found (codes "terms") 1 1000000
