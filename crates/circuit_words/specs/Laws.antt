-- Laws of what words ask for. The functions of src/laws.rt have them as their contracts.
use Rattle.std.specs.Prelude.{◌≡◌, ◌∷◌, [], List, None, Some, codes}
use Rattle.clap.specs.Words.{Text}
use Rattle.circuit_words.specs.CommandLine.{IsAsked, IsRefused, mode_name}
use Rattle.circuit_words.specs.declared.job.CircuitJob.{CircuitJob}
use Rattle.circuit_words.specs.declared.job.CircuitMode.{CircuitMode}
use Rattle.circuit_words.specs.declared.job.CircuitMode.TheVariants.{Basis}

-- words ask for one job at most
abbrev pub OneJobIsAsked : Type 0
OneJobIsAsked = (words : List Text) (a b : CircuitJob) → IsAsked words a → IsAsked words b → a ≡ b

-- words that are refused ask for none
abbrev pub RefusedAskForNone : Type 0
RefusedAskForNone = (words : List Text) (job : CircuitJob) → IsRefused words → ¬ IsAsked words job

-- the job that a mode alone asks for
abbrev pub usual_job : CircuitMode → CircuitJob
usual_job mode = record { mode = mode; nodes = 19; terms = 1000000; order = None; care = None; invert = None }

-- words with each option
abbrev pub full_words : List Text
full_words = codes "circuit" ∷ codes "--nodes=7" ∷ codes "basis" ∷ codes "--terms" ∷ codes "5" ∷ codes "--order" ∷ codes "b,a"
    ∷ codes "--care=f" ∷ codes "--invert" ∷ codes "a" ∷ []

-- and the job that they ask for
abbrev pub full_job : CircuitJob
full_job = record {
  mode = Basis;
  nodes = 7;
  terms = 5;
  order = Some (codes "b,a");
  care = Some (codes "f");
  invert = Some (codes "a");
}

-- words that ask for a job in each mode, and with each option, and words that ask for none
abbrev pub WordsAskForJobs : Type 0
WordsAskForJobs =
    ((mode : CircuitMode) → IsAsked (codes "circuit" ∷ mode_name mode ∷ []) (usual_job mode))
    × IsAsked full_words full_job
    × IsRefused (codes "circuit" ∷ [])
