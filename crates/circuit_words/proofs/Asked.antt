-- The job that words ask for.
use Rattle.std.proofs.Common.{◌≡◌, ◌∷◌, ◌∙◌, [], arith, codes, refl, sym}
use Rattle.clap.proofs.OnLiterals.{clap_on_literals}
use Rattle.clap.specs.declared.error.kind.ErrorKind.TheVariants as kind
use Rattle.circuit_words.specs.CommandLine.{IsAsked, mode_name}
use Rattle.circuit_words.specs.Laws.{OneJobIsAsked, RefusedAskForNone, WordsAskForJobs, usual_job}
use Rattle.circuit_words.specs.declared.job.CircuitMode.{CircuitMode}
use Rattle.circuit_words.specs.declared.job.CircuitMode.TheVariants.{Anf, Basis, Count, Equal}

same_mode : (m k : CircuitMode) → mode_name m ≡ mode_name k → m ≡ k
same_mode m k e = grind arith

-- words ask for one job at most
pub one_job : OneJobIsAsked
one_job words a b x y =
    let mode = same_mode a.mode b.mode (cc (x.1.mode, y.1.mode)) in
    let nodes : a.nodes ≡ b.nodes = cc (x.1.nodes, y.1.nodes) in let terms : a.terms ≡ b.terms = cc (x.1.terms, y.1.terms) in
    let order : a.order ≡ b.order = sym x.1.order ∙ y.1.order in let care : a.care ≡ b.care = sym x.1.care ∙ y.1.care in
    let invert : a.invert ≡ b.invert = sym x.1.invert ∙ y.1.invert in
    λ i. record { mode = mode i; nodes = nodes i; terms = terms i; order = order i; care = care i; invert = invert i }

-- and words that are refused for none
pub apart : RefusedAskForNone
apart words job refused asked = refused asked.0

usual_asked : (mode : CircuitMode) → IsAsked (codes "circuit" ∷ mode_name mode ∷ []) (usual_job mode)
unfolding clap_on_literals
usual_asked Anf = (refl, record { mode = refl; nodes = refl; terms = refl; order = refl; care = refl; invert = refl })
usual_asked Basis = (refl, record { mode = refl; nodes = refl; terms = refl; order = refl; care = refl; invert = refl })
usual_asked Count = (refl, record { mode = refl; nodes = refl; terms = refl; order = refl; care = refl; invert = refl })
usual_asked Equal = (refl, record { mode = refl; nodes = refl; terms = refl; order = refl; care = refl; invert = refl })

-- there are words that ask for a job, in each mode and with each option, and words that are refused
pub jobs_asked : WordsAskForJobs
unfolding clap_on_literals
jobs_asked = (
  usual_asked,
  (refl, record { mode = refl; nodes = refl; terms = refl; order = refl; care = refl; invert = refl }),
  λ none. let none : kind.MissingRequiredArgument ∷ [] ≡ [] = none in cc,
)
