-- What the steps of a run find: words that the contract of `run` does not need.
use Rattle.std.specs.Prelude.{ℕ, ◌+◌, ◌^◌, ◌≤◌, List, cond, length, sum_by}
use Rattle.lattice.specs.WorkingLists.{is_basis}
use Rattle.lattice.specs.declared.kind.Mode.{Mode}
use Rattle.pla_reader.specs.Reading.{Description}
use Rattle.pla_reader.specs.declared.order.OrderRefusal.{OrderRefusal}
use Rattle.pla_reader.specs.declared.order.OrderRefusal.TheVariants as disordered
use Rattle.pla_reader.specs.declared.refusal.TextRefusal.{TextRefusal}
use Rattle.pla_reader.specs.declared.refusal.TextRefusal.TheVariants.{Bad, Memory}
use Rattle.set_algebra.specs.declared.refusal.TermsRefusal.{TermsRefusal}
use Rattle.set_algebra.specs.declared.refusal.TermsRefusal.TheVariants as unsolved
use Rattle.cert_check.specs.declared.refusal.AnswerWhy.{AnswerWhy}
use Rattle.cli_words.specs.declared.job.Job.{Job}
use Rattle.anf_printer.specs.Text.{Answer}
use Rattle.interp_run.specs.Answers.{first_count, first_nodes}
use Rattle.interp_run.specs.Phases.{answers_for}
use Rattle.program.specs.declared.outcome.Outcome.{Outcome}
use Rattle.program.specs.declared.outcome.Outcome.TheVariants as ends
use Rattle.interp_run.specs.declared.ends.OwnEnd.{OwnEnd}
use Rattle.interp_run.specs.declared.ends.OwnEnd.TheVariants.{AnswerText, Order}

-- phase 1 is within the limits of the job: its nodes fit the slots, and its terms are not too many
pub record FirstFits (job : Job) (d : Description) : Type 0 where
  pub nodes : first_nodes d job.mode ≤ 2 ^ job.nodes
  pub terms : first_count (answers_for d job.mode) ≤ job.terms

-- the jobs that find answers: the polynomials, the elements and, in mode basis, the leads of each output
abbrev pub jobs_for : Mode → List Answer → ℕ
jobs_for mode answers = length answers + sum_by (λ a. length a.basis) answers + cond (is_basis mode) (length answers) 0

-- how it ends that was not solved for this cause
abbrev pub unsolved_outcome : Job → TermsRefusal → Outcome OwnEnd
unsolved_outcome job unsolved.Full = ends.Exhausted (2 ^ job.nodes)
unsolved_outcome job unsolved.Over = ends.Terms job.terms
unsolved_outcome job unsolved.Memory = ends.Memory

-- how a run ends whose order is refused
abbrev pub disordered_outcome : OrderRefusal → Outcome OwnEnd
disordered_outcome disordered.Bad = ends.Own Order
disordered_outcome disordered.Memory = ends.Memory

-- how a run ends whose answer is refused
abbrev pub refused_outcome : TextRefusal AnswerWhy → Outcome OwnEnd
refused_outcome (Bad line why) = ends.Own (AnswerText line why)
refused_outcome Memory = ends.Memory
