-- The names of what can be wrong with an answer.
use Rattle.std.specs.Prelude.{ℕ, List, codes}
use Rattle.cert_check.specs.declared.refusal.AnswerWhy.{AnswerWhy}
use Rattle.cert_check.specs.declared.refusal.AnswerWhy.TheVariants.{BadLine, UnknownName, TermOrder, MissingOutput}
use Rattle.cert_check.specs.declared.refusal.Fault.{Fault}
use Rattle.cert_check.specs.declared.refusal.Fault.TheVariants.{Value, NotZero, Leads, Count, Reducible, Order}

abbrev pub answer_why_name : AnswerWhy → List ℕ
answer_why_name BadLine = codes "BadLine"
answer_why_name UnknownName = codes "UnknownName"
answer_why_name TermOrder = codes "TermOrder"
answer_why_name MissingOutput = codes "MissingOutput"

abbrev pub fault_name : Fault → List ℕ
fault_name Value = codes "Value"
fault_name NotZero = codes "NotZero"
fault_name Leads = codes "Leads"
fault_name Count = codes "Count"
fault_name Reducible = codes "Reducible"
fault_name Order = codes "Order"
