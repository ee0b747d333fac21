use Rattle.std.proofs.Common.{sym, ◌∙◌, arith}
use Rattle.std.proofs.lemmas.Grind.{common_steps}
use Rattle.pla_reader.specs.Draft.{said}
use Rattle.pla_reader.proofs.DraftSteps.{said_fault_is, adds_inputs, adds_outputs, adds_type, adds_in_names, adds_out_names, read_other}
use Rattle.pla_reader.proofs.DraftSteps.{ends_on}
use Rattle.pla_reader.proofs.draft.Draft.add_command.Goals as goal

pub returns-in_err-size_in : goal.returns-in_err-size_in
returns-in_err-size_in c = λ earlier line is read. let fault = said_fault_is _ earlier read line _ _ is in grind (arith, common_steps)

pub returns-in_ok-size_in : goal.returns-in_ok-size_in
returns-in_ok-size_in c = λ earlier line is read.
    let answer = c.in_ok-size_in.ensures.answer in
    adds_inputs (said c.args.self.now) earlier read line _ _ is (sym c.is_word.ensures ∙ c.if-is_word.true) c.in_ok-size_in.field-0
    answer.0 answer.1

pub returns-in_err-size_in-2 : goal.returns-in_err-size_in-2
returns-in_err-size_in-2 c = λ earlier line is read. let fault = said_fault_is _ earlier read line _ _ is in grind (arith, common_steps)

pub returns-in_ok-size_in-2 : goal.returns-in_ok-size_in-2
returns-in_ok-size_in-2 c = λ earlier line is read.
    let answer = c.in_ok-size_in-2.ensures.answer in
    adds_outputs (said c.args.self.now) earlier read line _ _ is (sym c.is_word-else-is_word.ensures ∙ c.if-is_word-2.true)
    c.in_ok-size_in-2.field-0 answer.0 answer.1

pub returns-in_err-kind_in : goal.returns-in_err-kind_in
returns-in_err-kind_in c = λ earlier line is read. let fault = said_fault_is _ earlier read line _ _ is in grind (arith, common_steps)

pub returns-in_ok-kind_in : goal.returns-in_ok-kind_in
returns-in_ok-kind_in c = λ earlier line is read.
    let answer = rw c.len.ensures at c.in_ok-kind_in.ensures in
    adds_type (said c.args.self.now) earlier read line _ _ is (sym c.is_word-else-is_word-2.ensures ∙ c.if-is_word-3.true)
    c.in_ok-kind_in.field-0 answer.0 answer.1

pub returns-in_err-names_in : goal.returns-in_err-names_in
returns-in_err-names_in c = λ earlier line is read. let fault = said_fault_is _ earlier read line _ _ is in grind (arith, common_steps)

pub returns-in_ok-names_in : goal.returns-in_ok-names_in
returns-in_ok-names_in c = λ earlier line is read.
    let answer = rw c.sized_inputs-count.ensures at c.in_ok-names_in.ensures in
    rw answer.1 (adds_in_names (said c.args.self.now) earlier read line _ _ is (sym c.is_word-else-is_word-3.ensures ∙ c.if-is_word-4.true)
    answer.0)

pub returns-in_err-names_in-2 : goal.returns-in_err-names_in-2
returns-in_err-names_in-2 c = λ earlier line is read. let fault = said_fault_is _ earlier read line _ _ is in grind (arith, common_steps)

pub returns-in_ok-names_in-2 : goal.returns-in_ok-names_in-2
returns-in_ok-names_in-2 c = λ earlier line is read.
    let answer = rw c.sized_outputs-count.ensures at c.in_ok-names_in-2.ensures in
    rw answer.1 (adds_out_names (said c.args.self.now) earlier read line _ _ is
    (sym c.is_word-else-is_word-4.ensures ∙ c.if-is_word-5.true) answer.0)

pub returns-then-is_unsupported : goal.returns-then-is_unsupported
returns-then-is_unsupported c = λ earlier line is read. let fault = said_fault_is _ earlier read line _ _ is in grind (arith, common_steps)

pub returns-else-is_unsupported : goal.returns-else-is_unsupported
returns-else-is_unsupported c = λ earlier line is read.
    let fault = said_fault_is _ earlier read line _ _ is in let ends = ends_on _ earlier read line _ _ is in
    let other = read_other _ earlier read line _ _ is in grind (arith, common_steps)
