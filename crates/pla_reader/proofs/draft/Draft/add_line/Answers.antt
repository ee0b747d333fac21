use Rattle.std.proofs.Common.{arith, sym, refl, ◌∙◌, ◌<◌, length, ap}
use Rattle.std.proofs.lemmas.Grind.{common_steps}
use Rattle.std.proofs.lemmas.Bool.{eq-eqb}
use Rattle.pla_reader.specs.Grammar.{fault_of}
use Rattle.pla_reader.specs.Draft.{said}
use Rattle.pla_reader.proofs.WordCuts.{no_words, word_cut, first_byte}
use Rattle.pla_reader.proofs.DraftSteps.{adds_blank, row_fault_is, adds_row}
use Rattle.pla_reader.proofs.draft.Draft.add_line.Goals as goal

pub returns-then-not-is_printable : goal.returns-then-not-is_printable
unfolding fault_of
returns-then-not-is_printable c = λ earlier len read. rw (sym c.is_printable.ensures ∙ c.if-not-is_printable.true) refl

pub returns-then-is_empty : goal.returns-then-is_empty
returns-then-is_empty c = λ earlier len read.
    let plain = sym c.is_printable.ensures ∙ c.if-not-is_printable.false in let none = ap length c.from_first_word-words.ensures in
    adds_blank (said c.args.self.now) earlier read c.args.line.now plain (no_words c.args.line.now (grind arith))

pub returns-then-words-eq46 : goal.returns-then-words-eq46
returns-then-words-eq46 c = λ earlier len read.
    let from = c.from_first_word-words.ensures in let some : 0 < length c.from_first_word-words.result.now = grind arith in
    c.add_command.ensures earlier c.args.line.now (record {
      plain = sym c.is_printable.ensures ∙ c.if-not-is_printable.false;
      words = rw (c.split_word.ensures.word, c.split_word.ensures.rest) (word_cut c.args.line.now _ from some).words;
      begins = rw (c.split_word.ensures.word, first_byte c.args.line.now _ from some) (eq-eqb _ 46 c.if-words-eq46.true);
    }) read

pub returns-in_err-row : goal.returns-in_err-row
returns-in_err-row c = λ earlier len read.
    let plain = sym c.is_printable.ensures ∙ c.if-not-is_printable.false in
    let from = c.from_first_word-words.ensures in let some : 0 < length c.from_first_word-words.result.now = grind arith in
    let cut = word_cut c.args.line.now _ from some in let byte = first_byte c.args.line.now _ from some in
    let fault = row_fault_is _ earlier read c.args.line.now _ _ plain cut (rw byte c.if-words-eq46.false) in grind (arith, common_steps)

pub returns : goal.returns
returns c = λ earlier len read.
    let from = c.from_first_word-words.ensures in let some : 0 < length c.from_first_word-words.result.now = grind arith in
    let cut = word_cut c.args.line.now _ from some in let byte = first_byte c.args.line.now _ from some in
    let facts = rw (c.sizes.ensures, c.len.ensures, c.unwrap_or-kind.ensures, ← len) at c.in_ok-row.ensures in
    rw c.in_ok-push.ensures.ok (adds_row (said c.args.self.now) earlier read c.args.line.now _ _
    (sym c.is_printable.ensures ∙ c.if-not-is_printable.false) cut (rw byte c.if-words-eq46.false) c.in_ok-row.row facts.0 facts.1)
