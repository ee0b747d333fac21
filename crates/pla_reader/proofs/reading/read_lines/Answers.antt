use Rattle.std.proofs.Common.{refl, true, false, sym, ◌∙◌, arith}
use Rattle.std.proofs.lemmas.List.{nil_from_length}
use Rattle.std.proofs.lemmas.Bool.{eqb-true}
use Rattle.pla_reader.proofs.Whole.{step, stopped, whole_read, end_of_text}
use Rattle.pla_reader.proofs.reading.read_lines.Goals as goal

pub returns-in-Ok-true : goal.returns-in-Ok-true
returns-in-Ok-true c =
    let cut = c.split_line.ensures in let adds = rw (c.content.ensures, c.in-Ok-true.field-0-test) at c.in-Ok-true.ensures in
    whole_read _ _ _ _ _ (step _ _ _ _ c.loop-rest.invariant _ _ cut.first cut.some cut.all _ true adds) refl

pub loop-rest-preserved : goal.loop-rest-preserved
loop-rest-preserved c =
    let cut = c.split_line.ensures in let adds = rw (c.content.ensures, c.in-Ok-false.field-0-test) at c.in-Ok-false.ensures in
    step _ _ _ _ c.loop-rest.invariant _ _ cut.first cut.some cut.all _ false adds

pub returns-in-Err : goal.returns-in-Err
returns-in-Err c =
    let cut = c.split_line.ensures in let adds = rw c.content.ensures at c.in-Err.ensures in
    rw c.of_line.ensures (stopped _ _ _ _ c.loop-rest.invariant _ _ cut.first cut.some cut.all _ adds)

pub returns : goal.returns
returns c =
    let nothing = nil_from_length c.loop-rest.rest.now (eqb-true _ _ (sym c.is_empty.ensures ∙ c.loop-rest-test.false)) in
    whole_read _ _ _ _ _ (rw (nothing, end_of_text) at c.loop-rest.invariant) (omega arith)
