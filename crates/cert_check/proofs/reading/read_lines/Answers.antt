use Rattle.std.proofs.Common.{arith, rules}
use Rattle.std.proofs.lemmas.List.{nil_from_length}
use Rattle.std.proofs.lemmas.Bool.{eqb-true}
use Rattle.cert_check.proofs.LinesRead.{none_read, line_skipped, line_added, line_refused, output_missing, all_read, empty_is}
use Rattle.cert_check.proofs.reading.read_lines.Goals as goal

pub loop-rest-init : goal.loop-rest-init
loop-rest-init c = none_read c.args.ins.now c.args.outs.now c.args.text.now _ c.new-outputs.ensures.items

pub loop-rest-preserved-in-Ok : goal.loop-rest-preserved-in-Ok
loop-rest-preserved-in-Ok c = search (rules, arith, empty_is, line_added)

pub returns-in-Err : goal.returns-in-Err
returns-in-Err c = search (rules, arith, empty_is, line_refused)

pub loop-rest-preserved : goal.loop-rest-preserved
loop-rest-preserved c = search (rules, arith, empty_is, line_skipped)

pub returns-then-len-outs : goal.returns-then-len-outs
returns-then-len-outs c = search (rules, arith, nil_from_length, eqb-true, output_missing)

pub returns : goal.returns
returns c = search (rules, arith, nil_from_length, eqb-true, all_read)
