use Rattle.std.proofs.Common.{arith}
use Rattle.std.proofs.lemmas.List.{take_rest, nil_from_length}
use Rattle.cert_check.proofs.checking.tail_of.Goals as goal

pub returns-in-len1-up : goal.returns-in-len1-up
returns-in-len1-up c = take_rest c.args.terms.now 1

pub returns-in-empty : goal.returns-in-empty
returns-in-empty c = rw (nil_from_length c.args.terms.now (omega arith))
