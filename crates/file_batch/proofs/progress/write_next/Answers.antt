use Rattle.std.proofs.Common.{◌≡◌, true, false, [], refl, rules}
use Rattle.std.specs.Prelude.{is_err}
use Rattle.std.proofs.KnownBytes.{Appends-nil}
use Rattle.lattice.proofs.Polynomials.{on_err}
use Rattle.file_batch.specs.Progress.{whole}
use Rattle.file_batch.proofs.Told.{no_err, no_ok, on_ok, one_more}
use Rattle.file_batch.proofs.progress.write_next.Goals as goal

pub returns-then-is_err-clause-progress : goal.returns-then-is_err-clause-progress
returns-then-is_err-clause-progress g c start got p =
    let e : is_err c.args.written ≡ true = search rules in
    one_more (g.A.Answerer.answers c.args.answerer.now) start _ _ got c.args.message.now c.args.written c.args.written p
    (no_ok _ c.args.written e) (on_err c.args.written (refl, refl))

pub returns-in-File-clause-progress : goal.returns-in-File-clause-progress
returns-in-File-clause-progress g c start got p =
    let e : is_err c.args.written ≡ false = search rules in
    rw c.in-File.is (one_more (g.A.Answerer.answers c.args.answerer.now) start _ _ got _ c.args.written c.write_answer.result p
    (on_ok c.args.written c.write_answer.ensures.wrote) (no_err _ c.args.written e))

pub returns-in-End-clause-progress : goal.returns-in-End-clause-progress
returns-in-End-clause-progress g c start got p =
    let e : is_err c.args.written ≡ false = search rules in
    rw c.in-End.is (one_more (g.A.Answerer.answers c.args.answerer.now) start _ _ got _ c.args.written _ p
    (on_ok c.args.written (whole [] refl (Appends-nil (g.K.Sink.held c.args.out.now)))) (no_err _ c.args.written e))
