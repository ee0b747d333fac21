use Rattle.std.proofs.Common.{◌≡◌, ◌≤◌, ◌+◌, ◌++◌, length, length-append, length-take, [], take, refl, Ok, inl, inr, arith, rules}
use Rattle.std.proofs.KnownBytes.{Appends-nil, Consumes-kept, Consumes-nil}
use Rattle.std.specs.Io.KnownBytes.{Consumes, IsAtEnd}
use Rattle.outside.proofs.Known.{consumes_both}
use Rattle.file_stream.specs.Files.{files_of}
use Rattle.file_relay.specs.declared.reader.TheConstants.{MOST_STREAM}
use Rattle.file_batch.specs.Alone.{ArePartlyAnswered, IsAnswered}
use Rattle.file_batch.specs.Progress.{going}
use Rattle.file_batch.proofs.Answered.{alone_written, answered_part}
use Rattle.file_batch.proofs.alone.write_alone.Goals as goal

pub loop-total-init : goal.loop-total-init
loop-total-init g c = record {
  answered = (
    [],
    record {
      told = [];
      done = [];
      rest = [];
      at = c.new.ensures;
      cut = λ more. refl;
      files = tt;
      count = refl;
      progress = going [] refl (Appends-nil (g.K.Sink.held c.args.out.now));
    },
    Consumes-nil (g.S.Source.left c.args.source.now),
    refl,
  );
  cause = search (rules, arith);
  faults = refl;
  size = refl;
  number = omega arith;
  total = omega arith;
}

pub returns-in-Err-clause-part : goal.returns-in-Err-clause-part
returns-in-Err-clause-part g c =
    let answers = g.A.Answerer.answers c.args.answerer.now in
    let s = c.loop-total.invariant.answered in let h = s.1 in
    let p = answered_part answers (g.K.Sink.held c.args.out.now) (g.K.Sink.held c.loop-total.out)
    h.told h.done h.files c.loop-total.reading.written h.progress in
    record {
      read = s.0;
      done = h.done;
      count = p.0;
      text = p.1;
      lost = Consumes-kept (g.S.Source.left c.args.source.now) (g.S.Source.left c.loop-total.source) (g.S.Source.left c.read.new.self)
          s.0 s.2 c.in-Err.ensures.bytes;
      files = inl (h.rest, h.cut);
      blocks = p.2;
      gained = p.3;
    }

pub returns-clause-part : goal.returns-clause-part
returns-clause-part g c =
    let answers = g.A.Answerer.answers c.args.answerer.now in
    let s = c.loop-total.invariant.answered in let h = s.1 in
    let p = answered_part answers (g.K.Sink.held c.args.out.now) (g.K.Sink.held c.loop-total.out)
    h.told h.done h.files c.loop-total.reading.written h.progress in
    record { read = s.0; done = h.done; count = p.0; text = p.1; lost = s.2; files = inl (h.rest, h.cut); blocks = p.2; gained = p.3 }

pub returns-then-count-eq0-clause-whole : goal.returns-then-count-eq0-clause-whole
returns-then-count-eq0-clause-whole g c =
    let answers = g.A.Answerer.answers c.args.answerer.now in
    let s = c.loop-total.invariant.answered in let out = g.K.Sink.held c.args.out.now in
    let lost : Consumes (g.S.Source.left c.args.source.now) (g.S.Source.left c.read.new.self) s.0 = search (rules, s.2) in
    let ended : IsAtEnd (g.S.Source.left c.read.new.self) = search rules in
    let within : length s.0 ≤ MOST_STREAM = search (rules, arith, s.3) in
    alone_written answers (g.S.Source.left c.args.source.now) (g.S.Source.left c.read.new.self) out
    (g.K.Sink.held c.answer_last-written.new.out) s.0 c.stop_of.result (Ok tt) c.answer_last-written.result
    c.stop_of.ensures.done lost ended within
    (c.answer_last-written.ensures.all out s.0 s.1)

pub returns-then-count-eq0-clause-part : goal.returns-then-count-eq0-clause-part
returns-then-count-eq0-clause-part g c =
    let answers = g.A.Answerer.answers c.args.answerer.now in
    let s = c.loop-total.invariant.answered in let out = g.K.Sink.held c.args.out.now in
    let lost : Consumes (g.S.Source.left c.args.source.now) (g.S.Source.left c.read.new.self) s.0 = search (rules, s.2) in
    let ended : IsAtEnd (g.S.Source.left c.read.new.self) = search rules in
    let all = c.answer_last-written.ensures.all out s.0 s.1 in
    let p = answered_part answers out (g.K.Sink.held c.answer_last-written.new.out)
    all.told (files_of s.0) all.files c.answer_last-written.result all.progress in
    record { read = s.0; done = files_of s.0; count = p.0; text = p.1; lost = lost; files = inr (refl, ended); blocks = p.2; gained = p.3 }

pub returns-in_err-answer_piece-clause-part : goal.returns-in_err-answer_piece-clause-part
returns-in_err-answer_piece-clause-part g c =
    let answers = g.A.Answerer.answers c.args.answerer.now in
    let s = c.loop-total.invariant.answered in let out = g.K.Sink.held c.args.out.now in
    let got = take c.in-Ok.count c.read.new.buf in
    let k : ArePartlyAnswered answers out (g.K.Sink.held c.answer_piece.new.out) (s.0 ++ got)
    = c.in_err-answer_piece.ensures.refused out s.0 s.1 in
    let p = answered_part answers out (g.K.Sink.held c.answer_piece.new.out) k.told k.done k.files k.written k.progress in
    record {
      read = s.0 ++ got;
      done = k.done;
      count = p.0;
      text = p.1;
      lost = consumes_both _ _ _ s.0 got s.2 c.in-Ok.ensures.bytes.0;
      files = inl (k.rest, k.cut);
      blocks = p.2;
      gained = p.3;
    }

pub loop-total-preserved : goal.loop-total-preserved
loop-total-preserved g c =
    let answers = g.A.Answerer.answers c.args.answerer.now in
    let was = c.loop-total.invariant in let s = was.answered in let out = g.K.Sink.held c.args.out.now in
    let got = take c.in-Ok.count c.read.new.buf in
    let answered : IsAnswered answers out (g.K.Sink.held c.answer_piece.new.out) c.answer_piece.new.reading (s.0 ++ got)
    = c.in_ok-answer_piece.ensures.fed out s.0 s.1 in
    let lost = consumes_both _ _ _ s.0 got s.2 c.in-Ok.ensures.bytes.0 in
    let bound = c.in-Ok.ensures.bound in
    let long : length got ≡ c.in-Ok.count = search (rules, arith, length-take) in
    let total : c.loop-total.total + c.in-Ok.count ≡ length (s.0 ++ got) = omega (arith, length-append s.0 got, s.3, long) in
    record {
      answered = (s.0 ++ got, answered, lost, total);
      cause = c.answer_piece.ensures.cause (g.K.Sink.faults c.args.out.now) was.cause;
      faults = search rules;
      size = search (rules, arith);
      number = search (rules, arith);
      total = search (rules, arith);
    }
