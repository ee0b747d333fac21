use Rattle.std.proofs.Common.{rules, arith, ◌≡◌, ◌+◌, ◌++◌, ◌∙◌, take, length, length-append, length-take}
use Rattle.crossbeam_channel.specs.Claims.{view}
use Rattle.outside.proofs.Known.{consumes_both}
use Rattle.file_stream.specs.Files.{files_of}
use Rattle.file_relay.specs.Reading.{ArePartly, IsSent}
use Rattle.lattice.proofs.Polynomials.{on_err}
use Rattle.file_relay.proofs.Files.{no_end_of}
use Rattle.file_relay.proofs.reader.send_stream.Goals as goal

pub returns-in-Err-clause-unended : goal.returns-in-Err-clause-unended
returns-in-Err-clause-unended g c =
    let s = c.loop-total.invariant.sent.1 in no_end_of 1 (view c.loop-total.pass).sent s.done s.files

pub returns-clause-unended : goal.returns-clause-unended
returns-clause-unended g c =
    let s = c.loop-total.invariant.sent.1 in no_end_of 1 (view c.loop-total.pass).sent s.done s.files

pub returns-then-count-eq0-clause-unended : goal.returns-then-count-eq0-clause-unended
returns-then-count-eq0-clause-unended g c =
    let s = c.loop-total.invariant.sent in no_end_of 1 (view c.send_last.new.pass).sent (files_of s.0) (c.send_last.ensures.all s.0 s.1)

pub returns-then-count-eq0-clause-whole : goal.returns-then-count-eq0-clause-whole
returns-then-count-eq0-clause-whole g c =
    let s = c.loop-total.invariant.sent in
    record {
      read = s.0;
      lost = search (rules, s.2);
      ended = search rules;
      within = search (rules, arith, s.3);
      files = c.send_last.ensures.all s.0 s.1;
    }

pub returns-in_err-send_piece-clause-unended : goal.returns-in_err-send_piece-clause-unended
returns-in_err-send_piece-clause-unended g c =
    let s = c.loop-total.invariant.sent in
    let k = c.in_err-send_piece.ensures.refused s.0 s.1 in no_end_of 1 (view c.send_piece.new.pass).sent k.0 k.3

pub returns-in_err-send_piece-clause-part : goal.returns-in_err-send_piece-clause-part
returns-in_err-send_piece-clause-part g c =
    let s = c.loop-total.invariant.sent in
    let got = take c.in-Ok.count c.read.new.buf in
    let k : ArePartly (s.0 ++ got) (view c.send_piece.new.pass).sent = c.in_err-send_piece.ensures.refused s.0 s.1 in
    on_err c.from_residual.result (record {
      read = s.0 ++ got;
      done = k.0;
      rest = k.1;
      lost = consumes_both _ _ _ s.0 got s.2 c.in-Ok.ensures.bytes.0;
      cut = k.2;
      files = k.3;
    })

pub loop-total-preserved : goal.loop-total-preserved
loop-total-preserved g c =
    let was = c.loop-total.invariant in
    let s = was.sent in
    let got = take c.in-Ok.count c.read.new.buf in
    let sent : IsSent c.send_piece.new.cutter c.send_piece.new.number (s.0 ++ got) (view c.send_piece.new.pass).sent
    = c.in_ok-send_piece.ensures.fed s.0 s.1 in
    let lost = consumes_both _ _ _ s.0 got s.2 c.in-Ok.ensures.bytes.0 in
    let bound = c.in-Ok.ensures.bound in
    let long : length got ≡ c.in-Ok.count = search (rules, arith, length-take) in
    let total : c.loop-total.total + c.in-Ok.count ≡ length (s.0 ++ got) = omega (arith, length-append s.0 got, s.3, long) in
    record {
      channel = (c.send_piece.ensures.channel.0, c.send_piece.ensures.channel.1 ∙ was.channel.1);
      role = c.send_piece.ensures.role;
      sent = (s.0 ++ got, sent, lost, total);
      faults = search rules;
      size = search (rules, arith);
      number = search (rules, arith);
      total = search (rules, arith);
    }
