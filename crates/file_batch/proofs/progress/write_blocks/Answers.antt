use Rattle.std.proofs.Common.{◌≡◌, true, false, [], refl, sym, ◌∙◌, arith, rules}
use Rattle.std.proofs.KnownBytes.{Appends-nil}
use Rattle.crossbeam_channel.specs.Claims.{view}
use Rattle.file_relay.specs.Messages.{is_end}
use Rattle.file_relay.proofs.Messages.{ends-snoc, got_one, no_end-snoc, other_than_end}
use Rattle.file_relay.specs.declared.message.Message.TheVariants.{End}
use Rattle.file_batch.specs.Progress.{going}
use Rattle.file_batch.proofs.Parts.{alone_before, some_left}
use Rattle.file_batch.proofs.progress.write_blocks.Goals as goal

pub loop-init : goal.loop-init
loop-init g c = record {
  channel = (c.requires.channel, refl);
  role = search rules;
  unended = rw c.requires.fresh refl;
  progress = rw c.requires.fresh (going [] refl (Appends-nil (g.K.Sink.held c.args.out.now)));
  untouched = λ none. refl;
  cause = search (rules, arith);
}

pub returns-in-End-clause-untouched : goal.returns-in-End-clause-untouched
returns-in-End-clause-untouched g c alone =
    let was = c.loop.invariant in let m = c.take-message.result in let got = (view c.loop.pass).got in
    let one = got_one (view c.loop.pass) (view c.take-message.new.pass) m was.role c.take-message.ensures.got in
    c.write_next-written.ensures.untouched c.in-End.is ∙ was.untouched (alone_before got m End (sym one.1 ∙ alone))

pub returns-in-End-clause-ends : goal.returns-in-End-clause-ends
returns-in-End-clause-ends g c =
    let was = c.loop.invariant in let m = c.take-message.result in
    let one = got_one (view c.loop.pass) (view c.take-message.new.pass) m was.role c.take-message.ensures.got in
    let last : is_end m ≡ true = rw c.in-End.is refl in
    rw one.1 (ends-snoc (view c.loop.pass).got m was.unended last)

pub loop-preserved-in_default : goal.loop-preserved-in_default
loop-preserved-in_default g c =
    let was = c.loop.invariant in let m = c.take-message.result in let w = c.write_next-written in
    let got = (view c.loop.pass).got in
    let one = got_one (view c.loop.pass) (view c.take-message.new.pass) m was.role c.take-message.ensures.got in
    let other : is_end m ≡ false = other_than_end m c.in_default.not-End in record {
      channel = (c.take-message.ensures.channel.0, c.take-message.ensures.channel.1 ∙ was.channel.1);
      role = one.0;
      unended = rw one.1 (no_end-snoc got m was.unended other);
      progress = rw one.1 (w.ensures.progress (g.K.Sink.held c.args.out.now) got was.progress);
      untouched = λ none. absurd (some_left got m (sym one.1 ∙ none));
      cause = w.ensures.cause (g.K.Sink.faults c.args.out.now) was.cause;
    }

pub loop-preserved-in_default-2 : goal.loop-preserved-in_default-2
loop-preserved-in_default-2 g c =
    let was = c.loop.invariant in let m = c.take-message.result in let w = c.write_next-written in
    let got = (view c.loop.pass).got in
    let one = got_one (view c.loop.pass) (view c.take-message.new.pass) m was.role c.take-message.ensures.got in
    let other : is_end m ≡ false = other_than_end m c.in_default.not-End in record {
      channel = (c.take-message.ensures.channel.0, c.take-message.ensures.channel.1 ∙ was.channel.1);
      role = one.0;
      unended = rw one.1 (no_end-snoc got m was.unended other);
      progress = rw one.1 (w.ensures.progress (g.K.Sink.held c.args.out.now) got was.progress);
      untouched = λ none. absurd (some_left got m (sym one.1 ∙ none));
      cause = w.ensures.cause (g.K.Sink.faults c.args.out.now) was.cause;
    }
