use Rattle.std.proofs.Common.{◌≡◌, ◌++◌, ◌∷◌, ◌∙◌, [], refl, inl}
use Rattle.std.proofs.KnownBytes.{Appends-nil, Consumes-nil}
use Rattle.crossbeam_channel.specs.Claims.{view}
use Rattle.file_relay.specs.declared.message.Message.TheVariants.{End}
use Rattle.outside.proofs.Known.{all_front}
use Rattle.file_batch.proofs.Parts.{all_written, progress_part, sent_whole}
use Rattle.file_batch.proofs.branches.write_batch.Goals as goal

pub returns-in_default-clause-part : goal.returns-in_default-clause-part
returns-in_default-clause-part g c = record {
  read = [];
  done = [];
  count = 0;
  text = [];
  lost = Consumes-nil (g.S.Source.left c.args.source.now);
  files = inl ([], λ more. refl);
  blocks = refl;
  gained = all_front (g.K.Sink.held c.args.out.now) (g.K.Sink.held c.args.out.now) [] (Appends-nil (g.K.Sink.held c.args.out.now));
}

pub returns-in-Read-clause-whole : goal.returns-in-Read-clause-whole
returns-in-Read-clause-whole g c =
    let r = c.run_both-written in
    all_written (g.A.Answerer.answers c.args.answerer.now) (g.S.Source.left c.args.source.now) (g.S.Source.left r.new.source)
    (g.K.Sink.held c.args.out.now) (g.K.Sink.held r.new.out) (view r.new.link.taking).got (view r.new.link.sending).sent
    c.stop_of.result c.in-Read.read r.result.0 c.stop_of.ensures.done (rw c.in-Read.is at r.ensures.whole) c.settle.ensures
    r.ensures.progress

pub returns-in-Read-clause-part : goal.returns-in-Read-clause-part
returns-in-Read-clause-part g c =
    let r = c.run_both-written in
    let s = sent_whole (g.S.Source.left c.args.source.now) (g.S.Source.left r.new.source) (view r.new.link.sending).sent c.in-Read.read
    (rw c.in-Read.is at r.ensures.whole) (rw c.in-Read.is at r.ensures.part) in
    let got : (view r.new.link.taking).got ≡ s.0 ++ End ∷ [] = c.settle.ensures ∙ s.3 in
    let p = progress_part (g.A.Answerer.answers c.args.answerer.now) (g.K.Sink.held c.args.out.now) (g.K.Sink.held r.new.out)
    (view r.new.link.taking).got s.0 s.2 got s.4 r.result.0 r.ensures.progress in
    record { read = s.1; done = s.2; count = p.0; text = p.1; lost = s.5; files = s.6; blocks = p.2; gained = p.3 }

pub returns-clause-through : goal.returns-clause-through
returns-clause-through g c =
    let same = c.run_both-written.ensures.unread c.in-Unread.is in rw same.0 at c.write_alone.ensures.through
