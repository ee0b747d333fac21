use Rattle.std.proofs.Common.{◌∷◌, ◌∙◌, [], length, length-append, arith, rules, sym, refl}
use Rattle.std.proofs.lemmas.Slice.Zip.{zip_turn}
use Rattle.lattice.proofs.Polynomials.{on_err}
use Rattle.watch.proofs.LeftAfter.{left_after_all-nil}
use Rattle.program.proofs.Streams.{appends_nothing}
use Rattle.outside.proofs.Known.{page_begun, page_written}
use Rattle.program.proofs.Written.{room_for_more, stopped_at, told_more}
use Rattle.program.proofs.pages.write_pages.Goals as goal

pub loop-page-init : goal.loop-page-init
loop-page-init g c = record { gained = appends_nothing (g.K.Sink.held c.args.out.now); faults = refl; told = sym (left_after_all-nil _) }

pub returns-in_err-write_whole-clause-less : goal.returns-in_err-write_whole-clause-less
returns-in_err-write_whole-clause-less g c =
    let turn = zip_turn c.args.pages.now c.args.notes.now c.loop-page.yielded c.into_iter-page-iterator.result c.loop-page.page-iterator
    c.next.new.self c.next.result (search rules) (search rules) c.loop-page.yielded_by (c.in-Some.page, c.in-Some.note) c.in-Some.is
    c.next.ensures.steps in
    on_err c.from_residual.result (page_begun c.args.pages.now (length c.loop-page.yielded)
    c.as_slice.result.now turn.0 (g.K.Sink.held c.args.out.now)
    (g.K.Sink.held c.loop-page.out) (g.K.Sink.held c.write_whole.new.out) c.as_slice.result.now
    (c.as_slice.ensures ∙ turn.2 c.as_slice.result.now) c.loop-page.invariant.gained c.in_err-write_whole.ensures.less)

pub returns-in_err-write_whole-clause-stopped : goal.returns-in_err-write_whole-clause-stopped
returns-in_err-write_whole-clause-stopped g c =
    let turn = zip_turn c.args.pages.now c.args.notes.now c.loop-page.yielded c.into_iter-page-iterator.result c.loop-page.page-iterator
    c.next.new.self c.next.result (search rules) (search rules) c.loop-page.yielded_by (c.in-Some.page, c.in-Some.note) c.in-Some.is
    c.next.ensures.steps in
    on_err c.from_residual.result
    (stopped_at (g.K.Sink.held c.args.out.now) (g.K.Sink.held c.loop-page.out) (g.K.Sink.held c.write_whole.new.out)
    c.args.pages.now c.args.notes.now
    (length c.loop-page.yielded) c.as_slice.result.now _ _ turn.0 (c.as_slice.ensures ∙ turn.2 c.as_slice.result.now)
    c.loop-page.invariant.gained c.in_err-write_whole.ensures.less c.loop-page.invariant.told)

pub tell-requires : goal.tell-requires
tell-requires g c =
    let turn = zip_turn c.args.pages.now c.args.notes.now c.loop-page.yielded c.into_iter-page-iterator.result c.loop-page.page-iterator
    c.next.new.self c.next.result (search rules) (search rules) c.loop-page.yielded_by (c.in-Some.page, c.in-Some.note) c.in-Some.is
    c.next.ensures.steps in
    record {
      room = room_for_more c.args.notes.now (length c.loop-page.yielded) _ _ turn.1 (omega (arith, c.requires.size, c.requires.few))
          c.requires.untold c.loop-page.invariant.told;
    }

pub loop-page-preserved : goal.loop-page-preserved
loop-page-preserved g c =
    let turn = zip_turn c.args.pages.now c.args.notes.now c.loop-page.yielded c.into_iter-page-iterator.result c.loop-page.page-iterator
    c.next.new.self c.next.result (search rules) (search rules) c.loop-page.yielded_by (c.in-Some.page, c.in-Some.note) c.in-Some.is
    c.next.ensures.steps in
    let size = length-append c.loop-page.yielded ((c.in-Some.page, c.in-Some.note) ∷ []) in
    record {
      gained = rw size (page_written c.args.pages.now (length c.loop-page.yielded) c.as_slice.result.now turn.0
          (g.K.Sink.held c.args.out.now) (g.K.Sink.held c.loop-page.out) (g.K.Sink.held c.write_whole.new.out) c.as_slice.result.now
          (c.as_slice.ensures ∙ turn.2 c.as_slice.result.now) c.loop-page.invariant.gained c.in_ok-write_whole.ensures.whole);
      faults = c.in_ok-write_whole.ensures.cause.kept ∙ c.loop-page.invariant.faults;
      told = rw size (told_more c.args.notes.now (length c.loop-page.yielded) c.in-Some.note.now _ _ _ turn.1 (turn.3 c.in-Some.note.now)
          c.loop-page.invariant.told c.tell.ensures.left);
    }
