use Rattle.std.proofs.Common.{◌≡◌, ◌∙◌, ◌<◌, ◌≤◌, length, get_or, refl, subst, arith, rules}
use Rattle.std.proofs.KnownBytes.{Appends-nil}
use Rattle.std.proofs.lemmas.List.{take_all}
use Rattle.std.specs.Io.KnownBytes.{Appends}
use Rattle.std.specs.List.{concat}
use Rattle.outside.proofs.Known.{all_front, less_front, page_begun, page_written}
use Rattle.file_batch.proofs.block.write_pages.Goals as goal

pub loop-page-init : goal.loop-page-init
loop-page-init g c = record { gained = Appends-nil (g.K.Sink.held c.args.out.now); faults = refl }

pub returns-in_err-write_whole-clause-front : goal.returns-in_err-write_whole-clause-front
returns-in_err-write_whole-clause-front g c =
    let i = c.loop-page.page-index in let page = c.as_slice.result.now in
    let within : i < length c.args.pages.now = search (rules, arith) in
    let is : page ≡ get_or c.args.pages.now i page = search rules in
    less_front (g.K.Sink.held c.args.out.now) (g.K.Sink.held c.write_whole.new.out) _
    (page_begun c.args.pages.now i page within (g.K.Sink.held c.args.out.now) (g.K.Sink.held c.loop-page.out)
    (g.K.Sink.held c.write_whole.new.out) page is c.loop-page.invariant.gained c.in_err-write_whole.ensures.less)

pub loop-page-preserved : goal.loop-page-preserved
loop-page-preserved g c =
    let i = c.loop-page.page-index in let page = c.as_slice.result.now in
    let within : i < length c.args.pages.now = search (rules, arith) in
    let is : page ≡ get_or c.args.pages.now i page = search rules in
    record {
      gained = page_written c.args.pages.now i page within (g.K.Sink.held c.args.out.now) (g.K.Sink.held c.loop-page.out)
          (g.K.Sink.held c.write_whole.new.out) page is c.loop-page.invariant.gained c.in_ok-write_whole.ensures.whole;
      faults = c.in_ok-write_whole.ensures.cause.kept ∙ c.loop-page.invariant.faults;
    }

pub returns-clause-whole : goal.returns-clause-whole
returns-clause-whole g c =
    let all : length c.args.pages.now ≤ c.loop-page.page-index = search (rules, arith) in
    subst (λ ps. Appends (g.K.Sink.held c.args.out.now) (g.K.Sink.held c.loop-page.out) (concat ps))
    (take_all c.loop-page.page-index c.args.pages.now all) c.loop-page.invariant.gained

pub returns-clause-front : goal.returns-clause-front
returns-clause-front g c =
    all_front (g.K.Sink.held c.args.out.now) (g.K.Sink.held c.loop-page.out) _ (returns-clause-whole g c)
