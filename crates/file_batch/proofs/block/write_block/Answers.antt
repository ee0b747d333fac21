use Rattle.std.proofs.Common.{◌≡◌, rules}
use Rattle.std.specs.List.{concat}
use Rattle.file_batch.specs.Blocks.{header}
use Rattle.outside.proofs.Known.{front_after, front_more, ok_after}
use Rattle.file_batch.proofs.block.write_block.Goals as goal

pub returns-in_err-write_whole-clause-front : goal.returns-in_err-write_whole-clause-front
returns-in_err-write_whole-clause-front g c =
    let out = g.K.Sink.held c.args.out.now in let next = g.K.Sink.held c.write_whole.new.out in
    let first = header c.args.number c.args.status in let texts = concat c.args.pages.now in
    let line : c.as_bytes.result.now ≡ first = search rules in
    front_more out next first texts (rw (← line) c.write_whole.ensures.front)

pub returns-clause-whole : goal.returns-clause-whole
returns-clause-whole g c =
    let out = g.K.Sink.held c.args.out.now in let next = g.K.Sink.held c.write_whole.new.out in
    let first = header c.args.number c.args.status in let texts = concat c.args.pages.now in
    let line : c.as_bytes.result.now ≡ first = search rules in
    ok_after out next (g.K.Sink.held c.write_pages.new.out) first texts
    c.write_pages.result (rw (← line) c.in_ok-write_whole.ensures.whole) c.write_pages.ensures.whole

pub returns-clause-front : goal.returns-clause-front
returns-clause-front g c =
    let out = g.K.Sink.held c.args.out.now in let next = g.K.Sink.held c.write_whole.new.out in
    let first = header c.args.number c.args.status in let texts = concat c.args.pages.now in
    let line : c.as_bytes.result.now ≡ first = search rules in
    front_after out next (g.K.Sink.held c.write_pages.new.out) first texts
    (rw (← line) c.in_ok-write_whole.ensures.whole) c.write_pages.ensures.front
