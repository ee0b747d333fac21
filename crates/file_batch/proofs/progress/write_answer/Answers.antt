use Rattle.std.proofs.Common.{◌++◌, refl}
use Rattle.std.specs.List.{concat}
use Rattle.file_batch.specs.Blocks.{header}
use Rattle.file_batch.specs.Progress.{nothing, part, whole}
use Rattle.file_batch.proofs.progress.write_answer.Goals as goal

pub returns-in_default-clause-wrote : goal.returns-in_default-clause-wrote
returns-in_default-clause-wrote g c = nothing refl

pub returns-in-Ok-write_block-clause-wrote : goal.returns-in-Ok-write_block-clause-wrote
returns-in-Ok-write_block-clause-wrote g c =
    let status = c.in-Ok.answer.status in let pages = c.as_slice.result.now in
    whole (header c.args.number status ++ concat pages) (λ file piece. record {
      status = status;
      pages = pages;
      answered = rw c.as_slice.ensures (c.in-Ok.ensures file piece);
      text_is = refl;
    }) c.in-Ok-write_block.ensures.whole

pub returns-clause-wrote : goal.returns-clause-wrote
returns-clause-wrote g c =
    let status = c.in-Ok.answer.status in let pages = c.as_slice.result.now in
    part (header c.args.number status ++ concat pages) (λ file piece. record {
      status = status;
      pages = pages;
      answered = rw c.as_slice.ensures (c.in-Ok.ensures file piece);
      text_is = refl;
    }) c.in-Err.ensures.front
