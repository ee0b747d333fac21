use Rattle.std.proofs.Common.{◌≡◌, ◌+◌, ◌++◌, [], ◌∷◌, length, ap, ◌∙◌, append-nil, arith}
use Rattle.file_stream.specs.Files.{files_of}
use Rattle.file_stream.proofs.Cuts.{cut_end}
use Rattle.file_relay.specs.declared.message.Message.TheVariants.{File}
use Rattle.file_relay.proofs.Files.{have-snoc}
use Rattle.file_batch.proofs.alone.answer_last.Goals as goal

pub returns-clause-all : goal.returns-clause-all
returns-clause-all g c start read h =
    let m = File (c.args.reading.number + 1) c.in-Some.file in
    let last = c.in-Some.ensures h.rest h.at in
    let number : c.args.reading.number + 1 ≡ 1 + length h.done = omega (arith, h.count) in
    let files : files_of read ≡ h.done ++ h.rest ∷ [] = cut_end read h.done h.rest h.cut ∙ ap (λ t. h.done ++ t) last.1 in
    record {
      told = h.told ++ m ∷ [];
      files = rw files (have-snoc 1 h.told h.done m h.rest h.files (number, last.0));
      progress = c.write_next.ensures.progress start h.told h.progress;
    }

pub returns-in_default-clause-all : goal.returns-in_default-clause-all
returns-in_default-clause-all g c start read h =
    let none : files_of h.rest ≡ [] = c.in_default.ensures h.rest h.at in
    let files : files_of read ≡ h.done = cut_end read h.done h.rest h.cut ∙ (ap (λ t. h.done ++ t) none ∙ append-nil h.done) in
    record { told = h.told; files = rw files h.files; progress = h.progress }
