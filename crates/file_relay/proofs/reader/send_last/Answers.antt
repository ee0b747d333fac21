use Rattle.std.proofs.Common.{◌≡◌, ◌+◌, ◌++◌, [], ◌∷◌, length, ap, ◌∙◌, append-nil, arith}
use Rattle.crossbeam_channel.specs.Claims.{view}
use Rattle.file_stream.specs.Files.{files_of}
use Rattle.file_stream.proofs.Cuts.{cut_end}
use Rattle.file_relay.specs.declared.message.Message.TheVariants.{File}
use Rattle.file_relay.proofs.Files.{have-snoc}
use Rattle.file_relay.proofs.Messages.{sent_one}
use Rattle.file_relay.proofs.reader.send_last.Goals as goal

pub returns-in-Some-clause-all : goal.returns-in-Some-clause-all
returns-in-Some-clause-all g c read h =
    let m = File (c.args.number + 1) c.in-Some.file in
    let one = sent_one (view c.args.pass.now) (view c.send.new.pass) m c.requires.role c.send.ensures.sent in
    let last = c.in-Some.ensures h.rest h.at in
    let number : c.args.number + 1 ≡ 1 + length h.done = omega (arith, h.count) in
    let files : files_of read ≡ h.done ++ h.rest ∷ [] = cut_end read h.done h.rest h.cut ∙ ap (λ t. h.done ++ t) last.1 in
    rw (one.1, files) (have-snoc 1 (view c.args.pass.now).sent h.done m h.rest h.files (number, last.0))

pub returns-in_default-clause-all : goal.returns-in_default-clause-all
returns-in_default-clause-all g c read h =
    let none : files_of h.rest ≡ [] = c.in_default.ensures h.rest h.at in
    let files : files_of read ≡ h.done = cut_end read h.done h.rest h.cut ∙ (ap (λ t. h.done ++ t) none ∙ append-nil h.done) in
    rw files h.files
