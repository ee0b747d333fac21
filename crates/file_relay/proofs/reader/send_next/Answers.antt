use Rattle.std.proofs.Common.{◌≡◌, ◌+◌, ◌++◌, [], ◌∷◌, length, length-append, arith}
use Rattle.crossbeam_channel.specs.Claims.{view}
use Rattle.file_stream.proofs.Cuts.{cut_file, cut_more}
use Rattle.file_relay.specs.declared.message.Message.TheVariants.{File}
use Rattle.lattice.proofs.Polynomials.{on_err}
use Rattle.file_relay.proofs.Files.{have-snoc}
use Rattle.file_relay.proofs.Messages.{sent_one}
use Rattle.file_relay.proofs.reader.send_next.Goals as goal

pub returns-in_err-file-clause-refused : goal.returns-in_err-file-clause-refused
returns-in_err-file-clause-refused g c read h = on_err c.from_residual.result (record {
  done = h.done;
  rest = h.rest;
  at = c.in_err-file.ensures.refused h.rest h.at;
  cut = h.cut;
  files = h.files;
  count = h.count;
})

pub returns-in-Some-clause-fed : goal.returns-in-Some-clause-fed
returns-in-Some-clause-fed g c read h =
    let b = c.args.byte in
    let file = h.rest ++ b ∷ [] in
    let m = File (c.args.number.now + 1) c.in-Some.file in
    let one = sent_one (view c.args.pass.now) (view c.send.new.pass) m c.requires.role c.send.ensures.sent in
    let fed = c.in_ok-file.ensures.fed h.rest h.at in
    let ended = rw c.in-Some.is at fed in
    let number : c.args.number.now + 1 ≡ 1 + length h.done = omega (arith, h.count) in
    record {
      done = h.done ++ file ∷ [];
      rest = [];
      at = ended.2;
      cut = cut_file read h.done h.rest (b ∷ []) h.cut ended.1;
      files = rw one.1 (have-snoc 1 (view c.args.pass.now).sent h.done m file h.files (number, ended.0));
      count = omega (arith, length-append h.done (file ∷ []), h.count);
    }

pub returns-in_default-clause-fed : goal.returns-in_default-clause-fed
returns-in_default-clause-fed g c read h =
    let b = c.args.byte in
    let fed = c.in_ok-file.ensures.fed h.rest h.at in
    let open_still = rw c.in_default.is at fed in
    record {
      done = h.done;
      rest = h.rest ++ b ∷ [];
      at = open_still;
      cut = cut_more read h.done h.rest (b ∷ []) h.cut;
      files = h.files;
      count = h.count;
    }
