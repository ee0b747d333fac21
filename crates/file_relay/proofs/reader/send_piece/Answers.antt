use Rattle.std.proofs.Common.{◌≡◌, ◌++◌, take, drop, ap, ◌∙◌, subst, append_assoc, take-append-drop}
use Rattle.lattice.proofs.Polynomials.{on_err}
use Rattle.file_stream.specs.Files.{IsCut}
use Rattle.file_stream.proofs.Cuts.{cut_more}
use Rattle.file_relay.proofs.reader.send_piece.Goals as goal

pub returns-in_err-send_next-clause-refused : goal.returns-in_err-send_next-clause-refused
returns-in_err-send_next-clause-refused g c read h =
    let bytes = c.args.bytes.now in let i = c.loop-byte.byte-index in
    let front = take i bytes in let later = drop i bytes in
    let k = c.in_err-send_next.ensures.refused (read ++ front) (c.loop-byte.invariant.fed read h) in
    let text : (read ++ front) ++ later ≡ read ++ bytes = append_assoc read front later ∙ ap (λ t. read ++ t) (take-append-drop i bytes) in
    on_err c.from_residual.result (
      k.done,
      k.rest ++ later,
      subst (λ t. IsCut t k.done (k.rest ++ later)) text (cut_more (read ++ front) k.done k.rest later k.cut),
      k.files,
    )
