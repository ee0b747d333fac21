use Rattle.std.proofs.Common.{length, map, reverse, sym, subst}
use Rattle.std.specs.List.{All}
use Rattle.lattice.specs.Words.{IsFamily}
use Rattle.anf_printer.proofs.answer.output_text.Goals as goal

pub push_basis-requires : goal.push_basis-requires
push_basis-requires c = subst (λ elements. All (IsFamily (length c.args.names.now)) (map reverse elements)) (sym c.as_slice-2.ensures)
    c.requires.basis
