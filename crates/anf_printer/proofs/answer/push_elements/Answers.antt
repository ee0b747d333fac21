use Rattle.std.proofs.Common.{length, reverse, sym, subst}
use Rattle.lattice.specs.Words.{IsFamily}
use Rattle.anf_printer.proofs.Texts.{element_is_family}
use Rattle.anf_printer.proofs.answer.push_elements.Goals as goal

pub push_line-requires : goal.push_line-requires
push_line-requires c =
    let family = element_is_family _ _ _ _ c.requires c.loop-terms-test.true c.terms-item.is in
    subst (λ terms. IsFamily (length c.args.names.now) (reverse terms)) (sym c.as_slice.ensures) family
