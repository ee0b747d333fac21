use Rattle.std.proofs.Common.{[], ◌∷◌, map, reverse, sym, ap, ◌∙◌, subst}
use Rattle.std.specs.List.{All}
use Rattle.std.proofs.lemmas.List.{map-append}
use Rattle.std.proofs.lemmas.List.Elements.{All-push}
use Rattle.lattice.specs.Words.{IsFamily}
use Rattle.file_tests.proofs.of_anf_printer.shown.Goals as goal

pub loop-element-preserved : goal.loop-element-preserved
loop-element-preserved c =
    let all = All-push (IsFamily c.args.inputs) _ _ c.loop-element.invariant c.in_ok-polynomial.ensures in
    subst (All (IsFamily c.args.inputs))
    (sym (ap (map reverse) c.in_ok-push.ensures.ok ∙ map-append reverse c.loop-element.basis (c.in_ok-polynomial.field-0 ∷ []))) all
