use Rattle.std.proofs.Common.{◌∙◌, Some, ap, sym}
use Rattle.circuit_run.proofs.Seeing.{care_found}
use Rattle.circuit_run.proofs.view.care_by.Goals as goal

pub returns-in-Some-output_named-clause-care : goal.returns-in-Some-output_named-clause-care
returns-in-Some-output_named-clause-care c =
    care_found c.args.names.now c.as_slice.result.now (c.in-Some.is ∙ ap Some (sym c.as_slice.ensures)) _ c.in-Some-output_named.ensures

pub returns-in-None-clause-care : goal.returns-in-None-clause-care
returns-in-None-clause-care c =
    care_found c.args.names.now c.as_slice.result.now (c.in-Some.is ∙ ap Some (sym c.as_slice.ensures)) _ c.in-None.ensures
