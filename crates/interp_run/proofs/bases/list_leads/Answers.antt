use Rattle.std.proofs.Common.{◌≡◌, ◌∙◌, [], ap, cond, false, map, rules, sym}
use Rattle.lattice.specs.Words.{leads_of, standard_of, is_basis, output_numbers}
use Rattle.pla_reader.specs.Reading.{description}
use Rattle.interp_run.specs.Phases.{points_in}
use Rattle.interp_run.proofs.bases.list_leads.Goals as goal

pub returns-in_ok-list_no_leads-in-Anf-clause-leads : goal.returns-in_ok-list_no_leads-in-Anf-clause-leads
returns-in_ok-list_no_leads-in-Anf-clause-leads g c =
    let d = description c.args.pla.now in let bare : is_basis c.args.mode ≡ false = search rules in
    c.in_ok-list_no_leads-in-Anf.ensures
    ∙ ap (λ b. map (λ o. cond b (leads_of d.inputs (standard_of d.inputs (points_in d o))) []) (output_numbers d.outputs)) (sym bare)
