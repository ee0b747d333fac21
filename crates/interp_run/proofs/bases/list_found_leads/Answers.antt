use Rattle.std.proofs.Common.{ap, arith, map, ◌∙◌}
use Rattle.std.proofs.lemmas.List.Elements.{All-drop}
use Rattle.std.proofs.lemmas.Result.{IfOk-weaker, on_ok_weaker}
use Rattle.lattice.specs.Words.{output_numbers}
use Rattle.node_store.specs.Stores.{Knows, family}
use Rattle.pla_reader.specs.Reading.{description}
use Rattle.node_store.proofs.StoreLaws.{families_later}
use Rattle.interp_run.specs.Phases.{task}
use Rattle.interp_run.specs.declared.tasks.Part.TheVariants.{Leads}
use Rattle.interp_run.proofs.GroupedElements.{leads_listed, polynomials_enough, terms_parted}
use Rattle.interp_run.proofs.bases.list_found_leads.Goals as goal

pub split_at-requires : goal.split_at-requires
split_at-requires g c = let d = description c.args.pla.now in polynomials_enough (g.S.Store.state c.args.store.now) d c.args.found.now
    (map (task Leads) (output_numbers d.outputs)) c.requires

pub returns-clause-terms : goal.returns-clause-terms
returns-clause-terms g c is =
    let all = terms_parted (g.S.Store.state c.args.store.now) (g.S.Store.state c.count_terms.new.store) c.args.found.now _ _
    c.args.pla.now.outputs c.count_terms.ensures.reads.grows c.requires.0 c.split_at.ensures.front c.split_at.ensures.back in
    omega (arith, all, c.in-Some.ensures.count, c.in-Some.ensures.within, c.lists_of.ensures.over is)

pub returns-clause-leads : goal.returns-clause-leads
returns-clause-leads g c =
    let s = g.S.Store.state c.args.store.now in let t = g.S.Store.state c.count_terms.new.store in
    let later = ap (map (family t)) c.split_at.ensures.back
    ∙ families_later s t _ c.count_terms.ensures.reads.grows (All-drop (Knows s) c.args.pla.now.outputs c.args.found.now c.requires.0) in
    IfOk-weaker c.lists_of.result _ _ (λ lists are. leads_listed s (description c.args.pla.now) c.args.found.now lists c.requires
    (are ∙ later)) c.lists_of.ensures.lists

pub returns-clause-within : goal.returns-clause-within
returns-clause-within g c =
    let all = terms_parted (g.S.Store.state c.args.store.now) (g.S.Store.state c.count_terms.new.store) c.args.found.now _ _
    c.args.pla.now.outputs c.count_terms.ensures.reads.grows c.requires.0 c.split_at.ensures.front c.split_at.ensures.back in
    on_ok_weaker c.lists_of.result (λ left. omega (arith, all, c.in-Some.ensures.count, c.in-Some.ensures.within, left))
    c.lists_of.ensures.left
