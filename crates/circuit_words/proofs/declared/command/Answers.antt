use Rattle.std.proofs.Common.{◌≡◌, ◌∙◌, ap₂, codes}
use Rattle.std.proofs.lemmas.Result.{IfOk-weaker}
use Rattle.clap.specs.Words.{app_of, new_app, with_rule}
use Rattle.cli_words.specs.Arguments.{mode_rule}
use Rattle.circuit_words.proofs.declared.command.Goals as goal

pub returns : goal.returns
returns c =
    let mode = c.one_of_modes.ensures in
    let names = mode.rule.0 in
    let app_1 : app_of c.in_ok-arg.field-0 ≡ with_rule (new_app (codes "circuit")) (mode_rule names) =
    c.in_ok-arg.ensures.shape mode.local ∙ ap₂ with_rule c.new.ensures.app mode.rule.2 in
    let app_2 = c.in_ok-arg-2.ensures.shape c.nodes.ensures.local ∙ ap₂ with_rule app_1 c.nodes.ensures.rule in
    let app_3 = c.in_ok-arg-3.ensures.shape c.terms.ensures.local ∙ ap₂ with_rule app_2 c.terms.ensures.rule in
    let app_4 = c.in_ok-arg-4.ensures.shape c.any_text.ensures.local ∙ ap₂ with_rule app_3 c.any_text.ensures.rule in
    let app_5 = c.in_ok-arg-5.ensures.shape c.any_text-2.ensures.local ∙ ap₂ with_rule app_4 c.any_text-2.ensures.rule in
    record {
      app = IfOk-weaker c.arg-6.result _ _
          (λ r h. (names, mode.rule.1, h.shape c.any_text-3.ensures.local ∙ ap₂ with_rule app_5 c.any_text-3.ensures.rule)) c.arg-6.ensures;
    }
