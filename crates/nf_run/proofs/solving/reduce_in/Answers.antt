use Rattle.std.proofs.Common.{◌∙◌, Err, ap}
use Rattle.pla_reader.specs.Reading.{description}
use Rattle.set_algebra.specs.Terms.{terms_of}
use Rattle.nf_run.proofs.Found.{found_known, search_listed, search_unlisted}
use Rattle.nf_run.proofs.QueryAnswers.{lists_right, terms_are}
use Rattle.nf_run.proofs.solving.reduce_in.Goals as goal

pub answer_queries-requires-clause-planned : goal.answer_queries-requires-clause-planned
answer_queries-requires-clause-planned g c = rw c.requires.plan (λ f i. i)

pub lists_upto-requires : goal.lists_upto-requires
lists_upto-requires g c = rw c.deref.ensures.value (found_known c.in_ok-found.ensures.answers)

pub returns-in_err-lists_upto : goal.returns-in_err-lists_upto
returns-in_err-lists_upto g c =
    let t = g.S.Store.state c.answer_queries.new.store in let is = c.in_ok-found.ensures in
    search_unlisted is.grows (g.met.S.Store.sound c.answer_queries.new.store) _ _ is.answers.held
    (ap (terms_of t) c.deref.ensures.value ∙ terms_are (description c.args.p.now) is.answers) c.in_err-lists_upto.field-0.0 _
    c.from_residual-in_err-lists_upto.ensures.1 (λ e. c.in_err-lists_upto.ensures.over (ap Err e))

pub returns : goal.returns
returns g c =
    let t = g.S.Store.state c.answer_queries.new.store in let d = description c.args.p.now in let is = c.in_ok-found.ensures in
    search_listed is.grows (g.met.S.Store.sound c.answer_queries.new.store) _ _ is.answers.held
    (ap (terms_of t) c.deref.ensures.value ∙ terms_are d is.answers)
    (lists_right d is.answers _ (rw c.deref.ensures.value at c.in_ok-lists_upto.ensures.lists))
    c.in_ok-lists_upto.ensures.within
