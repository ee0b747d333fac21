use Rattle.std.proofs.Common.{◌<◌, ap, arith}
use Rattle.crossbeam_deque.specs.Handles.{worker_view}
use Rattle.job_deques.specs.declared.view.Hold.{Hold}
use Rattle.job_deques.proofs.Keeps.{merges, learns}
use Rattle.job_deques.proofs.own.Own.absorb.Goals as goal

pub absorb-requires-clause-rule : goal.absorb-requires-clause-rule
absorb-requires-clause-rule c = merges _ _ _ _ c.args.self.now.part

pub len_as-left-requires : goal.len_as-left-requires
len_as-left-requires c =
    let parts = ap (λ (v : Hold). v.parts) c.absorb.ensures.rule in
    let some_part : 0 < (worker_view c.absorb.new.self).parts = omega (arith, parts, c.args.self.now.part) in learns _ _ some_part

pub returns-clause-within : goal.returns-clause-within
returns-clause-within c = rw (c.len_as-left.ensures.same.2) c.len_as-left.ensures.rule.2
