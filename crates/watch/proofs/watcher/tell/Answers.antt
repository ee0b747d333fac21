use Rattle.std.proofs.Common.{◌∙◌, ◌++◌, ◌∷◌, ◌-◌, ◌≤◌, [], ap, arith, rules, subst, sym}
use Rattle.watch.proofs.Kept.{no_patience, none_told, one_dropped, one_kept}
use Rattle.watch.proofs.watcher.tell.Goals as goal
use Rattle.watch.proofs.watcher.tell.Goals.{then-note, else-note}

pub loop-at-init : goal.loop-at-init
loop-at-init g c = none_told c.requires.room

pub loop-at-preserved : goal.loop-at-preserved
loop-at-preserved g c =
    let told_is = c.note.ensures.0 ∙ ap (λ notes. notes ++ c.args.n.now ∷ []) (ap (λ v. (goal.Watch-dyn g v).told v.1) (search rules)) in
    let same = ap (λ v. (goal.Watch-dyn g v).patience v.1) (search rules) in
    let patience_is = c.note.ensures.1.0 ∙ ap (λ n. n - 1) same in
    elim c.if-note.branch [
      | then-note w ↦ one_kept c.loop-at.invariant (omega arith) c.index_mut.ensures.value (ap (λ v. v.items) w.watchers-is
          ∙ w.swap.ensures.items) w.kept-is
          told_is patience_is (subst (λ n. 1 ≤ n) same (c.note.ensures.1.1.0 w.if-note.true))
      | else-note w ↦ one_dropped c.loop-at.invariant (omega arith) c.index_mut.ensures.value (ap (λ v. v.items) w.watchers-is) w.kept-is
          told_is patience_is (sym same ∙ no_patience _ c.note.result c.note.ensures.1.1.1 w.if-note.false)
    ]
