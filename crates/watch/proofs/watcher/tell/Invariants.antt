use Rattle.watch.proofs.Kept.{IsToldTo}
use Rattle.watch.proofs.watcher.tell.Given as goal

abbrev pub invariant-loop-at : goal.invariant-loop-at
invariant-loop-at g l =
    IsToldTo l.initial.watchers.items l.watchers.items (λ b. (goal.Watch-dyn g (b.vtable, b.value)).told b.value)
    (λ b. (goal.Watch-dyn g (b.vtable, b.value)).patience b.value)
    l.n l.kept l.at
