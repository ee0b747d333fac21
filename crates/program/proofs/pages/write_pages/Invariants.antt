use Rattle.std.proofs.Common.{◌≡◌, length, take}
use Rattle.std.specs.List.{concat}
use Rattle.std.specs.Io.KnownBytes.{Appends}
use Rattle.watch.specs.Notes.{left_after_all, states_by}
use Rattle.program.proofs.pages.write_pages.Given as goal

abbrev pub invariant-loop-page : goal.invariant-loop-page
invariant-loop-page g l = record {
  gained : Appends (g.K.Sink.held l.fn.out) (g.K.Sink.held l.out) (concat (take (length l.yielded) l.pages));
  faults : g.K.Sink.faults l.out ≡ g.K.Sink.faults l.fn.out;
  told : states_by (λ b. (goal.Watch-dyn g (b.vtable, b.value)).told b.value)
      (λ b. (goal.Watch-dyn g (b.vtable, b.value)).patience b.value) l.watchers.items
      ≡ left_after_all (take (length l.yielded) l.notes)
      (states_by (λ b. (goal.Watch-dyn g (b.vtable, b.value)).told b.value)
      (λ b. (goal.Watch-dyn g (b.vtable, b.value)).patience b.value) l.fn.watchers.items);
}
