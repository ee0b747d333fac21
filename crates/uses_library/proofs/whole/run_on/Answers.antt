use Rattle.std.proofs.Common.{inl, inr, ap, refl, Some, ⊎_elim}
use Rattle.std.specs.List.{concat}
use Rattle.uses_library.proofs.InMemory.{gained, unharmed}
use Rattle.uses_library.proofs.whole.run_on.Goals as goal

pub returns-clause-due : goal.returns-clause-due
returns-clause-due g c = λ job due asked is text calm.
    let out = c.run-status.new.out in
    ⊎_elim (λ seven. inl seven)
    (λ h. inr (h.0, gained c.in_ok-out.out.held out.held (concat due.pages) (ap (λ s. s.held) c.in_ok-out.ensures.made) h.1))
    (c.run-status.ensures.headline job c.args.file.now due asked (inl (ap Some c.new-source.ensures.bytes)) text is
    (unharmed 0 0 refl) (unharmed c.in_ok-out.out.faults out.faults calm))
