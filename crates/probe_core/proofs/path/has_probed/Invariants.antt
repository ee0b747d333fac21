use Rattle.probe_core.proofs.Probing.{HasWalked}
use Rattle.probe_core.proofs.path.has_probed.Given as goal

abbrev pub invariant-loop-steps : goal.invariant-loop-steps
invariant-loop-steps l = HasWalked l.bits l.met l.at l.word l.steps
