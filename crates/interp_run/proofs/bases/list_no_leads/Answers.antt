use Rattle.std.proofs.Common.{ℕ, [], ap, map, reverse}
use Rattle.std.proofs.lemmas.List.{map-append}
use Rattle.lattice.specs.Words.{Family, numbers_below}
use Rattle.interp_run.proofs.OutputLists.{outputs_more}
use Rattle.interp_run.proofs.bases.list_no_leads.Goals as goal

pub loop-before-init : goal.loop-before-init
unfolding numbers_below
loop-before-init c = ap (map reverse) c.new-lists.ensures

pub loop-before-preserved : goal.loop-before-preserved
loop-before-preserved c = rw (c.in_ok-push.ensures.ok, outputs_more {X = Family} (λ (k : ℕ). []) c.loop-before.before)
    (simp (map-append, c.loop-before.invariant, c.new.ensures))
