use Rattle.std.proofs.Common.{◌+◌, ◌-◌}
use Rattle.std_monomials.proofs.monomials.+leads.Given as goal

-- how many variables are left
abbrev pub decreases-leads : goal.decreases-leads
decreases-leads g l = (g.S.Store.state l.store.now).vars + 1 - l.var
