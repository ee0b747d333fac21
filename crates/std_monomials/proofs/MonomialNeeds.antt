-- What finding standard monomials and leads needs, and what holds of the standard monomials when leads are asked for.
use Rattle.std.proofs.Common.{◌≡◌, ℕ, ◌+◌, ◌-◌, ◌≤◌, [], arith}
use Rattle.lattice.specs.Words.{Family, IsFamily, Covers, IsClosed, needs}
use Rattle.lattice.specs.declared.op.Op.TheVariants.{Standard, Leads}
use Rattle.lattice.proofs.Polynomials.{divides_le, standard_divisor, any_standard_list, any_leads_list, needs-standard, needs-leads}
use Rattle.node_store.specs.Stores.{State, Knows, family, IsSound}
use Rattle.node_store.specs.AnyFamily.{MayHoldAny}
use Rattle.node_store.specs.declared.store.Handle.{Handle}
use Rattle.node_store.proofs.StoreLaws.{any_family, known_after}
use Rattle.std_monomials.specs.Monomials.{AreStandard}

-- with each standard monomial its divisors are standard
pub standard_closed : (n : ℕ) (points monos : Family) → IsFamily n points → AreStandard n points monos → IsClosed monos
standard_closed n points monos is are m d i div =
    let of = (are m).0 i in let le : d ≤ m = divides_le d m div in
    (are d).1 (omega (arith, le, of.0), standard_divisor n points is.below m d of.0 div of.1)

-- ---- under a plan that has every family

module _ (vars : ℕ) (s : State) (h : Handle) (any : MayHoldAny vars s) where
  -- the working set of the standard monomials is planned
  pub any_standard : IsSound s → Knows s h → Covers s.plan (needs Standard s.vars (family s h) [] 0)
  any_standard ok known = rw (needs-standard s.vars (family s h))
      (any_standard_list s.plan s.vars (any_family vars s any) s.vars (omega arith) (family s h) (known_after s h ok known))

  -- and that of the leads
  pub any_leads : Covers s.plan (needs Leads s.vars (family s h) [] 1)
  any_leads =
      let all : s.vars + 1 - 1 ≡ s.vars = omega arith in
      rw (needs-leads s.vars 1 s.vars (family s h) all)
      (any_leads_list s.plan s.vars (any_family vars s any) s.vars (omega arith) (family s h))
