-- Families of monomials that are the standard ones, or the leads, of a set of points.
use Rattle.std.specs.Prelude.{◌≡◌, ℕ, ◌^◌, ◌<◌, ◌↔◌, true}
use Rattle.lattice.specs.Family.{Family, has}
use Rattle.lattice.specs.Basis.{IsStandard, IsLead}

-- the members are the standard monomials of the points below 2 ^ n
abbrev pub AreStandard : ℕ → Family → Family → Type 0
AreStandard n points monos = (m : ℕ) → (has monos m ≡ true) ↔ ((m < 2 ^ n) × IsStandard n points m)

-- the members are the leads of the points below 2 ^ n
abbrev pub AreLeads : ℕ → Family → Family → Type 0
AreLeads n points monos = (m : ℕ) → (has monos m ≡ true) ↔ ((m < 2 ^ n) × IsLead n points m)
