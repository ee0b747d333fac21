-- What is counted of polynomials.
use Rattle.std.specs.Prelude.{ℕ, List, length, sum_by}
use Rattle.node_store.specs.Stores.{State, family}
use Rattle.node_store.specs.declared.store.Handle.{Handle}

-- the terms of some polynomials
abbrev pub terms_of : State → List Handle → ℕ
terms_of s polynomials = sum_by (λ h. length (family s h)) polynomials
