-- When two cubes share a point, by the bits of the rows.
use Rattle.std.proofs.Common.{◌≡◌, ℕ, ◌^◌, ◌<◌, ◌≤◌, ◌↔◌, Bool, true, ◌==◌, bit_and, bit_or, sym, ap, ◌∙◌, arith, eq-eqb, eqb-true}
use Rattle.std.specs.Int.{bit_at}
use Rattle.std.proofs.lemmas.Nat.{or_lt, or_comm}
use Rattle.std.proofs.lemmas.Nat.Bits.{bit_at_and, bit_at_or, bit_at-lt, same_from_bits}
use Rattle.lattice.specs.Words.{divides, in_cube}
use Rattle.lattice.proofs.Polynomials.{divides_le}
use Rattle.lattice.specs.declared.row.Row.{Row}
use Rattle.cube_sets.specs.Clashes.{SharePoint}

-- the values are the same at the bits that both cubes fix
abbrev pub Agree : Row → Row → Type 0
Agree a b = bit_and a.value b.care ≡ bit_and b.value a.care

value_below : (n : ℕ) (r : Row) → divides r.value r.care ≡ true → r.care < 2 ^ n → r.value < 2 ^ n
value_below n r within below = let le : r.value ≤ r.care = divides_le r.value r.care within in omega arith

-- the values together are a point of the first cube
together : (a b : Row) → divides a.value a.care ≡ true → divides b.value b.care ≡ true → Agree a b
    → in_cube a (bit_or a.value b.value) ≡ true
unfolding in_cube divides
together a b first second agree = eq-eqb _ _ (same_from_bits _ _ (λ i.
    let both = ap (λ x. bit_at x i) agree in
    let in_a = ap (λ x. bit_at x i) (eqb-true (bit_and a.value a.care) a.value first) in
    let in_b = ap (λ x. bit_at x i) (eqb-true (bit_and b.value b.care) b.value second) in grind (arith, bit_at_and, bit_at_or, bit_at-lt)))

-- where a point is in both cubes, the values agree
pub agree_where_shared : (n : ℕ) (a b : Row) → SharePoint n a b → Agree a b
unfolding in_cube
agree_where_shared n a b shared = same_from_bits _ _ (λ i.
    let in_a : bit_at (bit_and shared.0 a.care) i ≡ bit_at a.value i = ap (λ x. bit_at x i) (eqb-true _ _ shared.2) in
    let in_b : bit_at (bit_and shared.0 b.care) i ≡ bit_at b.value i = ap (λ x. bit_at x i) (eqb-true _ _ shared.3) in
    grind (arith, bit_at_and, bit_at-lt))

pub shared_where_same : (n : ℕ) (a b : Row) (r : Bool) → divides a.value a.care ≡ true → divides b.value b.care ≡ true
    → r ≡ (bit_and a.value b.care == bit_and b.value a.care) → a.care < 2 ^ n → b.care < 2 ^ n → (r ≡ true) ↔ SharePoint n a b
shared_where_same n a b r first second is a_below b_below = (
  λ same.
      let agree : Agree a b = eqb-true (bit_and a.value b.care) (bit_and b.value a.care) (sym is ∙ same) in (
        bit_or a.value b.value,
        or_lt n a.value b.value (value_below n a first a_below) (value_below n b second b_below),
        together a b first second agree,
        rw (or_comm a.value b.value) (together b a second first (sym agree)),
      ),
  λ shared. is ∙ eq-eqb (bit_and a.value b.care) (bit_and b.value a.care) (agree_where_shared n a b shared),
)
