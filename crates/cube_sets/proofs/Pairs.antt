-- The clashes of two rows, by the bits of their masks.
use Rattle.std.proofs.Common.{◌≡◌, ℕ, ◌+◌, ◌-◌, ◌^◌, ◌<◌, ◌≤◌, true, bit_and, arith}
use Rattle.std.specs.Int.{bit_at}
use Rattle.std.proofs.lemmas.Nat.Bits.{bit_at_and, bit_at-lt, bit_at-zero, bit_at-pow_same, bit_at-pow_other}
use Rattle.lattice.specs.Words.{divides}
use Rattle.lattice.specs.declared.row.Row.{Row}
use Rattle.lattice.proofs.Polynomials.{divides_by_bits}
use Rattle.cube_sets.specs.declared.clash.Clash.{Clash}
use Rattle.cube_sets.specs.Clashes.{SharePoint, IsClashOf, IsLeastOf}

-- ---- masks with an output's bit

pub bit_from_divides : (d m : ℕ) → divides (2 ^ d) m ≡ true → bit_at m d ≡ 1
bit_from_divides d m h = (divides_by_bits (2 ^ d) m).0 h d (bit_at-pow_same d)

divides_from_bit : (d m : ℕ) → bit_at m d ≡ 1 → divides (2 ^ d) m ≡ true
divides_from_bit d m h = (divides_by_bits (2 ^ d) m).1 (λ i set. grind (arith, h, set, bit_at-pow_other d i))

-- a mask of no outputs
pub no_mask : (d m : ℕ) → m ≡ 0 → divides (2 ^ d) m ≡ true → ⊥
no_mask d m none h = grind (arith, none, bit_from_divides d m h, bit_at-zero d)

-- ---- the clashes of the on-row a with the off-row b

module _ (n : ℕ) (a b : Row) where
  -- a clash is at an output of which both masks have the bit
  both_bits : (c : Clash) → IsClashOf n a b c → bit_at (bit_and a.on b.off) (c.output - 1) ≡ 1
  both_bits c clash = grind (arith, bit_at_and, bit_from_divides)

  pub none_without_output : bit_and a.on b.off ≡ 0 → (c : Clash) → IsClashOf n a b c → ⊥
  none_without_output none c clash = grind (arith, none, both_bits c clash, bit_at-zero (c.output - 1))

  -- the lowest bit of both masks is at the place `low`
  module _ (low : ℕ) (none : (i : ℕ) → i < low → bit_at (bit_and a.on b.off) i ≡ 0) where
    pub none_up_to : (outputs : ℕ) → outputs < low + 1 → (c : Clash) → c.output ≤ outputs → IsClashOf n a b c → ⊥
    none_up_to outputs above c last clash =
        let first = clash.first in omega (arith, none (c.output - 1) (omega arith), both_bits c clash)

    pub least_of_pair : (outputs : ℕ) → bit_at (bit_and a.on b.off) low ≡ 1 → low + 1 ≤ outputs → SharePoint n a b
        → IsLeastOf (λ c. (c.output ≤ outputs) × IsClashOf n a b c) (record { output = low + 1; on_line = a.line; off_line = b.line })
    least_of_pair outputs bit within shared = record {
      clash = grind (arith, divides_from_bit, bit_at_and, bit_at-lt);
      least = λ d h. grind (arith, none (d.output - 1), both_bits d h.1, h.1.on_line, h.1.off_line, h.1.first);
    }
