-- The clashes of a description's rows, and that it is consistent where it has none.
use Rattle.std.proofs.Common.{◌≡◌, ℕ, ◌-◌, ◌^◌, ◌≤◌, ◌↔◌, true, false, Option, Some, None, IsNone, IfSome, List}
use Rattle.std.proofs.Common.{refl, arith}
use Rattle.std.specs.List.{All, Contains}
use Rattle.std.proofs.lemmas.List.Elements.{All-filter, All-contains, All-contains_itself, filter_passes}
use Rattle.lattice.specs.Words.{divides, IsConsistent, rows_with}
use Rattle.lattice.specs.declared.row.Row.{Row}
use Rattle.lattice.specs.declared.kind.Kind.{Kind}
use Rattle.lattice.proofs.Polynomials.{consistent_by_rows, contains_filter}
use Rattle.pla_reader.specs.Description.{has_off, FitsSizes}
use Rattle.cube_sets.specs.declared.clash.Clash.{Clash}
use Rattle.cube_sets.specs.Clashes.{IsClashOf, IsAmong, IsClash, IsLeastOf, Answers}
use Rattle.cube_sets.proofs.Pairs.{no_mask}

-- ---- the rows with an output's bit

from_rows_with : (mask : Row → ℕ) (output : ℕ) (rows : List Row) (r : Row) → Contains (rows_with mask output rows) r
    → Contains rows r × (divides (2 ^ (output - 1)) (mask r) ≡ true)
unfolding rows_with
from_rows_with mask output rows r h = (
  All-contains (Contains rows) _ r (All-filter _ (Contains rows) rows (All-contains_itself rows)) h,
  All-contains (λ r. divides (2 ^ (output - 1)) (mask r) ≡ true) _ r (filter_passes _ rows) h,
)

to_rows_with : (mask : Row → ℕ) (output : ℕ) (rows : List Row) (r : Row) → Contains rows r → divides (2 ^ (output - 1)) (mask r) ≡ true
    → Contains (rows_with mask output rows) r
unfolding rows_with
to_rows_with mask output rows r h bit = contains_filter (λ r. divides (2 ^ (output - 1)) (mask r)) rows r h bit

-- ---- the clashes of a description, by two of its rows

module _ (n outputs : ℕ) (rows : List Row) where
  abbrev OfTwoRows : Clash → Type 0
  OfTwoRows c = (c.output ≤ outputs) × IsAmong (λ a. IsAmong (IsClashOf n a) rows) rows c

  from_two : (c : Clash) → OfTwoRows c → IsClash n outputs rows rows c
  from_two c (last, (a, a_in, (b, b_in, clash))) = grind (arith, to_rows_with)

  to_two : (c : Clash) → IsClash n outputs rows rows c → OfTwoRows c
  to_two c clash =
      let on = from_rows_with (λ r. r.on) c.output rows clash.on_row clash.on in
      let off = from_rows_with (λ r. r.off) c.output rows clash.off_row clash.off in grind arith

  pub clash_from_two : (answer : Option Clash) → Answers OfTwoRows answer → Answers (IsClash n outputs rows rows) answer
  clash_from_two None none = λ c clash. none c (to_two c clash)
  clash_from_two (Some c) found = record { clash = from_two c found.clash; least = λ d clash. found.least d (to_two d clash) }

  -- ---- consistent descriptions

  -- no rows contradict each other in a consistent description
  pub none_of_consistent : IsConsistent n outputs rows → (c : Clash) → IsClash n outputs rows rows c → ⊥
  none_of_consistent consistent c clash =
      (consistent_by_rows n outputs rows).0 consistent c.output clash.shared.0 clash.on_row clash.off_row clash.first clash.last
      clash.shared.1 clash.on clash.off clash.shared.2 clash.shared.3

  consistent_from_none : ((c : Clash) → IsClash n outputs rows rows c → ⊥) → IsConsistent n outputs rows
  consistent_from_none none = (consistent_by_rows n outputs rows).1
      (λ output a r s first last below on off in_r in_s.
      none (record { output = output; on_line = r.line; off_line = s.line }) (grind arith))

  pub none_where_consistent : (answer : Option Clash) → Answers (IsClash n outputs rows rows) answer
      → IsNone answer ↔ IsConsistent n outputs rows
  none_where_consistent None none = (λ h. consistent_from_none none, λ h. refl)
  none_where_consistent (Some c) found = (λ h. absurd (cc), λ consistent. absurd (none_of_consistent consistent c found.clash))

  -- the types without off-rows
  pub none_without_offs : (kind : Kind) → has_off kind ≡ false → All (FitsSizes n outputs kind) rows → (c : Clash)
      → IsClash n outputs rows rows c → ⊥
  none_without_offs kind without fit c clash =
      let off = from_rows_with (λ r. r.off) c.output rows clash.off_row clash.off in
      no_mask (c.output - 1) clash.off_row.off ((All-contains (FitsSizes n outputs kind) rows clash.off_row fit off.0).no_off without) off.1

pub least_if_some : (holds : Clash → Type 0) (answer : Option Clash) → Answers holds answer → IfSome answer (IsLeastOf holds)
least_if_some holds None none = tt
least_if_some holds (Some c) found = found
