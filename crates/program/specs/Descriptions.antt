-- The description that the bytes of a source begin with.
use Rattle.std.specs.Prelude.{◌≡◌}
use Rattle.pla_reader.specs.Reading.{Description}
use Rattle.pla_reader.specs.declared.refusal.ReadRefusal.{ReadRefusal}
use Rattle.pla_reader.specs.declared.refusal.ReadRefusal.TheVariants as unread
use Rattle.cube_sets.specs.Clashes.{IsClash, IsLeastOf}
use Rattle.cube_sets.specs.declared.clash.Clash.{Clash}
use Rattle.program.specs.declared.outcome.Outcome.{Outcome}
use Rattle.program.specs.declared.outcome.Outcome.TheVariants as ends

-- how a run ends whose bytes have no description
abbrev pub unread_outcome : {E : Type 0} → ReadRefusal → Outcome E
unread_outcome (unread.Bad refusal) = ends.Text refusal.line refusal.why
unread_outcome unread.Memory = ends.Memory

-- an on-row and an off-row of an output share a point, and the run ends with the first such rows
pub record IsContradiction {E : Type 0} (d : Description) (o : Outcome E) : Type 0 where
  pub clash : Clash
  pub least : IsLeastOf (IsClash d.inputs d.outputs d.rows d.rows) clash
  pub outcome_is : o ≡ ends.Contradiction clash
