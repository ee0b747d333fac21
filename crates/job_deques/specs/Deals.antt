-- What the dealing by deques says of its hands.
use Rattle.std.specs.Prelude.{◌≡◌}
use Rattle.job_deques.specs.declared.deques.Deques.{Deques}
use Rattle.job_deques.specs.declared.deques.Hand.{Hand}
use Rattle.job_deques.specs.Seats.{Layout}
use Rattle.job_deques.specs.Dealt.{layout_of}
use Rattle.job_deques.specs.Hands.{AreTaking}

-- the deques of the seats as they were made, to which the numbers are dealt
abbrev pub layout : Deques → Layout
layout d = layout_of d.seats.value.items d.count

-- the hand is of the dealing
pub record IsOf (d : Deques) (h : Hand) : Type 0 where
  pub total : d.total ≡ (layout d).total
  pub seats : AreTaking (layout d) h.seats
