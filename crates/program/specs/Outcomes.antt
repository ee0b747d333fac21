-- How a run ends: its exit status, and its line on err.
use Rattle.std.specs.Prelude.{◌≡◌, ◌⊎◌, ◌≤◌, ◌<◌, ◌++◌, [], ◌∷◌, ℕ, List, codes, decimal}
use Rattle.pla_reader.specs.Causes.{why_name}
use Rattle.program.specs.declared.outcome.Outcome.{Outcome}
use Rattle.program.specs.declared.outcome.Outcome.TheVariants as ends

-- how an end is told: the exit status, and what the line says, without the program's name; nothing where there is no line
pub record Way : Type 0 where
  pub status : ℕ
  pub message : List ℕ

-- the statuses that a program may give its own ends: an answer that says no, an input that is refused, and others
abbrev pub IsOwnStatus : ℕ → Type 0
IsOwnStatus status = (status ≡ 1) ⊎ ((status ≡ 3) ⊎ (10 < status))

-- the way of each outcome, by those of the program's own ends and by what its line on usage says
abbrev pub way_of : {E : Type 0} → (own : E → Way) → (usage : List ℕ) → Outcome E → Way
way_of own usage ends.Done = record { status = 0; message = [] }
way_of own usage ends.Usage = record { status = 2; message = usage }
way_of own usage (ends.Text line why) = record { status = 3; message = codes "line " ++ decimal line ++ codes ": " ++ why_name why }
way_of own usage (ends.Contradiction clash) = record {
  status = 4;
  message = codes "output " ++ decimal clash.output ++ codes ": on line " ++ decimal clash.on_line
      ++ codes ", off line " ++ decimal clash.off_line;
}
way_of own usage (ends.Exhausted nodes) = record { status = 5; message = codes "more than " ++ decimal nodes ++ codes " nodes are needed" }
way_of own usage (ends.Terms limit) = record { status = 6; message = codes "more than " ++ decimal limit ++ codes " terms" }
way_of own usage ends.Memory = record { status = 7; message = codes "out of memory" }
way_of own usage ends.ReadFault = record { status = 8; message = codes "read fault" }
way_of own usage ends.WriteFault = record { status = 9; message = codes "write fault" }
way_of own usage (ends.TooLong limit) = record { status = 10; message = codes "longer than " ++ decimal limit ++ codes " bytes" }
way_of own usage (ends.Own end) = own end

abbrev pub status_of : {E : Type 0} → (own : E → Way) → Outcome E → ℕ
status_of own o = (way_of own [] o).status

-- the line: the program's name and the message
abbrev pub line_with : (name message : List ℕ) → List ℕ
line_with name [] = []
line_with name (c ∷ message) = name ++ codes ": " ++ (c ∷ message) ++ codes "\n"

abbrev pub line_of : {E : Type 0} → (own : E → Way) → (name usage : List ℕ) → Outcome E → List ℕ
line_of own name usage o = line_with name (way_of own usage o).message

-- the outcomes that have an answer, which out gains: it was written whole, or it says no
abbrev pub HasText : {E : Type 0} → (own : E → Way) → Outcome E → Type 0
HasText own o = status_of own o ≤ 1
