-- Two circuits, one behind the other.
use Rattle.std.specs.Prelude.{◌≡◌, ◌⊎◌, ℕ, ◌+◌, ◌-◌, ◌<◌, Bool, true, ◌&&◌, ◌||◌, nat_lt, List, length, take, drop, codes, Result, Ok, Err}
use Rattle.std.specs.List.{slice_index_or}
use Rattle.std.specs.Str.{bytes_eq}
use Rattle.aig_reader.specs.declared.circuit.Aig.{Aig}
use Rattle.aig_reader.specs.declared.refusal.Refusal.{Refusal}
use Rattle.aig_reader.specs.Circuit.{Circuit}
use Rattle.aig_reader.specs.Reading.{circuit, IsReading}
use Rattle.aig_pairs.specs.declared.pairs.PairRefusal.{PairRefusal}
use Rattle.aig_pairs.specs.declared.pairs.PairRefusal.TheVariants.{Alone, Bad, Memory}

-- ---- where the second one begins

-- whether the bytes begin as a circuit does: by the word of either form, and a space
abbrev pub begins : List ℕ → Bool
begins bytes = bytes_eq (take 4 bytes) (codes "aig ") || bytes_eq (take 4 bytes) (codes "aag ")

-- whether a second circuit may begin at a place, behind other bytes
unfoldable pub may_begin : List ℕ → (at : ℕ) → Bool
may_begin bytes at = nat_lt 0 at && begins (drop at bytes)

-- the bytes before a place, which are a circuit, end there: in a line feed, or as they would be none without the last of them. So a
-- circuit ends in no line of its comment
abbrev pub EndsAt : List ℕ → (at : ℕ) → Type 0
EndsAt bytes at = (slice_index_or bytes (at - 1) 0 ≡ 10) ⊎ ((shorter : Circuit) → ¬ IsReading (take (at - 1) bytes) (Ok shorter))

-- a second circuit may begin there, and the bytes before are read as this one, and end there
pub record IsPart (bytes : List ℕ) (at : ℕ) (first : Circuit) : Type 0 where
  pub parted : may_begin bytes at ≡ true
  pub reading : IsReading (take at bytes) (Ok first)
  pub ends : EndsAt bytes at

-- there is no such place below this one
abbrev pub NoneBelow : (bytes : List ℕ) → (place : ℕ) → Type 0
NoneBelow bytes place = (at : ℕ) (first : Circuit) → at < place → IsPart bytes at first → ⊥

-- the least such place
pub record IsFirstPart (bytes : List ℕ) (at : ℕ) (first : Circuit) : Type 0 where
  pub part : IsPart bytes at first
  pub least : NoneBelow bytes at

-- ---- what the bytes say

-- the first circuit with what is read behind it, or the fault there, where so many bytes stand before it
abbrev pub with_first : (at : ℕ) → (first : Circuit) → (second : Result Circuit Refusal) → Result (Circuit × Circuit) PairRefusal
with_first at first (Ok second) = Ok (first, second)
with_first at first (Err refusal) = Err (Bad (record refusal { byte = at + refusal.byte }))

-- bytes that nothing parts are refused, or are one circuit
abbrev pub not_two : Result Circuit Refusal → Result (Circuit × Circuit) PairRefusal
not_two (Ok c) = Err Alone
not_two (Err refusal) = Err (Bad refusal)

-- two circuits, or why they are not two
pub data ReadsPair (bytes : List ℕ) (read : Result (Circuit × Circuit) PairRefusal) : Type 0 where
  in_parts : (at : ℕ) (first : Circuit) (second : Result Circuit Refusal) → IsFirstPart bytes at first
      → IsReading (drop at bytes) second → read ≡ with_first at first second → ReadsPair bytes read
  whole : (reading : Result Circuit Refusal) → NoneBelow bytes (length bytes) → IsReading bytes reading → read ≡ not_two reading
      → ReadsPair bytes read

-- an answer gives what was read, unless memory ran out
abbrev pub GivesPair : Result (Aig × Aig) PairRefusal → (Result (Circuit × Circuit) PairRefusal → Type 0) → Type 0
GivesPair (Ok pair) IsRead = IsRead (Ok (circuit pair.0, circuit pair.1))
GivesPair (Err (Bad refusal)) IsRead = IsRead (Err (Bad refusal))
GivesPair (Err Alone) IsRead = IsRead (Err Alone)
GivesPair (Err Memory) IsRead = Unit {0}
