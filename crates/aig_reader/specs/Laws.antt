-- Laws about circuits.
use Rattle.std.specs.Prelude.{◌≡◌, ℕ, ◌+◌, ◌*◌, ◌<◌, ◌≤◌, Bool, true, not, ◌==◌, List, length, Some, Ok, Result, slice_get}
use Rattle.std.specs.List.{list_all}
use Rattle.aig_reader.specs.declared.circuit.Gate.{Gate}
use Rattle.aig_reader.specs.Circuit.{Circuit, HasValue, IsCircuit}
use Rattle.aig_reader.specs.declared.refusal.Refusal.{Refusal}
use Rattle.aig_reader.specs.Order.{ArePlaced, Ordered}
use Rattle.aig_reader.specs.Reading.{are_over, SaysAscii, IsReading}
use Rattle.aig_reader.specs.Listing.{Listing, listing_at, IsListed}
use Rattle.aig_reader.specs.Written.{written}

-- A literal has one value at most at a point.
abbrev pub OneValue : Type 0
OneValue = (c : Circuit) (point literal : ℕ) (x y : Bool) → HasValue c point literal x → HasValue c point literal y → x ≡ y

-- Each literal of a circuit has a value at each point.
abbrev pub SomeValue : Type 0
SomeValue = (c : Circuit) (point literal : ℕ) → IsCircuit c.inputs c.gates c.outputs c.in_names c.out_names
    → literal < 2 * (c.inputs + 1 + length c.gates) → (x : Bool) × HasValue c point literal x

-- whether no line feed stands in the names
abbrev pub are_lines : (names : List (List ℕ)) → Bool
are_lines names = list_all (list_all (λ byte. not (byte == 10))) names

-- What a writer of the binary form makes of a circuit is read as this circuit, where each gate's second operand is not greater than
-- its first.
abbrev pub WrittenIsRead : Type 0
WrittenIsRead = (c : Circuit) (comment : List ℕ) → IsCircuit c.inputs c.gates c.outputs c.in_names c.out_names
    → ((k : ℕ) (g : Gate) → slice_get c.gates k ≡ Some g → g.right ≤ g.left)
    → are_lines c.in_names ≡ true → are_lines c.out_names ≡ true → are_over comment ≡ true
    → IsReading (written c comment) (Ok c)

-- A file has one reading at most.
abbrev pub OneReading : Type 0
OneReading = (bytes : List ℕ) (a b : Result Circuit Refusal) → IsReading bytes a → IsReading bytes b → a ≡ b

-- Gates whose lines stand in an order in which each stands only on what is before it keep this order.
abbrev pub OrderKept : Type 0
OrderKept = (inputs : ℕ) (gates : List Gate) (p : Ordered)
    → ((k : ℕ) (g : Gate) → slice_get gates k ≡ Some g → (g.left < 2 * (inputs + 1 + k)) × (g.right < 2 * (inputs + 1 + k)))
    → ArePlaced inputs gates (length gates) p → p.gates ≡ gates

-- Where a file in the ASCII form is read, the literal of each output has a value at each point by the lines as they are written, and
-- each value that it has is that of the circuit's output.
abbrev pub ListedValues : Type 0
ListedValues = (bytes : List ℕ) (c : Circuit) → SaysAscii bytes (Ok c)
    → (l : Listing) × (listing_at bytes ≡ Ok l) × ((point j literal : ℕ) → slice_get l.outputs j ≡ Some literal
    → ((x : Bool) × IsListed l point literal x)
    × ((own : ℕ) × (slice_get c.outputs j ≡ Some own) × ((x : Bool) → IsListed l point literal x → HasValue c point own x)))
