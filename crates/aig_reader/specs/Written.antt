-- What a writer of the binary form makes of a circuit.
use Rattle.std.specs.Prelude.{ℕ, zero, suc, ◌+◌, ◌*◌, ◌-◌, ◌/◌, ◌%◌, nat_lt, List, [], ◌∷◌, ◌++◌, length, codes, decimal, if◌then◌else◌}
use Rattle.std.specs.List.{concat}
use Rattle.aig_reader.specs.declared.circuit.Gate.{Gate}
use Rattle.aig_reader.specs.Circuit.{Circuit}

-- a number of the header, behind a space
abbrev pub size_text : ℕ → List ℕ
size_text n = 32 ∷ decimal n

-- the line of an output's literal
abbrev pub output_text : ℕ → List ℕ
output_text literal = decimal literal ++ 10 ∷ []

-- a difference in at most so many bytes of 7 bits, the low ones first: each byte but the last has 128 more
unfoldable pub difference_text : (most n : ℕ) → List ℕ
difference_text zero n = []
difference_text (suc most) n = if nat_lt n 128 then n ∷ [] else ((n % 128 + 128) ∷ difference_text most (n / 128))

-- the gate of a literal, which is greater than its first operand, and that at least the second one
abbrev pub gate_text : (literal : ℕ) → Gate → List ℕ
gate_text literal g = difference_text 3 (literal - g.left) ++ difference_text 3 (g.left - g.right)

-- the symbol of an input or output that has a name
abbrev pub symbol_text : (letter k : ℕ) → (name : List ℕ) → List ℕ
symbol_text letter k [] = []
symbol_text letter k (byte ∷ name) = letter ∷ (decimal k ++ (32 ∷ ((byte ∷ name) ++ 10 ∷ [])))

-- the texts of values, one behind the other, the first of which has this number
unfoldable pub texts : {A : Type 0} → (ℕ → A → List ℕ) → (first : ℕ) → List A → List ℕ
texts text first [] = []
texts text first (x ∷ xs) = text first x ++ texts text (first + 1) xs

-- the file, with a comment or nothing behind it
unfoldable pub written : Circuit → (comment : List ℕ) → List ℕ
written c comment = concat (
    codes "aig" ∷ size_text (c.inputs + length c.gates) ∷ size_text c.inputs ∷ size_text 0 ∷ size_text (length c.outputs)
    ∷ size_text (length c.gates) ∷ (10 ∷ [])
    ∷ texts (λ k. output_text) 0 c.outputs
    ∷ texts (λ k. gate_text (2 * (c.inputs + 1 + k))) 0 c.gates
    ∷ texts (symbol_text 105) 0 c.in_names
    ∷ texts (symbol_text 111) 0 c.out_names
    ∷ comment ∷ [])
