-- What is read is a circuit.
use Rattle.std.proofs.Common.{◌≡◌, ℕ, zero, suc, ◌-◌, ◌+◌, ◌*◌, ◌/◌, ◌%◌, ◌≤◌, ◌<◌, Bool, true, false, not, cond, leb, ltb, eqb, ◌||◌, ◌&&◌}
use Rattle.std.proofs.Common.{List, [], ◌∷◌, length, get_or, set, take, drop, replicate, inl, inr, ◌⊎◌, Some, Result, Ok, Err}
use Rattle.std.proofs.Common.{refl, sym, ap, ◌∙◌, subst, arith}
use Rattle.std.specs.Prelude.{slice_get}
use Rattle.std.proofs.lemmas.Bool.{ltb-false}
use Rattle.std.proofs.lemmas.Bool.Decides.{nat_tests}
use Rattle.std.proofs.lemmas.Option.{get_or_from_slice_get, slice_get_within}
use Rattle.std.proofs.lemmas.List.{length-set, length-replicate}
use Rattle.aig_reader.specs.declared.refusal.Why.TheVariants.{LiteralRange, GateOrder}
use Rattle.aig_reader.specs.declared.refusal.Fault.{Fault}
use Rattle.aig_reader.specs.declared.circuit.Gate.{Gate}
use Rattle.aig_reader.specs.declared.header.Sizes.{Sizes}
use Rattle.aig_reader.specs.Circuit.{IsCircuit}
use Rattle.aig_reader.specs.Fields.{◌>>=◌, stop, behind, number_at, literal_at, output_at}
use Rattle.aig_reader.specs.Fields.{difference_at, operand_at, gate_at, many, through}
use Rattle.aig_reader.specs.Ascii.{variable_at, input_line_at, gate_line_at, IsUpTo, renamed, renamed_at, renamed_output_at}
use Rattle.aig_reader.specs.Ascii.{renamed_gate_at}
use Rattle.aig_reader.specs.Order.{AreGates}
use Rattle.std.specs.List.{All}
use Rattle.aig_reader.specs.Reading.{AreFew, Names, no_names, line_length, name_at, symbol_at, are_over, symbols_at, table_at}

abbrev stopped : {A : Type 0} → Fault → Result A Fault
stopped d = Err d

-- the value of a step that did not fail
pub bind_ok : {A B : Type 0} (r : Result A Fault) (f : A → Result B Fault) (y : B) → (r >>= f) ≡ Ok y → (x : A) × (r ≡ Ok x) × (f x ≡ Ok y)
bind_ok (Ok x) f y e = (x, refl, e)
bind_ok (Err d) f y e = absurd cc

-- a test that did not fail
pub guard_ok : {A : Type 0} (b : Bool) (d : Fault) (r : Result A Fault) (y : A) → cond b (Err d) r ≡ Ok y → (b ≡ false) × (r ≡ Ok y)
guard_ok true d r y e = absurd cc
guard_ok false d r y e = (refl, e)

-- which way a test went
pub chosen : {A : Type 0} (b : Bool) (r s y : A) → cond b r s ≡ y → ((b ≡ true) × (r ≡ y)) ⊎ ((b ≡ false) × (s ≡ y))
chosen true r s y e = inl (refl, e)
chosen false r s y e = inr (refl, e)

abbrev done : {A : Type 0} → A → Result A Fault
done x = Ok x

pub no_fault : {A : Type 0} (d : Fault) (y : A) → stopped d ≡ done y → ⊥
no_fault d y e = cc

pub ok_is : {A : Type 0} (x y : A) → done x ≡ done y → x ≡ y
ok_is x y e = cc

-- ---- many values

-- so many values, the first of which has this number, and what is so of each of them
pub record AreSo {A : Type 0} (P : ℕ → A → Type 0) (first count : ℕ) (xs : List A) : Type 0 where
  pub count_is : length xs ≡ count
  pub each : (i : ℕ) (d : A) → i < count → P (first + i) (get_or xs i d)

each : {A : Type 0} (P : ℕ → A → Type 0) (first count : ℕ) (x : A) (xs : List A) → P first x
    → ((i : ℕ) (d : A) → i < count → P (first + 1 + i) (get_or xs i d))
    → (i : ℕ) (d : A) → i < suc count → P (first + i) (get_or (x ∷ xs) i d)
each P first count x xs here later zero d lt = let at : first ≡ first + 0 = omega arith in subst (λ n. P n x) at here
each P first count x xs here later (suc i) d lt =
    let at : first + 1 + i ≡ first + suc i = omega arith in subst (λ n. P n (get_or xs i d)) at (later i d (omega arith))

one_more : {A : Type 0} (P : ℕ → A → Type 0) (first count : ℕ) (x : A) (xs : List A) → P first x → AreSo P (first + 1) count xs
    → AreSo P first (suc count) (x ∷ xs)
one_more P first count x xs here later = record { count_is = ap suc later.count_is; each = each P first count x xs here later.each }

pub many_are_so : {A : Type 0} (P : ℕ → A → Type 0) (read : ℕ → List ℕ → Result (A × List ℕ) Fault)
    → ((k : ℕ) (bytes : List ℕ) (x : A × List ℕ) → read k bytes ≡ Ok x → P k x.0)
    → (count first : ℕ) (bytes : List ℕ) (x : List A × List ℕ) → many read first count bytes ≡ Ok x → AreSo P first count x.0
unfolding many
many_are_so P read so zero first bytes x e =
    subst (λ y. AreSo P first 0 y.0) (ok_is ([], bytes) x e) (record { count_is = refl; each = λ i d lt. absurd (omega arith) })
many_are_so P read so (suc count) first bytes x e =
    let a = bind_ok (read first bytes) (λ v. many read (first + 1) count v.1 >>= λ vs. Ok (v.0 ∷ vs.0, vs.1)) x e in
    let b = bind_ok (many read (first + 1) count a.0.1) (λ vs. Ok (a.0.0 ∷ vs.0, vs.1)) x a.2 in
    let later = many_are_so P read so count (first + 1) a.0.1 b.0 b.1 in
    subst (λ y. AreSo P first (suc count) y.0) (ok_is (a.0.0 ∷ b.0.0, b.0.1) x b.2)
    (one_more P first count a.0.0 b.0.0 (so first bytes a.0 a.1) later)

-- ---- literals and gates

pub literal_below : (variables : ℕ) (bytes : List ℕ) (x : ℕ × List ℕ) → literal_at variables bytes ≡ Ok x → x.0 < 2 * (variables + 1)
unfolding literal_at
literal_below variables bytes x e =
    let a = bind_ok (number_at bytes) (λ l. cond (ltb (2 * variables + 1) l.0) (stop bytes LiteralRange) (Ok l)) x e in
    let g = guard_ok (ltb (2 * variables + 1) a.0.0) _ (Ok a.0) x a.2 in
    let few = ltb-false _ _ g.0 in subst (λ y. y.0 < 2 * (variables + 1)) (ok_is a.0 x g.1) (omega (arith, few))

output_below : (variables : ℕ) (bytes : List ℕ) (x : ℕ × List ℕ) → output_at variables bytes ≡ Ok x → x.0 < 2 * (variables + 1)
unfolding output_at
output_below variables bytes x e =
    let a = bind_ok (literal_at variables bytes) (λ l. behind 10 l.1 >>= λ rest. Ok (l.0, rest)) x e in
    let b = bind_ok (behind 10 a.0.1) (λ rest. Ok (a.0.0, rest)) x a.2 in
    subst (λ y. y.0 < 2 * (variables + 1)) (ok_is (a.0.0, b.0) x b.2) (literal_below variables bytes a.0 a.1)

operand_below : (least literal : ℕ) (bytes : List ℕ) (x : ℕ × List ℕ) → operand_at least literal bytes ≡ Ok x → x.0 + least ≤ literal
unfolding operand_at
operand_below least literal bytes x e =
    let a = bind_ok (difference_at 3 bytes)
    (λ d. cond (ltb d.0 least || ltb literal d.0) (stop bytes GateOrder) (Ok (literal - d.0, d.1))) x e in
    let g = guard_ok (ltb a.0.0 least || ltb literal a.0.0) _ (Ok (literal - a.0.0, a.0.1)) x a.2 in
    let within : (least ≤ a.0.0) × (a.0.0 ≤ literal) = grind (arith, nat_tests, g.0) in
    subst (λ y. y.0 + least ≤ literal) (ok_is (literal - a.0.0, a.0.1) x g.1) (omega (arith, within.0, within.1))

gate_below : (literal : ℕ) (bytes : List ℕ) (x : Gate × List ℕ) → gate_at literal bytes ≡ Ok x
    → (x.0.left < literal) × (x.0.right < literal)
unfolding gate_at
gate_below literal bytes x e =
    let a = bind_ok (operand_at 1 literal bytes) (λ l. operand_at 0 l.0 l.1 >>= λ r. Ok (record { left = l.0; right = r.0 }, r.1)) x e in
    let b = bind_ok (operand_at 0 a.0.0 a.0.1) (λ r. Ok (record { left = a.0.0; right = r.0 }, r.1)) x a.2 in
    let made : Gate × List ℕ = (record { left = a.0.0; right = b.0.0 }, b.0.1) in
    let first = operand_below 1 literal bytes a.0 a.1 in let second = operand_below 0 a.0.0 a.0.1 b.0 b.1 in
    subst (λ y. (y.0.left < literal) × (y.0.right < literal)) (ok_is made x b.2) (omega arith, omega arith)

-- ---- names

-- as many names as before
record CountsAs (before now : Names) : Type 0 where
  inputs : length now.inputs ≡ length before.inputs
  outputs : length now.outputs ≡ length before.outputs

name_counts : (names : List (List ℕ)) (bytes : List ℕ) (x : List (List ℕ) × List ℕ) → name_at names bytes ≡ Ok x → length x.0 ≡ length names
unfolding name_at
name_counts names bytes x e =
    let a = bind_ok (number_at bytes) _ x e in
    let b = bind_ok (behind 32 a.0.1) _ x a.2 in
    let d = bind_ok (behind 10 (drop (line_length b.0) b.0)) _ x b.2 in
    let g = guard_ok (leb (length names) a.0.0) _ _ x d.2 in
    let h = guard_ok (not (eqb (length (get_or names a.0.0 [])) 0)) _ _ x g.1 in
    let i = guard_ok (eqb (line_length b.0) 0) _ _ x h.1 in
    subst (λ y. length y.0 ≡ length names) (ok_is (set names a.0.0 (take (line_length b.0) b.0), d.0) x i.1) (length-set names a.0.0 _)

symbol_counts : (names : Names) (bytes : List ℕ) (x : Names × List ℕ) → symbol_at names bytes ≡ Ok x → CountsAs names x.0
unfolding symbol_at
symbol_counts names [] x e = subst (λ y. CountsAs names y.0) (ok_is (names, []) x e) (record { inputs = refl; outputs = refl })
symbol_counts names (letter ∷ bytes) x e = elim (chosen (eqb letter 105) _ _ _ e) [
  | inl p ↦
      let a = bind_ok (name_at names.inputs bytes) (λ n. Ok (record { inputs = n.0; outputs = names.outputs }, n.1)) x p.1 in
      let made : Names × List ℕ = (record { inputs = a.0.0; outputs = names.outputs }, a.0.1) in
      subst (λ y. CountsAs names y.0) (ok_is made x a.2) (record { inputs = name_counts names.inputs bytes a.0 a.1; outputs = refl })
  | inr p ↦ elim (chosen (eqb letter 111) _ _ _ p.1) [
    | inl q ↦
        let a = bind_ok (name_at names.outputs bytes) (λ n. Ok (record { inputs = names.inputs; outputs = n.0 }, n.1)) x q.1 in
        let made : Names × List ℕ = (record { inputs = names.inputs; outputs = a.0.0 }, a.0.1) in
        subst (λ y. CountsAs names y.0) (ok_is made x a.2) (record { inputs = refl; outputs = name_counts names.outputs bytes a.0 a.1 })
    | inr q ↦ absurd (no_fault _ x q.1)
  ]
]

symbols_count : (left : ℕ) (names : Names) (bytes : List ℕ) (x : Names) → symbols_at left names bytes ≡ Ok x → CountsAs names x
unfolding symbols_at
symbols_count zero names bytes x e = subst (CountsAs names) (ok_is names x e) (record { inputs = refl; outputs = refl })
symbols_count (suc left) names bytes x e = elim (chosen (are_over bytes) _ _ _ e) [
  | inl p ↦ subst (CountsAs names) (ok_is names x p.1) (record { inputs = refl; outputs = refl })
  | inr p ↦
      let a = bind_ok (symbol_at names bytes) (λ s. symbols_at left s.0 s.1) x p.1 in
      let one = symbol_counts names bytes a.0 a.1 in let others = symbols_count left a.0.0 a.0.1 x a.2 in
      record { inputs = others.inputs ∙ one.inputs; outputs = others.outputs ∙ one.outputs }
]

-- ---- tables

-- where each step keeps what is so of the state, so do all of them
through_keeps : {S : Type 0} (P : S → Type 0) (step : ℕ → S → List ℕ → Result (S × List ℕ) Fault) (end : ℕ)
    → ((k : ℕ) (s : S) (bytes : List ℕ) (x : S × List ℕ) → k < end → P s → step k s bytes ≡ Ok x → P x.0)
    → (count first : ℕ) (s : S) (bytes : List ℕ) (x : S × List ℕ) → first + count ≤ end → P s → through step first count s bytes ≡ Ok x
    → P x.0
unfolding through
through_keeps P step end keeps zero first s bytes x le so e = subst (λ y. P y.0) (ok_is (s, bytes) x e) so
through_keeps P step end keeps (suc count) first s bytes x le so e =
    let a = bind_ok (step first s bytes) (λ n. through step (first + 1) count n.0 n.1) x e in
    through_keeps P step end keeps count (first + 1) a.0.0 a.0.1 x (omega arith) (keeps first s bytes a.0 (omega arith) so a.1) a.2

set_up_to : (most : ℕ) (table : List ℕ) (i n : ℕ) → n ≤ most → IsUpTo most table → IsUpTo most (set table i n)
set_up_to most [] i n le all j = all j
set_up_to most (x ∷ table) zero n le all zero = le
set_up_to most (x ∷ table) zero n le all (suc j) = all (suc j)
set_up_to most (x ∷ table) (suc i) n le all zero = all zero
set_up_to most (x ∷ table) (suc i) n le all (suc j) = set_up_to most table i n le (λ k. all (suc k)) j

pub zeros_up_to : (most n : ℕ) → IsUpTo most (replicate n 0)
zeros_up_to most zero i = omega arith
zeros_up_to most (suc n) zero = omega arith
zeros_up_to most (suc n) (suc i) = zeros_up_to most n i

variable_up_to : (most number : ℕ) (table bytes : List ℕ) (x : List ℕ × List ℕ) → number ≤ most → IsUpTo most table
    → variable_at number table bytes ≡ Ok x → IsUpTo most x.0
unfolding variable_at
variable_up_to most number table bytes x le all e =
    let a = bind_ok (literal_at (length table - 1) bytes) _ x e in
    let g = guard_ok (ltb a.0.0 2 || eqb (a.0.0 % 2) 1) _ _ x a.2 in
    let h = guard_ok (not (eqb (get_or table (a.0.0 / 2) 0) 0)) _ _ x g.1 in
    subst (λ y. IsUpTo most y.0) (ok_is (set table (a.0.0 / 2) number, a.0.1) x h.1) (set_up_to most table (a.0.0 / 2) number le all)

input_up_to : (most k : ℕ) (table bytes : List ℕ) (x : List ℕ × List ℕ) → k < most → IsUpTo most table
    → input_line_at k table bytes ≡ Ok x → IsUpTo most x.0
unfolding input_line_at
input_up_to most k table bytes x lt all e =
    let a = bind_ok (variable_at (k + 1) table bytes) (λ d. behind 10 d.1 >>= λ rest. Ok (d.0, rest)) x e in
    let b = bind_ok (behind 10 a.0.1) (λ rest. Ok (a.0.0, rest)) x a.2 in
    subst (λ y. IsUpTo most y.0) (ok_is (a.0.0, b.0) x b.2) (variable_up_to most (k + 1) table bytes a.0 (omega arith) all a.1)

gate_up_to : (most inputs k : ℕ) (table bytes : List ℕ) (x : List ℕ × List ℕ) → inputs + k < most → IsUpTo most table
    → gate_line_at inputs k table bytes ≡ Ok x → IsUpTo most x.0
unfolding gate_line_at
gate_up_to most inputs k table bytes x lt all e =
    let a = bind_ok (variable_at (inputs + 1 + k) table bytes) _ x e in let b = bind_ok (behind 32 a.0.1) _ x a.2 in
    let d = bind_ok (literal_at (length table - 1) b.0) _ x b.2 in let f = bind_ok (behind 32 d.0.1) _ x d.2 in
    let g = bind_ok (literal_at (length table - 1) f.0) _ x f.2 in let h = bind_ok (behind 10 g.0.1) (λ rest. Ok (a.0.0, rest)) x g.2 in
    subst (λ y. IsUpTo most y.0) (ok_is (a.0.0, h.0) x h.2) (variable_up_to most (inputs + 1 + k) table bytes a.0 (omega arith) all a.1)

pub table_up_to : (sizes : Sizes) (table bytes : List ℕ) (x : List ℕ × List ℕ) → IsUpTo (sizes.inputs + sizes.gates) table
    → table_at sizes table bytes ≡ Ok x → IsUpTo (sizes.inputs + sizes.gates) x.0
unfolding table_at
table_up_to sizes table bytes x all e =
    let most = sizes.inputs + sizes.gates in
    let a = bind_ok (through input_line_at 0 sizes.inputs table bytes) _ x e in
    let b = bind_ok (many (λ k. output_at sizes.variables) 0 sizes.outputs a.0.1) _ x a.2 in
    let d = bind_ok (through (gate_line_at sizes.inputs) 0 sizes.gates a.0.0 b.0.1) (λ g. Ok (g.0, a.0.1)) x b.2 in
    let inputs = through_keeps (IsUpTo most) input_line_at sizes.inputs (λ k s cs y lt so. input_up_to most k s cs y (omega arith) so)
    sizes.inputs 0 table bytes a.0 (omega arith) all a.1 in
    let gates = through_keeps (IsUpTo most) (gate_line_at sizes.inputs) sizes.gates
    (λ k s cs y lt so. gate_up_to most sizes.inputs k s cs y (omega arith) so) sizes.gates 0 a.0.0 b.0.1 d.0 (omega arith) inputs d.1 in
    subst (λ y. IsUpTo most y.0) (ok_is (d.0.0, a.0.1) x d.2) gates

renamed_below : (most : ℕ) (table bytes : List ℕ) (x : ℕ × List ℕ) → IsUpTo most table → renamed_at table bytes ≡ Ok x
    → x.0 < 2 * (most + 1)
unfolding renamed_at
renamed_below most table bytes x all e =
    let a = bind_ok (literal_at (length table - 1) bytes) _ x e in
    let g = guard_ok (leb 2 a.0.0 && eqb (get_or table (a.0.0 / 2) 0) 0) _ _ x a.2 in
    subst (λ y. y.0 < 2 * (most + 1)) (ok_is (renamed table a.0.0, a.0.1) x g.1) (omega (arith, all (a.0.0 / 2)))

renamed_output_below : (most : ℕ) (table bytes : List ℕ) (x : ℕ × List ℕ) → IsUpTo most table → renamed_output_at table bytes ≡ Ok x
    → x.0 < 2 * (most + 1)
unfolding renamed_output_at
renamed_output_below most table bytes x all e =
    let a = bind_ok (renamed_at table bytes) (λ l. behind 10 l.1 >>= λ rest. Ok (l.0, rest)) x e in
    let b = bind_ok (behind 10 a.0.1) (λ rest. Ok (a.0.0, rest)) x a.2 in
    subst (λ y. y.0 < 2 * (most + 1)) (ok_is (a.0.0, b.0) x b.2) (renamed_below most table bytes a.0 all a.1)

renamed_gate_below : (most : ℕ) (table bytes : List ℕ) (x : Gate × List ℕ) → IsUpTo most table → renamed_gate_at table bytes ≡ Ok x
    → (x.0.left < 2 * (most + 1)) × (x.0.right < 2 * (most + 1))
unfolding renamed_gate_at
renamed_gate_below most table bytes x all e =
    let a = bind_ok (literal_at (length table - 1) bytes) _ x e in let b = bind_ok (behind 32 a.0.1) _ x a.2 in
    let d = bind_ok (renamed_at table b.0) _ x b.2 in let f = bind_ok (behind 32 d.0.1) _ x d.2 in
    let g = bind_ok (renamed_at table f.0) _ x f.2 in let h = bind_ok (behind 10 g.0.1) _ x g.2 in
    let made : Gate × List ℕ = (record { left = d.0.0; right = g.0.0 }, h.0) in
    subst (λ y. (y.0.left < 2 * (most + 1)) × (y.0.right < 2 * (most + 1))) (ok_is made x h.2)
    (renamed_below most table b.0 d.0 all d.1, renamed_below most table f.0 g.0 all g.1)

-- ---- the whole

-- what is read one behind the other fits together
module _ (sizes : Sizes) (few : AreFew sizes) (outputs : List ℕ) (gates : List Gate) (names : Names)
    (o : AreSo (λ k literal. literal < 2 * (sizes.inputs + sizes.gates + 1)) 0 sizes.outputs outputs)
    (p : AreSo (λ k gate. (gate.left < 2 * (sizes.inputs + 1 + k)) × (gate.right < 2 * (sizes.inputs + 1 + k))) 0 sizes.gates gates)
    (q : CountsAs (no_names sizes) names) where
  facts : (k : ℕ) (gate : Gate) → slice_get gates k ≡ Some gate
      → (gate.left < 2 * (sizes.inputs + 1 + k)) × (gate.right < 2 * (sizes.inputs + 1 + k))
  facts k gate is =
      let within : k < sizes.gates = omega (arith, slice_get_within gates k gate is, p.count_is) in
      let here = rw (get_or_from_slice_get gates k gate gate is) at (p.each k gate within) in
      (omega (arith, here.0), omega (arith, here.1))

  fits : IsCircuit sizes.inputs gates outputs names.inputs names.outputs
  fits = record {
    few_inputs = few.inputs;
    few_gates = rw p.count_is few.gates;
    few_outputs = rw o.count_is few.outputs;
    left = λ k gate is. (facts k gate is).0;
    right = λ k gate is. (facts k gate is).1;
    literals = λ k d lt. omega (arith, o.each k d (omega (arith, o.count_is)), p.count_is);
    in_count = q.inputs ∙ length-replicate sizes.inputs [];
    out_count = q.outputs ∙ length-replicate sizes.outputs [] ∙ sym o.count_is;
  }

module _ (sizes : Sizes) (few : AreFew sizes) (start middle later : List ℕ) (outputs : List ℕ) (gates : List Gate) (names : Names)
    (symbols : symbols_at (length later) (no_names sizes) later ≡ Ok names) where
  pub binary_fits : sizes.variables ≡ sizes.inputs + sizes.gates
      → many (λ k. output_at sizes.variables) 0 sizes.outputs start ≡ Ok (outputs, middle)
      → many (λ k. gate_at (2 * (sizes.inputs + 1 + k))) 0 sizes.gates middle ≡ Ok (gates, later)
      → IsCircuit sizes.inputs gates outputs names.inputs names.outputs
  binary_fits all e f =
      let o = many_are_so (λ k literal. literal < 2 * (sizes.inputs + sizes.gates + 1)) (λ k. output_at sizes.variables)
      (λ k bytes x is. omega (arith, output_below sizes.variables bytes x is, all)) sizes.outputs 0 start (outputs, middle) e in
      let p = many_are_so (λ k gate. (gate.left < 2 * (sizes.inputs + 1 + k)) × (gate.right < 2 * (sizes.inputs + 1 + k)))
      (λ k. gate_at (2 * (sizes.inputs + 1 + k))) (λ k bytes x. gate_below (2 * (sizes.inputs + 1 + k)) bytes x) sizes.gates 0
      middle (gates, later) f in
      fits sizes few outputs gates names o p (symbols_count (length later) (no_names sizes) later names symbols)

-- as many names as inputs and outputs
pub names_count : (sizes : Sizes) (later : List ℕ) (names : Names) → symbols_at (length later) (no_names sizes) later ≡ Ok names
    → (length names.inputs ≡ sizes.inputs) × (length names.outputs ≡ sizes.outputs)
names_count sizes later names e = let q = symbols_count (length later) (no_names sizes) later names e in
    (q.inputs ∙ length-replicate sizes.inputs [], q.outputs ∙ length-replicate sizes.outputs [])

-- what the lines of gates and of outputs say by a table
module _ (sizes : Sizes) (middle later : List ℕ) (gates : List Gate) (table : List ℕ)
    (all : IsUpTo (sizes.inputs + sizes.gates) table)
    (f : many (λ k. renamed_gate_at table) 0 sizes.gates middle ≡ Ok (gates, later)) where
  abbrev below_all : ℕ → Gate → Type 0
  below_all k gate = (gate.left < 2 * (sizes.inputs + sizes.gates + 1)) × (gate.right < 2 * (sizes.inputs + sizes.gates + 1))

  so : AreSo below_all 0 sizes.gates gates
  so = many_are_so below_all (λ k. renamed_gate_at table)
      (λ k bytes x. renamed_gate_below (sizes.inputs + sizes.gates) table bytes x all) sizes.gates 0 middle (gates, later) f

  each_below : (k : ℕ) (gate : Gate) → slice_get gates k ≡ Some gate → below_all k gate
  each_below k gate is = let within : k < sizes.gates = omega (arith, slice_get_within gates k gate is, so.count_is) in
      rw (get_or_from_slice_get gates k gate gate is) at (so.each k gate within)

  pub lines_are_gates : AreFew sizes → AreGates sizes.inputs gates
  lines_are_gates few = record {
    few_inputs = few.inputs;
    few_gates = rw so.count_is few.gates;
    left = λ k gate is. omega (arith, (each_below k gate is).0, so.count_is);
    right = λ k gate is. omega (arith, (each_below k gate is).1, so.count_is);
  }

  pub outputs_below : (start outputs : List ℕ) → many (λ k. renamed_output_at table) 0 sizes.outputs start ≡ Ok (outputs, middle)
      → (length outputs ≡ sizes.outputs) × All (λ literal. literal < 2 * (sizes.inputs + 1 + length gates)) outputs
  outputs_below start outputs e =
      let o = many_are_so (λ k literal. literal < 2 * (sizes.inputs + sizes.gates + 1)) (λ k. renamed_output_at table)
      (λ k bytes x is. renamed_output_below (sizes.inputs + sizes.gates) table bytes x all is) sizes.outputs 0 start (outputs, middle) e in
      (o.count_is, λ k d lt. omega (arith, o.each k d (omega (arith, o.count_is)), so.count_is))
