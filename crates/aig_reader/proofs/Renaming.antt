-- In the ASCII form a literal has the value that it has by the lines as they are written.
use Rattle.std.proofs.Common.{◌≡◌, ◌≢◌, ℕ, zero, suc, ◌-◌, ◌+◌, ◌*◌, ◌/◌, ◌%◌, ◌^◌, ◌≤◌, ◌<◌, Bool, false, not, leb, ltb, eqb, ◌||◌, ◌&&◌}
use Rattle.std.proofs.Common.{List, [], ◌∷◌, length, get_or, set, replicate, inl, inr, ◌⊎◌, Some, Result, Ok, Err, map}
use Rattle.std.proofs.Common.{refl, sym, ap, ◌∙◌, subst, arith, eq-eqb}
use Rattle.std.specs.Prelude.{slice_get}
use Rattle.std.proofs.lemmas.Bool.{cases_Bool, cases_lt, eqb-true}
use Rattle.std.proofs.lemmas.Bool.Decides.{nat_tests}
use Rattle.std.proofs.lemmas.List.{length-replicate, length-set, get_or-set_same, get_or-set_other}
use Rattle.aig_reader.specs.declared.refusal.Fault.{Fault}
use Rattle.aig_reader.specs.declared.circuit.Gate.{Gate}
use Rattle.aig_reader.specs.declared.header.Sizes.{Sizes}
use Rattle.aig_reader.specs.Fields.{◌>>=◌, Then, behind, literal_at, output_at, many, through}
use Rattle.aig_reader.specs.Ascii.{variable_at, input_line_at, gate_line_at, renamed, renamed_at}
use Rattle.aig_reader.specs.Ascii.{renamed_output_at, renamed_gate_at}
use Rattle.lattice.specs.Family.{divides}
use Rattle.std.proofs.lemmas.Option.{slice_get_within, slice_get-map}
use Rattle.std.specs.Option.{option_map}
use Rattle.aig_reader.specs.Circuit.{Circuit, HasValue}
use Rattle.aig_reader.specs.Circuit as values
use Rattle.aig_reader.specs.Reading.{sizes_at, no_names, symbols_at, table_at, ordered_at, on_itself_at, SaysInOrder, in_order, looped}
use Rattle.aig_reader.specs.Order.{Ordered, ArePlaced, number, renumbered}
use Rattle.aig_reader.specs.Laws.{ListedValues}
use Rattle.aig_reader.specs.Listing.{Line, Listing, line_at, listing_at, IsListed, constant, input, gate, complement}
use Rattle.aig_reader.proofs.Circuits.{bind_ok, guard_ok, ok_is, literal_below, zeros_up_to, many_are_so, no_fault}
use Rattle.aig_reader.proofs.Placing.{placed_sound}
use Rattle.aig_reader.proofs.Ordering.{lower_numbers, ordered_value}

-- ---- what a line puts into the table

-- the number of a literal's variable in a table, which the constant has not
record IsNumber (table : List ℕ) (literal number : ℕ) : Type 0 where
  even : 2 * (literal / 2) ≡ literal
  there : get_or table (literal / 2) 0 ≡ number

-- a table in which more variables have a number, and as many places
record Grows (old new : List ℕ) : Type 0 where
  size : length new ≡ length old
  first : get_or new 0 0 ≡ get_or old 0 0
  keeps : (v : ℕ) → get_or old v 0 ≢ 0 → get_or new v 0 ≡ get_or old v 0

grows_same : (table : List ℕ) → Grows table table
grows_same table = record { size = refl; first = refl; keeps = λ v some. refl }

grows_on : (a b c : List ℕ) → Grows a b → Grows b c → Grows a c
grows_on a b c p q = record {
  size = q.size ∙ p.size;
  first = q.first ∙ p.first;
  keeps = λ v some. q.keeps v (λ none. some (sym (p.keeps v some) ∙ none)) ∙ p.keeps v some;
}

number_stays : (old new : List ℕ) (literal number : ℕ) → Grows old new → 0 < number → IsNumber old literal number
    → IsNumber new literal number
number_stays old new literal number grows some is =
    record { even = is.even; there = grows.keeps (literal / 2) (λ none. absurd (omega (arith, is.there, none))) ∙ is.there }

even_is : (literal : ℕ) → (ltb literal 2 || eqb (literal % 2) 1) ≡ false → (2 ≤ literal) × (2 * (literal / 2) ≡ literal)
even_is literal e =
    let parts : (2 ≤ literal) × (literal % 2 ≢ 1) = grind (arith, nat_tests, e) in (parts.0, omega (arith, parts.1))

zero_is : (n : ℕ) → not (eqb n 0) ≡ false → n ≡ 0
zero_is n e = grind (arith, nat_tests, e)

first_is : {A : Type 0} (x y : A) (xs : List A) → slice_get (x ∷ xs) 0 ≡ Some y → x ≡ y
first_is x y xs e = cc

all_are : {A : Type 0} (own : A → ℕ) (number : ℕ → ℕ) (first : ℕ) (table : List ℕ) (x : A) (xs : List A)
    → IsNumber table (own x) (number first)
    → ((i : ℕ) (y : A) → slice_get xs i ≡ Some y → IsNumber table (own y) (number (first + 1 + i)))
    → (i : ℕ) (y : A) → slice_get (x ∷ xs) i ≡ Some y → IsNumber table (own y) (number (first + i))
all_are own number first table x xs here later zero y is =
    let at : first ≡ first + 0 = omega arith in
    subst (λ n. IsNumber table (own y) (number n)) at
    (subst (λ z. IsNumber table (own z) (number first)) (first_is x y xs is) here)
all_are own number first table x xs here later (suc i) y is =
    let at : first + 1 + i ≡ first + suc i = omega arith in subst (λ n. IsNumber table (own y) (number n)) at (later i y is)

-- what a line defines
record Defines {A : Type 0} (own : A → ℕ) (read : List ℕ → Result (A × List ℕ) Fault) (number : ℕ)
    (old new bytes rest : List ℕ) : Type 0 where
  value : A
  reads : read bytes ≡ Ok (value, rest)
  grows : Grows old new
  only : (v : ℕ) → get_or new v 0 ≢ 0 → (get_or old v 0 ≢ 0) ⊎ (own value ≡ 2 * v)
  is : IsNumber new (own value) number

same_or_other : (a b : ℕ) → (a ≡ b) ⊎ (a ≢ b)
same_or_other a b = elim (cases_Bool (eqb a b)) [
  | inl e ↦ inl (eqb-true a b e)
  | inr e ↦ inr (λ same. let yes = eq-eqb a b same in absurd cc)
]

output_is : (variables : ℕ) (bytes : List ℕ) (literal : ℕ) (front rest : List ℕ) → literal_at variables bytes ≡ Ok (literal, front)
    → behind 10 front ≡ Ok rest → output_at variables bytes ≡ Ok (literal, rest)
unfolding output_at
output_is variables bytes literal front rest p q = rw (p, q) refl

line_is : (variables : ℕ) (bytes : List ℕ) (line : Line) (a b c d e rest : List ℕ) → literal_at variables bytes ≡ Ok (line.own, a)
    → behind 32 a ≡ Ok b → literal_at variables b ≡ Ok (line.left, c) → behind 32 c ≡ Ok d → literal_at variables d ≡ Ok (line.right, e)
    → behind 10 e ≡ Ok rest → line_at variables bytes ≡ Ok (line, rest)
unfolding line_at
line_is variables bytes line a b c d e rest p q r s t u = rw (p, q, r, s, t, u) refl

abbrev itself : ℕ → ℕ
itself n = n

variable_defines : (number : ℕ) (table bytes : List ℕ) (x : List ℕ × List ℕ) → 1 ≤ length table → variable_at number table bytes ≡ Ok x
    → Defines itself (literal_at (length table - 1)) number table x.0 bytes x.1
unfolding variable_at
variable_defines number table bytes x some e =
    let a = bind_ok (literal_at (length table - 1) bytes) _ x e in
    let g = guard_ok (ltb a.0.0 2 || eqb (a.0.0 % 2) 1) _ _ x a.2 in
    let h = guard_ok (not (eqb (get_or table (a.0.0 / 2) 0) 0)) _ _ x g.1 in
    let v : ℕ = a.0.0 / 2 in
    let shape = even_is a.0.0 g.0 in let vacant = zero_is (get_or table v 0) h.0 in
    let below = literal_below (length table - 1) bytes a.0 a.1 in
    let within : v < length table = omega (arith, below, shape.1, some) in
    let grows : Grows table (set table v number) = record {
      size = length-set table v number;
      first = get_or-set_other table v 0 number 0 (λ same. absurd (omega (arith, same, shape.0, shape.1)));
      keeps = λ w set. get_or-set_other table v w number 0 (λ same. set (ap (λ i. get_or table i 0) same ∙ vacant));
    } in
    let only : (w : ℕ) → get_or (set table v number) w 0 ≢ 0 → (get_or table w 0 ≢ 0) ⊎ (a.0.0 ≡ 2 * w) =
    λ w set. elim (same_or_other w v) [
      | inl same ↦ inr (omega (arith, same, shape.1))
      | inr other ↦ inl (λ none. set (get_or-set_other table v w number 0 other ∙ none))
    ] in
    subst (λ y. Defines itself (literal_at (length table - 1)) number table y.0 bytes y.1) (ok_is (set table v number, a.0.1) x h.1)
    (record {
      value = a.0.0;
      reads = a.1;
      grows = grows;
      only = only;
      is = record { even = shape.1; there = get_or-set_same table v number 0 within };
    })

input_defines : (k : ℕ) (table bytes : List ℕ) (x : List ℕ × List ℕ) → 1 ≤ length table → input_line_at k table bytes ≡ Ok x
    → Defines itself (output_at (length table - 1)) (k + 1) table x.0 bytes x.1
unfolding input_line_at
input_defines k table bytes x some e =
    let a = bind_ok (variable_at (k + 1) table bytes) (λ d. behind 10 d.1 >>= λ rest. Ok (d.0, rest)) x e in
    let b = bind_ok (behind 10 a.0.1) (λ rest. Ok (a.0.0, rest)) x a.2 in
    let d = variable_defines (k + 1) table bytes a.0 some a.1 in
    subst (λ y. Defines itself (output_at (length table - 1)) (k + 1) table y.0 bytes y.1) (ok_is (a.0.0, b.0) x b.2)
    (record {
      value = d.value;
      reads = output_is (length table - 1) bytes d.value a.0.1 b.0 d.reads b.1;
      grows = d.grows;
      only = d.only;
      is = d.is;
    })

abbrev own_of : Line → ℕ
own_of line = line.own

gate_defines : (inputs k : ℕ) (table bytes : List ℕ) (x : List ℕ × List ℕ) → 1 ≤ length table → gate_line_at inputs k table bytes ≡ Ok x
    → Defines own_of (line_at (length table - 1)) (inputs + 1 + k) table x.0 bytes x.1
unfolding gate_line_at
gate_defines inputs k table bytes x some e =
    let a = bind_ok (variable_at (inputs + 1 + k) table bytes) _ x e in let b = bind_ok (behind 32 a.0.1) _ x a.2 in
    let d = bind_ok (literal_at (length table - 1) b.0) _ x b.2 in let f = bind_ok (behind 32 d.0.1) _ x d.2 in
    let g = bind_ok (literal_at (length table - 1) f.0) _ x f.2 in let h = bind_ok (behind 10 g.0.1) (λ rest. Ok (a.0.0, rest)) x g.2 in
    let own = variable_defines (inputs + 1 + k) table bytes a.0 some a.1 in
    let line : Line = record { own = own.value; left = d.0.0; right = g.0.0 } in
    subst (λ y. Defines own_of (line_at (length table - 1)) (inputs + 1 + k) table y.0 bytes y.1) (ok_is (a.0.0, h.0) x h.2)
    (record {
      value = line;
      reads = line_is (length table - 1) bytes line a.0.1 b.0 d.0.1 f.0 g.0.1 h.0 own.reads b.1 d.1 f.1 g.1 h.1;
      grows = own.grows;
      only = own.only;
      is = own.is;
    })

-- what lines define
record AllDefined {A : Type 0} (own : A → ℕ) (read : List ℕ → Result (A × List ℕ) Fault) (number : ℕ → ℕ) (first count : ℕ)
    (old new bytes rest : List ℕ) : Type 0 where
  values : List A
  reads : many (λ k. read) first count bytes ≡ Ok (values, rest)
  grows : Grows old new
  only : (v : ℕ) → get_or new v 0 ≢ 0 → (get_or old v 0 ≢ 0) ⊎ ((i : ℕ) × (x : A) × (slice_get values i ≡ Some x) × (own x ≡ 2 * v))
  are : (i : ℕ) (x : A) → slice_get values i ≡ Some x → IsNumber new (own x) (number (first + i))

all_defined : {A : Type 0} (own : A → ℕ) (read : List ℕ → Result (A × List ℕ) Fault) (number : ℕ → ℕ) (size : ℕ)
    (step : ℕ → List ℕ → List ℕ → Result (List ℕ × List ℕ) Fault) → ((k : ℕ) → 0 < number k)
    → ((k : ℕ) (table bytes : List ℕ) (x : List ℕ × List ℕ) → length table ≡ size → step k table bytes ≡ Ok x
    → Defines own read (number k) table x.0 bytes x.1)
    → (count first : ℕ) (table bytes : List ℕ) (x : List ℕ × List ℕ) → length table ≡ size → through step first count table bytes ≡ Ok x
    → AllDefined own read number first count table x.0 bytes x.1
unfolding through many
all_defined own read number size step some defines zero first table bytes x len e =
    subst (λ y. AllDefined own read number first 0 table y.0 bytes y.1) (ok_is (table, bytes) x e)
    (record { values = []; reads = refl; grows = grows_same table; only = λ v set. inl set; are = λ i y is. absurd cc })
all_defined own read number size step some defines (suc count) first table bytes x len e =
    let a = bind_ok (step first table bytes) (λ n. through step (first + 1) count n.0 n.1) x e in
    let d = defines first table bytes a.0 len a.1 in
    let later = all_defined own read number size step some defines count (first + 1) a.0.0 a.0.1 x (d.grows.size ∙ len) a.2 in
    let here = number_stays a.0.0 x.0 (own d.value) (number first) later.grows (some first) d.is in record {
      values = d.value ∷ later.values;
      reads = rw (d.reads, later.reads) refl;
      grows = grows_on table a.0.0 x.0 d.grows later.grows;
      only = λ v set. elim (later.only v set) [
        | inl before ↦ elim (d.only v before) [ inl old ↦ inl old | inr own ↦ inr (0, d.value, refl, own) ]
        | inr one ↦ inr (suc one.0, one.1, one.2, one.3)
      ];
      are = all_are own number first x.0 d.value later.values here later.are;
    }

-- ---- what a line says by the table

-- the circuit's literal is the renamed one, whose variable a line defines
record IsSaid (table : List ℕ) (literal own : ℕ) : Type 0 where
  is : own ≡ renamed table literal
  defined : 2 ≤ literal → get_or table (literal / 2) 0 ≢ 0

defined_is : (literal n : ℕ) → (leb 2 literal && eqb n 0) ≡ false → 2 ≤ literal → n ≢ 0
defined_is literal n e le = grind (arith, nat_tests, e, le)

renamed_reads : (table bytes : List ℕ) (y : ℕ × List ℕ) → renamed_at table bytes ≡ Ok y
    → (x : ℕ) × (literal_at (length table - 1) bytes ≡ Ok (x, y.1)) × IsSaid table x y.0
unfolding renamed_at
renamed_reads table bytes y e =
    let a = bind_ok (literal_at (length table - 1) bytes) _ y e in
    let g = guard_ok (leb 2 a.0.0 && eqb (get_or table (a.0.0 / 2) 0) 0) _ (Ok (renamed table a.0.0, a.0.1)) y a.2 in
    subst (λ z. (x : ℕ) × (literal_at (length table - 1) bytes ≡ Ok (x, z.1)) × IsSaid table x z.0)
    (ok_is (renamed table a.0.0, a.0.1) y g.1) (
      a.0.0,
      a.1,
      record { is = refl; defined = defined_is a.0.0 (get_or table (a.0.0 / 2) 0) g.0 },
    )

output_reads : (table bytes : List ℕ) (y : ℕ × List ℕ) → renamed_output_at table bytes ≡ Ok y
    → (x : ℕ) × (output_at (length table - 1) bytes ≡ Ok (x, y.1)) × IsSaid table x y.0
unfolding renamed_output_at
output_reads table bytes y e =
    let a = bind_ok (renamed_at table bytes) (λ l. behind 10 l.1 >>= λ rest. Ok (l.0, rest)) y e in
    let b = bind_ok (behind 10 a.0.1) (λ rest. Ok (a.0.0, rest)) y a.2 in let r = renamed_reads table bytes a.0 a.1 in
    subst (λ z. (x : ℕ) × (output_at (length table - 1) bytes ≡ Ok (x, z.1)) × IsSaid table x z.0)
    (ok_is (a.0.0, b.0) y b.2) (r.0, output_is (length table - 1) bytes r.0 a.0.1 b.0 r.1 b.1, r.2)

-- the gate has the operands of the line, renamed
record IsRenamed (table : List ℕ) (line : Line) (g : Gate) : Type 0 where
  left : IsSaid table line.left g.left
  right : IsSaid table line.right g.right

gate_reads : (table bytes : List ℕ) (y : Gate × List ℕ) → renamed_gate_at table bytes ≡ Ok y
    → (x : Line) × (line_at (length table - 1) bytes ≡ Ok (x, y.1)) × IsRenamed table x y.0
unfolding renamed_gate_at
gate_reads table bytes y e =
    let a = bind_ok (literal_at (length table - 1) bytes) _ y e in let b = bind_ok (behind 32 a.0.1) _ y a.2 in
    let d = bind_ok (renamed_at table b.0) _ y b.2 in let f = bind_ok (behind 32 d.0.1) _ y d.2 in
    let g = bind_ok (renamed_at table f.0) _ y f.2 in let h = bind_ok (behind 10 g.0.1) _ y g.2 in
    let l = renamed_reads table b.0 d.0 d.1 in let r = renamed_reads table f.0 g.0 g.1 in
    let line : Line = record { own = a.0.0; left = l.0; right = r.0 } in
    let made : Gate × List ℕ = (record { left = d.0.0; right = g.0.0 }, h.0) in
    let so : (x : Line) × (line_at (length table - 1) bytes ≡ Ok (x, h.0)) × IsRenamed table x made.0 = (
      line,
      line_is (length table - 1) bytes line a.0.1 b.0 d.0.1 f.0 g.0.1 h.0 a.1 b.1 l.1 f.1 r.1 h.1,
      record { left = l.2; right = r.2 },
    ) in
    subst (λ z. (x : Line) × (line_at (length table - 1) bytes ≡ Ok (x, z.1)) × IsRenamed table x z.0) (ok_is made y h.2) so

-- what lines say by the table, beside what they say as they are written
record AllMatch {A B : Type 0} (read : List ℕ → Result (A × List ℕ) Fault) (M : A → B → Type 0) (first count : ℕ) (bytes : List ℕ)
    (ys : List B) (rest : List ℕ) : Type 0 where
  values : List A
  reads : many (λ k. read) first count bytes ≡ Ok (values, rest)
  each : (i : ℕ) (x : A) → slice_get values i ≡ Some x → (y : B) × (slice_get ys i ≡ Some y) × M x y

one_matches : {A B : Type 0} (M : A → B → Type 0) (x : A) (y : B) (xs : List A) (ys : List B) → M x y
    → ((i : ℕ) (a : A) → slice_get xs i ≡ Some a → (b : B) × (slice_get ys i ≡ Some b) × M a b)
    → (i : ℕ) (a : A) → slice_get (x ∷ xs) i ≡ Some a → (b : B) × (slice_get (y ∷ ys) i ≡ Some b) × M a b
one_matches M x y xs ys here later zero a is = (y, refl, subst (λ z. M z y) (first_is x a xs is) here)
one_matches M x y xs ys here later (suc i) a is = later i a is

all_match : {A B : Type 0} (by : ℕ → List ℕ → Result (B × List ℕ) Fault) (read : List ℕ → Result (A × List ℕ) Fault) (M : A → B → Type 0)
    → ((k : ℕ) (bytes : List ℕ) (y : B × List ℕ) → by k bytes ≡ Ok y → (x : A) × (read bytes ≡ Ok (x, y.1)) × M x y.0)
    → (count first : ℕ) (bytes : List ℕ) (y : List B × List ℕ) → many by first count bytes ≡ Ok y
    → AllMatch read M first count bytes y.0 y.1
unfolding many
all_match by read M matches zero first bytes y e =
    subst (λ z. AllMatch read M first 0 bytes z.0 z.1) (ok_is ([], bytes) y e)
    (record { values = []; reads = refl; each = λ i x is. absurd cc })
all_match by read M matches (suc count) first bytes y e =
    let a = bind_ok (by first bytes) (λ v. many by (first + 1) count v.1 >>= λ vs. Ok (v.0 ∷ vs.0, vs.1)) y e in
    let b = bind_ok (many by (first + 1) count a.0.1) (λ vs. Ok (a.0.0 ∷ vs.0, vs.1)) y a.2 in
    let one = matches first bytes a.0 a.1 in let later = all_match by read M matches count (first + 1) a.0.1 b.0 b.1 in
    subst (λ z. AllMatch read M first (suc count) bytes z.0 z.1) (ok_is (a.0.0 ∷ b.0.0, b.0.1) y b.2) (record {
      values = one.0 ∷ later.values;
      reads = rw (one.1, later.reads) refl;
      each = one_matches M one.0 a.0.0 later.values b.0.0 one.2 later.each;
    })

-- ---- values

module _ (l : Listing) (c : Circuit) (table : List ℕ) (point : ℕ) (zero_first : get_or table 0 0 ≡ 0) (count : length l.inputs ≡ c.inputs)
    (ins : (k literal : ℕ) → slice_get l.inputs k ≡ Some literal → IsNumber table literal (k + 1))
    (gates : (k : ℕ) (line : Line) → slice_get l.gates k ≡ Some line → IsNumber table line.own (c.inputs + 1 + k))
    (same : (k : ℕ) (line : Line) → slice_get l.gates k ≡ Some line → (g : Gate) × (slice_get c.gates k ≡ Some g) × IsRenamed table line g)
  where
    renamed_value : {literal : ℕ} {x : Bool} → IsListed l point literal x → HasValue c point (renamed table literal) x
    renamed_value constant =
        let at : 0 ≡ renamed table 0 = omega (arith, zero_first) in subst (λ n. HasValue c point n false) at values.constant
    renamed_value (input k literal is) =
        let number = ins k literal is in
        let at : 2 * (k + 1) ≡ renamed table literal = omega (arith, number.there, number.even) in
        let within : k + 1 ≤ c.inputs = omega (arith, slice_get_within l.inputs k literal is, count) in
        let bit : divides (2 ^ (c.inputs - (k + 1))) point ≡ divides (2 ^ (length l.inputs - (k + 1))) point =
        ap (λ n. divides (2 ^ (n - (k + 1))) point) (sym count) in
        subst (λ b. HasValue c point (renamed table literal) b) bit
        (subst (λ n. HasValue c point n (divides (2 ^ (c.inputs - (k + 1))) point)) at (values.input (k + 1) (omega arith) within))
    renamed_value (gate k line x y is left right) =
        let number = gates k line is in let g = same k line is in
        let at : 2 * (c.inputs + 1 + k) ≡ renamed table line.own = omega (arith, number.there, number.even) in
        let first = subst (λ n. HasValue c point n x) (sym g.2.left.is) (renamed_value left) in
        let second = subst (λ n. HasValue c point n y) (sym g.2.right.is) (renamed_value right) in
        subst (λ n. HasValue c point n (x && y)) at (values.gate k g.0 x y g.1 first second)
    renamed_value (complement v x d) =
        let half : 2 * v / 2 ≡ v = omega arith in let other : (2 * v + 1) / 2 ≡ v = omega arith in
        let number : ℕ = get_or table v 0 in
        let from : renamed table (2 * v) ≡ 2 * number = omega (arith, ap (λ i. get_or table i 0) half) in
        let to : 2 * number + 1 ≡ renamed table (2 * v + 1) = omega (arith, ap (λ i. get_or table i 0) other) in
        subst (λ n. HasValue c point n (not x)) to
        (values.complement number x (subst (λ n. HasValue c point n x) from (renamed_value d)))

-- ---- each literal that is defined has a value

-- where the operands of each gate have a lower rank
module _ (l : Listing) (c : Circuit) (table : List ℕ) (point : ℕ) (rank : ℕ → ℕ)
    (lower : (k : ℕ) (g : Gate) → slice_get c.gates k ≡ Some g
    → (rank (g.left / 2) < rank (c.inputs + 1 + k)) × (rank (g.right / 2) < rank (c.inputs + 1 + k)))
    (gates : (k : ℕ) (line : Line) → slice_get l.gates k ≡ Some line → IsNumber table line.own (c.inputs + 1 + k))
    (same : (k : ℕ) (line : Line) → slice_get l.gates k ≡ Some line → (g : Gate) × (slice_get c.gates k ≡ Some g) × IsRenamed table line g)
    (only : (v : ℕ) → get_or table v 0 ≢ 0 → ((i : ℕ) × (x : ℕ) × (slice_get l.inputs i ≡ Some x) × (x ≡ 2 * v))
    ⊎ ((i : ℕ) × (x : Line) × (slice_get l.gates i ≡ Some x) × (x.own ≡ 2 * v))) where
  -- where the variables with ranks below n have one, so has a literal
  literal_listed : (n literal : ℕ)
      → ((v : ℕ) → rank (get_or table v 0) < n → (v ≡ 0) ⊎ (get_or table v 0 ≢ 0) → (x : Bool) × IsListed l point (2 * v) x)
      → rank (get_or table (literal / 2) 0) < n → (2 ≤ literal → get_or table (literal / 2) 0 ≢ 0) → (x : Bool) × IsListed l point literal x
  literal_listed n literal before lt defined =
      let some : (literal / 2 ≡ 0) ⊎ (get_or table (literal / 2) 0 ≢ 0) =
      elim (cases_lt literal 2) [ inl less ↦ inl (omega arith) | inr more ↦ inr (defined more) ] in
      let value = before (literal / 2) lt some in elim (cases_lt (literal % 2) 1) [
        | inl less ↦ let at : 2 * (literal / 2) ≡ literal = omega arith in (value.0, subst (λ m. IsListed l point m value.0) at value.1)
        | inr more ↦
            let at : 2 * (literal / 2) + 1 ≡ literal = omega arith in
            (not value.0, subst (λ m. IsListed l point m (not value.0)) at (complement (literal / 2) value.0 value.1))
      ]

  variable_listed : (n v : ℕ) → rank (get_or table v 0) < n → (v ≡ 0) ⊎ (get_or table v 0 ≢ 0) → (x : Bool) × IsListed l point (2 * v) x
  variable_listed zero v lt some = absurd (omega arith)
  variable_listed (suc n) v lt some = elim some [
    | inl none ↦ let at : 0 ≡ 2 * v = omega (arith, none) in (false, subst (λ m. IsListed l point m false) at constant)
    | inr number ↦ elim (only v number) [
      | inl i ↦
          let x : Bool = divides (2 ^ (length l.inputs - (i.0 + 1))) point in
          (x, subst (λ m. IsListed l point m x) i.3 (input i.0 i.1 i.2))
      | inr q ↦
          let g = same q.0 q.1 q.2 in let own = gates q.0 q.1 q.2 in
          let half : q.1.own / 2 ≡ v = omega (arith, q.3) in
          let here : get_or table v 0 ≡ c.inputs + 1 + q.0 = ap (λ i. get_or table i 0) (sym half) ∙ own.there in
          let low = lower q.0 g.0 g.1 in
          let first : g.0.left / 2 ≡ get_or table (q.1.left / 2) 0 = omega (arith, g.2.left.is) in
          let second : g.0.right / 2 ≡ get_or table (q.1.right / 2) 0 = omega (arith, g.2.right.is) in
          let left = literal_listed n q.1.left (variable_listed n)
          (omega (arith, low.0, ap rank first, ap rank here, lt)) g.2.left.defined in
          let right = literal_listed n q.1.right (variable_listed n)
          (omega (arith, low.1, ap rank second, ap rank here, lt)) g.2.right.defined in
          let x : Bool = left.0 && right.0 in
          (x, subst (λ m. IsListed l point m x) q.3 (gate q.0 q.1 left.0 right.0 q.2 left.1 right.1))
    ]
  ]

-- ---- the whole

-- what all lines put into a table
record Filled (sizes : Sizes) (table bytes : List ℕ) (x : List ℕ × List ℕ) : Type 0 where
  middle : List ℕ
  ins : AllDefined itself (output_at sizes.variables) (λ k. k + 1) 0 sizes.inputs table middle bytes x.1
  outs : List ℕ
  later : List ℕ
  outs_read : many (λ k. output_at sizes.variables) 0 sizes.outputs x.1 ≡ Ok (outs, later)
  end : List ℕ
  gates : AllDefined own_of (line_at sizes.variables) (λ k. sizes.inputs + 1 + k) 0 sizes.gates middle x.0 later end

filled : (sizes : Sizes) (table bytes : List ℕ) (x : List ℕ × List ℕ) → length table ≡ sizes.variables + 1
    → table_at sizes table bytes ≡ Ok x
    → Filled sizes table bytes x
unfolding table_at
filled sizes table bytes x len e =
    let a = bind_ok (through input_line_at 0 sizes.inputs table bytes) _ x e in
    let b = bind_ok (many (λ k. output_at sizes.variables) 0 sizes.outputs a.0.1) _ x a.2 in
    let d = bind_ok (through (gate_line_at sizes.inputs) 0 sizes.gates a.0.0 b.0.1) (λ g. Ok (g.0, a.0.1)) x b.2 in
    let ins = all_defined itself (output_at sizes.variables) (λ k. k + 1) (sizes.variables + 1) input_line_at (λ k. omega arith)
    (λ k t cs y size is. let less : length t - 1 ≡ sizes.variables = omega arith in
    subst (λ n. Defines itself (output_at n) (k + 1) t y.0 cs y.1) less (input_defines k t cs y (omega arith) is))
    sizes.inputs 0 table bytes a.0 len a.1 in
    let gates = all_defined own_of (line_at sizes.variables) (λ k. sizes.inputs + 1 + k) (sizes.variables + 1) (gate_line_at sizes.inputs)
    (λ k. omega arith) (λ k t cs y size is. let less : length t - 1 ≡ sizes.variables = omega arith in
    subst (λ n. Defines own_of (line_at n) (sizes.inputs + 1 + k) t y.0 cs y.1) less
    (gate_defines sizes.inputs k t cs y (omega arith) is)) sizes.gates 0 a.0.0 b.0.1 d.0 (ins.grows.size ∙ len) d.1 in
    subst (Filled sizes table bytes) (ok_is (d.0.0, a.0.1) x d.2)
    (record { middle = a.0.0; ins = ins; outs = b.0.0; later = b.0.1; outs_read = b.1; end = d.0.1; gates = gates })

-- what the lines from those of the outputs on say by a table
record ByTable (sizes : Sizes) (table bytes : List ℕ) (c : Circuit) : Type 0 where
  inputs : c.inputs ≡ sizes.inputs
  middle : List ℕ
  outs : AllMatch (output_at sizes.variables) (IsSaid table) 0 sizes.outputs bytes c.outputs middle
  later : List ℕ
  gates : AllMatch (line_at sizes.variables) (IsRenamed table) 0 sizes.gates middle c.gates later

-- the circuit of the lines, whose gates stand as they are listed
abbrev listed : Sizes → (outputs : List ℕ) → List Gate → Circuit
listed sizes outputs gates = record { inputs = sizes.inputs; gates = gates; outputs = outputs; in_names = []; out_names = [] }

by_table : (sizes : Sizes) (table bytes : List ℕ) (outputs : List ℕ × List ℕ) (gates : List Gate × List ℕ)
    → length table ≡ sizes.variables + 1 → many (λ k. renamed_output_at table) 0 sizes.outputs bytes ≡ Ok outputs
    → many (λ k. renamed_gate_at table) 0 sizes.gates outputs.1 ≡ Ok gates → ByTable sizes table bytes (listed sizes outputs.0 gates.0)
by_table sizes table bytes outputs gates len e f =
    let less : length table - 1 ≡ sizes.variables = omega arith in
    let outs = all_match (λ k. renamed_output_at table) (output_at sizes.variables) (IsSaid table)
    (λ k cs y is. subst (λ n. (x : ℕ) × (output_at n cs ≡ Ok (x, y.1)) × IsSaid table x y.0) less (output_reads table cs y is))
    sizes.outputs 0 bytes outputs e in
    let lines = all_match (λ k. renamed_gate_at table) (line_at sizes.variables) (IsRenamed table)
    (λ k cs y is. subst (λ n. (x : Line) × (line_at n cs ≡ Ok (x, y.1)) × IsRenamed table x y.0) less (gate_reads table cs y is))
    sizes.gates 0 outputs.1 gates f in
    record { inputs = refl; middle = outputs.1; outs = outs; later = gates.1; gates = lines }

listing_is : (bytes : List ℕ) (sizes : Sizes) (a b d f : List ℕ) (l : Listing) → sizes_at bytes ≡ Ok (sizes, a)
    → many (λ k. output_at sizes.variables) 0 sizes.inputs a ≡ Ok (l.inputs, b)
    → many (λ k. output_at sizes.variables) 0 sizes.outputs b ≡ Ok (l.outputs, d)
    → many (λ k. line_at sizes.variables) 0 sizes.gates d ≡ Ok (l.gates, f) → listing_at bytes ≡ Ok l
unfolding listing_at
listing_is bytes sizes a b d f l p q r s = rw (p, q, r, s) refl

-- what is read twice is the same
twice : {A : Type 0} (r : Result A Fault) (x y : A) → r ≡ Ok x → r ≡ Ok y → x ≡ y
twice r x y e f = ok_is x y (sym e ∙ f)

module _ (bytes : List ℕ) (sizes : Sizes) (start lines : List ℕ) (table : List ℕ) (c : Circuit)
    (header : sizes_at bytes ≡ Ok (sizes, start))
    (fill : Filled sizes (replicate (sizes.variables + 1) 0) start (table, lines)) (said : ByTable sizes table lines c) where
  abbrev listing : Listing
  listing = record { inputs = fill.ins.values; outputs = said.outs.values; gates = said.gates.values }

  same_lines : fill.gates.values ≡ said.gates.values
  same_lines =
      let outs = twice (many (λ k. output_at sizes.variables) 0 sizes.outputs lines) (fill.outs, fill.later) (said.outs.values, said.middle)
      fill.outs_read said.outs.reads in
      let at : fill.later ≡ said.middle = ap (λ p. p.1) outs in
      let first = subst (λ cs. many (λ k. line_at sizes.variables) 0 sizes.gates cs ≡ Ok (fill.gates.values, fill.end)) at
      fill.gates.reads in
      ap (λ p. p.0) (twice (many (λ k. line_at sizes.variables) 0 sizes.gates said.middle) (fill.gates.values, fill.end)
      (said.gates.values, said.later) first said.gates.reads)

  is_listing : listing_at bytes ≡ Ok listing
  is_listing = listing_is bytes sizes start lines said.middle said.later listing header fill.ins.reads said.outs.reads said.gates.reads

  inputs_count : length fill.ins.values ≡ c.inputs
  inputs_count = (many_are_so (λ k x. Unit {0}) (λ k. output_at sizes.variables) (λ k cs x is. tt) sizes.inputs 0 start
      (fill.ins.values, lines) fill.ins.reads).count_is ∙ sym said.inputs

  numbered_inputs : (k n : ℕ) → slice_get fill.ins.values k ≡ Some n → IsNumber table n (k + 1)
  numbered_inputs k n at =
      let plain : 0 + k + 1 ≡ k + 1 = omega arith in
      number_stays fill.middle table n (k + 1) fill.gates.grows (omega arith)
      (subst (λ m. IsNumber fill.middle n m) plain (fill.ins.are k n at))

  numbered_gates : (k : ℕ) (line : Line) → slice_get said.gates.values k ≡ Some line → IsNumber table line.own (c.inputs + 1 + k)
  numbered_gates k line at =
      let plain : sizes.inputs + 1 + (0 + k) ≡ c.inputs + 1 + k = omega (arith, said.inputs) in
      let here = subst (λ ls. slice_get ls k ≡ Some line) (sym same_lines) at in
      subst (λ m. IsNumber table line.own m) plain (fill.gates.are k line here)

  listed_values : (point j literal : ℕ) → slice_get said.outs.values j ≡ Some literal
      → (own : ℕ) × (slice_get c.outputs j ≡ Some own) × ((x : Bool) → IsListed listing point literal x → HasValue c point own x)
  listed_values point j literal is =
      let out = said.outs.each j literal is in
      let first : get_or table 0 0 ≡ 0 =
      omega (arith, fill.gates.grows.first, fill.ins.grows.first, zeros_up_to 0 (sizes.variables + 1) 0) in (
        out.0,
        out.1,
        λ x value. subst (λ n. HasValue c point n x) (sym out.2.is) (renamed_value listing c table point first inputs_count
            numbered_inputs numbered_gates (λ k line at. said.gates.each k line at) value),
      )

  only_these : (v : ℕ) → get_or table v 0 ≢ 0 → ((i : ℕ) × (x : ℕ) × (slice_get fill.ins.values i ≡ Some x) × (x ≡ 2 * v))
      ⊎ ((i : ℕ) × (x : Line) × (slice_get said.gates.values i ≡ Some x) × (x.own ≡ 2 * v))
  only_these v set = elim (fill.gates.only v set) [
    | inl before ↦ elim (fill.ins.only v before) [
      | inl none ↦ absurd (none (omega (arith, zeros_up_to 0 (sizes.variables + 1) v)))
      | inr one ↦ inl one
    ]
    | inr one ↦ inr (one.0, one.1, subst (λ ls. slice_get ls one.0 ≡ Some one.1) same_lines one.2, one.3)
  ]

  some_listed : (rank : ℕ → ℕ) → ((k : ℕ) (g : Gate) → slice_get c.gates k ≡ Some g
      → (rank (g.left / 2) < rank (c.inputs + 1 + k)) × (rank (g.right / 2) < rank (c.inputs + 1 + k)))
      → (point j literal : ℕ) → slice_get said.outs.values j ≡ Some literal → (x : Bool) × IsListed listing point literal x
  some_listed rank lower point j literal at =
      let out = said.outs.each j literal at in let n : ℕ = suc (rank (get_or table (literal / 2) 0)) in
      let variable = variable_listed listing c table point rank lower numbered_gates (λ k line there. said.gates.each k line there)
      only_these in
      literal_listed listing c table point rank lower numbered_gates (λ k line there. said.gates.each k line there) only_these
      n literal (variable n) (omega arith) out.2.defined

-- ---- a file that was read

-- a part behind which a circuit was read
then_ok : {A : Type 0} (r : Result A Fault) (IsRead : A → Result Circuit Fault → Type 0) (c : Circuit) → Then r IsRead (Ok c)
    → (x : A) × (r ≡ Ok x) × IsRead x (Ok c)
then_ok (Ok x) IsRead c t = (x, refl, t)
then_ok (Err d) IsRead c t = absurd cc

no_loop : (table : List ℕ) (k : ℕ) (bytes : List ℕ) (c : Circuit) → on_itself_at table k bytes ≡ Ok c → ⊥
unfolding on_itself_at
no_loop table k bytes c e = let a = bind_ok (many (λ j. renamed_gate_at table) 0 k bytes) _ c e in no_fault _ c a.2

-- the circuit of gates that were placed
record IsOrdered (sizes : Sizes) (outputs : List ℕ) (gates : List Gate) (c : Circuit) : Type 0 where
  p : Ordered
  placed : ArePlaced sizes.inputs gates (length gates) p
  inputs : c.inputs ≡ sizes.inputs
  same : c.gates ≡ p.gates
  outs : c.outputs ≡ map (renumbered sizes.inputs p) outputs

ordered_is : (sizes : Sizes) (outputs : List ℕ) (gates : List Gate) (p : Ordered) (rest : List ℕ) (c : Circuit)
    → ArePlaced sizes.inputs gates (length gates) p → ordered_at sizes outputs p rest ≡ Ok c → IsOrdered sizes outputs gates c
unfolding ordered_at
ordered_is sizes outputs gates p rest c placed e =
    let a = bind_ok (symbols_at (length rest) (no_names sizes) rest) _ c e in
    let made : Circuit = record {
      inputs = sizes.inputs;
      gates = p.gates;
      outputs = map (renumbered sizes.inputs p) outputs;
      in_names = a.0.inputs;
      out_names = a.0.outputs;
    } in subst (IsOrdered sizes outputs gates) (ok_is made c a.2)
    (record { p = p; placed = placed; inputs = refl; same = refl; outs = refl })

in_order_is : (sizes : Sizes) (table outputs start : List ℕ) (gates : List Gate) (rest : List ℕ) (c : Circuit)
    → SaysInOrder sizes table outputs start gates rest (Ok c) → IsOrdered sizes outputs gates c
in_order_is sizes table outputs start gates rest c (in_order p placed e) = ordered_is sizes outputs gates p rest c placed (sym e)
in_order_is sizes table outputs start gates rest c (looped k first e) = absurd (no_loop table k start c (sym e))

pub values_as_listed : ListedValues
values_as_listed bytes c e =
    let a = then_ok (sizes_at bytes) _ c e in let sizes : Sizes = a.0.0 in let blank : List ℕ = replicate (sizes.variables + 1) 0 in
    let b = then_ok (table_at sizes blank a.0.1) _ c a.2 in
    let d = then_ok (many (λ k. renamed_output_at b.0.0) 0 sizes.outputs b.0.1) _ c b.2 in
    let f = then_ok (many (λ k. renamed_gate_at b.0.0) 0 sizes.gates d.0.1) _ c d.2 in
    let o = in_order_is sizes b.0.0 d.0.0 d.0.1 f.0.0 f.0.1 c f.2 in
    let len = length-replicate (sizes.variables + 1) 0 in let fill = filled sizes blank a.0.1 b.0 len b.1 in
    let said = by_table sizes b.0.0 b.0.1 d.0 f.0 (fill.gates.grows.size ∙ fill.ins.grows.size ∙ len) d.1 f.1 in
    let l : Circuit = listed sizes d.0.0 f.0.0 in let placed = placed_sound sizes.inputs f.0.0 o.placed in
    let lower = lower_numbers l c o.p 0 o.inputs o.same placed.0 placed.1 in
    let own : ℕ → ℕ = λ n. renumbered sizes.inputs o.p n in (
      listing bytes sizes a.0.1 b.0.1 b.0.0 l a.1 fill said,
      is_listing bytes sizes a.0.1 b.0.1 b.0.0 l a.1 fill said,
      λ point j literal at. let out = listed_values bytes sizes a.0.1 b.0.1 b.0.0 l a.1 fill said point j literal at in (
        some_listed bytes sizes a.0.1 b.0.1 b.0.0 l a.1 fill said (λ v. number sizes.inputs o.p v) lower point j literal at,
        (
          own out.0,
          ap (λ xs. slice_get xs j) o.outs ∙ slice_get-map own d.0.0 j ∙ ap (option_map own) out.1,
          λ x value. ordered_value l c o.p point o.inputs o.same placed.0 placed.1 (out.2 x value),
        ),
      ),
    )
