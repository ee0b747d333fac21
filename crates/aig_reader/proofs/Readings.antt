-- What is read where a relation says it; and that it is one.
use Rattle.std.proofs.Common.{◌≡◌, ℕ, ◌+◌, List, length, drop, Result, Ok, Err, inl, inr, refl, sym, ap, ◌∙◌, subst, replicate}
use Rattle.std.proofs.lemmas.Bool.{both_ways, cases_order}
use Rattle.aig_reader.specs.declared.refusal.Fault.{Fault}
use Rattle.aig_reader.specs.declared.refusal.Stop.{Stop}
use Rattle.aig_reader.specs.declared.refusal.Stop.TheVariants.{Bad, Memory}
use Rattle.aig_reader.specs.declared.circuit.Gate.{Gate}
use Rattle.aig_reader.specs.declared.header.Sizes.{Sizes}
use Rattle.aig_reader.specs.Circuit.{Circuit}
use Rattle.aig_reader.specs.Fields.{Gives, Fails, GivesAs, FailsAs, Then, many}
use Rattle.aig_reader.specs.Ascii.{renamed_output_at, renamed_gate_at}
use Rattle.aig_reader.specs.Order.{Ordered, ArePlaced, IsFirstOnItself}
use Rattle.aig_reader.specs.Reading.{sizes_at, table_at, ordered_at, on_itself_at, SaysInOrder, in_order, looped, SaysByTable, SaysAscii}
use Rattle.aig_reader.specs.Reading.{Says, binary, ascii, neither, placed_in}
use Rattle.aig_reader.specs.Laws.{OneReading}
use Rattle.aig_reader.proofs.Placing.{placed_once, placed_sound, grounded}

-- ---- answers

-- a part failed
pub then_fails : {A B : Type 0} (e : Stop) (r : Result A Fault) (IsRead : A → Result B Fault → Type 0) → Fails e r
    → FailsAs e (Then r IsRead)
then_fails (Bad fault) r IsRead f = subst (λ x. Then x IsRead (Err fault)) (sym f) refl
then_fails Memory r IsRead f = tt

-- a part did not fail
pub then_gives : {A B C : Type 0} (view : A → B) (result : Result A Stop) (r : Result C Fault) (x : C)
    (IsRead : C → Result B Fault → Type 0) → r ≡ Ok x → GivesAs view result (IsRead x) → GivesAs view result (Then r IsRead)
then_gives view result r x IsRead e gives = subst (λ y. GivesAs view result (Then y IsRead)) (sym e) gives

pub then_after : {B C : Type 0} (e : Stop) (r : Result C Fault) (x : C) (IsRead : C → Result B Fault → Type 0) → r ≡ Ok x
    → FailsAs e (IsRead x) → FailsAs e (Then r IsRead)
then_after e r x IsRead is fails = subst (λ y. FailsAs e (Then y IsRead)) (sym is) fails

-- what is read is one value
pub gives_as : {A B : Type 0} (view : A → B) (result : Result A Stop) (read : Result B Fault) (IsRead : Result B Fault → Type 0)
    → ((r : Result B Fault) → r ≡ read → IsRead r) → Gives view result read → GivesAs view result IsRead
gives_as view (Ok x) read IsRead is gives = is (Ok (view x)) (sym gives)
gives_as view (Err (Bad fault)) read IsRead is gives = is (Err fault) (sym gives)
gives_as view (Err Memory) read IsRead is gives = tt

-- ---- one reading

then_once : {A B : Type 0} (r : Result A Fault) (IsRead : A → Result B Fault → Type 0) (a b : Result B Fault)
    → ((x : A) → IsRead x a → IsRead x b → a ≡ b) → Then r IsRead a → Then r IsRead b → a ≡ b
then_once (Ok x) IsRead a b same s t = same x s t
then_once (Err fault) IsRead a b same s t = s ∙ sym t

module _ (sizes : Sizes) (table outputs start : List ℕ) (gates : List Gate) (rest : List ℕ) where
  never_both : (p : Ordered) (k : ℕ) → ArePlaced sizes.inputs gates (length gates) p → IsFirstOnItself sizes.inputs gates k → ⊥
  never_both p k all first = let s = placed_sound sizes.inputs gates all in
      first.on_itself (grounded sizes.inputs gates p s.0 (sizes.inputs + 1 + k) (s.1 k first.within))

  in_order_once : {a b : Result Circuit Fault} → SaysInOrder sizes table outputs start gates rest a
      → SaysInOrder sizes table outputs start gates rest b → a ≡ b
  in_order_once (in_order p all e) (in_order q each f) =
      e ∙ ap (λ x. ordered_at sizes outputs x rest) (placed_once sizes.inputs gates all each refl) ∙ sym f
  in_order_once (in_order p all e) (looped k first f) = absurd (never_both p k all first)
  in_order_once (looped k first e) (in_order p all f) = absurd (never_both p k all first)
  in_order_once (looped k first e) (looped n second f) = elim (cases_order k n) [
    | inl same ↦ e ∙ ap (λ i. on_itself_at table i start) same ∙ sym f
    | inr other ↦ elim other [
      | inl less ↦ absurd (first.on_itself (second.before k less))
      | inr more ↦ absurd (second.on_itself (first.before n more))
    ]
  ]

by_table_once : (sizes : Sizes) (table bytes : List ℕ) (a b : Result Circuit Fault) → SaysByTable sizes table bytes a
    → SaysByTable sizes table bytes b → a ≡ b
by_table_once sizes table bytes a b =
    then_once (many (λ k. renamed_output_at table) 0 sizes.outputs bytes) _ a b (λ outputs.
    then_once (many (λ k. renamed_gate_at table) 0 sizes.gates outputs.1) _ a b (λ gates.
    in_order_once sizes table outputs.0 outputs.1 gates.0 gates.1))

ascii_once : (bytes : List ℕ) (a b : Result Circuit Fault) → SaysAscii bytes a → SaysAscii bytes b → a ≡ b
ascii_once bytes a b =
    then_once (sizes_at bytes) _ a b (λ header.
    then_once (table_at header.0 (replicate (header.0.variables + 1) 0) header.1) _ a b (λ table.
    by_table_once header.0 table.0 table.1 a b))

says_once : (bytes : List ℕ) (a b : Result Circuit Fault) → Says bytes a → Says bytes b → a ≡ b
says_once bytes a b (binary holds e) (binary also f) = e ∙ sym f
says_once bytes a b (binary holds e) (ascii fails is t) = absurd (both_ways _ fails holds)
says_once bytes a b (binary holds e) (neither fails none f) = absurd (both_ways _ fails holds)
says_once bytes a b (ascii fails is s) (binary holds f) = absurd (both_ways _ fails holds)
says_once bytes a b (ascii fails is s) (ascii also here t) = ascii_once (drop 3 bytes) a b s t
says_once bytes a b (ascii fails is s) (neither also none f) = absurd (both_ways _ none is)
says_once bytes a b (neither fails none e) (binary holds f) = absurd (both_ways _ fails holds)
says_once bytes a b (neither fails none e) (ascii also is t) = absurd (both_ways _ none is)
says_once bytes a b (neither fails none e) (neither also nor f) = e ∙ sym f

-- a file has one reading at most
pub one_reading : OneReading
one_reading bytes a b p q = p.is ∙ ap (placed_in bytes) (says_once bytes p.read q.read p.says q.says) ∙ sym q.is
