-- Mode equal by the two circuits as they stand in their files: what a job sees of the two is 1 where they differ.
use Rattle.std.proofs.Common.{◌≡◌, ◌≢◌, ◌∙◌, ◌↔◌, ◌≤◌, ◌<◌, ℕ, ◌-◌, ◌^◌, Bool, true, false, not, List, [], length, get_or}
use Rattle.std.proofs.Common.{Ok, Err, Option, Some, None, ap, arith, codes, inl, inr, ltb, map, refl, replicate, subst, sym}
use Rattle.std.specs.Prelude.{Result}
use Rattle.std.specs.Option.{ForSome}
use Rattle.std.proofs.lemmas.Bool.{cases_Bool, eq-eqb, ne_eqb}
use Rattle.std.proofs.lemmas.Bool.Decides.{nat_tests}
use Rattle.std.proofs.lemmas.List.{get_or-map, length-map}
use Rattle.std.proofs.lemmas.Option.{slice_get-get_or, slice_get_within}
use Rattle.lattice.specs.Words.{exactly_one}
use Rattle.lattice.proofs.Polynomials.{ok_is}
use Rattle.pla_reader.specs.Orders.{IsOrder, names_in_order}
use Rattle.pla_reader.specs.PrintedNames.{printed_names}
use Rattle.aig_inputs.specs.Arranged.{arranged, arranged_literal}
use Rattle.aig_inputs.proofs.ArrangedCircuits.{arranged_fits, arranged_values}
use Rattle.aig_miter.specs.Laws.{AreAlike}
use Rattle.aig_miter.specs.Miter.{is_care, miter}
use Rattle.aig_miter.proofs.Miters.{care_output_stays, miter_is_circuit, miter_values}
use Rattle.aig_pairs.specs.Laws.{IsSound, MatchedValues}
use Rattle.aig_pairs.specs.Matching.{Matches, PutsInOrder, input_names, other_inputs, other_outputs, output_names, same_names}
use Rattle.aig_reader.specs.Circuit.{Circuit, HasValue}
use Rattle.aig_reader.specs.declared.circuit.TheConstants.{MAX_GATES}
use Rattle.circuit_solve.specs.Care.{IsCared}
use Rattle.circuit_solve.specs.Ones.{IsLeastOne, IsOneAt}
use Rattle.circuit_words.specs.declared.job.CircuitJob.{CircuitJob}
use Rattle.circuit_run.specs.Laws.{DifferAt, EqualWhereSame, HaveValues, IsLeastDifference, SeesTwo, TwoCircuits, first_point, second_point}
use Rattle.circuit_run.specs.Subjects.{Compares, matched, miter_within}
use Rattle.circuit_run.specs.Subjects.{other_inputs as unlike_inputs, other_outputs as unlike_outputs}
use Rattle.circuit_run.specs.Views.{◌>>=◌, View, care_by, view_of}
use Rattle.circuit_run.specs.declared.ends.CircuitEnd.{CircuitEnd}
use Rattle.circuit_run.specs.declared.ends.CircuitEnd.TheVariants.{TooManyGates}
use Rattle.circuit_run.proofs.Seeing.{care_within, count_names, order_good, seen_parts}

-- ---- the second circuit over the names of the first one

named : (c : Circuit) → IsSound c → (length (input_names c) ≡ c.inputs) × (length (output_names c) ≡ length c.outputs)
named c sound = (
  count_names (codes "x") c.inputs c.in_names (input_names c) (input_names c) sound.in_count refl refl,
  count_names (codes "f") (length c.outputs) c.out_names (output_names c) (output_names c) sound.out_count refl refl,
)

-- an order in which n names are m others is one of n positions, and has m of them
orders : {names wanted : List (List ℕ)} {order : List ℕ} {n m : ℕ} → length names ≡ n → length wanted ≡ m → PutsInOrder names wanted order
    → IsOrder n order × (length order ≡ m)
unfolding names_in_order
orders {names = names} {order = order} mine theirs puts = (
  subst (λ n. IsOrder n order) mine puts.positions,
  sym (length-map order (λ p. get_or names (p - 1) [])) ∙ ap length puts.named ∙ theirs,
)

over_alike : (first second over : Circuit) → IsSound first → IsSound second → Matches first second (Ok over) → AreAlike first over
unfolding names_in_order
over_alike first second over sound also (same_names inputs outputs p q e) =
    let none = replicate second.inputs false in let all = map (arranged_literal inputs none) second.outputs in
    let ins = orders (named second also).0 (named first sound).0 p in let outs = orders (named second also).1 (named first sound).1 q in
    let fits = arranged_fits second.inputs second.gates second.outputs second.in_names second.out_names inputs none ins.0 also in
    let many = length-map outputs (λ p. get_or all (p - 1) 0) in
    subst (AreAlike first) (sym (ok_is (Ok over) refl e)) (record {
      first = sound;
      second = record {
        few_inputs = fits.few_inputs;
        few_gates = fits.few_gates;
        few_outputs = omega (arith, also.few_outputs, many, outs.0.count);
        left = fits.left;
        right = fits.right;
        literals = λ k d less. let position = outs.0.positions k 0 (omega arith) in
            rw (get_or-map (λ p. get_or all (p - 1) 0) outputs k 0 d (omega arith))
            (fits.literals (get_or outputs k 0 - 1) 0 (omega (arith, position)));
        in_count = fits.in_count;
        out_count = length-map outputs (λ p. get_or second.out_names (p - 1) []) ∙ sym many;
      };
      inputs = sym ins.0.count ∙ ins.1;
      outputs = many ∙ outs.1;
    })
over_alike first second over sound also (other_inputs none e) = absurd cc
over_alike first second over sound also (other_outputs inputs p none e) = absurd cc

-- ---- what a job compares

-- it is the miter of the first circuit and the second one over its names
record IsMiter (job : CircuitJob) (first second differences : Circuit) : Type 0 where
  pub over : Circuit
  pub care : Option ℕ
  pub matches : Matches first second (Ok over)
  pub cares : care_by (output_names first) job.care ≡ Ok care
  pub few : length (miter first over care).gates ≤ MAX_GATES
  pub is : differences ≡ miter first over care

module _ (job : CircuitJob) (first second differences : Circuit) where
  by_care : (over : Circuit) → Matches first second (Ok over) → (a : Result (Option ℕ) CircuitEnd)
      → care_by (output_names first) job.care ≡ a → (a >>= miter_within first over) ≡ Ok differences → IsMiter job first second differences
  by_care over matches (Err end) cares is = cc
  by_care over matches (Ok care) cares is = elim (cases_Bool (ltb MAX_GATES (length (miter first over care).gates))) [
    | inl many ↦ let none : miter_within first over care ≡ Err TooManyGates = rw many refl in cc
    | inr fewer ↦
        let few : length (miter first over care).gates ≤ MAX_GATES = grind (arith, nat_tests) in
        let same = ok_is (miter_within first over care) is (rw fewer refl) in
        record { over = over; care = care; matches = matches; cares = cares; few = few; is = same }
  ]

  miter_of : {found : Result Circuit CircuitEnd} → Compares job first second found → found ≡ Ok differences
      → IsMiter job first second differences
  miter_of (matched over matches) is = by_care over matches _ refl is
  miter_of (unlike_inputs x) is = cc
  miter_of (unlike_outputs x) is = cc

-- ---- what it sees of this

-- it is this miter, arranged
record IsSeenAs (two : TwoCircuits) (care : Option ℕ) (c : Circuit) : Type 0 where
  pub over : Circuit
  pub matches : Matches two.first two.second (Ok over)
  pub alike : AreAlike two.first over
  pub fits : IsSound (miter two.first over care)
  pub within : ForSome care (λ output. output < length two.first.outputs)
  pub ordered : IsOrder two.first.inputs two.order
  pub is : c ≡ arranged (miter two.first over care) two.order two.inverted

seen_as : (job : CircuitJob) (two : TwoCircuits) (v : View) → SeesTwo job two v → IsSeenAs two v.care v.circuit
seen_as job two v sees =
    let first = two.first in let counts = named first sees.first in
    let found = miter_of job first two.second sees.differences sees.compared refl in let m = miter first found.over found.care in
    let alike = over_alike first two.second found.over sees.first sees.second found.matches in
    let fits = miter_is_circuit first found.over found.care alike found.few in
    let parts = seen_parts job m v (subst (λ d. view_of job d ≡ Ok v) found.is sees.seen) in
    let names : output_names m ≡ output_names first =
    ap (λ n. printed_names (codes "f") n first.out_names) (sym fits.out_count ∙ sees.first.out_count) in
    let care : found.care ≡ v.care =
    ok_is _ found.cares (ap (λ names. care_by names job.care) (sym names) ∙ parts.cares) in
    let order = ok_is _ parts.ordered sees.order in let inverted = ok_is _ parts.inverts sees.inverted in
    record {
      over = found.over;
      matches = found.matches;
      alike = alike;
      fits = subst (λ care. IsSound (miter first found.over care)) care fits;
      within = λ output some. subst (λ n. output < n) counts.1
          (care_within (output_names first) job.care found.cares output (care ∙ some));
      ordered = subst (λ n. IsOrder n two.order) counts.0 (order_good (input_names first) job.order sees.order);
      is = cc parts.is;
    }

-- ---- values

-- two of them are not the same where exactly one is true
differing : (x y : Bool) → true ≡ exactly_one x y → y ≡ not x
differing true true is = cc
differing true false is = refl
differing false y is = sym is

differs : (x : Bool) → true ≡ exactly_one x (not x)
differs true = refl
differs false = refl

module _ (two : TwoCircuits) (c : Circuit) where
  -- an output has the value of the miter's
  output_value : (care : Option ℕ) (seen : IsSeenAs two care c) (point i : ℕ) (x : Bool) → i < length two.first.outputs
      → HasValue c point (get_or c.outputs i 0) x
      ↔ HasValue (miter two.first seen.over care) (first_point two point) (get_or (miter two.first seen.over care).outputs i 0) x
  output_value care seen point i x less =
      let m = miter two.first seen.over care in
      let within : i < length m.outputs = omega (arith, less, seen.fits.out_count, seen.alike.first.out_count) in
      let values = arranged_values m two.order two.inverted point (get_or m.outputs i 0) x seen.fits seen.ordered
      (seen.fits.literals i 0 within) in
      rw (seen.is, get_or-map (arranged_literal two.order two.inverted) m.outputs i 0 0 within) (values.1, values.0)

  -- the points that are cared for are those of the first circuit
  cared : (care : Option ℕ) → IsSeenAs two care c → (point : ℕ) → IsCared c care point ↔ IsCared two.first care (first_point two point)
  cared None seen point = (λ u. u, λ u. u)
  cared (Some i) seen point =
      let less = seen.within i refl in let value = output_value (Some i) seen point i true less in
      let stays = care_output_stays two.first seen.over (Some i) (first_point two point) i true seen.alike less (eq-eqb i i refl) in
      (λ h. stays.0 (value.0 h), λ h. value.1 (stays.1 h))

  -- an output other than the care output is 1 where the circuits' outputs differ
  module _ (care : Option ℕ) (seen : IsSeenAs two care c) (j k : ℕ) (less : j < length two.first.outputs) (other : is_care care j ≡ false)
      (second : (point : ℕ) (y : Bool) → HasValue two.second (second_point two point) (get_or two.second.outputs k 0) y
      ↔ HasValue seen.over (first_point two point) (get_or seen.over.outputs j 0) y) where
    one_is : (point : ℕ) → IsOneAt c care (get_or c.outputs j 0) point ↔ DifferAt two care j k point
    one_is point =
        let inputs : c.inputs ≡ two.first.inputs = ap (λ (c : Circuit). c.inputs) seen.is in
        let value = output_value care seen point j true less in let cares = cared care seen point in
        let miters = miter_values two.first seen.over care (first_point two point) j true seen.alike less other in (
          λ h. let d = miters.0 (value.0 h.is_one) in (
            d.x,
            record {
              below = subst (λ n. point < 2 ^ n) inputs h.below;
              cared = cares.0 h.cared;
              first = d.first;
              second = (second point (not d.x)).1 (rw (sym (differing d.x d.y d.is)) d.second);
            },
          ),
          λ h. record {
            below = subst (λ n. point < 2 ^ n) (sym inputs) h.1.below;
            cared = cares.1 h.1.cared;
            is_one = value.1 (miters.1 (record {
              x = h.0;
              y = not h.0;
              first = h.1.first;
              second = (second point (not h.0)).0 h.1.second;
              is = differs h.0;
            }));
          },
        )

-- ---- the least point

module _ (two : TwoCircuits) (care : Option ℕ) (j k : ℕ) (c : Circuit) (literal : ℕ)
    (is : (point : ℕ) → IsOneAt c care literal point ↔ DifferAt two care j k point) where
  same_values : ((point : ℕ) → IsOneAt c care literal point → ⊥) → (point : ℕ) (x y : Bool) → HaveValues two care j k point x y → x ≡ y
  same_values none point true true h = refl
  same_values none point true false h = absurd (none point ((is point).1 (true, h)))
  same_values none point false true h = absurd (none point ((is point).1 (false, h)))
  same_values none point false false h = refl

  not_both : (x : Bool) → x ≡ not x → ⊥
  not_both true same = cc
  not_both false same = cc

  least : (found : Option ℕ) → IsLeastOne c care literal found ↔ IsLeastDifference two care j k found
  least None = (same_values, λ same point one. let d = (is point).0 one in not_both d.0 (same point d.0 (not d.0) d.1))
  least (Some point) = (
    λ h. ((is point).0 h.0, λ other differ. h.1 other ((is other).1 differ)),
    λ h. ((is point).1 h.0, λ other one. h.1 other ((is other).0 one)),
  )

-- ---- the law

not_care : (care : Option ℕ) (j : ℕ) → care ≢ Some j → is_care care j ≡ false
not_care None j other = refl
not_care (Some output) j other = ne_eqb output j (λ same. other (ap Some same))

pub equal_where_same : MatchedValues → EqualWhereSame
equal_where_same values job two v name j k found sees mine theirs other =
    let first = two.first in let second = two.second in let seen = seen_as job two v sees in let over = seen.over in
    let less : j < length first.outputs =
    subst (λ n. j < n) (named first sees.first).1 (slice_get_within (output_names first) j name mine) in
    let within : k < length second.outputs =
    subst (λ n. k < n) (named second sees.second).1 (slice_get_within (output_names second) k name theirs) in
    let own = slice_get-get_or over.outputs j 0 (omega (arith, less, seen.alike.outputs)) in
    let literal = slice_get-get_or second.outputs k 0 within in
    let there = λ (point : ℕ) (y : Bool). values first second over two.second_order name (first_point two point) j k
    (get_or second.outputs k 0) (get_or over.outputs j 0) y sees.first sees.second seen.matches sees.second_order mine own theirs literal in
    least two v.care j k v.circuit (get_or v.circuit.outputs j 0)
    (one_is two v.circuit v.care seen j k less (not_care v.care j other) there) found
