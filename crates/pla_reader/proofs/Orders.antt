-- Orders of the inputs, arranged descriptions and the printed names.
use Rattle.std.proofs.Common.{◌≡◌, ◌≢◌, ℕ, ◌+◌, ◌++◌, true, List, [], ◌∷◌, length, refl, ap, ◌∙◌, arith, add-one, rules, ◌-◌, ◌*◌, ◌^◌, ◌%◌}
use Rattle.std.proofs.Common.{◌<◌, ◌≤◌, get_or, take, zero, suc, Bool, bytes_eq, map, All, sym, bit_and, ◌↔◌, false, true≢false, eqb}
use Rattle.std.proofs.Common.{leb, ◌&&◌, drop, codes, Some}
use Rattle.std.proofs.lemmas.Bool.{cases_Bool, eq-eqb, false_from_ne_true}
use Rattle.std.proofs.lemmas.List.{length-map, map-append, take_more, get_or-map, get_or_push, get_or_append_left, take_all, get_or-take}
use Rattle.std.proofs.lemmas.List.{length-take-le}
use Rattle.std.specs.Prelude.{decimal, slice_get}
use Rattle.std.proofs.lemmas.Grind.{common_steps}
use Rattle.lattice.specs.Words.{numbers_below, divides, has, is_distinct}
use Rattle.pla_reader.specs.PlainNames.{are_plain, is_plain}
use Rattle.pla_reader.specs.Description.{CountsNames, FitsSizes, IsDescription}
use Rattle.pla_reader.specs.PrintedNames.{numbered, printed_names, input_names}
use Rattle.lattice.proofs.Polynomials.{length-numbers_below, divides_le, divides_by_bits}
use Rattle.std.proofs.Math.Pow.{pow_mono}
use Rattle.std.proofs.lemmas.Nat.{pow_below, pow_pos, and_comm}
use Rattle.lattice.specs.declared.limits.TheConstants.{MAX_VARS}
use Rattle.pla_reader.specs.Orders.{arranged_mask, file_order, names_in_order, IsOrder, arranged, names_between, order_named}
use Rattle.pla_reader.specs.Orders.{position_named, is_once, is_order, arranged_row}
use Rattle.pla_reader.specs.Reading.{input_mask, description}
use Rattle.pla_reader.proofs.Symbols.{bit, input_mask_push, input_mask-lt}
use Rattle.std.specs.Int.{bit_at}
use Rattle.std.specs.List.{All, AllPairs, list_all, IsAnyAnswer}
use Rattle.std.proofs.lemmas.List.Elements.{All-from_get_or, All-tail, All-head, All-weaker, contains_decides, All-map}
use Rattle.std.proofs.lemmas.List.Sums.{passes_at_first, position_or_len_is, AllPass-from_list_all, list_all-from_AllPass}
use Rattle.std.proofs.lemmas.Nat.Bits.{and_pow, bit_at-lt, bit_at_cat_low, bit_at_cat_high, same_from_bits_below}
use Rattle.std.proofs.lemmas.Simd.{map-map}
use Rattle.std.proofs.lemmas.Slice.Eq.{bytes_eq-Decides}
use Rattle.pla_reader.specs.declared.pla.Pla.{Pla}
use Rattle.pla_reader.proofs.Fitting.{cond_bit, mask_within}
use Rattle.std.proofs.lemmas.Bool.Decides.{nat_tests, Decides-eqb}
use Rattle.std.proofs.lemmas.List.Folds.{Any-from_list_any, list_all_at, list_any_at, map_fixed}
use Rattle.lattice.specs.declared.kind.Kind.{Kind}
use Rattle.lattice.specs.declared.row.Row.{Row}
use Rattle.std.specs.Fmt.{digits}
use Rattle.std.proofs.lemmas.Fmt.{decimal_injective}
use Rattle.lattice.proofs.Diagrams.{Has_at, distinct_from}
use Rattle.std.proofs.lemmas.Option.{slice_get_cases, get_or_from_slice_get, slice_get-get_or}

-- ---- the printed names

pub numbered_none : (letter : List ℕ) → numbered letter 0 ≡ []
unfolding numbered numbers_below
numbered_none letter = refl

pub numbered_more : (letter : List ℕ) (i : ℕ) → numbered letter (i + 1) ≡ numbered letter i ++ (letter ++ decimal (i + 1)) ∷ []
unfolding numbered numbers_below
numbered_more letter i = search (rules, arith, add-one, map-append)

pub ruleset numbered_steps = (common_steps, numbered_none, numbered_more)

length-numbered : (letter : List ℕ) (count : ℕ) → length (numbered letter count) ≡ count
unfolding numbered
length-numbered letter count = length-map (numbers_below count) (λ i. letter ++ decimal (i + 1)) ∙ length-numbers_below count

length-printed_names : (letter : List ℕ) (count : ℕ) (given : List (List ℕ)) → CountsNames count given
    → length (printed_names letter count given) ≡ count
unfolding printed_names are_plain
length-printed_names letter count given counts = grind (arith, length-numbered)

-- the names at hand are those that are printed
pub count_printed : (letter : List ℕ) (count : ℕ) (given names chosen : List (List ℕ)) → CountsNames count given → names ≡ chosen
    → chosen ≡ printed_names letter count given → length names ≡ count
count_printed letter count given names chosen counts is printed = ap length (is ∙ printed) ∙ length-printed_names letter count given counts

-- ---- orders and arranged masks, as they grow from position to position

pub file_order_none : file_order 0 ≡ []
unfolding file_order numbers_below
file_order_none = refl

pub file_order_more : (i : ℕ) → file_order (i + 1) ≡ file_order i ++ (i + 1) ∷ []
unfolding file_order numbers_below
file_order_more i = search (rules, arith, add-one, map-append)

pub names_in_order_none : (names : List (List ℕ)) → names_in_order [] names ≡ []
unfolding names_in_order
names_in_order_none names = refl

pub names_in_order_more : (order : List ℕ) (names : List (List ℕ)) (i : ℕ) → i < length order
    → names_in_order (take (i + 1) order) names ≡ names_in_order (take i order) names ++ get_or names (get_or order i 0 - 1) [] ∷ []
unfolding names_in_order
names_in_order_more order names i less = grind (arith, common_steps, map-append)

pub arranged_mask_none : (n m : ℕ) → arranged_mask n [] m ≡ 0
unfolding arranged_mask input_mask
arranged_mask_none n m = refl

pub arranged_mask_more : (n : ℕ) (order : List ℕ) (m i : ℕ) → i < length order
    → arranged_mask n (take (i + 1) order) m ≡ 2 * arranged_mask n (take i order) m + bit (divides (2 ^ (n - get_or order i 0)) m)
unfolding arranged_mask
arranged_mask_more n order m i less = grind (arith, common_steps, input_mask_push)

pub arranged_mask-lt : (n : ℕ) (order : List ℕ) (m : ℕ) → arranged_mask n order m < 2 ^ length order
unfolding arranged_mask
arranged_mask-lt n order m = input_mask-lt (λ position. divides (2 ^ (n - position)) m) order

-- a mask of fewer variables than there may be has room for one more
pub arranged_mask_small : (n : ℕ) (order : List ℕ) (m : ℕ) → length order ≤ MAX_VARS → arranged_mask n order m < 2 ^ MAX_VARS
arranged_mask_small n order m few =
    let small : 2 ^ length order ≤ 2 ^ MAX_VARS = pow_mono few in omega (arith, small, arranged_mask-lt n order m)

-- the weight of an input
pub weight_at : (n p : ℕ) → n ≤ MAX_VARS → 1 * 2 ^ (n - p) % 2 ^ 64 ≡ 2 ^ (n - p)
weight_at n p few = omega (arith, pow_below (n - p) 64 (omega arith))

pub ruleset file_steps = (common_steps, file_order_none, file_order_more)

pub ruleset arranging_steps =
    (common_steps, arranged_mask_none, arranged_mask_more, arranged_mask_small, weight_at, names_in_order_none, names_in_order_more)

-- ---- laws of orders and of arranged descriptions

pub get_or-numbers_below : (n i d : ℕ) → i < n → get_or (numbers_below n) i d ≡ i
unfolding numbers_below
get_or-numbers_below zero i d less = absurd (omega arith)
get_or-numbers_below (suc n) i d less = grind (arith, length-numbers_below, get_or_push, get_or_append_left, get_or-numbers_below n i d)

length-file_order : (n : ℕ) → length (file_order n) ≡ n
unfolding file_order
length-file_order n = length-map (numbers_below n) (λ i. i + 1) ∙ length-numbers_below n

get_or-file_order : (n i d : ℕ) → i < n → get_or (file_order n) i d ≡ i + 1
unfolding file_order
get_or-file_order n i d less =
    let at = get_or-map (λ i. i + 1) (numbers_below n) i d d in grind (arith, length-numbers_below, get_or-numbers_below n i d)

pub IsOrder-file_order : (n : ℕ) → IsOrder n (file_order n)
IsOrder-file_order n = grind (arith, length-file_order, All-from_get_or, get_or-file_order)

pub ruleset file_order_steps = (file_steps, IsOrder-file_order)

-- whether a weight is in a mask is its bit there
bit-divides : (d m : ℕ) → bit (divides (2 ^ d) m) ≡ bit_at m d
unfolding divides
bit-divides d m = grind (arith, bit_and, and_comm, and_pow, bit_at-lt, pow_pos)

bit_alone : (t : Bool) (i : ℕ) → i ≡ 0 → bit_at (bit t) i ≡ bit t
bit_alone t i none = rw none (grind arith)

input_mask_bit : (test : ℕ → Bool) (xs : List ℕ) (i : ℕ) → i < length xs
    → bit_at (input_mask test xs) (length xs - 1 - i) ≡ bit (test (get_or xs i 0))
unfolding input_mask
input_mask_bit test [] i less = absurd (omega arith)
input_mask_bit test (x ∷ xs) zero less = grind (arith, bit_at_cat_high, bit, input_mask-lt, cond_bit, bit_alone)
input_mask_bit test (x ∷ xs) (suc i) less = grind (arith, bit_at_cat_low, bit, cond_bit, input_mask_bit test xs i (omega arith))

-- in an arranged mask, the bit of a variable is the bit that the input at its position has in the mask
pub arranged_mask_bit : (n : ℕ) (order : List ℕ) (mask i : ℕ) → i < length order
    → bit_at (arranged_mask n order mask) (length order - 1 - i) ≡ bit_at mask (n - get_or order i 0)
unfolding arranged_mask
arranged_mask_bit n order mask i less = simp (input_mask_bit, bit-divides)

mask_by_file : (n mask : ℕ) → mask < 2 ^ n → arranged_mask n (file_order n) mask ≡ mask
mask_by_file n mask below =
    let small = arranged_mask-lt n (file_order n) mask in let count = length-file_order n in
    same_from_bits_below n _ mask (grind arith) below
    (λ j less.
    let bits = arranged_mask_bit n (file_order n) mask (n - 1 - j) in let position = get_or-file_order n (n - 1 - j) 0 in
    let back : n - 1 - (n - 1 - j) ≡ j = omega arith in let there : n - (n - 1 - j + 1) ≡ j = omega arith in grind arith)

names_by_file : (names : List (List ℕ)) (k : ℕ) → k ≤ length names → names_in_order (file_order k) names ≡ take k names
unfolding names_in_order
names_by_file names zero few = ap (λ order. map (λ position. get_or names (position - 1) []) order) file_order_none
names_by_file names (suc k) few =
    rw (← add-one k, file_order_more k, map-append, take_more names k [] (omega arith), names_by_file names k (omega arith)) (grind arith)

-- by the order of the file the rows stay as they are, and the names are the printed ones
pub arranged_by_file : (p : Pla) → arranged (description p) (file_order p.inputs) ≡ record (description p) { in_names = input_names p }
arranged_by_file p = grind (arith, count_printed, divides_le, mask_by_file, map_fixed, All-weaker, names_by_file, take_all)

-- it names the inputs in this order
pub names_in_order_named : (names : List (List ℕ)) (text : List ℕ) → IsOrder (length names) (order_named names text)
    → names_in_order (order_named names text) names ≡ names_between text
unfolding names_in_order order_named position_named
names_in_order_named names text is =
    map-map _ (position_named names) (names_between text)
    ∙ map_fixed (λ piece. get_or names (position_named names piece - 1) []) (names_between text) (λ k d less.
    let piece = get_or (names_between text) k d in let position = is.positions k 0 in
    let at = get_or-map (position_named names) (names_between text) k d 0 less in
    let here = passes_at_first (λ other. bytes_eq other piece) names [] in grind (arith, bytes_eq-Decides, length-map))

-- ---- whether a list is an order, as a test

once_from : (xs : List ℕ) → AllPairs (λ i j. i ≢ j) xs → is_once xs ≡ true
unfolding has
once_from [] pairs = refl
once_from (x ∷ xs) pairs =
    let later = once_from xs (λ i j d before within. pairs (suc i) (suc j) d (omega arith) (omega arith)) in
    let none : has xs x ≡ false = false_from_ne_true (has xs x) (λ found.
    let any = Any-from_list_any (λ y. eqb y x) xs found in grind (arith, pairs 0 (suc any.0) any.1)) in grind arith

pairs_from : (xs : List ℕ) → is_once xs ≡ true → AllPairs (λ i j. i ≢ j) xs
unfolding has
pairs_from [] once i j d before within same = omega arith
pairs_from (x ∷ xs) once i zero d before within same = omega arith
pairs_from (x ∷ xs) once zero (suc j) d before within same = grind (arith, list_any_at, eqb, eq-eqb, true≢false)
pairs_from (x ∷ xs) once (suc i) (suc j) d before within same = pairs_from xs (grind arith) i j d (omega arith) (omega arith) same

module _ (n : ℕ) where
  abbrev is_position : ℕ → Bool
  is_position position = leb 1 position && leb position n

  abbrev IsPosition : ℕ → Type 0
  IsPosition position = (1 ≤ position) × (position ≤ n)

  all_from : (xs : List ℕ) → All IsPosition xs → list_all is_position xs ≡ true
  all_from [] all = refl
  all_from (x ∷ xs) all = grind (arith, All-head, nat_tests, All-tail, all_from xs (All-tail IsPosition x xs all))

  all_to : (xs : List ℕ) → list_all is_position xs ≡ true → All IsPosition xs
  all_to xs all k d less = grind (arith, cases_Bool, nat_tests, true≢false, list_all_at)

-- the test answers yes exactly for the orders of so many inputs
pub orders_by_test : (n : ℕ) (order : List ℕ) → (is_order n order ≡ true) ↔ IsOrder n order
unfolding is_order
orders_by_test n order = (λ test. grind (arith, all_to, pairs_from), λ is. grind (arith, all_from, once_from))

-- ---- the order that a text asks for, as it grows from name to name

pub position_named_some : (names : List (List ℕ)) (name : List ℕ) → 1 ≤ position_named names name
unfolding position_named
position_named_some names name = omega arith

module _ (names : List (List ℕ)) (text : List ℕ) (k : ℕ) (name : List ℕ) (less : k < length (names_between text))
    (is : name ≡ get_or (names_between text) k name) where
  pub order_named_long : k < length (order_named names text)
  unfolding order_named
  order_named_long = rw (length-map (names_between text) (position_named names)) less

  pub order_named_at : get_or (order_named names text) k 0 ≡ position_named names name
  unfolding order_named
  order_named_at = get_or-map (position_named names) (names_between text) k name 0 less ∙ ap (position_named names) (sym is)

  pub order_named_more : take (k + 1) (order_named names text) ≡ take k (order_named names text) ++ position_named names name ∷ []
  order_named_more = take_more (order_named names text) k 0 order_named_long
      ∙ ap (λ position. take k (order_named names text) ++ position ∷ []) order_named_at

  -- a name of no input
  pub unknown_is_bad : length names < position_named names name → IsOrder (length names) (order_named names text) → ⊥
  unknown_is_bad far good = let position = good.positions k 0 order_named_long in let here = order_named_at in omega (arith, position.1)

  -- a name that stood there before
  pub twice_is_bad : (before : List ℕ) (position : ℕ) (answer : Bool) → before ≡ take k (order_named names text)
      → position ≡ position_named names name → IsAnyAnswer (λ y t. eqb y position ≡ t) before answer → answer ≡ true
      → IsOrder (length names) (order_named names text) → ⊥
  twice_is_bad before position answer so_far here any found_it good =
      let found = (contains_decides eqb Decides-eqb before position answer any).0 found_it in
      let long = order_named_long in let at = order_named_at in let there = found.2 0 in let apart = good.distinct found.0 k 0 in
      grind (arith, length-take-le, get_or-take)

-- where the text has no more names, the positions so far are the whole order
pub all_named : (names : List (List ℕ)) (text : List ℕ) (k : ℕ) → k ≡ length (names_between text)
    → take k (order_named names text) ≡ order_named names text
unfolding order_named
all_named names text k all = grind (arith, take_all, length-map)

-- ---- an arranged description keeps what is true of every description

-- a mask that lies within another one does so when both are arranged
arranged_within : (n : ℕ) (order : List ℕ) (value care : ℕ) → divides value care ≡ true
    → divides (arranged_mask n order value) (arranged_mask n order care) ≡ true
unfolding divides arranged_mask
arranged_within n order value care within = grind (arith, divides_by_bits, eq-eqb, mask_within)

row_fits : (inputs outputs : ℕ) (kind : Kind) (order : List ℕ) (r : Row) → IsOrder inputs order → FitsSizes inputs outputs kind r
    → FitsSizes inputs outputs kind (arranged_row inputs order r)
row_fits inputs outputs kind order r is fits = grind (arith, arranged_mask-lt, arranged_within)

pub arranged_fits : (inputs outputs : ℕ) (kind : Kind) (rows : List Row) (in_names out_names names : List (List ℕ)) (order : List ℕ)
    → IsOrder inputs order → IsDescription inputs outputs kind rows in_names out_names
    → IsDescription inputs outputs kind (map (arranged_row inputs order) rows) (names_in_order order names) out_names
unfolding names_in_order
arranged_fits inputs outputs kind rows in_names out_names names order is fits =
    let few = length-map rows (arranged_row inputs order) in
    let lines = map-map (λ (r : Row). r.line) (arranged_row inputs order) rows in
    let count = length-map order (λ position. get_or names (position - 1) []) in
    let rows_fit = All-map (FitsSizes inputs outputs kind) (arranged_row inputs order) rows
    (All-weaker (FitsSizes inputs outputs kind) (λ r. FitsSizes inputs outputs kind (arranged_row inputs order r))
    (λ r. row_fits inputs outputs kind order r is) rows fits.rows_fit) in grind arith

-- ---- printed names in an order

distinct_at : (names : List (List ℕ)) (i j : ℕ) (name : List ℕ) → is_distinct names ≡ true → slice_get names i ≡ Some name
    → slice_get names j ≡ Some name → i ≡ j
distinct_at [] i j name distinct first second = absurd cc
distinct_at (n ∷ names) zero zero name distinct first second = refl
distinct_at (n ∷ names) zero (suc j) name distinct first second = cc (Has_at names j name second)
distinct_at (n ∷ names) (suc i) zero name distinct first second = cc (Has_at names i name first)
distinct_at (n ∷ names) (suc i) (suc j) name distinct first second =
    let rest : is_distinct names ≡ true = grind arith in ap suc (distinct_at names i j name rest first second)

-- no two indices have the same name
abbrev IsOneToOne : List (List ℕ) → Type 0
IsOneToOne names = (i j : ℕ) → i < length names → j < length names → get_or names i [] ≡ get_or names j [] → i ≡ j

-- each name passes a test
abbrev EachIsPlain : List (List ℕ) → Type 0
EachIsPlain names = (k : ℕ) → k < length names → is_plain (get_or names k []) ≡ true

plain_from : (names : List (List ℕ)) → 0 < length names → EachIsPlain names → IsOneToOne names → are_plain names ≡ true
unfolding are_plain
plain_from names some each one =
    let all = list_all-from_AllPass is_plain names (All-from_get_or (λ n. is_plain n ≡ true) names [] each) in
    let distinct = distinct_from names (λ i j name first second.
    grind (arith, one i j, slice_get_cases, get_or_from_slice_get names i name [], get_or_from_slice_get names j name [])) in
    grind arith

each_plain : (names : List (List ℕ)) → are_plain names ≡ true → EachIsPlain names
unfolding are_plain
each_plain names plain k less = AllPass-from_list_all is_plain names (grind arith) k [] less

one_to_one : (names : List (List ℕ)) → are_plain names ≡ true → IsOneToOne names
unfolding are_plain
one_to_one names plain i j first second same =
    distinct_at names i j (get_or names i []) (grind arith) (slice_get-get_or names i [] first)
    (slice_get-get_or names j [] second ∙ ap Some (sym same))

numbers_are_plain : list_all (λ k. is_plain (codes "x" ++ decimal (k + 1))) (numbers_below 62) ≡ true
unfolding is_plain numbers_below digits
numbers_are_plain = refl

plain_number : (k : ℕ) → k < 62 → is_plain (codes "x" ++ decimal (k + 1)) ≡ true
plain_number k few =
    let at = AllPass-from_list_all _ (numbers_below 62) numbers_are_plain k 0 (omega (arith, length-numbers_below 62)) in
    rw get_or-numbers_below at at

plain_numbered : (n : ℕ) → 1 ≤ n → n ≤ 62 → are_plain (numbered (codes "x") n) ≡ true
unfolding numbered
plain_numbered n some few =
    let name : ℕ → List ℕ = λ i. codes "x" ++ decimal (i + 1) in
    let names : List (List ℕ) = map name (numbers_below n) in
    let count : length names ≡ n = length-map (numbers_below n) name ∙ length-numbers_below n in
    let at : (k : ℕ) → k < n → get_or names k [] ≡ name k = λ k less.
    get_or-map name (numbers_below n) k 0 [] (omega (arith, length-numbers_below n)) ∙ ap name (get_or-numbers_below n k 0 less) in
    plain_from names (omega arith) (λ k less. grind (arith, plain_number, at k)) (λ i j first second same.
    let written : decimal (i + 1) ≡ decimal (j + 1) = ap (drop 1) (sym (at i (omega arith)) ∙ same ∙ at j (omega arith)) in
    let number = decimal_injective (i + 1) (j + 1) (omega arith) (omega arith) written in omega arith)

plain_input_names : (p : Pla) → are_plain (input_names p) ≡ true
unfolding printed_names
plain_input_names p = grind (arith, cases_Bool, plain_numbered)

length-input_names : (p : Pla) → length (input_names p) ≡ p.inputs
length-input_names p = count_printed (codes "x") p.inputs p.in_names (input_names p) (input_names p) p.fits.in_count refl refl

pub printed_in_order : (p : Pla) (order : List ℕ) → IsOrder p.inputs order
    → printed_names (codes "x") p.inputs (names_in_order order (input_names p)) ≡ names_in_order order (input_names p)
unfolding printed_names names_in_order
printed_in_order p order is =
    let names = input_names p in let plain = plain_input_names p in let long = length-input_names p in let some = p.fits.some_inputs in
    let name : ℕ → List ℕ = λ position. get_or names (position - 1) [] in
    let arranged : List (List ℕ) = map name order in let as_many : length arranged ≡ length order = length-map order name in
    let at : (k : ℕ) → k < length order → get_or arranged k [] ≡ name (get_or order k 0) = λ k less. get_or-map name order k 0 [] less in
    let each : EachIsPlain arranged = λ k less. grind (arith, at k, is.positions k 0, each_plain names plain (get_or order k 0 - 1)) in
    let one : IsOneToOne arranged = λ i j first second same.
    let places = one_to_one names plain (get_or order i 0 - 1) (get_or order j 0 - 1) in
    grind (arith, at i, at j, is.positions i 0, is.positions j 0, is.distinct i j 0, is.distinct j i 0) in
    let good = plain_from arranged (grind arith) each one in grind arith

pub order_of_names : (p : Pla) (order text : List ℕ) → IsOrder p.inputs order
    → names_between text ≡ names_in_order order (input_names p) → order_named (input_names p) text ≡ order
unfolding order_named names_in_order position_named
order_of_names p order text is has =
    let names = input_names p in let plain = plain_input_names p in let long = length-input_names p in
    let name : ℕ → List ℕ = λ position. get_or names (position - 1) [] in
    let found : All (λ position. position_named names (name position) ≡ position) order = λ k d less.
    let position = get_or order k d in let bounds = is.positions k d less in
    let first = position_or_len_is (λ other. bytes_eq other (name position)) names (position - 1) [] (omega arith)
    (λ i before. grind (arith, one_to_one names plain i (position - 1), bytes_eq-Decides (get_or names i []) (name position)))
    (λ _. (bytes_eq-Decides (name position) (name position)).1 refl) in omega (arith, bounds, first) in
    ap (map (position_named names)) has ∙ map-map (position_named names) name order
    ∙ map_fixed (λ position. position_named names (name position)) order found
