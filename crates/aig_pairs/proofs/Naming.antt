-- Orders in which names are those of another list.
use Rattle.std.proofs.Common.{◌≡◌, ◌≢◌, ℕ, zero, suc, ◌+◌, ◌-◌, ◌<◌, ◌≤◌, Bool, true, List, [], ◌∷◌, ◌++◌, length, get_or, take, map}
use Rattle.std.proofs.Common.{bytes_eq, inl, inr, None, Some, refl, sym, ap, ◌∙◌, arith}
use Rattle.std.specs.Prelude.{decimal, position}
use Rattle.std.specs.List.{All, AllPairs, position_or_len}
use Rattle.std.proofs.lemmas.Bool.{both_ways, cases_Bool, cases_lt, cases_order}
use Rattle.std.proofs.lemmas.List.{append_cancel_left, get_or_append_left, get_or_default, get_or-map, get_or_push}
use Rattle.std.proofs.lemmas.List.{length-map, map-append, same_lists, take_more}
use Rattle.std.proofs.lemmas.List.Elements.{All-push}
use Rattle.std.proofs.lemmas.List.Quantifiers.{position-Some}
use Rattle.std.proofs.lemmas.List.Sums.{fails_before_first}
use Rattle.std.proofs.lemmas.Fmt.{decimal_injective}
use Rattle.std.proofs.lemmas.Option.{slice_get-get_or}
use Rattle.std.proofs.lemmas.Slice.Eq.{bytes_eq-Decides}
use Rattle.lattice.specs.Words.{is_distinct, numbers_below}
use Rattle.lattice.proofs.Diagrams.{Has_at}
use Rattle.lattice.proofs.Polynomials.{length-numbers_below}
use Rattle.pla_reader.specs.Orders.{file_order, names_in_order}
use Rattle.pla_reader.specs.PlainNames.{are_plain}
use Rattle.pla_reader.specs.PrintedNames.{numbered, printed_names}
use Rattle.aig_pairs.specs.Matching.{PutsInOrder}

-- ---- printed names differ

-- no two of the names are the same
abbrev pub AreDifferent : List (List ℕ) → Type 0
AreDifferent names = AllPairs (λ name other. name ≢ other) names

differ_from : (names : List (List ℕ)) → is_distinct names ≡ true → AreDifferent names
differ_from [] distinct i j d before within same = omega arith
differ_from (n ∷ names) distinct i zero d before within same = omega arith
differ_from (n ∷ names) distinct zero (suc j) d before within same =
    let there = Has_at names j n (slice_get-get_or names j d (omega arith) ∙ ap Some (sym same)) in grind arith
differ_from (n ∷ names) distinct (suc i) (suc j) d before within same =
    differ_from names (grind arith) i j d (omega arith) (omega arith) same

-- the numbers below n, and what a function makes of them, in order
places_below : (n : ℕ) → (length (numbers_below n) ≡ n) × ((i : ℕ) → i < n → get_or (numbers_below n) i 0 ≡ i)
unfolding numbers_below
places_below zero = (refl, λ i less. absurd (omega arith))
places_below (suc n) = let before = (places_below n).1 in (
  length-numbers_below (suc n),
  λ i less. grind (arith, length-numbers_below, get_or_push, get_or_append_left, before i, cases_lt i n),
)

mapped : {X : Type 0} (f : ℕ → X) (n : ℕ)
    → (length (map f (numbers_below n)) ≡ n) × ((i : ℕ) (d : X) → i < n → get_or (map f (numbers_below n)) i d ≡ f i)
mapped f n = let long = (places_below n).0 in (
  length-map (numbers_below n) f ∙ long,
  λ i d less. get_or-map f (numbers_below n) i 0 d (omega arith) ∙ ap f ((places_below n).1 i less),
)

numbered_differ : (letter : List ℕ) (count : ℕ) → count ≤ 64 → AreDifferent (numbered letter count)
unfolding numbered
numbered_differ letter count few i j d before within same =
    let name : ℕ → List ℕ = λ k. letter ++ decimal (k + 1) in
    let long = (mapped name count).0 in let at = (mapped name count).1 in
    let texts = append_cancel_left letter (decimal (i + 1)) (decimal (j + 1))
    (sym (at i d (omega arith)) ∙ same ∙ at j d (omega arith)) in
    omega (arith, decimal_injective (i + 1) (j + 1) (omega arith) (omega arith) texts)

pub printed_differ : (letter : List ℕ) (count : ℕ) (given : List (List ℕ)) → count ≤ 64 → AreDifferent (printed_names letter count given)
unfolding printed_names are_plain
printed_differ letter count given few = elim (cases_Bool (are_plain given)) [
  | inl plain ↦ rw plain (differ_from given (grind arith))
  | inr other ↦ rw other (numbered_differ letter count few)
]

-- a name has one place
pub one_place : (names : List (List ℕ)) → AreDifferent names → (i j : ℕ) → i < length names → j < length names
    → get_or names i [] ≡ get_or names j [] → i ≡ j
one_place names differ i j first second same = elim (cases_order i j) [
  | inl is ↦ is
  | inr other ↦ elim other [
    | inl before ↦ absurd (differ i j [] before second same)
    | inr after ↦ absurd (differ j i [] after first (sym same))
  ]
]

-- ---- names in an order, one name more

-- the positions that an order of names may have
abbrev pub AreWithin : (names : List (List ℕ)) → (order : List ℕ) → Type 0
AreWithin names order = All (λ position. (1 ≤ position) × (position ≤ length names)) order

pub none_yet : (names : List (List ℕ)) → (names_in_order [] names ≡ []) × AreWithin names []
unfolding names_in_order
none_yet names = (refl, λ k d less. absurd (omega arith))

module _ (names wanted : List (List ℕ)) (i : ℕ) (item d : List ℕ) (less : i < length wanted) (is : item ≡ get_or wanted i d) where
  abbrev test : List ℕ → Bool
  test other = bytes_eq other item

  pub name_found : (order : List ℕ) (place : ℕ) → position test names ≡ Some place → names_in_order order names ≡ take i wanted
      → AreWithin names order
      → (names_in_order (order ++ (place + 1) ∷ []) names ≡ take (i + 1) wanted) × AreWithin names (order ++ (place + 1) ∷ [])
  unfolding names_in_order
  name_found order place at so_far within =
      let found = position-Some test names place [] at in
      let same : get_or names place [] ≡ get_or wanted i [] = (bytes_eq-Decides (get_or names place []) item).0 found.1
      ∙ is ∙ get_or_default wanted i d [] less in let back : place + 1 - 1 ≡ place = omega arith in (
        rw (map-append, take_more wanted i [] less, so_far, back, same) refl,
        All-push (λ p. (1 ≤ p) × (p ≤ length names)) order (place + 1) within (omega arith, omega (arith, found.0)),
      )

  pub not_found : position test names ≡ None → (order : List ℕ) → PutsInOrder names wanted order → ⊥
  unfolding names_in_order
  not_found none order puts =
      let at = λ (p : ℕ). get_or names (p - 1) [] in
      let long : length order ≡ length wanted = sym (length-map order at) ∙ ap length puts.named in
      let p = get_or order i 0 in let bounds = puts.positions.positions i 0 (omega arith) in
      let same : item ≡ get_or names (p - 1) [] = is ∙ get_or_default wanted i d [] less ∙ ap (λ ns. get_or ns i []) (sym puts.named)
      ∙ get_or-map at order i 0 [] (omega arith) in
      let past : length names ≤ position_or_len test names = elim (cases_lt (position_or_len test names) (length names)) [
        | inl found ↦ absurd (grind arith)
        | inr rest ↦ rest
      ] in
      both_ways (test (get_or names (p - 1) [])) (fails_before_first test names (p - 1) [] (omega (arith, bounds)))
      ((bytes_eq-Decides (get_or names (p - 1) []) item).1 (sym same))

-- ---- an order, or none

module _ (names wanted : List (List ℕ)) where
  abbrev name : ℕ → List ℕ
  name position = get_or names (position - 1) []

  -- the name at a place of the order
  pub name_at : (order : List ℕ) (i d : ℕ) → names_in_order order names ≡ wanted → i < length order
      → get_or wanted i [] ≡ name (get_or order i d)
  unfolding names_in_order
  name_at order i d named less = ap (λ ns. get_or ns i []) (sym named) ∙ get_or-map name order i d [] less

  pub as_many : (order : List ℕ) → names_in_order order names ≡ wanted → length order ≡ length wanted
  unfolding names_in_order
  as_many order named = sym (length-map order name) ∙ ap length named

  pub put_in_order : (order : List ℕ) → length names ≡ length wanted → AreWithin names order
      → names_in_order order names ≡ wanted → AreDifferent wanted → PutsInOrder names wanted order
  put_in_order order counts within named differ = record {
    positions = record {
      count = as_many order named ∙ sym counts;
      positions = within;
      distinct = λ i j d before inside same. let long = as_many order named in differ i j [] before (omega arith)
          (name_at order i d named (omega arith) ∙ ap name same ∙ sym (name_at order j d named inside));
    };
    named = named;
  }

  pub not_as_many : length names ≢ length wanted → (order : List ℕ) → PutsInOrder names wanted order → ⊥
  not_as_many differ order puts = differ (sym puts.positions.count ∙ as_many order puts.named)

  -- one order at most does it
  pub order_once : AreDifferent names → (a b : List ℕ) → PutsInOrder names wanted a → PutsInOrder names wanted b → a ≡ b
  order_once differ a b puts also =
      let long = as_many a puts.named in let too = as_many b also.named in
      same_lists a b (omega arith) (λ k d less.
      let p = puts.positions.positions k d (omega arith) in let q = also.positions.positions k d (omega arith) in
      let same = one_place names differ (get_or a k d - 1) (get_or b k d - 1) (omega (arith, p)) (omega (arith, q))
      (sym (name_at a k d puts.named (omega arith)) ∙ name_at b k d also.named (omega arith)) in omega (arith, p, q))

-- ---- the order of the file

file_places : (n : ℕ) → (length (file_order n) ≡ n) × ((i d : ℕ) → i < n → get_or (file_order n) i d ≡ i + 1)
unfolding file_order
file_places n = mapped (λ i. i + 1) n

-- it leaves a list as it is
pub by_file : {X : Type 0} (n : ℕ) (xs : List X) (d : X) → length xs ≡ n → map (λ p. get_or xs (p - 1) d) (file_order n) ≡ xs
by_file n xs d count =
    let at = λ (p : ℕ). get_or xs (p - 1) d in let long = (file_places n).0 in let as_many = length-map (file_order n) at in
    same_lists (map at (file_order n)) xs (omega arith) (λ k e less.
    let back : k + 1 - 1 ≡ k = omega arith in
    get_or-map at (file_order n) k 0 e (omega arith) ∙ ap at ((file_places n).1 k 0 (omega arith)) ∙ ap (λ i. get_or xs i d) back
    ∙ get_or_default xs k d e (omega arith))

pub puts_by_file : (n : ℕ) (names : List (List ℕ)) → length names ≡ n → PutsInOrder names names (file_order n)
unfolding names_in_order
puts_by_file n names count =
    let long = (file_places n).0 in let at = (file_places n).1 in record {
      positions = record {
        count = long ∙ sym count;
        positions = λ i d less. let is = at i d (omega arith) in (omega arith, omega arith);
        distinct = λ i j d before within same. omega (arith, at i d (omega arith), at j d (omega arith));
      };
      named = by_file n names [] count;
    }
