-- Laws of lists, options and results, in std's words alone.
use Rattle.std.proofs.Common.{◌≡◌, ◌≢◌, ℕ, zero, suc, ◌+◌, ◌-◌, ◌<◌, ◌≤◌, ◌⊎◌, inl, inr, Bool, true, false, not, ◌&&◌, ◌||◌, ◌==◌, cond}
use Rattle.std.proofs.Common.{List, [], ◌∷◌, ◌++◌, length, map, filter, reverse, take, drop, get_or, replicate, slice_get, slice_index}
use Rattle.std.proofs.Common.{All, Contains, count_by, ltb, lt-ltb, eqb, refl, sym, ap, ◌∙◌, subst, ⊎_elim, arith, true≢false, append-nil}
use Rattle.std.proofs.Common.{Option, Some, None, is_some, Result, Ok, Err}
use Rattle.std.specs.Prelude.{unwrap_or}
use Rattle.std.specs.List.{AllZip, IsAnyAnswer, concat, enumerate_from, list_any, position_or_len}
use Rattle.std.specs.List.Sorted.{IsStrictlyIncreasing}
use Rattle.std.specs.Io.BufRead.{strip_last}
use Rattle.std.specs.Option.{option_and_then, option_map, option_or}
use Rattle.std.specs.Result.{IsErrAnd, IsErrOf, OnErr}
use Rattle.std.proofs.Math.Bool.{or-false}
use Rattle.std.proofs.lemmas.Bool.{cases_lt, false≢true, le-ltb}
use Rattle.std.proofs.lemmas.Bool.Decides.{Decides-eqb, nat_tests}
use Rattle.std.proofs.lemmas.Grind.{common_steps}
use Rattle.std.proofs.lemmas.List.{drop_more, get_or-map, get_or_default, length-map, nil_from_length, reverse-append}
use Rattle.std.proofs.lemmas.List.Elements.{All-head, All-tail, contains_decides}
use Rattle.std.proofs.lemmas.List.Folds.{concat-append, list_any-append}
use Rattle.std.proofs.lemmas.List.Sums.{prefix_len-le-length, sum_by-cons}
use Rattle.lattice.proofs.NumberLaws.{positive}

-- ---- elements

-- What a list has behind a map comes from the list.
pub get_map : {X Y : Type 0} (f : X → Y) (xs : List X) (k : ℕ) (y : Y) → slice_get (map f xs) k ≡ Some y
    → (x : X) × (slice_get xs k ≡ Some x) × (y ≡ f x)
get_map f [] k y e = absurd cc
get_map f (x ∷ xs) zero y e = (x, refl, cc)
get_map f (x ∷ xs) (suc k) y e = get_map f xs k y e

-- What a list with one element more has is the last, or was there before.
pub get_cases : {X : Type 0} (xs : List X) (y : X) (k : ℕ) (x : X) → slice_get (xs ++ y ∷ []) k ≡ Some x
    → (slice_get xs k ≡ Some x) ⊎ ((k ≡ length xs) × (y ≡ x))
get_cases [] y zero x e = inr (refl, cc)
get_cases [] y (suc k) x e = cc
get_cases (z ∷ xs) y zero x e = inl e
get_cases (z ∷ xs) y (suc k) x e = ⊎_elim inl (λ h. inr (ap suc h.0, h.1)) (get_cases xs y k x e)

-- What holds of all elements and of a default holds of what stands at a place, or of the default behind the end.
pub at_or : {X : Type 0} (P : X → Type 0) (xs : List X) (i : ℕ) (d : X) → P d → All P xs → P (get_or xs i d)
at_or P [] i d is all = is
at_or P (x ∷ xs) zero d is all = All-head P x xs all
at_or P (x ∷ xs) (suc i) d is all = at_or P xs i d is (All-tail P x xs all)

-- What holds of all elements behind a map holds of what the map makes of each.
pub All-from_map : {X Y : Type 0} (P : Y → Type 0) (f : X → Y) (xs : List X) → All P (map f xs) → All (λ x. P (f x)) xs
All-from_map P f xs all k d less = subst P (get_or-map f xs k d (f d) less) (all k (f d) (omega (arith, length-map xs f)))

-- A list of zeros has 0 at each place, and behind its end.
pub no_word : (n i : ℕ) → slice_index (replicate n 0) i ≡ 0
no_word zero i = refl
no_word (suc n) zero = refl
no_word (suc n) (suc i) = no_word n i

-- An element of a list is its head or one of its tail.
pub contains_cases : {A : Type 0} (x y : A) (xs : List A) → Contains (y ∷ xs) x → (y ≡ x) ⊎ Contains xs x
contains_cases x y xs (zero, less, is) = inl is
contains_cases x y xs (suc k, less, is) = inr (k, omega arith, is)

-- An element that passes a test is one of those that do.
pub contains_filter : {X : Type 0} (test : X → Bool) (xs : List X) (x : X) → Contains xs x → test x ≡ true → Contains (filter test xs) x
contains_filter test [] x (k, less, is) h = absurd (omega arith)
contains_filter test (y ∷ xs) x (zero, less, is) h = grind arith
contains_filter test (y ∷ xs) x (suc k, less, is) h =
    let rest = contains_filter test xs x (k, omega arith, is) h in
    elim (test y) as (λ b. Contains (cond b (y ∷ filter test xs) (filter test xs)) x) [
      | true ↦ (suc rest.0, let l = rest.1 in omega arith, rest.2)
      | _ ↦ rest
    ]

-- All elements differ from a number that a search for it does not find.
pub none_before : (xs : List ℕ) (x : ℕ) (answer : Bool) → IsAnyAnswer (λ y t. eqb y x ≡ t) xs answer → answer ≡ false → All (λ y. y ≢ x) xs
none_before xs x answer any none k d less same = grind (arith, contains_decides, eqb, Decides-eqb, get_or_default, true≢false)

-- ---- lists that are put together

-- The front of an empty list is empty.
pub left_nil : {A : Type 0} (xs ys : List A) → xs ++ ys ≡ [] → xs ≡ []
left_nil [] ys e = refl
left_nil (x ∷ xs) ys e = absurd (omega (arith, ap length e))

-- No empty list has an element.
pub some_more : {A : Type 0} (xs ys : List A) (y : A) → xs ++ y ∷ ys ≡ [] → ⊥
some_more [] ys y e = omega (arith, ap length e)
some_more (x ∷ xs) ys y e = omega (arith, ap length e)

-- A list is empty where the test of its length says so.
pub empty_from_test : (xs : List ℕ) (r : Bool) → r ≡ (length xs == 0) → r ≡ true → xs ≡ []
empty_from_test xs r e f = nil_from_length xs (grind (arith, nat_tests))

-- It is not where the test says no.
pub nonempty_from_test : (xs : List ℕ) (r : Bool) → r ≡ (length xs == 0) → r ≡ false → xs ≢ []
nonempty_from_test xs r e f z = let none = ap length z in grind (arith, nat_tests)

-- What is left of a list from a place on is the element there, and what is left behind it.
pub drop_next : {X : Type 0} (xs : List X) (i : ℕ) (x : X) → i < length xs → x ≡ get_or xs i x → drop i xs ≡ x ∷ drop (i + 1) xs
drop_next xs i x within is = drop_more xs i x within ∙ ap (λ y. y ∷ drop (i + 1) xs) (sym is)

-- The head of a list is the last one of the reversed list.
pub reverse_cons : (x : ℕ) (xs : List ℕ) → reverse (x ∷ xs) ≡ reverse xs ++ x ∷ []
reverse_cons x xs = reverse-append (x ∷ []) xs

-- One more list stands at the end of all lists put together.
pub concat-line : (front : List (List ℕ)) (line : List ℕ) → concat (front ++ line ∷ []) ≡ concat front ++ line
concat-line front line = concat-append front (line ∷ []) ∙ ap (λ t. concat front ++ t) (append-nil line)

-- The elements of two lists put together have the numbers of the first and go on from there.
pub enumerate_from-append : {X : Type 0} (n : ℕ) (xs ys : List X)
    → enumerate_from n (xs ++ ys) ≡ enumerate_from n xs ++ enumerate_from (n + length xs) ys
enumerate_from-append n [] ys = ap (λ k. enumerate_from k ys) (omega arith)
enumerate_from-append n (x ∷ xs) ys = grind (arith, enumerate_from-append (n + 1) xs ys)

-- A strictly ascending list with a greater number behind it ascends strictly.
pub ascend_push : (xs : List ℕ) (x : ℕ) → IsStrictlyIncreasing xs → All (λ y. y < x) xs → IsStrictlyIncreasing (xs ++ x ∷ [])
ascend_push xs x ascends below = grind (arith, common_steps)

-- ---- how many pass a test, and whether one does

module _ (p q : ℕ → Bool) (within : (x : ℕ) → p x ≡ true → q x ≡ true) where
  fewer : (xs : List ℕ) → length (filter p xs) ≤ length (filter q xs)
  fewer [] = omega arith
  fewer (x ∷ xs) = grind (arith, within x, fewer xs)

  -- A test within another that as many pass keeps the same.
  pub same_by_count : (xs : List ℕ) → length (filter p xs) ≡ length (filter q xs) → filter p xs ≡ filter q xs
  same_by_count [] e = refl
  same_by_count (x ∷ xs) e = grind (arith, within x, fewer xs, same_by_count xs)

-- As many pass one of two tests or both of them as pass each by itself.
pub either_both : (p q : ℕ → Bool) (xs : List ℕ)
    → length (filter (λ m. p m || q m) xs) + length (filter (λ m. p m && q m) xs) ≡ length (filter p xs) + length (filter q xs)
either_both p q [] = refl
either_both p q (x ∷ xs) = grind (arith, either_both p q xs)

-- One of a list and one more element passes a test where one of the list does, or the element.
pub any_push : {X : Type 0} (p : X → Bool) (xs : List X) (x : X) → list_any p (xs ++ x ∷ []) ≡ (list_any p xs || p x)
any_push p xs x = list_any-append p xs (x ∷ []) ∙ ap (λ (b : Bool). list_any p xs || b) (or-false (p x))

-- One of those that pass a test passes another where one element passes both.
pub any_kept : (p q : ℕ → Bool) (xs : List ℕ) → list_any p (filter q xs) ≡ list_any (λ x. q x && p x) xs
any_kept p q [] = refl
any_kept p q (x ∷ xs) = grind (arith, any_kept p q xs)

-- One passes the one or the other test where one passes either.
pub any_either : (p q : ℕ → Bool) (xs : List ℕ) → (list_any p xs || list_any q xs) ≡ list_any (λ x. p x || q x) xs
any_either p q [] = refl
any_either p q (x ∷ xs) = grind (arith, any_either p q xs)

-- None is counted where none passes.
pub counts_none : (p : ℕ → Bool) (xs : List ℕ) → (count_by p xs == 0) ≡ not (list_any p xs)
counts_none p [] = refl
counts_none p (x ∷ xs) = grind (arith, sum_by-cons (λ y. cond (p y) 1 0) x xs, counts_none p xs)

-- The place of the first that passes is one of the list's where one passes.
pub place_within : {X : Type 0} (p : X → Bool) (xs : List X) → list_any p xs ≡ true → position_or_len p xs < length xs
place_within p [] some = absurd (false≢true some)
place_within p (x ∷ xs) some = grind (arith, some, place_within p xs)

-- The place that a search gives, or the length.
pub first_or_len : {X : Type 0} (p : X → Bool) (xs : List X) (r : Option ℕ)
    → r ≡ cond (ltb (position_or_len p xs) (length xs)) (Some (position_or_len p xs)) None → unwrap_or r (length xs) ≡ position_or_len p xs
first_or_len p xs r e = grind (arith, cases_lt, lt-ltb, prefix_len-le-length, le-ltb)

-- ---- two lists, place by place

module _ {X Y : Type 0} (R : X → Y → Type 0) where
  -- What holds of no elements, and of one more pair where it holds of the rest, holds of all.
  pub zip_fold : (Q : List X → List Y → Type 0) → Q [] []
      → ((x : X) (xs : List X) (y : Y) (ys : List Y) → R x y → Q xs ys → Q (x ∷ xs) (y ∷ ys)) → (xs : List X) (ys : List Y)
      → AllZip R xs ys → Q xs ys
  zip_fold Q start more [] [] z = start
  zip_fold Q start more (x ∷ xs) (y ∷ ys) z = more x xs y ys z.0 (zip_fold Q start more xs ys z.1)
  zip_fold Q start more [] (y ∷ ys) z = absurd z
  zip_fold Q start more (x ∷ xs) [] z = absurd z

  -- What follows from a fact of each pair holds of all pairs where the fact does.
  pub zip_weaker : (S : X → Y → Type 0) → ((x : X) (y : Y) → R x y → S x y) → (xs : List X) (ys : List Y) → AllZip R xs ys → AllZip S xs ys
  zip_weaker S f = zip_fold (AllZip S) tt (λ x xs y ys r rest. (f x y r, rest))

  -- What holds of all pairs holds of the pair at a place.
  pub zip_at : (xs : List X) (ys : List Y) (k : ℕ) (d : X) (e : Y) → AllZip R xs ys → k < length xs → R (get_or xs k d) (get_or ys k e)
  zip_at [] ys k d e z less = absurd (omega arith)
  zip_at (x ∷ xs) [] k d e z less = absurd z
  zip_at (x ∷ xs) (y ∷ ys) zero d e z less = z.0
  zip_at (x ∷ xs) (y ∷ ys) (suc k) d e z less = zip_at xs ys k d e z.1 (omega arith)

-- What holds at each place of two lists of one length holds of all pairs.
pub zip_from : {X Y : Type 0} (R : X → Y → Type 0) (xs : List X) (ys : List Y) (d : X) (e : Y) → length xs ≡ length ys
    → ((k : ℕ) → k < length xs → R (get_or xs k d) (get_or ys k e)) → AllZip R xs ys
zip_from R [] [] d e long each = tt
zip_from R (x ∷ xs) [] d e long each = absurd (omega (arith, long))
zip_from R [] (y ∷ ys) d e long each = absurd (omega (arith, long))
zip_from R (x ∷ xs) (y ∷ ys) d e long each = (
  each 0 (omega arith),
  zip_from R xs ys d e (omega (arith, long)) (λ k less. each (suc k) (omega arith)),
)

-- ---- a last element that is taken off

branch : (t : Bool) (x : ℕ) (a l : List ℕ) → cond t (x ∷ a) (x ∷ l) ≡ x ∷ cond t a l
branch true x a l = refl
branch false x a l = refl

-- Taking off the last of two elements or more leaves the first.
pub strip_last-cons₂ : (last x y : ℕ) (ys : List ℕ) → strip_last last (x ∷ y ∷ ys) ≡ x ∷ strip_last last (y ∷ ys)
strip_last-cons₂ last x y ys =
    let n = length ys in
    let e : suc (suc n) - 1 ≡ suc n = omega arith in
    let f : suc n - 1 ≡ n = omega arith in
    rw (e, f, positive (suc n), positive n) (branch (slice_index (y ∷ ys) n == last) x (take n (y ∷ ys)) (y ∷ ys))

-- A number that is not the one to be taken off stays in front.
pub strip_last-cons : (last b : ℕ) (xs : List ℕ) → (b == last) ≡ false → strip_last last (b ∷ xs) ≡ b ∷ strip_last last xs
strip_last-cons last b [] e = rw e refl
strip_last-cons last b (x ∷ xs) e = strip_last-cons₂ last b x xs

-- What stands in front of the last element stays.
pub strip_last-append : (last : ℕ) (w : List ℕ) (c : ℕ) (rest : List ℕ) → strip_last last (w ++ c ∷ rest) ≡ w ++ strip_last last (c ∷ rest)
strip_last-append last [] c rest = refl
strip_last-append last (x ∷ []) c rest = strip_last-cons₂ last x c rest
strip_last-append last (x ∷ y ∷ w) c rest = strip_last-cons₂ last x y (w ++ c ∷ rest)
    ∙ ap (λ l. x ∷ l) (strip_last-append last (y ∷ w) c rest)

-- A list of the one that is to be taken off becomes empty.
pub strip_one : (last b : ℕ) → (b == last) ≡ true → strip_last last (b ∷ []) ≡ []
strip_one last b e = rw e refl

-- ---- options

-- An answer that was read from an option is there where the option has one.
pub is_some_given : {A B : Type 0} (read : A → Option B) (o : Option A) (p : Option B) → option_map read o ≡ option_map Some p
    → is_some o ≡ is_some p
is_some_given read o p e = grind arith

-- It is what reading the option gives.
pub value_given : {A B : Type 0} (read : A → Option B) (o : Option A) (p : Option B) → option_map read o ≡ option_map Some p
    → option_and_then read o ≡ p
value_given read o p e = grind arith

-- The first of two options is itself where there is no second.
pub or_none : {A : Type 0} (o : Option A) → option_or o None ≡ o
or_none o = grind arith

-- A function of the first of two options.
pub map_or : {A B : Type 0} (f : A → B) (a b : Option A) → option_map f (option_or a b) ≡ option_or (option_map f a) (option_map f b)
map_or f a b = grind arith

-- ---- results

-- A result has one value.
pub ok_is : {T E : Type 0} {x y : T} (r : Result T E) → r ≡ Ok x → r ≡ Ok y → x ≡ y
ok_is r a b = cc

-- Or one error.
pub err_is : {T E : Type 0} {x y : E} (r : Result T E) → r ≡ Err x → r ≡ Err y → x ≡ y
err_is r a b = cc

-- An error that is passed on is the same.
pub same_error : {T E : Type 0} (r : Result T E) (x y : E) → IsErrAnd r (λ e. e ≡ x) → IsErrOf r y → x ≡ y
same_error (Ok t) x y passed is = cc
same_error (Err e) x y passed is = cc

-- What is so in any case is so where there is an error.
pub on_err : {T E P : Type 0} (r : Result T E) → P → OnErr r P
on_err (Ok t) is = tt
on_err (Err e) is = is
