-- Lists that were taken apart for one element, which changed, and put together again.
use Rattle.std.proofs.Common.{◌≡◌, ℕ, zero, suc, ◌+◌, ◌<◌, ◌∙◌, Result, Ok, Err, List, [], ◌∷◌, ◌++◌, length, get_or, set, take, drop}
use Rattle.std.proofs.Common.{sym, refl, ap, arith}
use Rattle.std.proofs.lemmas.List.{length-take, length-drop, get_or-drop}
use Rattle.std.specs.List.{All, AllZip}
use Rattle.std.specs.Prelude.{Option, Some, None, IfNone, IfSome}
use Rattle.std.specs.Prelude.{OnOk, IfOk, is_ok, if◌then◌else◌}

pub head : {X : Type 0} (xs : List X) → 0 < length xs → X
head [] any = absurd (omega (arith, any))
head (x ∷ xs) any = x

-- an element that changed in the part behind
pub set_apart : {X : Type 0} (xs : List X) (i : ℕ) (t : X) → i < length xs → take i xs ++ set (drop i xs) 0 t ≡ set xs i t
set_apart [] i t less = absurd (omega (arith, less))
set_apart (x ∷ xs) zero t less = refl
set_apart {X} (x ∷ xs) (suc i) t less = ap (λ (ys : List X). x ∷ ys) (set_apart xs i t (omega (arith, less)))

-- both parts are as long as the whole
pub fits : {X E : Type 0} (r : Result (List X) E) (whole rest now : List X) (n : ℕ)
    → r ≡ Ok rest → OnOk r (now ≡ take n whole) → IfOk r (λ w. w ≡ drop n whole) → length now + length rest ≡ length whole
fits (Ok w) whole rest now n is front back =
    let tail : rest ≡ drop n whole = cc in
    omega (arith, ap length front, ap length tail, length-take n whole, length-drop n whole)
fits (Err e) whole rest now n is front back = cc

module _ {X E F : Type 0} where
  -- what lay behind the index, and what was put together of what lay before it and of other elements
  pub parted : (r : Result (List X) E) (q : Result (Unit {0}) F) (whole rest now after new : List X) (n : ℕ)
      → r ≡ Ok rest → OnOk r (now ≡ take n whole) → IfOk r (λ w. w ≡ drop n whole) → (u : Unit {0}) → q ≡ Ok u
      → new ≡ (if is_ok q then now ++ after else now) → (rest ≡ drop n whole) × (new ≡ take n whole ++ after)
  parted (Ok w) (Ok v) whole rest now after new n is front back u fine joined = (cc, cc)
  parted (Ok w) (Err e) whole rest now after new n is front back u fine joined = (cc, cc)
  parted (Err e) q whole rest now after new n is front back u fine joined = (cc, cc)

  -- the same where the first element changed: the first and the others before, and after
  pub opened : (r : Result (List X) E) (q : Result (Unit {0}) F) (whole rest now after new : List X) (s t : X)
      → 0 < length whole → s ≡ get_or whole 0 s
      → r ≡ Ok rest → OnOk r (now ≡ take 1 (set whole 0 t)) → IfOk r (λ w. w ≡ drop 1 (set whole 0 t)) → (u : Unit {0}) → q ≡ Ok u
      → new ≡ (if is_ok q then now ++ after else now) → (whole ≡ s ∷ rest) × (new ≡ t ∷ after)
  opened r q [] rest now after new s t some first is front back u fine joined = absurd (omega (arith, some))
  opened r q (x ∷ xs) rest now after new s t some first is front back u fine joined =
      let e = parted r q (t ∷ xs) rest now after new 1 is front back u fine joined in
      (ap (λ (u : X). u ∷ xs) (sym first) ∙ ap (λ (l : List X). s ∷ l) (sym e.0), e.1)

-- each element keeps to itself, and the first one to what it became
pub first_set : {X : Type 0} (R : X → X → Type 0) → ((x : X) → R x x) → (xs : List X) (s t : X) → 0 < length xs → s ≡ get_or xs 0 s → R s t
    → AllZip R xs (set xs 0 t)
first_set {X} R self [] s t some is kept = absurd (omega (arith, some))
first_set {X} R self (x ∷ xs) s t some is kept = (rw (sym is) kept, same xs)
  where
    same : (ys : List X) → AllZip R ys ys
    same [] = tt
    same (y ∷ ys) = (self y, same ys)

-- what holds of each element holds of those behind the first
pub all_behind : {X : Type 0} (P : X → Type 0) (x : X) (xs : List X) → All P (x ∷ xs) → All P xs
all_behind P x xs all k d less = all (suc k) d (omega (arith, less))

pub if_none_then : {X : Type 0} (r : Option X) {P Q : Type 0} → IfNone r P → (P → Q) → IfNone r Q
if_none_then None p f = f p
if_none_then (Some x) p f = tt

-- a list that begins with an element
pub first_is : {X : Type 0} (xs : List X) (s : X) → 0 < length xs → s ≡ get_or xs 0 s → xs ≡ s ∷ drop 1 xs
first_is [] s some is = absurd (omega (arith, some))
first_is {X} (x ∷ xs) s some is = ap (λ (u : X). u ∷ xs) (sym is)

-- the first of what lies behind an index is what lies there
pub front_of : {X : Type 0} (xs rest : List X) (i : ℕ) (s : X) → rest ≡ drop i xs → s ≡ get_or rest 0 s → s ≡ get_or xs i s
front_of xs rest i s behind first =
    let here : i + 0 ≡ i = omega arith in
    first ∙ (ap (λ l. get_or l 0 s) behind ∙ (get_or-drop i xs 0 s ∙ ap (λ (n : ℕ). get_or xs n s) here))

pub if_some : {X : Type 0} (r : Option X) {P : Type 0} → P → IfSome r (λ _. P)
if_some None p = tt
if_some (Some x) p = p

pub if_none : {X : Type 0} (r : Option X) {P : Type 0} → P → IfNone r P
if_none None p = p
if_none (Some x) p = tt
