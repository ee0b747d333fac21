-- Gates that are being placed, each of which stands on the one above it.
use Rattle.std.proofs.Common.{◌≡◌, ◌≢◌, ℕ, zero, suc, ◌-◌, ◌+◌, ◌*◌, ◌/◌, ◌<◌, Bool, true, false, not, cond}
use Rattle.std.proofs.Common.{List, [], ◌∷◌, ◌++◌, length, get_or, set, replicate, reverse, inl, inr, ◌⊎◌}
use Rattle.std.proofs.Common.{Option, Some, None, refl, sym, ap, ◌∙◌, subst, arith}
use Rattle.std.specs.List.{count_by}
use Rattle.std.proofs.lemmas.Bool.{both_ways, cases_eq}
use Rattle.std.proofs.lemmas.Option.{same_Some, none-some}
use Rattle.std.proofs.lemmas.List.{length-set, length-replicate, length_push, reverse-append, get_or-set_same, get_or-set_other}
use Rattle.std.proofs.lemmas.List.Sums.{sum_by-set, sum_by-cons}
use Rattle.aig_reader.specs.declared.circuit.Gate.{Gate}
use Rattle.aig_reader.specs.Order.{IsGrounded, Ordered, Places, already, with_operands, gate_of, is_open, put, open_operand, IsSound}
use Rattle.aig_reader.specs.Order.{renumbered_gate, ordered, unplaced, ArePlaced, one_more, IsFirstOnItself, AreGates, IsResting, Visits}
use Rattle.aig_reader.specs.Order.{placing, descending, turning}
use Rattle.aig_reader.specs.declared.order.Walk.{Walk}
use Rattle.aig_reader.proofs.Circuits.{chosen}
use Rattle.aig_reader.proofs.Placing.{open_is_gate, put_other, put_closes, put_sound, places_keep, places_sound, stays}
use Rattle.aig_reader.proofs.Placing.{none_grounded, unplaced_sound, placed_sound, grounded}

-- ---- which operand is placed next

abbrev some_number : ℕ → Option ℕ
some_number n = Some n

-- the operand that is not placed yet, and none before it
record IsNext (inputs : ℕ) (p : Ordered) (g : Gate) (w : ℕ) : Type 0 where
  vacant : is_open inputs p w ≡ true
  operand : (w ≡ g.left / 2) ⊎ ((is_open inputs p (g.left / 2) ≡ false) × (w ≡ g.right / 2))

next_is : (inputs : ℕ) (p : Ordered) (g : Gate) (w : ℕ) → open_operand inputs p g ≡ Some w → IsNext inputs p g w
next_is inputs p g w e = elim (chosen (is_open inputs p (g.left / 2)) _ _ (some_number w) e) [
  | inl a ↦
      let same : g.left / 2 ≡ w = same_Some (g.left / 2) w a.1 in
      record { vacant = subst (λ u. is_open inputs p u ≡ true) same a.0; operand = inl (sym same) }
  | inr b ↦ elim (chosen (is_open inputs p (g.right / 2)) _ _ (some_number w) b.1) [
    | inl a ↦
        let same : g.right / 2 ≡ w = same_Some (g.right / 2) w a.1 in
        record { vacant = subst (λ u. is_open inputs p u ≡ true) same a.0; operand = inr (b.0, sym same) }
    | inr none ↦ absurd (none-some w none.1)
  ]
]

no_next : (inputs : ℕ) (p : Ordered) (g : Gate) → open_operand inputs p g ≡ None
    → (is_open inputs p (g.left / 2) ≡ false) × (is_open inputs p (g.right / 2) ≡ false)
no_next inputs p g e = elim (chosen (is_open inputs p (g.left / 2)) (some_number (g.left / 2)) _ _ e) [
  | inl a ↦ absurd (none-some (g.left / 2) (sym a.1))
  | inr b ↦ elim (chosen (is_open inputs p (g.right / 2)) (some_number (g.right / 2)) _ _ b.1) [
    | inl a ↦ absurd (none-some (g.right / 2) (sym a.1))
    | inr d ↦ (b.0, d.0)
  ]
]

-- ---- which gates were seen

seen_once : (seen : List Bool) (i : ℕ) → i < length seen → get_or seen i false ≡ false
    → count_by not (set seen i true) + 1 ≡ count_by not seen
seen_once seen i lt e =
    let sum : count_by not (set seen i true) + cond (not (get_or seen i false)) 1 0 ≡ count_by not seen + 0 =
    sum_by-set (λ x. cond (not x) 1 0) seen i true false lt in
    let one : ◌≡◌ {A = ℕ} (cond (not (get_or seen i false)) 1 0) 1 = ap (λ x. cond (not x) 1 0) e in omega (arith, sum, one)

none_seen : (n : ℕ) → count_by not (replicate n false) ≡ n
none_seen zero = refl
none_seen (suc n) =
    let more : count_by not (false ∷ replicate n false) ≡ 1 + count_by not (replicate n false) =
    sum_by-cons (λ x. cond (not x) 1 0) false (replicate n false) in omega (arith, more, none_seen n)

unseen_at : (n i : ℕ) → get_or (replicate n false) i false ≡ false
unseen_at zero i = refl
unseen_at (suc n) zero = refl
unseen_at (suc n) (suc i) = unseen_at n i

-- ---- the stack of gates, the last one first

abbrev pub IsOn : List ℕ → ℕ → Type 0
IsOn [] v = ⊥
IsOn (w ∷ rest) v = (v ≡ w) ⊎ IsOn rest v

abbrev pub AreDistinct : List ℕ → Type 0
AreDistinct [] = Unit {0}
AreDistinct (v ∷ rest) = (IsOn rest v → ⊥) × AreDistinct rest

module _ (inputs : ℕ) (gates : List Gate) where
  abbrev pub IsOperand : (v w : ℕ) → Type 0
  IsOperand v w = (g : Gate) → gate_of inputs gates v ≡ Some g → (w ≡ g.left / 2) ⊎ (w ≡ g.right / 2)

  -- each one is an operand of the one below it, and the lowest one is the root
  abbrev pub IsChain : (root : ℕ) → List ℕ → Type 0
  IsChain root [] = Unit {0}
  IsChain root (v ∷ []) = v ≡ root
  IsChain root (w ∷ v ∷ rest) = IsOperand v w × IsChain root (v ∷ rest)

  chain_below : (root v : ℕ) (rest : List ℕ) → IsChain root (v ∷ rest) → IsChain root rest
  chain_below root v [] chain = tt
  chain_below root v (w ∷ rest) chain = chain.1

  root_on : (root v : ℕ) (rest : List ℕ) → IsChain root (v ∷ rest) → IsOn (v ∷ rest) root
  root_on root v [] chain = inl (sym chain)
  root_on root v (w ∷ rest) chain = inr (root_on root w rest chain.1)

  -- one that is not the last has an operand on the stack
  turns_on : (root v : ℕ) (rest : List ℕ) → IsChain root (v ∷ rest) → (u : ℕ) → IsOn rest u → (g : Gate) → gate_of inputs gates u ≡ Some g
      → IsOn (v ∷ rest) (g.left / 2) ⊎ IsOn (v ∷ rest) (g.right / 2)
  turns_on root v [] chain u on g is = absurd on
  turns_on root v (w ∷ rest) chain u on g is = elim on [
    | inl same ↦ elim (chain.0 g (subst (λ x. gate_of inputs gates x ≡ Some g) same is)) [
      | inl left ↦ inl (inl (sym left))
      | inr right ↦ inr (inl (sym right))
    ]
    | inr later ↦ elim (turns_on root w rest chain.1 u later g is) [ inl a ↦ inl (inr a) | inr b ↦ inr (inr b) ]
  ]

  -- what is left of the gate of v is placed, and then v
  pub record Closes (p : Ordered) (v : ℕ) (after : Ordered) : Type 0 where
    pub g : Gate
    pub q : Ordered
    pub r : Ordered
    pub is : gate_of inputs gates v ≡ Some g
    pub left : Places inputs gates p (g.left / 2) q
    pub right : Places inputs gates q (g.right / 2) r
    pub still : is_open inputs r v ≡ true
    pub end : after ≡ put inputs r v g

  closes_places : (p : Ordered) (v : ℕ) (after : Ordered) → is_open inputs p v ≡ true → Closes p v after → Places inputs gates p v after
  closes_places p v after vacant c =
      subst (λ x. Places inputs gates p v x) (sym c.end) (with_operands p c.q c.r v c.g vacant c.is c.left c.right c.still)

  pub record Before (IsLater : Ordered → Type 0) (p : Ordered) (v : ℕ) : Type 0 where
    pub middle : Ordered
    pub closes : Closes p v middle
    pub later : IsLater middle

  -- all on the stack are placed, from the last one on
  abbrev pub Finishes : List ℕ → (p after : Ordered) → Type 0
  Finishes [] p after = after ≡ p
  Finishes (v ∷ rest) p after = Before (λ q. Finishes rest q after) p v

  module _ (p : Ordered) (sound : IsSound inputs gates p) (v : ℕ) (g : Gate) (is : gate_of inputs gates v ≡ Some g) where
    -- first the operand, and then what is left: that is placing what is left
    join : (w : ℕ) (q s : Ordered) → IsNext inputs p g w → Closes p w q → Closes q v s → Closes p v s
    join w q s next c d =
        let one : g ≡ d.g = same_Some g d.g (sym is ∙ d.is) in
        let places = closes_places p w q next.vacant c in let closed = (places_sound inputs gates places sound).1 in
        elim next.operand [
          | inl first ↦
              let here : w ≡ d.g.left / 2 = first ∙ ap (λ x. x.left / 2) one in
              let same : d.q ≡ q = stays inputs gates q d.q (d.g.left / 2) d.left
              (subst (λ u. is_open inputs q u ≡ false) here closed) in record {
                g = d.g;
                q = q;
                r = d.r;
                is = d.is;
                left = subst (λ u. Places inputs gates p u q) here places;
                right = subst (λ x. Places inputs gates x (d.g.right / 2) d.r) same d.right;
                still = d.still;
                end = d.end;
              }
          | inr second ↦
              let here : w ≡ d.g.right / 2 = second.1 ∙ ap (λ x. x.right / 2) one in
              let there : is_open inputs p (d.g.left / 2) ≡ false = subst (λ x. is_open inputs p (x.left / 2) ≡ false) one second.0 in
              let same : d.q ≡ q = stays inputs gates q d.q (d.g.left / 2) d.left
              (places_keep inputs gates places (d.g.left / 2) there) in
              let last : d.r ≡ q = stays inputs gates q d.r (d.g.right / 2)
              (subst (λ x. Places inputs gates x (d.g.right / 2) d.r) same d.right)
              (subst (λ u. is_open inputs q u ≡ false) here closed) in record {
                g = d.g;
                q = p;
                r = q;
                is = d.is;
                left = already p (d.g.left / 2) there;
                right = subst (λ u. Places inputs gates p u q) here places;
                still = subst (λ x. is_open inputs x v ≡ true) last d.still;
                end = d.end ∙ ap (λ x. put inputs x v d.g) last;
              }
        ]

    finish_next : (w : ℕ) (rest : List ℕ) (after : Ordered) → IsNext inputs p g w → Finishes (w ∷ v ∷ rest) p after
        → Finishes (v ∷ rest) p after
    finish_next w rest after next f = record {
      middle = f.later.middle;
      closes = join w f.middle f.later.middle next f.closes f.later.closes;
      later = f.later.later;
    }

    finish_put : (rest : List ℕ) (after : Ordered) → is_open inputs p v ≡ true → is_open inputs p (g.left / 2) ≡ false
        → is_open inputs p (g.right / 2) ≡ false → Finishes rest (put inputs p v g) after → Finishes (v ∷ rest) p after
    finish_put rest after vacant left right f = record {
      middle = put inputs p v g;
      closes = record {
        g = g;
        q = p;
        r = p;
        is = is;
        left = already p (g.left / 2) left;
        right = already p (g.right / 2) right;
        still = vacant;
        end = refl;
      };
      later = f;
    }

  -- ---- the walk

  -- a gate on the stack
  pub record IsWaiting (p : Ordered) (seen : List Bool) (v : ℕ) : Type 0 where
    pub vacant : is_open inputs p v ≡ true
    pub below : v < inputs + 1 + length gates
    pub was_seen : get_or seen (v - (inputs + 1)) false ≡ true

  -- what is so while the root is placed, where the placing began at start
  pub record IsWalking (root : ℕ) (start p : Ordered) (seen : List Bool) (stack : List ℕ) : Type 0 where
    pub sound : IsSound inputs gates p
    pub size : length seen ≡ length gates
    pub on : (v : ℕ) → inputs < v → get_or seen (v - (inputs + 1)) false ≡ true → is_open inputs p v ≡ true → IsOn stack v
    pub count : count_by not seen + length p.gates + length stack ≡ length gates
    pub each : (v : ℕ) → IsOn stack v → IsWaiting p seen v
    pub distinct : AreDistinct stack
    pub chain : IsChain root stack
    pub finishes : (after : Ordered) → Finishes stack p after → Closes start root after

  module _ (root : ℕ) (start p : Ordered) (seen : List Bool) (v : ℕ) (rest : List ℕ) (walk : IsWalking root start p seen (v ∷ rest)) where
    top_waits : IsWaiting p seen v
    top_waits = walk.each v (inl refl)

    -- the last gate's line
    top_within : (inputs < v) × (v < inputs + 1 + length gates)
    top_within = (open_is_gate inputs p v top_waits.vacant, top_waits.below)

    module _ (g : Gate) (is : gate_of inputs gates v ≡ Some g) where
      -- both operands are placed
      puts : open_operand inputs p g ≡ None → IsWalking root start (put inputs p v g) seen rest
      puts none =
          let closed = no_next inputs p g none in let vacant = top_waits.vacant in
          let more = length_push p.gates (renumbered_gate inputs p g) in
          let within : v < length p.numbers = omega (arith, walk.sound.size, top_waits.below) in
          let total : count_by not seen + length p.gates + suc (length rest) ≡ length gates = walk.count in
          let other : (u : ℕ) → IsOn rest u → u ≢ v = λ u on. λ same. walk.distinct.0 (subst (IsOn rest) same on) in record {
            sound = put_sound inputs gates p v g walk.sound is vacant closed.0 closed.1;
            size = walk.size;
            on = λ u lt holds still. elim (cases_eq u v) [
              | inl same ↦
                  let here = subst (λ x. is_open inputs (put inputs p v g) x ≡ false) (sym same) (put_closes inputs p v g within) in
                  absurd (both_ways (is_open inputs (put inputs p v g) u) here still)
              | inr apart ↦ elim (walk.on u lt holds (sym (put_other inputs p v u g apart) ∙ still)) [
                | inl same ↦ absurd (apart same)
                | inr on ↦ on
              ]
            ];
            count = omega (arith, total, more);
            each = λ u on. let before = walk.each u (inr on) in record {
              vacant = put_other inputs p v u g (other u on) ∙ before.vacant;
              below = before.below;
              was_seen = before.was_seen;
            };
            distinct = walk.distinct.1;
            chain = chain_below root v rest walk.chain;
            finishes = λ after f. walk.finishes after (finish_put p walk.sound v g is rest after vacant closed.0 closed.1 f);
          }

      module _ (w : ℕ) (some : open_operand inputs p g ≡ Some w) where
        next : IsNext inputs p g w
        next = next_is inputs p g w some

        next_is_gate : inputs < w
        next_is_gate = open_is_gate inputs p w next.vacant

        -- an operand that is not placed, and was not seen
        pushes : w < inputs + 1 + length gates → get_or seen (w - (inputs + 1)) false ≡ false
            → IsWalking root start p (set seen (w - (inputs + 1)) true) (w ∷ v ∷ rest)
        pushes below unseen =
            let i : ℕ = w - (inputs + 1) in
            let within : i < length seen = omega (arith, next_is_gate, below, walk.size) in
            let once = seen_once seen i within unseen in
            let new : (u : ℕ) → IsOn (v ∷ rest) u → u - (inputs + 1) ≢ i = λ u on. λ same.
            both_ways (get_or seen i false) unseen (ap (λ k. get_or seen k false) (sym same) ∙ (walk.each u on).was_seen) in
            let before : count_by not seen + length p.gates + suc (length rest) ≡ length gates = walk.count in
            let total : count_by not (set seen i true) + length p.gates + suc (suc (length rest)) ≡ length gates =
            omega (arith, once, before) in record {
              sound = walk.sound;
              size = length-set seen i true ∙ walk.size;
              on = λ u lt holds still. elim (cases_eq (u - (inputs + 1)) i) [
                | inl same ↦ inl (omega (arith, same, lt, next_is_gate))
                | inr other ↦ inr (walk.on u lt (sym (get_or-set_other seen i (u - (inputs + 1)) true false other) ∙ holds) still)
              ];
              count = total;
              each = λ u on. elim on [
                | inl same ↦ subst (IsWaiting p (set seen i true)) (sym same)
                    (record { vacant = next.vacant; below = below; was_seen = get_or-set_same seen i true false within })
                | inr before ↦ let waits = walk.each u before in record {
                  vacant = waits.vacant;
                  below = waits.below;
                  was_seen = get_or-set_other seen i (u - (inputs + 1)) true false (new u before) ∙ waits.was_seen;
                }
              ];
              distinct = ((λ on. new w on refl), walk.distinct);
              chain = (
                (λ h at. let one : g ≡ h = same_Some g h (sym is ∙ at) in elim next.operand [
                  | inl first ↦ inl (first ∙ ap (λ x. x.left / 2) one)
                  | inr second ↦ inr (second.1 ∙ ap (λ x. x.right / 2) one)
                ]),
                walk.chain,
              );
              finishes = λ after f. walk.finishes after (finish_next p walk.sound v g is w rest after next f);
            }

        -- one that was seen: it is on the stack, so that each gate there stands on another one there
        turns : get_or seen (w - (inputs + 1)) false ≡ true → IsGrounded inputs gates root → ⊥
        turns holds ground =
            let on = walk.on w next_is_gate holds next.vacant in
            none_grounded inputs gates (IsOn (v ∷ rest)) (λ u there. (
              open_is_gate inputs p u (walk.each u there).vacant,
              λ h at. elim there [
                | inl same ↦
                    let one : g ≡ h = same_Some g h (sym is ∙ ap (gate_of inputs gates) (sym same) ∙ at) in elim next.operand [
                      | inl first ↦ inl (subst (IsOn (v ∷ rest)) (first ∙ ap (λ x. x.left / 2) one) on)
                      | inr second ↦ inr (subst (IsOn (v ∷ rest)) (second.1 ∙ ap (λ x. x.right / 2) one) on)
                    ]
                | inr later ↦ turns_on root v rest walk.chain u later h at
              ],
            )) ground (root_on root v rest walk.chain)

  -- the stack is empty
  ends : (root : ℕ) (start p : Ordered) (seen : List Bool) → IsWalking root start p seen [] → is_open inputs start root ≡ true
      → Places inputs gates start root p
  ends root start p seen walk vacant = closes_places start root p vacant (walk.finishes p refl)

-- ---- the code's lists

reverse_push : (xs : List ℕ) (x : ℕ) → reverse (xs ++ x ∷ []) ≡ x ∷ reverse xs
reverse_push xs x = reverse-append xs (x ∷ [])

-- an operand that is not placed is one of the gates
pub next_within : (inputs : ℕ) (gates : List Gate) (p : Ordered) (v w : ℕ) (g : Gate) → AreGates inputs gates
    → gate_of inputs gates v ≡ Some g → open_operand inputs p g ≡ Some w → (inputs < w) × (w < inputs + 1 + length gates)
next_within inputs gates p v w g are is some = let next = next_is inputs p g w some in (
  open_is_gate inputs p w next.vacant,
  elim next.operand [
    | inl first ↦ omega (arith, first, are.left (v - (inputs + 1)) g is)
    | inr second ↦ omega (arith, second.1, are.right (v - (inputs + 1)) g is)
  ],
)

abbrev pub IsWalk : (inputs : ℕ) (gates : List Gate) (root : ℕ) (start : Ordered) (walk : Walk) → Type 0
IsWalk inputs gates root start walk = IsWalking inputs gates root start (ordered walk.order) walk.seen.items (reverse walk.path.items)

same_walk : (inputs : ℕ) (gates : List Gate) (root : ℕ) (start : Ordered) (walk : Walk) (p : Ordered) (seen : List Bool) (stack : List ℕ)
    → ordered walk.order ≡ p → walk.seen.items ≡ seen → reverse walk.path.items ≡ stack
    → IsWalking inputs gates root start p seen stack → IsWalk inputs gates root start walk
same_walk inputs gates root start walk p seen stack order same path is =
    subst (λ x. IsWalking inputs gates root start x walk.seen.items (reverse walk.path.items)) (sym order)
    (subst (λ x. IsWalking inputs gates root start p x (reverse walk.path.items)) (sym same)
    (subst (IsWalking inputs gates root start p seen) (sym path) is))

-- the last one is taken from the path
module _ (inputs : ℕ) (gates : List Gate) (root : ℕ) (start : Ordered) (walk before : Walk) (last : ℕ)
    (is : IsWalk inputs gates root start walk) (order : before.order ≡ walk.order) (same : before.seen.items ≡ walk.seen.items)
    (popped : walk.path.items ≡ before.path.items ++ last ∷ []) where
  pub taken : IsWalking inputs gates root start (ordered before.order) before.seen.items (last ∷ reverse before.path.items)
  taken = subst (λ x. IsWalking inputs gates root start (ordered x) before.seen.items (last ∷ reverse before.path.items)) (sym order)
      (subst (λ x. IsWalking inputs gates root start (ordered walk.order) x (last ∷ reverse before.path.items)) (sym same)
      (subst (IsWalking inputs gates root start (ordered walk.order) walk.seen.items)
      (ap reverse popped ∙ reverse_push before.path.items last) is))

  -- what visiting it needs
  pub last_within : (inputs < last) × (last < inputs + 1 + length gates)
  last_within = top_within inputs gates root start (ordered before.order) before.seen.items last (reverse before.path.items) taken

  module _ (are : AreGates inputs gates) (after : Walk) where
    pub visited : {b : Bool} → Visits inputs gates last before after b → b ≡ true → IsWalk inputs gates root start after
    visited (placing g at none now still path holds) e =
        same_walk inputs gates root start after (put inputs (ordered before.order) last g) before.seen.items (reverse before.path.items)
        now still (ap reverse path) (puts inputs gates root start (ordered before.order) before.seen.items last
        (reverse before.path.items) taken g at none)
    visited (descending g below at some unseen now new path holds) e =
        let within = next_within inputs gates (ordered before.order) last below g are at some in
        same_walk inputs gates root start after (ordered before.order) (set before.seen.items (below - (inputs + 1)) true)
        (below ∷ last ∷ reverse before.path.items) now new
        (ap reverse path ∙ reverse_push (before.path.items ++ last ∷ []) below
        ∙ ap (λ xs. below ∷ xs) (reverse_push before.path.items last))
        (pushes inputs gates root start (ordered before.order) before.seen.items last (reverse before.path.items) taken g at below some
        within.1 unseen)
    visited (turning g below at some seen fails) e = absurd (both_ways _ fails e)

    pub fewer : {b : Bool} → Visits inputs gates last before after b → b ≡ true
        → 2 * count_by not after.seen.items + length after.path.items < 2 * count_by not walk.seen.items + length walk.path.items
    fewer (placing g at none now still path holds) e =
        let long : length walk.path.items ≡ length before.path.items + 1 = ap length popped ∙ length_push before.path.items last in
        omega (arith, ap (count_by not) (still ∙ same), ap length path, long)
    fewer (descending g below at some unseen now new path holds) e =
        let within = next_within inputs gates (ordered before.order) last below g are at some in
        let place : below - (inputs + 1) < length before.seen.items = omega (arith, within.0, within.1, taken.size) in
        let once = seen_once before.seen.items (below - (inputs + 1)) place unseen in
        let long : length walk.path.items ≡ length before.path.items + 1 = ap length popped ∙ length_push before.path.items last in
        let longer : length after.path.items ≡ length before.path.items + 1 + 1 =
        ap length path ∙ length_push (before.path.items ++ last ∷ []) below ∙ ap (λ n. n + 1) (length_push before.path.items last) in
        omega (arith, ap (count_by not) new, ap (count_by not) same, once, long, longer)
    fewer (turning g below at some seen fails) e = absurd (both_ways _ fails e)

    pub turned : {b : Bool} → Visits inputs gates last before after b → b ≡ false → IsGrounded inputs gates root → ⊥
    turned (placing g at none now still path holds) e = λ ground. both_ways _ e holds
    turned (descending g below at some unseen now new path holds) e = λ ground. both_ways _ e holds
    turned (turning g below at some seen fails) e = turns inputs gates root start (ordered before.order) before.seen.items last
        (reverse before.path.items) taken g at below some seen

-- ---- all gates, one after the other

-- none is placed
pub rests : (inputs : ℕ) (gates : List Gate) (walk : Walk) → ordered walk.order ≡ unplaced inputs (length gates)
    → walk.seen.items ≡ replicate (length gates) false → walk.path.items ≡ [] → IsResting inputs gates walk
rests inputs gates walk order seen path = record {
  sound = subst (IsSound inputs gates) (sym order) (unplaced_sound inputs gates);
  size = ap length seen ∙ length-replicate (length gates) false;
  seen = λ v lt holds. absurd (both_ways (get_or walk.seen.items (v - (inputs + 1)) false)
      (ap (λ s. get_or s (v - (inputs + 1)) false) seen ∙ unseen_at (length gates) (v - (inputs + 1))) holds);
  count = omega (arith, ap (count_by not) seen ∙ none_seen (length gates), ap (λ p. length p.gates) order);
  path = path;
}

-- the path is empty
module _ (inputs : ℕ) (gates : List Gate) (root : ℕ) (start : Ordered) (walk : Walk) (path : walk.path.items ≡ [])
    (is : IsWalk inputs gates root start walk) where
  now : IsWalking inputs gates root start (ordered walk.order) walk.seen.items []
  now = subst (IsWalking inputs gates root start (ordered walk.order) walk.seen.items) (ap reverse path) is

  pub root_placed : is_open inputs start root ≡ true → Places inputs gates start root (ordered walk.order)
  root_placed = ends inputs gates root start (ordered walk.order) walk.seen.items now

pub placed_more : (inputs : ℕ) (gates : List Gate) (k : ℕ) (p q : Ordered) → ArePlaced inputs gates k p
    → Places inputs gates p (inputs + 1 + k) q → ArePlaced inputs gates (k + 1) q
placed_more inputs gates k p q all one =
    let more : suc k ≡ k + 1 = omega arith in subst (λ n. ArePlaced inputs gates n q) more (one_more k p q all one)

-- the first gate that cannot be placed
pub first_on_itself : (inputs : ℕ) (gates : List Gate) (k : ℕ) (p : Ordered) → ArePlaced inputs gates k p → k < length gates
    → (IsGrounded inputs gates (inputs + 1 + k) → ⊥) → IsFirstOnItself inputs gates k
first_on_itself inputs gates k p all within not_placed = let s = placed_sound inputs gates all in record {
  within = within;
  before = λ j lt. grounded inputs gates p s.0 (inputs + 1 + j) (s.1 j lt);
  on_itself = not_placed;
}
