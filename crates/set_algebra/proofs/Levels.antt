-- Two operands: their levels, by which recursions end, in order, in a later state, and what their halves give.
use Rattle.std.proofs.Common.{◌≡◌, ℕ, suc, ◌-◌, max, Bool, ◌∙◌, arith, Result}
use Rattle.lattice.specs.Words.{Family, IsFamily, has, combine, low_cofactor, high_cofactor, level, test_of}
use Rattle.lattice.specs.declared.op.Op.{Op}
use Rattle.lattice.proofs.Diagrams.{IsFamily_level}
use Rattle.lattice.proofs.Polynomials.{IsFamily_wider, family_where-agree}
use Rattle.node_store.specs.Stores.{State, Knows, Denotes, family, IsSound, Grows, Reads, Builds}
use Rattle.node_store.specs.declared.store.Full.{Full}
use Rattle.node_store.specs.declared.store.Handle.{Handle}
use Rattle.node_store.proofs.StoreLaws.{Builds-after, Denotes-family, Grows-family, Grows-knows, known_after, then_reads}
use Rattle.set_algebra.specs.Pairs.{AreCofactors, AreInOrder, Asks, IsCutAt}
use Rattle.set_algebra.specs.declared.pairs.Cofactors.{Cofactors}

-- a known family's level, in a later state
pub level_later : (s t : State) (a : Handle) → Grows s t → Knows s a → level t.vars (family t a) ≡ level s.vars (family s a)
level_later s t a grows known = grind (arith, Grows-family)

-- the greater level of two known families, in a later state
pub top_later : (s t : State) (a b : Handle) → Grows s t → Knows s a → Knows s b
    → max (level t.vars (family t a)) (level t.vars (family t b)) ≡ max (level s.vars (family s a)) (level s.vars (family s b))
top_later s t a b grows ka kb = grind (arith, Grows-family)

-- two known families combined, in a later state
pub combine_later : (k : Bool → Bool → Bool) (s t : State) (a b : Handle) → Grows s t → Knows s a → Knows s b
    → combine k t.vars (family t a) (family t b) ≡ combine k s.vars (family s a) (family s b)
combine_later k s t a b grows ka kb = grind (arith, Grows-family)

-- two families have no variable before the first of both
pub top_after : (s : State) (a b : Handle) (d : ℕ) → IsSound s → Knows s a → Knows s b
    → max (level s.vars (family s a)) (level s.vars (family s b)) ≡ d → IsFamily d (family s a) × IsFamily d (family s b)
top_after s a b d ok ka kb top =
    let one = IsFamily_level s.vars (family s a) (known_after s a ok ka) in
    let two = IsFamily_level s.vars (family s b) (known_after s b ok kb) in
    (IsFamily_wider _ d (family s a) one (omega arith), IsFamily_wider _ d (family s b) two (omega arith))

-- a family has no variable before its first one, in a later state too
pub first_after : {s t : State} (a : Handle) (var : ℕ) → IsSound s → Knows s a → level s.vars (family s a) ≡ suc (s.vars - var) → Reads s t
    → IsFamily (suc (t.vars - var)) (family t a)
first_after {s} {t} a var sound known top reads = rw (reads.grows.vars, Grows-family s t a reads.grows known, ← top)
    (IsFamily_level s.vars (family s a) (known_after s a sound known))

-- ---- operands in order

combine-swap : (t : Bool → Bool → Bool) (n : ℕ) (f g : Family) → ((p q : Bool) → t p q ≡ t q p) → combine t n f g ≡ combine t n g f
unfolding combine
combine-swap t n f g same = family_where-agree n _ _ (λ x less. same (has f x) (has g x))

module _ (op : Op) (s : State) (a b x y : Handle) (is : AreInOrder op a b x y) where
  -- the operands in order give the same
  pub order-same : combine (test_of op) s.vars (family s x) (family s y) ≡ combine (test_of op) s.vars (family s a) (family s b)
  order-same = grind (arith, combine-swap)

  -- they have the same first variable
  pub order-top : max (level s.vars (family s x)) (level s.vars (family s y)) ≡ max (level s.vars (family s a)) (level s.vars (family s b))
  order-top = grind arith

  -- they are asked as the operands are
  pub order-asks : Asks op s a b → Asks op s x y
  order-asks asks = grind (arith, order-same)

-- ---- in another state

-- what is asked may be asked of a later state
pub asks_later : (op : Op) (s t : State) (a b : Handle) → Grows s t → Asks op s a b → Asks op t a b
asks_later op s t a b grows asks = grind (arith, Grows-knows, Grows-family)

-- the parts that a cut after a look gave, by the state before the look
pub cofactors_before : {s l t : State} {x y : Handle} {h : Cofactors} → Reads s l → Knows s x → Knows s y → AreCofactors l t x y h
    → AreCofactors s t x y h
cofactors_before {s} {l} {t} {x} {y} {h} looked kx ky are = grind (arith, Grows-family)

-- ---- after the halves

-- what the halves gave may be finished, and gives the whole: s is the state at the call, v the one after the halves
pub record Finishes (op : Op) (s v : State) (a b x y : Handle) (var : ℕ) (lo hi : Handle) : Type 0 where
  pub asks : Asks op v x y
  pub cut : IsCutAt v x y var
  pub low : Denotes v lo
      (combine (test_of op) v.vars (low_cofactor (v.vars - var) (family v x)) (low_cofactor (v.vars - var) (family v y)))
  pub high : Denotes v hi
      (combine (test_of op) v.vars (high_cofactor (v.vars - var) (family v x)) (high_cofactor (v.vars - var) (family v y)))
  pub given : {w : State} {r : Result Handle Full} → Builds v w r (combine (test_of op) v.vars (family v x) (family v y))
      → Builds s w r (combine (test_of op) s.vars (family s a) (family s b))

-- the halves were asked in state t, after the operands were cut
pub finishes : {op : Op} {s t v : State} {a b x y : Handle} {c : Cofactors} {lo hi : Handle} → Asks op s a b → AreInOrder op a b x y
    → AreCofactors s t x y c → Reads s t → Reads t v → Denotes v lo (combine (test_of op) t.vars (family t c.a_low) (family t c.b_low))
    → Denotes v hi (combine (test_of op) t.vars (family t c.a_high) (family t c.b_high)) → Finishes op s v a b x y c.var lo hi
finishes {op} {s} {t} {v} {a} {b} {x} {y} {c} {lo} {hi} asks order are one two low high =
    let reads = then_reads one two in let mine = order-asks op s a b x y order asks in
    let x_is = Grows-family s v x reads.grows mine.first in let y_is = Grows-family s v y reads.grows mine.second in
    let whole = combine_later (test_of op) s v x y reads.grows mine.first mine.second ∙ order-same op s a b x y order in
    record {
      asks = asks_later op s v x y reads.grows mine;
      cut = grind arith;
      low = grind (arith, Denotes-family);
      high = grind (arith, Denotes-family);
      given = λ {w} {r} built. Builds-after s v w r _ reads (rw whole at built);
    }
