-- Operands that were cut: their parts are asked and have later variables alone, by which the recursion ends, and give the whole.
use Rattle.std.proofs.Common.{◌∙◌, ℕ, ◌-◌, ◌<◌, suc, max, Ok, Some, refl, inl, ap, arith}
use Rattle.lattice.specs.Words.{Family, IsFamily, combine, Covers, level, sub, test_of}
use Rattle.lattice.proofs.Diagrams.{combine-covers_low, combine-covers_high, level-below, test_none}
use Rattle.lattice.proofs.Polynomials.{IsFamily-low_cofactor, IsFamily-high_cofactor}
use Rattle.lattice.specs.declared.op.Op.{Op}
use Rattle.node_store.specs.Stores.{State, Knows, Denotes, family, IsSound, Grows, Reads, Builds}
use Rattle.node_store.specs.declared.store.Handle.{Handle}
use Rattle.node_store.proofs.StoreLaws.{Denotes-family, Denotes-knows, Grows-family, Grows-refl, Grows-trans}
use Rattle.node_store.proofs.StoreLaws.{Reads-refl, then_call}
use Rattle.set_algebra.proofs.Levels.{Finishes, combine_later, finishes, top_after, top_later}
use Rattle.set_algebra.specs.Pairs.{AreCofactors, Asks, IsCutAt}
use Rattle.set_algebra.specs.declared.pairs.Cofactors.{Cofactors}

-- where operands were cut
pub cut_of : {s t : State} {x y : Handle} {c : Cofactors} → AreCofactors s t x y c → IsCutAt s x y c.var
cut_of are = record { first = are.first; last = are.last; top = are.top }

-- what has later variables alone than the first one of two families has a later first variable
pub parts_fall : {s : State} {x y p q : Handle} {P Q : Family} {var : ℕ} → IsCutAt s x y var → Denotes s p P → Denotes s q Q
    → IsFamily (s.vars - var) P → IsFamily (s.vars - var) Q
    → max (level s.vars (family s p)) (level s.vars (family s q)) < max (level s.vars (family s x)) (level s.vars (family s y))
parts_fall {s} {x} {y} {p} {q} {P} {Q} {var} cut p_is q_is p_fits q_fits =
    rw (Denotes-family s p P p_is, Denotes-family s q Q q_is)
    (omega (
      arith,
      cut.top,
      level-below (s.vars - var) s.vars P p_fits (omega arith),
      level-below (s.vars - var) s.vars Q q_fits (omega arith),
    ))

-- the parts of a cut in s that were found in t, by a later state
pub cofactors_later : {s t u : State} {x y : Handle} {c : Cofactors} → Grows t u → AreCofactors s t x y c → AreCofactors s u x y c
cofactors_later {s} {t} {u} {x} {y} {c} two are = grind arith

-- and as the operands' parts in that state
pub cofactors_at : {s t u : State} {x y : Handle} {c : Cofactors} → Grows s t → Grows t u → Knows s x → Knows s y
    → AreCofactors s t x y c → AreCofactors u u x y c
cofactors_at {s} {t} {u} {x} {y} {c} one two kx ky are = let whole = Grows-trans s t u one two in grind (arith, Grows-family)

-- parts whose result is planned with the whole's may be combined
part_asks : (op : Op) (s t : State) (F : Family) (p q : Handle) (P Q : Family) → Grows s t → Covers s.plan (sub s.vars F) → Denotes t p P
    → Denotes t q Q → Covers (sub s.vars F) (sub s.vars (combine (test_of op) s.vars P Q)) → Asks op t p q
part_asks op s t F p q P Q grows planned p_is q_is covers = grind (arith, Denotes-knows, Denotes-family)

-- so may both halves of operands that are asked in s and were found in t
pub parts_asked : {op : Op} {s t : State} {x y : Handle} {c : Cofactors} → IsSound s → Asks op s x y → Grows s t → AreCofactors s t x y c
    → Asks op t c.a_low c.b_low × Asks op t c.a_high c.b_high
parts_asked {op} {s} {t} {x} {y} {c} ok mine grows are =
    let fits = top_after s x y (suc (s.vars - c.var)) ok mine.first mine.second are.top in
    let less : s.vars - c.var < s.vars = omega (arith, are.first, are.last) in (
      part_asks op s t _ c.a_low c.b_low _ _ grows mine.planned are.a_low are.b_low
          (combine-covers_low (test_of op) (test_none op) s.vars (s.vars - c.var) (family s x) (family s y) fits.0 fits.1 less),
      part_asks op s t _ c.a_high c.b_high _ _ grows mine.planned are.a_high are.b_high
          (combine-covers_high (test_of op) (test_none op) s.vars (s.vars - c.var) (family s x) (family s y) fits.0 fits.1 less),
    )

-- the parts have later variables alone than the first one of the operands, where t is the state in which they are asked
module _ {s t : State} {x y : Handle} {c : Cofactors} (grows : Grows s t) (kx : Knows s x) (ky : Knows s y)
    (are : AreCofactors s t x y c) where
  there : AreCofactors t t x y c
  there = cofactors_at grows (Grows-refl t) kx ky are

  pub low_falls : max (level t.vars (family t c.a_low)) (level t.vars (family t c.b_low))
      < max (level s.vars (family s x)) (level s.vars (family s y))
  low_falls =
      let parts = parts_fall (cut_of there) there.a_low there.b_low (IsFamily-low_cofactor _ _) (IsFamily-low_cofactor _ _) in
      omega (arith, top_later s t x y grows kx ky, parts)

  pub high_falls : max (level t.vars (family t c.a_high)) (level t.vars (family t c.b_high))
      < max (level s.vars (family s x)) (level s.vars (family s y))
  high_falls =
      let parts = parts_fall (cut_of there) there.a_high there.b_high (IsFamily-high_cofactor _ _) (IsFamily-high_cofactor _ _) in
      omega (arith, top_later s t x y grows kx ky, parts)

-- the halves may be finished, the first asked in t, where the cut was, and the second in u
pub halves_finish : {op : Op} {s t u v : State} {x y lo hi : Handle} {c : Cofactors} → Asks op s x y → AreCofactors s t x y c → Reads s t
    → Asks op t c.a_high c.b_high → Builds t u (Ok lo) (combine (test_of op) t.vars (family t c.a_low) (family t c.b_low))
    → Builds u v (Ok hi) (combine (test_of op) u.vars (family u c.a_high) (family u c.b_high)) → Finishes op s v x y x y c.var lo hi
halves_finish {op} {s} {t} {u} {v} {x} {y} {lo} {hi} {c} asks are reads high one two =
    let same = combine_later (test_of op) t u c.a_high c.b_high one.grows high.first high.second in
    finishes asks (inl (refl, refl)) are reads (then_call (then_call (Reads-refl t) one) two)
    (two.grows.known lo.0 _ one.ok) (two.ok ∙ ap Some same)
