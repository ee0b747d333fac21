-- The way down to the least member of a family: what is left below, and what the weights above it make of it.
use Rattle.std.proofs.Common.{◌≡◌, ◌≢◌, ◌∙◌, ℕ, suc, ◌+◌, ◌-◌, ◌*◌, ◌%◌, ◌^◌, ◌≤◌, Option, None, Some, option_map}
use Rattle.std.proofs.Common.{[], ◌∷◌, ap, arith, refl, sym}
use Rattle.std.proofs.Math.Pow.{pow_mono}
use Rattle.lattice.specs.Words.{Family, join, level}
use Rattle.lattice.specs.declared.limits.TheConstants.{MAX_VARS}
use Rattle.lattice.proofs.Diagrams.{level-below, level-le, weight_is}
use Rattle.node_store.specs.Stores.{State, Knows, IsSound, Reads, family}
use Rattle.node_store.specs.declared.store.Handle.{Handle}
use Rattle.node_store.specs.declared.store.Node.{Node}
use Rattle.node_store.proofs.StoreLaws.{Reads-refl, filled, node_level, then_reads, zero_family}
use Rattle.diagram_measures.specs.Measured.{least_member_of}
use Rattle.diagram_measures.proofs.MetLemmas.{IsAsked}

-- a number with more weights
abbrev plus : ℕ → Option ℕ → Option ℕ
plus k o = option_map (λ m. k + m) o

plus_none : (o : Option ℕ) → o ≡ plus 0 o
plus_none None = refl
plus_none (Some m) = ap Some (omega arith)

plus_both : (j k : ℕ) (o : Option ℕ) → plus j (plus k o) ≡ plus (j + k) o
plus_both j k None = refl
plus_both j k (Some m) = ap Some (omega arith)

-- the least member of a family by its parts
least_low : (d : ℕ) (lo hi : Family) → lo ≢ [] → least_member_of (join d lo hi) ≡ least_member_of lo
unfolding join
least_low d [] hi some = absurd (some refl)
least_low d (x ∷ xs) hi some = refl

least_high : (d : ℕ) (lo hi : Family) → lo ≡ [] → least_member_of (join d lo hi) ≡ plus (2 ^ d) (least_member_of hi)
unfolding join
least_high d lo [] none = rw none refl
least_high d lo (x ∷ xs) none = rw none refl

-- the least member of the family of a is that of the rest with the weights above; s is the state at the call, and t a later one
pub record Goes (s t : State) (a rest : Handle) (above : ℕ) : Type 0 where
  pub reads : Reads s t
  pub known : Knows t rest
  pub room : above + 2 ^ level t.vars (family t rest) ≤ 2 ^ MAX_VARS
  pub least : least_member_of (family s a) ≡ plus above (least_member_of (family t rest))

pub begins : (s : State) (a : Handle) → IsSound s → Knows s a → Goes s s a a 0
begins s a sound known = record {
  reads = Reads-refl s;
  known = known;
  room = let within : level s.vars (family s a) ≤ MAX_VARS = omega (arith, level-le s.vars (family s a), sound.vars_high) in
      let most : 2 ^ level s.vars (family s a) ≤ 2 ^ MAX_VARS = pow_mono within in omega (arith, most);
  least = plus_none (least_member_of (family s a));
}

-- a node was met
module _ {s t u : State} {a rest : Handle} {above : ℕ} {node : Node} (so_far : Goes s t a rest above) (asked : IsAsked t u rest node)
    (reads : Reads t u) where
  abbrev d : ℕ
  d = u.vars - node.var

  first_is : level t.vars (family t rest) ≡ suc d
  first_is = node_level t u node (family t rest) asked.sound asked.is asked.grows.vars (sym asked.whole)
      ∙ ap (λ n. suc (n - node.var)) (sym asked.grows.vars)

  room_twice : above + (2 ^ d + 2 ^ d) ≤ 2 ^ MAX_VARS
  room_twice = omega (arith, ap (λ n. 2 ^ n) first_is, so_far.room)

  below : (h : Handle) → level u.vars (family u h) ≤ d → 2 ^ level u.vars (family u h) ≤ 2 ^ d
  below h less = pow_mono less

  -- the weight of its variable, of so many
  pub weight_met : (n : ℕ) → n ≡ s.vars → above + 1 * 2 ^ (n - node.var) % 18446744073709551616 ≡ above + 2 ^ d
  weight_met n is =
      let same : n - node.var ≡ d = omega (arith, is, so_far.reads.grows.vars, reads.grows.vars) in
      rw same (ap (λ w. above + w) (weight_is d (omega (arith, asked.sound.vars_high))))

  pub goes_low : node.lo.0 ≢ 0 → Goes s u a node.lo above
  goes_low some =
      let last = level-below d u.vars (family u node.lo) asked.is.parts.lo_after (omega arith) in record {
        reads = then_reads so_far.reads reads;
        known = asked.is.parts.lo_known;
        room = omega (arith, room_twice, below node.lo last);
        least = so_far.least ∙ ap (plus above) (ap least_member_of (sym asked.whole)
            ∙ least_low d (family u node.lo) (family u node.hi) (filled u node.lo asked.sound asked.is.parts.lo_known some));
      }

  pub goes_high : node.lo.0 ≡ 0 → {more : ℕ} → more ≡ above + 2 ^ d → Goes s u a node.hi more
  goes_high none {more} is =
      let last = level-below d u.vars (family u node.hi) asked.is.parts.hi_after (omega arith) in
      let high = least_high d (family u node.lo) (family u node.hi) (zero_family u node.lo asked.sound none) in record {
        reads = then_reads so_far.reads reads;
        known = asked.is.parts.hi_known;
        room = omega (arith, room_twice, below node.hi last, is);
        least = so_far.least ∙ (ap (plus above) (ap least_member_of (sym asked.whole) ∙ high)
            ∙ (plus_both above (2 ^ d) (least_member_of (family u node.hi))
            ∙ ap (λ k. plus k (least_member_of (family u node.hi))) (sym is)));
      }
