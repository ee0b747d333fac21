use Rattle.std.proofs.Common.{◌≡◌, ◌≢◌, ◌≤◌, ◌<◌, ◌-◌, ◌*◌, ◌%◌, ◌^◌, ℕ, zero, suc, [], ◌∷◌, arith}
use Rattle.lattice.specs.Words.{join}
use Rattle.lattice.specs.declared.limits.TheConstants.{MAX_VARS}
use Rattle.lattice.proofs.Diagrams.{IsFamily-nil, IsFamily-single, single-join, weight_is}
use Rattle.node_store.specs.Stores.{State, Denotes, IsSound, IsPlanned, Reads}
use Rattle.node_store.specs.declared.store.Handle.{Handle}
use Rattle.node_store.proofs.StoreLaws.{MayGrow, may_grow, node_builds, node_parts, node_planned, reads_one}
use Rattle.set_algebra.proofs.HalvesLemmas.{planned_high}
use Rattle.set_algebra.proofs.single.+one_below.Goals as goal

-- a number with the variable of weight 2 ^ d, cut at this variable; w is what is computed as the weight
record IsCut (count m w : ℕ) : Type 0 where
  more : count ≡ suc (count - 1)
  whole : m ∷ [] ≡ join (count - 1) [] ((m - w) ∷ [])
  below : m - w < 2 ^ (count - 1)

is_cut : (count m : ℕ) → m ≢ 0 → m < 2 ^ count → count ≤ MAX_VARS → 1 * 2 ^ (count - 1) % 18446744073709551616 ≤ m
    → IsCut count m (1 * 2 ^ (count - 1) % 18446744073709551616)
is_cut zero m some below few within = let one : m < 1 = below in absurd (some (omega arith))
is_cut (suc d) m some below few within = grind (arith, weight_is, single-join)

grows : {s t : State} {high : Handle} (count m w vars : ℕ) → IsCut count m w → count ≤ s.vars → IsSound t → Reads s t → vars ≡ t.vars
    → Denotes t high ((m - w) ∷ []) → IsPlanned s (m ∷ []) → MayGrow s t (vars - (count - 1)) (record { 0 = 0 }) high (m ∷ [])
grows count m w vars cut over ok reads asked is planned = grind (arith, may_grow, IsFamily-nil, IsFamily-single)

pub one_below-requires-2 : goal.one_below-requires-2
one_below-requires-2 g t c κs within =
    let most = (g.met.S.Store.sound c.args.store.now).vars_high in let n : ℕ = c.args.count - 1 in
    let cut = is_cut c.args.count c.args.m c.if-m-eq0.false c.requires.below (omega (arith, c.requires.count, most)) c.if-m-weight.false in
    let planned = planned_high (g.S.Store.state c.args.store.now) n [] _ _ cut.whole (IsFamily-nil n) (IsFamily-single n _ cut.below)
    (omega (arith, cut.more, c.requires.count)) c.requires.planned in
    (omega (arith, c.decreases, cut.more), (within, (omega (arith, c.requires.count), (cut.below, planned))))

pub grow-requires : goal.grow-requires
grow-requires g t c =
    let most = (g.met.S.Store.sound c.args.store.now).vars_high in let ok = g.met.S.Store.sound c.one_below-2.new.store in
    let cut = is_cut c.args.count c.args.m c.if-m-eq0.false c.requires.below (omega (arith, c.requires.count, most)) c.if-m-weight.false in
    let may = grows c.args.count c.args.m _ c.vars.result cut c.requires.count ok (reads_one c.in_ok-high.ensures) c.vars.ensures
    c.in_ok-high.ensures.ok c.requires.planned in
    record { parts = node_parts may; planned = node_planned may ok }

pub returns : goal.returns
returns g t c =
    let most = (g.met.S.Store.sound c.args.store.now).vars_high in let ok = g.met.S.Store.sound c.one_below-2.new.store in
    let cut = is_cut c.args.count c.args.m c.if-m-eq0.false c.requires.below (omega (arith, c.requires.count, most)) c.if-m-weight.false in
    node_builds (grows c.args.count c.args.m _ c.vars.result cut c.requires.count ok (reads_one c.in_ok-high.ensures) c.vars.ensures
    c.in_ok-high.ensures.ok c.requires.planned) c.grow.ensures
