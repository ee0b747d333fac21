use Rattle.std.proofs.Common.{◌≢◌, ◌-◌, ◌≤◌, ℕ, arith}
use Rattle.lattice.specs.Words.{power}
use Rattle.lattice.proofs.Diagrams.{IsFamily-power, power-zero, power-some}
use Rattle.lattice.proofs.Polynomials.{IsFamily_wider}
use Rattle.node_store.specs.AnyFamily.{MayHoldAny}
use Rattle.node_store.specs.Stores.{State, IsPlanned}
use Rattle.node_store.proofs.StoreLaws.{Builds-known, MayHoldAny-later, node_parts, node_planned, node_builds, reads_one, power_grows}
use Rattle.diagram_tests.proofs.of_node_store.+all_over.Goals as goal

planned : (s : State) (vars count : ℕ) → MayHoldAny vars s → count ≤ vars → IsPlanned s (power count)
planned s vars count any less = any.planned (power count) (IsFamily_wider count vars (power count) (IsFamily-power count) less)

pub returns-then-count-eq0-clause-builds : goal.returns-then-count-eq0-clause-builds
returns-then-count-eq0-clause-builds g t c =
    let ok = g.met.S.Store.sound c.args.store.now in
    Builds-known _ (record { 0 = 1 }) (power c.args.count) ok (rw (c.if-count-eq0.true, power-zero) ok.unit)

pub intern-requires : goal.intern-requires
intern-requires g t c =
    let ok = g.met.S.Store.sound c.all_over.new.store in let rest = c.in_ok-rest.ensures.builds in
    let may = power_grows c.args.count c.vars.result c.if-count-eq0.false (omega (arith, c.requires.count, c.requires.any.vars_are))
    (reads_one rest) c.vars.ensures rest.ok (planned _ c.args.vars c.args.count c.requires.any c.requires.count) in
    let some : c.in_ok-rest.rest.0 ≢ 0 = λ e. power-some (c.args.count - 1) (cc (ok.empty, rest.ok)) in
    record { node = record { parts = node_parts may; full = some }; planned = node_planned may ok some }

pub returns-clause-builds : goal.returns-clause-builds
returns-clause-builds g t c =
    let rest = c.in_ok-rest.ensures.builds in
    node_builds (power_grows c.args.count c.vars.result c.if-count-eq0.false (omega (arith, c.requires.count, c.requires.any.vars_are))
    (reads_one rest) c.vars.ensures rest.ok (planned _ c.args.vars c.args.count c.requires.any c.requires.count)) c.intern.ensures

pub returns-clause-any : goal.returns-clause-any
returns-clause-any g t c = MayHoldAny-later c.args.vars _ _ c.intern.ensures.grows c.all_over.ensures.any
