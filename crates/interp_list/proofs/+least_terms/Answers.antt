use Rattle.std.proofs.Common.{◌≡◌, ℕ, ◌≤◌, ◌+◌, ◌-◌, arith}
use Rattle.lattice.specs.Words.{join}
use Rattle.lattice.proofs.Polynomials.{some_member, some_variable, IsLeast-zero, IsLeast-one, upper_disjoint, lower_disjoint, IsCut}
use Rattle.lattice.proofs.Polynomials.{upper_part, lower_part, IsLeast_step}
use Rattle.interp_list.proofs.Step.{is_cut}
use Rattle.lattice.proofs.Diagrams.{weight_is}
use Rattle.lattice.proofs.Polynomials.{empty_from_test, nonempty_from_test}
use Rattle.interp_list.proofs.+least_terms.Goals as goal
use Rattle.interp_list.proofs.+least_terms.Goals.{Else-is_empty-2, In_ok-ones_high, In_ok-upper_ones, In_ok-lower_ones}

pub returns-then-is_empty : goal.returns-then-is_empty
returns-then-is_empty t c =
    let none = empty_from_test _ _ c.is_empty.ensures c.if-is_empty.true in
    rw (none, c.new.ensures.items) (IsLeast-zero c.args.inputs c.args.zeros.now)

pub returns-then-is_empty-2 : goal.returns-then-is_empty-2
returns-then-is_empty-2 t c =
    let none = empty_from_test _ _ c.is_empty-2.ensures c.if-is_empty-2.true in
    let some = some_member _ 0 (nonempty_from_test _ _ c.is_empty.ensures c.if-is_empty.false) in
    rw (none, c.in_ok-push.ensures.items, c.new-one.ensures.items) (IsLeast-one _ _ some.0 some.1)

variable : (t : ℕ) (c : Else-is_empty-2 t) → 1 ≤ c.args.inputs
variable t c =
    some_variable _ _ _ c.requires.zeros_below c.requires.ones_below c.requires.disjoint
    (nonempty_from_test _ _ c.is_empty-2.ensures c.if-is_empty-2.false) (nonempty_from_test _ _ c.is_empty.ensures c.if-is_empty.false)

pub overflow_sub-rest : goal.overflow_sub-rest
overflow_sub-rest t c = variable t c

-- both lists are cut at a variable
cut : (t : ℕ) (c : In_ok-ones_high t) → 1 ≤ c.args.inputs
    → IsCut (c.args.inputs - 1) c.args.zeros.now c.in_ok-zeros_low.zeros_low.items c.in_ok-zeros_high.zeros_high.items
    × IsCut (c.args.inputs - 1) c.args.ones.now c.in_ok-ones_low.ones_low.items c.in_ok-ones_high.ones_high.items
cut t c some =
    let more : c.args.inputs ≡ c.args.inputs - 1 + 1 = omega arith in
    let bit = weight_is (c.args.inputs - 1) (omega (arith, c.requires.width)) in (
      is_cut _ _ _ _ _ bit (rw (← more) c.requires.zeros_below) c.in_ok-zeros_low.ensures c.in_ok-zeros_high.ensures,
      is_cut _ _ _ _ _ bit (rw (← more) c.requires.ones_below) c.in_ok-ones_low.ensures c.in_ok-ones_high.ensures,
    )

pub least_terms-requires : goal.least_terms-requires
least_terms-requires t c =
    let at = goal.at.least_terms-requires t c in let some = variable t at.Else-is_empty-2 in let both = cut t at.In_ok-ones_high some in
    let u = rw (← c.deref-9.ensures.value, ← c.deref-10.ensures.value) at (upper_part _ _ _ _ _ _ _ both.0 both.1 _ _
    (rw (c.deref.ensures.value, c.deref-2.ensures.value, c.deref-3.ensures.value, c.deref-4.ensures.value) at
    c.in_ok-upper_zeros.ensures) (rw (c.deref-5.ensures.value, c.deref-6.ensures.value, c.deref-7.ensures.value, c.deref-8.ensures.value) at
    c.in_ok-upper_ones.ensures)) in
    let apart = upper_disjoint _ _ _ _ _ c.requires.disjoint u in
    (omega (arith, some), (omega (arith, c.requires.width), (u.zeros_below, (u.ones_below, apart))))

pub least_terms-requires-2 : goal.least_terms-requires-2
least_terms-requires-2 t c =
    let at = goal.at.least_terms-requires-2 t c in let some = variable t at.Else-is_empty-2 in let both = cut t at.In_ok-ones_high some in
    let u = rw (← c.deref-9.ensures.value, ← c.deref-10.ensures.value) at (upper_part _ _ _ _ _ _ _ both.0 both.1 _ _
    (rw (c.deref.ensures.value, c.deref-2.ensures.value, c.deref-3.ensures.value, c.deref-4.ensures.value) at
    c.in_ok-upper_zeros.ensures) (rw (c.deref-5.ensures.value, c.deref-6.ensures.value, c.deref-7.ensures.value, c.deref-8.ensures.value) at
    c.in_ok-upper_ones.ensures)) in
    let l = rw (← c.deref-17.ensures.value, ← c.deref-18.ensures.value) at (lower_part _ _ _ _ _ _ _ both.0 both.1 _ _ _
    (rw (c.deref-11.ensures.value, c.deref-12.ensures.value, c.deref-13.ensures.value) at c.in_ok-lower_zeros.ensures)
    (rw (c.deref-14.ensures.value, c.deref-15.ensures.value, c.deref-16.ensures.value) at c.in_ok-lower_ones.ensures)) in
    let apart = lower_disjoint _ _ _ _ _ _ _ _ c.requires.disjoint u c.in_ok-h.ensures.fits l in
    (omega (arith, some), (omega (arith, c.requires.width), (l.zeros_below, (l.ones_below, apart))))

pub returns : goal.returns
unfolding join
returns t c =
    let at = goal.at.returns t c in let some = variable t at.Else-is_empty-2 in let both = cut t at.In_ok-ones_high some in
    let u = rw (← c.deref-9.ensures.value, ← c.deref-10.ensures.value) at (upper_part _ _ _ _ _ _ _ both.0 both.1 _ _
    (rw (c.deref.ensures.value, c.deref-2.ensures.value, c.deref-3.ensures.value, c.deref-4.ensures.value) at
    c.in_ok-upper_zeros.ensures) (rw (c.deref-5.ensures.value, c.deref-6.ensures.value, c.deref-7.ensures.value, c.deref-8.ensures.value) at
    c.in_ok-upper_ones.ensures)) in
    let l = rw (← c.deref-17.ensures.value, ← c.deref-18.ensures.value) at (lower_part _ _ _ _ _ _ _ both.0 both.1 _ _ _
    (rw (c.deref-11.ensures.value, c.deref-12.ensures.value, c.deref-13.ensures.value) at c.in_ok-lower_zeros.ensures)
    (rw (c.deref-14.ensures.value, c.deref-15.ensures.value, c.deref-16.ensures.value) at c.in_ok-lower_ones.ensures)) in
    let more : c.args.inputs ≡ c.args.inputs - 1 + 1 = omega arith in
    let whole = IsLeast_step _ _ _ _ _ _ _ _ _ (rw (← more) c.requires.zeros_below) (rw (← more) c.requires.ones_below) u
    c.in_ok-h.ensures l c.in_ok-terms.ensures in
    let bit = weight_is (c.args.inputs - 1) (omega (arith, c.requires.width)) in
    rw (c.in_ok-add_raised.ensures, c.deref-19.ensures.value, bit) (rw (← more) at whole)
