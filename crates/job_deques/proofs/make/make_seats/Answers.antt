use Rattle.std.proofs.Common.{◌<◌, ◌∙◌, length, arith, sym, refl, ap, subst}
use Rattle.std.proofs.Math.Nat.{div-le_self}
use Rattle.std.specs.Global.{Vec}
use Rattle.std.specs.List.{All}
use Rattle.job_deques.specs.declared.seat.Seat.{Seat}
use Rattle.job_deques.specs.Seats.{Layout}
use Rattle.job_deques.specs.Dealt.{AreJoined, layout_of}
use Rattle.job_deques.specs.Hands.{AreTaking, IsUnused}
use Rattle.job_deques.proofs.Made.{begun, joined_places, joined_unused, joined_taking, unused_took}
use Rattle.job_deques.proofs.make.make_seats.Goals as goal

pub overflow_add-count : goal.overflow_add-count
overflow_add-count c = omega (arith, div-le_self c.args.count c.args.total, c.requires.count)

pub set_out-requires : goal.set_out-requires
set_out-requires c =
    let made = c.in_ok-seats.ensures in (
      omega (arith, made.many, c.requires.some),
      (omega (arith, made.many, c.requires.small), (refl, begun c.in_ok-seats.seats.items c.args.count made.fresh)),
    )

pub returns : goal.returns
returns c =
    let count = c.args.count in let list = c.in_ok-list.list in let many = c.in_ok-seats.ensures.many in
    let l : Layout = layout_of c.in_ok-seats.seats.items count in
    let same = sym c.of-made.ensures in
    let joined : AreJoined l list = rw c.in_ok-list.ensures c.in_ok-set_out.ensures in
    let any : 0 < l.total = omega (arith, many, c.requires.some) in
    let taking = joined_taking l list any (omega (arith, many, c.requires.small)) joined in
    let unused = joined_unused l list joined in record {
      total = ap (λ (v : Vec Seat). length v.items) c.of-made.ensures ∙ many;
      of = subst (λ (v : Vec Seat). AreTaking (layout_of v.items count) list) same taking;
      fresh = subst (λ (v : Vec Seat). All (IsUnused (layout_of v.items count)) list) same unused;
      whole = rw (sym many) (joined_places l list joined);
      none = λ x. unused_took l x list unused;
    }
