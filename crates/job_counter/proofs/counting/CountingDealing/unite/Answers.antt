use Rattle.std.proofs.Common.{◌≤◌, ◌+◌, ◌∙◌, ap, sym, arith, length, length-append}
use Rattle.job_counter.specs.Drawing.{drawing, zeros}
use Rattle.job_counter.specs.declared.counter.TheConstants.{ALL_PARTS}
use Rattle.job_counter.proofs.Dealt.{length-zeros, zeros-append}
use Rattle.job_counter.proofs.counting.CountingDealing.unite.Goals as goal

pub invariant_of-result : goal.invariant_of-result
invariant_of-result c =
    let first = drawing c.args.first.drawer in let second = drawing c.args.second.drawer in
    let parts = ap (λ d. d.parts) c.join.ensures in let drawn = ap (λ d. length d.drawn) c.join.ensures in
    let all : first.parts + second.parts ≤ ALL_PARTS = omega (
      arith,
      c.requires.few,
      length-zeros (first.parts + second.parts),
      length-zeros ALL_PARTS,
      ap length (zeros-append first.parts second.parts),
    ) in record {
      each_bounds_one = omega (
        arith,
        parts,
        drawn,
        length-append first.drawn second.drawn,
        c.args.first.each_bounds_one,
        c.args.second.each_bounds_one,
      );
      few = omega (arith, parts, all);
    }

pub returns-clause-shares : goal.returns-clause-shares
returns-clause-shares c =
    ap (λ d. zeros d.parts) c.join.ensures ∙ sym (zeros-append (drawing c.args.first.drawer).parts (drawing c.args.second.drawer).parts)
