use Rattle.std.proofs.Common.{◌≡◌, ◌≤◌, ◌∙◌, ap, sym, arith, length}
use Rattle.std.proofs.lemmas.List.Elements.{Contains-push}
use Rattle.std.specs.List.{Contains}
use Rattle.job_counter.specs.Drawing.{drawing, more_drawn}
use Rattle.job_counter.specs.declared.counter.TheConstants.{ALL_PARTS}
use Rattle.job_counter.proofs.Dealt.{drawn_below, taken_once, taken_all, zeros-injective}
use Rattle.job_counter.proofs.counting.CountingDealing.take.Goals as goal
use Rattle.job_counter.proofs.counting.CountingDealing.take.Goals.{then-hand-gt0+else-number-from, else-hand-gt0}

pub returns-then-number-from-clause-once : goal.returns-then-number-from-clause-once
returns-then-number-from-clause-once c x =
    rw c.draw-number.ensures.more
    (taken_once c.args.self.now.count c.draw-number.result x (drawing c.args.hand.now.drawer).drawn (c.draw-number.ensures.once x))

pub returns-clause-over : goal.returns-clause-over
returns-clause-over c whole x =
    let drawer = c.if-hand-gt0.hand.1.0 in let total = c.args.self.now.count in let word = c.all_drawn.result in
    let all : (drawing drawer).parts ≡ ALL_PARTS =
    ap (λ d. d.parts) (sym c.all_drawn.ensures.same) ∙ zeros-injective (drawing c.all_drawn.new.drawer).parts ALL_PARTS whole in
    let past : total ≤ word = elim c.if-hand-gt0.branch [
      | then-hand-gt0+else-number-from w ↦
          let here : drawing drawer ≡ more_drawn (drawing c.args.hand.now.drawer) w.draw-number.result =
          ap (λ h. drawing h.1.0) w.hand-is ∙ w.draw-number.ensures.more in
          let drew : Contains (drawing drawer).drawn w.draw-number.result =
          rw here (Contains-push (drawing c.args.hand.now.drawer).drawn w.draw-number.result) in
          let once = c.all_drawn.ensures.once all w.draw-number.result in
          let below = drawn_below w.draw-number.result word (drawing drawer).drawn drew once in
          omega (arith, w.if-number-from.false, w.from.ensures, below)
      | else-hand-gt0 w ↦
          let here : drawing drawer ≡ drawing c.args.hand.now.drawer = ap (λ h. drawing h.1.0) w.hand-is in
          let none_left : length (drawing drawer).drawn ≡ (drawing drawer).parts =
          rw here (omega (arith, c.args.hand.now.each_bounds_one, w.if-hand-gt0.false)) in
          omega (arith, none_left, all, c.all_drawn.ensures.count all, c.args.self.now.few)
    ] in
    rw c.all_drawn.ensures.same (taken_all total word x (drawing drawer).drawn past (c.all_drawn.ensures.once all x))
