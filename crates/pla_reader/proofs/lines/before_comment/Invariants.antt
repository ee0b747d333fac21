use Rattle.std.proofs.Common.{◌≡◌, ◌==◌, ◌||◌, ◌-◌, ◌++◌, true, take, drop, get_or}
use Rattle.pla_reader.specs.Lines.{is_blank, before_comment}
use Rattle.pla_reader.proofs.lines.before_comment.Given as goal

abbrev pub invariant-loop-i : goal.invariant-loop-i
invariant-loop-i l =
    take l.i l.line ++ before_comment (l.i == 0 || is_blank (get_or l.line (l.i - 1) 0)) (drop l.i l.line) ≡ before_comment true l.line
