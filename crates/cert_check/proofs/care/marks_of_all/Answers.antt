use Rattle.cert_check.proofs.Marked.{marked_more}
use Rattle.cert_check.proofs.care.marks_of_all.Goals as goal

pub loop-a-preserved : goal.loop-a-preserved
loop-a-preserved c = marked_more c.loop-a.a c.args.rows.now c.loop-a.all.items c.push.new.self.items c.marks_of.result
    c.loop-a.invariant c.marks_of.ensures c.in_ok-push.ensures.items
