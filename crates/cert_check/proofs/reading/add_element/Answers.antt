use Rattle.std.proofs.Common.{rules, arith}
use Rattle.cert_check.proofs.LinesRead.{element_added, element_alone}
use Rattle.cert_check.proofs.reading.add_element.Goals as goal

pub returns-in_ok-push-2 : goal.returns-in_ok-push-2
returns-in_ok-push-2 c = element_added c.args.outputs.now.items c.pop.new.self.items c.push-in-Some.new.self.items
    c.in-Some.last c.push.new.self c.args.element c.in-Some.ensures.items c.in_ok-push.ensures.ok c.in_ok-push-2.ensures.items

pub returns-in_default : goal.returns-in_default
returns-in_default c = search (rules, arith, element_alone)
