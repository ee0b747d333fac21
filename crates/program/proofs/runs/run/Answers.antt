use Rattle.std.proofs.Common.{◌≡◌, ⊎_elim}
use Rattle.program.specs.Outcomes.{status_of}
use Rattle.program.proofs.Endings.{due_for_any, said}
use Rattle.program.proofs.runs.run.Goals as goal

pub returns-clause-headline : goal.returns-clause-headline
returns-clause-headline g c = λ job bytes due asked told is text calm quiet.
    let e = c.outcome_of-outcome.ensures in let duty = g.G.Program.duty c.args.program.now in
    let status : c.report.result ≡ status_of duty.way c.outcome_of-outcome.result =
    rw (g.met.G.Program.ways c.args.program.now) c.report.ensures.status in
    (said duty c.lawful.ensures e.ran.ended status).written job due asked
    (⊎_elim (λ all. rw (e.ran.told bytes all) is) (λ none. due_for_any duty e.ran.bytes none is) told)
    text (λ fault. calm (e.read fault)) (λ fault. quiet (e.write fault))

pub returns-clause-usage : goal.returns-clause-usage
returns-clause-usage g c =
    let duty = g.G.Program.duty c.args.program.now in
    let status : c.report.result ≡ status_of duty.way c.outcome_of-outcome.result =
    rw (g.met.G.Program.ways c.args.program.now) c.report.ensures.status in
    (said duty c.lawful.ensures c.outcome_of-outcome.ensures.ran.ended status).usage

pub returns-clause-taken : goal.returns-clause-taken
returns-clause-taken g c =
    let duty = g.G.Program.duty c.args.program.now in
    let status : c.report.result ≡ status_of duty.way c.outcome_of-outcome.result =
    rw (g.met.G.Program.ways c.args.program.now) c.report.ensures.status in
    (said duty c.lawful.ensures c.outcome_of-outcome.ensures.ran.ended status).taken

pub returns-clause-refused : goal.returns-clause-refused
returns-clause-refused g c =
    let duty = g.G.Program.duty c.args.program.now in
    let status : c.report.result ≡ status_of duty.way c.outcome_of-outcome.result =
    rw (g.met.G.Program.ways c.args.program.now) c.report.ensures.status in
    (said duty c.lawful.ensures c.outcome_of-outcome.ensures.ran.ended status).refused_so

pub returns-clause-earned : goal.returns-clause-earned
returns-clause-earned g c = λ job bytes due asked told is ended.
    let e = c.outcome_of-outcome.ensures in let duty = g.G.Program.duty c.args.program.now in
    let status : c.report.result ≡ status_of duty.way c.outcome_of-outcome.result =
    rw (g.met.G.Program.ways c.args.program.now) c.report.ensures.status in
    (said duty c.lawful.ensures e.ran.ended status).earns job due asked
    (⊎_elim (λ all. rw (e.ran.told bytes all) is) (λ none. due_for_any duty e.ran.bytes none is) told) ended

pub returns-clause-nothing : goal.returns-clause-nothing
returns-clause-nothing g c =
    let duty = g.G.Program.duty c.args.program.now in
    let status : c.report.result ≡ status_of duty.way c.outcome_of-outcome.result =
    rw (g.met.G.Program.ways c.args.program.now) c.report.ensures.status in
    (said duty c.lawful.ensures c.outcome_of-outcome.ensures.ran.ended status).nothing

pub returns-clause-nobody : goal.returns-clause-nobody
returns-clause-nobody g c =
    let duty = g.G.Program.duty c.args.program.now in
    let status : c.report.result ≡ status_of duty.way c.outcome_of-outcome.result =
    rw (g.met.G.Program.ways c.args.program.now) c.report.ensures.status in
    (said duty c.lawful.ensures c.outcome_of-outcome.ensures.ran.ended status).nobody
