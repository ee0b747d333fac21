use Rattle.nf_run.proofs.Endings.{query_lawful}
use Rattle.nf_run.proofs.top.NfqProgram.lawful.Goals as goal

pub returns : goal.returns
returns c = query_lawful c.args.self.now.bits
