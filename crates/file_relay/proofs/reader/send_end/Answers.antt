use Rattle.std.proofs.Common.{refl}
use Rattle.crossbeam_channel.specs.Claims.{view}
use Rattle.file_relay.specs.declared.message.Message.TheVariants.{End}
use Rattle.file_relay.proofs.Messages.{ends-snoc, sent_one}
use Rattle.file_relay.proofs.reader.send_end.Goals as goal

pub returns-clause-ends : goal.returns-clause-ends
returns-clause-ends g c =
    let sent = (view c.args.pass.now).sent in
    let one = sent_one (view c.args.pass.now) (view c.send.new.pass) End c.requires.role c.send.ensures.sent in
    rw one.1 (ends-snoc sent End c.requires.unended refl)
