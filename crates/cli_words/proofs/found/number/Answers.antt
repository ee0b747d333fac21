use Rattle.std.specs.Str.Parse.{ParsesUnsigned, ExplainsUnsignedError, HasUnsignedDigitsIfOk}
use Rattle.cli_words.proofs.Taken.{number_is}
use Rattle.clap.specs.Words.{found_of}
use Rattle.cli_words.proofs.found.number.Goals as goal

pub returns : goal.returns
returns c = number_is _ (λ bs r. ParsesUnsigned 64 10 bs r × ExplainsUnsignedError 10 bs r × HasUnsignedDigitsIfOk bs r)
    (found_of c.args.matches.now) c.args.id.now _ _ c.unwrap.result c.get_one.result c.requires.2 c.get_one.ensures.value (λ u x g. g.0)
    c.unwrap.ensures
