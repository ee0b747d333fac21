use Rattle.std.proofs.Common.{◌≡◌, ◌++◌, length}
use Rattle.pla_reader.specs.Lines.{words_of}
use Rattle.pla_reader.proofs.arguments.names.Given as goal

abbrev pub invariant-loop-word : goal.invariant-loop-word
invariant-loop-word l = l.names ++ words_of l.rest ≡ words_of l.words

abbrev pub decreases-loop-word : goal.decreases-loop-word
decreases-loop-word l = length l.rest
