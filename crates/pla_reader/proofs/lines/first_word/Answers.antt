use Rattle.std.proofs.Common.{arith}
use Rattle.pla_reader.proofs.WordCuts.{no_words, word_cut}
use Rattle.pla_reader.proofs.lines.first_word.Goals as goal

pub returns-in-empty : goal.returns-in-empty
returns-in-empty c = grind (arith, no_words)

pub returns-in_default : goal.returns-in_default
returns-in_default c = grind (arith, word_cut c.args.line.now _ c.from_first_word.ensures)
