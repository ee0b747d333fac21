use Rattle.std.proofs.Common.{rules, ◌≡◌, true, false, ap, sym, ◌∙◌}
use Rattle.std.specs.Io.BufRead.{strip_last}
use Rattle.file_stream.specs.Digests.{at_most_one, begins_comment}
use Rattle.file_stream.proofs.Words.{comment_word, one_word}
use Rattle.file_stream.proofs.digest.Digest.word.Goals as goal

pub returns-then-begins_comment : goal.returns-then-begins_comment
returns-then-begins_comment c h = let e : begins_comment c.args.self.now ≡ true = search rules in comment_word c.args.self.now e

pub returns : goal.returns
returns c h =
    let e : begins_comment c.args.self.now ≡ false = search rules in
    let word : c.without_last-3.result.now ≡ strip_last 9 (strip_last 32 (strip_last 13 c.args.self.now)) = search rules in
    one_word c.args.self.now h e ∙ ap at_most_one (sym word)
