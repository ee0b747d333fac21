use Rattle.std.proofs.Common.{◌≡◌, true, false, sym, ◌∙◌, rules}
use Rattle.std.specs.Prelude.{◌||◌}
use Rattle.std.specs.List.{list_any}
use Rattle.file_stream.specs.Files.{says}
use Rattle.std.proofs.lemmas.Bool.{or_left, or_right}
use Rattle.file_stream.proofs.Begun.{end_file, end_none}
use Rattle.file_stream.proofs.Digests.{stands_at}
use Rattle.file_stream.proofs.Words.{says-feed}
use Rattle.file_stream.proofs.cutter.Cutter.finish.Goals as goal
use Rattle.file_stream.proofs.cutter.Cutter.finish.Goals.{then-cutter, else-cutter}

pub returns-then-says : goal.returns-then-says
returns-then-says c file h =
    let told : c.says-says.result ≡ says h.line
    = c.says-says.ensures h.short ∙ ((stands_at c.args.self.digest h.line h.stands).1 ∙ says-feed h.line h.begun.unfed) in
    let any : (list_any says h.front || says h.line) ≡ true = elim c.if-cutter.branch [
      | then-cutter w ↦ let said_it : c.args.self.said ≡ true = search rules in
          or_left (list_any says h.front) (says h.line) (sym h.said ∙ said_it)
      | else-cutter w ↦ let says_it : c.says-says.result ≡ true = search rules in
          or_right (list_any says h.front) (says h.line) (sym told ∙ says_it)
    ] in
    (c.take_file.ensures.piece file h.kept, end_file file h.front h.line h.begun any)

pub returns : goal.returns
returns c file h =
    let told : c.says-says.result ≡ says h.line
    = c.says-says.ensures h.short ∙ ((stands_at c.args.self.digest h.line h.stands).1 ∙ says-feed h.line h.begun.unfed) in
    let none : (list_any says h.front || says h.line) ≡ false = search (rules, told, h.said) in
    end_none file h.front h.line h.begun none
