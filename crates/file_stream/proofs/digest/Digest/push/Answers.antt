use Rattle.std.proofs.Common.{◌≡◌, suc, ◌-◌, ◌+◌, ◌<◌, false, [], length, get_or, set, take, sym, ap, ◌∙◌, subst, arith, rules}
use Rattle.std.specs.Prelude.{◌==◌}
use Rattle.pla_reader.specs.Lines.{is_blank}
use Rattle.file_stream.specs.Digests.{after_byte}
use Rattle.file_stream.proofs.Kept.{blank_settles, comment_settles, full_settles, keeps_first, keeps_one_more}
use Rattle.file_stream.proofs.digest.Digest.push.Goals as goal
use Rattle.file_stream.proofs.digest.Digest.push.Goals.{then-self-eq-MOST_KEPT-via-then-self-eq-MOST_KEPT}
use Rattle.file_stream.proofs.digest.Digest.push.Goals.{then-self-eq-MOST_KEPT-via-else-self-eq-MOST_KEPT+then-self-eq35}
use Rattle.file_stream.proofs.digest.Digest.push.Goals.{then-self-eq-MOST_KEPT-via-else-self-eq-MOST_KEPT+else-self-eq35+then-is_blank}

pub returns-then-not-is_blank : goal.returns-then-not-is_blank
returns-then-not-is_blank c =
    let kept = c.self.inside.kept in
    let zero : c.self.inside.count ≡ 0 = search (rules, arith) in
    let now : c.args.self.now ≡ [] = sym c.self.view_is ∙ ap (λ n. take n kept) zero in
    let some : 0 < length kept = search (rules, arith) in
    let dark : is_blank c.args.byte ≡ false = search rules in
    rw now (keeps_first kept c.args.byte some dark)

pub returns : goal.returns
returns c =
    let kept = c.self.inside.kept in let count = c.self.inside.count in let n = count - 1 in let b = c.args.byte in
    let size : length kept ≡ 7 = search (rules, arith) in
    let e : count ≡ suc n = search (rules, arith) in
    let full : suc n < 7 = search (rules, arith) in
    let first : (get_or kept 0 0 == 35) ≡ false = search (rules, arith) in
    let last : is_blank (get_or kept n 0) ≡ false = search (rules, arith) in
    let more = keeps_one_more kept n b size (omega arith) first last full in
    subst (λ k. take (k + 1) (set kept k b) ≡ after_byte (take k kept) b) (sym e) more ∙ ap (λ l. after_byte l b) c.self.view_is

pub returns-then-self-eq-MOST_KEPT : goal.returns-then-self-eq-MOST_KEPT
returns-then-self-eq-MOST_KEPT c =
    let kept = c.self.inside.kept in let count = c.self.inside.count in let n = count - 1 in let b = c.args.byte in
    let size : length kept ≡ 7 = search (rules, arith) in
    let e : count ≡ suc n = search (rules, arith) in
    let settles = λ (more : take (suc n) kept ≡ after_byte (take (suc n) kept) b).
    sym c.self.view_is ∙ (subst (λ k. take k kept ≡ after_byte (take k kept) b) (sym e) more ∙ ap (λ l. after_byte l b) c.self.view_is) in
    elim c.then-self-eq-MOST_KEPT.branch [
      | then-self-eq-MOST_KEPT-via-then-self-eq-MOST_KEPT w ↦ settles (full_settles kept n b size (search (rules, arith)))
      | then-self-eq-MOST_KEPT-via-else-self-eq-MOST_KEPT+then-self-eq35 w ↦ settles (comment_settles kept n b size (search (rules, arith)))
      | then-self-eq-MOST_KEPT-via-else-self-eq-MOST_KEPT+else-self-eq35+then-is_blank w ↦
          settles (blank_settles kept n b size (search (rules, arith)) (search (rules, arith)))
    ]
