use Rattle.std.proofs.Common.{◌≡◌, true, false, [], ◌∷◌, ◌++◌, sym, ◌∙◌, subst, arith, rules}
use Rattle.std.specs.Prelude.{◌==◌}
use Rattle.file_stream.specs.Files.{closes, says, IsFirstFile}
use Rattle.file_stream.specs.Digests.{IsShort, empty}
use Rattle.file_stream.proofs.Begun.{begun_byte, begun_empty, begun_ends, begun_line}
use Rattle.file_stream.proofs.Digests.{stands_after, stands_at, Stands-nothing}
use Rattle.lattice.proofs.Polynomials.{any_push}
use Rattle.file_stream.proofs.cutter.Cutter.feed.Goals as goal

pub returns-then-byte-ne10-clause-fed : goal.returns-then-byte-ne10-clause-fed
returns-then-byte-ne10-clause-fed c file h =
    let b = c.args.byte in
    let ne : (b == 10) ≡ false = search (rules, arith) in
    let after = stands_after c.args.self.now.digest h.line b h.short h.stands in
    record {
      front = h.front;
      line = h.line ++ b ∷ [];
      begun = begun_byte file h.front h.line b ne h.begun;
      short = search (rules, after);
      stands = search (rules, after);
      said = c.keep.ensures.same.0 ∙ h.said;
      kept = c.in_ok-keep.ensures.kept file h.kept;
    }

pub returns-then-not-closes-clause-fed : goal.returns-then-not-closes-clause-fed
returns-then-not-closes-clause-fed c file h =
    let e : c.args.byte ≡ 10 = search (rules, arith) in
    let digest = c.args.self.now.digest in
    let same : c.keep.new.self.digest ≡ digest = c.keep.ensures.same.1 in
    let at = stands_at digest h.line h.stands in
    let closed = subst (λ d. IsShort d → c.closes-closes.result ≡ closes (d ++ 10 ∷ [])) same c.closes-closes.ensures h.short in
    let now : c.closes-closes.result ≡ false = search rules in
    let told = subst (λ d. IsShort d → c.says-says.result ≡ says (d ++ 10 ∷ [])) same c.says-says.ensures h.short in
    let any = any_push says h.front (h.line ++ 10 ∷ []) in
    record {
      front = h.front ++ (h.line ++ 10 ∷ []) ∷ [];
      line = [];
      begun = rw e (begun_line file h.front h.line h.begun (sym at.0 ∙ (sym closed ∙ now)));
      short = rw c.new-self.ensures empty;
      stands = rw c.new-self.ensures Stands-nothing;
      said = search (rules, any, at, told, h.said);
      kept = c.in_ok-keep.ensures.kept file h.kept;
    }

pub returns-clause-fed : goal.returns-clause-fed
returns-clause-fed c file h =
    let b = c.args.byte in
    let e : b ≡ 10 = search (rules, arith) in
    let digest = c.args.self.now.digest in
    let at = stands_at digest h.line h.stands in
    let closed = subst (λ d. IsShort d
    → c.closes-closes.result ≡ closes (d ++ 10 ∷ [])) c.keep.ensures.same.1 c.closes-closes.ensures h.short in
    let now : c.closes-closes.result ≡ true = search rules in (
      c.take_file.ensures.piece (file ++ b ∷ []) (c.in_ok-keep.ensures.kept file h.kept),
      subst (λ n. IsFirstFile (file ++ n ∷ [])) (sym e) (begun_ends file h.front h.line h.begun (sym at.0 ∙ (sym closed ∙ now))),
      record {
        front = [];
        line = [];
        begun = begun_empty;
        short = rw (c.take_file.ensures.same, c.new-self.ensures) empty;
        stands = rw (c.take_file.ensures.same, c.new-self.ensures) Stands-nothing;
        said = c.take_file.ensures.silent;
        kept = c.take_file.ensures.next;
      },
    )
