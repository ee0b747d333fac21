-- The lines that are printed of answers and of the elements of a basis.
use Rattle.std.proofs.Common.{◌≡◌, ◌∙◌, ℕ, zero, suc, ◌+◌, ◌<◌, List, [], ◌∷◌, ◌++◌, length, get_or, take, map, reverse, add-one, ap, arith}
use Rattle.std.proofs.Common.{refl, rules, subst, sym}
use Rattle.std.specs.Prelude.{zip}
use Rattle.std.specs.List.{All}
use Rattle.std.proofs.lemmas.List.{get_or-map, length-map}
use Rattle.std.proofs.lemmas.List.Elements.{All-cons, All-head, All-map, All-nil, All-tail}
use Rattle.lattice.specs.Words.{Family, IsFamily}
use Rattle.anf_printer.specs.Text.{IsLineOver, shown_line}
use Rattle.anf_printer.specs.declared.lines.Left.{Left}
use Rattle.anf_printer.specs.declared.lines.Left.TheVariants.{Output, Zero}
use Rattle.anf_printer.specs.declared.lines.Line.{Line}
use Rattle.nf_run.specs.Queries.{IsQueryOver}
use Rattle.nf_run.specs.declared.queries.Query.{Query}

-- the lines of answers, by their terms
abbrev pub lines_for : List Query → List (List ℕ) → List (Left × Family)
lines_for queries answers = zip (map (λ q. Output q.output) queries) (map reverse answers)

-- of one more answer
pub lines_more : (queries : List Query) (answers : List (List ℕ)) (i j : ℕ) (q : Query) (terms : List ℕ) → i < length queries
    → i < length answers → q ≡ get_or queries i q → terms ≡ get_or answers i terms → j ≡ i + 1
    → lines_for (take j queries) (take j answers) ≡ lines_for (take i queries) (take i answers) ++ (Output q.output, reverse terms) ∷ []
lines_more [] answers i j q terms less short is same next = absurd (omega arith)
lines_more (p ∷ queries) [] i j q terms less short is same next = absurd (omega arith)
lines_more (p ∷ queries) (a ∷ answers) zero j q terms less short is same next = rw next cc
lines_more (p ∷ queries) (a ∷ answers) (suc i) j q terms less short is same next =
    let so_far = lines_more queries answers i (i + 1) q terms (omega arith) (omega arith) is same refl in
    rw next (search (rules, arith, add-one, so_far))

-- lines that are printed are over so many inputs and outputs
pub lines_over : (inputs outputs : ℕ) (lines : List Line) (shown : List (Left × Family)) → map shown_line lines ≡ shown
    → All (IsLineOver inputs outputs) shown → All (λ l. IsLineOver inputs outputs (shown_line l)) lines
lines_over inputs outputs lines shown is over k d less =
    subst (IsLineOver inputs outputs) (ap (λ ls. get_or ls k (shown_line d)) (sym is) ∙ get_or-map shown_line lines k d (shown_line d) less)
    (over k (shown_line d) (subst (λ ls. k < length ls) is (rw (length-map lines shown_line) less)))

-- those of answers
pub answer_lines_over : (inputs outputs : ℕ) (queries : List Query) (answers : List (List ℕ)) → All (IsQueryOver inputs outputs) queries
    → All (IsFamily inputs) (map reverse answers) → All (IsLineOver inputs outputs) (lines_for queries answers)
answer_lines_over inputs outputs [] answers over families = All-nil (IsLineOver inputs outputs)
answer_lines_over inputs outputs (q ∷ queries) [] over families = All-nil (IsLineOver inputs outputs)
answer_lines_over inputs outputs (q ∷ queries) (a ∷ answers) over families =
    let query = All-head (IsQueryOver inputs outputs) q queries over in
    All-cons (IsLineOver inputs outputs) (Output q.output, reverse a) (lines_for queries answers)
    (record { left = (query.first, query.last); polynomial = All-head (IsFamily inputs) (reverse a) (map reverse answers) families })
    (answer_lines_over inputs outputs queries answers (All-tail (IsQueryOver inputs outputs) q queries over)
    (All-tail (IsFamily inputs) (reverse a) (map reverse answers) families))

-- those of elements
pub basis_lines_over : (inputs outputs : ℕ) (basis : List Family) → All (IsFamily inputs) basis
    → All (IsLineOver inputs outputs) (map (λ e. (Zero, e)) basis)
basis_lines_over inputs outputs basis families =
    All-map (IsLineOver inputs outputs) (λ e. (Zero, e)) basis (λ k d less. record { left = tt; polynomial = families k d less })
