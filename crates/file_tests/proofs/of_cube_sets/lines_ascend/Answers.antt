use Rattle.std.proofs.Common.{◌≡◌, ℕ, ◌+◌, ◌-◌, ◌<◌, ◌≤◌, List, map, get_or, length, ap, ◌∙◌, arith, ⊎_elim}
use Rattle.std.proofs.lemmas.Bool.{cases_lt}
use Rattle.std.proofs.lemmas.List.{get_or-map}
use Rattle.lattice.specs.declared.row.Row.{Row}
use Rattle.file_tests.proofs.of_cube_sets.lines_ascend.Goals as goal
use Rattle.file_tests.proofs.of_cube_sets.lines_ascend.Goals.{else-i-gt0-via-then-i-gt0+else-rows-i, else-i-gt0-via-else-i-gt0}

next_line : (rows : List Row) (i k : ℕ) (d : Row) → i < length rows → k + 1 ≡ i → (get_or rows (i - 1) d).line < (get_or rows i d).line
    → get_or (map (λ r. r.line) rows) k 0 < get_or (map (λ r. r.line) rows) (k + 1) 0
next_line rows i k d less next ascends =
    let this : k ≡ i - 1 = omega arith in
    let at_k : get_or (map (λ r. r.line) rows) k 0 ≡ (get_or rows (i - 1) d).line = get_or-map (λ r. r.line) rows k d 0 (omega arith)
    ∙ ap (λ j. (get_or rows j d).line) this in
    let at_next : get_or (map (λ r. r.line) rows) (k + 1) 0 ≡ (get_or rows i d).line = get_or-map (λ r. r.line) rows (k + 1) d 0
    (omega arith) ∙ ap (λ j. (get_or rows j d).line) next in
    omega arith

pub loop-i-preserved : goal.loop-i-preserved
loop-i-preserved c k less = elim c.else-i-gt0.branch [
  | else-i-gt0-via-then-i-gt0+else-rows-i w ↦ ⊎_elim
      (λ (before : k + 1 < c.loop-i.i). c.loop-i.invariant k before)
      (λ (last : c.loop-i.i ≤ k + 1). next_line c.args.rows.now c.loop-i.i k
      (record { line = 0; care = 0; value = 0; on = 0; off = 0; dc = 0 }) c.loop-i-test.true (omega arith) w.if-rows-i.false)
      (cases_lt (k + 1) c.loop-i.i)
  | else-i-gt0-via-else-i-gt0 w ↦ (let none = w.if-i-gt0.false in omega arith)
]
