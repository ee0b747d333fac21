-- The search for the least clash, a row at a time.
use Rattle.std.proofs.Common.{◌≡◌, ℕ, ◌+◌, ◌-◌, ◌<◌, ◌≤◌, ◌⊎◌, Option, Some, None, List, [], ◌∷◌, ◌++◌, map, length, take, get_or, refl}
use Rattle.std.proofs.Common.{sym, ap, ◌∙◌, subst, arith, ⊎_elim}
use Rattle.std.specs.Option.{MatchOption}
use Rattle.std.specs.List.{All}
use Rattle.std.specs.List.Sorted.{IsStrictlyIncreasing}
use Rattle.std.proofs.lemmas.List.{take_more, take_all, get_or_default, get_or-map, get_or-take, length-map, length-take}
use Rattle.std.proofs.lemmas.List.Elements.{All-contains, Contains-append_left, Contains-append_right, Contains-append_cases}
use Rattle.std.proofs.lemmas.List.Kept.{AllPairs-from_increasing}
use Rattle.lattice.specs.declared.row.Row.{Row}
use Rattle.cube_sets.specs.declared.clash.Clash.{Clash}
use Rattle.cube_sets.specs.Clashes.{IsClashOf, IsAmong, IsNotAfter, AnswersUpTo}

-- the least of the clashes that were looked at, and how many outputs may still have a lesser one
pub record Best (outputs limit : ℕ) (holds : Clash → Type 0) (best : Option Clash) : Type 0 where
  pub limit_is : MatchOption best (limit ≡ outputs) (λ c. limit + 1 ≡ c.output)
  pub answers : AnswersUpTo outputs holds best

-- what a row's clashes are to be: at an output, and at the same output not before those of an earlier line
pub record IsSearched (holds : Row → Clash → Type 0) : Type 0 where
  pub first : (r : Row) (c : Clash) → holds r c → 1 ≤ c.output
  pub later : (r s : Row) (c d : Clash) → r.line < s.line → holds r c → holds s d → c.output ≡ d.output → IsNotAfter c d

pub with_on_row : (n : ℕ) (a : Row) → IsSearched (IsClashOf n a)
with_on_row n a = grind arith

pub with_all_rows : (n : ℕ) (rows : List Row) → IsSearched (λ a. IsAmong (IsClashOf n a) rows)
with_all_rows n rows = grind arith

output_not_after : (c d : Clash) → IsNotAfter c d → c.output ≤ d.output
output_not_after c d h = grind (arith, h)

-- ---- one row more

module _ (holds : Row → Clash → Type 0) (is : IsSearched holds) (outputs limit : ℕ) (rows : List Row) (r : Row)
    (before : All (λ s. s.line < r.line) rows) where
  abbrev more : List Row
  more = rows ++ r ∷ []

  old_or_new : (c : Clash) → IsAmong holds more c → IsAmong holds rows c ⊎ holds r c
  old_or_new c (s, among, h) = grind (arith, Contains-append_cases rows (r ∷ []) s among)

  old : (c : Clash) → IsAmong holds rows c → IsAmong holds more c
  old c (s, among, h) = (s, Contains-append_left rows (r ∷ []) s among, h)

  new : (c : Clash) → holds r c → IsAmong holds more c
  new c h = (r, Contains-append_right rows (r ∷ []) r (0, omega arith, refl), h)

  later : (c d : Clash) → IsAmong holds rows c → holds r d → c.output ≡ d.output → IsNotAfter c d
  later c d (s, among, h) i same = is.later s r c d (All-contains (λ s. s.line < r.line) rows s before among) h i same

  -- the row's clashes up to the limit are answered
  turn : (best answer : Option Clash) → Best outputs limit (IsAmong holds rows) best → AnswersUpTo limit (holds r) answer
      → MatchOption answer (Best outputs limit (IsAmong holds more) best) (λ c. Best outputs (c.output - 1) (IsAmong holds more) (Some c))
  turn None None so_far none = record {
    limit_is = so_far.limit_is;
    answers = λ c h. ⊎_elim (λ i. so_far.answers c (h.0, i))
        (λ i. none c (let e = so_far.limit_is in let l = h.0 in omega arith, i)) (old_or_new c h.1);
  }
  turn (Some b) None so_far none = record {
    limit_is = so_far.limit_is;
    answers = record {
      clash = (so_far.answers.clash.0, old b so_far.answers.clash.1);
      least = λ d h. grind (arith, old_or_new d h.1, so_far.answers.least d, none d, so_far.limit_is, later b d so_far.answers.clash.1);
    };
  }
  turn best (Some c) so_far found = record {
    limit_is = let first = is.first r c found.clash.1 in omega arith;
    answers = record {
      clash = (let l = found.clash.0 in let m = within best so_far in omega arith, new c found.clash.1);
      least = λ d h. grind (arith, old_or_new d h.1, earlier best so_far d, found.least d, found.clash.0);
    };
  }
    where
      within : (best : Option Clash) → Best outputs limit (IsAmong holds rows) best → limit ≤ outputs
      within None so_far = let e = so_far.limit_is in omega arith
      within (Some b) so_far = let e = so_far.limit_is in let l = so_far.answers.clash.0 in omega arith

      earlier : (best : Option Clash) → Best outputs limit (IsAmong holds rows) best → (d : Clash) → (d.output ≤ outputs)
          × IsAmong holds rows d
          → c.output < d.output
      earlier None so_far d i = absurd (so_far.answers d i)
      earlier (Some b) so_far d i =
          let e = so_far.limit_is in let l = output_not_after b d (so_far.answers.least d i) in
          let m = found.clash.0 in omega arith

lines_before : (rows : List Row) (j : ℕ) (b : Row) → IsStrictlyIncreasing (map (λ r. r.line) rows) → j < length rows → b ≡ get_or rows j b
    → All (λ r. r.line < b.line) (take j rows)
lines_before rows j b ascend less is k d k_less =
    let pair = AllPairs-from_increasing (map (λ r. r.line) rows) ascend k j d.line in
    grind (arith, get_or-map, get_or-take, length-map, length-take)

-- ---- the loop over the rows

module _ (holds : Row → Clash → Type 0) (outputs : ℕ) (rows : List Row) where
  -- the loop reads its row from the same list
  pub search_next : IsSearched holds → (limit : ℕ) (items : List Row) (j : ℕ) (d : Row) (best answer : Option Clash)
      → IsStrictlyIncreasing (map (λ r. r.line) rows) → items ≡ rows → j < length items
      → Best outputs limit (IsAmong holds (take j rows)) best → AnswersUpTo limit (holds (get_or items j d)) answer
      → MatchOption answer (Best outputs limit (IsAmong holds (take (j + 1) rows)) best)
      (λ c. Best outputs (c.output - 1) (IsAmong holds (take (j + 1) rows)) (Some c))
  search_next searched limit items j d best answer ascend same in_items so_far answers =
      let r = get_or items j d in let less : j < length rows = rw (← same) in_items in
      let is : r ≡ get_or rows j r = ap (λ rs. get_or rs j d) same ∙ get_or_default rows j d r less in
      let next : take (j + 1) rows ≡ take j rows ++ r ∷ [] = take_more rows j r less ∙ ap (λ x. take j rows ++ x ∷ []) (sym is) in
      rw next (turn holds searched outputs limit (take j rows) r (lines_before rows j r ascend less is) best answer so_far answers)

  pub search_end : (limit j : ℕ) (best : Option Clash) → length rows ≤ j → Best outputs limit (IsAmong holds (take j rows)) best
      → AnswersUpTo outputs (IsAmong holds rows) best
  search_end limit j best all so_far = subst (λ rs. AnswersUpTo outputs (IsAmong holds rs) best) (take_all j rows all) so_far.answers
