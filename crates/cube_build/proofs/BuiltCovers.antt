-- A cover whose cubes are built one after the other, each when it is united.
use Rattle.std.proofs.Common.{◌≡◌, ℕ, ◌+◌, ◌-◌, ◌^◌, ◌<◌, true, List, length, take, drop, get_or, refl, sym, ◌∙◌, subst, Ok}
use Rattle.lattice.specs.Words.{divides, union_of, cube, rows_with, cover_list, Covers, working_set}
use Rattle.lattice.specs.declared.row.Row.{Row}
use Rattle.lattice.proofs.Diagrams.{covers_family}
use Rattle.node_store.specs.Stores.{State, family, Denotes, IsSound, IsPlanned, Builds}
use Rattle.node_store.specs.declared.store.Handle.{Handle}
use Rattle.node_store.proofs.StoreLaws.{Grows-trans}
use Rattle.cube_build.specs.PointSets.{mask_of}
use Rattle.cube_build.specs.declared.covers.PointSet.{PointSet}
use Rattle.cube_build.proofs.CoverLemmas.{GivesRows, cover_next, listed, no_row, rows_with-more, rows_with-rest, union_planned}

-- a turn for a row of the set: s is the state before the loop, t the one after i rows, u the one after the row's cube
module _ (s t : State) (rows : List Row) (set : PointSet) (output i : ℕ) (points : Handle)
    (before : GivesRows s t points (rows_with (mask_of set) output (take i rows))) (less : i < length rows)
    (bit : divides (2 ^ (output - 1)) (mask_of set (get_or rows i no_row)) ≡ true)
    (planned : Covers s.plan (working_set s.vars (cover_list s.vars (rows_with (mask_of set) output rows)))) where
  pub cube_planned : IsPlanned t (cube t.vars (get_or rows i no_row))
  cube_planned = rw (before.grows.plan, before.grows.vars)
      (covers_family s.vars s.plan (cover_list s.vars (rows_with (mask_of set) output rows)) (cube s.vars (get_or rows i no_row)) planned
      (listed s.vars rows i less (mask_of set) output bit))

  module _ (u : State) (here : Handle) (ok : IsSound u) (built : Builds t u (Ok here) (cube t.vars (get_or rows i no_row))) where
    still : GivesRows s u points (rows_with (mask_of set) output (take i rows))
    still = record {
      grows = Grows-trans s t u before.grows built.grows;
      ok = built.grows.known points.0 _ before.ok;
      held = λ f has. built.grows.held f (before.held f has);
      quiet = built.quiet ∙ before.quiet;
      full = tt;
    }

    here_is : Denotes u here (cube s.vars (get_or rows i no_row))
    here_is = rw before.grows.vars at built.ok

    pub unions_planned : IsPlanned u (union_of u.vars (family u points) (family u here))
    unions_planned =
        union_planned s u s.vars (rows_with (mask_of set) output (take i rows)) (rows_with (mask_of set) output (drop (i + 1) rows))
        (get_or rows i no_row) points here refl ok still here_is
        (subst (λ rs. Covers s.plan (working_set s.vars (cover_list s.vars rs))) (rows_with-rest (mask_of set) output rows i less bit)
        planned)

    pub built_next : (v : State) (new : Handle) → Builds u v (Ok new) (union_of u.vars (family u points) (family u here))
        → GivesRows s v new (rows_with (mask_of set) output (take (i + 1) rows))
    built_next v new is =
        subst (GivesRows s v new) (sym (rows_with-more (mask_of set) output rows i less bit))
        (cover_next s u s.vars (rows_with (mask_of set) output (take i rows)) (rows_with (mask_of set) output (drop (i + 1) rows))
        (get_or rows i no_row) points here refl ok still here_is v new is)
