use Rattle.std.proofs.Common.{◌≡◌, ◌++◌, ◌∷◌, ℕ, List, [], codes, refl}
use Rattle.std.specs.Fmt.{digits}
use Rattle.file_batch.specs.Blocks.{IsBlock, header}
use Rattle.pla_reader.specs.Lines.{content, words_of}
use Rattle.lattice.specs.declared.kind.Mode.TheVariants.{Anf}
use Rattle.interp_run.specs.Laws.{usual_job}
use Rattle.program.specs.Examples.{two_points}
use Rattle.batch_pipe.specs.Batches.{IsAnsweredAlone, blocks}
use Rattle.batch_pipe.proofs.laws.due_for_two_files.Goals as goal

pub returns : goal.returns
unfolding content words_of digits
returns c = blocks _ (first, second, block 1 refl, (second, [], block 2 refl, refl, refl), refl)
  where
    first : List ℕ
    first = codes "file 1 0\nf = b\n"

    second : List ℕ
    second = codes "file 2 0\nf = b\n"

    alone : IsAnsweredAlone (usual_job Anf) two_points 0 (codes "f = b\n" ∷ [])
    alone = record { due = _; is_due = c.due_for_two_points.ensures.0; status_is = refl; pages_are = refl }

    block : (number : ℕ) {text : List ℕ} → text ≡ header number 0 ++ codes "f = b\n"
        → IsBlock (IsAnsweredAlone (usual_job Anf)) number two_points text
    block number is = record { status = 0; pages = codes "f = b\n" ∷ []; answered = alone; text_is = is }
