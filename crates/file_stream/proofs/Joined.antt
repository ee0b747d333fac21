-- The files, one behind the other, are the front of the stream.
use Rattle.std.proofs.Common.{ℕ, List, [], ◌∷◌, ◌++◌, refl, sym, ap, ◌∙◌, append_assoc, append-nil, inl, inr}
use Rattle.std.specs.List.{concat, list_any}
use Rattle.std.proofs.lemmas.Bool.{cases_Bool}
use Rattle.std.proofs.lemmas.List.Folds.{concat-append}
use Rattle.pla_reader.specs.Lines.{lines_of, content, words_of}
use Rattle.file_stream.specs.Files.{closes, says, files_from}
use Rattle.file_stream.specs.Laws.{AreInFiles, FilesAreTheStream, WorkedStreams}

joined : (front lines : List (List ℕ)) → AreInFiles (files_from front lines) (front ++ lines)
joined front [] = elim (cases_Bool (list_any says front)) [
  | inl e ↦ rw e (record { within = front; behind = []; all = refl; joined = append-nil (concat front); silent = refl })
  | inr e ↦ rw e (record { within = []; behind = front; all = append-nil front; joined = refl; silent = e })
]
joined front (line ∷ lines) = elim (cases_Bool (closes line)) [
  | inl e ↦
      let j = joined [] lines in let file = front ++ line ∷ [] in
      rw e (record {
        within = file ++ j.within;
        behind = j.behind;
        all = sym (append_assoc front (line ∷ []) lines) ∙ (ap (λ t. file ++ t) j.all ∙ sym (append_assoc file j.within j.behind));
        joined = ap (λ t. concat file ++ t) j.joined ∙ sym (concat-append file j.within);
        silent = j.silent;
      })
  | inr e ↦ let j = joined (front ++ line ∷ []) lines in
      rw e (record {
        within = j.within;
        behind = j.behind;
        all = sym (append_assoc front (line ∷ []) lines)
            ∙ j.all;
        joined = j.joined;
        silent = j.silent;
      })
]

pub files_are_the_stream : FilesAreTheStream
files_are_the_stream bytes = joined [] (lines_of bytes)

pub worked_streams : WorkedStreams
unfolding content words_of
worked_streams = (refl, refl, refl)
