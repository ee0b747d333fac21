-- The files that are done, and the bytes that are left, when more was read.
use Rattle.std.proofs.Common.{◌≡◌, ℕ, List, [], ◌∷◌, ◌++◌, sym, ap, ◌∙◌, append_assoc, append-nil}
use Rattle.file_stream.specs.Files.{files_of, IsCut, IsFirstFile}

-- more was read
pub cut_more : (read : List ℕ) (done : List (List ℕ)) (rest x : List ℕ) → IsCut read done rest → IsCut (read ++ x) done (rest ++ x)
cut_more read done rest x h more =
    ap files_of (append_assoc read x more) ∙ (h (x ++ more) ∙ ap (λ t. done ++ files_of t) (sym (append_assoc rest x more)))

-- what was left ends a file with the bytes that follow
pub cut_file : (read : List ℕ) (done : List (List ℕ)) (rest x : List ℕ) → IsCut read done rest → IsFirstFile (rest ++ x)
    → IsCut (read ++ x) (done ++ (rest ++ x) ∷ []) []
cut_file read done rest x h first more =
    cut_more read done rest x h more ∙ (ap (λ t. done ++ t) (first more) ∙ sym (append_assoc done ((rest ++ x) ∷ []) (files_of more)))

-- at the end of the stream
pub cut_end : (read : List ℕ) (done : List (List ℕ)) (rest : List ℕ) → IsCut read done rest → files_of read ≡ done ++ files_of rest
cut_end read done rest h = ap files_of (sym (append-nil read)) ∙ (h [] ∙ ap (λ t. done ++ files_of t) (append-nil rest))
