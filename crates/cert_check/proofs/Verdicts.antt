-- What callers use of the verdicts on answers.
-- An answer that was read is one by polynomials over the inputs.
pub use Rattle.cert_check.proofs.LinesRead.{answer_fits}
-- The verdict is yes exactly where the answer is right.
pub use Rattle.cert_check.proofs.RightAnswers.{yes_where_right}
-- Terms in order are a polynomial over the inputs.
pub use Rattle.cert_check.proofs.LinesRead.{ordered_family}
-- The place of a name that is one of the names is one of theirs.
pub use Rattle.cert_check.proofs.LinesRead.{known_place}
-- A text is empty where its length is 0.
pub use Rattle.cert_check.proofs.LinesRead.{empty_is}
