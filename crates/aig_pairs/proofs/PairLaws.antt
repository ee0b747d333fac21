-- For callers: what bytes say as two circuits, and how circuits match.
-- Bytes are read as one pair at most, or refused for one cause.
pub use Rattle.aig_pairs.proofs.Parts.{one_pair}
-- A place that parts two circuits is one of the bytes.
pub use Rattle.aig_pairs.proofs.Parts.{within}
-- Nothing parts them below a place, one place after the other.
pub use Rattle.aig_pairs.proofs.Parts.{not_begun, one_more}
-- Two circuits are matched in one way at most, or for one cause in none.
pub use Rattle.aig_pairs.proofs.Matched.{one_match}
