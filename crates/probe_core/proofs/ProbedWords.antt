-- What callers use of words.
-- The node of a word.
pub use Rattle.probe_core.proofs.NodeLemmas.{node_of}
-- It packs to the word.
pub use Rattle.probe_core.proofs.NodeLemmas.{packed}
