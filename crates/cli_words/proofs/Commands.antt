-- What a crate with a declared command of its own needs of what a parse of it finds, and of what it makes of words.
-- what is asked of the declared command, and the same wherever its names lie
pub use Rattle.cli_words.proofs.NamesMoved.{IsDeclared}
-- what is asked of the rule of an argument, and that a parse finds the argument's value
pub use Rattle.cli_words.proofs.EachFound.{IsRuleOfOne, mode_found, number_found}
-- that words are refused and taken as the definition says, and what the getters give
pub use Rattle.cli_words.proofs.Taken.{first_is, is_refused, is_taken, number_in}
