-- The names of what can be wrong with a description.
use Rattle.std.specs.Prelude.{ℕ, List, codes}
use Rattle.pla_reader.specs.declared.refusal.Why.{Why}
use Rattle.pla_reader.specs.declared.refusal.Why.TheVariants.{BadByte, BadNumber, SizeRange, Twice, TypeLate, BadType, NamesEarly}
use Rattle.pla_reader.specs.declared.refusal.Why.TheVariants.{NameCount, Unsupported, RowBeforeSize, RowLength, BadSymbol, TooManyRows}
use Rattle.pla_reader.specs.declared.refusal.Why.TheVariants.{NoSize}

abbrev pub why_name : Why → List ℕ
why_name BadByte = codes "BadByte"
why_name BadNumber = codes "BadNumber"
why_name SizeRange = codes "SizeRange"
why_name Twice = codes "Twice"
why_name TypeLate = codes "TypeLate"
why_name BadType = codes "BadType"
why_name NamesEarly = codes "NamesEarly"
why_name NameCount = codes "NameCount"
why_name Unsupported = codes "Unsupported"
why_name RowBeforeSize = codes "RowBeforeSize"
why_name RowLength = codes "RowLength"
why_name BadSymbol = codes "BadSymbol"
why_name TooManyRows = codes "TooManyRows"
why_name NoSize = codes "NoSize"
