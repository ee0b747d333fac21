-- The names of what can be wrong with a file.
use Rattle.std.specs.Prelude.{ℕ, List, codes}
use Rattle.aig_reader.specs.declared.refusal.Why.{Why}
use Rattle.aig_reader.specs.declared.refusal.Why.TheVariants.{NoFormat, Truncated, BadByte, BadNumber, LongNumber, VariableCount}
use Rattle.aig_reader.specs.declared.refusal.Why.TheVariants.{TooManyInputs, TooManyOutputs, TooManyGates, Latch, Property, LiteralRange}
use Rattle.aig_reader.specs.declared.refusal.Why.TheVariants.{GateOrder, NoVariable, DefinedTwice, NotDefined, OnItself, BadSymbol, SymbolRange, Twice}

abbrev pub why_name : Why → List ℕ
why_name NoFormat = codes "NoFormat"
why_name Truncated = codes "Truncated"
why_name BadByte = codes "BadByte"
why_name BadNumber = codes "BadNumber"
why_name LongNumber = codes "LongNumber"
why_name VariableCount = codes "VariableCount"
why_name TooManyInputs = codes "TooManyInputs"
why_name TooManyOutputs = codes "TooManyOutputs"
why_name TooManyGates = codes "TooManyGates"
why_name Latch = codes "Latch"
why_name Property = codes "Property"
why_name LiteralRange = codes "LiteralRange"
why_name GateOrder = codes "GateOrder"
why_name NoVariable = codes "NoVariable"
why_name DefinedTwice = codes "DefinedTwice"
why_name NotDefined = codes "NotDefined"
why_name OnItself = codes "OnItself"
why_name BadSymbol = codes "BadSymbol"
why_name SymbolRange = codes "SymbolRange"
why_name Twice = codes "Twice"
