use Rattle.std.proofs.Common.{◌≡◌, min, take}
use Rattle.std.specs.Str.Parse.{digits_value}
use Rattle.aig_reader.specs.declared.fields.TheConstants.{NUMBER_BOUND}
use Rattle.aig_reader.proofs.fields.value_of.Given as goal

abbrev pub invariant-loop-digit : goal.invariant-loop-digit
invariant-loop-digit l = l.value ≡ min NUMBER_BOUND (digits_value 10 (take l.digit-index l.digits))
