use Rattle.std.specs.Char.{is_ascii_digit}
use Rattle.aig_reader.proofs.Numbers.{front_passes}
use Rattle.aig_reader.proofs.fields.number_at.Goals as goal

pub value_of-value-requires : goal.value_of-value-requires
value_of-value-requires c = rw (c.split_at.ensures.front, c.count_digits-count.ensures.count) (front_passes is_ascii_digit c.args.bytes.now)
