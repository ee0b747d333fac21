use Rattle.pla_reader.proofs.Orders.{arranged_by_file}
use Rattle.pla_reader.proofs.laws.file_order_keeps_rows.Goals as goal

pub returns : goal.returns
returns c = arranged_by_file
