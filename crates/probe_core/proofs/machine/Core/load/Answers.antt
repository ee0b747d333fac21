use Rattle.std.proofs.Common.{arith, pow_mono}
use Rattle.probe_core.proofs.machine.Core.load.Goals as goal

pub meet-requires : goal.meet-requires
meet-requires c = grind (arith, pow_mono)
