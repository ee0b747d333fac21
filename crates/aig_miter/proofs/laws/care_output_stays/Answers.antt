use Rattle.aig_miter.proofs.Miters.{care_output_stays}
use Rattle.aig_miter.proofs.laws.care_output_stays.Goals as goal

pub returns : goal.returns
returns c = care_output_stays
