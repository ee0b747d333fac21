-- Why the terms of families are not given that were not all found, or not listed.
use Rattle.node_store.specs.declared.refusal.SolveRefusal.{SolveRefusal}
use Rattle.node_store.specs.declared.refusal.SolveRefusal.TheVariants as unfound
use Rattle.set_algebra.specs.declared.counted.WalkRefusal.{WalkRefusal}
use Rattle.set_algebra.specs.declared.counted.WalkRefusal.TheVariants as unlisted
use Rattle.set_algebra.specs.declared.refusal.TermsRefusal.{TermsRefusal}
use Rattle.set_algebra.specs.declared.refusal.TermsRefusal.TheVariants.{Full, Memory, Over}

abbrev pub unfound_refusal : SolveRefusal → TermsRefusal
unfound_refusal unfound.Full = Full
unfound_refusal unfound.Memory = Memory

abbrev pub unlisted_refusal : WalkRefusal → TermsRefusal
unlisted_refusal unlisted.Over = Over
unlisted_refusal unlisted.Memory = Memory
