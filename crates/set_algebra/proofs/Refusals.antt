-- Refusals that are passed on as another.
use Rattle.std.proofs.Common.{◌≡◌, Result, Ok, Err, refl, arith}
use Rattle.std.specs.Result.{IsErrAnd, IsErrOf}
use Rattle.set_algebra.specs.Refusals.{unlisted_refusal}
use Rattle.set_algebra.specs.declared.counted.WalkRefusal.{WalkRefusal}
use Rattle.set_algebra.specs.declared.counted.WalkRefusal.TheVariants as unlisted
use Rattle.set_algebra.specs.declared.refusal.TermsRefusal.{TermsRefusal}
use Rattle.set_algebra.specs.declared.refusal.TermsRefusal.TheVariants.{Over}

-- a walk that ended in a refusal which is passed on as one over the limit was over its limit
pub walk_was_over : {T : Type 0} (r : Result T TermsRefusal) (w : WalkRefusal) → IsErrAnd r (λ e. e ≡ unlisted_refusal w)
    → IsErrOf r Over → w ≡ unlisted.Over
walk_was_over r unlisted.Over passed is = refl
walk_was_over (Ok t) unlisted.Memory passed is = cc
walk_was_over (Err e) unlisted.Memory passed is = grind arith
