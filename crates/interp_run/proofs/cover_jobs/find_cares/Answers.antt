use Rattle.std.proofs.Common.{ap, length, ◌∙◌}
use Rattle.std.proofs.lemmas.Slice.Zip.{AllZip-long}
use Rattle.node_store.proofs.StoreLaws.{Grows-trans}
use Rattle.computed_cache.specs.Cached.{cached_state}
use Rattle.pla_reader.specs.Reading.{description}
use Rattle.interp_run.proofs.TaskJobs.{may_cover}
use Rattle.interp_run.proofs.cover_jobs.find_cares.Goals as goal

pub invariant_of-jobs : goal.invariant_of-jobs
invariant_of-jobs g c = record { many = ap length c.deref.ensures.value ∙ AllZip-long _ _ _ c.in_ok-cubes.ensures.cubes }

pub all-requires-clause-may : goal.all-requires-clause-may
all-requires-clause-may g c κs within =
    let grows = c.in_ok-cubes.ensures.grows in
    may_cover (description c.args.pla.now) (cached_state c.row_cubes.new.store) c.deref.result.now c.args.pla.now.fits.few_outputs
    (grows.vars ∙ c.requires.vars) (rw c.deref.ensures.value c.in_ok-cubes.ensures.cubes) (rw grows.plan c.requires.planned)

pub returns-in_err-covers-clause-grows : goal.returns-in_err-covers-clause-grows
returns-in_err-covers-clause-grows g c = Grows-trans _ _ _ c.in_ok-cubes.ensures.grows c.in_err-covers.ensures.grows

pub returns-clause-grows : goal.returns-clause-grows
returns-clause-grows g c =
    Grows-trans _ _ _ c.in_ok-cubes.ensures.grows (Grows-trans _ _ _ c.in_ok-covers.ensures.grows c.build_cares.ensures.grows)
