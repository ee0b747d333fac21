use Rattle.std.proofs.Common.{◌≤◌, ◌∙◌, ap, arith, inl, inr, not, ⊎_elim}
use Rattle.interp_run.specs.Due.{is_gen, least_jobs}
use Rattle.interp_run.proofs.Due.{nobody_in, nobody_told, ran_counts}
use Rattle.interp_run.proofs.top.run.Goals as goal

pub returns : goal.returns
returns g c =
    let e = c.run.ensures in let status = e.ran.1 in let ended = e.ran.2.ended in
    record {
      headline = λ job bytes due asked given text is calm quiet. e.headline job bytes due asked
          (⊎_elim (λ told. inl told) (λ gen. inr (ap (λ m. not (is_gen m)) gen)) given) is text calm quiet;
      ran = (e.ran.0, status, ran_counts (g.P.Pool.done c.run.new.program.pool.now) _ (grind arith) e.ran.2, e.ran.3);
      usage = e.usage;
      taken = e.taken;
      read = e.read;
      write = e.write;
      jobs = λ job bytes due asked given is other whole.
          let found : least_jobs job.mode due.notes ≤ g.P.Pool.done c.run.new.program.pool.now = (e.earned job bytes due asked
          (⊎_elim (λ told. inl told) (λ gen. inr (ap (λ m. not (is_gen m)) gen)) given) is
          (⊎_elim (λ zero. inl (omega (arith, zero))) (λ nine. inr nine) whole)).enough other in
          grind (arith, found);
      nothing = e.nothing;
      nobody = λ zero nine. nobody_told ended (λ is. zero (status ∙ is)) (λ is. nine (status ∙ is));
      checks = λ job asked mode. nobody_in job asked mode ended;
      few = e.few;
      untouched = e.untouched;
      generated = λ job asked gen. e.unread job asked (ap (λ m. not (is_gen m)) gen);
    }
