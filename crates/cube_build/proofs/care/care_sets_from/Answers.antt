use Rattle.cube_build.proofs.CareLemmas.{f_given, f_planned, fd_given, fd_planned, fdr_given, fdr_planned, fr_given}
use Rattle.cube_build.proofs.care.care_sets_from.Goals as goal

pub sets_of_f-requires-clause-planned : goal.sets_of_f-requires-clause-planned
sets_of_f-requires-clause-planned g c = f_planned (g.S.Store.state c.args.store.now) c.args.covers.now (rw c.in-F.is at c.requires.covers)

pub sets_of_fd-requires-clause-planned : goal.sets_of_fd-requires-clause-planned
sets_of_fd-requires-clause-planned g c =
    fd_planned (g.S.Store.state c.args.store.now) c.args.covers.now (rw c.in-Fd.is at c.requires.covers)

pub sets_of_fdr-requires-clause-planned : goal.sets_of_fdr-requires-clause-planned
sets_of_fdr-requires-clause-planned g c =
    fdr_planned (g.S.Store.state c.args.store.now) c.args.covers.now (rw c.in-Fdr.is at c.requires.covers)

pub returns-in-F : goal.returns-in-F
returns-in-F g c = rw c.in-F.is (f_given _ c.args.covers.now _ _ c.sets_of_f.ensures)

pub returns-in-Fd : goal.returns-in-Fd
returns-in-Fd g c = rw c.in-Fd.is (fd_given _ c.args.covers.now _ _ c.sets_of_fd.ensures)

pub returns-in-Fdr : goal.returns-in-Fdr
returns-in-Fdr g c = rw c.in-Fdr.is (fdr_given _ c.args.covers.now _ _ c.sets_of_fdr.ensures)

pub returns-in-Fr : goal.returns-in-Fr
returns-in-Fr g c = rw c.in-Fr.is (fr_given (g.S.Store.state c.args.store.now) c.args.covers.now)
