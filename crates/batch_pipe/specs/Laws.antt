-- Laws of what is due. The functions of src/laws.rt have them as their contracts.
use Rattle.std.specs.Prelude.{◌++◌, codes}
use Rattle.lattice.specs.declared.kind.Mode.TheVariants.{Anf}
use Rattle.interp_run.specs.Laws.{usual_job}
use Rattle.program.specs.Duties.{done}
use Rattle.program.specs.Examples.{two_points}
use Rattle.batch_pipe.specs.Batches.{IsDue}

-- what is due for a stream in which a file stands twice
abbrev pub DueForTwoFiles : Type 0
DueForTwoFiles = IsDue (usual_job Anf) (two_points ++ two_points) (done (codes "file 1 0\nf = b\nfile 2 0\nf = b\n"))
