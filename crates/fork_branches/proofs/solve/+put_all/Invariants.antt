use Rattle.fork_branches.specs.Work.{size_of}
use Rattle.fork_branches.proofs.solve.+put_all.Given as goal

abbrev pub decreases-put_all : goal.decreases-put_all
decreases-put_all l = size_of l.crew.now
