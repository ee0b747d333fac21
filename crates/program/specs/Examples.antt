-- Descriptions by which programs show that something is due.
use Rattle.std.specs.Prelude.{ℕ, List, codes}

-- a file of two points over two inputs
abbrev pub two_points : List ℕ
two_points = codes ".i 2\n.o 1\n.ilb a b\n.ob f\n.type fr\n11 1\n00 0\n.e\n"
