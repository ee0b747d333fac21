-- The description that a seed makes: 256 points over 16 inputs, with the values of two outputs at them.
use Rattle.std.specs.Prelude.{ℕ, ◌+◌, ◌-◌, ◌*◌, ◌/◌, ◌%◌, ◌^◌, List, [], map, count_ones}
use Rattle.std.specs.List.{count_by, range_with_len}
use Rattle.lattice.specs.Family.{divides, numbers_below}
use Rattle.lattice.specs.declared.row.Row.{Row}
use Rattle.lattice.specs.declared.kind.Kind.TheVariants.{Fr}
use Rattle.pla_reader.specs.Reading.{Description}

-- the points of a seed are those of an arithmetic progression, by 2^16, whose step is odd
unfoldable pub point : ℕ → ℕ → ℕ
point seed k = ((2 * (seed % 32768) + 1) * k + seed / 32768 % 65536) % 65536

-- of the first so many pairs of neighbouring bits, bit i and bit i + 1, how many have both bits set
unfoldable pub pairs : ℕ → ℕ → ℕ
pairs v count = count_by (λ i. divides (3 * 2 ^ i) v) (numbers_below count)

-- the outputs that have the value 1 at a point, output j by the bit j - 1: the parities of its bits and of its pairs
unfoldable pub outputs_at : ℕ → ℕ
outputs_at v = count_ones v % 2 + 2 * (pairs v 15 % 2)

-- row k fixes all 16 inputs, and the outputs that it does not say to be 1 it says to be 0
unfoldable pub generated_row : ℕ → ℕ → Row
generated_row seed k = let v = point seed k in
    record { line = k + 1; care = 65535; value = v; on = outputs_at v; off = 3 - outputs_at v; dc = 0 }

-- the rows of a seed, so many of them
unfoldable pub generated_rows : ℕ → ℕ → List Row
generated_rows seed count = map (generated_row seed) (range_with_len 0 count)

-- the description of a seed
abbrev pub generated : ℕ → Description
generated seed = record
    { inputs = 16; outputs = 2; kind = Fr; rows = generated_rows seed 256; in_names = []; out_names = [] }
