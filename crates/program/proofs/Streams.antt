-- What a run writes to its sinks, and what it reads of its source.
use Rattle.std.proofs.Common.{◌≡◌, ◌∙◌, ℕ, ◌+◌, ◌<◌, ◌≤◌, List, [], length, length-take, min, take, take_all, append-nil, ap, refl}
use Rattle.std.proofs.Common.{sym, arith, unwrap_or, Option, Some, None}
use Rattle.std.specs.Io.KnownBytes.{Appends, Keeps}

-- ---- what was written

-- What a sink holds it keeps where nothing is written.
pub keeps_same : (old : Option (List ℕ)) → Keeps old old
keeps_same None = tt
keeps_same (Some xs) = refl

-- It then gains the empty text.
pub appends_nothing : (old : Option (List ℕ)) → Appends old old []
appends_nothing None = tt
appends_nothing (Some xs) = sym (append-nil xs)

-- A sink that gains the empty text keeps what it holds.
pub keeps_nothing : (old new : Option (List ℕ)) → Appends old new [] → Keeps old new
keeps_nothing None new a = tt
keeps_nothing (Some xs) None a = absurd a
keeps_nothing (Some xs) (Some ys) a = a ∙ append-nil xs

-- ---- what was read

-- the bytes that were read begin those that the source told, or else themselves
read_is : (left : Option (List ℕ)) (read : List ℕ) (most : ℕ) → ((xs : List ℕ) → left ≡ Some xs → read ≡ take most xs)
    → length read ≤ most → read ≡ take most (unwrap_or left read)
read_is None read most told few = sym (take_all most read few)
read_is (Some xs) read most told few = told xs refl

-- There are bytes that a source has: those that it told, where it told them.
pub bytes_of_source : (left : Option (List ℕ)) → (bytes : List ℕ) × ((all : List ℕ) → left ≡ Some all → bytes ≡ all)
bytes_of_source left = (unwrap_or left [], λ all e. ap (λ told. unwrap_or told []) e)

-- And such bytes that begin with those that were read.
pub bytes_behind : (left : Option (List ℕ)) (read : List ℕ) (most : ℕ) → ((xs : List ℕ) → left ≡ Some xs → read ≡ take most xs)
    → length read ≤ most → (bytes : List ℕ) × ((all : List ℕ) → left ≡ Some all → bytes ≡ all) × (read ≡ take most bytes)
bytes_behind left read most told few =
    (unwrap_or left read, λ all e. ap (λ told. unwrap_or told read) e, read_is left read most told few)

-- What was read up to one byte more than a limit is within it only where it is all bytes,
pub read_all : (limit : ℕ) (bytes read : List ℕ) → read ≡ take (limit + 1) bytes → length read ≤ limit → read ≡ bytes
read_all limit bytes read is few =
    let size : length (take (limit + 1) bytes) ≡ min (limit + 1) (length bytes) = length-take (limit + 1) bytes in
    let same : length read ≡ length (take (limit + 1) bytes) = ap length is in
    is ∙ take_all (limit + 1) bytes (omega (arith, size, same, few))

-- and over it only where all bytes are.
pub read_over : (limit : ℕ) (bytes read : List ℕ) → read ≡ take (limit + 1) bytes → limit < length read → limit < length bytes
read_over limit bytes read is long =
    let size : length (take (limit + 1) bytes) ≡ min (limit + 1) (length bytes) = length-take (limit + 1) bytes in
    let same : length read ≡ length (take (limit + 1) bytes) = ap length is in
    omega (arith, size, same, long)
