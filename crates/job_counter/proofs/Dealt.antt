-- What a drawer has taken of the numbers below a count.
use Rattle.std.proofs.Common.{◌≡◌, ℕ, ◌+◌, ◌<◌, ◌≤◌, ◌++◌, ◌∷◌, [], List, length, ap, sym, ◌∙◌, arith}
use Rattle.std.specs.Prelude.{cond, ltb}
use Rattle.std.specs.List.{Contains}
use Rattle.std.proofs.lemmas.Bool.Decides.{nat_tests}
use Rattle.std.proofs.lemmas.List.{length-replicate, replicate-append-replicate}
use Rattle.job_counter.specs.Numbers.{times, once_below}
use Rattle.job_counter.specs.Drawing.{zeros}
use Rattle.job_counter.proofs.Times.{times-append, some_times, once_more}

pub length-zeros : (n : ℕ) → length (zeros n) ≡ n
unfolding zeros
length-zeros n = length-replicate n 0

pub zeros-append : (m n : ℕ) → zeros m ++ zeros n ≡ zeros (m + n)
unfolding zeros
zeros-append m n = replicate-append-replicate m n 0

pub zeros-injective : (m n : ℕ) → zeros m ≡ zeros n → m ≡ n
zeros-injective m n same = sym (length-zeros m) ∙ (ap length same ∙ length-zeros n)

-- who drew numbers below a number, each once, and then that number, took no number below the count twice
pub taken_once : (total n x : ℕ) (drawn : List ℕ) → times x drawn ≤ once_below x n
    → cond (ltb x total) (times x (drawn ++ n ∷ [])) 0 ≤ once_below x total
taken_once total n x drawn once = grind (arith, nat_tests, once, times-append x drawn (n ∷ []), once_more x n)

-- who drew each number below the word once took each number below the count once, where that is no more than the word
pub taken_all : (total word x : ℕ) (drawn : List ℕ) → total ≤ word → times x drawn ≡ once_below x word
    → cond (ltb x total) (times x drawn) 0 ≡ once_below x total
taken_all total word x drawn past once = grind (arith, nat_tests, once)

-- a number that was drawn is below the word
pub drawn_below : (n word : ℕ) (drawn : List ℕ) → Contains drawn n → times n drawn ≡ once_below n word → n < word
drawn_below n word drawn i once = grind (arith, nat_tests, once, some_times n drawn i)
