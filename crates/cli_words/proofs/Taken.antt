-- What the getters give, in terms of the matches, and what a parse of a declared command makes of words.
use Rattle.std.proofs.Common.{◌≡◌, ◌≤◌, ◌∙◌, ◌∷◌, ap, ap₂, arith, true, ℕ, List, [], Option, Some, sym, subst, inl, inr}
use Rattle.std.specs.Prelude.{Result, Ok}
use Rattle.std.specs.Str.Parse.{ParsesUnsigned}
use Rattle.clap.specs.Kinds.{Kinds}
use Rattle.clap.specs.Matches.{ReadsOne, first_value, one_text}
use Rattle.clap.specs.Walk.{first_of, rows_of}
use Rattle.clap.specs.declared.parser.matches.Found.{Found}
use Rattle.clap.proofs.WalkLemmas.{first_value-rows, one_text-rows}
use Rattle.cli_words.specs.Arguments.{AreNames, HasNumber, NameList, list_at_zero, number_of}
use Rattle.cli_words.proofs.NamesMoved.{IsDeclared, fault_is, matches_is}
use Rattle.clap.specs.Words.{App, HasKind, HasMatchesOf, Rule, Text, fault_of, found_of, is_simple, is_simple_and_free, kind_of, matches_of}
use Rattle.clap.specs.declared.error.Error.{Error}
use Rattle.clap.specs.declared.error.kind.ErrorKind.TheVariants.{OutOfMemory}
use Rattle.clap.specs.declared.parser.matches.ArgMatches.{ArgMatches}

-- a text that reads as a number in a range is read as that number
pub number_is : (E : Type 0) (G : List ℕ → Result ℕ E → Type 0) (f : Found) (id : List ℕ) (low high n : ℕ) (r : Option ℕ)
    → HasNumber f id low high
    → ((t : List ℕ) → one_text f id ≡ Some t → ReadsOne G t r) → ((u : List ℕ) (x : Result ℕ E) → G u x → ParsesUnsigned 64 10 u x)
    → r ≡ Some n → number_of id (rows_of f) ≡ Some n
number_is E G f id low high n r has reads parses is =
    let got = parses has.0 (Ok n) (subst (ReadsOne G has.0) is (reads has.0 has.1)) in cc (one_text-rows f id)

-- a number that a parse found lies in the option's range
pub number_in : (f : Found) (id : List ℕ) (low high n : ℕ) → HasNumber f id low high → number_of id (rows_of f) ≡ Some n → (low ≤ n)
    × (n ≤ high)
number_in f id low high n has is = grind (arith, one_text-rows)

-- the text that `get_str` shows is the first of the rows
pub first_is : (f : Found) (id : List ℕ) → first_of id (rows_of f) ≡ first_value f id
first_is f id = sym (first_value-rows f id)

no_kind : (kinds : Kinds) (e : Error) → kinds ≡ [] → HasKind kinds e → (kind_of e ≡ OutOfMemory → ⊥) → ⊥
no_kind kinds e none (inl memory) other = other memory
no_kind [] e none (inr among) other = among
no_kind (k ∷ ks) e none (inr among) other = cc

-- a command that a declared one is, at words
module _ (app_at : NameList → App) (options : List Rule) (is : (list : NameList) → IsDeclared app_at options list) (names : List Text)
    (list : NameList) (a : App) (words texts : List Text) (are : AreNames names list) (same : a ≡ app_at list) (given : texts ≡ words) where
  faults_are : fault_of a texts ≡ fault_of (app_at (list_at_zero names)) words
  faults_are = ap₂ fault_of same given ∙ fault_is app_at options is names list words are

  free : is_simple_and_free a ≡ true
  free = ap is_simple_and_free same ∙ (is list).simple_and_free

  -- an error of another kind than want of memory comes only where the declared command refuses the words
  pub is_refused : (e : Error) → (is_simple_and_free a ≡ true → HasKind (fault_of a texts) e) → (kind_of e ≡ OutOfMemory → ⊥)
      → fault_of (app_at (list_at_zero names)) words ≡ [] → ⊥
  is_refused e has other none = no_kind (fault_of a texts) e (faults_are ∙ none) (has free) other

  -- where it takes them, the matches are those of the declared command
  pub is_taken : (m : ArgMatches) → (is_simple_and_free a ≡ true → fault_of a texts ≡ []) → HasMatchesOf a texts m
      → (fault_of (app_at (list_at_zero names)) words ≡ []) × (rows_of (found_of m) ≡ matches_of (app_at (list_at_zero names)) words)
  is_taken m none has = (
    sym faults_are ∙ none free,
    (has (ap is_simple same ∙ (is list).simple)).0
        ∙ (ap₂ matches_of same given ∙ matches_is app_at options is names list words are),
  )
