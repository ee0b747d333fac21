-- The shares of job workers: one list for each, and all their numbers together.
use Rattle.std.proofs.Common.{◌≡◌, ◌∙◌, ℕ, zero, suc, ◌+◌, ◌<◌, ◌≤◌, Option, Some, None, List, [], ◌∷◌, ◌++◌, length, length-append}
use Rattle.std.proofs.Common.{refl, ap₂, sym, arith}
use Rattle.std.specs.List.{concat, Contains}
use Rattle.std.specs.Prelude.{slice_index_or, IfSome, IfNone}
use Rattle.std.proofs.lemmas.List.{append-nil, get_or_append_left, get_or-append-add, length-map, map-append}
use Rattle.std.proofs.lemmas.List.Folds.{concat-append}
use Rattle.std.proofs.lemmas.List.Elements.{Contains-append_left, Contains-append_right}
use Rattle.job_counter.specs.Numbers.{times}
use Rattle.job_counter.proofs.Times.{times-append}
use Rattle.fork_branches.specs.Work.{numbers_of, answers_of, lists_of, job_workers_of}
use Rattle.fork_branches.specs.Shares.{with_first}
use Rattle.fork_branches.specs.declared.crew.Answer.{Answer}
use Rattle.fork_branches.specs.declared.crew.Crew.{Crew}
use Rattle.fork_branches.specs.declared.crew.Crew.TheVariants.{Away, One, Two'}

pub length-lists : (crew : Crew) → length (lists_of crew) ≡ job_workers_of crew
length-lists Away = refl
length-lists (One w) = refl
length-lists (Two' p a q b) = omega (arith, length-append (lists_of a) (lists_of b), length-lists a, length-lists b)

pub concat-lists : (crew : Crew) → concat (lists_of crew) ≡ numbers_of (answers_of crew)
concat-lists Away = refl
concat-lists (One w) = append-nil (numbers_of w.answers.items)
concat-lists (Two' p a q b) =
    concat-append (lists_of a) (lists_of b)
    ∙ (ap₂ ◌++◌ (concat-lists a) (concat-lists b) ∙ sym (map-append (λ (a : Answer). a.number) (answers_of a) (answers_of b)))

pub length-with_first : (more : List ℕ) (lists : List (List ℕ)) → length (with_first more lists) ≡ length lists
length-with_first more [] = refl
length-with_first more (l ∷ lists) = refl

-- how often a number is among all
pub times-with_first : (x : ℕ) (more : List ℕ) (lists : List (List ℕ)) → 1 ≤ length lists
    → times x (concat (with_first more lists)) ≡ times x (concat lists) + times x more
times-with_first x more [] some = absurd (omega (arith, some))
times-with_first x more (l ∷ lists) some =
    omega (arith, times-append x (l ++ more) (concat lists), times-append x l more, times-append x l (concat lists))

-- all numbers of a crew, and those of what the caller ran
pub times-shares : (x : ℕ) (more : List Answer) (crew : Crew) → 1 ≤ job_workers_of crew
    → times x (concat (with_first (numbers_of more) (lists_of crew))) ≡ times x (numbers_of (answers_of crew)) + times x (numbers_of more)
times-shares x more crew some =
    rw (← concat-lists crew) (times-with_first x (numbers_of more) (lists_of crew) (omega (arith, some, length-lists crew)))

none_of : (x : ℕ) (more : List ℕ) (lists : List (List ℕ)) → times x more ≡ 0 → times x (concat lists) ≡ 0
    → times x (concat (with_first more lists)) ≡ 0
none_of x more [] none rest = refl
none_of x more (l ∷ lists) none rest = omega (arith, times-with_first x more (l ∷ lists) (omega arith))

-- a number that neither has is not among all
pub none-with_first : (r : Option ℕ) (x : ℕ) (more : List Answer) (crew : Crew) → times x (numbers_of more) ≡ 0
    → IfNone r (times x (numbers_of (answers_of crew)) ≡ 0) → IfNone r (times x (concat (with_first (numbers_of more) (lists_of crew))) ≡ 0)
none-with_first (Some w) x more crew none rest = tt
none-with_first None x more crew none rest = none_of x (numbers_of more) (lists_of crew) none (rw (concat-lists crew) rest)

-- a number of a list is in it with more numbers too
with_more : (x w : ℕ) (more : List ℕ) (lists : List (List ℕ)) → Contains (slice_index_or lists w []) x
    → Contains (slice_index_or (with_first more lists) w []) x
with_more x w more [] i = i
with_more x zero more (l ∷ lists) i = Contains-append_left l more x i
with_more x (suc w) more (l ∷ lists) i = i

pub found-with_first : (r : Option ℕ) (x : ℕ) (more : List ℕ) (lists : List (List ℕ))
    → IfSome r (λ w. Contains (slice_index_or lists w []) x) → IfSome r (λ w. Contains (slice_index_or (with_first more lists) w []) x)
found-with_first (Some w) x more lists i = with_more x w more lists i
found-with_first None x more lists i = tt

in_more : (x : ℕ) (more : List ℕ) (lists : List (List ℕ)) → 1 ≤ length lists → Contains more x
    → Contains (slice_index_or (with_first more lists) 0 []) x
in_more x more [] some i = absurd (omega (arith, some))
in_more x more (l ∷ lists) some i = Contains-append_right l more x i

-- what the caller ran belongs to the first, if there is one
pub first-with_first : (x : ℕ) (more : List Answer) (crew : Crew) → (job_workers_of crew ≡ 0 → length more ≡ 0)
    → Contains (numbers_of more) x → Contains (slice_index_or (with_first (numbers_of more) (lists_of crew)) 0 []) x
first-with_first x more crew only i =
    let some : 1 ≤ length (lists_of crew) =
    grind (arith, length-lists crew, length-map more (λ (a : Answer). a.number), i.1) in
    in_more x (numbers_of more) (lists_of crew) some i

-- the list of a worker of the first half, and of the second, is that of both
pub in_first : (a b : Crew) (x w : ℕ) → w < job_workers_of a → Contains (slice_index_or (lists_of a) w []) x
    → Contains (slice_index_or (lists_of a ++ lists_of b) w []) x
in_first a b x w less i = rw (get_or_append_left (lists_of a) (lists_of b) [] w (rw (length-lists a) less)) i

pub in_second : (a b : Crew) (x w : ℕ) → Contains (slice_index_or (lists_of b) w []) x
    → Contains (slice_index_or (lists_of a ++ lists_of b) (job_workers_of a + w) []) x
in_second a b x w i = rw (← length-lists a, get_or-append-add (lists_of a) (lists_of b) w []) i
