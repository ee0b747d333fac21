-- All jobs have answers, and each stands at its number.
use Rattle.std.proofs.Common.{◌≡◌, ◌≢◌, ◌∙◌, ℕ, ◌<◌, ◌⊎◌, inl, inr, Result, Ok, List, [], ◌∷◌, ◌++◌, length}
use Rattle.std.proofs.Common.{slice_index_or, slice_set, sym, ap, refl, arith}
use Rattle.std.specs.List.{All, Contains}
use Rattle.std.proofs.lemmas.Bool.Decides.{nat_tests}
use Rattle.std.proofs.lemmas.List.{get_or-set_same, get_or-set_other, length-set}
use Rattle.std.proofs.lemmas.List.Elements.{All-weaker, All-contains, All-contains_itself, Contains-append_right}
use Rattle.lattice.proofs.Polynomials.{contains_cases}
use Rattle.job_counter.specs.Numbers.{times, once_below}
use Rattle.job_counter.proofs.Times.{times_some}
use Rattle.node_store.specs.Stores.{State, Denotes}
use Rattle.node_store.specs.declared.store.Handle.{Handle}
use Rattle.node_store.specs.declared.store.Full.{Full}
use Rattle.fork_branches.specs.Jobs.{Tasks}
use Rattle.fork_branches.specs.Work.{Works, numbers_of}
use Rattle.fork_branches.specs.Solves.{AreSolved, placed}
use Rattle.fork_branches.specs.declared.crew.Answer.{Answer}

-- the job of the number has an answer
abbrev IsAnswered : List Answer → ℕ → Type 0
IsAnswered answers x = (a : Answer) × Contains answers a × (a.number ≡ x)

answered : (x : ℕ) (answers : List Answer) → Contains (numbers_of answers) x → IsAnswered answers x
answered x [] i = absurd (omega (arith, i.1))
answered x (a ∷ answers) i = elim (contains_cases x a.number (numbers_of answers) i) [
  | inl e ↦ (a, (0, omega arith, refl), e)
  | inr j ↦ let is = answered x answers j in (is.0, Contains-append_right (a ∷ []) answers is.0 is.1, is.2)
]

-- ---- the answers placed

pub length-placed : (answers : List Answer) (handles : List Handle) → length (placed answers handles) ≡ length handles
length-placed [] handles = refl
length-placed (a ∷ answers) handles = length-placed answers (slice_set handles a.number a.handle) ∙ length-set handles a.number a.handle

pub placed-append : (front back : List Answer) (handles : List Handle) → placed (front ++ back) handles ≡ placed back (placed front handles)
placed-append [] back handles = refl
placed-append (a ∷ front) back handles = placed-append front back (slice_set handles a.number a.handle)

-- what is true of each answer is true of each handle that has one
placed_right : (P : ℕ → Handle → Type 0) (answers : List Answer) (handles : List Handle) (x : ℕ) (d : Handle) → x < length handles
    → ((a : Answer) → Contains answers a → P a.number a.handle) → P x (slice_index_or handles x d) ⊎ IsAnswered answers x
    → P x (slice_index_or (placed answers handles) x d)
placed_right P [] handles x d less each (inl p) = p
placed_right P [] handles x d less each (inr is) = absurd (omega (arith, is.1.1))
placed_right P (a ∷ answers) handles x d less each known =
    let here : P a.number a.handle = each a (0, omega arith, refl) in let same : (x ≡ a.number) ⊎ (x ≢ a.number) = grind arith in
    placed_right P answers (slice_set handles a.number a.handle) x d (rw (length-set handles a.number a.handle) less)
    (λ b i. each b (Contains-append_right (a ∷ []) answers b i)) (elim same [
      | inl e ↦ inl (rw (e, get_or-set_same handles a.number a.handle d (rw e at less)) here)
      | inr ne ↦ elim known [
        | inl p ↦ inl (rw (get_or-set_other handles a.number x a.handle d ne) p)
        | inr is ↦ elim (contains_cases is.0 a answers is.1) [
          | inl j ↦ absurd (ne (sym (ap (λ (b : Answer). b.number) j ∙ is.2)))
          | inr j ↦ inr (is.0, j, is.2)
        ]
      ]
    ])

-- ---- all jobs

pub solved : {A : Type 0} {tasks : Tasks} {s t : State} {answers : List Answer} {a : A} (handles : List Handle)
    → Works tasks s t answers (Ok a) → length handles ≡ tasks.total
    → ((x : ℕ) → times x (numbers_of answers) ≡ once_below x tasks.total) → AreSolved tasks s t (placed answers handles)
solved {A} {tasks} {s} {t} {answers} handles works count once =
    let job : (x : ℕ) → x < tasks.total → IsAnswered answers x =
    λ x less. answered x answers (times_some x (numbers_of answers) (grind (arith, nat_tests, once x))) in
    record {
      count = length-placed answers handles ∙ count;
      each = λ x d less. placed_right (λ n h. Denotes t h (tasks.wanted n)) answers handles x d (rw count less)
          (λ b i. (works.right b i).denotes) (inr (job x less));
      held = λ x less. let is = job x less in rw is.2 at (works.right is.0 is.1).held;
      quiet = works.quiet;
    }

-- the number of an answer is below the length
abbrev pub Below : List Handle → Answer → Type 0
Below handles a = a.number < length handles

-- what is true of each element of a list
pub all_of : {A : Type 0} (P : A → Type 0) (list : List A) → ((a : A) → Contains list a → P a) → All P list
all_of P list each = All-weaker (Contains list) P each list (All-contains_itself list)

-- what is true of each answer is so of a part of the answers
pub part_below : (handles : List Handle) (whole part : List Answer) → All (Below handles) whole
    → ((a : Answer) → Contains part a → Contains whole a) → All (Below handles) part
part_below handles whole part all within = all_of (Below handles) part (λ a i. All-contains (Below handles) whole a all (within a i))

-- the numbers of right answers are below the count
pub works_below : {A : Type 0} {tasks : Tasks} {s t : State} {whole : List Answer} {r : Result A Full} (handles : List Handle)
    (part : List Answer) → Works tasks s t whole r → length handles ≡ tasks.total → ((a : Answer) → Contains part a → Contains whole a)
    → All (Below handles) part
works_below handles part works count within = all_of (Below handles) part (λ a i. rw count (works.right a (within a i)).below)
