-- What job workers have done, answer by answer and branch by branch.
use Rattle.std.proofs.Common.{◌≡◌, ◌∙◌, ℕ, ◌+◌, ◌<◌, ◌≤◌, inl, inr, Some, Result, Ok, Err, List, [], ◌∷◌, ◌++◌, length}
use Rattle.std.proofs.Common.{refl, ap₂, arith, rules}
use Rattle.std.specs.Prelude.{OnOk}
use Rattle.std.specs.Result.{result_and}
use Rattle.std.specs.List.{Contains}
use Rattle.std.proofs.lemmas.List.{length-map, map-append}
use Rattle.std.proofs.lemmas.List.Elements.{Contains-push_cases, Contains-append_cases}
use Rattle.lattice.specs.Family.{Family}
use Rattle.node_store.specs.Stores.{State, Grows, IsSound, Gives}
use Rattle.node_store.specs.declared.store.Handle.{Handle}
use Rattle.node_store.specs.declared.store.Full.{Full}
use Rattle.node_store.proofs.StoreLaws.{Grows-refl, Grows-trans}
use Rattle.unique_table.specs.Passes.{IsJoined, token_state, table_name, twin_of}
use Rattle.unique_table.specs.declared.pass.Shared.{Shared}
use Rattle.unique_table.specs.declared.pass.Token.{Token}
use Rattle.job_counter.specs.Numbers.{times, once_below}
use Rattle.job_counter.proofs.Times.{pigeonhole, times-append}
use Rattle.fork_branches.specs.Jobs.{Tasks, needed_by}
use Rattle.fork_branches.specs.Work.{MayWork, IsAnswer, Works, Takes, AreIdle, IsSent, numbers_of}
use Rattle.fork_branches.specs.declared.crew.Answer.{Answer}
use Rattle.fork_branches.specs.declared.crew.Crew.{Crew}
use Rattle.fork_branches.proofs.Branches.{branch_full, branch_quiet, full_later, joined_grows}

pub may_later : {tasks : Tasks} {s t : State} → Grows s t → MayWork tasks s → MayWork tasks t
may_later grows may = search (grows.known, may.uses, may.planned, grows.plan, grows.vars)

-- in a twin too
pub may_twin : {tasks : Tasks} {s : State} → MayWork tasks s → MayWork tasks (twin_of s)
may_twin may = record { few = may.few; vars = may.vars; uses = may.uses; planned = may.planned }

answer_later : {tasks : Tasks} {s t : State} {a : Answer} → Grows s t → IsAnswer tasks s a → IsAnswer tasks t a
answer_later grows is = grind arith

pub times-numbers : (x : ℕ) (front back : List Answer)
    → times x (numbers_of (front ++ back)) ≡ times x (numbers_of front) + times x (numbers_of back)
times-numbers x front back =
    rw (map-append (λ (a : Answer). a.number) front back) (times-append x (numbers_of front) (numbers_of back))

-- ---- one after the other

pub nothing_works : {tasks : Tasks} (s : State) → Works tasks s s [] (Ok (tt {0}))
nothing_works s = record { grows = Grows-refl s; right = λ a i. absurd (omega (arith, i.1)); quiet = refl; full = tt }

pub one_works : {tasks : Tasks} {s t : State} {h : Handle} (n : ℕ) → n < tasks.total
    → Gives s t (Ok h) (tasks.wanted n) (needed_by tasks n) → Works tasks s t (record { number = n; handle = h } ∷ []) (Ok (tt {0}))
one_works {tasks} {s} {t} {h} n less gives =
    let is : IsAnswer tasks t (record { number = n; handle = h }) =
    record { below = less; denotes = gives.ok; held = gives.held } in record {
      grows = gives.grows;
      right = λ b i. elim (Contains-push_cases [] _ b i) [ inl j ↦ absurd (omega (arith, j.1)) | inr e ↦ rw (← e) is ];
      quiet = gives.quiet;
      full = tt;
    }

pub full_works : {A : Type 0} {tasks : Tasks} {s t : State} {e : Full} {f : Family} {needed : List Family} → Gives s t (Err e) f needed
    → Works {A = A} tasks s t [] (Err e)
full_works gives = record { grows = gives.grows; right = λ a i. absurd (omega (arith, i.1)); quiet = tt; full = gives.full }

later_right : {tasks : Tasks} {m t : State} (front back : List Answer) → ((a : Answer) → Contains front a → IsAnswer tasks m a) → Grows m t
    → ((a : Answer) → Contains back a → IsAnswer tasks t a) → (a : Answer) → Contains (front ++ back) a → IsAnswer tasks t a
later_right front back low grows high a i = elim (Contains-append_cases front back a i) [
  | inl j ↦ answer_later grows (low a j)
  | inr j ↦ high a j
]

pub works_then : {A : Type 0} {tasks : Tasks} {s m t : State} {front back : List Answer} (r : Result A Full)
    → Works tasks s m front (Ok (tt {0})) → Works tasks m t back r → Works tasks s t (front ++ back) r
works_then {s = s} {m} {t} {front} {back} (Ok a) one two = record {
  grows = Grows-trans s m t one.grows two.grows;
  right = later_right front back one.right two.grows two.right;
  quiet = two.quiet ∙ one.quiet;
  full = tt;
}
works_then {s = s} {m} {t} {front} {back} (Err f) one two = record {
  grows = Grows-trans s m t one.grows two.grows;
  right = later_right front back one.right two.grows two.right;
  quiet = tt;
  full = record { rose = rw one.quiet at two.full.rose; over = two.full.over };
}

-- ---- the numbers taken

module _ {H : Type 0} {IsHand : H → Type 0} {shares_of : H → List ℕ} {taken_by : H → ℕ → ℕ} where
  pub takes_then : {A : Type 0} {before now after : H} {front back : List Answer} (r : Result A Full)
      → Takes IsHand shares_of taken_by before now front (Ok (tt {0})) → Takes IsHand shares_of taken_by now after back r
      → Takes IsHand shares_of taken_by before after (front ++ back) r
  takes_then {front = front} {back} (Ok a) one two = record {
    of = two.of;
    shares = two.shares ∙ one.shares;
    took = λ x. omega (arith, one.took x, two.took x, times-numbers x front back);
  }
  takes_then (Err f) one two = record { of = two.of; shares = two.shares ∙ one.shares; took = tt }

  both_took : {A : Type 0} {before one first two second after : H} {front back : List Answer} (r q : Result A Full)
      → Takes IsHand shares_of taken_by one first front r → Takes IsHand shares_of taken_by two second back q
      → ((x : ℕ) → taken_by one x + taken_by two x ≡ taken_by before x)
      → ((x : ℕ) → taken_by after x ≡ taken_by first x + taken_by second x)
      → OnOk (result_and r q) ((x : ℕ) → taken_by after x ≡ taken_by before x + times x (numbers_of (front ++ back)))
  both_took {front = front} {back} (Ok a) (Ok b) low high taken taken' =
      λ x. omega (arith, low.took x, high.took x, taken x, taken' x, times-numbers x front back)
  both_took (Ok a) (Err f) low high taken taken' = tt
  both_took (Err f) q low high taken taken' = tt

  -- what two hands did that were one before and are one afterwards
  pub both_take : {A : Type 0} {before one first two second after : H} {front back : List Answer} (r q : Result A Full)
      → Takes IsHand shares_of taken_by one first front r → Takes IsHand shares_of taken_by two second back q
      → shares_of one ++ shares_of two ≡ shares_of before → ((x : ℕ) → taken_by one x + taken_by two x ≡ taken_by before x)
      → IsHand after → shares_of after ≡ shares_of first ++ shares_of second
      → ((x : ℕ) → taken_by after x ≡ taken_by first x + taken_by second x)
      → Takes IsHand shares_of taken_by before after (front ++ back) (result_and r q)
  both_take {front = front} {back} r q low high parts taken of parts' taken' = record {
    of = of;
    shares = parts' ∙ (ap₂ ◌++◌ low.shares high.shares ∙ parts);
    took = both_took r q low high taken taken';
  }

  -- a hand that gives one number more has answered fewer than there are
  pub room : {before now : H} (answers : List Answer) (total n : ℕ) (more : ℕ → ℕ)
      → Takes IsHand shares_of taken_by before now answers (Ok (tt {0}))
      → ((x : ℕ) → more x ≡ taken_by now x + times x (n ∷ [])) → ((x : ℕ) → more x ≤ once_below x total) → length answers < total
  room answers total n more takes is once =
      let numbers = n ∷ numbers_of answers in
      let few = pigeonhole total numbers (λ x. omega (arith, times-append x (n ∷ []) (numbers_of answers), is x, takes.took x, once x)) in
      omega (arith, few, length-map answers (λ (a : Answer). a.number))

-- ---- two branches

-- one twin of s went on to y and another one to w; u is s with what y knows, and v is u with what w knows
both_right : {tasks : Tasks} {s y u w v : State} (front back : List Answer) → IsJoined s y u → IsJoined u w v
    → ((a : Answer) → Contains front a → IsAnswer tasks y a) → ((a : Answer) → Contains back a → IsAnswer tasks w a)
    → (a : Answer) → Contains (front ++ back) a → IsAnswer tasks v a
both_right front back one two low high a i = elim (Contains-append_cases front back a i) [
  | inl j ↦ let is = low a j in grind (arith, one.known, one.held, two.grows.known, two.grows.held)
  | inr j ↦ let is = high a j in grind (arith, two.known, two.held)
]

module _ {A : Type 0} {tasks : Tasks} {s y u w v : State} {front back : List Answer} (oks : IsSound s)
    (oku : IsSound u) (okv : IsSound v) (one : IsJoined s y u) (two : IsJoined u w v) where
  pub both_work : (r q : Result A Full) → Works tasks (twin_of s) y front r → Works tasks (twin_of s) w back q
      → Works tasks s v (front ++ back) (result_and r q)
  both_work (Ok a) (Ok b) low high =
      let quiet = branch_quiet one.grows two oku high.quiet ∙ branch_quiet (Grows-refl s) one oks low.quiet in
      let right = both_right front back one two low.right high.right in search (joined_grows one two, right, quiet, rules)
  both_work (Ok a) (Err f) low high =
      let right = both_right front back one two low.right high.right in
      search (joined_grows one two, right, branch_full one.grows two high.grows high.full, rules)
  both_work (Err f) q low high =
      let right = both_right front back one two low.right high.right in
      search (joined_grows one two, right, full_later okv two.grows (branch_full (Grows-refl s) one low.grows low.full), rules)

-- what a branch is sent by a pass in the state s
pub sent : {tasks : Tasks} {table : Shared} {token : Token} (crew : Crew) (s : State) → MayWork tasks s → s.table ≡ Some (table_name table)
    → token_state token ≡ twin_of s → AreIdle tasks.total crew → IsSent tasks table token crew
sent crew s may of state idle = record { of_table = rw state of; may = rw state (may_twin may); idle = idle }
