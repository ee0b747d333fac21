-- Where two circuits are parted, and that what is read is one.
use Rattle.std.proofs.Common.{◌≡◌, ℕ, ◌+◌, ◌-◌, ◌<◌, true, false, List, length, take, drop, Result, Ok, Err, inl, inr}
use Rattle.std.proofs.Common.{refl, sym, ap, ◌∙◌, subst, arith, IsTrue, ◌↔◌}
use Rattle.std.proofs.lemmas.Bool.{both_ways, cases_lt, cases_order, false≢true}
use Rattle.std.proofs.lemmas.List.{drop_all, length-drop, take_all}
use Rattle.std.specs.List.{slice_index_or}
use Rattle.lattice.proofs.Polynomials.{ok_is}
use Rattle.aig_reader.specs.declared.refusal.Refusal.{Refusal}
use Rattle.aig_reader.specs.Circuit.{Circuit}
use Rattle.aig_reader.specs.Reading.{IsReading}
use Rattle.aig_reader.proofs.Values.{one_reading}
use Rattle.aig_pairs.specs.Pairs.{may_begin, EndsAt, IsPart, NoneBelow, IsFirstPart, not_two, in_parts, whole}
use Rattle.aig_pairs.specs.Laws.{OnePair}

-- ---- one place more

-- none below a place, and none there
pub one_more : (bytes : List ℕ) (at : ℕ) → NoneBelow bytes at → ((first : Circuit) → IsPart bytes at first → ⊥) → NoneBelow bytes (at + 1)
one_more bytes at below none k first less part = elim (cases_lt k at) [
  | inl before ↦ below k first before part
  | inr after ↦ let here : k ≡ at = omega arith in none first (subst (λ p. IsPart bytes p first) here part)
]

-- where no circuit begins nothing is parted
pub not_begun : (bytes : List ℕ) (at : ℕ) → may_begin bytes at ≡ false → (first : Circuit) → IsPart bytes at first → ⊥
not_begun bytes at absent first part = both_ways (may_begin bytes at) absent part.parted

pub not_read : (bytes : List ℕ) (at : ℕ) (refusal : Refusal) → IsReading (take at bytes) (Err refusal) → (first : Circuit)
    → IsPart bytes at first → ⊥
not_read bytes at refusal reading first part =
    let same = one_reading (take at bytes) (Err refusal) (Ok first) reading part.reading in cc

-- what is refused without its last byte ends with it
pub ends_by_refusal : (bytes : List ℕ) (at : ℕ) (refusal : Refusal) → IsReading (take (at - 1) bytes) (Err refusal)
    → IsTrue true ↔ EndsAt bytes at
ends_by_refusal bytes at refusal reading = (
  (λ t. inr (λ shorter is. let same = one_reading (take (at - 1) bytes) (Err refusal) (Ok shorter) reading is in cc)),
  λ ends. refl,
)

-- what ends in no line feed, and is a circuit without its last byte, goes on
pub goes_on : (bytes : List ℕ) (at : ℕ) (shorter : Circuit) → (slice_index_or bytes (at - 1) 0 ≡ 10 → ⊥)
    → IsReading (take (at - 1) bytes) (Ok shorter) → IsTrue false ↔ EndsAt bytes at
goes_on bytes at shorter other reading =
    ((λ t. absurd (false≢true t)), λ ends. absurd (elim ends [ inl feed ↦ other feed | inr none ↦ none shorter reading ]))

-- a part ends before the bytes do
pub within : (bytes : List ℕ) (at : ℕ) → may_begin bytes at ≡ true → at < length bytes
unfolding may_begin
within bytes at begun = elim (cases_lt at (length bytes)) [
  | inl less ↦ less
  | inr past ↦ absurd (grind (arith, drop_all))
]

-- what is read behind a part
pub read_behind : (bytes : List ℕ) (at : ℕ) (reading : Result Circuit Refusal)
    → IsReading (take (length bytes - at) (drop at bytes)) reading → IsReading (drop at bytes) reading
read_behind bytes at reading is =
    subst (λ rest. IsReading rest reading) (take_all (length bytes - at) (drop at bytes) (omega (arith, length-drop at bytes))) is

-- ---- one pair

first_once : (bytes : List ℕ) (at other : ℕ) (first second : Circuit) → IsFirstPart bytes at first → IsFirstPart bytes other second
    → (at ≡ other) × (first ≡ second)
first_once bytes at other first second p q =
    let same : at ≡ other = elim (cases_order at other) [
      | inl same ↦ same
      | inr differ ↦ elim differ [ inl less ↦ absurd (q.least at first less p.part) | inr more ↦ absurd (p.least other second more q.part) ]
    ] in (
      same,
      ok_is (Ok first) refl (one_reading (take other bytes) (Ok first) (Ok second)
          (subst (λ place. IsReading (take place bytes) (Ok first)) same p.part.reading) q.part.reading),
    )

never_both : (bytes : List ℕ) (at : ℕ) (first : Circuit) → IsFirstPart bytes at first → NoneBelow bytes (length bytes) → ⊥
never_both bytes at first p none = none at first (within bytes at p.part.parted) p.part

-- Bytes are read as one pair at most, or refused for one cause.
pub one_pair : OnePair
one_pair bytes a b (in_parts at first second p reading e) (in_parts other again behind q also f) =
    let same = first_once bytes at other first again p q in
    let here : IsReading (drop other bytes) second = subst (λ place. IsReading (drop place bytes) second) same.0 reading in
    let next : second ≡ behind = one_reading (drop other bytes) second behind here also in cc
one_pair bytes a b (in_parts at first second p reading e) (whole all none also f) = absurd (never_both bytes at first p none)
one_pair bytes a b (whole all none reading e) (in_parts at first second p also f) = absurd (never_both bytes at first p none)
one_pair bytes a b (whole all none reading e) (whole other never also f) =
    e ∙ ap not_two (one_reading bytes all other reading also) ∙ sym f
