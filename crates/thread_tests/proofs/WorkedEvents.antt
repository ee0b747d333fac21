-- Worked events over 16 places and 3 variables: two nodes, and a kept result whose operand is the first and whose result the second.
use Rattle.std.proofs.Common.{◌≡◌, ℕ, ◌^◌, ◌<◌, List, [], ◌∷◌, replicate, set, refl, sym, subst, arith}
use Rattle.std.specs.List.{All}
use Rattle.std.proofs.lemmas.List.Elements.{All-nil, All-cons}
use Rattle.lattice.specs.Words.{has, divides, family_where, numbers_below, combine, includes, value, ones_of, interpolate, upper_zeros}
use Rattle.lattice.specs.Words.{upper_ones, lower_points, low_cofactor, high_cofactor, join, level, sub, distinct, working_set}
use Rattle.lattice.specs.Words.{operation_list, needs, polynomial_where, product_of, answer, place, cache_place, quotient, IsTrueWord}
use Rattle.lattice.specs.Words.{DenotesIn, nothing, unit, slot, IsStored}
use Rattle.lattice.specs.declared.op.Op.TheVariants.{TimesVar}
use Rattle.probe_core.specs.declared.event.Event.{Event}
use Rattle.probe_core.specs.declared.event.Event.TheVariants.{Exchange, CacheStore, Split}
use Rattle.probe_core.specs.Machines.{SeatState, Machine}
use Rattle.probe_core.specs.Events.{start, IsOverKnown, MayExchange, MayTakeAll}

-- the nodes of x3 and of x2*x3 in their places
abbrev filled : List ℕ
filled = set (set (replicate 16 0) 1 844424930131969) 13 562949953421315

x3 : DenotesIn 3 filled 3 (1 ∷ [])
unfolding join
x3 = slot 1 [] (0 ∷ []) (1 ∷ []) (λ e. omega (arith, e)) nothing unit refl

x2x3 : DenotesIn 3 filled 15 (3 ∷ [])
unfolding join
x2x3 = slot 13 [] (1 ∷ []) (3 ∷ []) (λ e. omega (arith, e)) nothing x3 refl

-- x3 times the variable x2
product : answer TimesVar 3 (1 ∷ []) [] 2 ≡ 3 ∷ []
unfolding answer product_of polynomial_where interpolate upper_zeros upper_ones lower_points ones_of combine family_where numbers_below
    low_cofactor high_cofactor join has value divides
product = refl

-- what it needs
needed : needs TimesVar 3 (1 ∷ []) [] 2 ≡ (3 ∷ []) ∷ (1 ∷ []) ∷ []
unfolding needs working_set distinct operation_list sub level includes answer product_of polynomial_where interpolate upper_zeros upper_ones
    lower_points ones_of combine family_where numbers_below low_cofactor high_cofactor join has value divides
needed = refl

product_kept : IsTrueWord 12 3 filled 3794 16662637989918146576
unfolding cache_place quotient
product_kept = record {
  op = TimesVar;
  a = 3;
  b = 2;
  result = 15;
  f = 1 ∷ [];
  g = [];
  a_fits = omega arith;
  b_fits = omega arith;
  result_fits = omega arith;
  there = refl;
  word = refl;
  first = x3;
  second_handle = λ e. cc;
  second_other = λ _. refl;
  second_none = λ _ e. cc;
  allowed = grind arith;
  denotes = subst (DenotesIn 3 filled 15) (sym product) x2x3;
  stored = subst (All (IsStored 3 filled)) (sym needed)
      (All-cons (IsStored 3 filled) (3 ∷ []) ((1 ∷ []) ∷ []) (record { at = 13; filled = λ e. omega (arith, e); denotes = x2x3 })
      (All-cons (IsStored 3 filled) (1 ∷ []) [] (record { at = 1; filled = λ e. omega (arith, e); denotes = x3 })
      (All-nil (IsStored 3 filled))));
}

-- whatever a seat has met, it may exchange the word at the first place of its path
at_first : (s : Machine) (seat : SeatState) (at w : ℕ) → IsOverKnown s.vars s.words seat.known w → 0 < 2 ^ s.bits → place s.bits w 0 ≡ at
    → MayExchange s seat at w
at_first s seat at w node some is = record
    { node = node; probed = record { steps = 0; within = some; there = is; passed = λ e less. absurd (omega arith) } }

-- the events in which the first seat makes the nodes and keeps the result, and a seat splits off before each node
abbrev pub keeping : List Event
keeping = Split 0 ∷ Exchange 0 1 844424930131969 ∷ Split 0 ∷ Exchange 0 13 562949953421315 ∷ CacheStore 0 3794 16662637989918146576 ∷ []

pub may_keep : MayTakeAll (start 4 3) keeping
unfolding place
may_keep = (
  (refl, omega arith),
  (
    (refl, at_first _ _ 1 844424930131969 (grind arith) (omega arith) refl),
    (
      (refl, omega arith),
      (
        (refl, at_first _ _ 13 562949953421315 (grind arith) (omega arith) refl),
        ((refl, record { within = omega arith; is_true = product_kept; key = refl; result = refl }), tt),
      ),
    ),
  ),
)
