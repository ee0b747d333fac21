-- The steps of finding points: the union of two results, and the points of the upper and the lower part.
use Rattle.std.proofs.Common.{◌≡◌, ℕ, Bool, false, ◌||◌, Result, Ok, List, [], ◌∷◌, ◌++◌, refl, arith}
use Rattle.lattice.specs.Words.{Family, IsFamily, Covers, combine, union_of, ones_of, working_set, ones_list}
use Rattle.lattice.specs.declared.op.Op.TheVariants.{Ones}
use Rattle.lattice.proofs.Diagrams.{Has-head, Has-tail, Has-append_left, Has-append_right, covers_nothing, covers_more, covers_lists}
use Rattle.lattice.proofs.Polynomials.{IsFamily-combine, IsFamily-ones_of}
use Rattle.node_store.specs.Stores.{State, Knows, family, IsSound, IsPlanned, Gives, Builds, needs_of}
use Rattle.node_store.specs.declared.store.Handle.{Handle}
use Rattle.node_store.specs.declared.store.Full.{Full}
use Rattle.node_store.proofs.StoreLaws.{Denotes-knows, Reads-refl}
use Rattle.set_algebra.proofs.Calls.{Calls, IsAtHand, after_call, after_combined, call_planned, calls_in_order, calls_start}
use Rattle.set_algebra.proofs.Calls.{combined_planned, found_at_hand, known_at_hand, last_combined, points_end}
use Rattle.set_algebra.specs.GivenPoints.{GivesPoints}
use Rattle.set_algebra.specs.declared.pairs.Cofactors.{Cofactors}
use Rattle.bool_poly.proofs.OnesLemmas.{needs_ones}
use Rattle.interp_lex.specs.Parts.{common_of, common_list, replaced_of, replaced_list, upper_list, lower_of, lower_list, AreKnown}

-- ---- the union of two results, by two tests

module _ (p q : Bool → Bool → Bool) (pn : p false false ≡ false) (qn : q false false ≡ false) (s : State) (a b c d : Handle) where
  abbrev F : Family
  F = combine p s.vars (family s a) (family s b)

  abbrev G : Family
  G = combine q s.vars (family s c) (family s d)

  abbrev needed : List Family
  needed = F ∷ G ∷ union_of s.vars F G ∷ []

  module _ (sound : IsSound s) (known : Knows s a × Knows s b × Knows s c × Knows s d)
      (planned : Covers s.plan (working_set s.vars needed)) where
    start : Calls s s s.vars needed needed ((a, family s a) ∷ (b, family s b) ∷ (c, family s c) ∷ (d, family s d) ∷ [])
    start = calls_start (Reads-refl s) (search arith) planned refl (
      known_at_hand sound known.0,
      (
        known_at_hand sound known.1,
        (known_at_hand sound known.2, (known_at_hand sound known.3, tt)),
      ),
    )

    module _ {t : State} {x : Handle} (one : Builds s t (Ok x) F) where
      pub first_found : Calls s t s.vars needed (G ∷ union_of s.vars F G ∷ [])
          ((x, F) ∷ (a, family s a) ∷ (b, family s b) ∷ (c, family s c) ∷ (d, family s d) ∷ [])
      first_found = after_combined p pn start start.here.0 start.here.1.0 one

      pub second_planned : IsPlanned t (combine q t.vars (family t c) (family t d))
      second_planned = combined_planned q qn first_found first_found.here.1.1.1.0 first_found.here.1.1.1.1.0

      module _ {u : State} {y : Handle} (two : Builds t u (Ok y) (combine q t.vars (family t c) (family t d))) where
        second_found : Calls s u s.vars needed (union_of s.vars F G ∷ [])
            ((y, G) ∷ (x, F) ∷ (a, family s a) ∷ (b, family s b) ∷ (c, family s c) ∷ (d, family s d) ∷ [])
        second_found = after_combined q qn first_found first_found.here.1.1.1.0 first_found.here.1.1.1.1.0 two

        pub last_planned : IsPlanned u (union_of u.vars (family u x) (family u y))
        last_planned = combined_planned (λ k l. k || l) refl second_found second_found.here.1.0 second_found.here.0

        pub last_gives : {v : State} (r : Result Handle Full) → Builds u v r (union_of u.vars (family u x) (family u y))
            → Gives s v r (union_of s.vars F G) (working_set s.vars needed)
        last_gives r three = last_combined (λ k l. k || l) refl second_found second_found.here.1.0 second_found.here.0 r three

-- ---- the four cofactors and their families

abbrev pub four : Cofactors → Family → Family → Family → Family → List (Handle × Family)
four c z0 z1 o0 o1 = (c.a_low, z0) ∷ (c.a_high, z1) ∷ (c.b_low, o0) ∷ (c.b_high, o1) ∷ []

pub four_at_hand : {s : State} {c : Cofactors} {all : List Family} → IsSound s → AreKnown s c → Covers s.plan (working_set s.vars all)
    → Calls s s s.vars all all (four c (family s c.a_low) (family s c.a_high) (family s c.b_low) (family s c.b_high))
four_at_hand {s} sound known planned = calls_start (Reads-refl s) (search arith) planned refl (
  known_at_hand sound known.a_low,
  (known_at_hand sound known.a_high, (known_at_hand sound known.b_low, (known_at_hand sound known.b_high, tt))),
)

-- a call on four handles at hand, where the list of what it needs comes next
module _ (list : ℕ → Family → Family → Family → Family → List Family) {s t : State} {all : List Family} {hs : List (Handle × Family)}
    (rest : List Family) {a b p q : Handle} {A B C D : Family} (k : Calls s t s.vars all (list s.vars A B C D ++ rest) hs)
    (x : IsAtHand t s.vars a A) (y : IsAtHand t s.vars b B) (z : IsAtHand t s.vars p C) (w : IsAtHand t s.vars q D) where
  needs_are : working_set t.vars (list t.vars (family t a) (family t b) (family t p) (family t q))
      ≡ working_set s.vars (list s.vars A B C D)
  needs_are = rw (k.reads.grows.vars, x.0, y.0, z.0, w.0) refl

  pub call_on_planned : Covers t.plan (working_set t.vars (list t.vars (family t a) (family t b) (family t p) (family t q)))
  call_on_planned = call_planned (list s.vars A B C D) rest k needs_are

  after_call_on : (of : ℕ → Family → Family → Family → Family → Family) → IsFamily s.vars (of s.vars A B C D) → {u : State} {r : Handle}
      → Gives t u (Ok r) (of t.vars (family t a) (family t b) (family t p) (family t q))
      (working_set t.vars (list t.vars (family t a) (family t b) (family t p) (family t q)))
      → Calls s u s.vars all rest ((r, of s.vars A B C D) ∷ hs)
  after_call_on of fits given =
      after_call (list s.vars A B C D) rest k needs_are (rw (k.reads.grows.vars, x.0, y.0, z.0, w.0) refl) fits given

-- ---- the points of the upper part

module _ {s : State} {c : Cofactors} (sound : IsSound s) (known : AreKnown s c) where
  abbrev z0 : Family
  z0 = family s c.a_low

  abbrev z1 : Family
  z1 = family s c.a_high

  abbrev o0 : Family
  o0 = family s c.b_low

  abbrev o1 : Family
  o1 = family s c.b_high

  module _ (planned : Covers s.plan (working_set s.vars (upper_list s.vars z0 z1 o0 o1))) where
    pub upper_start : Calls s s s.vars (upper_list s.vars z0 z1 o0 o1)
        (common_list s.vars z0 z1 o0 o1 ++ common_list s.vars z0 o1 o0 z1 ++ []) (four c z0 z1 o0 o1)
    upper_start = calls_in_order (four_at_hand sound known planned) (search (covers_more, covers_nothing, Has-head, Has-tail) depth 14)
        (search (covers_more, covers_nothing, Has-head, Has-tail) depth 14)

    -- t is the state after the zeros z were found
    module _ {t : State} {z : Handle}
        (one : Gives s t (Ok z) (common_of s.vars z0 z1 o0 o1) (working_set s.vars (common_list s.vars z0 z1 o0 o1))) where
      pub zeros_found : Calls s t s.vars (upper_list s.vars z0 z1 o0 o1) (common_list s.vars z0 o1 o0 z1 ++ [])
          ((z, common_of s.vars z0 z1 o0 o1) ∷ four c z0 z1 o0 o1)
      zeros_found = let k = upper_start in
          after_call_on common_list _ k k.here.0 k.here.1.0 k.here.1.1.0 k.here.1.1.1.0 common_of (IsFamily-combine _ s.vars _ _) one

      pub upper_ones_planned : Covers t.plan
          (working_set t.vars (common_list t.vars (family t c.a_low) (family t c.b_high) (family t c.b_low) (family t c.a_high)))
      upper_ones_planned = let k = zeros_found in
          call_on_planned common_list [] k k.here.1.0 k.here.1.1.1.1.0 k.here.1.1.1.0 k.here.1.1.0

      pub upper_gives : {u : State} {o : Handle}
          → Gives t u (Ok o) (common_of t.vars (family t c.a_low) (family t c.b_high) (family t c.b_low) (family t c.a_high))
          (working_set t.vars (common_list t.vars (family t c.a_low) (family t c.b_high) (family t c.b_low) (family t c.a_high)))
          → GivesPoints s u (Ok (record { zeros = z; ones = o })) (common_of s.vars z0 z1 o0 o1) (common_of s.vars z0 o1 o0 z1)
          (working_set s.vars (upper_list s.vars z0 z1 o0 o1))
      upper_gives two = let k = zeros_found in
          let last = after_call_on common_list [] k k.here.1.0 k.here.1.1.1.1.0 k.here.1.1.1.0 k.here.1.1.0 common_of
          (IsFamily-combine _ s.vars _ _) two in
          points_end last last.here.1.0 last.here.0

-- ---- the points of the lower part

-- the points at which a polynomial at hand is 1, where what they need comes next
module _ {s t : State} {all : List Family} {hs : List (Handle × Family)} (rest : List Family) {h p : Handle} {H P : Family}
    (k : Calls s t s.vars all (ones_list s.vars H P ++ rest) hs) (x : IsAtHand t s.vars h H) (y : IsAtHand t s.vars p P) where
  at_needs : needs_of t Ones h p.0 ≡ working_set s.vars (ones_list s.vars H P)
  at_needs = rw (k.reads.grows.vars, x.0, y.0) (needs_ones s.vars H P p.0)

  at_planned : Covers t.plan (needs_of t Ones h p.0)
  at_planned = call_planned (ones_list s.vars H P) rest k at_needs

  at_found : {u : State} {e : Handle} → Gives t u (Ok e) (ones_of t.vars (family t h) (family t p)) (needs_of t Ones h p.0)
      → Calls s u s.vars all rest ((e, ones_of s.vars H P) ∷ hs)
  at_found given = after_call (ones_list s.vars H P) rest k at_needs
      (rw (k.reads.grows.vars, x.0, y.0) refl) (IsFamily-ones_of s.vars H P) given

-- lists that cover each other do so behind a list
behind : (xs ys zs : List Family) → Covers ys zs → Covers (xs ++ ys) (xs ++ zs)
behind xs ys zs all = covers_lists _ xs zs (λ f i. Has-append_left xs ys f i) (λ f i. Has-append_right xs ys f (all f i))

-- the families of the lower part, in the order of the calls and in that of the list
as_called : (e f a b c d g h : Family) → Covers (e ∷ f ∷ a ∷ b ∷ c ∷ d ∷ g ∷ h ∷ []) (e ∷ f ∷ c ∷ a ∷ g ∷ d ∷ b ∷ h ∷ [])
as_called e f a b c d g h = search (covers_more, covers_nothing, Has-head, Has-tail) depth 20 fits 4000

as_listed : (e f a b c d g h : Family) → Covers (e ∷ f ∷ c ∷ a ∷ g ∷ d ∷ b ∷ h ∷ []) (e ∷ f ∷ a ∷ b ∷ c ∷ d ∷ g ∷ h ∷ [])
as_listed e f a b c d g h = search (covers_more, covers_nothing, Has-head, Has-tail) depth 20 fits 4000

-- what a call of replaced asks for
abbrev pub Asked : State → Handle → Handle → Handle → Handle → Type 0 → Type 0
Asked t a b p q R = record {
  known : Knows t a × Knows t b × Knows t p × Knows t q;
  planned : Covers t.plan (working_set t.vars (replaced_list t.vars (family t a) (family t b) (family t p) (family t q)));
  ready : R;
}

-- what it gave
abbrev pub GivesSwapped : State → State → Handle → Handle → Handle → Handle → Handle → Type 0
GivesSwapped t u z a b p q = Gives t u (Ok z) (replaced_of t.vars (family t a) (family t b) (family t p) (family t q))
    (working_set t.vars (replaced_list t.vars (family t a) (family t b) (family t p) (family t q)))

swap_asked : {s t : State} {all : List Family} {hs : List (Handle × Family)} (rest : List Family) {a b p q : Handle} {A B C D : Family}
    {R : Type 0} → Calls s t s.vars all (replaced_list s.vars A B C D ++ rest) hs → IsAtHand t s.vars a A → IsAtHand t s.vars b B
    → IsAtHand t s.vars p C → IsAtHand t s.vars q D → R → Asked t a b p q R
swap_asked {t = t} rest {a} {b} {p} {q} {A} {B} {C} {D} k x y z w ready = record {
  known = (Denotes-knows t a A x.0, Denotes-knows t b B y.0, Denotes-knows t p C z.0, Denotes-knows t q D w.0);
  planned = call_on_planned replaced_list rest k x y z w;
  ready = ready;
}

module _ {s : State} {c : Cofactors} (p : Handle) {R : Type 0} (sound : IsSound s) (call : record {
  known : AreKnown s c;
  h : Knows s p;
  planned : Covers s.plan
      (working_set s.vars (lower_list s.vars (family s p) (family s c.a_low) (family s c.a_high) (family s c.b_low) (family s c.b_high)));
  ready : R;
}) where
  abbrev E : Family
  E = ones_of s.vars (family s p) (family s c.a_high)

  abbrev B : Family
  B = ones_of s.vars (family s p) (family s c.b_high)

  abbrev first_list : List Family
  first_list = replaced_list s.vars (family s c.a_low) B (family s c.a_high) E

  abbrev second_list : List Family
  second_list = replaced_list s.vars (family s c.b_low) E (family s c.b_high) B

  -- in t these families are still to be found, and these handles were
  abbrev In : State → List Family → List (Handle × Family) → Type 0
  In t rest hs = Calls s t s.vars
      (lower_list s.vars (family s p) (family s c.a_low) (family s c.a_high) (family s c.b_low) (family s c.b_high)) rest
      (hs ++ (p, family s p) ∷ four c (family s c.a_low) (family s c.a_high) (family s c.b_low) (family s c.b_high))

  pub lower_start : In s (ones_list s.vars (family s p) (family s c.a_high)
      ++ (ones_list s.vars (family s p) (family s c.b_high) ++ (E ∷ B ∷ (first_list ++ (second_list ++ []))))) []
  lower_start = let k = four_at_hand sound call.known call.planned in
      calls_in_order (calls_start k.reads k.le k.planned refl (known_at_hand sound call.h, k.here))
      (behind (ones_list s.vars (family s p) (family s c.a_high)) _ _ (behind (ones_list s.vars (family s p) (family s c.b_high)) _ _
      (as_called _ _ _ _ _ _ _ _)))
      (behind (ones_list s.vars (family s p) (family s c.a_high)) _ _ (behind (ones_list s.vars (family s p) (family s c.b_high)) _ _
      (as_listed _ _ _ _ _ _ _ _)))

  pub first_ones_planned : Covers s.plan (needs_of s Ones p c.a_high.0)
  first_ones_planned = let k = lower_start in at_planned _ k k.here.0 k.here.1.1.0

  -- t is the state after ones_of gave e
  module _ {t : State} {e : Handle} (one : Gives s t (Ok e) E (needs_of s Ones p c.a_high.0)) where
    pub first_ones : In t (ones_list s.vars (family s p) (family s c.b_high) ++ (E ∷ B ∷ (first_list ++ (second_list ++ [])))) ((e, E) ∷ [])
    first_ones = let k = lower_start in at_found _ k k.here.0 k.here.1.1.0 one

    pub second_ones_planned : Covers t.plan (needs_of t Ones p c.b_high.0)
    second_ones_planned = let k = first_ones in at_planned _ k k.here.1.0 k.here.1.1.1.1.1.0

    -- u is the state after it gave f
    module _ {u : State} {f : Handle} (sound_u : IsSound u)
        (two : Gives t u (Ok f) (ones_of t.vars (family t p) (family t c.b_high)) (needs_of t Ones p c.b_high.0)) where
      pub second_ones : In u (first_list ++ (second_list ++ [])) ((f, B) ∷ (e, E) ∷ [])
      second_ones = let k = first_ones in let next = at_found _ k k.here.1.0 k.here.1.1.1.1.1.0 two in
          found_at_hand sound_u (found_at_hand sound_u next next.here.1.0) next.here.0

      pub zeros_asked : {T : Type 0} → T → Asked u c.a_low f c.a_high e T
      zeros_asked = let k = second_ones in swap_asked _ k k.here.1.1.1.0 k.here.0 k.here.1.1.1.1.0 k.here.1.0

      -- v is the state after the zeros z were found
      module _ {v : State} {z : Handle} (three : GivesSwapped u v z c.a_low f c.a_high e) where
        pub zeros_swapped : In v (second_list ++ [])
            ((z, lower_of s.vars (family s p) (family s c.a_low) (family s c.a_high) (family s c.b_high)) ∷ (f, B) ∷ (e, E) ∷ [])
        zeros_swapped = let k = second_ones in
            after_call_on replaced_list _ k k.here.1.1.1.0 k.here.0 k.here.1.1.1.1.0 k.here.1.0 replaced_of
            (IsFamily-combine _ s.vars _ _) three

        pub ones_asked : {T : Type 0} → T → Asked v c.b_low e c.b_high f T
        ones_asked = let k = zeros_swapped in swap_asked [] k k.here.1.1.1.1.1.1.0 k.here.1.1.0 k.here.1.1.1.1.1.1.1.0 k.here.1.0

        pub lower_gives : {w : State} {o : Handle} → GivesSwapped v w o c.b_low e c.b_high f
            → GivesPoints s w (Ok (record { zeros = z; ones = o }))
            (lower_of s.vars (family s p) (family s c.a_low) (family s c.a_high) (family s c.b_high))
            (lower_of s.vars (family s p) (family s c.b_low) (family s c.b_high) (family s c.a_high))
            (working_set s.vars
            (lower_list s.vars (family s p) (family s c.a_low) (family s c.a_high) (family s c.b_low) (family s c.b_high)))
        lower_gives four' = let k = zeros_swapped in
            let last = after_call_on replaced_list [] k k.here.1.1.1.1.1.1.0 k.here.1.1.0 k.here.1.1.1.1.1.1.1.0 k.here.1.0 replaced_of
            (IsFamily-combine _ s.vars _ _) four' in
            points_end last last.here.1.0 last.here.0
