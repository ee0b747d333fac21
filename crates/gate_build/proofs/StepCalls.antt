-- The calls of one step, one after the other.
use Rattle.std.proofs.Common.{◌≡◌, ◌/◌, ◌%◌, ℕ, List, [], ◌∷◌, ◌++◌, Result, Ok, Err, refl, sym, ap, append-nil, arith}
use Rattle.lattice.specs.Words.{Family, IsFamily, product_list, product_of, sum_of, working_set}
use Rattle.node_store.specs.Stores.{State, family, IsSound, IsPlanned, Gives, Builds, needs_of}
use Rattle.node_store.specs.declared.store.Handle.{Handle}
use Rattle.node_store.specs.declared.store.Full.{Full}
use Rattle.node_store.proofs.StoreLaws.{Grows-family, known_after, one_family, Reads-refl}
use Rattle.set_algebra.proofs.Calls.{Calls, IsAtHand, after_built, built_planned, calls_start, call_failed, handle_end}
use Rattle.bool_poly.proofs.OnesLemmas.{product_found}
use Rattle.lattice.specs.declared.op.Op.TheVariants.{Product}
use Rattle.aig_reader.specs.declared.circuit.Gate.{Gate}
use Rattle.gate_build.specs.declared.steps.Choice.{Choice}
use Rattle.gate_build.specs.declared.steps.Pair.{Pair}
use Rattle.gate_build.specs.declared.steps.Step.TheVariants.{And, Xor, Mux}
use Rattle.gate_build.specs.Polynomials.{at_literal}
use Rattle.gate_build.specs.Steps.{step_list}
use Rattle.gate_build.specs.Built.{KnowsLiteral, PlansStep, handle_of, literal_family}
use Rattle.gate_build.proofs.GateLemmas.{IsFamily-at_literal, at_literal-same}

-- ---- a literal by the handle of its variable

pub literal_even : (s : State) (handles : List Handle) (l : ℕ) → l % 2 ≡ 0
    → literal_family s handles l ≡ family s (handle_of handles (l / 2))
unfolding at_literal
literal_even s handles l even = rw even

pub literal_odd : (s : State) (handles : List Handle) (l : ℕ) → IsSound s → (l % 2 ≡ 0 → ⊥)
    → literal_family s handles l ≡ sum_of s.vars (family s (handle_of handles (l / 2))) (family s (record { 0 = 1 }))
unfolding at_literal
literal_odd s handles l sound odd = let is : l % 2 ≡ 1 = omega arith in rw (is, one_family (record { 0 = 1 }) sound refl)

-- ---- steps

module _ {s : State} (handles : List Handle) (sound : IsSound s) where
  abbrev of : ℕ → Family
  of = literal_family s handles

  of_fits : (l : ℕ) → KnowsLiteral s handles l → IsFamily s.vars (of l)
  of_fits l known = IsFamily-at_literal s.vars (λ v. family s (handle_of handles v)) l
      (known_after s (handle_of handles (l / 2)) sound known.known)

  -- the polynomial of a literal comes next
  module _ {t : State} {all rest : List Family} {hs : List (Handle × Family)} (l : ℕ) (known : KnowsLiteral s handles l)
      (k : Calls s t s.vars all (of l ∷ rest) hs) where
    literal_same : literal_family t handles l ≡ of l
    literal_same = rw k.reads.grows.vars (at_literal-same s.vars (λ v. family t (handle_of handles v)) (λ v. family s (handle_of
        handles v)) l
        (Grows-family s t (handle_of handles (l / 2)) k.reads.grows known.known))

    pub literal_planned : IsPlanned t (literal_family t handles l)
    literal_planned = built_planned k literal_same

    pub literal_found : {u : State} {h : Handle} → Builds t u (Ok h) (literal_family t handles l)
        → Calls s u s.vars all rest ((h, of l) ∷ hs)
    literal_found built = after_built k literal_same (of_fits l known) built

  -- ---- before the first call

  pub and_start : (g : Gate) → PlansStep s handles (And g) → Calls s s s.vars (step_list s.vars of (And g))
      (of g.left ∷ of g.right ∷ (product_list s.vars (of g.left) (of g.right) ++ [])) []
  and_start g planned = calls_start (Reads-refl s) (omega arith) planned
      (ap (λ (fs : List Family). of g.left ∷ of g.right ∷ fs) (sym (append-nil (product_list s.vars (of g.left) (of g.right))))) tt

  pub xor_start : (p : Pair) → PlansStep s handles (Xor p) → Calls s s s.vars (step_list s.vars of (Xor p))
      (of p.left ∷ of p.right ∷ sum_of s.vars (of p.left) (of p.right) ∷ []) []
  xor_start p planned = calls_start (Reads-refl s) (omega arith) planned refl tt

  pub mux_start : (c : Choice) → PlansStep s handles (Mux c) → (let differ = sum_of s.vars (of c.one) (of c.zero) in
      Calls s s s.vars (step_list s.vars of (Mux c)) (of c.select ∷ of c.one ∷ of c.zero ∷ differ ∷ (product_list s.vars (of c.select)
      differ
      ++ sum_of s.vars (of c.zero) (product_of s.vars (of c.select) differ) ∷ [])) [])
  mux_start c planned = calls_start (Reads-refl s) (omega arith) planned refl tt

-- the last call of a product
pub product_end : {s t u : State} {all : List Family} {hs : List (Handle × Family)} {x y : Handle} {A B : Family}
    (k : Calls s t s.vars all (product_list s.vars A B ++ []) hs) → IsAtHand t s.vars x A → IsAtHand t s.vars y B → (r : Result Handle Full)
    → Gives t u r (product_of t.vars (family t x) (family t y)) (needs_of t Product x y.0)
    → Gives s u r (product_of s.vars A B) (working_set s.vars all)
product_end k l r (Ok h) given = let found = product_found [] k l r given in handle_end found found.here.0
product_end k l r (Err e) given = call_failed k refl given
