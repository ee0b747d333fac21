-- What a word of a key's place tells, where its quotient is the key's.
use Rattle.std.proofs.Common.{◌≡◌, ◌≢◌, ◌⊎◌, inl, inr, ℕ, ◌+◌, ◌-◌, ◌*◌, ◌/◌, ◌%◌, ◌^◌, ◌<◌, ◌≤◌, arith}
use Rattle.lattice.specs.Words.{cache_bits, cache_place, quotient, result_of, number_of, key_for}
use Rattle.lattice.specs.declared.limits.TheConstants.{HANDLE_UNIT}
use Rattle.lattice.specs.declared.op.Op.{Op}
use Rattle.lattice.proofs.Diagrams.{same_number, key_below, same_key, quotient_of-word, result_of-word, hi_of-word, lo_of-word, var_of-word}
use Rattle.node_store.specs.Stores.{State, AreOperands, IsResult}
use Rattle.node_store.specs.declared.store.Handle.{Handle}
use Rattle.unique_table.specs.Kept.{IsKept}

-- what is left of a word, without what its quotient gives it and the one that tells a result from a vacant word
abbrev pub rest_of : ℕ → ℕ → ℕ
rest_of base w = (w + (18446744073709551616 - (base + 1))) % 18446744073709551616

module _ (q base w : ℕ) (small : q < 2 ^ 40) (is : base ≡ q * HANDLE_UNIT) where
  -- where it is a handle, the word is made of both
  pub word_of_rest : w < 2 ^ 64 → rest_of base w < HANDLE_UNIT - 1 → w ≡ q * HANDLE_UNIT + rest_of base w + 1
  word_of_rest fits near = omega (arith, is, small)

  -- where it is none, the word is vacant or has another quotient
  pub other_of_rest : (s t : State) (bits place : ℕ) → HANDLE_UNIT - 1 ≤ rest_of base w → (w ≡ 0) ⊎ IsKept s t bits place w
      → (w ≡ 0) ⊎ (w / HANDLE_UNIT ≢ q)
  other_of_rest s t bits place far (inl none) = inl none
  other_of_rest s t bits place far (inr kept) =
      let fits = kept.r_fits in let made = (kept.word).word in inr (λ same. omega (arith, fits, made, same, far, is, small))

module _ (s t : State) (bits : ℕ) (op : Op) (a : Handle) (b w : ℕ) (a_fits : a.0 < HANDLE_UNIT) (b_fits : b < HANDLE_UNIT)
    (some : w ≢ 0) (same : w / HANDLE_UNIT ≡ quotient (cache_bits bits) (key_for op a.0 b))
    (word : (w ≡ 0) ⊎ IsKept s t bits (cache_place (cache_bits bits) (key_for op a.0 b)) w) where
  kept : IsKept s t bits (cache_place (cache_bits bits) (key_for op a.0 b)) w
  kept = elim word [ inl none ↦ absurd (some none) | inr is ↦ is ]

  key_is : key_for kept.op kept.a.0 kept.b ≡ key_for op a.0 b
  key_is =
      let own = key_for kept.op kept.a.0 kept.b in
      same_key (cache_bits bits) own (key_for op a.0 b) (key_below kept.op kept.a.0 kept.b kept.a_fits kept.b_fits)
      (key_below op a.0 b a_fits b_fits) (kept.word).there
      (cc (quotient_of-word (cache_bits bits) own kept.r.0 kept.r_fits, (kept.word).word, same))

  op_is : kept.op ≡ op
  op_is =
      let own = var_of-word (number_of kept.op) kept.a.0 kept.b kept.a_fits kept.b_fits in
      same_number kept.op op (cc (own, key_is, var_of-word (number_of op) a.0 b a_fits b_fits))

  a_is : kept.a.0 ≡ a.0
  a_is = cc (lo_of-word (number_of kept.op) kept.a.0 kept.b kept.a_fits kept.b_fits, key_is, lo_of-word (number_of op) a.0 b a_fits b_fits)

  b_is : kept.b ≡ b
  b_is = cc (hi_of-word (number_of kept.op) kept.a.0 kept.b kept.b_fits, key_is, hi_of-word (number_of op) a.0 b b_fits)

  -- the result is the operation's
  pub found_result : AreOperands s op a b → (r : Handle) → r.0 ≡ result_of w → IsResult t op a b r
  found_result operands r is =
      let at = result_of-word (cache_bits bits) (key_for kept.op kept.a.0 kept.b) kept.r.0 kept.r_fits in
      let r_is : kept.r.0 ≡ r.0 = cc (at, (kept.word).word, is) in
      let handle : kept.a ≡ a = λ k. record { 0 = a_is k } in let result : kept.r ≡ r = λ k. record { 0 = r_is k } in
      rw (op_is, handle, b_is, result) at (kept.result (rw handle operands.first)
      (λ takes. rw b_is (operands.second_handle (rw op_is at takes))))
