-- The arithmetic of a probe path.
use Rattle.std.proofs.Common.{◌≡◌, ℕ, ◌+◌, ◌-◌, ◌*◌, ◌/◌, ◌%◌, ◌^◌, ◌<◌, ◌≤◌, sym, ap, ◌∙◌, subst, pow-add, arith, refl}
use Rattle.std.proofs.Math.Nat.{mod-lt, mod-eq_of_lt}
use Rattle.std.proofs.lemmas.Nat.{pow_pos, div_below}
use Rattle.lattice.specs.Words.{mixing, mixed, stride, line_at, place}
use Rattle.lattice.specs.declared.limits.TheConstants.{MIN_BITS, MAX_BITS, LINE, MIXING}
use Rattle.lattice.proofs.Diagrams.{place_below, shifted_one, slots_in_lines, slots_most}

-- a path starts at a place of the table
pub start_below : (b w : ℕ) → b ≤ MAX_BITS → mixed b w < 2 ^ b
start_below b w le =
    let sum : b + (64 - b) ≡ 64 = omega arith in
    let whole : 2 ^ b * 2 ^ (64 - b) ≡ 2 ^ 64 = sym (pow-add 2 b (64 - b)) ∙ ap (λ (k : ℕ). 2 ^ k) sum in
    div_below (mixing w) (2 ^ (64 - b)) (2 ^ b) (pow_pos (64 - b))
    (subst (λ (k : ℕ). mixing w < k) (sym whole) (mod-lt (w * MIXING) (omega arith)))

module _ (b : ℕ) (least : MIN_BITS ≤ b) (most : b ≤ MAX_BITS) where
  -- there are lines
  pub some_lines : 0 < 1 * 2 ^ b % 18446744073709551616 / LINE
  some_lines = omega (arith, shifted_one b most, slots_in_lines b least, pow_pos (b - 3))

  -- in the first line a path goes on by no stride
  pub first_line : (w d : ℕ) → d < LINE → mixed b w / LINE ≡ line_at b w d
  first_line w d near = let none : d / LINE ≡ 0 = omega arith in
      let same : mixed b w / LINE + d / LINE * stride w ≡ mixed b w / LINE =
      ap (λ (k : ℕ). mixed b w / LINE + k * stride w) none ∙ omega arith in
      let inside : mixed b w / LINE < 2 ^ b / LINE = omega (arith, start_below b w most, slots_in_lines b least) in
      sym (ap (λ (k : ℕ). k % (2 ^ b / LINE)) same ∙ mod-eq_of_lt inside)

-- the place that the line and the start give
pub placed : (b w d line start : ℕ) → line ≡ line_at b w d → start ≡ mixed b w → line * LINE + (start + d) % LINE ≡ place b w d
unfolding place
placed b w d line start is from = λ i. is i * LINE + (from i + d) % LINE

-- the places of a line are small
pub line_fits : (b w d line : ℕ) → MIN_BITS ≤ b → b ≤ MAX_BITS → line ≡ line_at b w d → line * LINE + LINE ≤ 2 ^ 24
line_fits b w d line least most is = let whole = placed b w d line (mixed b w) is refl in
    omega (arith, whole, place_below b w d least, slots_most b most)
