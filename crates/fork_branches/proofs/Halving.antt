-- How the workers of a crew are halved.
use Rattle.std.proofs.Common.{◌≡◌, ℕ, ◌+◌, ◌-◌, ◌*◌, ◌/◌, ◌≤◌, ap, arith}
use Rattle.std.proofs.Math.Nat.{add-mul}

-- the workers of two halves
pub workers_add : (k each more front : ℕ) → front ≤ more → (k - k / 2) * each + front + (k / 2 * each + (more - front)) ≡ k * each + more
workers_add k each more front le =
    let whole : k - k / 2 + k / 2 ≡ k = omega arith in
    omega (arith, add-mul (k - k / 2) (k / 2) each, ap (λ n. n * each) whole, le)
