-- One list of least points belongs to a circuit.
use Rattle.std.proofs.Common.{◌≡◌, ℕ, List, [], ◌∷◌, Option, refl}
use Rattle.std.specs.List.{AllZip}
use Rattle.aig_reader.specs.Circuit.{Circuit}
use Rattle.circuit_solve.specs.Care.{asked}
use Rattle.circuit_solve.specs.Ones.{AreLeastOnes, IsLeastOne}
use Rattle.circuit_solve.proofs.Solutions.{least_one_unique}

module _ (c : Circuit) (care : Option ℕ) where
  all_once : (literals : List ℕ) (a b : List (Option ℕ)) → AllZip (IsLeastOne c care) literals a → AllZip (IsLeastOne c care) literals b
      → a ≡ b
  all_once [] [] [] x y = refl
  all_once [] [] (q ∷ b) x y = absurd y
  all_once [] (p ∷ a) b x y = absurd x
  all_once (l ∷ ls) [] b x y = absurd x
  all_once (l ∷ ls) (p ∷ a) [] x y = absurd y
  all_once (l ∷ ls) (p ∷ a) (q ∷ b) x y =
      let first = least_one_unique c care l p q x.0 y.0 in let rest = all_once ls a b x.1 y.1 in cc

  pub least_ones_once : (a b : List (Option ℕ)) → AreLeastOnes c care a → AreLeastOnes c care b → a ≡ b
  least_ones_once = all_once (asked c care)
