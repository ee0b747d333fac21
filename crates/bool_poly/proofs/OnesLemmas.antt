-- What callers use of the points at which a polynomial is 1, and of products. The comment above each lemma says what it gives.
-- the list and the points over more variables than the polynomial and the points have
pub use Rattle.bool_poly.proofs.Families.{ones_list-narrow, ones_of-narrow}
-- what finding them needs: by the list, under a plan that has every family, and for a single monomial, where they are those that it divides
pub use Rattle.bool_poly.proofs.Families.{needs_ones, any_ones_set, covers_single, ones_of-single}
-- they may be asked of a later state, and are the same there, as the second half is
pub use Rattle.bool_poly.proofs.Halving.{ones_later, same_ones, same_with}
-- the second half in a state that knows as much, the points once there is the sum of both parts, the second half as a whole, and the end
pub use Rattle.bool_poly.proofs.Steps.{with_later, sum_asks, with_after, ones_finish}
-- the product is a family, and what it needs under a plan that has every family
pub use Rattle.bool_poly.proofs.Families.{IsFamily-product_of, any_product_list}
-- a polynomial is given by its values
pub use Rattle.bool_poly.proofs.Families.{same_values}
-- calls for a product and for a sum of two polynomials at hand, which come next
pub use Rattle.bool_poly.proofs.Steps.{product_asked, product_found, sum_asked}
