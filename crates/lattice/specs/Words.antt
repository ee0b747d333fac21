-- The words of the crate on one page: its proofs, and those of its callers, import them from here.
pub use Rattle.lattice.specs.Basis.{IsBasisElement, IsLead, IsReducedBasis, IsSplitBy, IsStandard, ones_at, zeros_at}
unfoldable pub use Rattle.lattice.specs.Basis.{basis_element_of, has_divisors, leads_of, normal_form_of, reduced_basis_of, standard_of}
pub use Rattle.lattice.specs.CacheWords.{IsTrueWord, IsVacantOrTrue, key_for, number_of}
pub use Rattle.lattice.specs.Cofactors.{is_constant, is_empty}
unfoldable pub use Rattle.lattice.specs.Cofactors.{high_cofactor, join, level, low_cofactor, sub}
pub use Rattle.lattice.specs.Counts.{Rose, one_more}
pub use Rattle.lattice.specs.Family.{AreDisjoint, Covers, Family, Has, IsFamily, exactly_one, first_only, inter_of, is_distinct}
pub use Rattle.lattice.specs.Family.{is_node_list, minus_of, power, sum_of, union_of}
unfoldable pub use Rattle.lattice.specs.Family.{combine, divides, family_where, has, includes, numbers_below}
pub use Rattle.lattice.specs.History.{Agrees, FitsFrom, FitsHistory, HoldsWord, IsFullFor, IsLegal, LegalFrom, handles_of, refusals_of}
pub use Rattle.lattice.specs.History.{refused}
pub use Rattle.lattice.specs.Ideals.{Ideal, Intersection, IsElementOf, IsLeadOf, IsReducedBasisOf, IsTop, Polynomials, Sum}
pub use Rattle.lattice.specs.Interpolation.{Fits, IsLeast, IsLowerPart, IsUpperPart}
unfoldable pub use Rattle.lattice.specs.Interpolation.{interpolate, lower_points, upper_ones, upper_zeros}
pub use Rattle.lattice.specs.NodeWords.{cache_bits, cache_word, hi_of, key_at, line_at, lo_of, mixed, mixed_key, mixing}
pub use Rattle.lattice.specs.NodeWords.{node_word, result_of, stride, var_of}
unfoldable pub use Rattle.lattice.specs.NodeWords.{cache_place, place, quotient}
pub use Rattle.lattice.specs.Operations.{IsAllowed, IsClosed, is_pointwise, takes_family, takes_variable, test_of, variable}
unfoldable pub use Rattle.lattice.specs.Operations.{answer, polynomial_where, product_of}
pub use Rattle.lattice.specs.Polynomial.{IsGreatest, IsLess, Vanishes}
unfoldable pub use Rattle.lattice.specs.Polynomial.{ones_of, value}
pub use Rattle.lattice.specs.Rows.{IsConsistent, care_ones, care_zeros, dc_rows, dc_set, is_one, is_zero, off_rows, off_set, on_rows}
pub use Rattle.lattice.specs.Rows.{on_set}
unfoldable pub use Rattle.lattice.specs.Rows.{cover, cube, in_cube, points_where, rows_with}
pub use Rattle.lattice.specs.SoundTables.{HasFamily, IsKeptWord, IsSoundOn, IsSoundTable}
pub use Rattle.lattice.specs.TableLaws.{AgreesWith, ComesOnce, KnownIsOneToOne, PathIsWhole, UnionAgrees, first_known}
pub use Rattle.lattice.specs.Tables.{DenotesIn, IsCanonical, IsFilled, IsHandle, IsNodeWord, IsReached, IsStored, KeepsWords, MayFill}
pub use Rattle.lattice.specs.Tables.{nothing, slot, unit, var_at}
pub use Rattle.lattice.specs.WorkingLists.{care_set, first_rows, is_basis, output_numbers}
unfoldable pub use Rattle.lattice.specs.WorkingLists.{basis_element_list, care_list, cover_list, distinct, first_phase, interpolation_list}
unfoldable pub use Rattle.lattice.specs.WorkingLists.{leads_list, needs, normal_form_list, ones_list, operation_list, output_basis_list}
unfoldable pub use Rattle.lattice.specs.WorkingLists.{output_list, product_list, second_phase, standard_list, working_set}
