-- What other crates use of the laws of families, points and polynomials: membership, cofactors, values, least polynomials, standard
-- monomials, leads, reduced bases and ideals; and of those of lists and numbers, which are in std's words alone. The comment above each
-- lemma says what it gives.
-- Members of a list.
pub use Rattle.lattice.proofs.Families.{has-nil, has-cons, has_none, has_head, has_tail, has_other, has_cases, has-append, has-filter}
-- Members of a list that is lowered, and of one with one more element.
pub use Rattle.lattice.proofs.Families.{has_lowered, has_push_same, has_push_other, has_more_same, has_more_other}
-- What holds of all elements.
pub use Rattle.lattice.proofs.Families.{All-has, All-from_has, terms_below}
-- Lists that ascend strictly.
pub use Rattle.lattice.proofs.Families.{ascends-nil, ascends-cons, ascends_tail, ascends_head, ascends-append}
-- Families by their bound and members.
pub use Rattle.lattice.proofs.Families.{is_family, below_bound, not_above_bound, same_below, IsFamily_wider}
-- The numbers below n.
pub use Rattle.lattice.proofs.Families.{has-numbers_below, length-numbers_below}
-- Families by a test.
pub use Rattle.lattice.proofs.Families.{IsFamily-family_where, has-family_where, has-family_where_below}
-- Families by tests that agree.
pub use Rattle.lattice.proofs.Families.{family_where_has, family_where-agree, family_where-none}
-- Two families combined.
pub use Rattle.lattice.proofs.Families.{IsFamily-combine, has-combine}
-- Cofactors.
pub use Rattle.lattice.proofs.Cofactors.{IsFamily-low_cofactor, IsFamily-high_cofactor, has-low_cofactor, has-high_cofactor}
-- Joins.
pub use Rattle.lattice.proofs.Cofactors.{IsFamily-join, has-join_low, has-join_high, join_member}
-- Which monomials divide which points, and each other.
pub use Rattle.lattice.proofs.Values.{divides_high_point, divides_high_monomial, divides_both_high, divides_by_bits, divides_trans}
-- How many monomials of a polynomial divide a point.
unfoldable pub use Rattle.lattice.proofs.Values.{count}
-- Laws of these counts.
pub use Rattle.lattice.proofs.Values.{count-append, count-cons, count_agree, count_join_low, count_join_high, value-count}
-- Values.
pub use Rattle.lattice.proofs.Values.{value_cases, value-lt, value-nil, value-one}
-- Values by cofactors, and of one monomial.
pub use Rattle.lattice.proofs.Values.{value-single, value_join_low, value_join_high, value-at_high, value-at_low}
-- Empty and constant families, and sums over fewer variables.
pub use Rattle.lattice.proofs.Values.{empty_is, not_constant, sum_after, sum_narrow, value-sum}
-- Two lists of points, cut at the greatest variable.
pub use Rattle.lattice.proofs.Least.{IsCut, upper_part, lower_part, some_member, some_variable, disjoint_from_test}
-- Least polynomials.
pub use Rattle.lattice.proofs.Least.{IsLeast-unique, IsLeast-zero, IsLeast-one, IsLeast_step, IsLeast-interpolate, IsFamily-interpolate}
-- The two parts of the recursion.
pub use Rattle.lattice.proofs.Least.{upper, lower, upper_disjoint, lower_disjoint, IsFamily-ones_of}
-- What the recursion gives at its ends, and over more variables.
pub use Rattle.lattice.proofs.Least.{zero_is_least, one_is_least, interpolate-narrow, listed-next}
-- What the recursion needs.
pub use Rattle.lattice.proofs.Least.{no_ones, no_zeros, none_left, skipped, interpolation_list-narrow}
-- Standard monomials and least polynomials.
pub use Rattle.lattice.proofs.Standard.{IsLeast-standard, IsLeast-from_standard, divides_le, standard_more, standard_divisor}
-- The family of the standard monomials.
pub use Rattle.lattice.proofs.Standard.{standard_of_family, standard_of_to, length-standard_of, standard_from_count, length_where}
-- Divisors.
pub use Rattle.lattice.proofs.Results.{divides_zero, divides_self, has_divisor, list_all_has, weight_below}
-- Standard monomials and leads.
pub use Rattle.lattice.proofs.Results.{standard_by_recursion, IsFamily-leads_of, leads_are_minimal, leads_by_recursion}
-- The points of either half, and those of both.
pub use Rattle.lattice.proofs.Standard.{either, both}
-- Standard monomials over more variables, of constants, and cut at the first variable.
pub use Rattle.lattice.proofs.Staircases.{standard_of-narrow, standard_of-constant, standard_of-join, standard_of-members}
-- What finding them needs.
pub use Rattle.lattice.proofs.Staircases.{standard_split, standard_list-narrow, standard_list-split, needs-standard, needs-constant}
-- Leads where no monomial is given, where all are, and cut at a variable.
pub use Rattle.lattice.proofs.Staircases.{leads_of-nil, leads_of-all, leads_of-join, kept_of, unit_only, low_closed, high_closed}
-- What finding leads needs.
pub use Rattle.lattice.proofs.Staircases.{leads_split, leads_list-split, needs-leads, needs-nil, needs-none_left}
-- Plans with every family have both.
pub use Rattle.lattice.proofs.Staircases.{any_standard_list, any_leads_list}
-- Normal forms and basis elements.
pub use Rattle.lattice.proofs.Results.{split_at, IsLeast-normal_form_of, IsBasisElement-basis_element_of}
-- The reduced basis, and polynomials by their values.
pub use Rattle.lattice.proofs.Results.{reduced_basis_exists, IsReducedBasis-unique, polynomial_by_values, product_by_values}
-- Care points.
pub use Rattle.lattice.proofs.Results.{IsFamily-care_set, care_points_disjoint, consistent_by_rows}
-- Ideals of points.
pub use Rattle.lattice.proofs.Ideals.{basis_same, intersection_law, sum_law}
-- Powers of two, and their bits.
pub use Rattle.lattice.proofs.NumberLaws.{by_halves, max_is_one, twice, weight_bit}
-- The answers of tests.
pub use Rattle.lattice.proofs.NumberLaws.{only_below, or_second, or_third, positive}
-- Elements of lists.
pub use Rattle.lattice.proofs.ListLaws.{All-from_map, at_or, contains_cases, contains_filter, drop_next, none_before}
-- Lists that are put together.
pub use Rattle.lattice.proofs.ListLaws.{ascend_push, concat-line, enumerate_from-append, left_nil, reverse_cons, some_more}
-- Lists that are empty.
pub use Rattle.lattice.proofs.ListLaws.{empty_from_test, nonempty_from_test}
-- How many elements pass a test, whether one does, and which is the first.
pub use Rattle.lattice.proofs.ListLaws.{any_either, any_kept, any_push, counts_none, first_or_len, place_within}
-- Two lists, place by place.
pub use Rattle.lattice.proofs.ListLaws.{zip_at, zip_fold, zip_from, zip_weaker}
-- A last element that is taken off.
pub use Rattle.lattice.proofs.ListLaws.{strip_last-append, strip_last-cons, strip_last-cons₂, strip_one}
-- Options.
pub use Rattle.lattice.proofs.ListLaws.{is_some_given, map_or, or_none, value_given}
-- Results.
pub use Rattle.lattice.proofs.ListLaws.{ok_is, err_is, same_error, on_err}
