-- Worked examples, by computation; the numbers of families were found by hand or by another program.
use Rattle.std.proofs.Common.{◌≡◌, ◌^◌, ◌<◌, true, false, subst, lit<, ℕ, [], ◌∷◌, List, length, map, refl}
use Rattle.lattice.specs.Words.{includes, combine, family_where, numbers_below, has, divides, value, ones_of, low_cofactor, high_cofactor}
use Rattle.lattice.specs.Words.{join, sub, IsLeast, interpolate, upper_zeros, upper_ones, lower_points, standard_of, has_divisors, leads_of}
use Rattle.lattice.specs.Words.{normal_form_of, basis_element_of, cube, cover, rows_with, points_where, in_cube, working_set, distinct}
use Rattle.lattice.specs.Words.{ones_list, interpolation_list, standard_list, leads_list, normal_form_list, basis_element_list, cover_list}
use Rattle.lattice.specs.Words.{care_list, output_list, output_basis_list, first_phase, second_phase}
use Rattle.lattice.specs.declared.row.Row.{Row}
use Rattle.lattice.specs.declared.kind.Kind.{Kind}
use Rattle.lattice.specs.declared.kind.Kind.TheVariants.{F, Fd, Fr, Fdr}
use Rattle.lattice.specs.declared.kind.Mode.TheVariants.{Anf, Basis}
use Rattle.std.proofs.lemmas.List.Elements.{All-nil, All-cons}
use Rattle.lattice.proofs.Least.{disjoint_from_test, IsLeast-interpolate}

-- x1 divides x1*x2 and not x2
divides_table : map (divides 2) (0 ∷ 1 ∷ 2 ∷ 3 ∷ []) ≡ false ∷ false ∷ true ∷ true ∷ []
unfolding divides
divides_table = refl

-- the values of x1*x2 + x1 + x2 at the points 0 to 3 are those of `or`, and those of a*b + a*cin + b*cin those of the carry of a full adder
value_tables : map (value (1 ∷ 2 ∷ 3 ∷ [])) (0 ∷ 1 ∷ 2 ∷ 3 ∷ []) ∷ map (value (3 ∷ 5 ∷ 6 ∷ [])) (0 ∷ 1 ∷ 2 ∷ 3 ∷ 4 ∷ 5 ∷ 6 ∷ 7 ∷ []) ∷ []
    ≡ (0 ∷ 1 ∷ 1 ∷ 1 ∷ []) ∷ (0 ∷ 0 ∷ 0 ∷ 1 ∷ 0 ∷ 1 ∷ 1 ∷ 1 ∷ []) ∷ []
unfolding value divides
value_tables = refl

-- the least polynomials of the worked rows
least : ℕ → List ℕ → List ℕ → List ℕ
unfolding interpolate upper_zeros upper_ones lower_points ones_of combine family_where numbers_below low_cofactor high_cofactor join has
    value divides
least = interpolate

one_row : interpolate 2 (0 ∷ []) (3 ∷ []) ≡ 1 ∷ []
unfolding least
one_row = refl

sum_and_carry : least 2 (0 ∷ 3 ∷ []) (2 ∷ []) ∷ least 3 (0 ∷ 1 ∷ 2 ∷ 4 ∷ []) (3 ∷ 5 ∷ 6 ∷ 7 ∷ []) ∷ [] ≡ (1 ∷ 2 ∷ []) ∷ (3 ∷ 5 ∷ 6 ∷ []) ∷
    []
unfolding least
sum_and_carry = refl

-- x2 is the least polynomial that is 0 at 00 and 1 at 11, and x1 is greater
second_variable_is_least : IsLeast 2 (0 ∷ []) (3 ∷ []) (1 ∷ [])
second_variable_is_least =
    subst (IsLeast 2 (0 ∷ []) (3 ∷ [])) one_row
    (IsLeast-interpolate 2 (0 ∷ []) (3 ∷ []) (All-cons (λ a. a < 2 ^ 2) 0 [] (lit< tt) (All-nil (λ a. a < 2 ^ 2)))
    (All-cons (λ a. a < 2 ^ 2) 3 [] (lit< tt) (All-nil (λ a. a < 2 ^ 2))) (disjoint_from_test (0 ∷ []) (3 ∷ []) refl))

-- ---- working sets

-- how many families the working sets have: of phase 1 for polynomials alone, of phase 1 in mode basis, of phase 2 in mode basis
counts : ℕ → ℕ → Kind → List Row → List ℕ
unfolding working_set distinct ones_list interpolation_list standard_list leads_list normal_form_of normal_form_list basis_element_list
    cover_list care_list output_list output_basis_list first_phase second_phase sub includes interpolate upper_zeros
    upper_ones lower_points ones_of standard_of has_divisors leads_of basis_element_of combine family_where numbers_below low_cofactor
    high_cofactor join has value divides cube cover rows_with points_where in_cube
counts n outputs kind rows =
    length (working_set n (first_phase n outputs kind rows Anf)) ∷ length (working_set n (first_phase n outputs kind rows Basis))
    ∷ length (working_set n (second_phase n outputs kind rows Basis)) ∷ []

-- type fd without rows: n families, in mode basis too
nothing : map (λ n. counts n 1 Fd []) (1 ∷ 2 ∷ 3 ∷ 4 ∷ []) ≡ (1 ∷ 1 ∷ 1 ∷ []) ∷ (2 ∷ 2 ∷ 2 ∷ []) ∷ (3 ∷ 3 ∷ 3 ∷ []) ∷ (4 ∷ 4 ∷ 4 ∷ []) ∷ []
unfolding counts
nothing = refl

-- a cube of the points with these bits, and its marks
abbrev row : ℕ → ℕ → ℕ → ℕ → ℕ → ℕ → Row
row line care value on off dc = record { line = line; care = care; value = value; on = on; off = off; dc = dc }

-- type fr with one row, of ones alone: n families, and 2n - 1 in mode basis before the basis
all_ones : map (λ (p : ℕ × ℕ). counts p.0 1 Fr (row 1 p.1 p.1 1 0 0 ∷ [])) ((2, 3) ∷ (3, 7) ∷ (4, 15) ∷ [])
    ≡ (2 ∷ 3 ∷ 6 ∷ []) ∷ (3 ∷ 5 ∷ 10 ∷ []) ∷ (4 ∷ 7 ∷ 14 ∷ []) ∷ []
unfolding counts
all_ones = refl

-- descriptions over three inputs, of each type; the numbers are those of an independent program
three_inputs : counts 3 1 F (row 1 6 6 1 0 0 ∷ row 2 5 5 1 0 0 ∷ row 3 3 3 1 0 0 ∷ [])
    ∷ counts 3 1 Fr (row 1 7 0 0 1 0 ∷ row 2 6 6 1 0 0 ∷ [])
    ∷ counts 3 2 Fdr (row 1 5 0 2 1 0 ∷ row 2 6 6 1 0 2 ∷ row 3 3 1 0 2 1 ∷ row 4 7 5 1 2 0 ∷ [])
    ∷ counts 3 1 Fd (row 1 4 4 1 0 0 ∷ row 2 3 3 0 0 1 ∷ []) ∷ counts 3 1 Fr (row 1 5 0 1 0 0 ∷ row 2 6 6 0 1 0 ∷ row 3 7 5 1 0 0 ∷ []) ∷ []
    ≡ (18 ∷ 18 ∷ 18 ∷ []) ∷ (4 ∷ 10 ∷ 16 ∷ []) ∷ (12 ∷ 19 ∷ 25 ∷ []) ∷ (11 ∷ 12 ∷ 12 ∷ []) ∷ (11 ∷ 17 ∷ 24 ∷ []) ∷ []
unfolding counts
three_inputs = refl
