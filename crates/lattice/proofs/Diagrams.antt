-- What other crates use of the laws of diagrams: lists of families, subfamilies and levels, families combined, working sets, and tables of
-- nodes. The comment above each lemma says what it gives.
-- Lists of families.
pub use Rattle.lattice.proofs.Families.{Has-nil, Has-cases, Has-head, Has-tail, Has-append_left, Has-append_right, Has-append_cases}
-- Distinct lists.
pub use Rattle.lattice.proofs.Families.{Has_at, index_of, distinct_from, none_of, covered_length}
-- Lists behind a map or with one element more, and lists of zeros.
pub use Rattle.lattice.proofs.ListLaws.{get_map, get_cases, no_word}
-- The two constants.
pub use Rattle.lattice.proofs.Families.{IsFamily-nil, IsFamily-unit}
-- Empty families.
pub use Rattle.lattice.proofs.Cofactors.{cases_empty, not_empty}
-- What is steady, and what `1 << k` computes.
pub use Rattle.lattice.proofs.NumberLaws.{steady, weight_is}
-- Cofactors and joins.
pub use Rattle.lattice.proofs.Cofactors.{high_cofactor_none, low_cofactor_whole, join-nil, join_cofactors_suc, IsFamily-join_suc}
-- The parts of a join, and the family of one number.
pub use Rattle.lattice.proofs.Cofactors.{join_parts, low_cofactor-join, high_cofactor-join, IsFamily-single, single-join}
-- Subfamilies.
pub use Rattle.lattice.proofs.Cofactors.{sub-zero, sub-nil, sub-empty, sub-full, sub-narrow, sub-low_cofactor, sub-high_cofactor}
-- Subfamilies of a join.
pub use Rattle.lattice.proofs.Cofactors.{sub-join_low, sub-join_high, sub-join_self, sub-join_cases}
-- Levels.
pub use Rattle.lattice.proofs.Cofactors.{level-nil, level-unit, level-empty, level-le, level-narrow, level-below, level-join, join_level}
-- Families by their level, and all numbers below 2 ^ n.
pub use Rattle.lattice.proofs.Cofactors.{IsFamily_level, IsFamily-power, has-power, power-zero, power-some, power-join, power_whole}
-- Two families combined over more variables.
pub use Rattle.lattice.proofs.Cofactors.{combine-narrow, combine-join, combine-low_after, combine-high_after}
-- What two families combined cover.
pub use Rattle.lattice.proofs.Cofactors.{combine-covers_low, combine-covers_high}
-- Families combined with themselves.
pub use Rattle.lattice.proofs.Pointwise.{combine-same, combine-same_lost}
-- Families combined with the empty one.
pub use Rattle.lattice.proofs.Pointwise.{combine-right_empty, combine-right_empty_lost, combine-left_empty, combine-left_empty_lost}
-- The pointwise operations.
pub use Rattle.lattice.proofs.Pointwise.{includes-needs, test_none, answer-pointwise, IsAllowed-pointwise}
-- The operands of the pointwise operations.
pub use Rattle.lattice.proofs.Pointwise.{takes_family-pointwise, takes_variable-pointwise}
-- What families cover.
pub use Rattle.lattice.proofs.WorkingSets.{Has-all_of, covers_sub, covers_each, covers_family, covers_part, covers_append, covers_cons}
-- What families cover of the parts of a list.
pub use Rattle.lattice.proofs.WorkingSets.{covers_nil, covers_one, covers_head, covers_tail, covers_left, covers_right}
-- Lists that cover others.
pub use Rattle.lattice.proofs.WorkingSets.{covers_nothing, covers_more, covers_lists, part_at}
-- What working sets are.
pub use Rattle.lattice.proofs.WorkingSets.{working_set_members, working_set_is_node_list, working_set_is_distinct}
-- The places of probe paths.
pub use Rattle.lattice.proofs.Paths.{path_is_whole, place_below, slots_in_lines}
-- The number of slots.
pub use Rattle.lattice.proofs.Tables.{shifted_one, slots_most}
-- Filled slots, and filling one.
pub use Rattle.lattice.proofs.Tables.{fills, filling_grows, grows_handle, grows_filled, filled_within, none_filled, node_some}
-- What handles denote.
pub use Rattle.lattice.proofs.Tables.{denoted, denotes_grows, denotes_handle, denotes_one, high_after, low_after, slot_level, some_members}
-- One handle for each family.
pub use Rattle.lattice.proofs.Tables.{one_handle, variables_from, known_one, union_agrees, held_fits, stored_grows, true_word_stays}
-- Sound tables.
pub use Rattle.lattice.proofs.SoundTables.{result_handle, sound_on, sound_table, sound_word}
-- Histories.
pub use Rattle.lattice.proofs.Histories.{refused-append, legal, fits_append, fits_grows, IsLegal-prop, met_slot, slot_holds}
-- Counts of refusals.
pub use Rattle.lattice.proofs.Histories.{refusals_of-append, refusals_of-below, refusals_of-grows, refusals_of-quiet, refusals_of-refused}
-- The parts of a node's word.
pub use Rattle.lattice.proofs.WordParts.{hi_of-word, lo_of-word, same_word, var_of-word}
-- Keys of kept results.
pub use Rattle.lattice.proofs.WordParts.{number_within, same_number, key_below, same_key, cache_place_below, quotient_below}
-- The parts of a kept result's word.
pub use Rattle.lattice.proofs.WordParts.{quotient_of-word, result_of-word}
