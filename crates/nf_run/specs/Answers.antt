-- The answers to queries on a description, and what finding them needs.
use Rattle.std.specs.Prelude.{ℕ, ◌-◌, List, ◌++◌, Result, length, reverse, sum_by, slice_index_or}
use Rattle.std.specs.List.{All, AllZip, flat_map}
use Rattle.lattice.specs.Family.{Family}
use Rattle.lattice.specs.WorkingLists.{working_set}
use Rattle.node_store.specs.Stores.{State, no_handle}
use Rattle.node_store.specs.declared.store.Handle.{Handle}
use Rattle.pla_reader.specs.Reading.{Description}
use Rattle.set_algebra.specs.declared.refusal.TermsRefusal.{TermsRefusal}
use Rattle.cube_build.specs.CarePoints.{HoldsPoints, points_list}
use Rattle.nf_run.specs.Found.{AreFound, SearchGives, output_points}
use Rattle.nf_run.specs.Reduced.{IsReduced, reduced, reduced_list, sum_of_terms}
use Rattle.nf_run.specs.declared.queries.Query.{Query}

-- all care points of the output of a query
abbrev pub points_of : Description → Query → Family
points_of d q = output_points d q.output

-- p is the answer to the query: the least polynomial that has its values at the care points of its output
abbrev pub IsAnswerTo : Description → Query → Family → Type 0
IsAnswerTo d q p = IsReduced d.inputs (points_of d q) (sum_of_terms d.inputs q.terms) p

-- ---- by families

abbrev pub answer_to : Description → Query → Family
answer_to d q = reduced d.inputs (sum_of_terms d.inputs q.terms) (points_of d q)

-- the families that a query needs: its output's care points, and the answer
abbrev pub query_list : Description → Query → List Family
query_list d q = points_list d q.output ++ reduced_list d.inputs q.terms (points_of d q)

abbrev pub queries_list : Description → List Query → List Family
queries_list d queries = flat_map (query_list d) queries

-- the nodes that the answers need, and their terms
abbrev pub query_nodes : Description → List Query → ℕ
query_nodes d queries = length (working_set d.inputs (queries_list d queries))

abbrev pub answer_terms : Description → List Query → ℕ
answer_terms d queries = sum_by (λ q. length (answer_to d q)) queries

-- ---- what was found

-- the care points of the output of each query, by the output's number
abbrev pub HoldsAll : State → Description → List Query → List Handle → Type 0
HoldsAll s d queries points = All (λ q. HoldsPoints s d q.output (slice_index_or points (q.output - 1) no_handle)) queries

-- the handles of the answers, and what they needed is held
abbrev pub AreAnswered : State → Description → List Query → List Handle → Type 0
AreAnswered s d = AreFound s d.inputs (answer_to d) (query_list d)

-- the terms of the answers are given, each from the greatest to the least
abbrev pub FindsAnswers : (slots limit : ℕ) → Description → List Query → Result (List Family) TermsRefusal → Type 0
FindsAnswers slots limit d queries = let nodes = query_nodes d queries in
    SearchGives slots limit nodes nodes (answer_terms d queries) (AllZip (λ q terms. IsAnswerTo d q (reverse terms)) queries)
