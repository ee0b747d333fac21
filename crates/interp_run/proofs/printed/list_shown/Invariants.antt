use Rattle.std.proofs.Common.{◌≡◌, ◌+◌, drop, length, map, take}
use Rattle.std.specs.List.{sum_by}
use Rattle.node_store.specs.Stores.{Reads}
use Rattle.anf_printer.specs.Text.{shown_answer}
use Rattle.interp_run.specs.Phases.{answer_in, by_output, second_terms}
use Rattle.interp_run.proofs.printed.list_shown.Given as goal

-- what is printed of the outputs so far, how many more terms may be, and the elements of the others
abbrev pub invariant-loop-index : goal.invariant-loop-index
invariant-loop-index g l =
    let s = g.S.Store.state l.fn.store in let outputs = by_output l.leads l.polynomials l.elements in
    record {
      reads : Reads s (g.S.Store.state l.store);
      shown : map shown_answer l.shown.items ≡ map (answer_in s) (take l.index outputs);
      left : l.left + second_terms s (take l.index outputs) ≡ l.fn.limit;
      long : length l.rest ≡ sum_by length (drop l.index l.leads);
      rest : by_output (drop l.index l.leads) (drop l.index l.polynomials) l.rest ≡ drop l.index outputs;
    }
