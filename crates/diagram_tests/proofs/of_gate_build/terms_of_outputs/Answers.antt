use Rattle.std.proofs.Common.{ℕ, List, [], ◌∷◌}
use Rattle.std.specs.List.{All, AllZip}
use Rattle.std.proofs.lemmas.List.Elements.{All-nil, All-cons}
use Rattle.node_store.specs.Stores.{State, Knows, Denotes}
use Rattle.node_store.specs.PlainOf.{state_of}
use Rattle.node_store.proofs.StoreLaws.{Denotes-knows}
use Rattle.node_store.specs.declared.store.Handle.{Handle}
use Rattle.aig_reader.specs.Circuit.{Circuit}
use Rattle.aig_reader.specs.Reading.{circuit}
use Rattle.gate_build.specs.Polynomials.{polynomial_of}
use Rattle.diagram_tests.proofs.of_gate_build.terms_of_outputs.Goals as goal

-- what is of a polynomial is known
are_known : (s : State) (c : Circuit) (literals : List ℕ) (handles : List Handle)
    → AllZip (λ literal h. Denotes s h (polynomial_of c literal)) literals handles → All (Knows s) handles
are_known s c [] [] zip = All-nil (Knows s)
are_known s c [] (h ∷ handles) zip = absurd zip
are_known s c (literal ∷ literals) [] zip = absurd zip
are_known s c (literal ∷ literals) (h ∷ handles) zip =
    All-cons (Knows s) h handles (Denotes-knows s h _ zip.0) (are_known s c literals handles zip.1)

pub output_polynomials-requires-clause-vars : goal.output_polynomials-requires-clause-vars
output_polynomials-requires-clause-vars c = c.in_ok-store.ensures.vars

pub output_polynomials-requires-clause-planned : goal.output_polynomials-requires-clause-planned
output_polynomials-requires-clause-planned c = rw c.in_ok-store.ensures.plan (λ f i. i)

pub lists_upto-requires : goal.lists_upto-requires
lists_upto-requires c = rw c.deref-2.ensures.value
    (are_known (state_of c.output_polynomials.new.store) (circuit c.args.aig.now) _ _ c.in_ok-outputs.ensures.polynomials)
