use Rattle.std.proofs.Common.{◌≡◌, ◌+◌, map, reverse, take}
use Rattle.node_store.specs.Stores.{Reads, family}
use Rattle.set_algebra.specs.Terms.{terms_of}
use Rattle.set_algebra.proofs.terms.lists_of.Given as goal

-- the terms of the polynomials so far, and how many more may be listed
abbrev pub invariant-loop-polynomial : goal.invariant-loop-polynomial
invariant-loop-polynomial g l =
    let s = g.S.Store.state l.fn.store in
    record {
      reads : Reads s (g.S.Store.state l.store);
      lists : map reverse l.lists ≡ map (family s) (take l.polynomial-index l.polynomials);
      left : l.left + terms_of s (take l.polynomial-index l.polynomials) ≡ l.fn.left;
    }
