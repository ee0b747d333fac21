use Rattle.std.proofs.Common.{◌≡◌, ◌≤◌, take}
use Rattle.node_store.specs.Stores.{Reads}
use Rattle.set_algebra.specs.Terms.{terms_of}
use Rattle.set_algebra.proofs.terms.count_terms.Given as goal

-- the terms so far are counted, and within the limit
abbrev pub invariant-loop-polynomial : goal.invariant-loop-polynomial
invariant-loop-polynomial g l =
    let s = g.S.Store.state l.fn.store in
    record {
      reads : Reads s (g.S.Store.state l.store);
      count : l.count ≡ terms_of s (take l.polynomial-index l.polynomials);
      within : l.count ≤ l.limit;
    }
