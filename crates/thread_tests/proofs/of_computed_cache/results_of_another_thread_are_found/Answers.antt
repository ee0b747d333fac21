use Rattle.std.proofs.Common.{rules, refl}
use Rattle.lattice.specs.declared.op.Op.TheVariants.{Inter}
use Rattle.node_store.proofs.StoreLaws.{handles, Grows-knows, Grows-trans}
use Rattle.set_algebra.specs.ReadyStores.{IsReady}
use Rattle.unique_table.specs.Passes.{token_state}
use Rattle.thread_tests.proofs.TestedStores.{any_first}
use Rattle.computed_cache.specs.Cached.{cached_state}
use Rattle.thread_tests.proofs.of_computed_cache.results_of_another_thread_are_found.Goals as goal

pub work_twice-token-requires-clause-any : goal.work_twice-token-requires-clause-any
work_twice-token-requires-clause-any g c _ = any_first (token_state c.in_ok-table.token) _ 4 3 _ c.in_ok-table.ensures.state
    c.any_plan.ensures

pub look-requires-3 : goal.look-requires-3
look-requires-3 g c =
    let quarter = c.expect-2.result.0 in let half = c.expect-2.result.1 in
    let ready : IsReady 3 (cached_state c.lower-2.new.store) quarter half = search rules in
    let grows = Grows-trans _ _ _ c.look-2.ensures.reads.grows c.join.ensures.joined.grows in
    handles Inter refl refl (Grows-knows _ _ quarter grows ready.first) (Grows-knows _ _ half grows ready.second)
