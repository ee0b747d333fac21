-- Stores as the tests make them.
use Rattle.std.proofs.Common.{◌≡◌, ℕ, List, [], Result, Ok, Err, IfOk, ap}
use Rattle.lattice.specs.Words.{Family}
use Rattle.lattice.specs.declared.memory.Memory.{Memory}
use Rattle.node_store.specs.Plain.{plain_state}
use Rattle.node_store.specs.PlainOf.{state_of}
use Rattle.node_store.specs.declared.plain.PlainStore.{PlainStore}

pub made_vars : (r : Result PlainStore Memory) (vars slots : ℕ) (plan : List Family)
    → IfOk r (λ s. state_of s ≡ plain_state vars slots plan 0 []) → IfOk r (λ s. (state_of s).vars ≡ vars)
unfolding plain_state
made_vars (Ok s) vars slots plan fresh = ap (λ t. t.vars) fresh
made_vars (Err e) vars slots plan fresh = tt

pub made_plan : (r : Result PlainStore Memory) (vars slots : ℕ) (plan : List Family)
    → IfOk r (λ s. state_of s ≡ plain_state vars slots plan 0 []) → IfOk r (λ s. (state_of s).plan ≡ plan)
unfolding plain_state
made_plan (Ok s) vars slots plan fresh = ap (λ t. t.plan) fresh
made_plan (Err e) vars slots plan fresh = tt
