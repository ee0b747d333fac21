use Rattle.std.proofs.Common.{◌≡◌, ◌++◌, ◌^◌, drop, length}
use Rattle.circuit_run.specs.Texts.{point_text}
use Rattle.circuit_run.proofs.equal.push_point.Given as goal

abbrev pub invariant-loop-name : goal.invariant-loop-name
invariant-loop-name l = record {
  weight : l.weight ≡ 2 ^ length (drop l.name-index l.names);
  written : l.text.items ++ point_text (drop l.name-index l.names) l.fn.point ≡ l.fn.text.items ++ point_text l.names l.fn.point;
}
