use Rattle.std.proofs.Common.{◌≡◌, ◌++◌, drop, map, flat_map}
use Rattle.flow_code.specs.Lawful.{maybe_key_slots}
use Rattle.flow_code.specs.View.{plain_maybe_key}
use Rattle.flow_graph.specs.Steps.{numbers}
use Rattle.flow_graph.proofs.reads.of_path.Given as goal

-- what is left to read stands behind what is read
abbrev pub invariant-loop-key : goal.invariant-loop-key
invariant-loop-key l =
    numbers l.reads.items ++ flat_map maybe_key_slots (map plain_maybe_key (drop l.key-index l.path)) ≡ numbers l.initial.reads.items ++ flat_map maybe_key_slots (map plain_maybe_key l.path)
