use Rattle.std.proofs.Common.{◌≡◌, List, map, flat_map, subst}
use Rattle.flow_code.specs.declared.point.FlowPoint.{FlowPoint}
use Rattle.flow_code.specs.Points.{points_in}
use Rattle.flow_code.specs.View.{plain_point, plain_flow_function}
use Rattle.loose_sets.specs.Keys.{point_keys}
use Rattle.point_listing.specs.Views.{keys_seen}
use Rattle.point_listing.specs.Collected.{told_after}
use Rattle.point_listing.proofs.CollectLemmas.{further, first_function}
use Rattle.point_listing.proofs.collecting.tell_functions.Goals as goal

pub loop-function-preserved : goal.loop-function-preserved
loop-function-preserved c =
    further (λ l. flat_map point_keys (points_in (map plain_flow_function l))) (flat_map point_keys (map plain_point c.function-item.result.points.items)) c.args.functions.now c.loop-function.function-index
    c.function-item.result (keys_seen c.loop-function.told.items) (keys_seen c.tell_points.new.told.items) _ (first_function c.function-item.result) c.loop-function-test.true c.function-item.is
    (subst (λ (z : List FlowPoint). keys_seen c.tell_points.new.told.items ≡ told_after (keys_seen c.loop-function.told.items) (flat_map point_keys (map plain_point z))) c.deref.ensures.value c.in_ok-tell_points.ensures) c.loop-function.invariant
