use Rattle.std.proofs.Common.{map, flat_map, refl}
use Rattle.flow_code.specs.View.{plain_point}
use Rattle.loose_sets.specs.Keys.{point_keys}
use Rattle.point_listing.specs.Views.{keys_seen}
use Rattle.point_listing.proofs.CollectLemmas.{further}
use Rattle.point_listing.proofs.collecting.tell_points.Goals as goal

pub loop-point-preserved : goal.loop-point-preserved
loop-point-preserved c =
    further (λ l. flat_map point_keys (map plain_point l)) (point_keys (plain_point c.point-item.result)) c.args.points.now c.loop-point.point-index c.point-item.result
    (keys_seen c.loop-point.told.items) (keys_seen c.tell_point.new.told.items) _ (λ rest. refl) c.loop-point-test.true c.point-item.is c.in_ok-tell_point.ensures c.loop-point.invariant
