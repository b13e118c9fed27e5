use Rattle.std.proofs.Common.{◌≡◌, drop}
use Rattle.serde_json.specs.View.{items_view, members_view}
use Rattle.request_reading.specs.Admission as spec
use Rattle.request_reading.proofs.straying.+stray.Given as goal

-- what is left to look at decides, and the path stays
abbrev pub invariant-stray_item-loop-place : goal.invariant-stray_item-loop-place
invariant-stray_item-loop-place l =
    (l.path.items ≡ l.fn.path.items) × (spec.stray_item l.fn.path.items 0 (items_view l.items.items) ≡ spec.stray_item l.fn.path.items l.place-counter (items_view (drop l.place-counter l.item-items)))

abbrev pub invariant-stray_member-loop-name : goal.invariant-stray_member-loop-name
invariant-stray_member-loop-name l =
    (l.path.items ≡ l.fn.path.items) × (spec.stray_member l.fn.path.items (members_view l.members.entries) ≡ spec.stray_member l.fn.path.items (members_view l.name-iterator))
