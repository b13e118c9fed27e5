use Rattle.std.proofs.Common.{◌≡◌, drop}
use Rattle.serde_json.specs.View.{items_view, members_view}
use Rattle.request_reading.specs.RequestFile as spec
use Rattle.request_reading.proofs.form.+member.Given as goal

-- what is left to look at decides
abbrev pub invariant-are_items-loop-item : goal.invariant-are_items-loop-item
invariant-are_items-loop-item l = spec.are_items (items_view l.items.items) ≡ spec.are_items (items_view (drop l.item-index l.item-items))

abbrev pub invariant-are_members-loop-name : goal.invariant-are_members-loop-name
invariant-are_members-loop-name l = spec.are_members (members_view l.members.entries) ≡ spec.are_members (members_view l.name-iterator)
