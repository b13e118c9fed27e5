use Rattle.std.proofs.Common.{◌≡◌, ◌≤◌, ◌<◌, ◌^◌, length, get_or, true, sym, subst, arith, rules, w64, to_z}
use Rattle.std.proofs.lemmas.Bool.{lt-ltb}
use Rattle.std.proofs.lemmas.Int.{to_z_pos}
use Rattle.serde_json.specs.declared.value.Value.{the_lemmas}
use Rattle.serde_json.specs.Data.{depth as nesting}
use Rattle.serde_json.specs.View.{view}
use Rattle.serde_json.proofs.Views.{Entry}
use Rattle.php_values.specs.View.{plain_of, plain_key}
use Rattle.request_reading.specs.RequestFile as spec
use Rattle.request_reading.proofs.ArrayLemmas.{value_nests, next_member, member_more}
use Rattle.request_reading.proofs.PlaceLemmas.{item_form, item_nests, place_more}
use Rattle.request_reading.proofs.arrays.+make.Goals as goal

pub array_of-put-requires-clause-value : goal.array_of-put-requires-clause-value
array_of-put-requires-clause-value t c =
    let e : Entry = (c.in-Some.name.now, c.in-Some.member.now) in
    let next = next_member c.args.members.now.entries c.loop-name.name-iterator c.loop-name.array e c.next.new.self c.loop-name.invariant c.in-Some.ensures.steps in
    value_nests 126 (view e.1) (plain_of c.in_ok-value.value) c.in_ok-value.ensures.value next.nests

pub array_of-loop-name-preserved : goal.array_of-loop-name-preserved
array_of-loop-name-preserved t c =
    let e : Entry = (c.in-Some.name.now, c.in-Some.member.now) in
    member_more c.args.members.now.entries c.loop-name.name-iterator c.loop-name.array c.put.new.array e c.next.new.self (plain_key c.in_ok-key.key) (plain_of c.in_ok-value.value) c.iter-name-items.ensures.ordered c.loop-name.invariant c.in-Some.ensures.steps
    (search rules) c.in_ok-value.ensures.value c.in_ok-value.ensures.lawful c.in_ok-put.ensures

pub list_of-value_of-requires : goal.list_of-value_of-requires
list_of-value_of-requires t c =
    let i = c.loop-place.place in
    let l : i < length c.args.items.now.items = search rules in
    let x = c.item-item.result in
    let is : x ≡ get_or c.args.items.now.items i x = search rules in
    let form : spec.is_member (view x) ≡ true = subst (λ y. spec.is_member (view y) ≡ true) (sym is) (item_form c.args.items.now.items i x c.requires.form l) in
    let nests : nesting (view x) ≤ 126 = subst (λ y. nesting (view y) ≤ 126) (sym is) (item_nests 126 c.args.items.now.items i x c.requires.nests l) in
    (search (rules, the_lemmas), (form, omega (arith, nests)))

pub list_of-put-requires-clause-value : goal.list_of-put-requires-clause-value
list_of-put-requires-clause-value t c =
    let i = c.loop-place.place in
    let l : i < length c.args.items.now.items = search rules in
    let x = c.item-item.result in
    let is : x ≡ get_or c.args.items.now.items i x = search rules in
    let nests : nesting (view x) ≤ 126 = subst (λ y. nesting (view y) ≤ 126) (sym is) (item_nests 126 c.args.items.now.items i x c.requires.nests l) in
    value_nests 126 (view x) (plain_of c.in_ok-value.value) c.in_ok-value.ensures.value nests

pub list_of-loop-place-preserved : goal.list_of-loop-place-preserved
list_of-loop-place-preserved t c =
    let i = c.loop-place.place in
    let l : i < length c.args.items.now.items = search rules in
    let x = c.item-item.result in
    let is : x ≡ get_or c.args.items.now.items i x = search rules in
    let short : i < 2 ^ 63 = search rules in
    place_more c.args.items.now.items i x c.loop-place.array c.put.new.array (to_z w64 i) (plain_of c.in_ok-value.value) c.loop-place.invariant l is c.requires.nests (lt-ltb i (2 ^ 63) short)
    (to_z_pos w64 i short) c.in_ok-value.ensures.value c.in_ok-value.ensures.lawful c.in_ok-put.ensures
