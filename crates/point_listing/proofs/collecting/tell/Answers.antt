use Rattle.std.proofs.Common.{◌≡◌, ◌≤◌, ◌<◌, List, length, arith, subst}
use Rattle.flow_code.specs.View.{plain_key_ref}
use Rattle.loose_sets.specs.Keys as keys
use Rattle.point_listing.specs.declared.key.ToldKey.{ToldKey}
use Rattle.point_listing.specs.Views.{keys_seen, place_in}
use Rattle.point_listing.proofs.CollectLemmas.{no_room, no_literal, is_told, is_new, on_ok}
use Rattle.point_listing.proofs.collecting.tell.Goals as goal

pub returns-then-len-ge-TOLD_KEYS : goal.returns-then-len-ge-TOLD_KEYS
returns-then-len-ge-TOLD_KEYS c =
    let long : 64 ≤ length c.args.told.now.items = (let t = c.if-len-ge-TOLD_KEYS.true in let l = c.len.ensures in omega arith) in
    no_room c.args.told.now.items (keys.literal_key (plain_key_ref c.args.key.now)) long

pub returns-in-None : goal.returns-in-None
returns-in-None c = no_literal c.args.told.now.items (keys.literal_key (plain_key_ref c.args.key.now)) c.in_ok-place_of_key.field-0 (subst (λ (z : List ToldKey). c.in_ok-place_of_key.field-0 ≡ place_in (keys_seen z) (keys.literal_key (plain_key_ref c.args.key.now))) c.deref.ensures.value c.in_ok-place_of_key.ensures) c.in-None.is

pub returns-in-Some-Some : goal.returns-in-Some-Some
returns-in-Some-Some c =
    is_told c.args.told.now.items (keys.literal_key (plain_key_ref c.args.key.now)) c.in_ok-place_of_key.field-0 c.in-Some-Some.field-0 c.in-Some-Some.field-0-0 (subst (λ (z : List ToldKey). c.in_ok-place_of_key.field-0 ≡ place_in (keys_seen z) (keys.literal_key (plain_key_ref c.args.key.now))) c.deref.ensures.value c.in_ok-place_of_key.ensures) c.in-Some-Some.is
    c.in-Some-Some.field-0-is

pub returns-in-Some-None : goal.returns-in-Some-None
returns-in-Some-None c =
    let small : length c.args.told.now.items < 64 = (let t = c.if-len-ge-TOLD_KEYS.false in let l = c.len.ensures in omega arith) in
    on_ok c.push_key.result c.push_key.ensures
    (λ is. is_new c.args.told.now.items c.push_key.new.told.items (keys.literal_key (plain_key_ref c.args.key.now)) c.in_ok-place_of_key.field-0 c.in-Some-None.field-0 small (subst (λ (z : List ToldKey). c.in_ok-place_of_key.field-0 ≡ place_in (keys_seen z) (keys.literal_key (plain_key_ref c.args.key.now))) c.deref.ensures.value c.in_ok-place_of_key.ensures)
    c.in-Some-None.is c.in-Some-None.field-0-is is)
