use Rattle.std.proofs.Common.{◌≡◌, true, false, sym, subst}
use Rattle.flow_code.specs.View.{plain_maybe_key}
use Rattle.loose_sets.specs.Keys as keys
use Rattle.point_listing.specs.Views.{keys_seen}
use Rattle.point_listing.proofs.CollectLemmas.{other_key, told_key}
use Rattle.point_listing.proofs.tests_of_keys.may_be_other.Goals as goal

pub returns-in-Some-None : goal.returns-in-Some-None
returns-in-Some-None c =
    subst (λ z. true ≡ keys.may_be_other (plain_maybe_key z) (keys_seen c.args.told.now)) (sym c.in-Some.is)
    (other_key (keys_seen c.args.told.now) _ c.in_ok-place_of_key.field-0 c.in-Some-None.field-0 c.in_ok-place_of_key.ensures c.in-Some-None.is c.in-Some-None.field-0-is)

pub returns-in-Some-Some : goal.returns-in-Some-Some
returns-in-Some-Some c =
    subst (λ z. false ≡ keys.may_be_other (plain_maybe_key z) (keys_seen c.args.told.now)) (sym c.in-Some.is)
    (told_key (keys_seen c.args.told.now) _ c.in_ok-place_of_key.field-0 c.in-Some-Some.field-0 c.in-Some-Some.field-0-0 c.in_ok-place_of_key.ensures c.in-Some-Some.is c.in-Some-Some.field-0-is)
