-- Forms behind others, a member by the place of its key, and writes by the length of their path.
use Rattle.std.proofs.Common.{◌≡◌, ℕ, List, Option, Some, None, refl, append_assoc}
use Rattle.std.proofs.lemmas.List.{append-nil, map-append}
use Rattle.plain_values.specs.Plain.{PlainKey}
use Rattle.loose_sets.specs.declared.name.Half.{Half}
use Rattle.loose_sets.specs.declared.name.SetVersion.{SetVersion}
use Rattle.loose_sets.specs.declared.name.SetName.TheVariants.{Value}
use Rattle.loose_sets.specs.Uses.{number_from, in_member, member_under}
use Rattle.point_listing.specs.Views.{place_in}
use Rattle.point_listing.specs.Places.{member_placed}

pub ruleset ends = (append-nil, append_assoc, map-append)

by_number : (h : Half) (v : SetVersion) (n : Option ℕ) → member_placed h v (Some n) ≡ Value (in_member h n) v
by_number h v None = refl
by_number h v (Some i) = refl

-- a member of a version, by the place of its key
pub by_place : (told : List PlainKey) (h : Half) (v : SetVersion) (k : Option PlainKey) → member_placed h v (place_in told k) ≡ member_under told h v k
by_place told h v None = refl
by_place told h v (Some c) = by_number h v (number_from 0 c told)
