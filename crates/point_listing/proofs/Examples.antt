-- Keys that are told apart: each once, and `'5'` and 5 are one; a key that is written twice is told once.
use Rattle.std.proofs.Common.{◌≡◌, pos, [], ◌∷◌, refl}
use Rattle.std.specs.Prelude.{codes}
use Rattle.plain_values.specs.Plain.{int_key, text_key}
use Rattle.loose_sets.specs.Keys.{is_among}
use Rattle.point_listing.specs.Collected.{told_after}

twice : told_after [] (text_key (codes "t") ∷ int_key (pos 5) ∷ text_key (codes "t") ∷ []) ≡ text_key (codes "t") ∷ int_key (pos 5) ∷ []
unfolding told_after is_among
twice = refl
