-- Where versions are those of ssa_form, they are exact for the rows by versions.
use Rattle.std.proofs.Common.{◌≡◌, ◌↔◌, ℕ, Option, Some, None, refl, sym, subst}
use Rattle.flow_code.specs.Points.{PlainFlow}
use Rattle.loose_sets.specs.Reaching.{Definition, Reaches}
use Rattle.loose_sets.specs.Versions.{PlainVersion, linked_in, Behind}
use Rattle.loose_sets.specs.Exact.{ReadsSlot, AreExact}
use Rattle.ssa_form.specs.declared.versions.Versions.{Versions}
use Rattle.ssa_form.specs.Versions.{joins_of, version_of, IsExact}
use Rattle.loose_sets.specs.Uses.{version_seen}
use Rattle.loose_sets.proofs.OfVersions.{seen_back}
use Rattle.point_listing.specs.Reading.{or_join, read_at}

pub are_exact : (flow : PlainFlow) (versions : Versions) → IsExact flow versions → AreExact flow (linked_in (joins_of versions)) (read_at versions)
are_exact flow versions exact = record { behind = λ p x read d. by p x read d (version_of versions p x) refl }
  where
    by : (p x : ℕ) → ReadsSlot flow p x → (d : Definition) → (o : Option PlainVersion) → version_of versions p x ≡ o → Behind (linked_in (joins_of versions)) (version_seen (or_join p x o)) d ↔ Reaches flow d x p
    by p x read d None e = absurd (exact.all p x read.point read.there read.it e)
    by p x read d (Some v) e = subst (λ z. Behind (linked_in (joins_of versions)) z d ↔ Reaches flow d x p) (sym (seen_back v)) (exact.behind p x v e d)
