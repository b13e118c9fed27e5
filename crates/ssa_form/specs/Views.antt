-- Versions of the code as plain data, and what maps by pairs of numbers hold.
use Rattle.std.specs.Prelude.{ℕ, ◌&&◌, List, Option, map, nat_eq}
use Rattle.indexmap.specs.IndexMap.{IndexMap, get}
use Rattle.loose_sets.specs.Reaching as reaching
use Rattle.loose_sets.specs.Versions.{PlainVersion, of_definition, join_at}
use Rattle.ssa_form.specs.declared.version.Definition.{Definition}
use Rattle.ssa_form.specs.declared.version.Definition.TheVariants as definition
use Rattle.ssa_form.specs.declared.version.Version.{Version}
use Rattle.ssa_form.specs.declared.version.Version.TheVariants as version

-- the plain form of a definition
abbrev pub definition_seen : Definition → reaching.Definition
definition_seen (definition.At p) = reaching.at_point p.0
definition_seen (definition.Entry f x) = reaching.at_entry f x.0

-- the plain form of a version
abbrev pub version_seen : Version → PlainVersion
version_seen (version.Of d) = of_definition (definition_seen d)
version_seen (version.Join p x) = join_at p.0 x.0

-- the plain form of versions, in their order
abbrev pub versions_seen : List Version → List PlainVersion
versions_seen vs = map version_seen vs

-- what the map holds at a pair of numbers
abbrev pub held : {X S : Type 0} → IndexMap (ℕ × ℕ) X S → ℕ → ℕ → Option X
held m p x = get (λ a b. nat_eq a.0 b.0 && nat_eq a.1 b.1) m (p, x)
