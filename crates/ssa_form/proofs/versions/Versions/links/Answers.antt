use Rattle.std.proofs.Common.{◌↔◌, sym, subst}
use Rattle.std.specs.Prelude.{Contains}
use Rattle.ssa_form.specs.declared.version.Version.{Version}
use Rattle.ssa_form.specs.Views.{version_seen, versions_seen}
use Rattle.ssa_form.specs.Versions.{joins_of, IsLinked}
use Rattle.ssa_form.proofs.versions.Versions.links.Goals as goal

pub returns-clause-exact : goal.returns-clause-exact
returns-clause-exact c v =
    subst (λ (u : Version). Contains (versions_seen c.joined.result.now) v ↔ IsLinked (joins_of c.args.self.now) (version_seen u) v) (sym c.in-Join.is) (c.joined.ensures.exact v)
