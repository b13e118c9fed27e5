use Rattle.std.proofs.Common.{sym, subst}
use Rattle.ssa_form.specs.declared.version.Version.{Version}
use Rattle.ssa_form.specs.declared.places.Seen.{Seen}
use Rattle.ssa_form.specs.Views.{version_seen}
use Rattle.ssa_form.specs.Replacing.{Replaces, IsSeen}
use Rattle.ssa_form.proofs.ReplacingLemmas.{seen_first, seen_again, seen_own}
use Rattle.ssa_form.proofs.places.seen_with.Goals as goal

pub returns-then-is_same : goal.returns-then-is_same
returns-then-is_same c flow asks row u is r =
    seen_own flow asks row (version_seen c.args.own) u c.args.seen is (subst (λ (v : Version). Replaces flow asks u (version_seen v)) (c.is_same.ensures c.if-is_same.true) r)

pub returns-in-Nothing : goal.returns-in-Nothing
returns-in-Nothing c flow asks row u is r =
    seen_first flow asks row (version_seen c.args.own) u (version_seen c.args.version) (subst (λ (s : Seen). IsSeen flow asks row (version_seen c.args.own) s) c.in-Nothing.is is) r

pub returns-then-is_same-2 : goal.returns-then-is_same-2
returns-then-is_same-2 c flow asks row u is r =
    seen_again flow asks row (version_seen c.args.own) u (version_seen c.in-One.other) (subst (λ (s : Seen). IsSeen flow asks row (version_seen c.args.own) s) c.in-One.is is)
    (subst (λ (v : Version). Replaces flow asks u (version_seen v)) (sym (c.is_same-in-One.ensures c.if-is_same-2.true)) r)
