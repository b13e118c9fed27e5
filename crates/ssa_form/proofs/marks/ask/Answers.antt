use Rattle.std.proofs.Common.{ℕ, inl, inr, sym, subst, ap, ◌∙◌}
use Rattle.loose_sets.specs.Versions.{join_at, IsKept}
use Rattle.ssa_form.specs.declared.version.Version.{Version}
use Rattle.ssa_form.specs.Views.{version_seen}
use Rattle.ssa_form.specs.Marks.{asked_by}
use Rattle.ssa_form.proofs.ReadLemmas.{contains_at}
use Rattle.ssa_form.proofs.marks.ask.Goals as goal

pub returns-in_err-number-in-Join-clause-adds : goal.returns-in_err-number-in-Join-clause-adds
returns-in_err-number-in-Join-clause-adds c k h = elim (c.number.ensures.adds k h) [
  | inl a ↦ inl a
  | inr e ↦ inr (ap version_seen c.in-Join.is ∙ ap (λ (q : ℕ × ℕ). join_at q.0 q.1) (sym e))
]

pub returns-in_ok-number-in-Join-clause-kept : goal.returns-in_ok-number-in-Join-clause-kept
returns-in_ok-number-in-Join-clause-kept c =
    subst (λ (v : Version). IsKept (asked_by c.number.new.keys.keys) (version_seen v)) (sym c.in-Join.is) (contains_at _ _ _ c.in_ok-number-in-Join.ensures.number)
