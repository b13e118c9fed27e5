use Rattle.std.proofs.Common.{inl, inr, refl, sym, ◌∙◌}
use Rattle.std.specs.Cmp.{unsigned_Decides}
use Rattle.std.proofs.lemmas.Bool.{true≢false}
use Rattle.useful_nonterminals.proofs.NamingLemmas.{read_marked, marked_read}
use Rattle.useful_nonterminals.proofs.names.stays.Goals as goal

pub returns-then-useful-number : goal.returns-then-useful-number
returns-then-useful-number c = (
  (λ h. inl (read_marked c.args.useful.now c.args.number c.if-useful-number.true)),
  (λ s. refl),
)

pub returns : goal.returns
returns c = (
  (λ h. inr ((unsigned_Decides c.args.number c.args.start).0 h)),
  (λ s. elim s [
    | inl m ↦ absurd (true≢false (sym (marked_read c.args.useful.now c.args.number m) ∙ c.if-useful-number.false))
    | inr e ↦ (unsigned_Decides c.args.number c.args.start).1 e
  ]),
)
