use Rattle.std.proofs.Common.{◌≡◌, ℕ, List, ◌∷◌, sym, subst, rules}
use Rattle.std.specs.Prelude.{IfOk}
use Rattle.piece_reasons.specs.Sites.{HasCause}
use Rattle.piece_reasons.proofs.telling.markup.Goals as goal

pub returns-in-Some-eq47-default : goal.returns-in-Some-eq47-default
returns-in-Some-eq47-default c =
    let e : c.args.cs.now ≡ 60 ∷ 47 ∷ c.in-Some-eq47-default.more.now = search rules in
    subst (λ (xs : List ℕ). IfOk c.end_tag.result (HasCause c.args.site.now xs)) (sym e) c.end_tag.ensures

pub returns-then-begins_name : goal.returns-then-begins_name
returns-then-begins_name c = subst (λ (xs : List ℕ). IfOk c.start_tag.result (HasCause c.args.site.now xs)) (sym c.requires) c.start_tag.ensures
