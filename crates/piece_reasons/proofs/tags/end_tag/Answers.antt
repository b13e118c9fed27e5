use Rattle.std.proofs.Common.{◌≡◌, ℕ, List, Some, refl, sym, ◌∙◌}
use Rattle.page_model.specs.Reading.{name_at}
use Rattle.piece_reasons.specs.Causes.{IsNotClosed}
use Rattle.piece_reasons.proofs.tags.end_tag.Goals as goal

pub returns-else-begins_close : goal.returns-else-begins_close
returns-else-begins_close c =
    let z : List ℕ × List ℕ = (c.in-Some.name.now, c.in-Some.behind.now) in
    let e : Some z ≡ name_at c.args.rest.now = c.in-Some.ensures in (
      c.split.result.1.now,
      IsNotClosed.end_tag c.in-Some.name.now c.in-Some.behind.now (record { rest = c.args.rest.now; is = refl; named = sym e }) c.split.ensures.rest
          (sym c.begins_close.ensures ∙ c.if-begins_close.false),
      c.before-else-begins_close.ensures,
    )
