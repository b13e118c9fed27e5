use Rattle.std.proofs.Common.{◌≡◌, ℕ, List, ◌∷◌, Option, Some, None, sym, ◌∙◌, subst, codes}
use Rattle.std.proofs.lemmas.Slice.Eq.{bytes_eq-Decides}
use Rattle.page_model.specs.Reading.{name_at}
use Rattle.piece_reasons.specs.Openers.{from_first}
use Rattle.piece_reasons.specs.Tags.{IsName}
use Rattle.piece_reasons.proofs.Found.{in_target}
use Rattle.piece_reasons.proofs.remarks.question.Goals as goal

pub returns-then-is_word : goal.returns-then-is_word
returns-then-is_word c =
    let z : List ℕ × List ℕ = (c.in-Some.target.now, c.in-Some.left.now) in
    let e : Some z ≡ name_at c.args.rest.now = c.in-Some.ensures in
    let word : c.in-Some.target.now ≡ codes "xml" = (bytes_eq-Decides c.in-Some.target.now (codes "xml")).0 (sym c.is_word.ensures ∙ c.if-is_word.true) in
    c.declaration.ensures (60 ∷ 63 ∷ c.args.rest.now) c.in-Some.left.now
    (in_target c.args.rest.now (codes "xml") c.in-Some.left.now (subst (λ (xs : List ℕ). IsName c.args.rest.now xs c.in-Some.left.now) word (sym e)))

pub returns-then-is_word_in_any_case : goal.returns-then-is_word_in_any_case
returns-then-is_word_in_any_case c =
    let z : List ℕ × List ℕ = (c.in-Some.target.now, c.in-Some.left.now) in
    let e : Some z ≡ name_at c.args.rest.now = c.in-Some.ensures in (
      c.in-Some.target.now,
      c.in-Some.left.now,
      in_target c.args.rest.now c.in-Some.target.now c.in-Some.left.now (sym e),
      sym c.is_word_in_any_case.ensures ∙ c.if-is_word_in_any_case.true,
      sym c.is_word.ensures ∙ c.if-is_word.false,
    )

pub returns-in_default-from_first : goal.returns-in_default-from_first
returns-in_default-from_first c =
    let z : List ℕ × List ℕ = (c.in-Some.target.now, c.in-Some.left.now) in
    let e : Some z ≡ name_at c.args.rest.now = c.in-Some.ensures in
    let none : Option (List ℕ) = None in
    let f : none ≡ from_first (codes "?>") c.in-Some.left.now = c.in_default-from_first.ensures in
    (c.in-Some.target.now, c.in-Some.left.now, in_target c.args.rest.now c.in-Some.target.now c.in-Some.left.now (sym e), sym f)

pub returns-then-is_apart : goal.returns-then-is_apart
returns-then-is_apart c = c.stray.ensures (codes "<?")

pub returns-else-is_apart : goal.returns-else-is_apart
returns-else-is_apart c =
    let z : List ℕ × List ℕ = (c.in-Some.target.now, c.in-Some.left.now) in
    let e : Some z ≡ name_at c.args.rest.now = c.in-Some.ensures in
    (c.in-Some.target.now, c.in-Some.left.now, in_target c.args.rest.now c.in-Some.target.now c.in-Some.left.now (sym e), sym c.is_apart.ensures ∙ c.if-is_apart.false)
