use Rattle.std.proofs.Common.{◌≡◌, ◌<◌, ◌+◌, List, ℕ, Some, None, length, drop, sym, ◌∙◌, ap, arith}
use Rattle.string_functions.specs.Pieces.{replaced_text}
use Rattle.string_functions.specs.Place.{first_place}
use Rattle.php_builtins.proofs.PieceLemmas.{replaced_length, replaced_nowhere, over, same_test}
use Rattle.php_builtins.proofs.pieces.is_too_long.Goals as goal

pub returns-then-at-total : goal.returns-then-at-total
returns-then-at-total c =
    let count = replaced_length c.args.search.now c.args.with.now c.loop-at.rest.now c.in-Some.at c.requires.search (sym c.in-Some.ensures.place) c.in-Some.ensures.within in
    over (length (replaced_text c.args.search.now c.args.with.now c.args.text.now)) (omega (arith, count, c.loop-at.invariant.0, c.loop-at.invariant.1, c.if-at-total.true))

pub returns-then-with-total : goal.returns-then-with-total
returns-then-with-total c =
    let count = replaced_length c.args.search.now c.args.with.now c.loop-at.rest.now c.in-Some.at c.requires.search (sym c.in-Some.ensures.place) c.in-Some.ensures.within in
    over (length (replaced_text c.args.search.now c.args.with.now c.args.text.now)) (omega (arith, count, c.loop-at.invariant.0, c.loop-at.invariant.1, c.if-at-total.false, c.if-with-total.true))

pub loop-at-preserved : goal.loop-at-preserved
loop-at-preserved c =
    let count = replaced_length c.args.search.now c.args.with.now c.loop-at.rest.now c.in-Some.at c.requires.search (sym c.in-Some.ensures.place) c.in-Some.ensures.within in
    let rest = ap (λ (t : List ℕ). length (replaced_text c.args.search.now c.args.with.now t)) c.behind-rest.ensures in
    (omega (arith, count, rest, c.loop-at.invariant.0), omega (arith, c.loop-at.invariant.1, c.if-at-total.false, c.if-with-total.false))

pub returns : goal.returns
returns c =
    let nowhere : length (replaced_text c.args.search.now c.args.with.now c.loop-at.rest.now) ≡ length c.loop-at.rest.now = ap length (replaced_nowhere c.args.search.now c.args.with.now c.loop-at.rest.now c.requires.search (sym c.in_default.ensures.place)) in
    same_test c.loop-at.total (length c.loop-at.rest.now) (length (replaced_text c.args.search.now c.args.with.now c.args.text.now)) (ap (λ (n : ℕ). c.loop-at.total + n) (sym nowhere) ∙ c.loop-at.invariant.0) c.loop-at.invariant.1
