use Rattle.std.proofs.Common.{◌+◌, ◌≤◌, ◌∙◌, ℕ, List, sym, subst, arith, length}
use Rattle.xml_text.specs.Texts.{IsText}
use Rattle.cfg_grammar.specs.declared.symbol.Symbol.TheVariants.{Nt}
use Rattle.cfg_grammar.specs.declared.production.Production.{Production}
use Rattle.cfg_grammar.specs.Below.{AreBelow}
use Rattle.cfg_grammar.specs.Tokens.{HaveNoToken}
use Rattle.given_texts.specs.Closed.{Closed, HasText, IsClosed}
use Rattle.given_texts.specs.Given.{closed_of}
use Rattle.given_texts.proofs.Kept.{added}
use Rattle.given_texts.proofs.RequestClosed.{is_closed}
use Rattle.given_texts.proofs.Sizes.{both_below, both_plain, both_few}
use Rattle.given_texts.proofs.joining.request_texts.Goals as goal

pub invariant_of-grammar : goal.invariant_of-grammar
invariant_of-grammar c =
    let given = c.in_ok-given.given.grammar in
    let marks = c.in_ok-marks.marks.items in
    let request = c.args.request.now in
    let items = added given.count c.add_kept.new.productions.items c.in_ok-productions.productions.items given.productions.items c.as_slice-2.result.now marks c.as_slice-3.result.now request.productions.items c.in_ok-add_kept.ensures
    (c.in_ok-productions.ensures ∙ c.as_slice.ensures.value) c.as_slice-2.ensures.value c.as_slice-3.ensures.value in
    record {
      start_below = let a = c.in_ok-start.ensures in let b = c.in_ok-count.ensures in let d = request.start_below in omega (arith, a, b, d);
      below = subst (λ (n : ℕ). AreBelow n c.add_kept.new.productions.items) (sym c.in_ok-count.ensures)
          (subst (λ (ps : List Production). AreBelow (given.count + request.count) ps) (sym items) (both_below given.count request.count marks given.productions.items request.productions.items given.below request.below));
    }

pub invariant_of-result : goal.invariant_of-result
invariant_of-result c =
    let given = c.in_ok-given.given.grammar in
    let marks = c.in_ok-marks.marks.items in
    let request = c.args.request.now in
    let items = added given.count c.add_kept.new.productions.items c.in_ok-productions.productions.items given.productions.items c.as_slice-2.result.now marks c.as_slice-3.result.now request.productions.items c.in_ok-add_kept.ensures
    (c.in_ok-productions.ensures ∙ c.as_slice.ensures.value) c.as_slice-2.ensures.value c.as_slice-3.ensures.value in
    record {
      integer_below = let a = c.in_ok-given.given.integer_below in let b = c.in_ok-count.ensures in omega (arith, a, b);
      no_token = subst (λ (ps : List Production). HaveNoToken ps) (sym items) (both_plain given.count marks given.productions.items request.productions.items c.in_ok-given.given.no_token c.requires);
    }

pub returns-clause-closed : goal.returns-clause-closed
returns-clause-closed c =
    let given = c.in_ok-given.given.grammar in
    let marks = c.in_ok-marks.marks.items in
    let request = c.args.request.now in
    let asked : List ℕ → Type 0 = HasText request.productions.items (Nt request.start) in
    let items = added given.count c.add_kept.new.productions.items c.in_ok-productions.productions.items given.productions.items c.as_slice-2.result.now marks c.as_slice-3.result.now request.productions.items c.in_ok-add_kept.ensures
    (c.in_ok-productions.ensures ∙ c.as_slice.ensures.value) c.as_slice-2.ensures.value c.as_slice-3.ensures.value in
    let closed = is_closed given.count marks (closed_of c.in_ok-given.given) IsText c.in_ok-given.ensures.closed given.below c.in_ok-given.given.integer_below request.productions.items request.start c.requires c.in_ok-marks.ensures.exact in
    subst (λ (n : ℕ). let z : Closed = record { productions = c.add_kept.new.productions.items; request = n; integer = c.in_ok-given.given.integer.0 } in IsClosed z asked) (sym c.in_ok-start.ensures)
    (subst (λ (ps : List Production). let z : Closed = record { productions = ps; request = given.count + request.start.0; integer = c.in_ok-given.given.integer.0 } in IsClosed z asked) (sym items) closed)

pub returns-clause-sizes : goal.returns-clause-sizes
returns-clause-sizes c =
    let given = c.in_ok-given.given.grammar in
    let marks = c.in_ok-marks.marks.items in
    let request = c.args.request.now in
    let items = added given.count c.add_kept.new.productions.items c.in_ok-productions.productions.items given.productions.items c.as_slice-2.result.now marks c.as_slice-3.result.now request.productions.items c.in_ok-add_kept.ensures
    (c.in_ok-productions.ensures ∙ c.as_slice.ensures.value) c.as_slice-2.ensures.value c.as_slice-3.ensures.value in
    let few = both_few marks given.count given.productions.items request.productions.items in
    subst (λ (ps : List Production). length ps ≤ 65 + length request.productions.items) (sym items) (let a = c.in_ok-given.ensures.sizes in omega (arith, a, few))
