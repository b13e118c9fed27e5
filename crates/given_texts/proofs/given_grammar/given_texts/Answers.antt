use Rattle.std.proofs.Common.{◌++◌, ◌∙◌, map, sym, ap, subst, arith}
use Rattle.std.specs.List.{All}
use Rattle.given_texts.specs.declared.text_rows.TheConstants.{ROWS, ENDS}
use Rattle.given_texts.specs.Rows.{IsOrdered, AreFor, end_production, AreAll}
use Rattle.given_texts.proofs.Closed.{all_ordered, all_of, is_closed, below, plain}
use Rattle.given_texts.proofs.given_grammar.given_texts.Goals as goal

pub row_productions-requires : goal.row_productions-requires
row_productions-requires c = subst (λ z. All IsOrdered z) (sym c.as_slice.ensures) all_ordered

pub invariant_of-grammar : goal.invariant_of-grammar
invariant_of-grammar c =
    let ps = c.in_ok-productions.productions.items in
    let each : AreFor ROWS ps = subst (λ z. AreFor z ps) c.as_slice.ensures c.in_ok-productions.ensures.each in
    let all : AreAll c.add_ends.new.productions.items = all_of ps c.add_ends.new.productions.items each (c.in_ok-add_ends.ensures ∙ ap (λ z. z ++ map end_production ENDS) c.in_ok-push.ensures.items) in
    record { start_below = omega arith; below = below c.add_ends.new.productions.items all }

pub invariant_of-result : goal.invariant_of-result
invariant_of-result c =
    let ps = c.in_ok-productions.productions.items in
    let each : AreFor ROWS ps = subst (λ z. AreFor z ps) c.as_slice.ensures c.in_ok-productions.ensures.each in
    let all : AreAll c.add_ends.new.productions.items = all_of ps c.add_ends.new.productions.items each (c.in_ok-add_ends.ensures ∙ ap (λ z. z ++ map end_production ENDS) c.in_ok-push.ensures.items) in
    record { integer_below = omega arith; no_token = plain c.add_ends.new.productions.items all }

pub returns-clause-closed : goal.returns-clause-closed
returns-clause-closed c =
    let ps = c.in_ok-productions.productions.items in
    let each : AreFor ROWS ps = subst (λ z. AreFor z ps) c.as_slice.ensures c.in_ok-productions.ensures.each in
    let all : AreAll c.add_ends.new.productions.items = all_of ps c.add_ends.new.productions.items each (c.in_ok-add_ends.ensures ∙ ap (λ z. z ++ map end_production ENDS) c.in_ok-push.ensures.items) in
    is_closed c.add_ends.new.productions.items all
