use Rattle.std.proofs.Common.{ℕ, List, length, get_or, ◌-◌, ap, ◌∙◌}
use Rattle.lr_machine.proofs.RowLemmas.{at_terminal, at_nonterminal, nowhere}
use Rattle.lr_machine.proofs.tables.code_at.Goals as goal

pub returns-then-place-codes : goal.returns-then-place-codes
returns-then-place-codes g c =
    let t = c.args.tables.now in
    let at = c.in-Some.ensures.lookup in
    c.code_in.ensures ∙ at_terminal t.rows.now t.gotos.now t.goto_of.now c.in-Some.row.now c.args.state c.args.symbol at.0 at.1 c.if-place-codes.true

pub returns-else-place-codes : goal.returns-else-place-codes
returns-else-place-codes g c =
    let t = c.args.tables.now in
    let at = c.in-Some.ensures.lookup in
    c.code_in-else-place-codes.ensures ∙ (ap (λ (ys : List ℕ). get_or ys (c.args.symbol - length c.in-Some.row.now) 0) c.gotos_at.ensures
    ∙ at_nonterminal t.rows.now t.gotos.now t.goto_of.now c.in-Some.row.now c.args.state c.args.symbol at.0 at.1 c.if-place-codes.false)

pub returns-in-None : goal.returns-in-None
returns-in-None g c = nowhere c.args.tables.now.rows.now c.args.tables.now.gotos.now c.args.tables.now.goto_of.now c.args.state c.args.symbol c.in-None.ensures.lookup.0
