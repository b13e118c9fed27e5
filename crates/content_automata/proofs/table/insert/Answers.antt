use Rattle.std.proofs.Common.{◌∙◌, ap, sym, Some}
use Rattle.content_automata.proofs.KeyLemmas.{exact_key, insert_keeps, insert_only}
use Rattle.content_automata.proofs.table.insert.Goals as goal

pub returns-clause-number : goal.returns-clause-number
returns-clause-number c =
    let s = c.in_ok-number.ensures.stored in
    s.1 ∙ ap (λ x. Some x) (sym (exact_key c.args.key s.0 s.2))

pub returns-clause-keeps : goal.returns-clause-keeps
returns-clause-keeps c = insert_keeps _ c.args.keys.now.keys _ c.args.key c.in_ok-number.ensures.keys

pub returns-clause-only : goal.returns-clause-only
returns-clause-only c = insert_only _ c.args.keys.now.keys _ c.args.key c.in_ok-number.ensures.keys
