use Rattle.std.proofs.Common.{◌≡◌, ℕ, List, [], length, subst, sym, ◌∙◌, Contains, arith}
use Rattle.std.proofs.lemmas.Bool.{eqb-true, eqb-false}
use Rattle.std.proofs.lemmas.List.{nil_from_length}
use Rattle.string_functions.specs.Pieces.{pieces_of}
use Rattle.string_ops.specs.Listed.{IsMachine}
use Rattle.string_ops.proofs.PieceLemmas.{pieces_is_machine, no_pieces}
use Rattle.string_ops.proofs.piece.piece_machine.Goals as goal

pub returns : goal.returns
returns c =
    let ne = eqb-false (length c.args.sep.now) 0 (sym c.is_empty.ensures ∙ c.if-is_empty.false) in
    pieces_is_machine c.in_ok-table.table c.args.sep.now (omega arith) c.in_ok-table.ensures

pub returns-then-is_empty : goal.returns-then-is_empty
returns-then-is_empty c =
    let z : length c.args.sep.now ≡ 0 = eqb-true (length c.args.sep.now) 0 (sym c.is_empty.ensures ∙ c.if-is_empty.true) in
    let e : c.args.sep.now ≡ [] = nil_from_length c.args.sep.now z in
    let n = c.new.ensures in
    subst (λ (x : List ℕ). IsMachine c.new.result (length x) (λ input output. Contains (pieces_of x input) output)) (sym e) (no_pieces c.new.result n.states n.start n.moves n.ends)
