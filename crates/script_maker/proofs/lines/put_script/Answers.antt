use Rattle.std.proofs.Common.{ℕ, ◌≡◌, ◌+◌, ◌++◌, ◌∙◌, ◌-◌, ap, sym, codes, arith}
use Rattle.script_maker.specs.Made.{first_line, lines_from, page_of}
use Rattle.script_maker.proofs.Pieces.{behind}
use Rattle.script_maker.proofs.lines.put_script.Goals as goal

pub returns : goal.returns
returns c =
    let last = c.args.last in
    let same : (last + 1) - 1 ≡ last = omega arith in
    let b = lines_from 0 last ++ page_of last in
    let a = first_line ++ b in
    behind _ _ _ (codes "<?php\n") a c.in_ok-put.ensures (behind _ _ _ first_line b c.in_ok-put-2.ensures
    (behind _ _ _ (lines_from 0 last) (page_of last) c.in_ok-put_callers.ensures c.in_ok-put_page.ensures))
    ∙ ap (λ (n : ℕ). c.args.script.now.items ++ (codes "<?php\n" ++ (first_line ++ (lines_from 0 n ++ page_of n)))) (sym same)
