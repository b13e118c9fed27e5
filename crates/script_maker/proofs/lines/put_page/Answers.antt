use Rattle.std.proofs.Common.{List, ℕ, ◌++◌, codes, decimal}
use Rattle.script_maker.specs.Made.{head, foot}
use Rattle.script_maker.proofs.Pieces.{behind}
use Rattle.script_maker.proofs.lines.put_page.Goals as goal

pub returns : goal.returns
returns c =
    let last : List ℕ = decimal c.args.last in
    let e = codes "(); ?>" ++ foot in
    let d = last ++ e in
    let b = codes "<?php f" ++ d in
    let a = head ++ b in
    behind _ _ _ (codes "?>") a c.in_ok-put.ensures (behind _ _ _ head b
    (behind _ _ _ (codes "<!DOCTYPE html PUBLIC \"-//W3C//DTD XHTML 1.0 Strict//EN\" \"http://www.w3.org/TR/xhtml1/DTD/xhtml1-strict.dtd\">")
    (codes "<html xmlns=\"http://www.w3.org/1999/xhtml\"><head><title>t</title></head><body>") c.in_ok-put-2.ensures c.in_ok-put-3.ensures)
    (behind _ _ _ (codes "<?php f") d c.in_ok-put-4.ensures (behind _ _ _ last e c.in_ok-put_number.ensures
    (behind _ _ _ (codes "(); ?>") foot c.in_ok-put-5.ensures c.in_ok-put-6.ensures))))
