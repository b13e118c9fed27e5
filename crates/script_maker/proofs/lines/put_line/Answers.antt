use Rattle.std.proofs.Common.{List, ℕ, ◌++◌, codes, decimal}
use Rattle.script_maker.proofs.Pieces.{behind}
use Rattle.script_maker.proofs.lines.put_line.Goals as goal

pub returns : goal.returns
returns c =
    let own : List ℕ = decimal c.args.own in
    let called : List ℕ = decimal c.args.called in
    let g = codes "(); } echo '</div>'; }\n" in
    let f = called ++ g in
    let e = codes "'])) { f" ++ f in
    let d = own ++ e in
    let b = codes "() { echo '<div>'; while (isset($_GET['k" ++ d in
    let a = own ++ b in
    behind _ _ _ (codes "function f") a c.in_ok-put.ensures (behind _ _ _ own b c.in_ok-put_number.ensures
    (behind _ _ _ (codes "() { echo '<div>'; while (isset($_GET['k") d c.in_ok-put-2.ensures (behind _ _ _ own e c.in_ok-put_number-2.ensures
    (behind _ _ _ (codes "'])) { f") f c.in_ok-put-3.ensures (behind _ _ _ called g c.in_ok-put_number-3.ensures c.in_ok-put-4.ensures)))))
