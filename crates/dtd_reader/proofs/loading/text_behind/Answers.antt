use Rattle.std.proofs.Common.{◌∙◌, ◌-◌, length, sym, ap, arith}
use Rattle.dtd_reader.proofs.Later.{no_longer}
use Rattle.dtd_reader.proofs.loading.text_behind.Goals as goal

pub returns : goal.returns
returns c =
    let whole = c.args.whole.now in
    let text = ap length c.in_ok-text.ensures in
    let behind = ap length c.in_ok-behind.ensures in
    let less = no_longer whole in
    let over = c.saturating_sub-over.ensures in
    (sym c.in_ok-behind.ensures ∙ sym c.in_ok-text.ensures, omega (arith, text, behind, less, over), omega (arith, over, c.requires))
