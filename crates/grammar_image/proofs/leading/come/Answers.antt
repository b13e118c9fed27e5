use Rattle.std.proofs.Common.{length, sym, subst}
use Rattle.std.specs.Prelude.{IfSome, IsTrue}
use Rattle.derivations.specs.Nodes.{parts_below}
use Rattle.grammar_image.proofs.LeadLemmas.{parts_there}
use Rattle.grammar_image.proofs.leading.come.Goals as goal

pub push_led-requires : goal.push_led-requires
push_led-requires c =
    let made = c.args.made.now.nodes.items in
    subst (λ o. IfSome o (λ parts. IsTrue (parts_below (length made) parts))) (sym c.led_parts.ensures) (parts_there made c.args.leads.now c.requires c.args.parts)
