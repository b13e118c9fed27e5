use Rattle.std.proofs.Common.{◌∙◌, ap, min}
use Rattle.derivations.specs.Stands.{root_of}
use Rattle.cfg_grammar.specs.declared.symbol.Symbol.TheVariants as symbol
use Rattle.script_decision.proofs.ShowLemmas.{counted_bytes}
use Rattle.script_decision.proofs.showing_pages.show_page.Goals as goal

pub returns : goal.returns
returns c = λ ps left w is.
    let nodes = c.args.derivation.now.nodes.nodes.items in
    record {
      counted = c.length.ensures ∙ c.lengths_are_right.ensures ps nodes (root_of nodes) (symbol.Nt left) w c.args.derivation.now.nodes.lawful is
          ∙ ap (λ n. min n 18446744073709551615) (counted_bytes w);
      begins = c.in_ok-front.ensures ps left w is;
    }
