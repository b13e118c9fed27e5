use Rattle.std.proofs.Common.{refl, ap, ◌∙◌, ◌++◌, ◌∷◌, []}
use Rattle.cfg_grammar.specs.declared.production.Right.TheVariants.{Two}
use Rattle.system_writing.proofs.ends.put_byte.Goals as goal

pub returns : goal.returns
returns c =
    let is = c.byte_symbol.ensures in
    let adds = c.in_ok-add_production.ensures in
    record {
      byte = is.0;
      low = is.2;
      high = is.3;
      count = c.in_ok-count.ensures;
      productions = adds.1 ∙ ap (λ z. c.args.lines.now.productions.items ++ (record { left = record { 0 = c.args.lines.now.count }; right = Two z c.args.behind }) ∷ []) is.1;
      rules = adds.2;
      symbol = refl;
    }
