use Rattle.std.proofs.Common.{◌<◌, sym, subst}
use Rattle.text_base.specs.declared.numbers.Nt as nt
use Rattle.equal_sets.proofs.WrittenLemmas.{made_below}
use Rattle.equal_sets.proofs.writing.grammar_of.Goals as goal

pub invariant_of-result : goal.invariant_of-result
invariant_of-result c =
    let s = c.args.rows.now.system.now in
    record {
      start_below = subst (λ (a : nt.Nt). a.0 < s.grammar.count) (sym c.set_of.ensures) (c.requires.fit.below s.grammar.start s.grammar.start_below);
      below = made_below s c.args.rows.now.numbers.items c.args.sets.now c.requires.fit c.args.productions.items c.requires.productions;
    }
