use Rattle.std.proofs.Common.{◌<◌, ℕ, sym, subst}
use Rattle.text_base.specs.declared.numbers.Nt as nt
use Rattle.op_system.specs.Rules.{RulesAreBelow}
use Rattle.equal_sets.proofs.WrittenLemmas.{made_plain, rules_made_below}
use Rattle.equal_sets.proofs.TextLemmas.{is_joined}
use Rattle.equal_sets.proofs.writing.system_of.Goals as goal

pub invariant_of-result : goal.invariant_of-result
invariant_of-result c =
    let s = c.args.rows.now.system.now in
    let fit = c.requires.fit in
    record {
      start_below = subst (λ (n : ℕ). c.set_of.result.0 < n) (sym c.requires.count) (subst (λ (a : nt.Nt). a.0 < s.grammar.count) (sym c.set_of.ensures) (fit.below s.start s.start_below));
      rules_below = subst (λ (n : ℕ). RulesAreBelow n c.args.ops.items) (sym c.requires.count) (rules_made_below s c.args.rows.now.numbers.items c.args.sets.now fit c.args.ops.items c.requires.rules);
      no_token = made_plain s c.args.rows.now.numbers.items c.args.sets.now fit c.args.grammar.productions.items c.requires.productions;
    }

pub returns : goal.returns
returns c =
    let rows = c.args.rows.now in
    is_joined rows.system.now _ rows.numbers.items c.args.sets.now c.requires.rows.numbers c.requires.fit c.requires.productions c.requires.rules c.requires.count c.set_of.ensures
