use Rattle.std.proofs.Common.{Option, IfNone, IfSome, sym, subst}
use Rattle.cfg_grammar.specs.declared.symbol.Symbol as symbols
use Rattle.derivations.specs.declared.derivation.Derivation.{Derivation}
use Rattle.fst_core.specs.Outputs.{DerivesText}
use Rattle.page_decision.specs.Echoes.{PutsTokens, IsMachineImage}
use Rattle.page_decision.specs.TextVerdicts.{IsDerivationOf, IsNotWhole, NoneFound}
use Rattle.page_decision.proofs.TextFoundLemmas.{some_found, none_found}
use Rattle.page_decision.proofs.text_deciding.find_wrong.Goals as goal

pub returns-in-Ok-clause-found : goal.returns-in-Ok-clause-found
returns-in-Ok-clause-found g c =
    let s = c.args.summary.now in
    let m = c.args.machine.now in
    let texts = DerivesText c.args.grammar.now.productions.items (symbols.Symbol.Nt c.args.grammar.now.start) in
    let puts = PutsTokens (g.M.Machine.first m) (g.M.Machine.steps m) (g.M.Machine.ends m) in
    let is_image = IsMachineImage c.args.grammar.now (g.M.Machine.first m) (g.M.Machine.steps m) (g.M.Machine.ends m) in
    subst (λ (o : Option Derivation). IfSome o (IsNotWhole texts puts (g.S.Summary.sum_of s) (g.S.Summary.is_whole s) (IsDerivationOf c.args.grammar.now))) (sym c.found_in.ensures)
    (some_found texts puts (g.S.Summary.sum_of s) (g.S.Summary.is_whole s) is_image (IsDerivationOf c.args.grammar.now) (g.S.Summary.tag_count s) c.args.pairs c.in-Ok.verdict c.in-Ok.ensures.verdict)

pub returns-in-Ok-clause-none : goal.returns-in-Ok-clause-none
returns-in-Ok-clause-none g c =
    let s = c.args.summary.now in
    let m = c.args.machine.now in
    let texts = DerivesText c.args.grammar.now.productions.items (symbols.Symbol.Nt c.args.grammar.now.start) in
    let puts = PutsTokens (g.M.Machine.first m) (g.M.Machine.steps m) (g.M.Machine.ends m) in
    let is_image = IsMachineImage c.args.grammar.now (g.M.Machine.first m) (g.M.Machine.steps m) (g.M.Machine.ends m) in
    subst (λ (o : Option Derivation). IfNone o (NoneFound texts puts (g.S.Summary.sum_of s) (g.S.Summary.is_whole s) is_image (g.S.Summary.tag_count s) c.args.pairs)) (sym c.found_in.ensures)
    (none_found texts puts (g.S.Summary.sum_of s) (g.S.Summary.is_whole s) is_image (IsDerivationOf c.args.grammar.now) (g.S.Summary.tag_count s) c.args.pairs c.in-Ok.verdict c.in-Ok.ensures.verdict)
