use Rattle.std.proofs.Common.{IfOk, subst}
use Rattle.std.proofs.lemmas.Result.{IfOk-weaker}
use Rattle.cfg_grammar.specs.declared.symbol.Symbol as symbols
use Rattle.fst_core.specs.Outputs.{DerivesText}
use Rattle.dtd_model.specs.TableOf.{table_of}
use Rattle.page_decision.specs.Echoes.{IsMachineImage}
use Rattle.page_decision.specs.TextVerdicts.{IsDerivationOf}
use Rattle.page_decision.specs.declared.goal.Goal.{Goal}
use Rattle.page_decision.specs.declared.sums.PageSums.{PageSums}
use Rattle.page_decision.specs.PageSums.{AreSumsOf}
use Rattle.page_decision.proofs.VerdictLemmas.{only_valid, only_nested}
use Rattle.short_page.specs.ShortPages.{IsShortPageAnswer}
use Rattle.short_page.proofs.PageLemmas.{valid_answer, nested_answer}
use Rattle.short_page.proofs.paging.shortest_page.Goals as goal

pub returns-in-BySegments-clause-answer : goal.returns-in-BySegments-clause-answer
returns-in-BySegments-clause-answer g c =
    let m = c.args.machine.now in
    let table = table_of c.args.dtd.now in
    let pages = DerivesText c.args.grammar.now.productions.items (symbols.Symbol.Nt c.args.grammar.now.start) in
    let is_image = IsMachineImage c.args.grammar.now (g.M.Machine.first m) (g.M.Machine.steps m) (g.M.Machine.ends m) in
    let sums = subst (λ (s : PageSums). AreSumsOf c.args.goal table s) c.in-BySegments.is c.requires.sums in
    only_valid (λ (a : Goal). IfOk c.shortest.result (IsShortPageAnswer table pages is_image (IsDerivationOf c.args.grammar.now) a c.args.pairs)) table c.args.goal c.in-BySegments.segments sums
    (λ are. IfOk-weaker c.shortest.result _ _
    (λ v is. valid_answer table pages (IsDerivationOf c.args.grammar.now) c.texts_fit.ensures (g.M.Machine.first m) (g.M.Machine.steps m) (g.M.Machine.ends m) c.requires.machine is_image c.sums_tell_valid.ensures c.in-BySegments.segments are c.args.pairs v is)
    c.shortest.ensures.answer)

pub returns-in-ByNesting-clause-answer : goal.returns-in-ByNesting-clause-answer
returns-in-ByNesting-clause-answer g c =
    let m = c.args.machine.now in
    let table = table_of c.args.dtd.now in
    let pages = DerivesText c.args.grammar.now.productions.items (symbols.Symbol.Nt c.args.grammar.now.start) in
    let is_image = IsMachineImage c.args.grammar.now (g.M.Machine.first m) (g.M.Machine.steps m) (g.M.Machine.ends m) in
    let sums = subst (λ (s : PageSums). AreSumsOf c.args.goal table s) c.in-ByNesting.is c.requires.sums in
    only_nested (λ (a : Goal). IfOk c.shortest-in-ByNesting.result (IsShortPageAnswer table pages is_image (IsDerivationOf c.args.grammar.now) a c.args.pairs)) table c.args.goal c.in-ByNesting.nesting sums
    (IfOk-weaker c.shortest-in-ByNesting.result _ _
    (λ v is. nested_answer table pages (IsDerivationOf c.args.grammar.now) c.texts_fit.ensures (g.M.Machine.first m) (g.M.Machine.steps m) (g.M.Machine.ends m) c.requires.machine is_image c.nests_tell_nested.ensures c.args.pairs v is)
    c.shortest-in-ByNesting.ensures.answer)
