use Rattle.std.specs.Prelude.{Option, Some, None, IfSome, IfNone}
use Rattle.std.proofs.lemmas.Result.{IfOk-weaker}
use Rattle.cfg_grammar.specs.declared.symbol.Symbol as symbols
use Rattle.derivations.specs.declared.derivation.Derivation.{Derivation}
use Rattle.fst_core.specs.Outputs.{DerivesText}
use Rattle.dtd_model.specs.TableOf.{table_of}
use Rattle.page_decision.specs.Echoes.{IsMachineImage, PutsTokens}
use Rattle.page_decision.specs.TextVerdicts.{IsDerivationOf}
use Rattle.page_decision.proofs.FoundLemmas.{all_nested}
use Rattle.page_decision.proofs.VerdictLemmas.{broken_is_bad}
use Rattle.page_decision.proofs.deciding.find_broken.Goals as goal

if_some : {A : Type 0} (P Q : A → Type 0) (o : Option A) → ((a : A) → P a → Q a) → IfSome o P → IfSome o Q
if_some P Q (Some a) go h = go a h
if_some P Q None go h = tt

if_none : {A P Q : Type 0} (o : Option A) → (P → Q) → IfNone o P → IfNone o Q
if_none (Some a) go h = tt
if_none None go h = go h

pub returns-clause-found : goal.returns-clause-found
returns-clause-found g c =
    let m = c.args.machine.now in
    IfOk-weaker c.find_wrong.result _ _
    (λ found is. if_some _ _ found
    (λ (d : Derivation) wrong. broken_is_bad (table_of c.args.dtd.now) (DerivesText c.args.grammar.now.productions.items (symbols.Symbol.Nt c.args.grammar.now.start)) (IsDerivationOf c.args.grammar.now) c.texts_fit.ensures
    (g.B.Machine.first m) (g.B.Machine.steps m) (g.B.Machine.ends m) c.requires c.args.goal d wrong) is)
    c.find_wrong.ensures.found

pub returns-clause-none : goal.returns-clause-none
returns-clause-none g c = λ two no_tags.
    let m = c.args.machine.now in
    IfOk-weaker c.find_wrong.result _ _
    (λ found is. if_none found
    (λ none. all_nested (DerivesText c.args.grammar.now.productions.items (symbols.Symbol.Nt c.args.grammar.now.start)) (PutsTokens (g.B.Machine.first m) (g.B.Machine.steps m) (g.B.Machine.ends m)) no_tags
    (IsMachineImage c.args.grammar.now (g.B.Machine.first m) (g.B.Machine.steps m) (g.B.Machine.ends m)) c.args.pairs two none) is)
    c.find_wrong.ensures.none
