use Rattle.std.specs.Prelude.{Option, Some, None, IfSome}
use Rattle.std.proofs.lemmas.Result.{IfOk-weaker}
use Rattle.derivations.specs.declared.derivation.Derivation.{Derivation}
use Rattle.dtd_model.specs.TableOf.{table_of}
use Rattle.script_decision.proofs.pages.find_by_definition.Goals as goal

if_some : {A : Type 0} (P Q : A → Type 0) (o : Option A) → ((a : A) → P a → Q a) → IfSome o P → IfSome o Q
if_some P Q (Some a) go h = go a h
if_some P Q None go h = tt

pub returns-clause-found : goal.returns-clause-found
returns-clause-found c =
    IfOk-weaker c.find_broken_page.result _ _
    (λ found is. if_some _ _ found (λ (d : Derivation) h own. record {
      page = h.page;
      is_page = h.is_page;
      bad = c.broken_is_not_good.ensures (table_of c.args.dtd.now) c.args.dtd.now.lawful h.page h.broken own;
      derives = h.derives;
    }) is)
    c.find_broken_page.ensures.found
