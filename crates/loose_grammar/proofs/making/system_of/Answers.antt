use Rattle.std.proofs.Common.{◌↔◌, ℕ, List, subst}
use Rattle.std.specs.Prelude.{Result, Ok, Err, IfOk}
use Rattle.text_base.specs.declared.memory.NoMemory.{NoMemory}
use Rattle.cfg_grammar.specs.declared.symbol.Symbol.TheVariants.{Nt}
use Rattle.flow_code.specs.Flat.{flat}
use Rattle.flow_code.specs.Points.{PlainFlow}
use Rattle.op_system.specs.declared.system.OpSystem.{OpSystem}
use Rattle.loose_sets.specs.Loose.{Loose}
use Rattle.op_bytes.specs.Texts.{TextOf}
use Rattle.program_rules.specs.View.{program_of}
use Rattle.extraction.specs.Rules.{AreLooseRules}
use Rattle.extraction.specs.ListedMade.{IsMade}
use Rattle.script_meaning.specs.Programs.{PlainProgram}
use Rattle.loose_grammar.specs.Pages.{IsSystemOf, IsProgramSystem}
use Rattle.loose_grammar.proofs.making.system_of.Goals as goal

all_three : (program : PlainProgram) (r : Result OpSystem NoMemory) → IfOk r (IsSystemOf program) → IfOk r (AreLooseRules (flat program)) → IfOk r (IsMade (flat program)) → IfOk r (IsProgramSystem program)
all_three program (Ok s) pages rules made = record { pages = pages; rules = rules; made = made }
all_three program (Err e) pages rules made = tt

pub returns : goal.returns
returns c =
    let along = c.requires in
    all_three (program_of c.args.program.now) c.extract.result
    (subst (λ (flow : PlainFlow). IfOk c.extract.result (λ s. (page : List ℕ) → TextOf s (Nt s.start) page ↔ Loose flow page)) along c.extract.ensures.pages)
    (subst (λ (flow : PlainFlow). IfOk c.extract.result (AreLooseRules flow)) along c.extract.ensures.rules)
    (subst (λ (flow : PlainFlow). IfOk c.extract.result (IsMade flow)) along c.extract.ensures.made)
