-- One rule more.
use Rattle.std.proofs.Common.{◌≡◌, ◌<◌, ◌+◌, ◌↔◌, ℕ, Bool, List, ◌∷◌, length, refl, get_or, Some, slice_get, Contains, sym, subst, arith}
use Rattle.std.proofs.lemmas.Option.{slice_get-get_or}
use Rattle.text_base.specs.ByteSet.{Has}
use Rattle.cfg_grammar.specs.declared.symbol.Symbol.TheVariants.{Nt}
use Rattle.cfg_grammar.specs.declared.production.Production.{Production}
use Rattle.cfg_grammar.specs.declared.grammar.Grammar.{Grammar}
use Rattle.op_system.specs.declared.system.OpRule.{OpRule}
use Rattle.op_system.specs.declared.system.OpSystem.{OpSystem}
use Rattle.op_system.specs.Rel.{Rel}
use Rattle.op_system.specs.Size.{size_of}
use Rattle.fst_core.specs.declared.table.Table.{Table}
use Rattle.string_ops.specs.Listed.{IsMachine}
use Rattle.op_bytes.specs.Texts.{ByteOf}
use Rattle.op_bytes.specs.Cycles.{AreNumbers, IsInCycle}
use Rattle.op_bytes.proofs.EdgeLemmas.{rule_left_below}
use Rattle.op_bytes.specs.SystemBytes.{HasBytes}
use Rattle.grammar_image.specs.declared.refusal.ImageRefusal.{ImageRefusal}
use Rattle.grammar_image.specs.declared.refusal.ImageRefusal.TheVariants.{Large, Memory}
use Rattle.grammar_image.specs.Refusals as images
use Rattle.fst_core.specs.Tables.{TableStep}
use Rattle.resolving.specs.Drafts.{IsDraft}
use Rattle.resolving.specs.Drafted.{Added, IsNext, Drafted, AddsTexts, AddsOperation, IsImageOf}
use Rattle.resolving.specs.Resolved.{AreExact}
use Rattle.resolving.proofs.StepLemmas.{any_done, image_done, operand_exact}
use Rattle.resolving.specs.Causes.{IsCause}
use Rattle.resolving.specs.declared.draft.Draft.{Draft}
use Rattle.resolving.specs.AnyTexts.{AddsAnyTexts}
use Rattle.resolving.specs.Images.{AddsMoved, IsImageCause}
use Rattle.resolving.specs.Order.{IsDraftOf, IsDraftedBy, IsReadyFor, MayBeAdded, AddsRule}

-- one operation more in what the draft is drafted from
texts_drafted : (s : OpSystem) (rule : OpRule) (set : List Bool) (old new : Draft) → IsInCycle s rule → ((b : ℕ) → b < 256 → Has set b ↔ ByteOf s (Nt rule.left) b) → AddsAnyTexts rule.left set old new
    → (added : List Added) (place : ℕ) → IsDraftedBy s old added → IsNext s added place rule → (a : Added) × (a.place ≡ place) × IsDraftedBy s new (a ∷ added)
texts_drafted s rule set old new circles exact adds added place drafted next =
    let a : Added = record { place = place; nonterminals = 1; productions = 130 } in
    let step : AddsTexts s old.productions.items (length old.chains.last.items) rule new.productions.items = record { in_cycle = circles; set = set; bytes = exact; adds = adds.adds; few = adds.few } in
    (a, refl, subst (λ (n : ℕ). Drafted s new.productions.items n (a ∷ added)) (sym adds.count) (Drafted.by_texts old.productions.items new.productions.items (length old.chains.last.items) place added rule drafted next step))

image_drafted : (s : OpSystem) (rule : OpRule) (image : Grammar) (old new : Draft) → (IsInCycle s rule → ⊥) → AreExact s old.productions.items (Nt rule.operand) → IsImageOf old.productions.items rule image → AddsMoved rule.left image old new
    → (added : List Added) (place : ℕ) → IsDraftedBy s old added → IsNext s added place rule → (a : Added) × (a.place ≡ place) × IsDraftedBy s new (a ∷ added)
image_drafted s rule image old new in_none exact is adds added place drafted next =
    let a : Added = record { place = place; nonterminals = image.count; productions = 1 + length image.productions.items } in
    let step : AddsOperation s old.productions.items (length old.chains.last.items) rule image new.productions.items = record { in_no_cycle = in_none; exact = exact; is_image = is; adds = adds.adds; few = adds.few } in
    (a, refl, subst (λ (n : ℕ). Drafted s new.productions.items n (a ∷ added)) (sym adds.count) (Drafted.by_image old.productions.items new.productions.items (length old.chains.last.items) place added rule image drafted next step))

pub any_rule : (s : OpSystem) (rule : OpRule) (set : List Bool) (old new : Draft) → HasBytes s → IsDraftOf s old → Contains s.ops.items rule → IsInCycle s rule → ((b : ℕ) → b < 256 → Has set b ↔ ByteOf s (Nt rule.left) b)
    → AddsAnyTexts rule.left set old new → AddsRule s rule old new
any_rule s rule set old new fit is has circles exact adds =
    let r = any_done s old.productions.items new.productions.items (length old.chains.last.items) rule set fit is.is_draft has circles exact adds.adds in record {
      draft = record { indexed = adds.indexed; is_draft = subst (λ (n : ℕ). IsDraft s new.productions.items n) (sym adds.count) r.0 };
      keeps = adds.adds.keeps;
      done = r.1;
      drafted = texts_drafted s rule set old new circles exact adds;
    }

pub number_of : (s : OpSystem) (numbers : List ℕ) (rule : OpRule) → AreNumbers s numbers → Contains s.ops.items rule → slice_get numbers rule.left.0 ≡ Some (get_or numbers rule.left.0 0)
number_of s numbers rule are has = slice_get-get_or numbers rule.left.0 0 (let l = rule_left_below s.grammar.count s.ops.items rule s.rules_below has in let e = are.size in omega arith)

pub image_rule : (s : OpSystem) (rule : OpRule) (numbers : List ℕ) (image : Grammar) (old new : Draft) → HasBytes s → AreNumbers s numbers → IsDraftOf s old → Contains s.ops.items rule → (IsInCycle s rule → ⊥)
    → IsReadyFor s numbers old.productions.items rule → IsImageOf old.productions.items rule image → AddsMoved rule.left image old new → AddsRule s rule old new
image_rule s rule numbers image old new fit are is has in_none ready made adds =
    let at = number_of s numbers rule are has in
    let k : ℕ = get_or numbers rule.left.0 0 in
    let r = image_done s old.productions.items (length old.chains.last.items) rule numbers k is.is_draft has in_none are at (ready k at) new.productions.items made.table image fit made.machine made.is adds.adds in record {
      draft = record { indexed = adds.indexed; is_draft = subst (λ (n : ℕ). IsDraft s new.productions.items n) (sym adds.count) r.0 };
      keeps = adds.adds.keeps;
      done = r.1;
      drafted = image_drafted s rule image old new in_none (operand_exact s old.productions.items (length old.chains.last.items) rule numbers k is.is_draft has in_none are at (ready k at)) made adds;
    }

pub cause_of : (s : OpSystem) (rule : OpRule) (numbers : List ℕ) (limit : ℕ) (old : Draft) → AreNumbers s numbers → IsDraftOf s old → Contains s.ops.items rule → (IsInCycle s rule → ⊥)
    → IsReadyFor s numbers old.productions.items rule → MayBeAdded s rule old → (refusal : ImageRefusal) → IsImageCause old.productions.items rule limit refusal → IsCause s limit refusal
cause_of s rule numbers limit old are is has in_none ready may (Large items) cause =
    let at = number_of s numbers rule are has in
    let k : ℕ = get_or numbers rule.left.0 0 in (
      cause.0,
      record {
        productions = old.productions.items;
        count = length old.chains.last.items;
        added = may.added;
        drafted = may.drafted;
        place = may.place;
        rule = rule;
        next = may.next;
        in_no_cycle = in_none;
        table = cause.1.table;
        machine = cause.1.machine;
        exact = operand_exact s old.productions.items (length old.chains.last.items) rule numbers k is.is_draft has in_none are at (ready k at);
        many = cause.1.many;
      },
    )
cause_of s rule numbers limit old are is has in_none ready may Memory cause = tt

pub image_cause : (ps : List Production) (rule : OpRule) (limit : ℕ) (table : Table) → IsMachine table (size_of rule.op) (Rel rule.op) → (refusal : ImageRefusal)
    → images.IsCause ps (TableStep table.moves.items) rule.operand table.start limit refusal → IsImageCause ps rule limit refusal
image_cause ps rule limit table machine (Large items) cause = (cause.0, record { table = table; machine = machine; many = cause.1 })
image_cause ps rule limit table machine Memory cause = tt
