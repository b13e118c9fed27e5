-- The pages that a grammar derives are the loose pages of a program.
use Rattle.std.proofs.Common.{◌↔◌, ℕ, List, sym, subst}
use Rattle.text_base.specs.declared.numbers.Nt as nt
use Rattle.text_base.specs.declared.letter.Letter.{Letter}
use Rattle.cfg_grammar.specs.declared.symbol.Symbol.TheVariants.{Nt}
use Rattle.cfg_grammar.specs.declared.production.Production.{Production}
use Rattle.cfg_grammar.specs.declared.grammar.Grammar.{Grammar}
use Rattle.cfg_grammar.specs.Derives.{Derives}
use Rattle.script_meaning.specs.Programs.{PlainProgram}
use Rattle.op_system.specs.declared.system.OpSystem.{OpSystem}
use Rattle.op_bytes.specs.Texts.{TextOf}
use Rattle.equal_sets.specs.Joined.{IsJoined}
use Rattle.resolving.specs.Resolved.{HasLetters}
use Rattle.resolving.specs.Drafted.{IsResolved}
use Rattle.useful_nonterminals.specs.Trimmed.{IsTrimmed}
use Rattle.resolving.specs.Causes.{IsCause}
use Rattle.grammar_image.specs.declared.refusal.ImageRefusal.{ImageRefusal}
use Rattle.grammar_image.specs.declared.refusal.ImageRefusal.TheVariants.{Large, Memory}
use Rattle.loose_grammar.specs.declared.refusal.TheConstants.{ITEM_LIMIT}
use Rattle.loose_grammar.specs.Pages.{IsSystemOf, DerivePages, IsProgramSystem, IsPageGrammar}
use Rattle.loose_grammar.specs.Refusals.{IsGrammarRefusal, refusal_of}

module _ (program : PlainProgram) where
  -- productions that derive exactly the texts of the start of a system of the loose pages
  pub system_pages : (system : OpSystem) (productions : List Production) (start : nt.Nt) → IsSystemOf program system
      → ((w : List Letter) → Derives productions (Nt start) w ↔ HasLetters system (Nt system.start) w) → DerivePages program productions start
  system_pages system productions start is exact w = (
    λ d. let h = (exact w).0 d in (h.0, h.1, (is h.0).0 h.2),
    λ h. (exact w).1 (h.0, h.1, (is h.0).1 h.2),
  )

  -- the system in which equal sets are one has the same pages
  pub joined_pages : (system joined : OpSystem) → IsSystemOf program system → IsJoined system joined → IsSystemOf program joined
  joined_pages system joined is h page =
      let texts = h.texts system.start page in (
        λ i. (is page).0 (texts.0 (subst (λ (a : nt.Nt). TextOf joined (Nt a) page) h.start i)),
        λ l. subst (λ (a : nt.Nt). TextOf joined (Nt a) page) (sym h.start) (texts.1 ((is page).1 l)),
      )

  -- and those with the same sentences
  pub same_pages : (old new : List Production) (start start' : nt.Nt) → DerivePages program old start → ((w : List Letter) → Derives old (Nt start) w ↔ Derives new (Nt start') w)
      → DerivePages program new start'
  same_pages old new start start' are same w = (λ d. (are w).0 ((same w).1 d), λ h. (same w).0 ((are w).1 h))

  -- the grammar of the system without what is useless
  pub page_grammar : (system joined : OpSystem) (resolved g : Grammar) → IsProgramSystem program system → IsJoined system joined → IsResolved joined resolved
      → ((w : List Letter) → Derives resolved.productions.items (Nt resolved.start) w ↔ HasLetters joined (Nt joined.start) w)
      → IsTrimmed resolved.productions.items resolved.start resolved.count g.productions.items g.start g.count → IsPageGrammar program g
  page_grammar system joined resolved g is is_joined of_system exact trimmed = record {
    system = system;
    of_program = is;
    joined = joined;
    is_joined = is_joined;
    resolved = resolved;
    of_system = of_system;
    trimmed = trimmed;
    pages = same_pages resolved.productions.items g.productions.items resolved.start g.start (system_pages joined resolved.productions.items resolved.start (joined_pages system joined is.pages is_joined) exact) trimmed.sentences;
  }

  -- an operation's image is too large
  pub operation_refusal : (system joined : OpSystem) (r : ImageRefusal) → IsProgramSystem program system → IsJoined system joined → IsCause joined ITEM_LIMIT r
      → IsGrammarRefusal program (refusal_of r)
  operation_refusal system joined (Large items) is is_joined h = (h.0, record { system = system; of_program = is; joined = joined; is_joined = is_joined; large = h.1 })
  operation_refusal system joined Memory is is_joined h = tt
