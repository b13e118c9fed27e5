-- Loose pages of a program, and what has exactly these.
use Rattle.std.specs.Prelude.{◌≡◌, ◌↔◌, ℕ, List, map}
use Rattle.text_base.specs.declared.numbers.Nt as nt
use Rattle.text_base.specs.declared.letter.Letter.{Letter}
use Rattle.text_base.specs.declared.letter.Letter.TheVariants.{OfByte}
use Rattle.cfg_grammar.specs.declared.symbol.Symbol.TheVariants.{Nt}
use Rattle.cfg_grammar.specs.declared.production.Production.{Production}
use Rattle.cfg_grammar.specs.declared.grammar.Grammar.{Grammar}
use Rattle.cfg_grammar.specs.Derives.{Derives}
use Rattle.script_meaning.specs.Programs.{PlainProgram}
use Rattle.flow_code.specs.Flat.{flat}
use Rattle.loose_sets.specs.Loose.{Loose}
use Rattle.op_system.specs.declared.system.OpSystem.{OpSystem}
use Rattle.op_bytes.specs.Texts.{TextOf}
use Rattle.equal_sets.specs.Joined.{IsJoined}
use Rattle.resolving.specs.Drafted.{IsResolved}
use Rattle.useful_nonterminals.specs.Trimmed.{IsTrimmed}
use Rattle.extraction.specs.Rules.{AreLooseRules}
use Rattle.extraction.specs.ListedMade.{IsMade}

-- the bytes are a loose page of the program
abbrev pub IsLoosePage : PlainProgram → List ℕ → Type 0
IsLoosePage program page = Loose (flat program) page

-- the start of the system has exactly the loose pages
abbrev pub IsSystemOf : PlainProgram → OpSystem → Type 0
IsSystemOf program system = (page : List ℕ) → TextOf system (Nt system.start) page ↔ IsLoosePage program page

-- the productions derive exactly the loose pages
abbrev pub DerivePages : PlainProgram → List Production → nt.Nt → Type 0
DerivePages program productions start = (letters : List Letter) → Derives productions (Nt start) letters
    ↔ ((page : List ℕ) × (letters ≡ map OfByte page) × IsLoosePage program page)

-- the system is made of the sets of the program: it has exactly the loose pages, and its operations are those of the loose sets
pub record IsProgramSystem (program : PlainProgram) (system : OpSystem) : Type 0 where
  pub pages : IsSystemOf program system
  pub rules : AreLooseRules (flat program) system
  pub made : IsMade (flat program) system

-- the grammar is that of the loose pages which is made of the program: of its system, in which equal sets are one, with each operation added
-- once, without what is useless
pub record IsPageGrammar (program : PlainProgram) (grammar : Grammar) : Type 0 where
  pub system : OpSystem
  pub of_program : IsProgramSystem program system
  pub joined : OpSystem
  pub is_joined : IsJoined system joined
  pub resolved : Grammar
  pub of_system : IsResolved joined resolved
  pub trimmed : IsTrimmed resolved.productions.items resolved.start resolved.count grammar.productions.items grammar.start grammar.count
  pub pages : DerivePages program grammar.productions.items grammar.start
