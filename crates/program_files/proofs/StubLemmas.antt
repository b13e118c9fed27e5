-- What reading a file of stubs comes to.
use Rattle.std.proofs.Common.{◌≡◌, ◌∙◌, ◌<◌, ◌≤◌, ℕ, List, [], ◌∷◌, length, Option, Some, None, Result, Ok, Err, IfErr, inl, inr, refl, sym, ap, subst, arith}
use Rattle.php_syntax.specs.Tokens.{PlainToken}
use Rattle.io_edge.specs.Counts.{one_more}
use Rattle.io_edge.specs.Told.{Content, Tells}
use Rattle.io_edge.specs.Names.{normal}
use Rattle.php_syntax.specs.Trees.{PlainFunction, PlainFile}
use Rattle.lexical_grammar.specs.Cuts.{Cuts}
use Rattle.script_grammar.specs.Grammar.{SpellsTree, IsTooDeep}
use Rattle.program_rules.specs.Includes.{includes_of_file}
use Rattle.program_files.specs.declared.refusal.ScriptRefusal.{ScriptRefusal}
use Rattle.program_files.specs.declared.tree.Unread.{Unread}
use Rattle.program_files.specs.declared.tree.Unread.TheVariants as unread
use Rattle.program_files.specs.Source.{source_call, so_many_more}
use Rattle.program_files.specs.Stubs.{ReadsStubs, IncludesSome, include_place, IsStubFault}
use Rattle.program_files.specs.Unread.{IsUnread, IsUnreadStub, StubsOf}

-- what is wrong with any script is wrong with one of stubs
pub or_unread : {A : Type 0} (script : List ℕ) (r : Result A Unread) → IfErr r (IsUnread script) → IfErr r (IsUnreadStub script)
or_unread script (Ok x) cause = tt
or_unread script (Err e) cause = inl cause

-- a script that includes something
pub includes_some : (script : List ℕ) (tokens : List PlainToken) (tree : PlainFile) (found : List (List ℕ)) (at : ℕ) → Cuts script tokens → SpellsTree tokens tree → (IsTooDeep tokens → ⊥) → found ≡ includes_of_file tree → 0 < length found
    → at ≡ include_place tokens → IncludesSome script at
includes_some script tokens tree found at cut spelled within are some first = record {
  tokens = tokens;
  tree = tree;
  cut = cut;
  spelled = spelled;
  within = within;
  includes = λ none. (let e = ap (λ (xs : List (List ℕ)). length xs) (are ∙ none) in omega (arith, e, some));
  first = first;
}

-- one that includes nothing
pub includes_none : (tree : PlainFile) (found : List (List ℕ)) → found ≡ includes_of_file tree → length found ≤ 0 → includes_of_file tree ≡ []
includes_none tree [] are none = sym are
includes_none tree (x ∷ xs) are none = absurd (omega (arith, none))

-- what is wrong with a script of stubs, of a fault
pub stub_fault : (script : List ℕ) (fault : ScriptRefusal) → IsUnreadStub script (unread.Script fault) → IsStubFault script fault
stub_fault script fault (inl broken) = inl broken
stub_fault script fault (inr (at, is, some)) = inr (at, same is, some)
  where
    same : {a b : ScriptRefusal} → unread.Script a ≡ unread.Script b → a ≡ b
    same e = cc

-- they are read
pub stubs_there : (content : Content) (f f' m m' r r' : ℕ) (name path script : List ℕ) (functions : List PlainFunction) → path ≡ normal name → Tells (content path) (Some script) → StubsOf script functions → r' ≡ one_more r → f' ≡ f → m' ≡ m
    → ReadsStubs (source_call content f f' m m' r r') (Some name) functions
unfolding so_many_more
stubs_there content f f' m m' r r' name path script functions is told s counted unfailed unmissed = record {
  has = record { bytes = script; tree = s.tree; told = subst (λ (x : List ℕ). Tells (content x) (Some script)) is told; is_stub = s.is_stub; are = s.are };
  counted = counted;
  unfailed = unfailed;
  unmissed = unmissed;
}

-- or there is no file of stubs
pub no_stubs : (content : Content) (f m r : ℕ) (stubs : Option (List ℕ)) (functions : List PlainFunction) → stubs ≡ None → functions ≡ [] → ReadsStubs (source_call content f f m m r r) stubs functions
unfolding so_many_more
no_stubs content f m r None functions is none = record { has = none; counted = refl; unfailed = refl; unmissed = refl }
no_stubs content f m r (Some name) functions is none = absurd (cc)
