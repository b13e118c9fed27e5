-- What a task speaks of has one verdict.
use Rattle.std.proofs.Common.{◌≡◌, ◌∙◌, ℕ, List, refl, sym, subst}
use Rattle.io_edge.specs.Told.{Content}
use Rattle.dtd_model.specs.Table.{Table}
use Rattle.page_policy.specs.Patterns.{Pattern}
use Rattle.script_meaning.specs.Programs.{PlainProgram}
use Rattle.document_types.specs.DocumentTypes.{NamedType}
use Rattle.page_decision.specs.declared.goal.Goal.{Goal}
use Rattle.phpsa_texts.specs.declared.exit.Exit.{Exit}
use Rattle.phpsa_texts.specs.declared.exit.Exit.TheVariants.{Done, No, Usage, Input}
use Rattle.phpsa_tasks.specs.Tasks.{ScriptFile, Task, script_check, page_check, script_making, made_check, script_run, grammar_making, list_check, script_match, help_telling, version_telling, usage}
use Rattle.program_loader.specs.Told.{IsLoaded}
use Rattle.script_decision.specs.Answers.{EachIsGood}
use Rattle.site_check.specs.Listed.{names_in}
use Rattle.phpsa_tasks.specs.Subjects.{PageBy, Subject, HoldScripts, IsWithin}
use Rattle.phpsa_tasks.specs.Answered.{IsScriptVerdict, IsMatchVerdict, IsOfList, IsListVerdict, IsVerdict}
use Rattle.phpsa_tasks.proofs.Held.{OneProgram}

-- a program whose loose pages are good has none that is not
script_once : (goal : Goal) (table : Table) (p : PlainProgram) (s t : Exit) → IsScriptVerdict goal table p s → IsScriptVerdict goal table p t → s ≡ t
script_once goal table p Done Done a b = refl
script_once goal table p Done No each (page, loose, bad) = absurd (bad (each page loose))
script_once goal table p Done _ a b = absurd b
script_once goal table p No No a b = refl
script_once goal table p No Done (page, loose, bad) each = absurd (bad (each page loose))
script_once goal table p No _ a b = absurd b
script_once goal table p _ t a b = absurd a

page_once : (content : Content) (file : List ℕ) (d : NamedType) (x : PageBy) (s t : Exit) → IsVerdict content (page_check file d) x s → IsVerdict content (page_check file d) x t → s ≡ t
page_once content file d x Done Done a b = refl
page_once content file d x Done No valid invalid = absurd (invalid valid)
page_once content file d x Done _ a b = absurd b
page_once content file d x No No a b = refl
page_once content file d x No Done invalid valid = absurd (invalid valid)
page_once content file d x No _ a b = absurd b
page_once content file d x _ t a b = absurd a

making_once : (content : Content) (n : ℕ) (s t : Exit) → IsVerdict content (script_making n) tt s → IsVerdict content (script_making n) tt t → s ≡ t
making_once content n Done Done a b = refl
making_once content n Done Input is not = absurd (not is)
making_once content n Done _ a b = absurd b
making_once content n Input Input a b = refl
making_once content n Input Done not is = absurd (not is)
making_once content n Input _ a b = absurd b
making_once content n _ t a b = absurd a

grammar_once : (content : Content) (file : ScriptFile) (p : PlainProgram) (s t : Exit) → IsVerdict content (grammar_making file) p s → IsVerdict content (grammar_making file) p t → s ≡ t
grammar_once content file p Done Done a b = refl
grammar_once content file p Done _ a b = absurd b
grammar_once content file p _ t a b = absurd a

-- a program whose loose pages fit has none that does not
match_once : (p : Pattern) (program : PlainProgram) (s t : Exit) → IsMatchVerdict p program s → IsMatchVerdict p program t → s ≡ t
match_once p program Done Done a b = refl
match_once p program Done No each (page, loose, misses) = absurd (misses (each page loose))
match_once p program Done _ a b = absurd b
match_once p program No No a b = refl
match_once p program No Done (page, loose, misses) each = absurd (misses (each page loose))
match_once p program No _ a b = absurd b
match_once p program _ t a b = absurd a

usage_once : (content : Content) (s t : Exit) → IsVerdict content usage tt s → IsVerdict content usage tt t → s ≡ t
usage_once content Usage Usage a b = refl
usage_once content Usage _ a b = absurd b
usage_once content _ t a b = absurd a

-- a list whose names each hold a program
one_named : OneProgram → (content : Content) (file : ScriptFile) (list : List ℕ) (p : PlainProgram) → HoldScripts content file (names_in list) → (o : IsOfList content file.stubs list p) → (q : PlainProgram)
    → IsLoaded content o.name file.stubs q → q ≡ p
one_named one content file list p hold o q loaded =
    let h = hold o.name o.named in
    sym (one content o.name file.stubs h.0 q h.1.held.holds loaded) ∙ one content o.name file.stubs h.0 p h.1.held.holds o.loaded

not_both : OneProgram → (content : Content) (file : ScriptFile) (goal : Goal) (table : Table) (list : List ℕ) → HoldScripts content file (names_in list) → IsListVerdict content file.stubs goal table list Done
    → IsListVerdict content file.stubs goal table list No → ⊥
not_both one content file goal table list hold (is, each) (is', (p, o, (page, loose, bad))) =
    let g = each o.name o.named in
    let own : EachIsGood goal table p = subst (EachIsGood goal table) (one_named one content file list p hold o g.0 g.1) g.2 in
    bad (own page loose)

list_once : OneProgram → (content : Content) (file : ScriptFile) (goal : Goal) (table : Table) (list : List ℕ) (s t : Exit) → HoldScripts content file (names_in list)
    → IsListVerdict content file.stubs goal table list s → IsListVerdict content file.stubs goal table list t → s ≡ t
list_once one content file goal table list Done Done hold a b = refl
list_once one content file goal table list Done No hold a b = absurd (not_both one content file goal table list hold a b)
list_once one content file goal table list Done Input hold (is, each) none = absurd (none is)
list_once one content file goal table list Done _ hold a b = absurd b
list_once one content file goal table list No No hold a b = refl
list_once one content file goal table list No Done hold a b = absurd (not_both one content file goal table list hold b a)
list_once one content file goal table list No Input hold (is, bad) none = absurd (none is)
list_once one content file goal table list No _ hold a b = absurd b
list_once one content file goal table list Input Input hold a b = refl
list_once one content file goal table list Input Done hold none (is, each) = absurd (none is)
list_once one content file goal table list Input No hold none (is, bad) = absurd (none is)
list_once one content file goal table list Input _ hold a b = absurd b
list_once one content file goal table list _ t hold a b = absurd a

pub one_verdict : OneProgram → (content : Content) (task : Task) (x : Subject task) (s t : Exit) → IsWithin content task x → IsVerdict content task x s → IsVerdict content task x t → s ≡ t
one_verdict one content (script_check file d goal limit form choice) x s t w a b = script_once goal x.table x.program s t a b
one_verdict one content (page_check file d) x s t w a b = page_once content file d x s t a b
one_verdict one content (script_making n) x s t w a b = making_once content n s t a b
one_verdict one content (made_check n) x s t w a b = script_once Goal.Valid x.table x.program s t a b
one_verdict one content (script_run file request steps) x s t w a b = a ∙ sym b
one_verdict one content (grammar_making file) x s t w a b = grammar_once content file x s t a b
one_verdict one content (list_check file d goal limit) x s t w a b = list_once one content file goal x.table x.list s t w.1 a b
one_verdict one content (script_match file policy) x s t w a b = match_once x.pattern x.program s t a b
one_verdict one content help_telling x s t w a b = a ∙ sym b
one_verdict one content version_telling x s t w a b = a ∙ sym b
one_verdict one content usage x s t w a b = usage_once content s t a b
