-- What the source tells all of is what a task finds, and a reply and a refusal say its verdict.
use Rattle.std.proofs.Common.{◌≡◌, ◌≤◌, ◌<◌, ◌∙◌, ℕ, List, length, Bool, true, false, None, Some, Option, refl, sym, ap, subst, inl, inr, arith}
use Rattle.std.specs.Prelude.{◌⊎◌}
use Rattle.std.proofs.lemmas.Option.{same_Some}
use Rattle.text_base.specs.declared.limits.TheConstants.{FILE_LIMIT}
use Rattle.io_edge.specs.Counts.{Rises}
use Rattle.io_edge.specs.Names.{normal}
use Rattle.io_edge.specs.Told.{Told, Content, known, Tells, HasAtLeast}
use Rattle.io_edge.specs.Reasons.{HasReason}
use Rattle.io_edge.specs.declared.files.FileFault.{FileFault}
use Rattle.io_edge.specs.declared.files.FileFault.TheVariants as reading
use Rattle.script_meaning.specs.Programs.{PlainProgram}
use Rattle.script_meaning.specs.Requests.{PlainRequest}
use Rattle.script_meaning.specs.Runs.{Ended}
use Rattle.script_meaning.specs.Meaning.{meaning}
use Rattle.program_rules.specs.Includes.{AllStayInside}
use Rattle.program_files.specs.Source.{SourceCall, source_call}
use Rattle.program_files.specs.declared.refusal.LoadRefusal.{LoadRefusal}
use Rattle.program_files.specs.declared.refusal.LoadRefusal.TheVariants as load
use Rattle.program_loader.specs.Causes.{IsLoadCause}
use Rattle.program_loader.specs.Told.{IsLoaded, HoldsProgram, AreShort, StubsAreShort}
use Rattle.dtd_model.specs.Table.{Table}
use Rattle.page_policy.specs.Patterns.{Pattern}
use Rattle.page_policy.specs.Grammar.{Spells}
use Rattle.page_policy.specs.Refusals.{IsTaken, IsCause as IsPolicyCause}
use Rattle.page_policy.specs.declared.refusal.PolicyRefusal.{PolicyRefusal}
use Rattle.page_policy.specs.declared.refusal.PolicyRefusal.TheVariants as policy
use Rattle.page_policy.specs.declared.refusal.TheConstants.{POLICY_LIMIT}
use Rattle.page_policy.proofs.SpellLemmas.{spell_one}
use Rattle.script_decision.specs.PolicyAnswers.{IsPolicyAnswer}
use Rattle.script_decision.specs.declared.policy_answer.PolicyAnswer.{PolicyAnswer}
use Rattle.script_decision.specs.declared.policy_answer.PolicyAnswer.TheVariants as matched
use Rattle.request_reading.specs.Outcome.{Outcome, not_json, not_request, not_admitted, stands_for, outcome}
use Rattle.request_reading.specs.Causes.{IsCause}
use Rattle.request_reading.specs.declared.refusal.RequestRefusal.{RequestRefusal}
use Rattle.request_reading.specs.declared.refusal.RequestRefusal.TheVariants as asking
use Rattle.dtd_reader.specs.declared.refusal.DtdRefusal.{DtdRefusal}
use Rattle.document_types.specs.DocumentTypes.{NamedType, strict_type, HasTable}
use Rattle.document_types.specs.declared.refusal.DefinitionRefusal.{DefinitionRefusal}
use Rattle.document_types.specs.declared.refusal.DefinitionRefusal.TheVariants as definition
use Rattle.document_types.proofs.OneTable.{same_table}
use Rattle.document_types.proofs.ForMemory.{IsWant, for_memory}
use Rattle.page_decision.specs.declared.goal.Goal.{Goal}
use Rattle.program_lowering.specs.Short.{HasLongText}
use Rattle.script_decision.specs.Decision.{HasLargeModels}
use Rattle.script_decision.specs.declared.shown.ShownAnswer.{ShownAnswer}
use Rattle.script_decision.specs.Shown.{IsShownAnswer}
use Rattle.script_decision.specs.ShortestAnswers.{IsShortestAnswer}
use Rattle.script_decision.specs.declared.shortest_answer.ShortestAnswer.{ShortestAnswer}
use Rattle.phpsa_texts.specs.declared.exit.Exit.{Exit}
use Rattle.phpsa_texts.specs.declared.exit.Exit.TheVariants.{Input, Memory}
use Rattle.phpsa_texts.specs.Statuses.{judgment_status, load_status, file_status, request_status, definition_status, policy_status, list_status, site_status}
use Rattle.site_check.specs.declared.list_refusal.ListRefusal.{ListRefusal}
use Rattle.site_check.specs.Listed.{IsList, IsNoList}
use Rattle.phpsa_tasks.specs.Tasks.{ScriptFile, root_of, Task, script_check, page_check, script_making, made_check, script_run, grammar_making, list_check, script_match, help_telling, version_telling, usage}
use Rattle.phpsa_tasks.specs.Files.{HoldsShortFile}
use Rattle.phpsa_tasks.specs.Requests.{no_request, FindsRequest, HoldsRequest, unread, no_request_in, RefusesRequest}
use Rattle.phpsa_tasks.specs.Policies.{FindsPattern, HoldsPattern, pattern_unread, no_pattern_in, RefusesPattern}
use Rattle.phpsa_tasks.specs.PolicyAnswers.{match_status}
use Rattle.phpsa_tasks.specs.Subjects.{ProgramBy, PageBy, ProgramFor, ProgramAgainst, ListBy, Subject, made_name, made_file, only_made, Finds, HoldsShortProgram, HoldsProgramInside, HoldsTable, Holds, IsSmall, IsWithin}
use Rattle.phpsa_tasks.specs.declared.choice.PageChoice.{PageChoice}
use Rattle.phpsa_tasks.specs.ScriptAnswers.{answer_status, shortest_status}
use Rattle.phpsa_tasks.specs.Replies.{end_status, HasManyItems, IsJudged, IsReplyOf, IsHaltOf}
use Rattle.phpsa_tasks.specs.Causes.{definition_call, RefusesDefinition, not_defined, large_models, RefusesScript, not_loaded, lacks_definition, has_long_text, not_read, page_lacks_definition, no_size, made_refused, list_unread, no_list, list_lacks_definition, RefusesLongText, Refuses}
use Rattle.phpsa_tasks.specs.Counted.{from_misses}
use Rattle.phpsa_tasks.specs.Answered.{IsScriptVerdict, PassesScriptLimit, PassesCheckLimit, PassesGrammarLimit, IsMatchVerdict, PassesMatchLimit, IsListVerdict, StopsAtScript, IsVerdict, PassesLimit, IsStopped}
use Rattle.script_maker.specs.Made.{made}
use Rattle.phpsa_tasks.proofs.Alone.{alone_stays_inside}
use Rattle.phpsa_tasks.proofs.ListLemmas.{LoadedStays, list_verdict, not_list}
use Rattle.command_words.specs.declared.values.TheConstants.{PAIR_LIMIT}

abbrev pub OneProgram : Type 0
OneProgram = (content : Content) (name : List ℕ) (stubs : Option (List ℕ)) (program other : PlainProgram) → HoldsProgram content name stubs program → IsLoaded content name stubs other
    → program ≡ other

-- a source that tells of each name that a program reads holds one, which is not refused but for want of memory
pub record ProgramLaws : Type 0 where
  pub one_program : OneProgram
  pub stay : LoadedStays
  pub not_refused : (call : SourceCall) (root name : List ℕ) (stubs : Option (List ℕ)) (program : PlainProgram) (refusal : LoadRefusal)
      → (h : HoldsProgram call.content name stubs program) → AreShort h.held name → StubsAreShort call.content stubs
      → AllStayInside root h.held (normal name) → (Rises call.faults call.faults' → ⊥) → IsLoadCause call root name stubs refusal → refusal ≡ load.Memory

-- a program that is held and stays in its root is refused for want of memory alone
pub unloaded_memory : ProgramLaws → (files : SourceCall) (file : ScriptFile) (program : PlainProgram) (cause : LoadRefusal) → HoldsProgramInside files.content file program
    → (Rises files.faults files.faults' → ⊥) → IsLoadCause files (root_of file) file.name file.stubs cause → load_status cause ≡ Memory
unloaded_memory laws files file program cause h calm why =
    ap load_status (laws.not_refused files (root_of file) file.name file.stubs program cause h.held.holds h.held.short h.held.short_stubs h.inside calm why)

pub one_content : (content : Content) (file bytes other : List ℕ) → content file ≡ known (Some bytes) → Tells (content file) (Some other) → bytes ≡ other
one_content content file bytes other held told =
    let same : Tells (known (Some bytes)) (Some other) = subst (λ (x : Told). Tells x (Some other)) held told in
    same_Some bytes other same

-- the status of an answer is the verdict of the program, or says that a count was passed
answer_verdict : (goal : Goal) (table : Table) (program : PlainProgram) (limit : ℕ) (answer : ShownAnswer) → IsShownAnswer goal table program limit answer
    → IsScriptVerdict goal table program (answer_status answer) ⊎ PassesScriptLimit goal table program limit (answer_status answer)
answer_verdict goal table program limit ShownAnswer.Yes is = inl is
answer_verdict goal table program limit (ShownAnswer.No shown) is = inl (is.page, is.loose, is.bad)
answer_verdict goal table program limit (ShownAnswer.Pairs count height) is = inr (ShownAnswer.Pairs count height, is, refl)
answer_verdict goal table program limit (ShownAnswer.Tags count height) is = inr (ShownAnswer.Tags count height, is, refl)
answer_verdict goal table program limit (ShownAnswer.Items count) is = inr (ShownAnswer.Items count, is, refl)

script_verdict : (goal : Goal) (table : Table) (program : PlainProgram) (limit : ℕ) (answer : ShownAnswer) (status : Exit) → status ≡ answer_status answer
    → IsShownAnswer goal table program limit answer → IsScriptVerdict goal table program status ⊎ PassesScriptLimit goal table program limit status
script_verdict goal table program limit answer status status_is is =
    subst (λ (s : Exit). IsScriptVerdict goal table program s ⊎ PassesScriptLimit goal table program limit s) (sym status_is) (answer_verdict goal table program limit answer is)

-- and so is that of an answer with a shortest page
shortest_verdict : (goal : Goal) (table : Table) (program : PlainProgram) (limit : ℕ) (answer : ShortestAnswer) → IsShortestAnswer goal table program limit answer
    → IsScriptVerdict goal table program (shortest_status answer) ⊎ PassesCheckLimit PageChoice.Shortest goal table program limit (shortest_status answer)
shortest_verdict goal table program limit ShortestAnswer.Yes is = inl is
shortest_verdict goal table program limit (ShortestAnswer.No shown) is = inl (is.page, is.loose, is.bad)
shortest_verdict goal table program limit (ShortestAnswer.Pairs count len) is = inr (ShortestAnswer.Pairs count len, is, refl)
shortest_verdict goal table program limit (ShortestAnswer.Tags count len) is = inr (ShortestAnswer.Tags count len, is, refl)
shortest_verdict goal table program limit (ShortestAnswer.Items count) is = inr (ShortestAnswer.Items count, is, refl)

shortest_verdict_at : (goal : Goal) (table : Table) (program : PlainProgram) (limit : ℕ) (answer : ShortestAnswer) (status : Exit) → status ≡ shortest_status answer
    → IsShortestAnswer goal table program limit answer → IsScriptVerdict goal table program status ⊎ PassesCheckLimit PageChoice.Shortest goal table program limit status
shortest_verdict_at goal table program limit answer status status_is is =
    subst (λ (s : Exit). IsScriptVerdict goal table program s ⊎ PassesCheckLimit PageChoice.Shortest goal table program limit s) (sym status_is)
    (shortest_verdict goal table program limit answer is)

judgment_verdict : (content : Content) (file : List ℕ) (d : NamedType) (x : PageBy) (valid : Bool) → IsJudged x.table x.page valid → IsVerdict content (page_check file d) x (judgment_status valid)
judgment_verdict content file d x true is = is
judgment_verdict content file d x false is = is

-- what is so of the program and the table that are found is so of those that are held
pub own_program : OneProgram → (content : Content) (file : ScriptFile) (d : NamedType) (x y : ProgramBy) → HoldsShortProgram content file x.program → HoldsTable content d x.table
    → IsLoaded content file.name file.stubs y.program → HasTable content d y.table → (P : PlainProgram → Table → Type 0) → P y.program y.table → P x.program x.table
own_program one content file d x y h t found has P is =
    subst (λ (p : PlainProgram). P p x.table) (sym (one content file.name file.stubs x.program y.program h.holds found))
    (subst (λ (s : Table). P y.program s) (sym (same_table content d x.table y.table t.told t.has has)) is)

-- and so of the page
pub own_page : (content : Content) (file : List ℕ) (d : NamedType) (x y : PageBy) → HoldsShortFile content file x.page → HoldsTable content d x.table
    → Tells (content file) (Some y.page) → HasTable content d y.table → (P : List ℕ → Table → Type 0) → P y.page y.table → P x.page x.table
own_page content file d x y h t found has P is =
    subst (λ (p : List ℕ). P p x.table) (sym (one_content content file x.page y.page h.told found))
    (subst (λ (s : Table). P y.page s) (sym (same_table content d x.table y.table t.told t.has has)) is)

-- and of the list
pub own_list : (content : Content) (file : List ℕ) (d : NamedType) (x y : ListBy) → HoldsShortFile content file x.list → HoldsTable content d x.table
    → Tells (content file) (Some y.list) → HasTable content d y.table → (P : List ℕ → Table → Type 0) → P y.list y.table → P x.list x.table
own_list content file d x y h t found has P is =
    own_page content file d (record { page = x.list; table = x.table }) (record { page = y.list; table = y.table }) h t found has P is

-- the request of an outcome
abbrev asked_of : Outcome → PlainRequest
asked_of not_json = no_request
asked_of not_request = no_request
asked_of (not_admitted path) = no_request
asked_of (stands_for request) = request

-- and so of the program and the request of a run
pub own_request : (content : Content) (request : Option (List ℕ)) (x y : PlainRequest) → HoldsRequest content request x → FindsRequest content request y → x ≡ y
own_request content None x y held found = held ∙ sym found
own_request content (Some name) x y held (bytes, told, is) =
    let same : held.bytes ≡ bytes = one_content content name held.bytes bytes held.file.told told in
    ap asked_of (sym held.is ∙ ap outcome same ∙ is)

pub own_run : OneProgram → (content : Content) (file : ScriptFile) (request : Option (List ℕ)) (x y : ProgramFor) → HoldsShortProgram content file x.program
    → HoldsRequest content request x.request → IsLoaded content file.name file.stubs y.program → FindsRequest content request y.request
    → (P : PlainProgram → PlainRequest → Type 0) → P y.program y.request → P x.program x.request
own_run one content file request x y h r found finds P is =
    subst (λ (p : PlainProgram). P p x.request) (sym (one content file.name file.stubs x.program y.program h.holds found))
    (subst (λ (q : PlainRequest). P y.program q) (sym (own_request content request x.request y.request r finds)) is)

-- and so of the program and the pattern that its pages are held against
own_pattern : (content : Content) (name : List ℕ) (x y : Pattern) → HoldsPattern content name x → FindsPattern content name y → x ≡ y
own_pattern content name x y held (bytes, told, taken) =
    let same : held.bytes ≡ bytes = one_content content name held.bytes bytes held.file.told told in
    spell_one bytes x y (subst (λ (b : List ℕ). Spells b x) same held.taken.spelled) taken.spelled

pub own_match : OneProgram → (content : Content) (file : ScriptFile) (name : List ℕ) (x y : ProgramAgainst) → HoldsShortProgram content file x.program
    → HoldsPattern content name x.pattern → IsLoaded content file.name file.stubs y.program → FindsPattern content name y.pattern
    → (P : PlainProgram → Pattern → Type 0) → P y.program y.pattern → P x.program x.pattern
own_match one content file name x y h t found finds P is =
    subst (λ (p : PlainProgram). P p x.pattern) (sym (one content file.name file.stubs x.program y.program h.holds found))
    (subst (λ (q : Pattern). P y.program q) (sym (own_pattern content name x.pattern y.pattern t finds)) is)

-- the status of an answer is what the program comes to by the pattern, or says that a count was passed
match_verdict : (p : Pattern) (program : PlainProgram) (answer : PolicyAnswer) → IsPolicyAnswer p program answer
    → IsMatchVerdict p program (match_status answer) ⊎ PassesMatchLimit p program (match_status answer)
match_verdict p program matched.Yes is = inl is
match_verdict p program (matched.No shown) is = inl (is.page, is.loose, is.misses)
match_verdict p program (matched.Items count) is = inr (matched.Items count, is, refl)
match_verdict p program (matched.States count) is = inr (matched.States count, is, refl)

match_verdict_at : (p : Pattern) (program : PlainProgram) (answer : PolicyAnswer) (status : Exit) → status ≡ match_status answer → IsPolicyAnswer p program answer
    → IsMatchVerdict p program status ⊎ PassesMatchLimit p program status
match_verdict_at p program answer status status_is is =
    subst (λ (s : Exit). IsMatchVerdict p program s ⊎ PassesMatchLimit p program s) (sym status_is) (match_verdict p program answer is)

-- a limit that is passed stops the task
stopped : (content : Content) (task : Task) (x : Subject task) (status : Exit) → IsVerdict content task x status ⊎ PassesLimit content task x status
    → IsVerdict content task x status ⊎ IsStopped content task x status
stopped content task x status (inl is) = inl is
stopped content task x status (inr is) = inr (inl is)

-- a reply says the verdict of what the source holds, or that a limit was passed
pub held_reply : OneProgram → LoadedStays → (files : SourceCall) (task : Task) (x y : Subject task) (status : Exit) (text : List ℕ) → Holds files.content task x → Finds files.content task y
    → IsReplyOf files task y status text → IsVerdict files.content task x status ⊎ IsStopped files.content task x status
held_reply one stay files (script_check file d goal limit form PageChoice.First) x y status text (h, t) (found, has) (answer, is, status_is, text_is) =
    stopped files.content (script_check file d goal limit form PageChoice.First) x status
    (script_verdict goal x.table x.program limit answer status status_is
    (own_program one files.content file d x y h t found.loaded has (λ (p : PlainProgram) (s : Table). IsShownAnswer goal s p limit answer) is.0))
held_reply one stay files (script_check file d goal limit form PageChoice.Shortest) x y status text (h, t) (found, has) (answer, is, status_is, text_is) =
    stopped files.content (script_check file d goal limit form PageChoice.Shortest) x status
    (shortest_verdict_at goal x.table x.program limit answer status status_is
    (own_program one files.content file d x y h t found.loaded has (λ (p : PlainProgram) (s : Table). IsShortestAnswer goal s p limit answer) is.0))
held_reply one stay files (page_check file d) x y status text (h, t) (found, has) (valid, is, status_is, text_is) =
    inl (subst (IsVerdict files.content (page_check file d) x) (sym status_is)
    (judgment_verdict files.content file d x valid (own_page files.content file d x y h t found has (λ (p : List ℕ) (s : Table). IsJudged s p valid) is)))
held_reply one stay files (script_making n) x y status text h f (size, status_is, text_is) = inl (subst (IsVerdict files.content (script_making n) tt) (sym status_is) size)
held_reply one stay files (made_check n) x y status text (size, h, t) (size', found, has) (answer, is, status_is, text_is) =
    stopped files.content (made_check n) x status
    (script_verdict Goal.Valid x.table x.program PAIR_LIMIT answer status status_is
    (own_program one (only_made n) made_file strict_type x y h t found.loaded has (λ (p : PlainProgram) (s : Table). IsShownAnswer Goal.Valid s p PAIR_LIMIT answer) is.0))
held_reply one stay files (script_run file request steps) x y status text (h, r) (found, finds, admitted) (ended, status_is, text_is) =
    inl (status_is ∙ ap end_status (sym (own_run one files.content file request x y h r found.loaded finds (λ (p : PlainProgram) (q : PlainRequest). (meaning p q steps).end ≡ Ended) ended)))
held_reply one stay files (grammar_making file) x y status text h found (inl (written, status_is)) = inl (subst (IsVerdict files.content (grammar_making file) x) (sym status_is) tt)
held_reply one stay files (grammar_making file) x y status text h found (inr (count, many, status_is, text_is)) =
    let own : HasManyItems x count = subst (λ (p : PlainProgram). HasManyItems p count) (sym (one files.content file.name file.stubs x y h.holds found.loaded)) many in
    inr (inl (subst (PassesGrammarLimit x) (sym status_is) (count, own)))
held_reply one stay files (list_check file d goal limit) x y status text (h, t) (found, has, good) (lines, are, status_is, text_is) =
    stopped files.content (list_check file d goal limit) x status
    (subst (λ (s : Exit). IsListVerdict files.content file.stubs goal x.table x.list s ⊎ StopsAtScript files.content file goal x.table limit x.list s) (sym status_is)
    (own_list files.content file.name d x y h t found has
    (λ (l : List ℕ) (s : Table). IsListVerdict files.content file.stubs goal s l (site_status lines) ⊎ StopsAtScript files.content file goal s limit l (site_status lines))
    (list_verdict stay files file goal limit y lines good are)))
held_reply one stay files (script_match file policy) x y status text (h, t) (found, finds) (answer, is, status_is, text_is) =
    stopped files.content (script_match file policy) x status
    (match_verdict_at x.pattern x.program answer status status_is
    (own_match one files.content file policy x y h t found.loaded finds (λ (p : PlainProgram) (q : Pattern). IsPolicyAnswer q p answer) is.0))
held_reply one stay files help_telling x y status text h f (status_is, text_is) = inl status_is
held_reply one stay files version_telling x y status text h f (status_is, text_is) = inl status_is
held_reply one stay files usage x y status text h f r = absurd r

-- and so does a run that does not come to its end
pub held_halt : OneProgram → (content : Content) (task : Task) (x y : Subject task) (status : Exit) (printed text : List ℕ) → Holds content task x → Finds content task y
    → IsHaltOf task y status printed text → IsVerdict content task x status ⊎ IsStopped content task x status
held_halt one content (script_check file d goal limit form choice) x y status printed text h f r = absurd r
held_halt one content (page_check file d) x y status printed text h f r = absurd r
held_halt one content (script_making n) x y status printed text h f r = absurd r
held_halt one content (made_check n) x y status printed text h f r = absurd r
held_halt one content (script_run file request steps) x y status printed text (h, r) (found, finds, admitted) (early, status_is, printed_is, text_is) =
    inl (own_run one content file request x y h r found.loaded finds (λ (p : PlainProgram) (q : PlainRequest). status ≡ end_status (meaning p q steps).end) status_is)
held_halt one content (grammar_making file) x y status printed text h f r = absurd r
held_halt one content (list_check file d goal limit) x y status printed text h f r = absurd r
held_halt one content (script_match file policy) x y status printed text h f r = absurd r
held_halt one content help_telling x y status printed text h f r = absurd r
held_halt one content version_telling x y status printed text h f r = absurd r
held_halt one content usage x y status printed text h f r = absurd r

-- a page that is told of and short is read
not_missing : (content : Content) (file page : List ℕ) → content file ≡ known (Some page) → Tells (content file) None → ⊥
not_missing content file page told none =
    let same : Tells (known (Some page)) None = subst (λ (x : Told). Tells x None) told none in
    cc

not_long : (content : Content) (file page : List ℕ) (len : ℕ) → content file ≡ known (Some page) → length page ≤ FILE_LIMIT → FILE_LIMIT < len → HasAtLeast (content file) len → ⊥
not_long content file page len told short over least =
    let at : HasAtLeast (known (Some page)) len = subst (λ (x : Told). HasAtLeast x len) told least in
    omega (arith, at, over, short)

pub file_memory : (files : SourceCall) (file page : List ℕ) (f : FileFault) → HoldsShortFile files.content file page → (Rises files.faults files.faults' → ⊥)
    → HasReason (files.content file) files.faults files.faults' files.misses files.misses' f → file_status f ≡ Memory
file_memory files file page reading.Missing h calm (rises, none) = absurd (not_missing files.content file page h.told none)
file_memory files file page reading.Failed h calm rises = absurd (calm rises)
file_memory files file page (reading.TooLong len) h calm (over, least) = absurd (not_long files.content file page len h.told h.short over least)
file_memory files file page reading.Memory h calm free = refl

-- a request that is held is refused for want of memory alone
asked_memory : (refusal : RequestRefusal) (o : Outcome) (x : PlainRequest) → o ≡ stands_for x → IsCause refusal o → request_status refusal ≡ Memory
asked_memory asking.NotJson o x is why = let same : not_json ≡ stands_for x = sym why ∙ is in absurd cc
asked_memory asking.NotRequest o x is why = let same : not_request ≡ stands_for x = sym why ∙ is in absurd cc
asked_memory (asking.NotAdmitted path) o x is why = let same : not_admitted path ≡ stands_for x = sym why ∙ is in absurd cc
asked_memory asking.Memory o x is why = refl

request_memory : (files : SourceCall) (request : Option (List ℕ)) (x : PlainRequest) (status : Exit) (text : List ℕ) → HoldsRequest files.content request x
    → (Rises files.faults files.faults' → ⊥) → RefusesRequest files request status text → status ≡ Memory
request_memory files None x status text held calm why = absurd why
request_memory files (Some name) x status text held calm (unread fault why is text_is) =
    is ∙ file_memory files name held.bytes fault held.file calm why
request_memory files (Some name) x status text held calm (no_request_in bytes refusal told why is text_is) =
    let same : bytes ≡ held.bytes = sym (one_content files.content name held.bytes bytes held.file.told told) in
    is ∙ asked_memory refusal (outcome bytes) x (ap outcome same ∙ held.is) why

-- a pattern that is held is refused for want of memory alone
taken_memory : (bytes : List ℕ) (p : Pattern) (refusal : PolicyRefusal) → IsTaken bytes p → IsPolicyCause bytes refusal → policy_status refusal ≡ Memory
taken_memory bytes p (policy.NotPattern at) taken why = absurd (why.2 p taken.spelled)
taken_memory bytes p (policy.TooLong len) taken why =
    let short : length bytes ≤ POLICY_LIMIT = taken.short in
    let long : POLICY_LIMIT < length bytes = why.1 in
    absurd (omega (arith, short, long))
taken_memory bytes p (policy.TooDeep at) taken why = let none : None ≡ Some at = sym taken.shallow ∙ why.1 in absurd cc
taken_memory bytes p policy.Memory taken why = refl

pattern_memory : (files : SourceCall) (name : List ℕ) (p : Pattern) (status : Exit) (text : List ℕ) → HoldsPattern files.content name p
    → (Rises files.faults files.faults' → ⊥) → RefusesPattern files name status text → status ≡ Memory
pattern_memory files name p status text held calm (pattern_unread fault why is text_is) = is ∙ file_memory files name held.bytes fault held.file calm why
pattern_memory files name p status text held calm (no_pattern_in bytes refusal told why is text_is) =
    let same : bytes ≡ held.bytes = sym (one_content files.content name held.bytes bytes held.file.told told) in
    is ∙ taken_memory held.bytes p refusal held.taken (subst (λ (b : List ℕ). IsPolicyCause b refusal) same why)

want_status : (cause : DefinitionRefusal) → IsWant cause → definition_status cause ≡ Memory
want_status (definition.File fault) is = ap (λ (f : DtdRefusal). definition_status (definition.File f)) is
want_status (definition.BuiltIn fault) is = ap (λ (f : DtdRefusal). definition_status (definition.BuiltIn f)) is
want_status definition.Memory is = refl

-- a definition that is held within its limits is refused for want of memory alone
pub definition_memory : (files : SourceCall) (d : NamedType) (table : Table) (status : Exit) (text : List ℕ) → HoldsTable files.content d table → IsSmall files.content d table
    → (Rises files.faults files.faults' → ⊥) → RefusesDefinition files d status text → status ≡ Memory
definition_memory files d table status text t w calm (not_defined cause why status_is text_is) =
    status_is ∙ want_status cause (for_memory (definition_call files) d table cause t.told w.short w.small t.has calm why)
definition_memory files d table status text t w calm (large_models found count has many status_is text_is) =
    absurd (w.few count (subst (λ (s : Table). HasLargeModels s count) (same_table files.content d found table t.told has t.has) many))

-- a count of 0 has not risen
never : Rises 0 0 → ⊥
never rises = let one : 1 ≤ 0 = rises in omega (arith, one)

-- a long text stops the decision
long_passes : (choice : PageChoice) (goal : Goal) (table : Table) (program : PlainProgram) (limit : ℕ) → HasLongText program → PassesCheckLimit choice goal table program limit Input
long_passes PageChoice.First goal table program limit long = long
long_passes PageChoice.Shortest goal table program limit long = long

-- a script that is held is refused for a long text, or for want of memory
held_script : ProgramLaws → (files : SourceCall) (file : ScriptFile) (d : NamedType) (choice : PageChoice) (goal : Goal) (limit : ℕ) (x : ProgramBy) (status : Exit) (text : List ℕ)
    → (Rises files.faults files.faults' → ⊥) → HoldsProgramInside files.content file x.program → HoldsTable files.content d x.table → IsSmall files.content d x.table
    → RefusesScript files file d status text → PassesCheckLimit choice goal x.table x.program limit status ⊎ (status ≡ Memory)
held_script laws files file d choice goal limit x status text calm h t w (not_loaded cause why status_is text_is) =
    inr (status_is ∙ unloaded_memory laws files file x.program cause h calm why)
held_script laws files file d choice goal limit x status text calm h t w (lacks_definition program misses found behind why) =
    inr (definition_memory (from_misses misses files) d x.table status text t w calm why)
held_script laws files file d choice goal limit x status text calm h t w (has_long_text program found long status_is text_is) =
    let own : HasLongText x.program = subst HasLongText (sym (laws.one_program files.content file.name file.stubs x.program program h.held.holds found.loaded)) long in
    inl (subst (PassesCheckLimit choice goal x.table x.program limit) (sym status_is) (long_passes choice goal x.table x.program limit own))

-- a list that is held and is none is refused for that
refused_list : (files : SourceCall) (file : ScriptFile) (goal : Goal) (limit : ℕ) (table : Table) (list : List ℕ) (refusal : ListRefusal) (status : Exit) → status ≡ list_status refusal → IsNoList list refusal
    → IsListVerdict files.content file.stubs goal table list status ⊎ (StopsAtScript files.content file goal table limit list status ⊎ (status ≡ Memory))
refused_list files file goal limit table list refusal status status_is why = by (not_list list refusal why)
  where
    by : ((list_status refusal ≡ Input) × (IsList list → ⊥)) ⊎ (list_status refusal ≡ Memory)
        → IsListVerdict files.content file.stubs goal table list status ⊎ (StopsAtScript files.content file goal table limit list status ⊎ (status ≡ Memory))
    by (inl (is, none)) = inl (subst (IsListVerdict files.content file.stubs goal table list) (sym (status_is ∙ is)) none)
    by (inr is) = inr (inr (status_is ∙ is))

-- a refusal says the verdict of what the source holds, that a limit was passed, or want of memory
pub held_refusal : ProgramLaws → (files : SourceCall) (task : Task) (x : Subject task) (status : Exit) (text : List ℕ) → (Rises files.faults files.faults' → ⊥)
    → Holds files.content task x → IsWithin files.content task x → Refuses files task status text → IsVerdict files.content task x status ⊎ IsStopped files.content task x status
held_refusal laws files (script_check file d goal limit form choice) x status text calm (h, t) (i, w) why = inr (held_script laws files file d choice goal limit x status text calm i t w why)
held_refusal laws files (page_check file d) x status text calm (h, t) w (not_read fault why status_is text_is) =
    inr (inr (status_is ∙ file_memory files file x.page fault h calm why))
held_refusal laws files (page_check file d) x status text calm (h, t) w (page_lacks_definition read told why) = inr (inr (definition_memory files d x.table status text t w calm why))
held_refusal laws files (script_making n) x status text calm h w (size, status_is, text_is) = inl (subst (IsVerdict files.content (script_making n) tt) (sym status_is) size)
held_refusal laws files (made_check n) x status text calm (size, h, t) w (no_size none status_is text_is) = absurd (none size)
held_refusal laws files (made_check n) x status text calm (size, h, t) w (made_refused size' misses reads why) =
    let inside : HoldsProgramInside (only_made n) made_file x.program =
    record { held = h; inside = alone_stays_inside made_name (made n) made_name None x.program h.holds (root_of made_file) } in
    inr (held_script laws (source_call (only_made n) 0 0 0 misses 0 reads) made_file strict_type PageChoice.First Goal.Valid PAIR_LIMIT x status text never inside t w why)
held_refusal laws files (script_run file request steps) x status text calm (h, r) w (inl (cause, why, status_is, text_is)) =
    inr (inr (status_is ∙ unloaded_memory laws files file x.program cause w calm why))
held_refusal laws files (script_run file request steps) x status text calm (h, r) w (inr (program, found, (misses, behind, why), read)) =
    inr (inr (request_memory (from_misses misses files) request x.request status text r calm why))
held_refusal laws files (grammar_making file) x status text calm h w (inl (cause, why, status_is, text_is)) =
    inr (inr (status_is ∙ unloaded_memory laws files file x cause w calm why))
held_refusal laws files (grammar_making file) x status text calm h w (inr (program, found, long, status_is, text_is)) =
    let own : HasLongText x = subst HasLongText (sym (laws.one_program files.content file.name file.stubs x program h.holds found.loaded)) long in
    inr (inl (subst (PassesGrammarLimit x) (sym status_is) own))
held_refusal laws files (list_check file d goal limit) x status text calm (h, t) (w, hold) (list_unread fault why status_is text_is) =
    inr (inr (status_is ∙ file_memory files file.name x.list fault h calm why))
held_refusal laws files (list_check file d goal limit) x status text calm (h, t) (w, hold) (no_list list refusal told why status_is text_is) =
    refused_list files file goal limit x.table x.list refusal status status_is
    (subst (λ (l : List ℕ). IsNoList l refusal) (sym (one_content files.content file.name x.list list h.told told)) why)
held_refusal laws files (list_check file d goal limit) x status text calm (h, t) (w, hold) (list_lacks_definition list cause told is why status_is text_is) =
    inr (inr (definition_memory files d x.table status text t w calm (not_defined cause why status_is text_is)))
held_refusal laws files (script_match file name) x status text calm (h, t) w (inl (cause, why, status_is, text_is)) =
    inr (inr (status_is ∙ unloaded_memory laws files file x.program cause w calm why))
held_refusal laws files (script_match file name) x status text calm (h, t) w (inr (inl (program, found, (misses, behind, why), read))) =
    inr (inr (pattern_memory (from_misses misses files) name x.pattern status text t calm why))
held_refusal laws files (script_match file name) x status text calm (h, t) w (inr (inr l)) = behind l.refuses
  where
    behind : RefusesLongText files file status text → IsVerdict files.content (script_match file name) x status ⊎ IsStopped files.content (script_match file name) x status
    behind (program, found, long, status_is, text_is) =
        let own : HasLongText x.program = subst HasLongText (sym (laws.one_program files.content file.name file.stubs x.program program h.holds found.loaded)) long in
        inr (inl (subst (PassesMatchLimit x.pattern x.program) (sym status_is) own))
held_refusal laws files help_telling x status text calm h w why = absurd why
held_refusal laws files version_telling x status text calm h w why = absurd why
held_refusal laws files usage x status text calm h w (status_is, text_is) = inl (subst (IsVerdict files.content usage tt) (sym status_is) tt)
