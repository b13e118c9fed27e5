-- No refusal has the status of a task that is done, and the usage is told of words that ask for nothing alone.
use Rattle.std.proofs.Common.{◌≡◌, ◌∙◌, ℕ, List, Option, None, Some, true, false, inl, inr, refl, sym, subst}
use Rattle.plain_values.specs.declared.fault.Fault.{Fault}
use Rattle.plain_values.specs.declared.fault.Fault.TheVariants as fault
use Rattle.script_meaning.specs.Runs as runs
use Rattle.io_edge.specs.declared.files.FileFault.{FileFault}
use Rattle.io_edge.specs.declared.files.FileFault.TheVariants as reading
use Rattle.program_files.specs.Source.{SourceCall, source_call}
use Rattle.program_files.specs.declared.refusal.LoadRefusal.{LoadRefusal}
use Rattle.program_files.specs.declared.refusal.LoadRefusal.TheVariants as load
use Rattle.request_reading.specs.declared.refusal.RequestRefusal.{RequestRefusal}
use Rattle.request_reading.specs.declared.refusal.RequestRefusal.TheVariants as asking
use Rattle.page_policy.specs.declared.refusal.PolicyRefusal.{PolicyRefusal}
use Rattle.page_policy.specs.declared.refusal.PolicyRefusal.TheVariants as policy
use Rattle.script_decision.specs.declared.policy_answer.PolicyAnswer.{PolicyAnswer}
use Rattle.script_decision.specs.declared.policy_answer.PolicyAnswer.TheVariants as matched
use Rattle.site_check.specs.declared.list_refusal.ListRefusal.{ListRefusal}
use Rattle.site_check.specs.declared.list_refusal.ListRefusal.TheVariants as listing
use Rattle.dtd_reader.specs.declared.refusal.DtdRefusal.{DtdRefusal}
use Rattle.dtd_reader.specs.declared.refusal.DtdRefusal.TheVariants as dtd
use Rattle.document_types.specs.DocumentTypes.{NamedType, strict_type}
use Rattle.document_types.specs.declared.refusal.DefinitionRefusal.{DefinitionRefusal}
use Rattle.document_types.specs.declared.refusal.DefinitionRefusal.TheVariants as definition
use Rattle.script_decision.specs.declared.shown.ShownAnswer.{ShownAnswer}
use Rattle.script_decision.specs.declared.shortest_answer.ShortestAnswer.{ShortestAnswer}
use Rattle.command_words.specs.Asked.{Asked, help, version, check, run, page, grammar, make, site, match_pattern}
use Rattle.phpsa_texts.specs.declared.exit.Exit.{Exit}
use Rattle.phpsa_texts.specs.declared.exit.Exit.TheVariants.{Done, Usage}
use Rattle.phpsa_texts.specs.declared.exit.Exit.TheVariants as exit
use Rattle.phpsa_texts.specs.Statuses.{judgment_status, fault_status, load_status, file_status, request_status, policy_status, dtd_status, built_in_status, definition_status, list_status}
use Rattle.phpsa_tasks.specs.Tasks.{ScriptFile, Task, script_check, page_check, script_making, made_check, script_run, grammar_making, list_check, script_match, help_telling, version_telling, usage, task_of}
use Rattle.phpsa_tasks.specs.Policies.{pattern_unread, no_pattern_in, RefusesPattern}
use Rattle.phpsa_tasks.specs.PolicyAnswers.{match_status}
use Rattle.phpsa_tasks.specs.Requests.{unread, no_request_in, RefusesRequest}
use Rattle.phpsa_tasks.specs.Subjects.{Subject, made_file, only_made}
use Rattle.phpsa_tasks.specs.declared.choice.PageChoice.{PageChoice}
use Rattle.phpsa_tasks.specs.ScriptAnswers.{answer_status, shortest_status}
use Rattle.phpsa_tasks.specs.Replies.{end_status, IsReplyOf, IsHaltOf}
use Rattle.phpsa_tasks.specs.Written.{HasAllWritten}
use Rattle.phpsa_tasks.specs.Counted.{from_misses}
use Rattle.phpsa_tasks.specs.Causes.{RefusesDefinition, not_defined, large_models, RefusesScript, not_loaded, lacks_definition, has_long_text, RefusesPage, not_read, page_lacks_definition, RefusesMade, no_size, made_refused, RefusesList, list_unread, no_list, list_lacks_definition, RefusesLongText, Refuses}
use Rattle.phpsa_tasks.proofs.ListLemmas.{no_usage}

-- neither a status of a reply or of a run, nor that of the usage
abbrev pub IsOther : Exit → Type 0
IsOther Done = ⊥
IsOther exit.No = ⊥
IsOther exit.Undecided = ⊥
IsOther exit.Fault = ⊥
IsOther exit.Spent = ⊥
IsOther exit.Deep = ⊥
IsOther exit.Site = ⊥
IsOther Usage = ⊥
IsOther status = Unit {0}

of_load : (cause : LoadRefusal) → IsOther (load_status cause)
of_load (load.Missing name) = tt
of_load (load.Outside name) = tt
of_load (load.ReadFault name) = tt
of_load (load.TooLong name len) = tt
of_load (load.Script name fault) = tt
of_load (load.IncludeCycle name) = tt
of_load (load.DoubleFunction name) = tt
of_load (load.UnknownFunction name) = tt
of_load (load.Arity name) = tt
of_load (load.TooMany count) = tt
of_load load.Memory = tt

of_file : (f : FileFault) → IsOther (file_status f)
of_file reading.Missing = tt
of_file reading.Failed = tt
of_file (reading.TooLong len) = tt
of_file reading.Memory = tt

of_dtd : (refusal : DtdRefusal) → IsOther (dtd_status refusal)
of_dtd (dtd.Missing name) = tt
of_dtd (dtd.ReadFault name) = tt
of_dtd (dtd.TooLong name len) = tt
of_dtd (dtd.Outside name) = tt
of_dtd dtd.Memory = tt
of_dtd (dtd.NotDtd at) = tt
of_dtd (dtd.Entity name) = tt
of_dtd (dtd.Twice name) = tt
of_dtd (dtd.Undeclared name) = tt
of_dtd (dtd.LeftOut at) = tt
of_dtd (dtd.Limit count) = tt

of_built_in : (refusal : DtdRefusal) → IsOther (built_in_status refusal)
of_built_in dtd.Memory = tt
of_built_in _ = tt

of_defining : (cause : DefinitionRefusal) → IsOther (definition_status cause)
of_defining (definition.File fault) = of_dtd fault
of_defining (definition.BuiltIn fault) = of_built_in fault
of_defining definition.Memory = tt

of_definition : (files : SourceCall) (d : NamedType) (status : Exit) (text : List ℕ) → RefusesDefinition files d status text → IsOther status
of_definition files d status text (not_defined cause why is text_is) = subst IsOther (sym is) (of_defining cause)
of_definition files d status text (large_models table count has many is text_is) = subst IsOther (sym is) tt

of_script : (files : SourceCall) (file : ScriptFile) (d : NamedType) (status : Exit) (text : List ℕ) → RefusesScript files file d status text → IsOther status
of_script files file d status text (not_loaded cause why is text_is) = subst IsOther (sym is) (of_load cause)
of_script files file d status text (lacks_definition program misses found behind why) = of_definition (from_misses misses files) d status text why
of_script files file d status text (has_long_text program found long is text_is) = subst IsOther (sym is) tt

of_page : (files : SourceCall) (file : List ℕ) (d : NamedType) (status : Exit) (text : List ℕ) → RefusesPage files file d status text → IsOther status
of_page files file d status text (not_read fault why is text_is) = subst IsOther (sym is) (of_file fault)
of_page files file d status text (page_lacks_definition read told why) = of_definition files d status text why

of_made : (n : ℕ) (status : Exit) (text : List ℕ) → RefusesMade n status text → IsOther status
of_made n status text (no_size size is text_is) = subst IsOther (sym is) tt
of_made n status text (made_refused size misses reads why) = of_script (source_call (only_made n) 0 0 0 misses 0 reads) made_file strict_type status text why

of_asking : (refusal : RequestRefusal) → IsOther (request_status refusal)
of_asking asking.NotJson = tt
of_asking asking.NotRequest = tt
of_asking (asking.NotAdmitted path) = tt
of_asking asking.Memory = tt

of_request : (files : SourceCall) (request : Option (List ℕ)) (status : Exit) (text : List ℕ) → RefusesRequest files request status text → IsOther status
of_request files None status text why = absurd why
of_request files (Some name) status text (unread fault why is text_is) = subst IsOther (sym is) (of_file fault)
of_request files (Some name) status text (no_request_in bytes refusal told why is text_is) = subst IsOther (sym is) (of_asking refusal)

of_policy : (refusal : PolicyRefusal) → IsOther (policy_status refusal)
of_policy (policy.NotPattern at) = tt
of_policy (policy.TooLong len) = tt
of_policy (policy.TooDeep at) = tt
of_policy policy.Memory = tt

of_pattern : (files : SourceCall) (name : List ℕ) (status : Exit) (text : List ℕ) → RefusesPattern files name status text → IsOther status
of_pattern files name status text (pattern_unread fault why is text_is) = subst IsOther (sym is) (of_file fault)
of_pattern files name status text (no_pattern_in bytes refusal told why is text_is) = subst IsOther (sym is) (of_policy refusal)

of_long : (files : SourceCall) (file : ScriptFile) (status : Exit) (text : List ℕ) → RefusesLongText files file status text → IsOther status
of_long files file status text (program, found, long, is, text_is) = subst IsOther (sym is) tt

of_no_list : (refusal : ListRefusal) → IsOther (list_status refusal)
of_no_list (listing.NotUtf8 line) = tt
of_no_list (listing.Names count) = tt
of_no_list listing.Memory = tt

of_list : (files : SourceCall) (file : List ℕ) (d : NamedType) (status : Exit) (text : List ℕ) → RefusesList files file d status text → IsOther status
of_list files file d status text (list_unread fault why is text_is) = subst IsOther (sym is) (of_file fault)
of_list files file d status text (no_list list refusal told why is text_is) = subst IsOther (sym is) (of_no_list refusal)
of_list files file d status text (list_lacks_definition list cause told good why is text_is) = subst IsOther (sym is) (of_defining cause)

not_done : (status : Exit) → IsOther status → HasAllWritten status → ⊥
not_done Done other done = other
not_done exit.No other done = other
not_done exit.Undecided other done = other
not_done exit.Fault other done = other
not_done exit.Spent other done = other
not_done exit.Deep other done = other
not_done exit.Site other done = other
not_done _ other done = done

not_usage : (status : Exit) → IsOther status → status ≡ Usage → ⊥
not_usage status is e = subst IsOther e is

pub never_done : (files : SourceCall) (task : Task) (status : Exit) (text : List ℕ) → Refuses files task status text → HasAllWritten status → ⊥
never_done files (script_check file d goal limit form choice) status text why e = not_done status (of_script files file d status text why) e
never_done files (page_check file d) status text why e = not_done status (of_page files file d status text why) e
never_done files (script_making n) status text (size, is, text_is) e = subst HasAllWritten is e
never_done files (made_check n) status text why e = not_done status (of_made n status text why) e
never_done files (script_run file request steps) status text (inl (cause, why, is, text_is)) e = not_done status (subst IsOther (sym is) (of_load cause)) e
never_done files (script_run file request steps) status text (inr (program, found, (misses, behind, why), read)) e = not_done status (of_request (from_misses misses files) request status text why) e
never_done files (grammar_making file) status text (inl (cause, why, is, text_is)) e = not_done status (subst IsOther (sym is) (of_load cause)) e
never_done files (grammar_making file) status text (inr (program, found, long, is, text_is)) e = subst HasAllWritten is e
never_done files (list_check file d goal limit) status text why e = not_done status (of_list files file.name d status text why) e
never_done files (script_match file name) status text (inl (cause, why, is, text_is)) e = not_done status (subst IsOther (sym is) (of_load cause)) e
never_done files (script_match file name) status text (inr (inl (program, found, (misses, behind, why), read))) e = not_done status (of_pattern (from_misses misses files) name status text why) e
never_done files (script_match file name) status text (inr (inr l)) e = not_done status (of_long files file status text l.refuses) e
never_done files help_telling status text why e = why
never_done files version_telling status text why e = why
never_done files usage status text (is, text_is) e = subst HasAllWritten is e

pub told_usage : (files : SourceCall) (task : Task) (status : Exit) (text : List ℕ) → Refuses files task status text → status ≡ Usage → task ≡ usage
told_usage files (script_check file d goal limit form choice) status text why e = absurd (not_usage status (of_script files file d status text why) e)
told_usage files (page_check file d) status text why e = absurd (not_usage status (of_page files file d status text why) e)
told_usage files (script_making n) status text (size, is, text_is) e = let same : exit.Input ≡ Usage = sym is ∙ e in absurd cc
told_usage files (made_check n) status text why e = absurd (not_usage status (of_made n status text why) e)
told_usage files (script_run file request steps) status text (inl (cause, why, is, text_is)) e = absurd (not_usage status (subst IsOther (sym is) (of_load cause)) e)
told_usage files (script_run file request steps) status text (inr (program, found, (misses, behind, why), read)) e = absurd (not_usage status (of_request (from_misses misses files) request status text why) e)
told_usage files (grammar_making file) status text (inl (cause, why, is, text_is)) e = absurd (not_usage status (subst IsOther (sym is) (of_load cause)) e)
told_usage files (grammar_making file) status text (inr (program, found, long, is, text_is)) e = let same : exit.Input ≡ Usage = sym is ∙ e in absurd cc
told_usage files (list_check file d goal limit) status text why e = absurd (not_usage status (of_list files file.name d status text why) e)
told_usage files (script_match file name) status text (inl (cause, why, is, text_is)) e = absurd (not_usage status (subst IsOther (sym is) (of_load cause)) e)
told_usage files (script_match file name) status text (inr (inl (program, found, (misses, behind, why), read))) e = absurd (not_usage status (of_pattern (from_misses misses files) name status text why) e)
told_usage files (script_match file name) status text (inr (inr l)) e = absurd (not_usage status (of_long files file status text l.refuses) e)
told_usage files help_telling status text why e = absurd why
told_usage files version_telling status text why e = absurd why
told_usage files usage status text why e = refl

no_answer : (answer : ShownAnswer) → answer_status answer ≡ Usage → ⊥
no_answer ShownAnswer.Yes e = cc
no_answer (ShownAnswer.No shown) e = cc
no_answer (ShownAnswer.Pairs count height) e = cc
no_answer (ShownAnswer.Tags count height) e = cc
no_answer (ShownAnswer.Items count) e = cc

no_shortest : (answer : ShortestAnswer) → shortest_status answer ≡ Usage → ⊥
no_shortest ShortestAnswer.Yes e = cc
no_shortest (ShortestAnswer.No shown) e = cc
no_shortest (ShortestAnswer.Pairs count len) e = cc
no_shortest (ShortestAnswer.Tags count len) e = cc
no_shortest (ShortestAnswer.Items count) e = cc

no_match : (answer : PolicyAnswer) → match_status answer ≡ Usage → ⊥
no_match matched.Yes e = cc
no_match (matched.No shown) e = cc
no_match (matched.Items count) e = cc
no_match (matched.States count) e = cc

no_judgment : (valid : _) → judgment_status valid ≡ Usage → ⊥
no_judgment true e = cc
no_judgment false e = cc

pub no_reply : (files : SourceCall) (task : Task) (x : Subject task) (status : Exit) (text : List ℕ) → IsReplyOf files task x status text → status ≡ Usage → ⊥
no_reply files (script_check file d goal limit form PageChoice.First) x status text (answer, says, is, text_is) e = no_answer answer (sym is ∙ e)
no_reply files (script_check file d goal limit form PageChoice.Shortest) x status text (answer, says, is, text_is) e = no_shortest answer (sym is ∙ e)
no_reply files (page_check file d) x status text (valid, says, is, text_is) e = no_judgment valid (sym is ∙ e)
no_reply files (script_making n) x status text (size, is, text_is) e = let same : Done ≡ Usage = sym is ∙ e in cc
no_reply files (made_check n) x status text (answer, says, is, text_is) e = no_answer answer (sym is ∙ e)
no_reply files (script_run file request steps) x status text (ended, is, text_is) e = let same : Done ≡ Usage = sym is ∙ e in cc
no_reply files (grammar_making file) x status text (inl (written, is)) e = let same : Done ≡ Usage = sym is ∙ e in cc
no_reply files (grammar_making file) x status text (inr (count, many, is, text_is)) e = let same : exit.Undecided ≡ Usage = sym is ∙ e in cc
no_reply files (list_check file d goal limit) x status text (lines, are, is, text_is) e = no_usage lines (sym is ∙ e)
no_reply files (script_match file name) x status text (answer, says, is, text_is) e = no_match answer (sym is ∙ e)
no_reply files help_telling x status text (is, text_is) e = let same : Done ≡ Usage = sym is ∙ e in cc
no_reply files version_telling x status text (is, text_is) e = let same : Done ≡ Usage = sym is ∙ e in cc
no_reply files usage x status text r e = r

no_fault : (f : Fault) → fault_status f ≡ Usage → ⊥
no_fault fault.Float e = cc
no_fault fault.NotNumber e = cc
no_fault fault.BadIndex e = cc
no_fault fault.Compare e = cc
no_fault fault.Full e = cc
no_fault fault.NotUtf8 e = cc
no_fault fault.ZeroDivisor e = cc
no_fault fault.WrongType e = cc
no_fault fault.Long e = cc
no_fault fault.Memory e = cc

no_end : (how : runs.End) → end_status how ≡ Usage → ⊥
no_end runs.Ended e = cc
no_end (runs.Faulted f) e = no_fault f e
no_end runs.Spent e = cc
no_end runs.Deep e = cc

pub no_halt : (task : Task) (x : Subject task) (status : Exit) (printed text : List ℕ) → IsHaltOf task x status printed text → status ≡ Usage → ⊥
no_halt (script_check file d goal limit form choice) x status printed text r e = r
no_halt (page_check file d) x status printed text r e = r
no_halt (script_making n) x status printed text r e = r
no_halt (made_check n) x status printed text r e = r
no_halt (script_run file request steps) x status printed text (early, is, printed_is, text_is) e = no_end _ (sym is ∙ e)
no_halt (grammar_making file) x status printed text r e = r
no_halt (list_check file d goal limit) x status printed text r e = r
no_halt (script_match file name) x status printed text r e = r
no_halt help_telling x status printed text r e = r
no_halt version_telling x status printed text r e = r
no_halt usage x status printed text r e = r

-- what words ask for is more than the usage
pub asks_more : (for : Asked) → usage ≡ task_of for → ⊥
asks_more (check file definition root stubs limit by_nesting as_json is_shortest) e = cc
asks_more (run file root stubs request steps) e = cc
asks_more (page file definition root) e = cc
asks_more (grammar file root stubs) e = cc
asks_more (make functions true) e = cc
asks_more (make functions false) e = cc
asks_more (site file definition root stubs limit by_nesting) e = cc
asks_more (match_pattern file name root stubs) e = cc
asks_more help e = cc
asks_more version e = cc
