-- The statuses of a task that finds nothing under the file's name.
use Rattle.std.proofs.Common.{◌≡◌, ℕ, List, [], ◌∷◌, Option, None, Some, inl, inr, refl, sym, subst, lit<, Contains}
use Rattle.io_edge.specs.Counts.{Rises}
use Rattle.io_edge.specs.Reasons.{HasReason}
use Rattle.io_edge.specs.declared.files.FileFault.{FileFault}
use Rattle.io_edge.specs.declared.files.FileFault.TheVariants as reading
use Rattle.program_files.specs.Source.{SourceCall}
use Rattle.program_files.specs.declared.refusal.LoadRefusal.{LoadRefusal}
use Rattle.program_files.specs.declared.refusal.LoadRefusal.TheVariants as load
use Rattle.program_loader.specs.Causes.{IsLoadCause}
use Rattle.request_reading.specs.declared.refusal.RequestRefusal.{RequestRefusal}
use Rattle.request_reading.specs.declared.refusal.RequestRefusal.TheVariants as asking
use Rattle.document_types.specs.DocumentTypes.{NamedType}
use Rattle.page_decision.specs.declared.goal.Goal.{Goal}
use Rattle.phpsa_texts.specs.declared.exit.Exit.{Exit}
use Rattle.phpsa_texts.specs.declared.exit.Exit.TheVariants.{Missing, Script, Input, Memory}
use Rattle.phpsa_texts.specs.Statuses.{load_status, file_status, request_status, policy_status}
use Rattle.phpsa_tasks.specs.Tasks.{ScriptFile, root_of, Task, script_check, page_check, script_making, made_check, script_run, grammar_making, list_check, script_match, help_telling, version_telling, usage}
use Rattle.page_policy.specs.declared.refusal.PolicyRefusal.{PolicyRefusal}
use Rattle.page_policy.specs.declared.refusal.PolicyRefusal.TheVariants as policy
use Rattle.phpsa_tasks.specs.Policies.{pattern_unread, no_pattern_in, RefusesPattern}
use Rattle.phpsa_tasks.specs.Requests.{unread, no_request_in, RefusesRequest}
use Rattle.phpsa_tasks.specs.Subjects.{LacksFile}
use Rattle.phpsa_tasks.specs.Counted.{from_misses}
use Rattle.phpsa_tasks.specs.Causes.{not_loaded, lacks_definition, has_long_text, not_read, page_lacks_definition, no_size, made_refused, list_unread, no_list, list_lacks_definition, RefusesLongText, Refuses}
use Rattle.phpsa_tasks.specs.Answered.{statuses_of_nothing}
use Rattle.phpsa_tasks.proofs.Loading.{fault_rises}

abbrev pub Among : Task → Exit → Type 0
Among task status = Contains (statuses_of_nothing task) status

-- those of a program that is not loaded
of_load : (files : SourceCall) (root name : List ℕ) (stubs : Option (List ℕ)) (cause : LoadRefusal) → (Rises files.faults files.faults' → ⊥) → IsLoadCause files root name stubs cause
    → Contains (Missing ∷ Script ∷ Input ∷ Memory ∷ []) (load_status cause)
of_load files root name stubs (load.Missing path) calm why = (0, lit< tt, refl)
of_load files root name stubs (load.Outside path) calm why = (1, lit< tt, refl)
of_load files root name stubs (load.ReadFault path) calm why = absurd (calm (fault_rises files root name stubs path why))
of_load files root name stubs (load.TooLong path len) calm why = (2, lit< tt, refl)
of_load files root name stubs (load.Script path fault) calm why = (1, lit< tt, refl)
of_load files root name stubs (load.IncludeCycle path) calm why = (1, lit< tt, refl)
of_load files root name stubs (load.DoubleFunction function) calm why = (1, lit< tt, refl)
of_load files root name stubs (load.UnknownFunction function) calm why = (1, lit< tt, refl)
of_load files root name stubs (load.Arity function) calm why = (1, lit< tt, refl)
of_load files root name stubs (load.TooMany count) calm why = (2, lit< tt, refl)
of_load files root name stubs load.Memory calm why = (3, lit< tt, refl)

of_file : (files : SourceCall) (file : List ℕ) (d : NamedType) (f : FileFault) → (Rises files.faults files.faults' → ⊥)
    → HasReason (files.content file) files.faults files.faults' files.misses files.misses' f → Among (page_check file d) (file_status f)
of_file files file d reading.Missing calm why = (0, lit< tt, refl)
of_file files file d reading.Failed calm rises = absurd (calm rises)
of_file files file d (reading.TooLong len) calm why = (1, lit< tt, refl)
of_file files file d reading.Memory calm why = (2, lit< tt, refl)

-- those of a request that is refused
of_asking : (file : ScriptFile) (request : Option (List ℕ)) (steps : ℕ) (refusal : RequestRefusal) → Among (script_run file request steps) (request_status refusal)
of_asking file request steps asking.NotJson = (2, lit< tt, refl)
of_asking file request steps asking.NotRequest = (2, lit< tt, refl)
of_asking file request steps (asking.NotAdmitted path) = (2, lit< tt, refl)
of_asking file request steps asking.Memory = (3, lit< tt, refl)

of_asked_file : (files : SourceCall) (file : ScriptFile) (request : Option (List ℕ)) (steps : ℕ) (name : List ℕ) (f : FileFault) → (Rises files.faults files.faults' → ⊥)
    → HasReason (files.content name) files.faults files.faults' files.misses files.misses' f → Among (script_run file request steps) (file_status f)
of_asked_file files file request steps name reading.Missing calm why = (0, lit< tt, refl)
of_asked_file files file request steps name reading.Failed calm rises = absurd (calm rises)
of_asked_file files file request steps name (reading.TooLong len) calm why = (2, lit< tt, refl)
of_asked_file files file request steps name reading.Memory calm why = (3, lit< tt, refl)

of_request : (files : SourceCall) (file : ScriptFile) (request : Option (List ℕ)) (steps : ℕ) (status : Exit) (text : List ℕ) → (Rises files.faults files.faults' → ⊥)
    → RefusesRequest files request status text → Among (script_run file request steps) status
of_request files file None steps status text calm why = absurd why
of_request files file (Some name) steps status text calm (unread fault why is text_is) =
    subst (Among (script_run file (Some name) steps)) (sym is) (of_asked_file files file (Some name) steps name fault calm why)
of_request files file (Some name) steps status text calm (no_request_in bytes refusal told why is text_is) =
    subst (Among (script_run file (Some name) steps)) (sym is) (of_asking file (Some name) steps refusal)

-- those of a pattern that is refused, or of a program beside one
of_match_load : (files : SourceCall) (file : ScriptFile) (name : List ℕ) (cause : LoadRefusal) → (Rises files.faults files.faults' → ⊥)
    → IsLoadCause files (root_of file) file.name file.stubs cause → Among (script_match file name) (load_status cause)
of_match_load files file name (load.Missing path) calm why = (0, lit< tt, refl)
of_match_load files file name (load.Outside path) calm why = (1, lit< tt, refl)
of_match_load files file name (load.ReadFault path) calm why = absurd (calm (fault_rises files (root_of file) file.name file.stubs path why))
of_match_load files file name (load.TooLong path len) calm why = (2, lit< tt, refl)
of_match_load files file name (load.Script path fault) calm why = (1, lit< tt, refl)
of_match_load files file name (load.IncludeCycle path) calm why = (1, lit< tt, refl)
of_match_load files file name (load.DoubleFunction function) calm why = (1, lit< tt, refl)
of_match_load files file name (load.UnknownFunction function) calm why = (1, lit< tt, refl)
of_match_load files file name (load.Arity function) calm why = (1, lit< tt, refl)
of_match_load files file name (load.TooMany count) calm why = (2, lit< tt, refl)
of_match_load files file name load.Memory calm why = (3, lit< tt, refl)

of_pattern_file : (files : SourceCall) (file : ScriptFile) (name : List ℕ) (f : FileFault) → (Rises files.faults files.faults' → ⊥)
    → HasReason (files.content name) files.faults files.faults' files.misses files.misses' f → Among (script_match file name) (file_status f)
of_pattern_file files file name reading.Missing calm why = (0, lit< tt, refl)
of_pattern_file files file name reading.Failed calm rises = absurd (calm rises)
of_pattern_file files file name (reading.TooLong len) calm why = (2, lit< tt, refl)
of_pattern_file files file name reading.Memory calm why = (3, lit< tt, refl)

of_policy : (file : ScriptFile) (name : List ℕ) (refusal : PolicyRefusal) → Among (script_match file name) (policy_status refusal)
of_policy file name (policy.NotPattern at) = (4, lit< tt, refl)
of_policy file name (policy.TooLong len) = (4, lit< tt, refl)
of_policy file name (policy.TooDeep at) = (4, lit< tt, refl)
of_policy file name policy.Memory = (3, lit< tt, refl)

of_pattern : (files : SourceCall) (file : ScriptFile) (name : List ℕ) (status : Exit) (text : List ℕ) → (Rises files.faults files.faults' → ⊥)
    → RefusesPattern files name status text → Among (script_match file name) status
of_pattern files file name status text calm (pattern_unread fault why is text_is) = subst (Among (script_match file name)) (sym is) (of_pattern_file files file name fault calm why)
of_pattern files file name status text calm (no_pattern_in bytes refusal told why is text_is) = subst (Among (script_match file name)) (sym is) (of_policy file name refusal)

-- those of a long text
of_long : (files : SourceCall) (file : ScriptFile) (name : List ℕ) (status : Exit) (text : List ℕ) → RefusesLongText files file status text → Among (script_match file name) status
of_long files file name status text (program, found, long, is, text_is) = subst (Among (script_match file name)) (sym is) (2, lit< tt, refl)

-- those of a list that is not read
of_unread : (files : SourceCall) (file : ScriptFile) (d : NamedType) (goal : Goal) (limit : ℕ) (f : FileFault) → (Rises files.faults files.faults' → ⊥)
    → HasReason (files.content file.name) files.faults files.faults' files.misses files.misses' f → Among (list_check file d goal limit) (file_status f)
of_unread files file d goal limit reading.Missing calm why = (0, lit< tt, refl)
of_unread files file d goal limit reading.Failed calm rises = absurd (calm rises)
of_unread files file d goal limit (reading.TooLong len) calm why = (1, lit< tt, refl)
of_unread files file d goal limit reading.Memory calm why = (2, lit< tt, refl)

-- want of memory is one of them
pub of_memory : (files : SourceCall) (task : Task) (status : Exit) → LacksFile files.content task → status ≡ Memory → Among task status
of_memory files (script_check file d goal limit form choice) status lacks is = subst (Among (script_check file d goal limit form choice)) (sym is) (3, lit< tt, refl)
of_memory files (page_check file d) status lacks is = subst (Among (page_check file d)) (sym is) (2, lit< tt, refl)
of_memory files (script_making n) status lacks is = absurd lacks
of_memory files (made_check n) status lacks is = subst (Among (made_check n)) (sym is) (1, lit< tt, refl)
of_memory files (script_run file request steps) status lacks is = subst (Among (script_run file request steps)) (sym is) (3, lit< tt, refl)
of_memory files (grammar_making file) status lacks is = subst (Among (grammar_making file)) (sym is) (3, lit< tt, refl)
of_memory files (list_check file d goal limit) status lacks is = subst (Among (list_check file d goal limit)) (sym is) (2, lit< tt, refl)
of_memory files (script_match file name) status lacks is = subst (Among (script_match file name)) (sym is) (3, lit< tt, refl)
of_memory files help_telling status lacks is = absurd lacks
of_memory files version_telling status lacks is = absurd lacks
of_memory files usage status lacks is = absurd lacks

pub of_refusal : (files : SourceCall) (task : Task) (status : Exit) (text : List ℕ) → (Rises files.faults files.faults' → ⊥) → LacksFile files.content task → Refuses files task status text
    → Among task status
of_refusal files (script_check file d goal limit form choice) status text calm lacks (not_loaded cause why is text_is) =
    subst (Among (script_check file d goal limit form choice)) (sym is) (of_load files (root_of file) file.name file.stubs cause calm why)
of_refusal files (script_check file d goal limit form choice) status text calm lacks (lacks_definition program misses found behind why) = absurd (lacks program found)
of_refusal files (script_check file d goal limit form choice) status text calm lacks (has_long_text program found long is text_is) = absurd (lacks program found)
of_refusal files (page_check file d) status text calm lacks (not_read fault why is text_is) = subst (Among (page_check file d)) (sym is) (of_file files file d fault calm why)
of_refusal files (page_check file d) status text calm lacks (page_lacks_definition read told why) = absurd (lacks read told)
of_refusal files (script_making n) status text calm lacks why = absurd lacks
of_refusal files (made_check n) status text calm lacks (no_size size is text_is) = subst (Among (made_check n)) (sym is) (0, lit< tt, refl)
of_refusal files (made_check n) status text calm lacks (made_refused size misses reads why) = absurd (lacks size)
of_refusal files (script_run file request steps) status text calm lacks (inl (cause, why, is, text_is)) =
    subst (Among (script_run file request steps)) (sym is) (of_load files (root_of file) file.name file.stubs cause calm why)
of_refusal files (script_run file request steps) status text calm lacks (inr (program, found, (misses, behind, why), read)) = of_request (from_misses misses files) file request steps status text calm why
of_refusal files (grammar_making file) status text calm lacks (inl (cause, why, is, text_is)) = subst (Among (grammar_making file)) (sym is) (of_load files (root_of file) file.name file.stubs cause calm why)
of_refusal files (grammar_making file) status text calm lacks (inr (program, found, long, is, text_is)) = absurd (lacks program found)
of_refusal files (list_check file d goal limit) status text calm lacks (list_unread fault why is text_is) =
    subst (Among (list_check file d goal limit)) (sym is) (of_unread files file d goal limit fault calm why)
of_refusal files (list_check file d goal limit) status text calm lacks (no_list list refusal told why is text_is) = absurd (lacks list told)
of_refusal files (list_check file d goal limit) status text calm lacks (list_lacks_definition list cause told good why is text_is) = absurd (lacks list told)
of_refusal files (script_match file name) status text calm lacks (inl (cause, why, is, text_is)) =
    subst (Among (script_match file name)) (sym is) (of_match_load files file name cause calm why)
of_refusal files (script_match file name) status text calm lacks (inr (inl (program, found, (misses, behind, why), read))) = of_pattern (from_misses misses files) file name status text calm why
of_refusal files (script_match file name) status text calm lacks (inr (inr l)) = of_long files file name status text l.refuses
of_refusal files help_telling status text calm lacks why = absurd lacks
of_refusal files version_telling status text calm lacks why = absurd lacks
of_refusal files usage status text calm lacks why = absurd lacks
