-- What stands on the outputs says of what is held what a reply says of what is found.
use Rattle.std.proofs.Common.{ℕ, List, sym, subst}
use Rattle.script_meaning.specs.Programs.{PlainProgram}
use Rattle.script_meaning.specs.Requests.{PlainRequest}
use Rattle.dtd_model.specs.Table.{Table}
use Rattle.page_policy.specs.Patterns.{Pattern}
use Rattle.document_types.specs.DocumentTypes.{strict_type}
use Rattle.io_edge.specs.Told.{Content}
use Rattle.program_files.specs.Source.{SourceCall}
use Rattle.phpsa_texts.specs.declared.exit.Exit.{Exit}
use Rattle.phpsa_tasks.specs.Tasks.{Task, script_check, page_check, script_making, made_check, script_run, grammar_making, list_check, script_match, help_telling, version_telling, usage, AsksFor}
use Rattle.phpsa_tasks.specs.Call.{Call}
use Rattle.phpsa_tasks.specs.Subjects.{Subject, made_file, only_made, Finds, Holds}
use Rattle.phpsa_tasks.specs.Replies.{IsReplyOf, IsHaltOf, Replies, Halts}
use Rattle.phpsa_tasks.specs.Endings.{OwesRefusal, of_task, wants_memory, Ends, replied, refused, halted, by_out, by_err, no_memory}
use Rattle.phpsa_tasks.specs.Written.{HasAllWritten, Writes, writes_reply, writes_halt, IsWritten}
use Rattle.phpsa_tasks.proofs.Held.{OneProgram, own_program, own_page, own_list, own_run, own_match}
use Rattle.phpsa_tasks.proofs.Never.{never_done}
use Rattle.phpsa_tasks.proofs.Answers.{OneTask, the_reply, the_halt}

-- a reply to what is found is one to what is held
own_reply : OneProgram → (files : SourceCall) (task : Task) (x y : Subject task) (status : Exit) (text : List ℕ) → Holds files.content task x → Finds files.content task y
    → IsReplyOf files task y status text → IsReplyOf files task x status text
own_reply one files (script_check file d goal limit form choice) x y status text (h, t) (found, has) is =
    own_program one files.content file d x y h t found.loaded has (λ (p : PlainProgram) (s : Table). IsReplyOf files (script_check file d goal limit form choice) (record { program = p; table = s }) status text) is
own_reply one files (page_check file d) x y status text (h, t) (found, has) is =
    own_page files.content file d x y h t found has (λ (p : List ℕ) (s : Table). IsReplyOf files (page_check file d) (record { page = p; table = s }) status text) is
own_reply one files (script_making n) x y status text h f is = is
own_reply one files (made_check n) x y status text (size, h, t) (size', found, has) is =
    own_program one (only_made n) made_file strict_type x y h t found.loaded has (λ (p : PlainProgram) (s : Table). IsReplyOf files (made_check n) (record { program = p; table = s }) status text) is
own_reply one files (script_run file request steps) x y status text (h, r) (found, finds, admitted) is =
    own_run one files.content file request x y h r found.loaded finds (λ (p : PlainProgram) (q : PlainRequest). IsReplyOf files (script_run file request steps) (record { program = p; request = q }) status text) is
own_reply one files (grammar_making file) x y status text h found is =
    subst (λ (p : PlainProgram). IsReplyOf files (grammar_making file) p status text) (sym (one files.content file.name file.stubs x y h.holds found.loaded)) is
own_reply one files (list_check file d goal limit) x y status text (h, t) (found, has, good) is =
    own_list files.content file.name d x y h t found has (λ (l : List ℕ) (s : Table). IsReplyOf files (list_check file d goal limit) (record { list = l; table = s }) status text) is
own_reply one files (script_match file name) x y status text (h, t) (found, finds) is =
    own_match one files.content file name x y h t found.loaded finds (λ (p : PlainProgram) (q : Pattern). IsReplyOf files (script_match file name) (record { program = p; pattern = q }) status text) is
own_reply one files help_telling x y status text h f is = is
own_reply one files version_telling x y status text h f is = is
own_reply one files usage x y status text h f is = is

-- and what a run leaves that does not come to its end
own_halt : OneProgram → (content : Content) (task : Task) (x y : Subject task) (status : Exit) (printed text : List ℕ) → Holds content task x → Finds content task y
    → IsHaltOf task y status printed text → IsHaltOf task x status printed text
own_halt one content (script_check file d goal limit form choice) x y status printed text h f is = absurd is
own_halt one content (page_check file d) x y status printed text h f is = absurd is
own_halt one content (script_making n) x y status printed text h f is = absurd is
own_halt one content (made_check n) x y status printed text h f is = absurd is
own_halt one content (script_run file request steps) x y status printed text (h, r) (found, finds, admitted) is =
    own_run one content file request x y h r found.loaded finds (λ (p : PlainProgram) (q : PlainRequest). IsHaltOf (script_run file request steps) (record { program = p; request = q }) status printed text) is
own_halt one content (grammar_making file) x y status printed text h f is = absurd is
own_halt one content (list_check file d goal limit) x y status printed text h f is = absurd is
own_halt one content (script_match file name) x y status printed text h f is = absurd is
own_halt one content help_telling x y status printed text h f is = absurd is
own_halt one content version_telling x y status printed text h f is = absurd is
own_halt one content usage x y status printed text h f is = absurd is

refused_writes : (call : Call) (status : Exit) (text : List ℕ) → HasAllWritten status → OwesRefusal call status text → ⊥
refused_writes call status text done (of_task task asked refuses) = never_done call.files task status text refuses done
refused_writes call status text done (wants_memory is text_is) = subst HasAllWritten is done

writes : OneTask → OneProgram → (call : Call) (status : Exit) → Ends call status → HasAllWritten status → (task : Task) (x : Subject task) → AsksFor call.words task
    → Holds call.files.content task x → Writes call status task x
writes one_task one_program call status (replied e) done task x asked h =
    let r : Replies call.files task status e.text = the_reply one_task call status e.text e.owed task asked in
    writes_reply e.text (own_reply one_program call.files task x r.subject status e.text h r.found r.says) e.out e.err
writes one_task one_program call status (refused e) done task x asked h = absurd (refused_writes call status e.text done e.owed)
writes one_task one_program call status (halted e) done task x asked h =
    let r : Halts call.files task status e.printed e.text = the_halt one_task call status e.printed e.text e.owed task asked in
    writes_halt e.printed e.text (own_halt one_program call.files.content task x r.subject status e.printed e.text h r.found r.says) e.out e.err
writes one_task one_program call status (by_out is e) done task x asked h = absurd (subst HasAllWritten is done)
writes one_task one_program call status (by_err is e) done task x asked h = absurd (subst HasAllWritten is done)
writes one_task one_program call status (no_memory is e) done task x asked h = absurd (subst HasAllWritten is done)

pub written : OneTask → OneProgram → (call : Call) (status : Exit) → Ends call status → IsWritten call status
written one_task one_program call status ends done = writes one_task one_program call status ends done
