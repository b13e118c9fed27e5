-- What is found of a program and a pattern makes what doing the task comes to.
use Rattle.std.proofs.Common.{◌≡◌, ℕ, List, Contains, Some, inl, inr, refl, sym, subst, lit<}
use Rattle.std.specs.Prelude.{◌⊎◌, Result, Ok, Err}
use Rattle.io_edge.specs.Counts.{one_more}
use Rattle.io_edge.specs.Told.{Content, Tells, Stays}
use Rattle.io_edge.specs.Reasons.{HasReason}
use Rattle.io_edge.specs.declared.files.FileFault.{FileFault}
use Rattle.page_policy.specs.Refusals.{IsTaken, IsCause}
use Rattle.page_policy.specs.Forms.{IsForm}
use Rattle.page_policy.specs.Patterns.{Pattern}
use Rattle.page_policy.specs.declared.refusal.PolicyRefusal.{PolicyRefusal}
use Rattle.page_policy.specs.declared.pattern.Pattern.{Pattern as Held}
use Rattle.script_meaning.specs.Programs.{PlainProgram}
use Rattle.program_files.specs.Source.{SourceCall, source_call}
use Rattle.program_files.specs.declared.refusal.LoadRefusal.{LoadRefusal}
use Rattle.program_loader.specs.Causes.{Loads, IsLoadCause}
use Rattle.phpsa_texts.specs.declared.exit.Exit.{Exit}
use Rattle.phpsa_texts.specs.declared.exit.Exit.TheVariants.{ReadFault}
use Rattle.phpsa_texts.specs.declared.message.Refusal.{Refusal}
use Rattle.phpsa_texts.specs.Statuses.{load_status, file_status, policy_status}
use Rattle.phpsa_texts.specs.Texts.{IsTold, load_text, file_text, policy_text}
use Rattle.phpsa_tasks.specs.declared.reply.Reply.TheVariants as reply
use Rattle.phpsa_tasks.specs.Tasks.{ScriptFile, root_of, script_match}
use Rattle.phpsa_tasks.specs.Subjects.{IsLoadedInside}
use Rattle.phpsa_tasks.specs.Policies.{pattern_unread, no_pattern_in, RefusesPattern}
use Rattle.phpsa_tasks.specs.Counted.{uncounted, from_misses}
use Rattle.phpsa_tasks.specs.Results.{TaskResult, Does}
use Rattle.phpsa_tasks.proofs.Faults.{told_faults, wanted_faults}
use Rattle.phpsa_main.specs.Matched.{HasPattern, HasMatchReply}
use Rattle.phpsa_main.proofs.ScriptParts.{load_uncounted, load_faults}
use Rattle.phpsa_main.proofs.LoadedParts.{run_reads, run_misses}

-- no memory was left
pub wanting_match : (files : SourceCall) (file : ScriptFile) (name : List ℕ) → Does files (script_match file name) (Err Refusal.Memory)
wanting_match files file name = record { due = tt; read = inl (5, lit< tt, refl); faults = wanted_faults files }

-- the program is not loaded
pub unloaded_match : (files : SourceCall) (file : ScriptFile) (name : List ℕ) (cause : LoadRefusal) (refusal : Refusal) → IsLoadCause files (root_of file) file.name file.stubs cause
    → IsTold refusal (load_status cause) (load_text cause) → Does files (script_match file name) (Err refusal)
unloaded_match files file name cause (Refusal.Told message) why (status_is, text_is) = record {
  due = inl (cause, why, status_is, text_is);
  read = inl (subst (Contains uncounted) (sym status_is) (load_uncounted cause));
  faults = told_faults files (load_status cause) message.status status_is (load_faults files (root_of file) file.name file.stubs cause why);
}
unloaded_match files file name cause Refusal.Memory why says = wanting_match files file name

-- the file of the pattern is not read
pub policy_unread : (files : SourceCall) (name : List ℕ) (fault : FileFault) (refusal : Refusal)
    → HasReason (files.content name) files.faults files.faults' files.misses files.misses' fault → files.reads' ≡ one_more files.reads
    → (file_status fault ≡ ReadFault) ⊎ (files.faults' ≡ files.faults) → IsTold refusal (file_status fault) (file_text fault name) → HasPattern files name (Err refusal)
policy_unread files name fault (Refusal.Told message) why counted faults (status_is, text_is) =
    (pattern_unread fault why status_is text_is, counted, told_faults files (file_status fault) message.status status_is faults)
policy_unread files name fault Refusal.Memory why counted faults says = tt

-- or spells none
pub policy_refused : (files : SourceCall) (name bytes : List ℕ) (cause : PolicyRefusal) (refusal : Refusal) → Tells (files.content name) (Some bytes) → IsCause bytes cause
    → files.reads' ≡ one_more files.reads → files.faults' ≡ files.faults → IsTold refusal (policy_status cause) (policy_text cause) → HasPattern files name (Err refusal)
policy_refused files name bytes cause (Refusal.Told message) told why counted calm (status_is, text_is) =
    (no_pattern_in bytes cause told why status_is text_is, counted, inr calm)
policy_refused files name bytes cause Refusal.Memory told why counted calm says = tt

-- or spells one
pub policy_found : (files : SourceCall) (name bytes : List ℕ) (held : Held) → Tells (files.content name) (Some bytes)
    → ((p : Pattern) × IsTaken bytes p × IsForm held.arena held.root p) → files.reads' ≡ one_more files.reads → files.faults' ≡ files.faults → HasPattern files name (Ok held)
policy_found files name bytes held told (p, taken, form) counted calm =
    (record { plain = p; finds = (bytes, told, taken); form = form }, counted, calm)

-- the count of faults is as it was before the program was loaded
pub moved_pattern : (files : SourceCall) (faults misses reads : ℕ) (name : List ℕ) (found : Result Held Refusal)
    → faults ≡ files.faults → HasPattern (source_call files.content faults files.faults' misses files.misses' reads files.reads') name found
    → HasPattern (source_call files.content files.faults files.faults' misses files.misses' reads files.reads') name found
moved_pattern files faults misses reads name found b has =
    subst (λ (k : ℕ). HasPattern (source_call files.content k files.faults' misses files.misses' reads files.reads') name found) b has

-- why there is no pattern says nothing of how often names were asked for
refuses_pattern : (files : SourceCall) (misses reads : ℕ) (name : List ℕ) (status : Exit) (text : List ℕ)
    → RefusesPattern (source_call files.content files.faults files.faults' misses files.misses' reads files.reads') name status text
    → RefusesPattern (from_misses misses files) name status text
refuses_pattern files misses reads name status text (pattern_unread fault why status_is text_is) = pattern_unread fault why status_is text_is
refuses_pattern files misses reads name status text (no_pattern_in bytes cause told why status_is text_is) = no_pattern_in bytes cause told why status_is text_is

-- there is no pattern
pub lacks_pattern : (files : SourceCall) (file : ScriptFile) (name : List ℕ) (content : Content) (faults misses reads : ℕ) (program : PlainProgram) (refusal : Refusal)
    → Stays content files.content → Loads (source_call content files.faults faults files.misses misses files.reads reads) (root_of file) file.name file.stubs program → IsLoadedInside files.content file program
    → HasPattern (source_call files.content files.faults files.faults' misses files.misses' reads files.reads') name (Err refusal)
    → Does files (script_match file name) (Err refusal)
lacks_pattern files file name content faults misses reads program (Refusal.Told message) stays l loaded (why, counted, told) = record {
  due = inr (inl (
    program,
    loaded,
    (misses, run_misses files (root_of file) file.name file.stubs program content faults misses reads stays l, refuses_pattern files misses reads name message.status message.text why),
    run_reads files (root_of file) file (Some name) program content faults misses reads stays l counted,
  ));
  read = inr (run_reads files (root_of file) file (Some name) program content faults misses reads stays l counted);
  faults = told;
}
lacks_pattern files file name content faults misses reads program Refusal.Memory stays l loaded has = wanting_match files file name

-- the pages were held against the pattern
pub match_does : (files : SourceCall) (file : ScriptFile) (name : List ℕ) (content : Content) (faults misses reads : ℕ) (program : PlainProgram) (held : Held) (result : TaskResult)
    → Stays content files.content → Loads (source_call content files.faults faults files.misses misses files.reads reads) (root_of file) file.name file.stubs program → IsLoadedInside files.content file program
    → HasPattern (source_call files.content files.faults files.faults' misses files.misses' reads files.reads') name (Ok held)
    → ((p : Pattern) → IsForm held.arena held.root p → HasMatchReply program p file.name result) → Does files (script_match file name) result
match_does files file name content faults misses reads program held result stays l loaded (found, counted, calm) each =
    by result (each found.plain found.form)
  where
    by : (result : TaskResult) → HasMatchReply program found.plain file.name result → Does files (script_match file name) result
    by (Ok (reply.Text message)) (answer, is, (status_is, text_is)) = record {
      due = record {
        subject = record { program = program; pattern = found.plain };
        found = (loaded, found.finds);
        says = (answer, is, status_is, text_is);
      };
      read = inr (run_reads files (root_of file) file (Some name) program content faults misses reads stays l counted);
      faults = inr calm;
    }
    by (Ok (reply.Grammar grammar)) says = absurd says
    by (Ok (reply.Halted printed message)) says = absurd says
    by (Err (Refusal.Told message)) (long, (status_is, text_is)) = record {
      due = inr (inr (record { pattern = found.plain; finds = found.finds; refuses = (program, loaded, long, status_is, text_is) }));
      read = inr (run_reads files (root_of file) file (Some name) program content faults misses reads stays l counted);
      faults = inr calm;
    }
    by (Err Refusal.Memory) says = wanting_match files file name
