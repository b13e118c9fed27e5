-- What the parts of the command find makes what doing the task comes to.
use Rattle.std.proofs.Common.{◌≡◌, ◌∙◌, ℕ, List, Some, inl, inr, refl, sym}
use Rattle.std.specs.Prelude.{◌⊎◌, Result, Ok, Err}
use Rattle.io_edge.specs.Counts.{one_more}
use Rattle.io_edge.specs.Told.{Tells}
use Rattle.io_edge.specs.Reasons.{HasReason}
use Rattle.io_edge.specs.declared.files.FileFault.{FileFault}
use Rattle.io_edge.specs.declared.files.FileFault.TheVariants as reading
use Rattle.program_files.specs.Source.{SourceCall}
use Rattle.dtd_model.specs.Table.{Table}
use Rattle.document_types.specs.DocumentTypes.{NamedType, HasTable, IsBuiltIn, IsDefinitionRefusal}
use Rattle.document_types.specs.declared.refusal.DefinitionRefusal.{DefinitionRefusal}
use Rattle.phpsa_texts.specs.declared.exit.Exit.TheVariants.{ReadFault}
use Rattle.phpsa_texts.specs.declared.message.Refusal.{Refusal}
use Rattle.phpsa_texts.specs.Statuses.{file_status, definition_status}
use Rattle.phpsa_texts.specs.Texts.{IsTold, file_text, definition_text}
use Rattle.phpsa_tasks.specs.Tasks.{page_check}
use Rattle.phpsa_tasks.specs.Causes.{definition_call, not_defined, large_models, not_read, page_lacks_definition}
use Rattle.phpsa_tasks.specs.declared.reply.Reply.TheVariants as reply
use Rattle.phpsa_tasks.specs.Results.{TaskResult, Does}
use Rattle.phpsa_tasks.proofs.Faults.{told_faults, wanted_faults}
use Rattle.phpsa_tasks.proofs.Defining.{definition_faults}
use Rattle.phpsa_main.specs.Judged.{IsJudgedAs}

-- a count stays where the answer is not its own
pub ok_faults : {A : Type 0} (r : Result A FileFault) (page : A) (before now : ℕ) → r ≡ Ok page → ((r ≡ Err reading.Failed → ⊥) → now ≡ before) → now ≡ before
ok_faults r page before now is kept = kept (λ e. let same : Ok page ≡ Err reading.Failed = sym is ∙ e in cc)

pub ok_misses : {A : Type 0} (r : Result A FileFault) (page : A) (before now : ℕ) → r ≡ Ok page → ((r ≡ Err reading.Missing → ⊥) → now ≡ before) → now ≡ before
ok_misses r page before now is kept = kept (λ e. let same : Ok page ≡ Err reading.Missing = sym is ∙ e in cc)

pub file_faults : {A : Type 0} (r : Result A FileFault) (fault : FileFault) (before now : ℕ) → r ≡ Err fault → ((r ≡ Err reading.Failed → ⊥) → now ≡ before)
    → (file_status fault ≡ ReadFault) ⊎ (now ≡ before)
file_faults r reading.Failed before now is kept = inl refl
file_faults {A} r reading.Missing before now is kept = inr (kept (λ e. let same : ◌≡◌ {A = Result A FileFault} (Err reading.Missing) (Err reading.Failed) = sym is ∙ e in cc))
file_faults {A} r (reading.TooLong len) before now is kept = inr (kept (λ e. let same : ◌≡◌ {A = Result A FileFault} (Err (reading.TooLong len)) (Err reading.Failed) = sym is ∙ e in cc))
file_faults {A} r reading.Memory before now is kept = inr (kept (λ e. let same : ◌≡◌ {A = Result A FileFault} (Err reading.Memory) (Err reading.Failed) = sym is ∙ e in cc))

-- a count that stays behind what was read
pub one_read : (before read now : ℕ) → now ≡ read → read ≡ one_more before → now ≡ one_more before
one_read before read now same once = same ∙ once

-- the page was asked for once
abbrev pub IsOnce : SourceCall → NamedType → Type 0
IsOnce files d = IsBuiltIn d → files.reads' ≡ one_more files.reads

-- no memory was left
wanting_does : (files : SourceCall) (file : List ℕ) (d : NamedType) → IsOnce files d → Does files (page_check file d) (Err Refusal.Memory)
wanting_does files file d once = record { due = tt; read = λ built_in. inl (once built_in); faults = wanted_faults files }

-- the page is not read
pub file_does : (files : SourceCall) (file : List ℕ) (d : NamedType) (fault : FileFault) (refusal : Refusal)
    → HasReason (files.content file) files.faults files.faults' files.misses files.misses' fault → (file_status fault ≡ ReadFault) ⊎ (files.faults' ≡ files.faults) → IsOnce files d
    → IsTold refusal (file_status fault) (file_text fault file) → Does files (page_check file d) (Err refusal)
file_does files file d fault (Refusal.Told message) why faults once (status_is, text_is) = record {
  due = not_read fault why status_is text_is;
  read = λ built_in. inl (once built_in);
  faults = told_faults files (file_status fault) message.status status_is faults;
}
file_does files file d fault Refusal.Memory why faults once says = wanting_does files file d once

-- there is no definition
pub definition_does : (files : SourceCall) (file : List ℕ) (d : NamedType) (cause : DefinitionRefusal) (refusal : Refusal)
    (page : List ℕ) → Tells (files.content file) (Some page) → IsDefinitionRefusal (definition_call files) d cause → IsOnce files d → IsTold refusal (definition_status cause) (definition_text cause) → Does files (page_check file d) (Err refusal)
definition_does files file d cause (Refusal.Told message) page told why once (status_is, text_is) = record {
  due = page_lacks_definition page told (not_defined cause why status_is text_is);
  read = λ built_in. inl (once built_in);
  faults = told_faults files (definition_status cause) message.status status_is (definition_faults (definition_call files) d cause why);
}
definition_does files file d cause Refusal.Memory page told why once says = wanting_does files file d once

-- the page is judged, or not
pub judged_does : (files : SourceCall) (file : List ℕ) (d : NamedType) (table : Table) (page : List ℕ) (result : TaskResult) → HasTable files.content d table
    → Tells (files.content file) (Some page) → IsOnce files d → files.faults' ≡ files.faults → IsJudgedAs table page result → Does files (page_check file d) result
judged_does files file d table page (Ok (reply.Text message)) has told once calm (valid, is, (status_is, text_is)) = record {
  due = record { subject = record { page = page; table = table }; found = (told, has); says = (valid, is, status_is, text_is) };
  read = λ built_in. inl (once built_in);
  faults = inr calm;
}
judged_does files file d table page (Ok (reply.Grammar grammar)) has told once calm says = absurd says
judged_does files file d table page (Ok (reply.Halted printed message)) has told once calm says = absurd says
judged_does files file d table page (Err (Refusal.Told message)) has told once calm (count, many, (status_is, text_is)) = record {
  due = page_lacks_definition page told (large_models table count has many status_is text_is);
  read = λ built_in. inl (once built_in);
  faults = inr calm;
}
judged_does files file d table page (Err Refusal.Memory) has told once calm says = wanting_does files file d once
