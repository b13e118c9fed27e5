-- What the parts say of the counts makes what the call says of them.
use Rattle.std.proofs.Common.{◌≡◌, ◌<◌, inl, inr, ℕ, zero, suc, List, [], ◌∷◌, Contains, refl, sym, subst, lit<, arith}
use Rattle.std.specs.Prelude.{◌⊎◌, Ok, Err}
use Rattle.io_edge.specs.Counts.{one_more}
use Rattle.program_files.specs.Source.{SourceCall}
use Rattle.phpsa_texts.specs.declared.exit.Exit.{Exit}
use Rattle.phpsa_texts.specs.declared.exit.Exit.TheVariants.{Done, ReadFault, WriteFault, Memory}
use Rattle.phpsa_texts.specs.declared.message.Refusal.{Refusal}
use Rattle.phpsa_tasks.specs.declared.reply.Reply.{Reply}
use Rattle.phpsa_tasks.specs.declared.reply.Reply.TheVariants as reply
use Rattle.phpsa_tasks.specs.Tasks.{Task, script_check, page_check, script_making, made_check, script_run, grammar_making, list_check, script_match, help_telling, version_telling, usage, AsksFor}
use Rattle.phpsa_tasks.specs.Call.{Call, Output, IsUnfailed}
use Rattle.phpsa_tasks.specs.Counted.{uncounted, ReadsNothing, IsWanting, ReadsFor, FaultsAreTold, TellsFault, IsCounted}
use Rattle.phpsa_tasks.proofs.Faults.{told_anyhow}
use Rattle.phpsa_tasks.specs.Results.{reply_status, reply_text, Does}
use Rattle.phpsa_main.specs.Steps.{Puts, FailsOnOut, WantsMemory, Reports, ReportsRefusal}

abbrev pub OneTask : Type 0
OneTask = (words : List (List ℕ)) (task other : Task) → AsksFor words task → AsksFor words other → task ≡ other

-- the status behind a message: its own, or that of a text that could not be written
abbrev pub Behind : Exit → Exit → Type 0
Behind own status = (status ≡ own) ⊎ IsWanting status

write_fault : (status : Exit) → status ≡ WriteFault → IsWanting status
write_fault status is = subst IsWanting (sym is) (0, lit< tt, refl)

memory : (status : Exit) → status ≡ Memory → IsWanting status
memory status is = subst IsWanting (sym is) (1, lit< tt, refl)

put_behind : (text : List ℕ) (err : Output) (wanted status : Exit) → Puts err text wanted status → Behind wanted status
put_behind text err wanted status (inl p) = inl p.0
put_behind text err wanted status (inr (inl p)) = inr (write_fault status p.0)
put_behind text err wanted status (inr (inr p)) = inr (memory status p.0)

wanting_behind : (own status : Exit) → Behind Memory status → Behind own status
wanting_behind own status (inl is) = inr (memory status is)
wanting_behind own status (inr is) = inr is

unwritten_behind : (text : List ℕ) (out err : Output) (own status : Exit) → FailsOnOut text out err status ⊎ WantsMemory text out err status → Behind own status
unwritten_behind text out err own status (inl w) = inr (write_fault status w.status_is)
unwritten_behind text out err own status (inr w) = wanting_behind own status (put_behind _ err Memory status w.err_puts)

reply_behind : (own : Reply) (out err : Output) (status : Exit) → Reports own out err status → Behind (reply_status own) status
reply_behind (reply.Text message) out err status (inl (gains, (is, nothing))) = inl is
reply_behind (reply.Text message) out err status (inr w) = unwritten_behind message.text out err message.status status w
reply_behind (reply.Grammar grammar) out err status (inl (gains, (is, nothing))) = inl is
reply_behind (reply.Grammar grammar) out err status (inr w) = unwritten_behind (reply_text (reply.Grammar grammar)) out err Done status w
reply_behind (reply.Halted printed message) out err status (inl (gains, puts)) = put_behind message.text err message.status status puts
reply_behind (reply.Halted printed message) out err status (inr w) = unwritten_behind printed out err message.status status w

-- want of memory, and a text for it that could not be written, are among the statuses of a program that is not loaded
wanting_uncounted : (status : Exit) → IsWanting status → Contains uncounted status
wanting_uncounted status (zero, less, is) = subst (Contains uncounted) is (4, lit< tt, refl)
wanting_uncounted status (suc zero, less, is) = subst (Contains uncounted) is (5, lit< tt, refl)
wanting_uncounted status (suc (suc n), less, is) = let at : suc (suc n) < 2 = less in absurd (omega (arith, at))

abbrev Faults : Exit → Type 0
Faults status = Contains (ReadFault ∷ WriteFault ∷ Memory ∷ []) status

wanting_faults : (status : Exit) → IsWanting status → Faults status
wanting_faults status (zero, less, is) = subst Faults is (1, lit< tt, refl)
wanting_faults status (suc zero, less, is) = subst Faults is (2, lit< tt, refl)
wanting_faults status (suc (suc n), less, is) = let at : suc (suc n) < 2 = less in absurd (omega (arith, at))

once_or : (files : SourceCall) (own status : Exit) → IsWanting status → (files.reads' ≡ one_more files.reads) ⊎ (ReadsNothing files × IsWanting own)
    → (files.reads' ≡ one_more files.reads) ⊎ (ReadsNothing files × IsWanting status)
once_or files own status wants (inl once) = inl once
once_or files own status wants (inr (none, was)) = inr (none, wants)

-- what is read for a task
read_behind : (task : Task) (files : SourceCall) (own status : Exit) → ReadsFor task files own → Behind own status → ReadsFor task files status
read_behind task files own status read (inl is) = subst (ReadsFor task files) (sym is) read
read_behind (script_check file d goal limit form choice) files own status read (inr wants) = λ built_in. inl (wanting_uncounted status wants)
read_behind (page_check file d) files own status read (inr wants) = λ built_in. once_or files own status wants (read built_in)
read_behind (script_making n) files own status read (inr wants) = read
read_behind (made_check n) files own status read (inr wants) = read
read_behind (script_run file request steps) files own status read (inr wants) = inl (wanting_uncounted status wants)
read_behind (grammar_making file) files own status read (inr wants) = inl (wanting_uncounted status wants)
read_behind (list_check file d goal limit) files own status read (inr wants) = tt
read_behind (script_match file policy) files own status read (inr wants) = inl (wanting_uncounted status wants)
read_behind help_telling files own status read (inr wants) = read
read_behind version_telling files own status read (inr wants) = read
read_behind usage files own status read (inr wants) = read

faults_behind : (task : Task) (files : SourceCall) (own status : Exit) → FaultsAreTold task files own → Behind own status → FaultsAreTold task files status
faults_behind task files own status told (inl is) = subst (FaultsAreTold task files) (sym is) told
faults_behind task files own status told (inr wants) = told_anyhow task files status (inl (wanting_faults status wants))

-- the outputs tell their faults
counts : OneTask → (call : Call) (task : Task) (own status : Exit) → AsksFor call.words task → ReadsFor task call.files own → FaultsAreTold task call.files own → Behind own status
    → TellsFault call.out status → TellsFault call.err status → IsCounted call status
counts one call task own status asked read faults behind out err = record {
  read = λ other asked'. subst (λ (t : Task). ReadsFor t call.files status) (one call.words task other asked asked') (read_behind task call.files own status read behind);
  out = out;
  err = err;
  files = λ other asked'. subst (λ (t : Task). FaultsAreTold t call.files status) (one call.words task other asked asked') (faults_behind task call.files own status faults behind);
}

pub replied_counts : OneTask → (call : Call) (task : Task) (own : Reply) (status : Exit) → AsksFor call.words task → Does call.files task (Ok own)
    → Reports own call.out call.err status → TellsFault call.out status → TellsFault call.err status → IsCounted call status
replied_counts one call task own status asked does reports out err =
    counts one call task (reply_status own) status asked does.read does.faults (reply_behind own call.out call.err status reports) out err

pub refused_counts : OneTask → (call : Call) (task : Task) (refusal : Refusal) (status : Exit) → AsksFor call.words task → Does call.files task (Err refusal)
    → ReportsRefusal refusal call.err status → IsUnfailed call.out → TellsFault call.err status → IsCounted call status
refused_counts one call task (Refusal.Told message) status asked does reports out err =
    counts one call task message.status status asked does.read does.faults (put_behind _ call.err message.status status reports) (inr out) err
refused_counts one call task Refusal.Memory status asked does reports out err =
    counts one call task Memory status asked does.read does.faults (put_behind _ call.err Memory status reports) (inr out) err

-- no memory was left for the words
unread : (task : Task) (files : SourceCall) (status : Exit) → ReadsNothing files → IsWanting status → ReadsFor task files status
unread (script_check file d goal limit form choice) files status none wants = λ built_in. inl (wanting_uncounted status wants)
unread (page_check file d) files status none wants = λ built_in. inr (none, wants)
unread (script_making n) files status none wants = none
unread (made_check n) files status none wants = none
unread (script_run file request steps) files status none wants = inl (wanting_uncounted status wants)
unread (grammar_making file) files status none wants = inl (wanting_uncounted status wants)
unread (list_check file d goal limit) files status none wants = tt
unread (script_match file policy) files status none wants = inl (wanting_uncounted status wants)
unread help_telling files status none wants = none
unread version_telling files status none wants = none
unread usage files status none wants = none

is_wanting : (status : Exit) → Behind Memory status → IsWanting status
is_wanting status (inl is) = memory status is
is_wanting status (inr is) = is

pub wanting_counts : (call : Call) (status : Exit) → ReadsNothing call.files → ReportsRefusal Refusal.Memory call.err status → IsUnfailed call.out → TellsFault call.err status
    → IsCounted call status
wanting_counts call status none reports out err =
    let wants : IsWanting status = is_wanting status (put_behind _ call.err Memory status reports) in
    record {
      read = λ task asked. unread task call.files status none wants;
      out = inr out;
      err = err;
      files = λ task asked. told_anyhow task call.files status (inl (wanting_faults status wants));
    }
