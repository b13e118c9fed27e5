-- The headline's own definitions on a script whose text comes from an included file.
use Rattle.std.proofs.Common.{◌≡◌, ◌++◌, ap, ℕ, List, [], ◌∷◌, true, None, Some, codes, lit≤, refl, subst}
use Rattle.io_edge.specs.Told.{untold}
use Rattle.site_check.specs.declared.kept_files.KeptFile.TheVariants.{Found}
use Rattle.site_check.specs.Kept.{nothing_kept, keep, told_with}
use Rattle.script_meaning.specs.Requests.{PlainRequest}
use Rattle.script_meaning.specs.Runs.{◌then_do◌, Ended}
use Rattle.script_meaning.specs.Programs.{function_named, arguments_of}
use Rattle.script_meaning.specs.Expressions.{value, values}
use Rattle.script_meaning.specs.Statements.{statements}
use Rattle.script_meaning.specs.Meaning.{meaning}
use Rattle.page_decision.specs.declared.goal.Goal.{Goal}
use Rattle.page_model.specs.Valid.{Valid}
use Rattle.dtd_model.specs.Mini.{mini_table}
use Rattle.page_model.proofs.Examples.{paragraph}
use Rattle.program_files.specs.Source.{source_call}
use Rattle.program_loader.proofs.SmallProgram.{content, program, inner}
use Rattle.document_types.specs.DocumentTypes.{mini_type}
use Rattle.script_decision.specs.declared.shown.ShownAnswer.{ShownAnswer}
use Rattle.phpsa_texts.specs.declared.exit.Exit.TheVariants.{Done}
use Rattle.phpsa_texts.specs.declared.answers.AnswerForm.TheVariants.{Plain}
use Rattle.phpsa_texts.specs.Texts.{yes_text}
use Rattle.phpsa_tasks.specs.declared.choice.PageChoice.TheVariants.{First}
use Rattle.phpsa_tasks.specs.Tasks.{script_file, Task, script_check, page_check, AsksFor}
use Rattle.phpsa_tasks.specs.Call.{Call, output_of, call_of, Gains}
use Rattle.phpsa_tasks.specs.Requests.{no_request}
use Rattle.phpsa_tasks.specs.Subjects.{ProgramBy, IsLoadedInside, Holds}
use Rattle.phpsa_tasks.proofs.EmptyRequest.{no_request_admitted}
use Rattle.phpsa_tasks.specs.ScriptAnswers.{IsAnswer}
use Rattle.phpsa_tasks.specs.Endings.{OwesReply, EndsReplied}
use Rattle.phpsa_tasks.specs.Sound.{IsSound}
use Rattle.phpsa_tasks.specs.Written.{Writes, IsWritten}

-- a run with one unit prints the text, on every request
runs : (request : PlainRequest) → meaning program request 1 ≡ record { printed = inner; end = Ended }
unfolding meaning statements ◌then_do◌ value values function_named arguments_of
runs request = refl

-- what the source holds, as a task speaks of it; that it holds the program, in files within their limit, stands in program_loader (SmallProgram)
abbrev task : Task
task = script_check (script_file (codes "t.php") None None) mini_type Goal.Valid 10000 Plain First

abbrev subject : ProgramBy
subject = record { program = program; table = mini_table }

-- a call that is asked for it, reads both files once and writes `yes`
abbrev words : List (List ℕ)
words = codes "check" ∷ codes "t.php" ∷ codes "--dtd" ∷ codes "mini" ∷ []

abbrev call_with : List ℕ → Call
call_with written = call_of words (source_call content 0 0 0 0 0 2) (output_of (Some []) (Some written) 0 0) (output_of (Some []) (Some []) 0 0)

owed : AsksFor words task → IsLoadedInside content (script_file (codes "t.php") None None) program → IsAnswer Goal.Valid mini_table program 10000 ShownAnswer.Yes → OwesReply (call_with yes_text) Done yes_text
owed asked loaded is = record {
  task = task;
  asked = asked;
  replies = record { subject = subject; found = (loaded, refl); says = (ShownAnswer.Yes, is, refl, refl) };
}

ends : AsksFor words task → IsLoadedInside content (script_file (codes "t.php") None None) program → IsAnswer Goal.Valid mini_table program 10000 ShownAnswer.Yes → EndsReplied (call_with yes_text) Done
ends asked loaded is = record { text = yes_text; owed = owed asked loaded is; out = refl; err = refl }

-- one that writes nothing has not written that text
silent : (w : EndsReplied (call_with []) Done) → w.text ≡ yes_text → ⊥
silent w is = let e : ◌≡◌ {A = List ℕ} [] yes_text = subst (λ (text : List ℕ). Gains (output_of (Some []) (Some []) 0 0) text) is w.out in cc

-- what the headline says of it: what the run prints is valid
says : AsksFor words task → Holds content task subject → IsSound (call_with yes_text) Done → Valid mini_table inner
says asked held sound =
    subst (λ (o : List ℕ). Valid mini_table o) (ap (λ o. o.printed) (runs no_request))
    (sound refl task subject asked held no_request 1 no_request_admitted (ap (λ o. o.end) (runs no_request)))

-- a text as a page, over files that told nothing before the call, and tell after it what they gave in it
abbrev page_words : List (List ℕ)
page_words = codes "page" ∷ codes "p" ∷ codes "--dtd" ∷ codes "mini" ∷ []

abbrev page_call : Call
page_call = call_of page_words (source_call (told_with (keep nothing_kept (codes "p") (Found inner)) (λ name. untold)) 0 0 0 0 0 1)
    (output_of (Some []) (Some (codes "valid" ++ 10 ∷ [])) 0 0) (output_of (Some []) (Some []) 0 0)

judged : AsksFor page_words (page_check (codes "p") mini_type) → EndsReplied page_call Done
judged asked = record {
  text = codes "valid" ++ 10 ∷ [];
  owed = record {
    task = page_check (codes "p") mini_type;
    asked = asked;
    replies = record { subject = record { page = inner; table = mini_table }; found = (refl, refl); says = (true, paragraph, refl, refl) };
  };
  out = refl;
  err = refl;
}

-- so the page is held, and what status 0 means of it is met
page_held : Holds page_call.files.content (page_check (codes "p") mini_type) (record { page = inner; table = mini_table })
page_held = (record { told = refl; short = lit≤ tt }, record { has = refl; told = tt })

page_said : AsksFor page_words (page_check (codes "p") mini_type) → IsSound page_call Done → Valid mini_table inner
page_said asked sound = sound refl (page_check (codes "p") mini_type) (record { page = inner; table = mini_table }) asked page_held

page_written : AsksFor page_words (page_check (codes "p") mini_type) → IsWritten page_call Done
    → Writes page_call Done (page_check (codes "p") mini_type) (record { page = inner; table = mini_table })
page_written asked written = written tt (page_check (codes "p") mini_type) (record { page = inner; table = mini_table }) asked page_held
