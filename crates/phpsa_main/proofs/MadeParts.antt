-- A made script, its answer, and a size that is refused, are what doing the tasks comes to.
use Rattle.std.proofs.Common.{◌≡◌, ℕ, List, Option, length, inl, inr, subst}
use Rattle.std.specs.Prelude.{Ok, Err}
use Rattle.io_edge.specs.Told.{Content, known, unasked, Stays}
use Rattle.program_files.specs.Source.{SourceCall, source_call}
use Rattle.document_types.specs.DocumentTypes.{strict_type}
use Rattle.document_types.specs.OneFile.{file_alone}
use Rattle.page_decision.specs.declared.goal.Goal.{Goal}
use Rattle.script_decision.specs.declared.shown.ShownAnswer.{ShownAnswer}
use Rattle.script_maker.specs.Made.{made, IsSize}
use Rattle.phpsa_texts.specs.declared.exit.Exit.TheVariants.{Done, Input}
use Rattle.phpsa_texts.specs.declared.message.Message.{Message}
use Rattle.phpsa_texts.specs.declared.message.Refusal.{Refusal}
use Rattle.phpsa_texts.specs.Texts.{Says, IsTold, size_text, summary_text}
use Rattle.command_words.specs.declared.values.TheConstants.{PAIR_LIMIT}
use Rattle.phpsa_tasks.specs.declared.reply.Reply.TheVariants as reply
use Rattle.phpsa_tasks.specs.Tasks.{script_making, made_check}
use Rattle.phpsa_tasks.specs.Subjects.{made_file, only_script, only_made}
use Rattle.phpsa_tasks.specs.ScriptAnswers.{answer_status, conclusion_of}
use Rattle.phpsa_tasks.specs.Causes.{no_size, made_refused}
use Rattle.phpsa_tasks.specs.Counted.{ReadsNothing}
use Rattle.phpsa_tasks.specs.Results.{Does}
use Rattle.phpsa_main.specs.Decided.{Decision, IsDecidedAs, Decides}

-- a source of one file tells of each name, so it tells the same later
pub same_alone : (file text : List ℕ) (now : Content) → Stays (file_alone file text) now → now ≡ file_alone file text
same_alone file text now stays = λ i. λ name. (same name) i
  where
    asked : (told : Option (List ℕ)) → known told ≡ unasked → ⊥
    asked told e = cc

    same : (name : List ℕ) → now name ≡ file_alone file text name
    same name = elim (stays name) [ inl none ↦ absurd (asked _ none) | inr is ↦ is ]

pub made_does : (files : SourceCall) (n : ℕ) (message : Message) → ReadsNothing files → files.faults' ≡ files.faults → IsSize n → Says message Done (made n)
    → Does files (script_making n) (Ok (reply.Text message))
made_does files n message read calm size (status_is, text_is) = record {
  due = record { subject = tt; found = tt; says = (size, status_is, text_is) };
  read = read;
  faults = inr calm;
}

pub wanting_does : (files : SourceCall) (n : ℕ) → ReadsNothing files → files.faults' ≡ files.faults → Does files (script_making n) (Err Refusal.Memory)
wanting_does files n read calm = record { due = tt; read = read; faults = inr calm }

pub size_does : (files : SourceCall) (n : ℕ) (refusal : Refusal) → ReadsNothing files → files.faults' ≡ files.faults → (IsSize n → ⊥) → IsTold refusal Input (size_text n)
    → Does files (script_making n) (Err refusal)
size_does files n (Refusal.Told message) read calm size (status_is, text_is) = record { due = (size, status_is, text_is); read = read; faults = inr calm }
size_does files n Refusal.Memory read calm size says = wanting_does files n read calm

-- no memory was left, or a script cannot have so many functions
pub wanting_made : (files : SourceCall) (n : ℕ) → ReadsNothing files → files.faults' ≡ files.faults → Does files (made_check n) (Err Refusal.Memory)
wanting_made files n read calm = record { due = tt; read = read; faults = inr calm }

pub size_made : (files : SourceCall) (n : ℕ) (refusal : Refusal) → ReadsNothing files → files.faults' ≡ files.faults → (IsSize n → ⊥) → IsTold refusal Input (size_text n)
    → Does files (made_check n) (Err refusal)
size_made files n (Refusal.Told message) read calm size (status_is, text_is) = record { due = no_size size status_is text_is; read = read; faults = inr calm }
size_made files n Refusal.Memory read calm size says = wanting_made files n read calm

-- the made script was decided, as the one file of a source that does not fail
abbrev pub MadeDecides : List ℕ → Decision → Type 0
MadeDecides script decision = (misses reads : ℕ) × Decides (source_call (only_script script) 0 0 0 misses 0 reads) made_file strict_type Goal.Valid PAIR_LIMIT decision

pub summary_made : (files : SourceCall) (n : ℕ) (script : List ℕ) (answer : ShownAnswer) (message : Message) → ReadsNothing files → files.faults' ≡ files.faults → IsSize n
    → script ≡ made n → MadeDecides script (Ok answer) → Says message (answer_status answer) (summary_text n (length script) (conclusion_of answer))
    → Does files (made_check n) (Ok (reply.Text message))
summary_made files n script answer message read calm size is decides says =
    let at : MadeDecides (made n) (Ok answer) = subst (λ (t : List ℕ). MadeDecides t (Ok answer)) is decides in
    let text : Says message (answer_status answer) (summary_text n (length (made n)) (conclusion_of answer)) =
    subst (λ (t : List ℕ). Says message (answer_status answer) (summary_text n (length t) (conclusion_of answer))) is says in
    let decided : IsDecidedAs (source_call (only_made n) 0 0 0 at.0 0 at.1) made_file strict_type Goal.Valid PAIR_LIMIT answer = at.2 in
    record {
      due = record {
        subject = record { program = decided.program; table = decided.table };
        found = (size, decided.loaded, decided.has);
        says = (answer, decided.is_answer, text.0, text.1);
      };
      read = read;
      faults = inr calm;
    }

pub refusal_made : (files : SourceCall) (n : ℕ) (script : List ℕ) (refusal : Refusal) → ReadsNothing files → files.faults' ≡ files.faults → IsSize n
    → script ≡ made n → MadeDecides script (Err refusal) → Does files (made_check n) (Err refusal)
refusal_made files n script (Refusal.Told message) read calm size is decides =
    let at : MadeDecides (made n) (Err (Refusal.Told message)) = subst (λ (t : List ℕ). MadeDecides t (Err (Refusal.Told message))) is decides in
    record { due = made_refused size at.0 at.1 at.2.why; read = read; faults = inr calm }
refusal_made files n script Refusal.Memory read calm size is decides = wanting_made files n read calm
