-- A call on one file.
use Rattle.std.proofs.Common.{◌≡◌, ◌∙◌, ℕ, List, [], true, false, refl, sym, ap, subst, inl, inr}
use Rattle.std.specs.Prelude.{◌⊎◌, Option, Some, Result, Err}
use Rattle.io_edge.specs.Told.{Content}
use Rattle.phpsa_texts.specs.declared.exit.Exit.{Exit}
use Rattle.phpsa_texts.specs.declared.exit.Exit.TheVariants as exit
use Rattle.phpsa_texts.specs.declared.message.Refusal.{Refusal}
use Rattle.phpsa_texts.specs.Texts.{memory_text}
use Rattle.phpsa_tasks.specs.Call.{call_of, output_of}
use Rattle.phpsa_tasks.specs.Keeps.{Keeps}
use Rattle.several_files.specs.declared.call_files.CallFiles.{CallFiles}
use Rattle.several_files.specs.declared.answers.FileAnswer.{FileAnswer}
use Rattle.several_files.specs.Files.{told_beside, inner_of, list_of, read_count}
use Rattle.several_files.specs.Words.{FileName}
use Rattle.several_files.specs.Lines.{Answer, text_of}
use Rattle.several_files.specs.Calls.{Moment, moment, between, call_words, ends_all, IsCalled, IsAnswer}
use Rattle.several_files.specs.Telling.{refused_by}
use Rattle.several_files.specs.Endings.{moment_of, IsAnswerOr}

-- a source with the same parts stands at the same moment
pub same_moment : (F : Type 0) (content : F → Content) (faults misses : F → ℕ) (a b : CallFiles F) → inner_of b ≡ inner_of a → list_of b ≡ list_of a
    → read_count b ≡ read_count a → moment_of content faults misses b ≡ moment_of content faults misses a
same_moment F content faults misses a b inner list reads =
    ap (λ (x : F). moment (told_beside (list_of b) (content x)) (faults x) (misses x) (read_count b)) inner
    ∙ ap (λ (l : Option (List ℕ)). moment (told_beside l (content (inner_of a))) (faults (inner_of a)) (misses (inner_of a)) (read_count b)) list
    ∙ ap (λ (r : ℕ). moment (told_beside (list_of a) (content (inner_of a))) (faults (inner_of a)) (misses (inner_of a)) r) reads

-- what a call keeps, by its words and by what stood on its outputs before it
abbrev KeepsAt : Moment → Moment → Exit → (out err : List ℕ) → (out_faults err_faults : ℕ) → List (List ℕ) → (before_out before_err : List ℕ)
    → (before_out_faults before_err_faults : ℕ) → Type 0
KeepsAt before now status out err f e words o r f0 e0 =
    Keeps (call_of words (between before now) (output_of (Some o) (Some out) f0 f) (output_of (Some r) (Some err) e0 e)) status

-- a call over outputs that are empty
pub called : (options : List (List ℕ)) (name : List ℕ) (before now : Moment) (status : Exit) (out err : List ℕ) (f e : ℕ) (words : List (List ℕ))
    (o r : List ℕ) (f0 e0 : ℕ) → words ≡ call_words options name → o ≡ [] → r ≡ [] → f0 ≡ 0 → e0 ≡ 0
    → KeepsAt before now status out err f e words o r f0 e0 → IsCalled options before now name status out err
called options name before now status out err f e words o r f0 e0 said no_out no_err no_f no_e keeps =
    let first = subst (λ (ws : List (List ℕ)). KeepsAt before now status out err f e ws o r f0 e0) said keeps in
    let second = subst (λ (x : List ℕ). KeepsAt before now status out err f e (call_words options name) x r f0 e0) no_out first in
    let third = subst (λ (x : List ℕ). KeepsAt before now status out err f e (call_words options name) [] x f0 e0) no_err second in
    let fourth = subst (λ (n : ℕ). KeepsAt before now status out err f e (call_words options name) [] [] n e0) no_f third in
    record {
      out_faults = f;
      err_faults = e;
      keeps = subst (λ (n : ℕ). KeepsAt before now status out err f e (call_words options name) [] [] 0 n) no_e fourth;
    }

-- the same call between moments that are these
pub called_between : (options : List (List ℕ)) (name : List ℕ) (before before' now now' : Moment) (status : Exit) (out err : List ℕ) → before ≡ before' → now ≡ now'
    → IsCalled options before now name status out err → IsCalled options before' now' name status out err
called_between options name before before' now now' status out err from to is =
    subst (λ (m : Moment). IsCalled options before' m name status out err) to (subst (λ (m : Moment). IsCalled options m now name status out err) from is)

-- memory was wanting
pub wants : (options : List (List ℕ)) (before now : Moment) (file : FileName) (result : Result FileAnswer Refusal) → result ≡ Err Refusal.Memory
    → IsAnswerOr options before now file result
wants options before now file result is =
    subst (λ (r : Result FileAnswer Refusal). IsAnswerOr options before now file r) (sym is) (exit.Memory, memory_text, (refl, refl), inr (refl, refl))

-- the call ends all
pub ends : (options : List (List ℕ)) (before now : Moment) (file : FileName) (status : Exit) (out err : List ℕ) (refusal : Refusal)
    → IsCalled options before now file.name status out err → ends_all status ≡ true → refused_by (Err refusal) status err ⊎ (refusal ≡ Refusal.Memory)
    → IsAnswerOr options before now file (Err refusal)
ends options before now file status out err refusal is all (inl by) = (status, err, by, inl (record { out = out; called = is; is = all }))
ends options before now file status out err refusal is all (inr none) = wants options before now file (Err refusal) (ap Err none)

-- the call has an answer
pub answers : (options : List (List ℕ)) (before now : Moment) (file : FileName) (out err : List ℕ) (answer : Answer)
    → IsCalled options before now file.name answer.status out err → ends_all answer.status ≡ false → answer.file ≡ file
    → answer.text ≡ text_of answer.status out err → IsAnswer options before now file answer
answers options before now file out err answer is goes file_is text =
    record { out = out; err = err; called = is; file_is = file_is; text_is = text; goes_on = goes }
