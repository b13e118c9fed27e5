-- A program that is held is not held against a pattern where the file of the pattern spells none, and why is told.
use Rattle.std.proofs.Common.{◌≡◌, ◌∙◌, ℕ, List, sym, subst, inl, inr}
use Rattle.std.specs.Prelude.{◌⊎◌}
use Rattle.io_edge.specs.Counts.{Rises}
use Rattle.io_edge.specs.Told.{Content}
use Rattle.page_policy.specs.Patterns.{Pattern}
use Rattle.page_policy.specs.Refusals.{IsTaken, IsCause}
use Rattle.page_policy.specs.declared.refusal.PolicyRefusal.{PolicyRefusal}
use Rattle.page_policy.specs.declared.refusal.PolicyRefusal.TheVariants as policy
use Rattle.phpsa_texts.specs.declared.exit.Exit.{Exit}
use Rattle.phpsa_texts.specs.declared.exit.Exit.TheVariants.{Memory}
use Rattle.phpsa_texts.specs.Statuses.{policy_status}
use Rattle.phpsa_texts.specs.Texts.{policy_text}
use Rattle.phpsa_tasks.specs.Tasks.{ScriptFile, script_match}
use Rattle.phpsa_tasks.specs.Call.{Call, Gains, GainsNothing}
use Rattle.phpsa_tasks.specs.Policies.{FindsPattern, HoldsNoPattern, pattern_unread, no_pattern_in, RefusesPattern}
use Rattle.phpsa_tasks.specs.Counted.{from_misses}
use Rattle.phpsa_tasks.specs.Causes.{Refuses}
use Rattle.phpsa_tasks.specs.Answered.{IsNotMatched, TellsPolicy}
use Rattle.phpsa_tasks.proofs.Held.{ProgramLaws, unloaded_memory, one_content, file_memory}

-- no pattern is found
pub no_pattern_found : (content : Content) (name : List ℕ) (p : Pattern) → HoldsNoPattern content name → FindsPattern content name p → ⊥
no_pattern_found content name p none (bytes, told, taken) =
    let same : bytes ≡ none.bytes = sym (one_content content name none.bytes bytes none.file.told told) in
    none.none p (subst (λ (b : List ℕ). IsTaken b p) same taken)

told_so : (call : Call) (status : Exit) (text bytes : List ℕ) (refusal : PolicyRefusal) → GainsNothing call.out → Gains call.err text → IsCause bytes refusal
    → status ≡ policy_status refusal → text ≡ policy_text refusal → TellsPolicy call bytes status ⊎ (status ≡ Memory)
told_so call status text bytes (policy.NotPattern at) out err why is text_is =
    inl (record { cause = policy.NotPattern at; why = why; status_is = is; out = out; err = subst (Gains call.err) text_is err })
told_so call status text bytes (policy.TooLong len) out err why is text_is =
    inl (record { cause = policy.TooLong len; why = why; status_is = is; out = out; err = subst (Gains call.err) text_is err })
told_so call status text bytes (policy.TooDeep at) out err why is text_is =
    inl (record { cause = policy.TooDeep at; why = why; status_is = is; out = out; err = subst (Gains call.err) text_is err })
told_so call status text bytes policy.Memory out err why is text_is = inr is

of_pattern : (call : Call) (misses : ℕ) (status : Exit) (text name : List ℕ) → (Rises call.files.faults call.files.faults' → ⊥) → (n : HoldsNoPattern call.files.content name)
    → GainsNothing call.out → Gains call.err text → RefusesPattern (from_misses misses call.files) name status text → TellsPolicy call n.bytes status ⊎ (status ≡ Memory)
of_pattern call misses status text name calm n out err (pattern_unread fault why is text_is) =
    inr (is ∙ file_memory (from_misses misses call.files) name n.bytes fault n.file calm why)
of_pattern call misses status text name calm n out err (no_pattern_in bytes refusal told why is text_is) =
    let same : bytes ≡ n.bytes = sym (one_content call.files.content name n.bytes bytes n.file.told told) in
    told_so call status text n.bytes refusal out err (subst (λ (b : List ℕ). IsCause b refusal) same why) is text_is

-- what refuses the match is the cause, or want of memory
pub policy_told : ProgramLaws → (call : Call) (status : Exit) (text : List ℕ) (file : ScriptFile) (name : List ℕ) → (Rises call.files.faults call.files.faults' → ⊥)
    → (n : IsNotMatched call file name) → GainsNothing call.out → Gains call.err text → Refuses call.files (script_match file name) status text
    → TellsPolicy call n.none.bytes status ⊎ (status ≡ Memory)
policy_told laws call status text file name calm n out err (inl (unloaded, why, is, text_is)) =
    inr (is ∙ unloaded_memory laws call.files file n.program unloaded n.held calm why)
policy_told laws call status text file name calm n out err (inr (inl (program, found, (misses, behind, why), read))) =
    of_pattern call misses status text name calm n.none out err why
policy_told laws call status text file name calm n out err (inr (inr l)) = absurd (no_pattern_found call.files.content name l.pattern n.none l.finds)
