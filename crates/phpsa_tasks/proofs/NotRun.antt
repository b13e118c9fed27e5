-- A program that is held is not run where the file of its request holds none, and the cause is told.
use Rattle.std.proofs.Common.{◌≡◌, ◌∙◌, ℕ, List, Some, refl, sym, ap, subst, inl, inr}
use Rattle.std.specs.Prelude.{◌⊎◌}
use Rattle.io_edge.specs.Counts.{Rises}
use Rattle.script_meaning.specs.Requests.{PlainRequest}
use Rattle.io_edge.specs.Told.{Content}
use Rattle.request_reading.specs.Outcome.{Outcome, not_json, not_request, not_admitted, stands_for, outcome}
use Rattle.request_reading.specs.Causes.{IsCause}
use Rattle.request_reading.specs.declared.refusal.RequestRefusal.{RequestRefusal}
use Rattle.request_reading.specs.declared.refusal.RequestRefusal.TheVariants as asking
use Rattle.phpsa_texts.specs.declared.exit.Exit.{Exit}
use Rattle.phpsa_texts.specs.declared.exit.Exit.TheVariants.{Input, Memory}
use Rattle.phpsa_texts.specs.Statuses.{request_status}
use Rattle.phpsa_texts.specs.Texts.{request_text}
use Rattle.phpsa_tasks.specs.Tasks.{ScriptFile, script_run}
use Rattle.phpsa_tasks.specs.Call.{Call, Gains, GainsNothing}
use Rattle.phpsa_tasks.specs.Requests.{FindsRequest, HoldsNoRequest, unread, no_request_in, RefusesRequest}
use Rattle.phpsa_tasks.specs.Counted.{from_misses}
use Rattle.phpsa_tasks.specs.Causes.{Refuses}
use Rattle.phpsa_tasks.specs.Answered.{IsNotRun, TellsCause}
use Rattle.phpsa_tasks.proofs.Held.{ProgramLaws, unloaded_memory, one_content, file_memory}

-- what stands for a request has no cause but want of memory
no_cause : (cause : RequestRefusal) (o : Outcome) (x : PlainRequest) → o ≡ stands_for x → IsCause cause o → request_status cause ≡ Input → ⊥
no_cause asking.NotJson o x is why input = let same : not_json ≡ stands_for x = sym why ∙ is in cc
no_cause asking.NotRequest o x is why input = let same : not_request ≡ stands_for x = sym why ∙ is in cc
no_cause (asking.NotAdmitted path) o x is why input = let same : not_admitted path ≡ stands_for x = sym why ∙ is in cc
no_cause asking.Memory o x is why input = cc

-- so no request is found
pub no_finding : (content : Content) (name : List ℕ) (cause : RequestRefusal) (x : PlainRequest) → HoldsNoRequest content name cause → request_status cause ≡ Input
    → FindsRequest content (Some name) x → ⊥
no_finding content name cause x none input (bytes, told, is) =
    let same : none.bytes ≡ bytes = one_content content name none.bytes bytes none.file.told told in
    no_cause cause (outcome none.bytes) x (ap outcome same ∙ is) none.why input

same_path : (path other : List ℕ) → not_admitted path ≡ not_admitted other → asking.NotAdmitted path ≡ asking.NotAdmitted other
same_path path other e = cc

-- an outcome has one cause beside want of memory
one_cause : (told cause : RequestRefusal) (o : Outcome) → IsCause told o → IsCause cause o → request_status cause ≡ Input → (told ≡ cause) ⊎ (request_status told ≡ Memory)
one_cause asking.Memory cause o t c input = inr refl
one_cause asking.NotJson asking.Memory o t c input = absurd cc
one_cause asking.NotRequest asking.Memory o t c input = absurd cc
one_cause (asking.NotAdmitted path) asking.Memory o t c input = absurd cc
one_cause asking.NotJson asking.NotJson o t c input = inl refl
one_cause asking.NotRequest asking.NotRequest o t c input = inl refl
one_cause (asking.NotAdmitted path) (asking.NotAdmitted other) o t c input = inl (same_path path other (sym t ∙ c))
one_cause asking.NotJson asking.NotRequest o t c input = let same : not_json ≡ not_request = sym t ∙ c in absurd cc
one_cause asking.NotJson (asking.NotAdmitted path) o t c input = let same : not_json ≡ not_admitted path = sym t ∙ c in absurd cc
one_cause asking.NotRequest asking.NotJson o t c input = let same : not_request ≡ not_json = sym t ∙ c in absurd cc
one_cause asking.NotRequest (asking.NotAdmitted path) o t c input = let same : not_request ≡ not_admitted path = sym t ∙ c in absurd cc
one_cause (asking.NotAdmitted path) asking.NotJson o t c input = let same : not_admitted path ≡ not_json = sym t ∙ c in absurd cc
one_cause (asking.NotAdmitted path) asking.NotRequest o t c input = let same : not_admitted path ≡ not_request = sym t ∙ c in absurd cc

told_so : (call : Call) (status : Exit) (text : List ℕ) (cause told : RequestRefusal) → request_status cause ≡ Input → GainsNothing call.out → Gains call.err text
    → status ≡ request_status told → text ≡ request_text told → (told ≡ cause) ⊎ (request_status told ≡ Memory) → TellsCause call cause status ⊎ (status ≡ Memory)
told_so call status text cause told input out err is text_is (inl same) = inl (record {
  status_is = is ∙ ap request_status same ∙ input;
  out = out;
  err = subst (Gains call.err) (text_is ∙ ap request_text same) err;
})
told_so call status text cause told input out err is text_is (inr wants) = inr (is ∙ wants)

of_request : (call : Call) (misses : ℕ) (status : Exit) (text : List ℕ) (name : List ℕ) (cause : RequestRefusal) → (Rises call.files.faults call.files.faults' → ⊥)
    → HoldsNoRequest call.files.content name cause → request_status cause ≡ Input → GainsNothing call.out → Gains call.err text
    → RefusesRequest (from_misses misses call.files) (Some name) status text → TellsCause call cause status ⊎ (status ≡ Memory)
of_request call misses status text name cause calm none input out err (unread fault why is text_is) =
    inr (is ∙ file_memory (from_misses misses call.files) name none.bytes fault none.file calm why)
of_request call misses status text name cause calm none input out err (no_request_in bytes told tells why is text_is) =
    let same : bytes ≡ none.bytes = sym (one_content call.files.content name none.bytes bytes none.file.told tells) in
    told_so call status text cause told input out err is text_is
    (one_cause told cause (outcome none.bytes) (subst (λ (b : List ℕ). IsCause told (outcome b)) same why) none.why input)

-- what refuses the run is the cause, or want of memory
pub cause_told : ProgramLaws → (call : Call) (status : Exit) (text : List ℕ) (file : ScriptFile) (name : List ℕ) (steps : ℕ) (cause : RequestRefusal) → (Rises call.files.faults call.files.faults' → ⊥)
    → IsNotRun call file name cause → GainsNothing call.out → Gains call.err text → Refuses call.files (script_run file (Some name) steps) status text
    → TellsCause call cause status ⊎ (status ≡ Memory)
cause_told laws call status text file name steps cause calm n out err (inl (unloaded, why, is, text_is)) =
    inr (is ∙ unloaded_memory laws call.files file n.program unloaded n.held calm why)
cause_told laws call status text file name steps cause calm n out err (inr (program, found, (misses, behind, why), read)) =
    of_request call misses status text name cause calm n.none n.input out err why
