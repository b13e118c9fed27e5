-- What the cause for which a program is not loaded says of the counts of its source.
use Rattle.std.proofs.Common.{◌≡◌, ℕ, List, Option, None, Some, subst, inl, inr}
use Rattle.io_edge.specs.Counts.{Rises}
use Rattle.program_files.specs.Source.{SourceCall, source_call}
use Rattle.program_files.specs.Stubs.{IsStubFileCause}
use Rattle.program_files.specs.declared.refusal.LoadRefusal.{LoadRefusal}
use Rattle.program_files.specs.declared.refusal.LoadRefusal.TheVariants as load
use Rattle.program_loader.specs.Causes.{RefusesStubs, LacksStubs, IsLoadCause}

-- stubs are refused where there is a file of them
pub at_stubs : (P : Type 0) (call : SourceCall) (root name : List ℕ) (stubs : Option (List ℕ)) (refusal : LoadRefusal) → LacksStubs call root name stubs refusal
    → ((own : List ℕ) → RefusesStubs call root name own refusal → P) → P
at_stubs P call root name None refusal why go = absurd why
at_stubs P call root name (Some own) refusal why go = go own why

-- a file of stubs that could not be read is a fault of the source
failed : (call : SourceCall) (name path : List ℕ) → IsStubFileCause call name (load.ReadFault path) → Rises call.faults call.faults'
failed call name path (is, counted, rises, unmissed) = rises

stubs_failed : (call : SourceCall) (root name own path : List ℕ) → RefusesStubs call root name own (load.ReadFault path) → Rises call.faults call.faults'
stubs_failed call root name own path r =
    subst (λ (n : ℕ). Rises n call.faults') r.source.unfailed
    (failed (source_call call.content r.faults call.faults' r.misses call.misses' r.reads call.reads') own path r.cause)

-- and so is each other file
pub fault_rises : (call : SourceCall) (root name : List ℕ) (stubs : Option (List ℕ)) (path : List ℕ) → IsLoadCause call root name stubs (load.ReadFault path) → Rises call.faults call.faults'
fault_rises call root name stubs path (inl (named, (stops, rises, by))) = rises
fault_rises call root name stubs path (inr why) =
    at_stubs (Rises call.faults call.faults') call root name stubs (load.ReadFault path) why (λ own r. stubs_failed call root name own path r)
