-- A definition that is refused after a file was read.
use Rattle.std.proofs.Common.{◌≡◌, ℕ, List, refl, subst, inl, inr}
use Rattle.std.specs.Prelude.{◌⊎◌}
use Rattle.program_files.specs.Source.{SourceCall}
use Rattle.io_edge.specs.Told.{Content}
use Rattle.dtd_reader.specs.Source as dtd_source
use Rattle.dtd_reader.specs.Refusals.{IsCause}
use Rattle.dtd_reader.specs.declared.refusal.DtdRefusal.{DtdRefusal}
use Rattle.dtd_reader.specs.declared.refusal.DtdRefusal.TheVariants as dtd
use Rattle.document_types.specs.DocumentTypes.{NamedType, IsDefinitionRefusal}
use Rattle.document_types.specs.declared.refusal.DefinitionRefusal.{DefinitionRefusal}
use Rattle.document_types.specs.declared.refusal.DefinitionRefusal.TheVariants as definition
use Rattle.phpsa_texts.specs.declared.exit.Exit.TheVariants.{ReadFault}
use Rattle.phpsa_texts.specs.Statuses.{dtd_status, definition_status}
use Rattle.phpsa_tasks.specs.Causes.{definition_call}

-- the counts of faults and misses are as they were before the file was read
moved : (content : Content) (f f' g m m' n : ℕ) (d : NamedType) (r : DefinitionRefusal) → f' ≡ f → m' ≡ m
    → IsDefinitionRefusal (dtd_source.source_call content f' g m' n) d r → IsDefinitionRefusal (dtd_source.source_call content f g m n) d r
moved content f f' g m m' n d r b e why =
    subst (λ (k : ℕ). IsDefinitionRefusal (dtd_source.source_call content k g m n) d r) b
    (subst (λ (k : ℕ). IsDefinitionRefusal (dtd_source.source_call content f' g k n) d r) e why)

pub definition_cause : (files : SourceCall) (d : NamedType) (faults misses : ℕ) (r : DefinitionRefusal) → faults ≡ files.faults → misses ≡ files.misses
    → IsDefinitionRefusal (dtd_source.source_call files.content faults files.faults' misses files.misses') d r → IsDefinitionRefusal (definition_call files) d r
definition_cause files d faults misses r b e why = moved files.content files.faults faults files.faults' files.misses misses files.misses' d r b e why

-- no fault is counted but that of a file that is not read
faults_told : (call : dtd_source.SourceCall) (root name : List ℕ) (fault : DtdRefusal) → IsCause call root name fault → (dtd_status fault ≡ ReadFault) ⊎ (call.faults' ≡ call.faults)
faults_told call root name (dtd.Missing path) (asked, (rises, none, same)) = inr same
faults_told call root name (dtd.ReadFault path) why = inl refl
faults_told call root name (dtd.TooLong path len) (asked, (over, least, (same, others))) = inr same
faults_told call root name (dtd.Outside path) (why, (same, others)) = inr same
faults_told call root name (dtd.NotDtd at) (why, (same, others)) = inr same
faults_told call root name (dtd.Entity entity) (why, (same, others)) = inr same
faults_told call root name (dtd.Twice element) (why, (same, others)) = inr same
faults_told call root name (dtd.Undeclared element) (why, (same, others)) = inr same
faults_told call root name (dtd.LeftOut at) (why, (same, others)) = inr same
faults_told call root name (dtd.Limit count) (why, (same, others)) = inr same
faults_told call root name dtd.Memory (same, others) = inr same

pub definition_faults : (call : dtd_source.SourceCall) (d : NamedType) (r : DefinitionRefusal) → IsDefinitionRefusal call d r → (definition_status r ≡ ReadFault) ⊎ (call.faults' ≡ call.faults)
definition_faults call d (definition.File fault) (name, (root, is, why)) = faults_told call root name fault why
definition_faults call d (definition.BuiltIn fault) (why, (same, others)) = inr same
definition_faults call d definition.Memory (same, others) = inr same
