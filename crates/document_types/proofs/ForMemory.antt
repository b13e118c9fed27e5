-- A document type that has a table within its limits is refused for want of memory alone.
use Rattle.std.proofs.Common.{◌≡◌, ◌≤◌, ℕ, List, refl, subst, arith}
use Rattle.dtd_model.specs.Table.{Table}
use Rattle.io_edge.specs.Counts.{Rises}
use Rattle.io_edge.specs.Told.{Content}
use Rattle.dtd_reader.specs.Source.{SourceCall, source_call}
use Rattle.dtd_reader.specs.Refusals.{IsCause}
use Rattle.dtd_reader.specs.declared.refusal.DtdRefusal.{DtdRefusal}
use Rattle.dtd_reader.specs.declared.refusal.DtdRefusal.TheVariants as dtd
use Rattle.dtd_reader.specs.Certain.{PassesLimit, IsForLimit}
use Rattle.dtd_reader.proofs.NotRefused.{for_limits}
use Rattle.document_types.specs.Strict.{file_name, file_root, only_file, strict_bytes, IsStrict, IsRefused}
use Rattle.document_types.specs.declared.refusal.DefinitionRefusal.{DefinitionRefusal}
use Rattle.document_types.specs.declared.refusal.DefinitionRefusal.TheVariants as refusal
use Rattle.document_types.specs.DocumentTypes.{NamedType, strict_type, file_type, HasTable, NamesAreTold, NamesAreShort, IsTooLarge, IsDefinitionRefusal}
use Rattle.document_types.proofs.BuiltInText.{only_told, only_short}

-- the refusal is want of memory
abbrev pub IsWant : DefinitionRefusal → Type 0
IsWant (refusal.File fault) = fault ≡ dtd.Memory
IsWant (refusal.BuiltIn fault) = fault ≡ dtd.Memory
IsWant refusal.Memory = refusal.Memory ≡ refusal.Memory

memory_alone : (content : Content) (root name : List ℕ) (fault : DtdRefusal) → ((count : ℕ) → PassesLimit content root name count → ⊥) → IsForLimit content root name fault → fault ≡ dtd.Memory
memory_alone content root name dtd.Memory small why = refl
memory_alone content root name (dtd.Limit count) small why = absurd (small count why)
memory_alone content root name _ small why = absurd why

of_file : (call : SourceCall) (named : NamedType) (name root : List ℕ) (table : Table) (fault : DtdRefusal) → named ≡ file_type name root
    → NamesAreTold call.content named → NamesAreShort call.content named → ((count : ℕ) → IsTooLarge call.content named count → ⊥) → HasTable call.content named table
    → (Rises call.faults call.faults' → ⊥) → IsCause call root name fault → fault ≡ dtd.Memory
of_file call named name root table fault is told short small has calm cause =
    memory_alone call.content root name fault (subst (λ d. (count : ℕ) → IsTooLarge call.content d count → ⊥) is small)
    (for_limits call root name table fault (subst (NamesAreTold call.content) is told) (subst (NamesAreShort call.content) is short)
    (subst (λ d. HasTable call.content d table) is has) calm cause)

none_rises : Rises 0 0 → ⊥
none_rises rises = let one : 1 ≤ 0 = rises in omega (arith, one)

of_text : (content : Content) (named : NamedType) (table : Table) (fault : DtdRefusal) → named ≡ strict_type
    → ((count : ℕ) → IsTooLarge content named count → ⊥) → HasTable content named table → IsRefused strict_bytes fault → fault ≡ dtd.Memory
of_text content named table fault is small has (misses, cause) =
    let few : (count : ℕ) → IsTooLarge content strict_type count → ⊥ = subst (λ d. (count : ℕ) → IsTooLarge content d count → ⊥) is small in
    let spelled : IsStrict strict_bytes table = subst (λ d. HasTable content d table) is has in
    memory_alone (only_file strict_bytes) file_root file_name fault few
    (for_limits (source_call (only_file strict_bytes) 0 0 0 misses) file_root file_name _ fault (only_told strict_bytes) only_short spelled.spelled none_rises cause)

pub for_memory : (call : SourceCall) (named : NamedType) (table : Table) (r : DefinitionRefusal)
    → NamesAreTold call.content named → NamesAreShort call.content named → ((count : ℕ) → IsTooLarge call.content named count → ⊥)
    → HasTable call.content named table → (Rises call.faults call.faults' → ⊥) → IsDefinitionRefusal call named r → IsWant r
for_memory call named table (refusal.File fault) told short small has calm (name, (root, is, cause)) = of_file call named name root table fault is told short small has calm cause
for_memory call named table (refusal.BuiltIn fault) told short small has calm ((is, cause), counts) = of_text call.content named table fault is small has cause
for_memory call named table refusal.Memory told short small has calm counts = refl
