-- A document type has one table, where the names that its definition asks for are told of.
use Rattle.std.proofs.Common.{◌≡◌, ◌∙◌, ℕ, List, sym, ap}
use Rattle.dtd_model.specs.Table.{Table}
use Rattle.dtd_model.specs.declared.dtd.DoctypeRule.TheVariants.{Free}
use Rattle.io_edge.specs.Told.{Content}
use Rattle.dtd_reader.proofs.OneTable as laws
use Rattle.document_types.specs.Strict.{file_name, file_root, only_file, strict_bytes, IsStrict}
use Rattle.document_types.specs.DocumentTypes.{NamedType, strict_type, mini_type, file_type, HasTable, NamesAreTold}
use Rattle.document_types.proofs.BuiltInText.{only_told}

one_strict : (text : List ℕ) (s t : Table) → IsStrict text s → IsStrict text t → s ≡ t
one_strict text s t a b =
    let same : ◌≡◌ {A = Table} (record s { doctype = Free }) (record t { doctype = Free }) = laws.one_table (only_file text) file_root file_name _ _ (only_told text) a.spelled b.spelled in
    laws.same_table s t (ap (λ (x : Table). x.elements) same) (ap (λ (x : Table). x.entities) same) (a.doctype ∙ sym b.doctype)

pub same_table : (content : Content) (d : NamedType) (s t : Table) → NamesAreTold content d → HasTable content d s → HasTable content d t → s ≡ t
same_table content strict_type s t told e f = one_strict strict_bytes s t e f
same_table content mini_type s t told e f = e ∙ sym f
same_table content (file_type name root) s t told e f = laws.one_table content root name s t told e f
