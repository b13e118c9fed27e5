-- A source over another one that holds a list of names beside it; this project's own.
use Rattle.std.specs.Prelude.{ℕ, List, Option, None, Some, if◌then◌else◌, bytes_eq}
use Rattle.io_edge.specs.Told.{Content, known}
use Rattle.several_files.specs.declared.call_files.CallFiles.{CallFiles}
use Rattle.several_files.specs.declared.call_files.TheConstants.{LIST_NAME}

-- what is told of a name where such a list is held, beside what the other source tells
abbrev pub told_beside : Option (List ℕ) → Content → Content
told_beside None content name = content name
told_beside (Some list) content name = if bytes_eq name LIST_NAME.now then known (Some list) else content name

-- the source that it asks
abbrev pub inner_of : {F : Type 0} → CallFiles F → F
inner_of c = c.inner

-- the list that it holds
abbrev pub list_of : {F : Type 0} → CallFiles F → Option (List ℕ)
list_of c = c.list

-- how often it was asked
abbrev pub read_count : {F : Type 0} → CallFiles F → ℕ
read_count c = c.reads
