-- A program that is held in one file alone includes nothing, so that nothing leads out of any root.
use Rattle.std.proofs.Common.{◌≡◌, ◌∙◌, ℕ, Bool, true, false, List, map, Option, Some, None, sym, subst, ap, refl}
use Rattle.std.specs.Prelude.{bytes_eq, if◌then◌else◌}
use Rattle.std.specs.List.{Contains}
use Rattle.std.specs.Cmp.Lexicographic.{bytes_decides}
use Rattle.io_edge.specs.Names.{normal}
use Rattle.io_edge.specs.Told.{known}
use Rattle.script_meaning.specs.Programs.{PlainProgram}
use Rattle.program_rules.specs.Files.{HasScript, HasTree, found_name, with_found_names}
use Rattle.program_rules.specs.Includes.{includes_of_file, Reads, included, directly, LeadsTo, Writes, to_read, AllStayInside}
use Rattle.program_rules.specs.Programs.{ReadFile}
use Rattle.program_rules.proofs.PathLemmas.{paths_of_file}
use Rattle.program_files.proofs.Among.{contains_map}
use Rattle.program_loader.specs.Told.{HoldsProgram}
use Rattle.document_types.specs.OneFile.{file_alone}

module _ (only bytes name : List ℕ) (stubs : Option (List ℕ)) (p : PlainProgram) (h : HoldsProgram (file_alone only bytes) name stubs p) where
  -- a name that is read is that of the file
  one_name : (path : List ℕ) → Reads h.held (normal name) path → path ≡ only
  one_name path reads =
      let found = h.is_program.is_program.read.all path reads in
      let has : HasTree h.held path found.0 = (h.is_program.is_program.read.each (record { name = path; tree = found.0 }) found.1).1 in
      let told : known (if bytes_eq path only then Some bytes else None) ≡ known (Some has.has_script.bytes) =
      h.told path (to_read path reads) ∙ ap (λ (o : Option (List ℕ)). known o) has.has_script.is_held in
      by has.has_script.bytes (bytes_eq path only) refl told
    where
      by : (held : List ℕ) (b : Bool) → bytes_eq path only ≡ b → known (if b then Some bytes else None) ≡ known (Some held) → path ≡ only
      by held true is same = (bytes_decides path only).0 is
      by held false is same = absurd (cc)

  -- an include would be the file itself, which it leads to then
  includes_nothing : (file written : List ℕ) → Reads h.held (normal name) file → Writes h.held file written → ⊥
  includes_nothing file written reads (script, has, own) =
      let tree = with_found_names h.held file script in
      let spelled : HasTree h.held file tree = record { script = script; has_script = has; found = refl } in
      let path : List ℕ = found_name h.held file written in
      let paths : includes_of_file tree ≡ map (found_name h.held file) (includes_of_file script) = paths_of_file (found_name h.held file) script in
      let among : Contains (includes_of_file tree) path =
      subst (λ (xs : List (List ℕ)). Contains xs path) (sym paths) (contains_map (found_name h.held file) (includes_of_file script) written own) in
      let same : path ≡ file = one_name path (included file path tree reads spelled among) ∙ sym (one_name file reads) in
      let circle : LeadsTo h.held file path = directly file path tree spelled among in
      h.is_program.is_program.acyclic file reads (subst (λ (x : List ℕ). LeadsTo h.held file x) same circle)

  pub alone_stays_inside : (root : List ℕ) → AllStayInside root h.held (normal name)
  alone_stays_inside root file written reads writes = absurd (includes_nothing file written reads writes)
