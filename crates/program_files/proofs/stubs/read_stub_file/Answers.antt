use Rattle.std.proofs.Common.{◌∙◌, List, ℕ, Some, sym, subst}
use Rattle.io_edge.specs.Told.{Tells}
use Rattle.program_files.specs.declared.tree.Unread.{Unread}
use Rattle.program_files.specs.Unread.{IsUnreadStub}
use Rattle.program_files.proofs.StubLemmas.{stubs_there, stub_fault}
use Rattle.program_files.proofs.stubs.read_stub_file.Goals as goal

pub returns-in-Ok-functions_of-clause-ok : goal.returns-in-Ok-functions_of-clause-ok
returns-in-Ok-functions_of-clause-ok g c =
    let told = subst (λ (x : List ℕ). Tells (g.F.Files.content c.read.new.self c.as_str.result.now) (Some x)) (sym c.as_slice.ensures) c.in-Ok.ensures.content in
    stubs_there (g.F.Files.content c.read.new.self) _ _ _ _ _ _ c.args.name.now c.as_str.result.now c.as_slice.result.now _ (c.as_str.ensures.value ∙ c.in_ok-path.ensures) told c.in-Ok-functions_of.ensures.ok c.in-Ok.ensures.asked
    (c.in-Ok.ensures.unfailed (λ e. cc)) (c.in-Ok.ensures.unmissed (λ e. cc))

pub returns-in-Err-Script-clause-err : goal.returns-in-Err-Script-clause-err
returns-in-Err-Script-clause-err g c =
    let is = c.as_str.ensures.value ∙ c.in_ok-path.ensures in
    let told = subst (λ (x : List ℕ). Tells (g.F.Files.content c.read.new.self c.as_str.result.now) (Some x)) (sym c.as_slice.ensures) c.in-Ok.ensures.content in (
      c.in_ok-place.ensures ∙ c.as_bytes.ensures.value ∙ c.in_ok-path.ensures,
      c.in-Ok.ensures.asked,
      (c.as_slice.result.now, subst (λ (x : List ℕ). Tells (g.F.Files.content c.read.new.self x) (Some c.as_slice.result.now)) is told, stub_fault c.as_slice.result.now c.in-Err-Script.refusal (subst (λ (u : Unread). IsUnreadStub c.as_slice.result.now u) c.in-Err-Script.field-0-is c.in-Err-Script.ensures.err)),
      c.in-Ok.ensures.unfailed (λ e. cc),
      c.in-Ok.ensures.unmissed (λ e. cc),
    )
