use Rattle.std.proofs.Common.{◌∙◌, List, ℕ, Some, sym, subst}
use Rattle.io_edge.specs.Told.{Tells}
use Rattle.program_files.specs.View.{files_of}
use Rattle.program_files.proofs.OneAsked.{adds_file, script_refused}
use Rattle.program_files.proofs.asking.ask.Goals as goal

pub returns-in-Ok-with_script-clause-ok : goal.returns-in-Ok-with_script-clause-ok
returns-in-Ok-with_script-clause-ok g c =
    let is = c.in_ok-name.ensures ∙ c.as_bytes.ensures.value in
    let told = subst (λ (x : List ℕ). Tells (g.F.Files.content c.read.new.self c.args.place.now) (Some x)) (sym c.as_slice.ensures) c.in-Ok.ensures.content in
    adds_file (g.F.Files.content c.read.new.self) _ _ _ _ _ _ c.args.place.now c.in_ok-name.name c.as_slice.result.now _ _ is told c.in-Ok.ensures.asked (c.in-Ok.ensures.unfailed (λ e. cc)) (c.in-Ok.ensures.unmissed (λ e. cc)) c.in-Ok-with_script.ensures.ok

pub returns-in-Ok-clause-err : goal.returns-in-Ok-clause-err
returns-in-Ok-clause-err g c =
    let is = c.in_ok-name.ensures ∙ c.as_bytes.ensures.value in
    let told = subst (λ (x : List ℕ). Tells (g.F.Files.content c.read.new.self c.args.place.now) (Some x)) (sym c.as_slice.ensures) c.in-Ok.ensures.content in
    script_refused (g.F.Files.content c.read.new.self) _ _ _ _ _ _ c.args.place.now c.in_ok-name.name c.as_slice.result.now (files_of c.args.known.files) c.args.known.missed.keys is told c.in-Ok.ensures.asked (c.in-Ok.ensures.unfailed (λ e. cc)) (c.in-Ok.ensures.unmissed (λ e. cc)) c.in-Err.refusal c.in-Err.ensures.err
