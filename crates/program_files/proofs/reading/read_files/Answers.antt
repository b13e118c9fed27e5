use Rattle.std.proofs.Common.{◌∙◌, ◌≤◌, ℕ, List, length, sym, subst, arith}
use Rattle.std.proofs.lemmas.Result.{err_from_is_err_and}
use Rattle.io_edge.proofs.Staying.{stays_on}
use Rattle.spellable.proofs.ShapeLemmas.{utf8_so}
use Rattle.program_rules.specs.declared.limits.TheConstants.{PLACE_LIMIT}
use Rattle.program_rules.specs.Programs.{ReadFile}
use Rattle.program_files.specs.declared.places.Step.TheVariants as step
use Rattle.program_files.specs.View.{files_of}
use Rattle.program_files.specs.Source.{source_call}
use Rattle.program_files.specs.Causes.{ReadsAll}
use Rattle.program_files.specs.Steps.{state, IsNextPlace}
use Rattle.program_files.proofs.HasRead.{HasRead, has_later}
use Rattle.program_files.proofs.Steps.{passed}
use Rattle.program_files.proofs.SoFar.{all_read}
use Rattle.program_files.proofs.Beginning.{first_read}
use Rattle.program_files.proofs.Refusals.{no_memory, no_memory_first}
use Rattle.program_files.proofs.Loops.{are_texts, are_utf8, asked_so, next_state, smaller, refused_so, missing_so, outside_so, step_so, no_step}
use Rattle.program_files.proofs.reading.read_files.Goals as goal

pub returns-in_err-main-clause-err : goal.returns-in_err-main-clause-err
returns-in_err-main-clause-err g c =
    let p = err_from_is_err_and c.from_residual.result c.from_residual.ensures.1 in
    rw (p.1, p.2) (no_memory_first _ _ _ _ _ c.args.root.now c.args.name.now)

pub loop-known-init : goal.loop-known-init
loop-known-init g c =
    let call = source_call (g.F.Files.content c.read_main.new.source) (g.F.Files.faults c.args.source.now) (g.F.Files.faults c.read_main.new.source) (g.F.Files.misses c.args.source.now) (g.F.Files.misses c.read_main.new.source) (g.F.Files.reads c.args.source.now) (g.F.Files.reads c.read_main.new.source) in
    let a = c.in_ok-known.ensures.ok in
    let few : 0 ≤ PLACE_LIMIT = omega arith in (
      subst (λ (ms : List (List ℕ)). HasRead call c.args.root.now c.args.name.now (state (files_of c.in_ok-known.known.files) ms c.read_main.new.includes)) (sym a.1)
          (first_read _ _ _ _ _ _ _ c.args.root.now c.args.name.now c.as_str.result.now _ _ (c.as_str.ensures.value ∙ c.in_ok-main.ensures) (utf8_so c.as_str.result.now c.as_str.utf8) a.0),
      subst (λ (ms : List (List ℕ)). length ms ≤ PLACE_LIMIT) (sym a.1) few,
      c.in_ok-known.ensures.stays,
    )

pub next_step-requires : goal.next_step-requires
next_step-requires g c = are_texts _ c.args.root.now c.args.name.now _ c.loop-known.invariant.0

pub returns-in_err-step-clause-err : goal.returns-in_err-step-clause-err
returns-in_err-step-clause-err g c =
    let p = err_from_is_err_and c.from_residual-in_err-step.result c.from_residual-in_err-step.ensures.1 in
    rw (p.1, p.2) (no_memory _ c.args.root.now c.args.name.now _ c.loop-known.invariant.0)

pub returns-in-Err-clause-err : goal.returns-in-Err-clause-err
returns-in-Err-clause-err g c =
    let root = c.args.root.now in
    let name = c.args.name.now in
    let path = c.as_str-in-Ask.result.now in
    let s = step_so _ _ c.in_ok-step.field-0 c.in-Some.step (step.Ask c.in-Ask.place) c.in_ok-step.ensures c.in-Some.is c.in-Ask.is in
    let has = has_later _ _ c.in-Err.ensures.stays _ _ _ _ _ _ root name _ c.loop-known.invariant.0 in
    let place = subst (λ (x : List ℕ). IsNextPlace root c.as_str.result.now (files_of c.loop-known.known.files) c.loop-known.known.missed.keys s.0 x) (sym c.as_str-in-Ask.ensures.value) s.4 in
    let asked = asked_so _ root name c.as_str.result.now _ _ _ c.next_step.new.includes s.1 s.0 path (c.as_str.ensures.value ∙ c.in_ok-main.ensures) has s.2 s.3 place in
    refused_so _ _ _ _ _ _ _ _ _ _ root name _ _ _ path asked c.loop-known.invariant.1 c.in-Err.refusal c.in-Err.ensures.err

pub loop-known-smaller : goal.loop-known-smaller
loop-known-smaller g c =
    smaller _ c.as_str-in-Ask.result.now (state (files_of c.loop-known.known.files) c.loop-known.known.missed.keys c.next_step.new.includes) (state (files_of c.in-Ok.more.files) c.in-Ok.more.missed.keys c.ask.new.includes) c.loop-known.invariant.0.few
    c.loop-known.invariant.1 c.in-Ok.ensures.ok

pub loop-known-preserved : goal.loop-known-preserved
loop-known-preserved g c =
    let root = c.args.root.now in
    let name = c.args.name.now in
    let path = c.as_str-in-Ask.result.now in
    let s = step_so _ _ c.in_ok-step.field-0 c.in-Some.step (step.Ask c.in-Ask.place) c.in_ok-step.ensures c.in-Some.is c.in-Ask.is in
    let has = has_later _ _ c.in-Ok.ensures.stays _ _ _ _ _ _ root name _ c.loop-known.invariant.0 in
    let place = subst (λ (x : List ℕ). IsNextPlace root c.as_str.result.now (files_of c.loop-known.known.files) c.loop-known.known.missed.keys s.0 x) (sym c.as_str-in-Ask.ensures.value) s.4 in
    let asked = asked_so _ root name c.as_str.result.now _ _ _ c.next_step.new.includes s.1 s.0 path (c.as_str.ensures.value ∙ c.in_ok-main.ensures) has s.2 s.3 place in
    let next = next_state _ _ _ _ _ _ _ _ _ _ root name _ _ _ path _ asked (utf8_so path c.as_str-in-Ask.utf8) c.loop-known.invariant.1 c.in-Ok.ensures.ok in
    (next.0, next.1, stays_on _ _ _ c.loop-known.invariant.2 c.in-Ok.ensures.stays)

pub returns-in-Missing-clause-err : goal.returns-in-Missing-clause-err
returns-in-Missing-clause-err g c =
    let s = step_so _ _ c.in_ok-step.field-0 c.in-Some.step (step.Missing c.in-Missing.written) c.in_ok-step.ensures c.in-Some.is c.in-Missing.is in
    missing_so _ c.args.root.now c.args.name.now c.as_str.result.now _ _ _ s.1 s.0 c.in-Missing.written (c.as_str.ensures.value ∙ c.in_ok-main.ensures) c.loop-known.invariant.0 s.2 s.3

pub returns-in-Outside-clause-err : goal.returns-in-Outside-clause-err
returns-in-Outside-clause-err g c =
    let s = step_so _ _ c.in_ok-step.field-0 c.in-Some.step (step.Outside c.in-Outside.written) c.in_ok-step.ensures c.in-Some.is c.in-Outside.is in
    outside_so _ c.args.root.now c.args.name.now c.as_str.result.now _ _ _ s.1 s.0 c.in-Outside.written (c.as_str.ensures.value ∙ c.in_ok-main.ensures) c.loop-known.invariant.0 s.2 s.3

pub with_found_names-requires : goal.with_found_names-requires
with_found_names-requires g c = are_utf8 _ c.args.root.now c.args.name.now _ c.loop-known.invariant.0

pub returns-in_err-files-clause-err : goal.returns-in_err-files-clause-err
returns-in_err-files-clause-err g c =
    let p = err_from_is_err_and c.from_residual-in_err-files.result c.from_residual-in_err-files.ensures.1 in
    rw (p.1, p.2) (no_memory _ c.args.root.now c.args.name.now _ c.loop-known.invariant.0)

pub returns-clause-ok : goal.returns-clause-ok
returns-clause-ok g c later stays =
    let is = c.as_str.ensures.value ∙ c.in_ok-main.ensures in
    let passes = no_step _ _ c.in_ok-step.field-0 c.in_ok-step.ensures c.in_default.is in
    let read = passed _ c.args.root.now c.args.name.now c.as_str.result.now _ _ _ _ is c.loop-known.invariant.0 passes in
    let has = has_later _ later stays _ _ _ _ _ _ c.args.root.now c.args.name.now _ read in
    let call = source_call later (g.F.Files.faults c.args.source.now) (g.F.Files.faults c.loop-known.source) (g.F.Files.misses c.args.source.now) (g.F.Files.misses c.loop-known.source) (g.F.Files.reads c.args.source.now) (g.F.Files.reads c.loop-known.source) in
    subst (λ (fs : List ReadFile). ReadsAll call c.args.root.now c.args.name.now fs) (sym c.in_ok-files.ensures) (all_read _ c.args.root.now c.args.name.now c.as_str.result.now _ _ is has c.loop-known.invariant.1)
