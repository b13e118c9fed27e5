use Rattle.std.proofs.Common.{◌∙◌, List, ℕ, sym, subst, arith}
use Rattle.program_files.specs.Causes.{IsReadCause}
use Rattle.program_files.specs.declared.refusal.LoadRefusal.TheVariants.{Missing}
use Rattle.program_files.specs.Source.{source_call}
use Rattle.program_files.proofs.OneAsked.{asked_first, main_added, main_missed, refused_where_none}
use Rattle.program_files.proofs.Refusals.{refused_first, missing_first, missed_memory}
use Rattle.program_files.proofs.reading.read_main.Goals as goal

pub returns-then-len-gt0-clause-ok : goal.returns-then-len-gt0-clause-ok
returns-then-len-gt0-clause-ok g c =
    main_added _ c.args.home.now.main.now _ (asked_first _ c.args.home.now.main.now _ _ _ _ c.new.ensures c.new-2.ensures.empty c.requires.first c.in-Ok.ensures.ok) (omega (arith, c.if-len-gt0.true, c.len.ensures))

pub returns-in-Ok-clause-err : goal.returns-in-Ok-clause-err
returns-in-Ok-clause-err g c =
    missed_memory _ _ _ _ _ _ _ c.args.home.now.root.now c.args.name.now c.args.home.now.main.now c.requires.main
    (main_missed _ c.args.home.now.main.now _ (asked_first _ c.args.home.now.main.now _ _ _ _ c.new.ensures c.new-2.ensures.empty c.requires.first c.in-Ok.ensures.ok) (omega (arith, c.if-len-gt0.false, c.len.ensures)))

pub returns-in-Ok-from_slice-clause-err : goal.returns-in-Ok-from_slice-clause-err
returns-in-Ok-from_slice-clause-err g c =
    let call = source_call (g.F.Files.content c.ask.new.source) (g.F.Files.faults c.args.source.now) (g.F.Files.faults c.ask.new.source) (g.F.Files.misses c.args.source.now) (g.F.Files.misses c.ask.new.source) (g.F.Files.reads c.args.source.now) (g.F.Files.reads c.ask.new.source) in
    subst (λ (x : List ℕ). IsReadCause call c.args.home.now.root.now c.args.name.now (Missing x)) (sym (c.in-Ok-from_slice.ensures ∙ c.as_bytes.ensures.value))
    (missing_first _ _ _ _ _ _ _ c.args.home.now.root.now c.args.name.now c.args.home.now.main.now c.requires.main
    (main_missed _ c.args.home.now.main.now _ (asked_first _ c.args.home.now.main.now _ _ _ _ c.new.ensures c.new-2.ensures.empty c.requires.first c.in-Ok.ensures.ok) (omega (arith, c.if-len-gt0.false, c.len.ensures))))

pub returns-clause-err : goal.returns-clause-err
returns-clause-err g c =
    let call = source_call (g.F.Files.content c.ask.new.source) (g.F.Files.faults c.args.source.now) (g.F.Files.faults c.ask.new.source) (g.F.Files.misses c.args.source.now) (g.F.Files.misses c.ask.new.source) (g.F.Files.reads c.args.source.now) (g.F.Files.reads c.ask.new.source) in
    refused_first (g.F.Files.content c.ask.new.source) _ _ _ _ _ _ c.args.home.now.root.now c.args.name.now c.args.home.now.main.now c.requires.main c.in-Err.refusal
    (refused_where_none call c.args.home.now.main.now _ _ c.in-Err.refusal c.new.ensures c.new-2.ensures.empty c.in-Err.ensures.err)
