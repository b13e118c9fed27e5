use Rattle.std.proofs.Common.{subst}
use Rattle.dtd_reader.specs.Source.{SourceCall, source_call}
use Rattle.dtd_reader.specs.Causes.{IsReadCause}
use Rattle.dtd_reader.specs.Answers.{IsTextAnswer}
use Rattle.dtd_reader.specs.Views.{IsLoaded, LoadedCounts}
use Rattle.dtd_reader.proofs.Later.{holds_later}
use Rattle.dtd_reader.proofs.Steps.{in_file_answer, same_call}
use Rattle.dtd_reader.proofs.reading.read_text.Goals as goal

pub returns-in-Text-clause-answer : goal.returns-in-Text-clause-answer
returns-in-Text-clause-answer g c =
    let call : SourceCall = source_call (g.F.Files.content c.load.new.files) (g.F.Files.faults c.args.files.now) (g.F.Files.faults c.load.new.files) (g.F.Files.misses c.args.files.now) (g.F.Files.misses c.load.new.files) in
    let held = (subst (IsLoaded call.content c.args.name.now) c.in-Text.is c.in_ok-text.ensures.loaded).0 in
    let calm = subst (LoadedCounts call) c.in-Text.is c.in_ok-text.ensures.counted in
    let whole : SourceCall = source_call (g.F.Files.content c.read_from.new.files) (g.F.Files.faults c.args.files.now) (g.F.Files.faults c.read_from.new.files) (g.F.Files.misses c.args.files.now) (g.F.Files.misses c.read_from.new.files) in
    in_file_answer whole c.args.root.now c.args.name.now c.in-Text.text (holds_later _ _ _ _ c.read_from.ensures.stays held) c.read_from.result
    (same_call (λ x. IsTextAnswer x c.args.root.now c.args.name.now c.in-Text.text c.read_from.result) whole.content _ _ whole.faults' _ _ whole.misses' calm.0 calm.1 c.read_from.ensures.answer)

pub returns-in-NotRead-clause-answer : goal.returns-in-NotRead-clause-answer
returns-in-NotRead-clause-answer g c =
    let call : SourceCall = source_call (g.F.Files.content c.load.new.files) (g.F.Files.faults c.args.files.now) (g.F.Files.faults c.load.new.files) (g.F.Files.misses c.args.files.now) (g.F.Files.misses c.load.new.files) in
    let is = subst (IsLoaded call.content c.args.name.now) c.in-NotRead.is c.in_ok-text.ensures.loaded in
    let counts = subst (LoadedCounts call) c.in-NotRead.is c.in_ok-text.ensures.counted in
    subst (λ n. IsReadCause call c.args.root.now n c.unread.result) is (c.unread.ensures.first call c.args.root.now counts)
