use Rattle.std.proofs.Common.{◌≡◌, ◌∙◌, sym, ap, Some}
use Rattle.dtd_texts.specs.Places.{external}
use Rattle.dtd_texts.specs.Reading.{source_of}
use Rattle.dtd_entities.specs.Positions.{state_of, plain_source}
use Rattle.dtd_entities.specs.declared.state.Source.{Source as CodeSource}
use Rattle.dtd_reader.specs.Views.{frames_of}
use Rattle.dtd_reader.proofs.Later.{found_by}
use Rattle.dtd_reader.proofs.reader.Reader.find.Goals as goal

pub returns-in-Some-External-clause-found : goal.returns-in-Some-External-clause-found
returns-in-Some-External-clause-found g c = λ content stays.
    let s = state_of c.args.self.now.reading in
    let source : source_of s.parameters c.args.name.now ≡ Some (external c.in-Some-External.meant) =
    sym c.in-Some-External.ensures ∙ ap (λ (v : CodeSource). Some (plain_source v)) c.in-Some-External.field-0-is in
    found_by c.args.origin.root.now c.args.origin.name.now content s (frames_of c.args.self.now.frames) c.args.name.now c.in-Some-External.meant c.outside.result
    (sym c.is_open.ensures ∙ c.if-is_open.false) source (c.outside.ensures.found content stays)
