use Rattle.std.proofs.Common.{◌∙◌, List, ap}
use Rattle.derivations.specs.declared.node.Node.{Node}
use Rattle.derivations.specs.Nodes.{parts_length}
use Rattle.summary_decision.proofs.KnownLemmas.{known_length}
use Rattle.short_sentences.proofs.NoteLemmas.{noted_code}
use Rattle.short_sentences.proofs.step.Step.add_known.Goals as goal

pub note-requires : goal.note-requires
note-requires g c = c.requires.table.drafts.long ∙ known_length c.args.table.now.sums.numbered.keys c.args.table.now.found.keys c.requires.table.numbered

pub returns : goal.returns
returns g c =
    noted_code (g.S.Summary.sum_of c.args.self.now.question.now.summary.now) (g.S.Summary.composed c.args.self.now.question.now.summary.now) (g.S.Summary.is_whole c.args.self.now.question.now.summary.now) c.args.self.now.question.now.grammar.now.productions.items c.args.self.now.question.now.grammar.now.start c.args.self.now.question.now.grammar.now.count c.args.self.now.taken.now c.note.result c.args.table.now c.note.new.table c.args.place c.args.number c.parts_length.result c.args.parts c.index.result.now c.requires.table c.requires.makes c.requires.late c.count-sums.ensures.different c.index.ensures
    (c.parts_length.ensures ∙ ap (λ (ns : List Node). parts_length ns c.args.parts) c.as_slice.ensures) c.note.ensures.sums c.note.ensures.notes
