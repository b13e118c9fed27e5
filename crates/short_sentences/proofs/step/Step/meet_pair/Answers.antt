use Rattle.std.proofs.Common.{◌≡◌, ◌<◌, Some, slice_get, length, subst, sym, refl, ap, arith}
use Rattle.std.proofs.lemmas.Option.{slice_get_within}
use Rattle.derivations.specs.declared.node.Part.TheVariants as part
use Rattle.derivations.specs.Nodes.{parts_length}
use Rattle.summary_decision.specs.declared.table.Join.{Join}
use Rattle.summary_decision.specs.Joints.{parts_by, composed_by}
use Rattle.summary_decision.proofs.JointLemmas.{joined_by, first_below, second_below}
use Rattle.short_sentences.proofs.JointLemmas.{beside_late, beside_on, makes_along, meets_one, pair_makes}
use Rattle.short_sentences.proofs.NoteLemmas.{entry_told, entry_within}
use Rattle.short_sentences.proofs.TableLemmas.{sums_more}
use Rattle.short_sentences.proofs.step.Step.meet_pair.Goals as goal

pub index-requires : goal.index-requires
index-requires g c =
    let l = entry_within c.args.table.now.sums.numbered.keys c.args.self.now.taken.now.entries.items c.args.joint.pair _ c.requires.table.taken_numbered c.requires.beside.pair in
    omega (arith, l, c.args.self.now.taken.now.entries.ok.0)

pub index-requires-2 : goal.index-requires-2
index-requires-2 g c =
    let l = entry_within c.args.table.now.sums.numbered.keys c.args.self.now.taken.now.entries.items c.args.pair _ c.requires.table.taken_numbered c.requires.partner.1 in
    omega (arith, l, c.args.self.now.taken.now.entries.ok.0)

pub join-requires-clause-first : goal.join-requires-clause-first
join-requires-clause-first g c =
    let keys = c.args.table.now.sums.numbered.keys in
    let own = entry_told keys c.args.self.now.taken.now.entries.items c.args.joint.pair _ c.index.result.now c.requires.table.taken_numbered c.requires.beside.pair c.index.ensures in
    let other = entry_told keys c.args.self.now.taken.now.entries.items c.args.pair _ c.index-2.result.now c.requires.table.taken_numbered c.requires.partner.1 c.index-2.ensures in
    subst (λ (x : Join). x.first < length keys) (sym c.join_on.ensures)
    (first_below c.args.joint.side c.index.result.now.sum c.index-2.result.now.sum (length keys) (slice_get_within keys c.index.result.now.sum _ own.1) (slice_get_within keys c.index-2.result.now.sum _ other.1))

pub join-requires-clause-second : goal.join-requires-clause-second
join-requires-clause-second g c =
    let keys = c.args.table.now.sums.numbered.keys in
    let own = entry_told keys c.args.self.now.taken.now.entries.items c.args.joint.pair _ c.index.result.now c.requires.table.taken_numbered c.requires.beside.pair c.index.ensures in
    let other = entry_told keys c.args.self.now.taken.now.entries.items c.args.pair _ c.index-2.result.now c.requires.table.taken_numbered c.requires.partner.1 c.index-2.ensures in
    subst (λ (x : Join). x.second < length keys) (sym c.join_on.ensures)
    (second_below c.args.joint.side c.index.result.now.sum c.index-2.result.now.sum (length keys) (slice_get_within keys c.index.result.now.sum _ own.1) (slice_get_within keys c.index-2.result.now.sum _ other.1))

pub add_known-requires-clause-table : goal.add_known-requires-clause-table
add_known-requires-clause-table g c = (sums_more (g.S.Summary.sum_of c.args.self.now.question.now.summary.now) (g.S.Summary.composed c.args.self.now.question.now.summary.now) (g.S.Summary.is_whole c.args.self.now.question.now.summary.now) c.args.self.now.question.now.grammar.now.productions.items c.args.self.now.question.now.grammar.now.start c.args.self.now.question.now.grammar.now.count c.args.self.now.taken.now c.args.table.now c.join.new.sums c.requires.table c.in_ok-number.ensures.keeps c.in_ok-number.ensures.joins).table

pub add_known-requires-clause-makes : goal.add_known-requires-clause-makes
add_known-requires-clause-makes g c =
    let keys = c.args.table.now.sums.numbered.keys in
    let goes = sums_more (g.S.Summary.sum_of c.args.self.now.question.now.summary.now) (g.S.Summary.composed c.args.self.now.question.now.summary.now) (g.S.Summary.is_whole c.args.self.now.question.now.summary.now) c.args.self.now.question.now.grammar.now.productions.items c.args.self.now.question.now.grammar.now.start c.args.self.now.question.now.grammar.now.count c.args.self.now.taken.now c.args.table.now c.join.new.sums c.requires.table c.in_ok-number.ensures.keeps c.in_ok-number.ensures.joins in
    let mid = record c.args.table.now { sums = c.join.new.sums } in
    let own = entry_told keys c.args.self.now.taken.now.entries.items c.args.joint.pair _ c.index.result.now c.requires.table.taken_numbered c.requires.beside.pair c.index.ensures in
    let other = entry_told keys c.args.self.now.taken.now.entries.items c.args.pair _ c.index-2.result.now c.requires.table.taken_numbered c.requires.partner.1 c.index-2.ensures in
    let told = joined_by (g.S.Summary.composed c.args.self.now.question.now.summary.now) c.args.joint.side keys c.join.new.sums.numbered.keys c.index.result.now.sum c.index-2.result.now.sum c.join_on.result c.in_ok-number.number c.args.sum.now c.requires.partner.0 c.join_on.ensures c.in_ok-number.ensures.sum own.1 other.1 in
    let there = subst (λ (z : _). slice_get z c.args.pair ≡ Some (c.args.partner.0, c.requires.partner.0)) (sym goes.known_same) c.requires.partner.1 in (
      composed_by (g.S.Summary.composed c.args.self.now.question.now.summary.now) c.args.joint.side c.args.sum.now c.requires.partner.0,
      told,
      makes_along (g.S.Summary.sum_of c.args.self.now.question.now.summary.now) (g.S.Summary.composed c.args.self.now.question.now.summary.now) (g.S.Summary.is_whole c.args.self.now.question.now.summary.now) c.args.self.now.question.now.grammar.now.productions.items c.args.self.now.question.now.grammar.now.start c.args.self.now.question.now.grammar.now.count c.args.self.now.taken.now c.args.joint.place (parts_by c.args.joint.side (part.Inner c.args.joint.pair) (part.Inner c.args.pair)) _ _ _ c.parts-parts.ensures refl
          (pair_makes (g.S.Summary.sum_of c.args.self.now.question.now.summary.now) (g.S.Summary.composed c.args.self.now.question.now.summary.now) (g.S.Summary.is_whole c.args.self.now.question.now.summary.now) c.args.self.now.question.now.grammar.now.productions.items c.args.self.now.question.now.grammar.now.start c.args.self.now.question.now.grammar.now.count c.args.self.now.taken.now mid c.args.joint c.args.sum.now c.args.partner c.args.pair c.requires.partner.0 goes.table
          (beside_on (g.S.Summary.sum_of c.args.self.now.question.now.summary.now) (g.S.Summary.composed c.args.self.now.question.now.summary.now) (g.S.Summary.is_whole c.args.self.now.question.now.summary.now) c.args.self.now.question.now.grammar.now.productions.items c.args.self.now.question.now.grammar.now.start c.args.self.now.question.now.grammar.now.count c.args.self.now.taken.now c.args.table.now mid c.args.joint c.args.sum.now _ goes c.requires.beside) there),
    )

pub add_known-requires-clause-late : goal.add_known-requires-clause-late
add_known-requires-clause-late g c =
    let l = beside_late (g.S.Summary.sum_of c.args.self.now.question.now.summary.now) (g.S.Summary.composed c.args.self.now.question.now.summary.now) (g.S.Summary.is_whole c.args.self.now.question.now.summary.now) c.args.self.now.question.now.grammar.now.productions.items c.args.self.now.question.now.grammar.now.start c.args.self.now.question.now.grammar.now.count c.args.self.now.taken.now c.args.table.now c.args.joint c.args.sum.now _ (part.Inner c.args.pair) c.requires.table c.requires.beside in
    let e = ap (parts_length c.args.self.now.taken.now.nodes.nodes.items) c.parts-parts.ensures in
    omega (arith, l, e)

pub returns : goal.returns
returns g c =
    let keys = c.args.table.now.sums.numbered.keys in
    let goes = sums_more (g.S.Summary.sum_of c.args.self.now.question.now.summary.now) (g.S.Summary.composed c.args.self.now.question.now.summary.now) (g.S.Summary.is_whole c.args.self.now.question.now.summary.now) c.args.self.now.question.now.grammar.now.productions.items c.args.self.now.question.now.grammar.now.start c.args.self.now.question.now.grammar.now.count c.args.self.now.taken.now c.args.table.now c.join.new.sums c.requires.table c.in_ok-number.ensures.keeps c.in_ok-number.ensures.joins in
    let mid = record c.args.table.now { sums = c.join.new.sums } in
    let own = entry_told keys c.args.self.now.taken.now.entries.items c.args.joint.pair _ c.index.result.now c.requires.table.taken_numbered c.requires.beside.pair c.index.ensures in
    let other = entry_told keys c.args.self.now.taken.now.entries.items c.args.pair _ c.index-2.result.now c.requires.table.taken_numbered c.requires.partner.1 c.index-2.ensures in
    let told = joined_by (g.S.Summary.composed c.args.self.now.question.now.summary.now) c.args.joint.side keys c.join.new.sums.numbered.keys c.index.result.now.sum c.index-2.result.now.sum c.join_on.result c.in_ok-number.number c.args.sum.now c.requires.partner.0 c.join_on.ensures c.in_ok-number.ensures.sum own.1 other.1 in
    meets_one (g.S.Summary.sum_of c.args.self.now.question.now.summary.now) (g.S.Summary.composed c.args.self.now.question.now.summary.now) (g.S.Summary.is_whole c.args.self.now.question.now.summary.now) c.args.self.now.question.now.grammar.now.productions.items c.args.self.now.question.now.grammar.now.start c.args.self.now.question.now.grammar.now.count c.args.self.now.taken.now c.add_known.result c.args.table.now mid c.add_known.new.table c.args.joint c.args.sum.now c.args.partner.0 c.args.pair c.in_ok-number.number c.parts-parts.result c.requires.partner c.parts-parts.ensures told goes c.add_known.ensures
