use Rattle.std.proofs.Common.{◌≡◌, Bool, if◌then◌else◌, [], ◌∷◌, ◌++◌, ◌∙◌, ap, subst, Some}
use Rattle.summary_decision.specs.Tables.{IsJoin}
use Rattle.summary_decision.proofs.TableLemmas.{joins_more}
use Rattle.short_sentences.proofs.joining.join.Goals as goal

pub returns-clause-joins : goal.returns-clause-joins
returns-clause-joins g c =
    let q = c.args.question.now in
    let old = c.args.sums.now in
    let more = c.number_of.new.self.numbered.keys in
    let keeps = c.in_ok-composition.ensures.keeps in
    let keys : c.number.new.keys.keys ≡ old.joins.keys ++ c.args.asked ∷ [] = subst (λ (b : Bool). c.number.new.keys.keys ≡ (if b then old.joins.keys ++ c.args.asked ∷ [] else old.joins.keys)) c.if-not-is_new.false c.in_ok-place.ensures.keys in
    let after : c.number_of.new.self.joins.keys ≡ old.joins.keys ++ c.args.asked ∷ [] = ap (λ (j : _). j.keys) c.in_ok-composition.ensures.joins ∙ keys in
    let told : c.push.new.self.items ≡ old.joined.items ++ c.in_ok-composition.composition ∷ [] = c.in_ok-push.ensures.items ∙ ap (λ (v : _). v.items ++ c.in_ok-composition.composition ∷ []) c.in_ok-composition.ensures.joined in
    let is : IsJoin (g.S.Summary.composed q.summary.now) more c.args.asked c.in_ok-composition.composition = (
      c.at.result.now,
      c.at-2.result.now,
      keeps c.args.asked.first c.at.result.now c.at.ensures,
      keeps c.args.asked.second c.at-2.result.now c.at-2.ensures,
      c.in_ok-composition.ensures.sum ∙ ap (λ (x : _). Some x) c.in_ok-sum.ensures,
    ) in
    joins_more (g.S.Summary.composed q.summary.now) old.numbered.keys more old.joins.keys c.number_of.new.self.joins.keys old.joined.items c.push.new.self.items c.args.asked c.in_ok-composition.composition keeps after told is c.requires.joins
