use Rattle.std.proofs.Common.{◌≡◌, Bool, if◌then◌else◌, List, [], ◌∷◌, ◌++◌, length, refl, ◌∙◌, ap, subst, arith, Some, slice_get}
use Rattle.std.proofs.lemmas.Option.{slice_get_read, slice_get_within}
use Rattle.summary_decision.specs.declared.table.Join.{Join}
use Rattle.summary_decision.specs.Tables.{IsJoin}
use Rattle.summary_decision.proofs.KnownLemmas.{known_same, numbered_longer, keeps_longer}
use Rattle.summary_decision.proofs.TableLemmas.{joins_kept, joins_more, join_told, table_stays}
use Rattle.summary_decision.proofs.joining.join.Goals as goal

pub index-requires : goal.index-requires
index-requires g c =
    let old = c.args.table.now in
    let same : c.number.new.keys.keys ≡ old.joins.keys = subst (λ (b : Bool). c.number.new.keys.keys ≡ (if b then old.joins.keys ++ c.args.asked ∷ [] else old.joins.keys)) c.if-not-is_new.true c.in_ok-place.ensures.keys in
    let w = slice_get_within c.number.new.keys.keys c.in_ok-place.place c.args.asked c.in_ok-place.ensures.number in
    omega (arith, w, ap length same, c.requires.table.joined.long, old.joined.ok.0)

pub returns-then-not-is_new-clause-goes : goal.returns-then-not-is_new-clause-goes
returns-then-not-is_new-clause-goes g c =
    let q = c.args.question.now in
    let old = c.args.table.now in
    let same : c.number.new.keys.keys ≡ old.joins.keys = subst (λ (b : Bool). c.number.new.keys.keys ≡ (if b then old.joins.keys ++ c.args.asked ∷ [] else old.joins.keys)) c.if-not-is_new.true c.in_ok-place.ensures.keys in
    table_stays (g.S.Summary.sum_of q.summary.now) (g.S.Summary.composed q.summary.now) (g.S.Summary.is_whole q.summary.now) q.grammar.now.productions.items q.grammar.now.start q.grammar.now.count old (record old { joins = c.number.new.keys }) c.requires.table c.requires.table.numbered
    (joins_kept (g.S.Summary.composed q.summary.now) old.sums.keys old.sums.keys old.joins.keys c.number.new.keys.keys old.joined.items old.joined.items (λ n x h. h) same refl c.requires.table.joined) refl refl refl refl refl

pub returns-then-not-is_new-clause-sum : goal.returns-then-not-is_new-clause-sum
returns-then-not-is_new-clause-sum g c s t first second =
    let q = c.args.question.now in
    let old = c.args.table.now in
    let same : c.number.new.keys.keys ≡ old.joins.keys = subst (λ (b : Bool). c.number.new.keys.keys ≡ (if b then old.joins.keys ++ c.args.asked ∷ [] else old.joins.keys)) c.if-not-is_new.true c.in_ok-place.ensures.keys in
    let w = slice_get_within c.number.new.keys.keys c.in_ok-place.place c.args.asked c.in_ok-place.ensures.number in
    let asked = subst (λ (l : List Join). slice_get l c.in_ok-place.place ≡ Some c.args.asked) same c.in_ok-place.ensures.number in
    let told = slice_get_read old.joined.items (length old.joined.items) c.in_ok-place.place c.index.result.now refl (omega (arith, w, ap length same, c.requires.table.joined.long)) c.index.ensures in
    join_told (g.S.Summary.composed q.summary.now) old.sums.keys c.args.asked c.index.result.now s t (c.requires.table.joined.right c.in_ok-place.place c.index.result.now c.args.asked asked told) first second

pub returns-clause-goes : goal.returns-clause-goes
returns-clause-goes g c =
    let q = c.args.question.now in
    let old = c.args.table.now in
    let more = c.number-2.new.keys.keys in
    let keeps = c.in_ok-composition.ensures.keeps in
    let keys : c.number.new.keys.keys ≡ old.joins.keys ++ c.args.asked ∷ [] = subst (λ (b : Bool). c.number.new.keys.keys ≡ (if b then old.joins.keys ++ c.args.asked ∷ [] else old.joins.keys)) c.if-not-is_new.false c.in_ok-place.ensures.keys in
    let is : IsJoin (g.S.Summary.composed q.summary.now) more c.args.asked c.in_ok-composition.composition = (
      c.sum_at.result.now,
      c.sum_at-2.result.now,
      keeps c.args.asked.first c.sum_at.result.now c.sum_at.ensures,
      keeps c.args.asked.second c.sum_at-2.result.now c.sum_at-2.ensures,
      c.in_ok-composition.ensures.number ∙ ap (λ (x : _). Some x) c.in_ok-sum.ensures,
    ) in
    table_stays (g.S.Summary.sum_of q.summary.now) (g.S.Summary.composed q.summary.now) (g.S.Summary.is_whole q.summary.now) q.grammar.now.productions.items q.grammar.now.start q.grammar.now.count old (record old { sums = c.number-2.new.keys; joins = c.number.new.keys; joined = c.push.new.self }) c.requires.table
    (numbered_longer old.sums.keys more old.entries.keys (keeps_longer old.sums.keys more keeps) c.requires.table.numbered)
    (joins_more (g.S.Summary.composed q.summary.now) old.sums.keys more old.joins.keys c.number.new.keys.keys old.joined.items c.push.new.self.items c.args.asked c.in_ok-composition.composition keeps keys c.in_ok-push.ensures.items is c.requires.table.joined)
    (known_same old.sums.keys more old.entries.keys c.requires.table.numbered keeps) refl refl refl refl

pub returns-clause-sum : goal.returns-clause-sum
returns-clause-sum g c s t first second =
    let q = c.args.question.now in
    let more = c.number-2.new.keys.keys in
    let keeps = c.in_ok-composition.ensures.keeps in
    let is : IsJoin (g.S.Summary.composed q.summary.now) more c.args.asked c.in_ok-composition.composition = (
      c.sum_at.result.now,
      c.sum_at-2.result.now,
      keeps c.args.asked.first c.sum_at.result.now c.sum_at.ensures,
      keeps c.args.asked.second c.sum_at-2.result.now c.sum_at-2.ensures,
      c.in_ok-composition.ensures.number ∙ ap (λ (x : _). Some x) c.in_ok-sum.ensures,
    ) in
    join_told (g.S.Summary.composed q.summary.now) more c.args.asked c.in_ok-composition.composition s t is (keeps c.args.asked.first s first) (keeps c.args.asked.second t second)
