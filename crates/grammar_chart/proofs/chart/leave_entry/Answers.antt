use Rattle.std.proofs.Common.{◌≡◌, ◌<◌, ℕ, List, ◌++◌, length, map, refl, sym, subst, ap, ◌∙◌, arith}
use Rattle.std.proofs.lemmas.Option.{slice_get_read, slice_get_within}
use Rattle.grammar_chart.specs.Rules.{read_on, begun_at}
use Rattle.grammar_chart.proofs.VisitLemmas.{within_grown}
use Rattle.std.specs.List.{All}
use Rattle.grammar_chart.proofs.chart.leave_entry.Goals as goal

pub returns : goal.returns
returns c =
    let visits = c.enter.new.visits in
    let long : length visits.items ≡ length c.enter.new.entries.keys = omega (arith, visits.ok.0, c.in_ok-at.ensures.len) in
    let after = c.leave.new.visits in
    let still : length after.items ≡ length c.enter.new.entries.keys = omega (arith, after.ok.0, c.in_ok-leave.ensures.len, c.in_ok-at.ensures.len) in
    let below = slice_get_within c.enter.new.entries.keys c.in_ok-at.at _ c.in_ok-at.ensures.number in
    let within : c.in_ok-at.at < length visits.items = omega (arith, below, long) in
    record {
      place = c.in_ok-at.at;
      visits = visits.items;
      visit = c.index.result.now;
      at = c.in_ok-at.ensures.number;
      keeps = c.in_ok-at.ensures.keeps;
      adds = c.in_ok-at.ensures.adds;
      grows = c.in_ok-at.ensures.grows;
      is_visit = slice_get_read visits.items (length visits.items) c.in_ok-at.at c.index.result.now refl within c.index.ensures;
      advances = c.in_ok-advance_all.ensures ∙ ap (λ (xs : List ℕ). c.args.begun.now.items ++ map (λ (n : ℕ). read_on (begun_at c.args.begun.now.items n) c.args.one.to) xs) c.as_slice.ensures;
      leaves = c.in_ok-leave.ensures.adds;
      long = long;
      still_long = still;
    }

pub advance_all-requires : goal.advance_all-requires
advance_all-requires c =
    let visits = c.enter.new.visits in
    let below = slice_get_within c.enter.new.entries.keys c.in_ok-at.at _ c.in_ok-at.ensures.number in
    let within : c.in_ok-at.at < length visits.items = omega (arith, below, visits.ok.0, c.in_ok-at.ensures.len) in
    let count = length c.args.begun.now.items in
    let at = slice_get_read visits.items (length visits.items) c.in_ok-at.at c.index.result.now refl within c.index.ensures in
    subst (λ (xs : List ℕ). All (λ n. n < count) xs) (sym c.as_slice.ensures)
    (within_grown c.args.visits.now.items visits.items count c.in_ok-at.ensures.grows c.requires.within c.in_ok-at.at c.index.result.now at)
