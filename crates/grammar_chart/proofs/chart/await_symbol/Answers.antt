use Rattle.std.proofs.Common.{◌≡◌, ◌<◌, ℕ, List, ◌++◌, length, map, refl, ap, ◌∙◌, arith}
use Rattle.std.proofs.lemmas.Option.{slice_get_read, slice_get_within}
use Rattle.grammar_chart.specs.Rules.{read_on}
use Rattle.grammar_chart.proofs.chart.await_symbol.Goals as goal

pub returns : goal.returns
returns c =
    let visits = c.enter.new.visits in
    let long : length visits.items ≡ length c.enter.new.entries.keys = omega (arith, visits.ok.0, c.in_ok-at.ensures.len) in
    let after = c.wait.new.visits in
    let still : length after.items ≡ length c.enter.new.entries.keys = omega (arith, after.ok.0, c.in_ok-wait.ensures.len, c.in_ok-at.ensures.len) in
    let below = slice_get_within c.enter.new.entries.keys c.in_ok-at.at _ c.in_ok-at.ensures.number in
    let within : c.in_ok-at.at < length visits.items = omega (arith, below, long) in
    record {
      place = c.in_ok-at.at;
      visits = visits.items;
      visit = c.index.result.now;
      at = c.in_ok-at.ensures.number;
      keeps = c.in_ok-at.ensures.keeps;
      adds = c.in_ok-at.ensures.adds;
      grows = c.in_ok-at.ensures.grows;
      is_visit = slice_get_read visits.items (length visits.items) c.in_ok-at.at c.index.result.now refl within c.index.ensures;
      advances = c.in_ok-advance_over.ensures ∙ ap (λ (xs : List ℕ). c.args.begun.now.items ++ map (λ (t : ℕ). read_on c.args.one t) xs) c.as_slice.ensures;
      waits = c.in_ok-wait.ensures.adds;
      long = long;
      still_long = still;
    }
