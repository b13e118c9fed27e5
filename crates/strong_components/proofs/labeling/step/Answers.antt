use Rattle.std.proofs.Common.{◌≡◌, ◌<◌, ℕ, List, length, subst, arith}
use Rattle.std.proofs.lemmas.Result.{on_ok_weaker}
use Rattle.std.proofs.lemmas.Option.{slice_get_within}
use Rattle.strong_components.specs.declared.marks.Waiting.{Waiting}
use Rattle.strong_components.specs.Opening.{Shuts}
use Rattle.strong_components.proofs.ListLemmas.{all_up_to, all_before, first_of_all}
use Rattle.strong_components.proofs.LabelLemmas.{shut}
use Rattle.strong_components.proofs.labeling.step.Goals as goal

pub follow-requires-clause-last : goal.follow-requires-clause-last
follow-requires-clause-last c s h =
    let l = all_up_to c.args.search.now.starts c.args.start c.requires.keeps.rises c.requires.last s h in
    let b = c.in-Some.ensures.some.1 in
    omega arith

pub close-requires-clause-start : goal.close-requires-clause-start
close-requires-clause-start c = c.requires.keeps.starts_in c.args.start (first_of_all c.args.search.now.starts c.args.start c.requires.last)

pub close-requires-clause-within : goal.close-requires-clause-within
close-requires-clause-within c p u at = slice_get_within c.args.search.now.marks.items u _ (c.requires.keeps.opened p u at)

pub returns-in-None-clause-goes_on : goal.returns-in-None-clause-goes_on
returns-in-None-clause-goes_on c =
    let old = c.args.search.now in
    let first = all_before old.waiting c.args.start c.requires.keeps.sorted c.in-None.ensures.before in
    on_ok_weaker c.close.result
    (λ x. (shut c.args.edges.now old c.close.new.search c.args.start c.requires.keeps first
    (subst (λ (w : List Waiting). Shuts c.args.start (record { marks = old.marks; path = old.path; starts = old.starts; waiting = w; roots = old.roots }) c.close.new.search) c.in-None.ensures.none x)).0)
    c.close.ensures
