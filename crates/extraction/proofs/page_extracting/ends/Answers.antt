use Rattle.std.proofs.Common.{rules, ◌≡◌, Some, slice_get}
use Rattle.extraction.proofs.EndLemmas.{ends_pushed}
use Rattle.extraction.proofs.page_extracting.ends.Goals as goal

pub returns : goal.returns
returns c =
    let there : slice_get c.args.flow.now.functions.items 0 ≡ Some c.in-Some.main.now = search rules in
    ends_pushed c.args.flow.now c.in-Some.main.now _ _ _ there c.new-names.ensures.items c.in_ok-push.ensures.items c.in_ok-push-2.ensures.items
