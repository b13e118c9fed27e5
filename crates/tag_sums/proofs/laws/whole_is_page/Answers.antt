use Rattle.tag_sums.proofs.Trees.{whole_tree}
use Rattle.tag_sums.proofs.laws.whole_is_page.Goals as goal

pub returns : goal.returns
returns c = λ a h ts. whole_tree a h ts
