use Rattle.std.proofs.Common.{◌≡◌, sym, ◌∙◌, length, refl}
use Rattle.std.proofs.lemmas.Bool.{eqb-true}
use Rattle.string_ops.proofs.ReplaceLemmas.{same_replaces}
use Rattle.string_ops.proofs.machine.replace_or_same.Goals as goal

pub returns-then-is_empty : goal.returns-then-is_empty
returns-then-is_empty c =
    let z : length c.args.search.now ≡ 0 = eqb-true (length c.args.search.now) 0 (sym c.is_empty.ensures ∙ c.if-is_empty.true) in
    same_replaces c.same_of_size.result c.args.search.now c.args.with.now (length c.args.with.now) z refl c.same_of_size.ensures
