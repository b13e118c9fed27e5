use Rattle.std.proofs.Common.{List, ℕ, ◌++◌, ◌-◌, sym, ◌∙◌, ap, append_assoc}
use Rattle.string_functions.specs.Copies.{copies_of}
use Rattle.php_builtins.proofs.CopiesLemmas.{copies_step}
use Rattle.php_builtins.proofs.copying.copies.Goals as goal

pub loop-left-preserved : goal.loop-left-preserved
loop-left-preserved c =
    ap (λ (bs : List ℕ). bs ++ copies_of (c.loop-left.left - 1) c.args.text.now) c.in_ok-extend_from_slice.ensures.items
    ∙ append_assoc c.loop-left.out.items c.args.text.now (copies_of (c.loop-left.left - 1) c.args.text.now)
    ∙ ap (λ (bs : List ℕ). c.loop-left.out.items ++ bs) (sym (copies_step c.loop-left.left c.args.text.now c.loop-left-test.true))
    ∙ c.loop-left.invariant
