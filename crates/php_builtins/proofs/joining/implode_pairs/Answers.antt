use Rattle.std.proofs.Common.{◌≡◌, ◌⊎◌, ◌++◌, ◌∷◌, List, ℕ, Ok, Err, sym, ◌∙◌, ap, subst}
use Rattle.std.specs.Prelude.{IfOk, IfErr}
use Rattle.plain_values.specs.Plain.{text}
use Rattle.plain_values.specs.Text.{text_of}
use Rattle.plain_values.specs.Members.{within_length}
use Rattle.plain_values.specs.declared.fault.Fault.TheVariants.{Memory}
use Rattle.string_functions.specs.Pieces.{join_of}
use Rattle.builtin_meaning.specs.Values.{member_texts}
use Rattle.php_values.specs.View.{plain_of, plain_key, pairs_of}
use Rattle.php_values.specs.declared.key.Key.{Key}
use Rattle.php_values.specs.declared.array.Value.{Value}
use Rattle.php_builtins.specs.Joined.{behind_first}
use Rattle.php_builtins.proofs.JoiningLemmas.{join_from}
use Rattle.php_builtins.proofs.joining.implode_pairs.Goals as goal

same : (sep : List ℕ) (x : Key × Value) (xs ys : List (Key × Value)) → ys ≡ x ∷ xs → text_of (plain_of x.1) ++ behind_first sep (pairs_of xs) ≡ join_of sep (member_texts (pairs_of ys))
same sep x xs ys e = join_from sep (plain_key x.0) (plain_of x.1) (pairs_of xs) ∙ ap (λ (zs : List (Key × Value)). join_of sep (member_texts (pairs_of zs))) (sym e)

pub returns-in-Some-clause-ok : goal.returns-in-Some-clause-ok
returns-in-Some-clause-ok c =
    subst (λ (bs : List ℕ). IfOk c.implode_from.result (λ t. within_length bs ≡ Ok (text t))) (same c.args.sep.now c.in-Some.pair.now c.in-Some.others.now c.args.pairs.now c.in-Some.ensures.cases.0) c.implode_from.ensures.ok

pub returns-in-Some-clause-err : goal.returns-in-Some-clause-err
returns-in-Some-clause-err c =
    subst (λ (bs : List ℕ). IfErr c.implode_from.result (λ fault. (fault ≡ Memory) ⊎ (within_length bs ≡ Err fault))) (same c.args.sep.now c.in-Some.pair.now c.in-Some.others.now c.args.pairs.now c.in-Some.ensures.cases.0) c.implode_from.ensures.err
