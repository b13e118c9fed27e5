use Rattle.std.proofs.Common.{◌≡◌, ◌≤◌, ◌∷◌, ◌++◌, [], List, ℕ, Ok, inl, inr, length, get_or, take, sym, ◌∙◌, ap, arith}
use Rattle.std.proofs.lemmas.List.{take_more, length-take}
use Rattle.std.proofs.lemmas.Result.{err_from_is_err_and}
use Rattle.plain_values.specs.Plain.{Pairs, text, array}
use Rattle.plain_values.specs.Members.{push_at, key_after, largest_key}
use Rattle.builtin_meaning.specs.Values.{numbered_from}
use Rattle.php_builtins.proofs.ListLemmas.{push_listed, same_array, no_fault}
use Rattle.php_builtins.proofs.pieces.list_of.Goals as goal

pub returns-in_err-push-clause-err : goal.returns-in_err-push-clause-err
returns-in_err-push-clause-err c =
    let before : List (List ℕ) = take c.loop-text.text-index c.args.texts.now in
    let low : length before ≤ 16777217 = omega (arith, c.requires, length-take c.loop-text.text-index c.args.texts.now) in
    let pushed : push_at c.loop-text.made (key_after (largest_key c.loop-text.made)) (text c.in_ok-own.own) ≡ Ok (array (numbered_from 0 (before ++ c.in_ok-own.own ∷ []))) =
    ap (λ (ps : Pairs). push_at ps (key_after (largest_key ps)) (text c.in_ok-own.own)) c.loop-text.invariant ∙ push_listed before c.in_ok-own.own low in
    let p = err_from_is_err_and c.from_residual-in_err-push.result c.from_residual-in_err-push.ensures.1 in
    rw (p.1, p.2) (elim c.in_err-push.ensures.err [
      | inl memory ↦ memory
      | inr failed ↦ absurd (no_fault (numbered_from 0 (before ++ c.in_ok-own.own ∷ [])) _ _ pushed failed)
    ])

pub loop-text-preserved : goal.loop-text-preserved
loop-text-preserved c =
    let before : List (List ℕ) = take c.loop-text.text-index c.args.texts.now in
    let low : length before ≤ 16777217 = omega (arith, c.requires, length-take c.loop-text.text-index c.args.texts.now) in
    let pushed : push_at c.loop-text.made (key_after (largest_key c.loop-text.made)) (text c.in_ok-own.own) ≡ Ok (array (numbered_from 0 (before ++ c.in_ok-own.own ∷ []))) =
    ap (λ (ps : Pairs). push_at ps (key_after (largest_key ps)) (text c.in_ok-own.own)) c.loop-text.invariant ∙ push_listed before c.in_ok-own.own low in
    let own : c.in_ok-own.own ≡ get_or c.args.texts.now c.loop-text.text-index c.text-item.result = c.in_ok-own.ensures ∙ c.text-item.is in
    same_array c.push.new.self (numbered_from 0 (before ++ c.in_ok-own.own ∷ [])) (push_at c.loop-text.made (key_after (largest_key c.loop-text.made)) (text c.in_ok-own.own)) c.in_ok-push.ensures.ok pushed
    ∙ ap (λ (t : List ℕ). numbered_from 0 (before ++ t ∷ [])) own
    ∙ ap (numbered_from 0) (sym (take_more c.args.texts.now c.loop-text.text-index c.text-item.result c.loop-text-test.true))
