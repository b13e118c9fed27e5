-- A join as its first text and the others, each behind the separator.
use Rattle.std.proofs.Common.{◌≡◌, ℕ, List, ◌++◌, ◌∙◌, ap, append-nil, append_assoc}
use Rattle.plain_values.specs.Plain.{Plain, PlainKey, Pairs, empty, pair}
use Rattle.plain_values.specs.Text.{text_of}
use Rattle.string_functions.specs.Pieces.{join_of}
use Rattle.builtin_meaning.specs.Values.{member_texts}
use Rattle.php_builtins.specs.Joined.{behind_first}

pub join_from : (sep : List ℕ) (k : PlainKey) (v : Plain) (ps : Pairs) → text_of v ++ behind_first sep ps ≡ join_of sep (member_texts (pair k v ps))
join_from sep k v empty = append-nil (text_of v)
join_from sep k v (pair j u ps) =
    ap (λ (bs : List ℕ). text_of v ++ bs) (append_assoc sep (text_of u) (behind_first sep ps) ∙ ap (λ (bs : List ℕ). sep ++ bs) (join_from sep j u ps))
