-- What the row of the subscripts comes to.
use Rattle.std.proofs.Common.{◌≡◌, ◌∙◌, ℕ, List, [], ◌∷◌, ◌++◌, map, refl, sym, ap, Some, None}
use Rattle.php_syntax.specs.Tokens.{PlainKey}
use Rattle.lexical_grammar.specs.Rows.{Row, whole, broken, endless, missing, row}
use Rattle.lexical_grammar.specs.Texts.{subscript_at, subscripts, whole_of}
use Rattle.std.proofs.lemmas.List.{map-append}
use Rattle.php_lexer.proofs.RowLemmas.{spoiled}

pub map_pushed : {X Y : Type 0} (f : X → Y) (xs ys : List X) (x : X) → ys ≡ xs ++ x ∷ [] → map f ys ≡ map f xs ++ f x ∷ []
map_pushed f xs ys x e = ap (map f) e ∙ map-append f xs (x ∷ [])

pub whole_is : (bytes : List ℕ) (keys : List PlainKey) (n : ℕ) → whole keys n ≡ row subscript_at 0 bytes → Some (keys, n) ≡ subscripts bytes
unfolding subscripts
whole_is bytes keys n e = ap whole_of e

pub endless_is : (bytes : List ℕ) → endless ≡ row subscript_at 0 bytes → None ≡ subscripts bytes
unfolding subscripts
endless_is bytes e = ap whole_of e

none_spoiled : {X : Type 0} (n : ℕ) (r : Row X) → None ≡ whole_of (spoiled n r)
none_spoiled n (whole xs m) = refl
none_spoiled n (broken m) = refl
none_spoiled n endless = refl

pub spoiled_is : (bytes : List ℕ) (n : ℕ) (r : Row PlainKey) → row subscript_at 0 bytes ≡ spoiled n r → None ≡ subscripts bytes
unfolding subscripts
spoiled_is bytes n r e = none_spoiled n r ∙ ap whole_of (sym e)

pub no_subscript : missing ≡ subscript_at []
unfolding subscript_at
no_subscript = refl
