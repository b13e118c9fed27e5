-- What a reader that goes from byte to byte puts out over a text.
use Rattle.std.specs.Prelude.{ℕ, List, [], ◌∷◌, ◌++◌}
use Rattle.text_base.specs.declared.page_token.PageToken.{PageToken}
use Rattle.byte_readers.specs.declared.emit.Emit.{Emit}
use Rattle.byte_readers.specs.declared.emit.Emit.TheVariants.{Nothing, One, Two}

-- the tokens that are put out at once, at most two
abbrev pub emitted : Emit → List PageToken
emitted Nothing = []
emitted (One t) = t ∷ []
emitted (Two t u) = t ∷ u ∷ []

-- from a state over the text to its end
abbrev pub tokens_over : {S : Type 0} → (S → ℕ → S) → (S → ℕ → List PageToken) → (S → List PageToken) → S → List ℕ → List PageToken
tokens_over next puts lasts s [] = lasts s
tokens_over next puts lasts s (b ∷ bs) = puts s b ++ tokens_over next puts lasts (next s b) bs
