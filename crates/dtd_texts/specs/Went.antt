-- What the tokens of a declaration lead to, one after another.
use Rattle.std.specs.Prelude.{ℕ, List, [], ◌∷◌}
use Rattle.dtd_texts.specs.Tokens.{Token}

-- what the tokens read so far lead to: a stage or a result, or why the declaration is not taken
pub data Went (S : Type 0) : Type 0 where
  leads : S → Went S
  -- none of what may stand there
  refused : Went S
  -- something that this project leaves out
  left_out : Went S
  -- over 200 brackets are open
  too_deep : Went S
  -- a content model names this element, which is not declared
  undeclared : List ℕ → Went S

-- the next step, where the one before it led somewhere; else what that one came to
abbrev pub then_go : {S T : Type 0} → Went S → (S → Went T) → Went T
then_go (leads s) f = f s
then_go refused f = refused
then_go left_out f = left_out
then_go too_deep f = too_deep
then_go (undeclared name) f = undeclared name

-- the tokens one by one from the first stage on, up to the first that leads nowhere
unfoldable pub all_steps : {S : Type 0} → (S → Token → Went S) → S → List Token → Went S
all_steps step s [] = leads s
all_steps step s (t ∷ ts) = then_go (step s t) (λ next. all_steps step next ts)
