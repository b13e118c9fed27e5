-- The coarse pieces as a language, and as a form; their tokens and places are left out.
use Rattle.std.specs.Prelude.{ℕ, List, [], ◌∷◌}
use Rattle.text_base.specs.declared.page_token.PageToken.{PageToken}
use Rattle.derivatives.specs.Expressions.{Matches}
use Rattle.page_model.specs.Places.{Place, at_beginning}
use Rattle.piece_steps.specs.Languages.{Language}
use Rattle.page_forms.specs.Forms.{Form}
use Rattle.coarse_forms.specs.CoarseForms.{coarse_form}

-- each text of the coarse form is a piece
abbrev pub coarse_language : Language Place (List ℕ) PageToken
coarse_language = record { Lawful = λ place w. Matches coarse_form w; spell = λ w. w; after = λ place w. at_beginning; tokens = λ w. [] }

-- the only form, at each place
abbrev pub coarse_forms : Place → List Form
coarse_forms place = record { expression = coarse_form; tokens = []; leads_to = at_beginning } ∷ []
