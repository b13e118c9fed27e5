-- Parts of the steps of page_steps that the code has as calls.
use Rattle.std.specs.Prelude.{ℕ, Bool, if◌then◌else◌, ◌||◌, List, [], ◌∷◌, codes}
use Rattle.text_base.specs.declared.page_token.PageToken.TheVariants as token
use Rattle.piece_steps.specs.Insides.{inside}
use Rattle.piece_steps.specs.Readers.{done, fail}
use Rattle.dtd_model.specs.declared.dtd.DoctypeRule.{DoctypeRule}
use Rattle.page_model.specs.Fronts.{in_doctype}
use Rattle.page_model.specs.OpenDoctypes.{OpenDoctype}
use Rattle.page_model.specs.OpenValues.{OpenReference}
use Rattle.page_model.specs.Places.{behind}
use Rattle.page_steps.specs.DoctypeSteps.{begins, doctype_turn}
use Rattle.page_steps.specs.PageSteps.{OpenMove}
use Rattle.page_steps.specs.ReferenceSteps.{reference_good}

-- one of the openers behind `<!` begins so
abbrev pub begins_opener : List ℕ → Bool
begins_opener cs = begins (codes "<!--") cs || begins (codes "<![CDATA[") cs || begins (codes "<!DOCTYPE") cs

-- at the `;` of a reference
abbrev pub reference_ended : List (List ℕ) → OpenReference → OpenMove
reference_ended entities r = if reference_good entities r then done (behind 0) (token.Text ∷ []) else fail

-- the line of `open_move` on document type declarations
abbrev pub doctype_move : DoctypeRule → OpenDoctype → ℕ → OpenMove
doctype_move rule o c = inside in_doctype (done (behind 0) (token.Doctype ∷ [])) (doctype_turn rule o c)
