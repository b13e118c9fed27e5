-- The text of a line's object.
use Rattle.std.proofs.Common.{◌≡◌, ℕ, List, refl, false}
use Rattle.serde_json.specs.Written.{compact_text, has_float}
use Rattle.serde_json.proofs.OnLiterals.{serde_json_on_literals}
use Rattle.site_check.specs.declared.line.Line.{Line}
use Rattle.site_check.specs.declared.line.Line.TheVariants.{Yes, No, Pairs, Tags, Items, Refused}
use Rattle.site_check.specs.Report.{data_of, object_of}

pub object_text : (name : List ℕ) (line : Line) → compact_text (data_of name line) ≡ object_of name line
unfolding serde_json_on_literals
object_text name Yes = refl
object_text name (No len) = refl
object_text name (Pairs count height) = refl
object_text name (Tags count height) = refl
object_text name (Items count) = refl
object_text name (Refused status text) = refl

pub no_float : (name : List ℕ) (line : Line) → has_float (data_of name line) ≡ false
unfolding serde_json_on_literals
no_float name Yes = refl
no_float name (No len) = refl
no_float name (Pairs count height) = refl
no_float name (Tags count height) = refl
no_float name (Items count) = refl
no_float name (Refused status text) = refl
