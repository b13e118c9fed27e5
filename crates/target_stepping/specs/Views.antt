-- Parts of `target_move` and `behind_move` of page_steps that the code has as calls.
use Rattle.std.specs.Prelude.{ℕ, false, true, ◌==◌, ◌&&◌, if◌then◌else◌, List, [], ◌∷◌, ◌++◌, Some, None, bytes_eq, codes}
use Rattle.xml_text.specs.Characters.{is_blank}
use Rattle.xml_text.specs.Names.{begins_name, in_name}
use Rattle.page_model.specs.Places.{Place, is_early}
use Rattle.piece_steps.specs.Readers.{go, fail}
use Rattle.page_model.specs.Fronts.{reserved, in_target, behind_target, in_instruction, in_declaration}
use Rattle.page_model.specs.OpenTags.{between}
use Rattle.page_steps.specs.PageSteps.{OpenMove, behind_move}

-- behind a target that is not `xml`
abbrev pub instruction_begun : ℕ → OpenMove
instruction_begun c = if is_blank c then go (in_instruction false) else (if c == 63 then go behind_target else fail)

-- behind a target that is `xml` in some case
abbrev pub declaration_begun : Place → List ℕ → ℕ → OpenMove
declaration_begun place target c =
    if bytes_eq target (codes "xml") && is_early place && is_blank c then go (in_declaration [] (between true)) else fail

-- in a target that cannot become `xml`
abbrev pub other_target_move : ℕ → OpenMove
other_target_move c = if in_name c then go (in_target None) else instruction_begun c

-- in a target of which there is some
abbrev pub more_move : Place → List ℕ → ℕ → OpenMove
more_move place target c = if in_name c then go (in_target (reserved (target ++ c ∷ []))) else behind_move place (Some target) c

-- directly behind `<?`
abbrev pub first_move : ℕ → OpenMove
first_move c = if begins_name c then go (in_target (reserved (c ∷ []))) else fail
