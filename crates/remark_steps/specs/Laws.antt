-- Laws of comments, sections and instructions, as statements.
use Rattle.std.specs.Prelude.{◌≡◌, ℕ, true, false, List, ◌++◌, Some, codes}
use Rattle.std.specs.List.{list_all}
use Rattle.xml_text.specs.Characters.{is_character}
use Rattle.xml_text.specs.Texts.{holds}
use Rattle.page_model.specs.Parts.{IsComment, IsSection}
use Rattle.piece_steps.specs.Insides.{past}
use Rattle.remark_steps.specs.Turns.{comment_turn, section_turn, instruction_turn}

-- the characters are such a text, its end, and the rest
pub record IsLeft (Is : List ℕ → Type 0) (ending cs rest : List ℕ) : Type 0 where
  pub text : List ℕ
  pub spelled : text ++ (ending ++ rest) ≡ cs
  pub is : Is text

-- characters with no `?>` in them
pub record IsData (text : List ℕ) : Type 0 where
  pub characters : list_all is_character text ≡ true
  pub no_end : holds (codes "?>") text ≡ false

-- the machine of comments leaves exactly behind the text of a comment and `-->`
abbrev pub CommentsLeft : Type 0
CommentsLeft = ((text rest : List ℕ) → IsComment text → past comment_turn 0 (text ++ (codes "-->" ++ rest)) ≡ Some rest)
    × ((cs rest : List ℕ) → past comment_turn 0 cs ≡ Some rest → IsLeft IsComment (codes "-->") cs rest)

-- the machine of sections leaves exactly behind the text of a section and `]]>`
abbrev pub SectionsLeft : Type 0
SectionsLeft = ((text rest : List ℕ) → IsSection text → past section_turn 0 (text ++ (codes "]]>" ++ rest)) ≡ Some rest)
    × ((cs rest : List ℕ) → past section_turn 0 cs ≡ Some rest → IsLeft IsSection (codes "]]>") cs rest)

-- the machine of instructions leaves exactly behind characters without `?>` and this
abbrev pub InstructionsLeft : Type 0
InstructionsLeft = ((text rest : List ℕ) → IsData text → past instruction_turn false (text ++ (codes "?>" ++ rest)) ≡ Some rest)
    × ((cs rest : List ℕ) → past instruction_turn false cs ≡ Some rest → IsLeft IsData (codes "?>") cs rest)
