-- Equality of open pieces is exact.
use Rattle.std.specs.Prelude.{◌≡◌, ℕ, Bool, true, List, refl}
use Rattle.std.proofs.Common.{ap}
use Rattle.std.proofs.lemmas.Map.Views.{exact_unsigned_eq}
use Rattle.text_base.specs.Exactness.{exact_bytes}
use Rattle.open_pieces.specs.Lists.{exact_lists, exact_bool, both, three}
use Rattle.open_pieces.specs.declared.value.OpenReference.{OpenReference}
use Rattle.open_pieces.specs.declared.attribute.OpenAttribute.{OpenAttribute}
use Rattle.open_pieces.specs.declared.doctype.OpenDoctype.{OpenDoctype}
use Rattle.open_pieces.specs.ValueExactness.{exact_reference}
use Rattle.open_pieces.specs.AttributeExactness.{exact_attribute}
use Rattle.open_pieces.specs.DoctypeExactness.{exact_doctype}
use Rattle.open_pieces.specs.declared.open.OpenPiece.{OpenPiece}
use Rattle.open_pieces.specs.declared.open.OpenPiece.TheVariants as piece
use Rattle.open_pieces.specs.contracts.open.OpenPiecePartialEq.TheImpl as pieces

exact_piece_nothing : (q : OpenPiece) → (pieces.ghosts).eq piece.Nothing q ≡ true → piece.Nothing ≡ q
exact_piece_nothing piece.Nothing e = refl
exact_piece_nothing (piece.Reference b0) e = cc
exact_piece_nothing (piece.Opener b0) e = cc
exact_piece_nothing (piece.TagName b0) e = cc
exact_piece_nothing (piece.Tag b0 b1 b2) e = cc
exact_piece_nothing (piece.EmptyEnd b0 b1) e = cc
exact_piece_nothing (piece.EndTag b0 b1) e = cc
exact_piece_nothing (piece.Comment b0) e = cc
exact_piece_nothing (piece.Section b0) e = cc
exact_piece_nothing (piece.Target b0) e = cc
exact_piece_nothing piece.OtherTarget e = cc
exact_piece_nothing piece.BehindTarget e = cc
exact_piece_nothing (piece.Instruction b0) e = cc
exact_piece_nothing (piece.Declaration b0 b1) e = cc
exact_piece_nothing piece.DeclarationEnd e = cc
exact_piece_nothing (piece.Doctype b0) e = cc

exact_piece_reference : (a0 : OpenReference) (q : OpenPiece) → (pieces.ghosts).eq (piece.Reference a0) q ≡ true → piece.Reference a0 ≡ q
exact_piece_reference a0 piece.Nothing e = cc
exact_piece_reference a0 (piece.Reference b0) e = ap (λ (z : OpenReference). piece.Reference z) (exact_reference a0 b0 e)
exact_piece_reference a0 (piece.Opener b0) e = cc
exact_piece_reference a0 (piece.TagName b0) e = cc
exact_piece_reference a0 (piece.Tag b0 b1 b2) e = cc
exact_piece_reference a0 (piece.EmptyEnd b0 b1) e = cc
exact_piece_reference a0 (piece.EndTag b0 b1) e = cc
exact_piece_reference a0 (piece.Comment b0) e = cc
exact_piece_reference a0 (piece.Section b0) e = cc
exact_piece_reference a0 (piece.Target b0) e = cc
exact_piece_reference a0 piece.OtherTarget e = cc
exact_piece_reference a0 piece.BehindTarget e = cc
exact_piece_reference a0 (piece.Instruction b0) e = cc
exact_piece_reference a0 (piece.Declaration b0 b1) e = cc
exact_piece_reference a0 piece.DeclarationEnd e = cc
exact_piece_reference a0 (piece.Doctype b0) e = cc

exact_piece_opener : (a0 : List ℕ) (q : OpenPiece) → (pieces.ghosts).eq (piece.Opener a0) q ≡ true → piece.Opener a0 ≡ q
exact_piece_opener a0 piece.Nothing e = cc
exact_piece_opener a0 (piece.Reference b0) e = cc
exact_piece_opener a0 (piece.Opener b0) e = ap (λ (z : List ℕ). piece.Opener z) (exact_bytes a0 b0 e)
exact_piece_opener a0 (piece.TagName b0) e = cc
exact_piece_opener a0 (piece.Tag b0 b1 b2) e = cc
exact_piece_opener a0 (piece.EmptyEnd b0 b1) e = cc
exact_piece_opener a0 (piece.EndTag b0 b1) e = cc
exact_piece_opener a0 (piece.Comment b0) e = cc
exact_piece_opener a0 (piece.Section b0) e = cc
exact_piece_opener a0 (piece.Target b0) e = cc
exact_piece_opener a0 piece.OtherTarget e = cc
exact_piece_opener a0 piece.BehindTarget e = cc
exact_piece_opener a0 (piece.Instruction b0) e = cc
exact_piece_opener a0 (piece.Declaration b0 b1) e = cc
exact_piece_opener a0 piece.DeclarationEnd e = cc
exact_piece_opener a0 (piece.Doctype b0) e = cc

exact_piece_tag_name : (a0 : List ℕ) (q : OpenPiece) → (pieces.ghosts).eq (piece.TagName a0) q ≡ true → piece.TagName a0 ≡ q
exact_piece_tag_name a0 piece.Nothing e = cc
exact_piece_tag_name a0 (piece.Reference b0) e = cc
exact_piece_tag_name a0 (piece.Opener b0) e = cc
exact_piece_tag_name a0 (piece.TagName b0) e = ap (λ (z : List ℕ). piece.TagName z) (exact_bytes a0 b0 e)
exact_piece_tag_name a0 (piece.Tag b0 b1 b2) e = cc
exact_piece_tag_name a0 (piece.EmptyEnd b0 b1) e = cc
exact_piece_tag_name a0 (piece.EndTag b0 b1) e = cc
exact_piece_tag_name a0 (piece.Comment b0) e = cc
exact_piece_tag_name a0 (piece.Section b0) e = cc
exact_piece_tag_name a0 (piece.Target b0) e = cc
exact_piece_tag_name a0 piece.OtherTarget e = cc
exact_piece_tag_name a0 piece.BehindTarget e = cc
exact_piece_tag_name a0 (piece.Instruction b0) e = cc
exact_piece_tag_name a0 (piece.Declaration b0 b1) e = cc
exact_piece_tag_name a0 piece.DeclarationEnd e = cc
exact_piece_tag_name a0 (piece.Doctype b0) e = cc

exact_piece_tag : (a0 : List ℕ) (a1 : List (List ℕ)) (a2 : OpenAttribute) (q : OpenPiece) → (pieces.ghosts).eq (piece.Tag a0 a1 a2) q ≡ true
    → piece.Tag a0 a1 a2 ≡ q
exact_piece_tag a0 a1 a2 piece.Nothing e = cc
exact_piece_tag a0 a1 a2 (piece.Reference b0) e = cc
exact_piece_tag a0 a1 a2 (piece.Opener b0) e = cc
exact_piece_tag a0 a1 a2 (piece.TagName b0) e = cc
exact_piece_tag a0 a1 a2 (piece.Tag b0 b1 b2) e =
    ap (λ (z : List ℕ × (List (List ℕ) × OpenAttribute)). piece.Tag z.0 z.1.0 z.1.1)
    (three exact_bytes exact_lists exact_attribute a0 b0 a1 b1 a2 b2 e)
exact_piece_tag a0 a1 a2 (piece.EmptyEnd b0 b1) e = cc
exact_piece_tag a0 a1 a2 (piece.EndTag b0 b1) e = cc
exact_piece_tag a0 a1 a2 (piece.Comment b0) e = cc
exact_piece_tag a0 a1 a2 (piece.Section b0) e = cc
exact_piece_tag a0 a1 a2 (piece.Target b0) e = cc
exact_piece_tag a0 a1 a2 piece.OtherTarget e = cc
exact_piece_tag a0 a1 a2 piece.BehindTarget e = cc
exact_piece_tag a0 a1 a2 (piece.Instruction b0) e = cc
exact_piece_tag a0 a1 a2 (piece.Declaration b0 b1) e = cc
exact_piece_tag a0 a1 a2 piece.DeclarationEnd e = cc
exact_piece_tag a0 a1 a2 (piece.Doctype b0) e = cc

exact_piece_empty_end : (a0 : List ℕ) (a1 : List (List ℕ)) (q : OpenPiece) → (pieces.ghosts).eq (piece.EmptyEnd a0 a1) q ≡ true
    → piece.EmptyEnd a0 a1 ≡ q
exact_piece_empty_end a0 a1 piece.Nothing e = cc
exact_piece_empty_end a0 a1 (piece.Reference b0) e = cc
exact_piece_empty_end a0 a1 (piece.Opener b0) e = cc
exact_piece_empty_end a0 a1 (piece.TagName b0) e = cc
exact_piece_empty_end a0 a1 (piece.Tag b0 b1 b2) e = cc
exact_piece_empty_end a0 a1 (piece.EmptyEnd b0 b1) e =
    ap (λ (z : List ℕ × List (List ℕ)). piece.EmptyEnd z.0 z.1) (both exact_bytes exact_lists a0 b0 a1 b1 e)
exact_piece_empty_end a0 a1 (piece.EndTag b0 b1) e = cc
exact_piece_empty_end a0 a1 (piece.Comment b0) e = cc
exact_piece_empty_end a0 a1 (piece.Section b0) e = cc
exact_piece_empty_end a0 a1 (piece.Target b0) e = cc
exact_piece_empty_end a0 a1 piece.OtherTarget e = cc
exact_piece_empty_end a0 a1 piece.BehindTarget e = cc
exact_piece_empty_end a0 a1 (piece.Instruction b0) e = cc
exact_piece_empty_end a0 a1 (piece.Declaration b0 b1) e = cc
exact_piece_empty_end a0 a1 piece.DeclarationEnd e = cc
exact_piece_empty_end a0 a1 (piece.Doctype b0) e = cc

exact_piece_end_tag : (a0 : List ℕ) (a1 : Bool) (q : OpenPiece) → (pieces.ghosts).eq (piece.EndTag a0 a1) q ≡ true → piece.EndTag a0 a1 ≡ q
exact_piece_end_tag a0 a1 piece.Nothing e = cc
exact_piece_end_tag a0 a1 (piece.Reference b0) e = cc
exact_piece_end_tag a0 a1 (piece.Opener b0) e = cc
exact_piece_end_tag a0 a1 (piece.TagName b0) e = cc
exact_piece_end_tag a0 a1 (piece.Tag b0 b1 b2) e = cc
exact_piece_end_tag a0 a1 (piece.EmptyEnd b0 b1) e = cc
exact_piece_end_tag a0 a1 (piece.EndTag b0 b1) e =
    ap (λ (z : List ℕ × Bool). piece.EndTag z.0 z.1) (both exact_bytes exact_bool a0 b0 a1 b1 e)
exact_piece_end_tag a0 a1 (piece.Comment b0) e = cc
exact_piece_end_tag a0 a1 (piece.Section b0) e = cc
exact_piece_end_tag a0 a1 (piece.Target b0) e = cc
exact_piece_end_tag a0 a1 piece.OtherTarget e = cc
exact_piece_end_tag a0 a1 piece.BehindTarget e = cc
exact_piece_end_tag a0 a1 (piece.Instruction b0) e = cc
exact_piece_end_tag a0 a1 (piece.Declaration b0 b1) e = cc
exact_piece_end_tag a0 a1 piece.DeclarationEnd e = cc
exact_piece_end_tag a0 a1 (piece.Doctype b0) e = cc

exact_piece_comment : (a0 : ℕ) (q : OpenPiece) → (pieces.ghosts).eq (piece.Comment a0) q ≡ true → piece.Comment a0 ≡ q
exact_piece_comment a0 piece.Nothing e = cc
exact_piece_comment a0 (piece.Reference b0) e = cc
exact_piece_comment a0 (piece.Opener b0) e = cc
exact_piece_comment a0 (piece.TagName b0) e = cc
exact_piece_comment a0 (piece.Tag b0 b1 b2) e = cc
exact_piece_comment a0 (piece.EmptyEnd b0 b1) e = cc
exact_piece_comment a0 (piece.EndTag b0 b1) e = cc
exact_piece_comment a0 (piece.Comment b0) e = ap (λ (z : ℕ). piece.Comment z) (exact_unsigned_eq a0 b0 e)
exact_piece_comment a0 (piece.Section b0) e = cc
exact_piece_comment a0 (piece.Target b0) e = cc
exact_piece_comment a0 piece.OtherTarget e = cc
exact_piece_comment a0 piece.BehindTarget e = cc
exact_piece_comment a0 (piece.Instruction b0) e = cc
exact_piece_comment a0 (piece.Declaration b0 b1) e = cc
exact_piece_comment a0 piece.DeclarationEnd e = cc
exact_piece_comment a0 (piece.Doctype b0) e = cc

exact_piece_section : (a0 : ℕ) (q : OpenPiece) → (pieces.ghosts).eq (piece.Section a0) q ≡ true → piece.Section a0 ≡ q
exact_piece_section a0 piece.Nothing e = cc
exact_piece_section a0 (piece.Reference b0) e = cc
exact_piece_section a0 (piece.Opener b0) e = cc
exact_piece_section a0 (piece.TagName b0) e = cc
exact_piece_section a0 (piece.Tag b0 b1 b2) e = cc
exact_piece_section a0 (piece.EmptyEnd b0 b1) e = cc
exact_piece_section a0 (piece.EndTag b0 b1) e = cc
exact_piece_section a0 (piece.Comment b0) e = cc
exact_piece_section a0 (piece.Section b0) e = ap (λ (z : ℕ). piece.Section z) (exact_unsigned_eq a0 b0 e)
exact_piece_section a0 (piece.Target b0) e = cc
exact_piece_section a0 piece.OtherTarget e = cc
exact_piece_section a0 piece.BehindTarget e = cc
exact_piece_section a0 (piece.Instruction b0) e = cc
exact_piece_section a0 (piece.Declaration b0 b1) e = cc
exact_piece_section a0 piece.DeclarationEnd e = cc
exact_piece_section a0 (piece.Doctype b0) e = cc

exact_piece_target : (a0 : List ℕ) (q : OpenPiece) → (pieces.ghosts).eq (piece.Target a0) q ≡ true → piece.Target a0 ≡ q
exact_piece_target a0 piece.Nothing e = cc
exact_piece_target a0 (piece.Reference b0) e = cc
exact_piece_target a0 (piece.Opener b0) e = cc
exact_piece_target a0 (piece.TagName b0) e = cc
exact_piece_target a0 (piece.Tag b0 b1 b2) e = cc
exact_piece_target a0 (piece.EmptyEnd b0 b1) e = cc
exact_piece_target a0 (piece.EndTag b0 b1) e = cc
exact_piece_target a0 (piece.Comment b0) e = cc
exact_piece_target a0 (piece.Section b0) e = cc
exact_piece_target a0 (piece.Target b0) e = ap (λ (z : List ℕ). piece.Target z) (exact_bytes a0 b0 e)
exact_piece_target a0 piece.OtherTarget e = cc
exact_piece_target a0 piece.BehindTarget e = cc
exact_piece_target a0 (piece.Instruction b0) e = cc
exact_piece_target a0 (piece.Declaration b0 b1) e = cc
exact_piece_target a0 piece.DeclarationEnd e = cc
exact_piece_target a0 (piece.Doctype b0) e = cc

exact_piece_other_target : (q : OpenPiece) → (pieces.ghosts).eq piece.OtherTarget q ≡ true → piece.OtherTarget ≡ q
exact_piece_other_target piece.Nothing e = cc
exact_piece_other_target (piece.Reference b0) e = cc
exact_piece_other_target (piece.Opener b0) e = cc
exact_piece_other_target (piece.TagName b0) e = cc
exact_piece_other_target (piece.Tag b0 b1 b2) e = cc
exact_piece_other_target (piece.EmptyEnd b0 b1) e = cc
exact_piece_other_target (piece.EndTag b0 b1) e = cc
exact_piece_other_target (piece.Comment b0) e = cc
exact_piece_other_target (piece.Section b0) e = cc
exact_piece_other_target (piece.Target b0) e = cc
exact_piece_other_target piece.OtherTarget e = refl
exact_piece_other_target piece.BehindTarget e = cc
exact_piece_other_target (piece.Instruction b0) e = cc
exact_piece_other_target (piece.Declaration b0 b1) e = cc
exact_piece_other_target piece.DeclarationEnd e = cc
exact_piece_other_target (piece.Doctype b0) e = cc

exact_piece_behind_target : (q : OpenPiece) → (pieces.ghosts).eq piece.BehindTarget q ≡ true → piece.BehindTarget ≡ q
exact_piece_behind_target piece.Nothing e = cc
exact_piece_behind_target (piece.Reference b0) e = cc
exact_piece_behind_target (piece.Opener b0) e = cc
exact_piece_behind_target (piece.TagName b0) e = cc
exact_piece_behind_target (piece.Tag b0 b1 b2) e = cc
exact_piece_behind_target (piece.EmptyEnd b0 b1) e = cc
exact_piece_behind_target (piece.EndTag b0 b1) e = cc
exact_piece_behind_target (piece.Comment b0) e = cc
exact_piece_behind_target (piece.Section b0) e = cc
exact_piece_behind_target (piece.Target b0) e = cc
exact_piece_behind_target piece.OtherTarget e = cc
exact_piece_behind_target piece.BehindTarget e = refl
exact_piece_behind_target (piece.Instruction b0) e = cc
exact_piece_behind_target (piece.Declaration b0 b1) e = cc
exact_piece_behind_target piece.DeclarationEnd e = cc
exact_piece_behind_target (piece.Doctype b0) e = cc

exact_piece_instruction : (a0 : Bool) (q : OpenPiece) → (pieces.ghosts).eq (piece.Instruction a0) q ≡ true → piece.Instruction a0 ≡ q
exact_piece_instruction a0 piece.Nothing e = cc
exact_piece_instruction a0 (piece.Reference b0) e = cc
exact_piece_instruction a0 (piece.Opener b0) e = cc
exact_piece_instruction a0 (piece.TagName b0) e = cc
exact_piece_instruction a0 (piece.Tag b0 b1 b2) e = cc
exact_piece_instruction a0 (piece.EmptyEnd b0 b1) e = cc
exact_piece_instruction a0 (piece.EndTag b0 b1) e = cc
exact_piece_instruction a0 (piece.Comment b0) e = cc
exact_piece_instruction a0 (piece.Section b0) e = cc
exact_piece_instruction a0 (piece.Target b0) e = cc
exact_piece_instruction a0 piece.OtherTarget e = cc
exact_piece_instruction a0 piece.BehindTarget e = cc
exact_piece_instruction a0 (piece.Instruction b0) e = ap (λ (z : Bool). piece.Instruction z) (exact_bool a0 b0 e)
exact_piece_instruction a0 (piece.Declaration b0 b1) e = cc
exact_piece_instruction a0 piece.DeclarationEnd e = cc
exact_piece_instruction a0 (piece.Doctype b0) e = cc

exact_piece_declaration : (a0 : List (List ℕ)) (a1 : OpenAttribute) (q : OpenPiece) → (pieces.ghosts).eq (piece.Declaration a0 a1) q ≡ true
    → piece.Declaration a0 a1 ≡ q
exact_piece_declaration a0 a1 piece.Nothing e = cc
exact_piece_declaration a0 a1 (piece.Reference b0) e = cc
exact_piece_declaration a0 a1 (piece.Opener b0) e = cc
exact_piece_declaration a0 a1 (piece.TagName b0) e = cc
exact_piece_declaration a0 a1 (piece.Tag b0 b1 b2) e = cc
exact_piece_declaration a0 a1 (piece.EmptyEnd b0 b1) e = cc
exact_piece_declaration a0 a1 (piece.EndTag b0 b1) e = cc
exact_piece_declaration a0 a1 (piece.Comment b0) e = cc
exact_piece_declaration a0 a1 (piece.Section b0) e = cc
exact_piece_declaration a0 a1 (piece.Target b0) e = cc
exact_piece_declaration a0 a1 piece.OtherTarget e = cc
exact_piece_declaration a0 a1 piece.BehindTarget e = cc
exact_piece_declaration a0 a1 (piece.Instruction b0) e = cc
exact_piece_declaration a0 a1 (piece.Declaration b0 b1) e =
    ap (λ (z : List (List ℕ) × OpenAttribute). piece.Declaration z.0 z.1) (both exact_lists exact_attribute a0 b0 a1 b1 e)
exact_piece_declaration a0 a1 piece.DeclarationEnd e = cc
exact_piece_declaration a0 a1 (piece.Doctype b0) e = cc

exact_piece_declaration_end : (q : OpenPiece) → (pieces.ghosts).eq piece.DeclarationEnd q ≡ true → piece.DeclarationEnd ≡ q
exact_piece_declaration_end piece.Nothing e = cc
exact_piece_declaration_end (piece.Reference b0) e = cc
exact_piece_declaration_end (piece.Opener b0) e = cc
exact_piece_declaration_end (piece.TagName b0) e = cc
exact_piece_declaration_end (piece.Tag b0 b1 b2) e = cc
exact_piece_declaration_end (piece.EmptyEnd b0 b1) e = cc
exact_piece_declaration_end (piece.EndTag b0 b1) e = cc
exact_piece_declaration_end (piece.Comment b0) e = cc
exact_piece_declaration_end (piece.Section b0) e = cc
exact_piece_declaration_end (piece.Target b0) e = cc
exact_piece_declaration_end piece.OtherTarget e = cc
exact_piece_declaration_end piece.BehindTarget e = cc
exact_piece_declaration_end (piece.Instruction b0) e = cc
exact_piece_declaration_end (piece.Declaration b0 b1) e = cc
exact_piece_declaration_end piece.DeclarationEnd e = refl
exact_piece_declaration_end (piece.Doctype b0) e = cc

exact_piece_doctype : (a0 : OpenDoctype) (q : OpenPiece) → (pieces.ghosts).eq (piece.Doctype a0) q ≡ true → piece.Doctype a0 ≡ q
exact_piece_doctype a0 piece.Nothing e = cc
exact_piece_doctype a0 (piece.Reference b0) e = cc
exact_piece_doctype a0 (piece.Opener b0) e = cc
exact_piece_doctype a0 (piece.TagName b0) e = cc
exact_piece_doctype a0 (piece.Tag b0 b1 b2) e = cc
exact_piece_doctype a0 (piece.EmptyEnd b0 b1) e = cc
exact_piece_doctype a0 (piece.EndTag b0 b1) e = cc
exact_piece_doctype a0 (piece.Comment b0) e = cc
exact_piece_doctype a0 (piece.Section b0) e = cc
exact_piece_doctype a0 (piece.Target b0) e = cc
exact_piece_doctype a0 piece.OtherTarget e = cc
exact_piece_doctype a0 piece.BehindTarget e = cc
exact_piece_doctype a0 (piece.Instruction b0) e = cc
exact_piece_doctype a0 (piece.Declaration b0 b1) e = cc
exact_piece_doctype a0 piece.DeclarationEnd e = cc
exact_piece_doctype a0 (piece.Doctype b0) e = ap (λ (z : OpenDoctype). piece.Doctype z) (exact_doctype a0 b0 e)

-- open pieces that are found equal are one
pub exact_piece : (a b : OpenPiece) → (pieces.ghosts).eq a b ≡ true → a ≡ b
exact_piece piece.Nothing q e = exact_piece_nothing q e
exact_piece (piece.Reference a0) q e = exact_piece_reference a0 q e
exact_piece (piece.Opener a0) q e = exact_piece_opener a0 q e
exact_piece (piece.TagName a0) q e = exact_piece_tag_name a0 q e
exact_piece (piece.Tag a0 a1 a2) q e = exact_piece_tag a0 a1 a2 q e
exact_piece (piece.EmptyEnd a0 a1) q e = exact_piece_empty_end a0 a1 q e
exact_piece (piece.EndTag a0 a1) q e = exact_piece_end_tag a0 a1 q e
exact_piece (piece.Comment a0) q e = exact_piece_comment a0 q e
exact_piece (piece.Section a0) q e = exact_piece_section a0 q e
exact_piece (piece.Target a0) q e = exact_piece_target a0 q e
exact_piece piece.OtherTarget q e = exact_piece_other_target q e
exact_piece piece.BehindTarget q e = exact_piece_behind_target q e
exact_piece (piece.Instruction a0) q e = exact_piece_instruction a0 q e
exact_piece (piece.Declaration a0 a1) q e = exact_piece_declaration a0 a1 q e
exact_piece piece.DeclarationEnd q e = exact_piece_declaration_end q e
exact_piece (piece.Doctype a0) q e = exact_piece_doctype a0 q e
