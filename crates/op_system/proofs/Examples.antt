-- What operations relate and what not.
use Rattle.std.proofs.Common.{◌≡◌, ◌≢◌, ℕ, pos, negsuc, None, Some, true, false, List, [], ◌∷◌, codes, refl, ap, arith}
use Rattle.std.specs.Str.{is_utf8, chars}
use Rattle.std.specs.Prelude.{slice_index}
use Rattle.std.proofs.lemmas.Str.{is_utf8-from_IsUtf8}
use Rattle.std.proofs.lemmas.Bool.{false≢true}
use Rattle.string_functions.specs.Cut.{IsFactor}
use Rattle.op_system.specs.declared.op.Op.TheVariants.{Same, Any, Html, Replace, Cut, Factor, Trim, Breaks, Piece}
use Rattle.op_system.specs.Rel.{Rel}
use Rattle.op_system.specs.Size.{size_of}

replaces_the_leftmost : Rel (Replace (codes "aa") (codes "b")) (codes "aaa") (codes "ba")
replaces_the_leftmost = refl

replaces_not_the_last : Rel (Replace (codes "aa") (codes "b")) (codes "aaa") (codes "ab") → ⊥
replaces_not_the_last h = let first : 97 ≡ 98 = ap (λ (text : List ℕ). slice_index text 0) h in absurd (omega (arith, first))

cuts_from_the_end : Rel (Cut (negsuc 1) None) (codes "abc") (codes "bc")
cuts_from_the_end = refl

-- CR LF is one line end
breaks_once : Rel Breaks (13 ∷ 10 ∷ []) (60 ∷ 98 ∷ 114 ∷ 32 ∷ 47 ∷ 62 ∷ 13 ∷ 10 ∷ [])
breaks_once = refl

has_the_middle_piece : Rel (Piece (codes ",")) (codes "a,b,c") (codes "b")
has_the_middle_piece = (1, omega arith, refl)

has_the_part : Rel Factor (codes "abc") (codes "b")
has_the_part = record { before = codes "a"; after = codes "c"; whole = refl }

keeps_the_inner_blank : Rel (Trim true true) (codes " a b ") (codes "a b")
keeps_the_inner_blank = refl

escapes_no_single_byte_from_0x80_on : Rel Html (128 ∷ []) (128 ∷ []) → ⊥
unfolding is_utf8 chars
escapes_no_single_byte_from_0x80_on h = let test : is_utf8 (128 ∷ []) ≡ true = is_utf8-from_IsUtf8 (128 ∷ []) h.0 in false≢true test

relates_nothing_by_itself : Rel Any (codes "a") (codes "a") → ⊥
relates_nothing_by_itself h = h

counts_bytes_and_numbers : size_of (Cut (negsuc 2) (Some (pos 4))) ≡ 7
counts_bytes_and_numbers = refl
