-- The definitions on small data, with near misses.
use Rattle.std.proofs.Common.{◌≡◌, ℕ, true, false, List, [], ◌∷◌, None, refl, arith}
use Rattle.text_base.specs.declared.byte_range.ByteRange.{ByteRange}
use Rattle.cfg_grammar.specs.declared.symbol.Symbol.TheVariants.{Range, Nt}
use Rattle.cfg_grammar.specs.declared.production.Right.TheVariants.{Empty, One, Two}
use Rattle.least_sets.specs.Forms.{Form, text_form, same_form, join_form, before_form, where_form, yes_form}
use Rattle.given_texts.specs.Closed.{Closed}
use Rattle.system_writing.specs.Forms.{all_names, text_bytes, form_of}
use Rattle.system_writing.specs.declared.rows.RowForm.TheVariants.{Before, Where}
use Rattle.system_writing.specs.Rights.{text_right, before_right}
use Rattle.system_writing.specs.Parts.{Part, start_part, set_part, end_part, PartRow}
use Rattle.system_writing.specs.Written.{Denotes, IsRight}
use Rattle.system_writing.specs.Drafts.{IsAt, is_where}

-- a row in memory, and what it counts
a_text_before : form_of (Before (97 ∷ 98 ∷ []) 7) ≡ before_form (97 ∷ 98 ∷ []) 7
a_text_before = refl

two_bytes : text_bytes (form_of (Before (97 ∷ 98 ∷ []) 7)) ≡ 2
two_bytes = refl

-- a set of which a row only asks whether it says yes is named all the same
asked_too : all_names (form_of (Where (97 ∷ []) 4)) ≡ 4 ∷ []
asked_too = refl

-- such a row waits, one that says yes does not
waits : is_where {N = ℕ} (where_form [] 4) ≡ true
unfolding is_where
waits = refl

does_not_wait : is_where {N = ℕ} yes_form ≡ false
unfolding is_where
does_not_wait = refl

-- no text has nothing on the right; before a set it leaves the set alone
nothing : text_right None ≡ Empty
nothing = refl

set_alone : before_right None 5 ≡ One (Nt (record { 0 = 5 }))
set_alone = refl

-- three nonterminals: the start, the set of name 9, and the text `ab`
abbrev parts : List (Part ℕ)
parts = start_part ∷ set_part 9 ∷ end_part (97 ∷ 98 ∷ []) ∷ []

abbrev a : ByteRange
a = record { lo = 97; hi = 97; ordered = omega arith }

the_set : Denotes parts (set_part 9) (Nt (record { 0 = 1 }))
the_set = Denotes.listed (set_part 9) (record { 0 = 1 }) refl

-- a range stands for a text of one byte, and for no longer one
one_byte : Denotes parts (end_part (97 ∷ [])) (Range a)
one_byte = Denotes.byte 97 a refl refl

not_two_bytes : Denotes parts (end_part (97 ∷ 98 ∷ [])) (Range a) → ⊥
not_two_bytes d = elim d [ ]

-- `a` before the set of name 9 is the range and the nonterminal
before_the_set : IsRight parts (join_form (end_part (97 ∷ [])) (set_part 9)) (Two (Range a) (Nt (record { 0 = 1 })))
before_the_set = IsRight.two (end_part (97 ∷ [])) (set_part 9) (Range a) (Nt (record { 0 = 1 })) one_byte the_set

-- the nonterminal of a name stands at the place of the name
at_seven : IsAt {N = ℕ} (9 ∷ 8 ∷ []) (1 ∷ 7 ∷ []) 8 7
at_seven = record { place = 1; name = refl; number = refl }

-- the start takes over the sets to begin with, and no others
no_other : (table : ℕ → Form ℕ → Type 0) (says : ℕ → Type 0) (closed : Closed) → PartRow table (λ n. n ≡ 9) says closed start_part (same_form (set_part 8)) → ⊥
no_other table says closed (PartRow.start _ is) = cc

-- a row that asks whether a set says yes is there only where it does
not_said : (table : ℕ → Form ℕ → Type 0) (closed : Closed) → ((f : Form ℕ) → table 3 f → f ≡ where_form [] 4) → PartRow table (λ n. ⊥) (λ n. ⊥) closed (set_part 3) (text_form []) → ⊥
not_said table closed only (PartRow.nothing _ row) = absurd (let e = only (text_form []) row in cc)
not_said table closed only (PartRow.where_nothing _ j row said) = said
