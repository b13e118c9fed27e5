-- Instructions.
use Rattle.std.proofs.Common.{◌≡◌, ◌⊎◌, inl, inr, ℕ, ◌<◌, Bool, true, false, List, [], ◌∷◌, ◌++◌, refl, sym, ◌∙◌, ap, subst, arith}
use Rattle.std.specs.Prelude.{nat_eq, nat_lt, not, ◌==◌, ◌&&◌, ◌||◌, codes, bytes_eq}
use Rattle.std.specs.Char.{to_ascii_lowercase}
use Rattle.std.specs.List.{list_all, starts_with}
use Rattle.std.specs.Str.{str_eq_ignore_ascii_case, str_to_ascii_lowercase}
use Rattle.std.proofs.lemmas.Bool.{and_parts, and_from, and_left, and_right, or_parts, or_from, not-true, not_from_false}
use Rattle.std.proofs.lemmas.Bool.Decides.{nat_tests}
use Rattle.xml_text.specs.Characters.{is_blank, is_character}
use Rattle.xml_text.specs.Names.{begins_name, in_name, is_name}
use Rattle.xml_text.specs.Texts.{holds}
use Rattle.page_model.specs.Parts.{instruction, IsInstruction, begins_blank}
use Rattle.page_model.specs.Pieces.{Piece, leaf, piece_then}
use Rattle.page_forms.specs.Laws.{InstructionsAreSpelled}
use Rattle.page_forms.specs.Remarks.{instruction_form, target_form, not_behind, is_letter}
use Rattle.page_forms.proofs.NameForms.{spells_class, spells_in_name, spells_blank, spells_empty, FirstAnd, spells_first_and, name_small, begins_small, begins_in}
use Rattle.page_forms.proofs.Spelling.{Spells, One, Chained, spells_chain, spells_either, spells_word, spells_as, is_form_of}
use Rattle.page_forms.proofs.UpTo.{UpTo, IsMark, spells_up_to}

-- The target.

-- what follows in a name, and is not this word in any case
record IsNot (word cs : List ℕ) : Type 0 where
  names : list_all in_name cs ≡ true
  other : str_eq_ignore_ascii_case cs word ≡ false

letter_small : (w c : ℕ) → (let z : ℕ = to_ascii_lowercase w in nat_lt 96 z && nat_lt z 123) ≡ true → is_letter w c ≡ true → c < 128
letter_small w c l h = grind (arith, nat_tests)

letter_named : (w c : ℕ) → (let z : ℕ = to_ascii_lowercase w in nat_lt 96 z && nat_lt z 123) ≡ true → is_letter w c ≡ true → begins_name c ≡ true
letter_named w c l h = grind (arith, nat_tests)

nil_into : (cs : List ℕ) → FirstAnd in_name in_name cs → IsNot [] cs
nil_into cs f = subst (IsNot []) f.is (record { names = and_from (in_name f.head) (list_all in_name f.tail) f.head_passes f.tail_passes; other = refl })

nil_from : (cs : List ℕ) → IsNot [] cs → FirstAnd in_name in_name cs
nil_from [] n = absurd (no n.other)
  where
    no : true ≡ false → ⊥
    no e = cc
nil_from (c ∷ cs) n = let p = and_parts (in_name c) (list_all in_name cs) n.names in record { head = c; tail = cs; head_passes = p.0; tail_passes = p.1; is = refl }

abbrev Letters : ℕ → List ℕ → List ℕ → Type 0
Letters w ws cs = ([] ≡ cs) ⊎ (FirstAnd (λ c. in_name c && not (is_letter w c)) in_name cs ⊎ Chained (One (is_letter w)) (IsNot ws) cs)

-- a letter of ASCII
abbrev IsLetter : ℕ → Type 0
IsLetter w = (let z : ℕ = to_ascii_lowercase w in nat_lt 96 z && nat_lt z 123) ≡ true

more_into : (w : ℕ) (ws : List ℕ) → IsLetter w → (cs : List ℕ) → Letters w ws cs → IsNot (w ∷ ws) cs
more_into w ws l cs (inl e) = subst (IsNot (w ∷ ws)) e (record { names = refl; other = refl })
more_into w ws l cs (inr (inl f)) =
    let p = and_parts (in_name f.head) (not (is_letter w f.head)) f.head_passes in
    subst (IsNot (w ∷ ws)) f.is (record {
      names = and_from (in_name f.head) (list_all in_name f.tail) p.0 f.tail_passes;
      other = and_left (is_letter w f.head) (bytes_eq (str_to_ascii_lowercase f.tail) (str_to_ascii_lowercase ws)) (not-true (is_letter w f.head) p.1);
    })
more_into w ws l cs (inr (inr k)) =
    let o = k.begins in
    let n = k.goes_on in
    subst (IsNot (w ∷ ws)) (ap (λ (z : List ℕ). z ++ k.second) o.is ∙ k.is) (record {
      names = and_from (in_name o.character) (list_all in_name k.second) (begins_in o.character (letter_named w o.character l o.passes)) n.names;
      other = and_right (is_letter w o.character) (bytes_eq (str_to_ascii_lowercase k.second) (str_to_ascii_lowercase ws)) n.other;
    })

more_from : (w : ℕ) (ws cs : List ℕ) → IsNot (w ∷ ws) cs → Letters w ws cs
more_from w ws [] n = inl refl
more_from w ws (c ∷ cs) n = at (is_letter w c) refl n.other
  where
    p : (in_name c ≡ true) × (list_all in_name cs ≡ true)
    p = and_parts (in_name c) (list_all in_name cs) n.names

    at : (b : Bool) → is_letter w c ≡ b → (b && bytes_eq (str_to_ascii_lowercase cs) (str_to_ascii_lowercase ws)) ≡ false → Letters w ws (c ∷ cs)
    at true e h = inr (inr (record {
      first = c ∷ [];
      second = cs;
      begins = record { character = c; passes = e; is = refl };
      goes_on = record { names = p.1; other = h };
      is = refl;
    }))
    at false e h = inr (inl (record { head = c; tail = cs; head_passes = and_from (in_name c) (not (is_letter w c)) p.0 (not_from_false (is_letter w c) e); tail_passes = p.1; is = refl }))

other_small : (w c : ℕ) → (in_name c && not (is_letter w c)) ≡ true → c < 128
other_small w c h = name_small c (and_parts (in_name c) (not (is_letter w c)) h).0

spells_nil : Spells (not_behind []) (IsNot [])
spells_nil = spells_as (spells_first_and spells_in_name spells_in_name) nil_into nil_from

spells_more : (w : ℕ) (ws : List ℕ) → IsLetter w → Spells (not_behind ws) (IsNot ws) → Spells (not_behind (w ∷ ws)) (IsNot (w ∷ ws))
spells_more w ws l s =
    spells_as
    (spells_either spells_empty (spells_either (spells_first_and (spells_class (λ c. in_name c && not (is_letter w c)) (other_small w)) spells_in_name) (spells_chain (spells_class (is_letter w) (λ c h. letter_small w c l h)) s)))
    (more_into w ws l) (more_from w ws)

-- a name, but not `xml` in any case
pub record IsTarget (cs : List ℕ) : Type 0 where
  pub named : is_name cs ≡ true
  pub not_reserved : str_eq_ignore_ascii_case cs (codes "xml") ≡ false

abbrev Targets : List ℕ → Type 0
Targets cs = FirstAnd (λ c. begins_name c && not (is_letter 120 c)) in_name cs ⊎ Chained (One (is_letter 120)) (IsNot (codes "ml")) cs

target_into : (cs : List ℕ) → Targets cs → IsTarget cs
target_into cs (inl f) =
    let p = and_parts (begins_name f.head) (not (is_letter 120 f.head)) f.head_passes in
    subst IsTarget f.is (record {
      named = and_from (begins_name f.head) (list_all in_name f.tail) p.0 f.tail_passes;
      not_reserved = and_left (is_letter 120 f.head) (bytes_eq (str_to_ascii_lowercase f.tail) (codes "ml")) (not-true (is_letter 120 f.head) p.1);
    })
target_into cs (inr k) =
    let o = k.begins in
    let n = k.goes_on in
    subst IsTarget (ap (λ (z : List ℕ). z ++ k.second) o.is ∙ k.is) (record {
      named = and_from (begins_name o.character) (list_all in_name k.second) (letter_named 120 o.character refl o.passes) n.names;
      not_reserved = and_right (is_letter 120 o.character) (bytes_eq (str_to_ascii_lowercase k.second) (codes "ml")) n.other;
    })

target_from : (cs : List ℕ) → IsTarget cs → Targets cs
target_from [] t = absurd (no t.named)
  where
    no : false ≡ true → ⊥
    no e = cc
target_from (c ∷ cs) t = at (is_letter 120 c) refl t.not_reserved
  where
    p : (begins_name c ≡ true) × (list_all in_name cs ≡ true)
    p = and_parts (begins_name c) (list_all in_name cs) t.named

    at : (b : Bool) → is_letter 120 c ≡ b → (b && bytes_eq (str_to_ascii_lowercase cs) (codes "ml")) ≡ false → Targets (c ∷ cs)
    at true e h = inr (record { first = c ∷ []; second = cs; begins = record { character = c; passes = e; is = refl }; goes_on = record { names = p.1; other = h }; is = refl })
    at false e h = inl (record { head = c; tail = cs; head_passes = and_from (begins_name c) (not (is_letter 120 c)) p.0 (not_from_false (is_letter 120 c) e); tail_passes = p.1; is = refl })

other_begins : (c : ℕ) → (begins_name c && not (is_letter 120 c)) ≡ true → c < 128
other_begins c h = begins_small c (and_parts (begins_name c) (not (is_letter 120 c)) h).0

spells_target : Spells target_form IsTarget
spells_target =
    spells_as
    (spells_either (spells_first_and (spells_class (λ c. begins_name c && not (is_letter 120 c)) other_begins) spells_in_name)
    (spells_chain (spells_class (is_letter 120) (λ c h. letter_small 120 c refl h)) (spells_more 109 (codes "l") refl (spells_more 108 [] refl spells_nil))))
    target_into target_from

-- What stands behind the target.

-- nothing, or white space and more, up to the first `?>`
record Behind (cs : List ℕ) : Type 0 where
  text : List ℕ
  apart : begins_blank text ≡ true
  characters : list_all is_character text ≡ true
  no_end : holds (codes "?>") text ≡ false
  is : text ++ codes "?>" ≡ cs

abbrev Rests : List ℕ → Type 0
Rests cs = (codes "?>" ≡ cs) ⊎ Chained (One is_blank) (UpTo 63 1) cs

blank_character : (c : ℕ) → is_blank c ≡ true → is_character c ≡ true
blank_character c h = grind (arith, nat_tests)

blank_other : (c : ℕ) → is_blank c ≡ true → nat_eq 63 c ≡ false
blank_other c h = grind (arith, nat_tests)

rest_into : (cs : List ℕ) → Rests cs → Behind cs
rest_into cs (inl e) = record { text = []; apart = refl; characters = refl; no_end = refl; is = e }
rest_into cs (inr k) =
    let o = k.begins in
    let u = k.goes_on in
    record {
      text = o.character ∷ u.text;
      apart = o.passes;
      characters = and_from (is_character o.character) (list_all is_character u.text) (blank_character o.character o.passes) u.characters;
      no_end = or_from (starts_with nat_eq (o.character ∷ u.text) (codes "?>")) (holds (codes "?>") u.text)
          (and_left (nat_eq 63 o.character) (starts_with nat_eq u.text (codes ">")) (blank_other o.character o.passes)) u.no_end;
      is = ap (λ (z : List ℕ). o.character ∷ z) u.is ∙ ap (λ (z : List ℕ). z ++ k.second) o.is ∙ k.is;
    }

rest_from : (cs : List ℕ) → Behind cs → Rests cs
rest_from cs b = at b.text b.apart b.characters b.no_end b.is
  where
    at : (text : List ℕ) → begins_blank text ≡ true → list_all is_character text ≡ true → holds (codes "?>") text ≡ false → text ++ codes "?>" ≡ cs → Rests cs
    at [] a c n i = inl i
    at (d ∷ text) a c n i = inr (record {
      first = d ∷ [];
      second = text ++ codes "?>";
      begins = record { character = d; passes = a; is = refl };
      goes_on = record {
        text = text;
        characters = (and_parts (is_character d) (list_all is_character text) c).1;
        no_end = (or_parts (starts_with nat_eq (d ∷ text) (codes "?>")) (holds (codes "?>") text) n).1;
        is = refl;
      };
      is = i;
    })

pub question : IsMark 63
question = record { small = omega arith; ascii = refl; character = refl; other = refl }

abbrev Parts : List ℕ → Type 0
Parts = Chained (λ cs. codes "<?" ≡ cs) (Chained IsTarget Behind)

abbrev IsOne : Piece → Type 0
IsOne p = (target : List ℕ) × (text : List ℕ) × (p ≡ leaf (instruction target text)) × IsInstruction target text

into : (cs : List ℕ) → Parts cs → (p : Piece) × IsOne p × (piece_then p [] ≡ cs)
into cs c =
    let k = c.goes_on in
    let t = k.begins in
    let b = k.goes_on in
    let i : IsInstruction k.first b.text = record { named = t.named; not_reserved = t.not_reserved; apart = b.apart; characters = b.characters; no_end = b.no_end } in (
      leaf (instruction k.first b.text),
      (k.first, b.text, refl, i),
      ap (λ (z : List ℕ). z ++ (k.first ++ (b.text ++ codes "?>"))) c.begins ∙ ap (λ (z : List ℕ). c.first ++ z) (ap (λ (z : List ℕ). k.first ++ z) b.is ∙ k.is) ∙ c.is,
    )

from : (cs : List ℕ) → ((p : Piece) × IsOne p × (piece_then p [] ≡ cs)) → Parts cs
from cs q = at q.0 q.1.0 q.1.1 q.1.2 q.1.3 q.2
  where
    at : (p : Piece) (target text : List ℕ) → p ≡ leaf (instruction target text) → IsInstruction target text → piece_then p [] ≡ cs → Parts cs
    at p target text e s i = record {
      first = codes "<?";
      second = target ++ (text ++ codes "?>");
      begins = refl;
      goes_on = record {
        first = target;
        second = text ++ codes "?>";
        begins = record { named = s.named; not_reserved = s.not_reserved };
        goes_on = record { text = text; apart = s.apart; characters = s.characters; no_end = s.no_end; is = refl };
        is = refl;
      };
      is = sym (ap (λ (z : Piece). piece_then z []) e) ∙ i;
    }

pub instructions_are_spelled : InstructionsAreSpelled
unfolding instruction_form
instructions_are_spelled =
    is_form_of (spells_as (spells_chain (spells_word (codes "<?") refl) (spells_chain spells_target (spells_as (spells_either (spells_word (codes "?>") refl) (spells_chain spells_blank (spells_up_to 63 0 question refl))) rest_into rest_from))) into from)
