-- What is read is spelled so, and is a piece where its parts are right.
use Rattle.std.proofs.Common.{◌≡◌, ℕ, Bool, true, false, not, ◌&&◌, ◌||◌, List, [], ◌∷◌, ◌++◌, Option, Some, None, refl, sym, ◌∙◌, ap, subst}
use Rattle.std.specs.Prelude.{if◌then◌else◌, nat_eq, codes, ◌≢◌, bytes_eq}
use Rattle.std.specs.List.{list_all}
use Rattle.std.specs.Str.{str_eq_ignore_ascii_case}
use Rattle.std.proofs.lemmas.Bool.{and_parts, and_from, not-true, eqb-true}
use Rattle.std.proofs.lemmas.Slice.Eq.{bytes_eq-Decides}
use Rattle.xml_text.specs.Characters.{is_blank, is_character}
use Rattle.xml_text.specs.Names.{is_name, in_public_identifier}
use Rattle.dtd_model.specs.References.{decimal, hexadecimal, entity, reference_then, is_some}
use Rattle.page_model.specs.Parts.{Attribute, attributes_then, Tag, tag_then, IsTag, character, reference, section, comment, instruction, is_plain, numbered, reference_of, begins_blank}
use Rattle.page_model.specs.Prolog.{Declaration, Literal, literal_then, IsLiteral, Identifier, no_identifier, system, public, identifier_then, IsIdentifier, IsSpace, is_in_order}
use Rattle.page_model.specs.Pieces.{Piece, mark, declaration, doctype, start_tag, empty_tag, end_tag, leaf, piece_then, IsPiece}
use Rattle.page_model.specs.Places.{Place, at_beginning, behind_mark, behind, is_early}
use Rattle.page_model.specs.Scan.{front, beyond, strip, until, then_some, is_other}
use Rattle.page_model.specs.Reading.{name_at, quoted_at, all_attributes, tag_end, tag_with, open_at, end_at, reference_at, comment_at, section_at, instruction_at, declaration_at, question_at, doctype_end, system_at, second_at, public_at, identifier_by, identifier_at, doctype_at, bang_by, bang_at, markup_at, single_at, piece_at}
use Rattle.page_model.specs.Right.{attribute_is_right, literal_is_right, identifier_is_right, is_right}
use Rattle.page_model.proofs.ScanLemmas.{came, front_beyond, front_all, strip_is}
use Rattle.page_model.proofs.UntilLemmas.{until_is, holds_not, comment_not}
use Rattle.page_model.proofs.AttributeLemmas.{name_is, IsNameAt, quoted_is, IsQuotedAt, all_are, AreAt}

-- a piece was read, if it is right
pub record IsAt (place : Place) (cs : List ℕ) (p : Piece) (rest : List ℕ) : Type 0 where
  pub is : piece_then p rest ≡ cs
  pub right : is_right place p ≡ true → IsPiece place p

abbrev Both : Type 0
Both = Piece × List ℕ

given : (a b : Both) → Some a ≡ Some b → a ≡ b
given a b e = cc

-- what was read is the pair that was given
moved : (place : Place) (cs : List ℕ) (a z : Both) → Some a ≡ Some z → IsAt place cs a.0 a.1 → IsAt place cs z.0 z.1
moved place cs a z e h = subst (λ (z : Both). IsAt place cs z.0 z.1) (given a z e) h

tag_is : (cs name : List ℕ) (xs : List Attribute) (rest all : List ℕ) → is_name name ≡ true → name ++ all ≡ cs → AreAt all xs rest
    → (tag : Tag) × (tag ≡ record { name = name; attributes = xs; space = front is_blank rest }) × (tag_then tag (beyond is_blank rest) ≡ cs) × (list_all attribute_is_right xs ≡ true → IsTag tag)
tag_is cs name xs rest all named is at = (
  record { name = name; attributes = xs; space = front is_blank rest },
  refl,
  ap (λ (w : List ℕ). name ++ attributes_then xs w) (front_beyond is_blank rest) ∙ ap (λ (w : List ℕ). name ++ w) at.is ∙ is,
  λ h. record { named = named; attributes = at.right h; blank_space = front_all is_blank rest },
)

tag_end_is : (place : Place) (tag : Tag) (ds cs : List ℕ) (z : Both) → tag_then tag ds ≡ cs → (list_all attribute_is_right tag.attributes ≡ true → IsTag tag) → tag_end tag ds ≡ Some z → IsAt place (60 ∷ cs) z.0 z.1
tag_end_is place tag [] cs z is right e = cc
tag_end_is place tag (c ∷ ds) cs z is right e = at (nat_eq c 62) refl (nat_eq c 47) refl e
  where
    at : (x : Bool) → nat_eq c 62 ≡ x → (y : Bool) → nat_eq c 47 ≡ y → (if x then (let a : Both = (start_tag tag, ds) in Some a) else (if y then then_some (strip (codes ">") ds) (λ rest. let a : Both = (empty_tag tag, rest) in Some a) else None)) ≡ Some z → IsAt place (60 ∷ cs) z.0 z.1
    at true f y g q =
        let sign : c ≡ 62 = eqb-true c 62 f in
        moved place (60 ∷ cs) (start_tag tag, ds) z q (record { is = ap (λ (xs : List ℕ). 60 ∷ xs) (ap (λ (x : ℕ). tag_then tag (x ∷ ds)) (sym sign) ∙ is); right = right })
    at false f true g q =
        let sign : c ≡ 47 = eqb-true c 47 g in
        let m = came (strip (codes ">") ds) (λ rest. let a : Both = (empty_tag tag, rest) in Some a) z q in
        let end = strip_is (codes ">") ds m.from m.was in
        moved place (60 ∷ cs) (empty_tag tag, m.from) z m.gives (record {
          is = ap (λ (xs : List ℕ). 60 ∷ xs) (ap (λ (xs : List ℕ). tag_then tag (47 ∷ xs)) end ∙ ap (λ (x : ℕ). tag_then tag (x ∷ ds)) (sym sign) ∙ is);
          right = right;
        })
    at false f false g q = cc

open_is : (place : Place) (cs : List ℕ) (z : Both) → open_at cs ≡ Some z → IsAt place (60 ∷ cs) z.0 z.1
unfolding open_at
open_is place cs z e =
    let n = came (name_at cs) (λ n. tag_with n.0 (all_attributes n.1).0 (all_attributes n.1).1) z e in
    let ni = name_is cs n.from n.was in
    let t = tag_is cs n.from.0 (all_attributes n.from.1).0 (all_attributes n.from.1).1 n.from.1 ni.named ni.is (all_are n.from.1) in
    let tag : Tag = record { name = n.from.0; attributes = (all_attributes n.from.1).0; space = front is_blank (all_attributes n.from.1).1 } in
    tag_end_is place tag (beyond is_blank (all_attributes n.from.1).1) cs z (subst (λ (t : Tag). tag_then t (beyond is_blank (all_attributes n.from.1).1) ≡ cs) t.1 t.2) (subst (λ (x : Tag). list_all attribute_is_right (all_attributes n.from.1).0 ≡ true → IsTag x) t.1 t.3) n.gives

end_is : (place : Place) (cs : List ℕ) (z : Both) → end_at cs ≡ Some z → IsAt place (60 ∷ 47 ∷ cs) z.0 z.1
unfolding end_at
end_is place cs z e =
    let n = came (name_at cs) (λ n. then_some (strip (codes ">") (beyond is_blank n.1)) (λ rest. let a : Both = (end_tag n.0 (front is_blank n.1), rest) in Some a)) z e in
    let ni = name_is cs n.from n.was in
    let m = came (strip (codes ">") (beyond is_blank n.from.1)) (λ rest. let a : Both = (end_tag n.from.0 (front is_blank n.from.1), rest) in Some a) z n.gives in
    let end = strip_is (codes ">") (beyond is_blank n.from.1) m.from m.was in
    moved place (60 ∷ 47 ∷ cs) (end_tag n.from.0 (front is_blank n.from.1), m.from) z m.gives (record {
      is = ap (λ (xs : List ℕ). 60 ∷ 47 ∷ xs) (ap (λ (xs : List ℕ). n.from.0 ++ (front is_blank n.from.1 ++ xs)) end ∙ ap (λ (xs : List ℕ). n.from.0 ++ xs) (front_beyond is_blank n.from.1) ∙ ni.is);
      right = λ h. (ni.named, front_all is_blank n.from.1);
    })

-- References.

numbered_then : (cs rest : List ℕ) → reference_then (numbered cs) rest ≡ 38 ∷ 35 ∷ (cs ++ 59 ∷ rest)
numbered_then [] rest = refl
numbered_then (c ∷ cs) rest = at (nat_eq c 120) refl
  where
    at : (b : Bool) → nat_eq c 120 ≡ b → reference_then (if b then hexadecimal cs else decimal (c ∷ cs)) rest ≡ 38 ∷ 35 ∷ c ∷ (cs ++ 59 ∷ rest)
    at true e = ap (λ (x : ℕ). 38 ∷ 35 ∷ x ∷ (cs ++ 59 ∷ rest)) (sym (eqb-true c 120 e))
    at false e = refl

reference_of_then : (cs rest : List ℕ) → reference_then (reference_of cs) rest ≡ 38 ∷ (cs ++ 59 ∷ rest)
reference_of_then [] rest = refl
reference_of_then (c ∷ cs) rest = at (nat_eq c 35) refl
  where
    at : (b : Bool) → nat_eq c 35 ≡ b → reference_then (if b then numbered cs else entity (c ∷ cs)) rest ≡ 38 ∷ c ∷ (cs ++ 59 ∷ rest)
    at true e = numbered_then cs rest ∙ ap (λ (x : ℕ). 38 ∷ x ∷ (cs ++ 59 ∷ rest)) (sym (eqb-true c 35 e))
    at false e = refl

ampersand_is : (place : Place) (cs : List ℕ) (z : Both) → reference_at cs ≡ Some z → IsAt place (38 ∷ cs) z.0 z.1
unfolding reference_at
ampersand_is place cs z e =
    let r = reference_of (front (is_other 59) cs) in
    let m = came (strip (codes ";") (beyond (is_other 59) cs)) (λ rest. let a : Both = (leaf (reference r), rest) in Some a) z e in
    let end = strip_is (codes ";") (beyond (is_other 59) cs) m.from m.was in
    moved place (38 ∷ cs) (leaf (reference r), m.from) z m.gives (record {
      is = reference_of_then (front (is_other 59) cs) m.from ∙ ap (λ (xs : List ℕ). 38 ∷ xs) (ap (λ (xs : List ℕ). front (is_other 59) cs ++ xs) end ∙ front_beyond (is_other 59) cs);
      right = λ h. and_parts _ _ h;
    })

-- Comments, sections, instructions.

comment_is : (place : Place) (cs : List ℕ) (z : Both) → comment_at cs ≡ Some z → IsAt place (codes "<!--" ++ cs) z.0 z.1
unfolding comment_at
comment_is place cs z e =
    let s = came (until (codes "--") cs) (λ s. then_some (strip (codes ">") s.1) (λ rest. let a : Both = (leaf (comment s.0), rest) in Some a)) z e in
    let f = until_is (codes "--") cs s.from s.was in
    let m = came (strip (codes ">") s.from.1) (λ rest. let a : Both = (leaf (comment s.from.0), rest) in Some a) z s.gives in
    let end = strip_is (codes ">") s.from.1 m.from m.was in
    moved place (codes "<!--" ++ cs) (leaf (comment s.from.0), m.from) z m.gives (record {
      is = ap (λ (xs : List ℕ). codes "<!--" ++ xs) (ap (λ (xs : List ℕ). s.from.0 ++ (codes "--" ++ xs)) end ∙ f.is);
      right = λ h. (refl, record { characters = h; no_end = comment_not s.from.0 s.from.1 f.none });
    })

section_is : (place : Place) (cs : List ℕ) (z : Both) → section_at cs ≡ Some z → IsAt place (codes "<![CDATA[" ++ cs) z.0 z.1
unfolding section_at
section_is place cs z e =
    let s = came (until (codes "]]>") cs) (λ s. let a : Both = (leaf (section s.0), s.1) in Some a) z e in
    let f = until_is (codes "]]>") cs s.from s.was in
    moved place (codes "<![CDATA[" ++ cs) (leaf (section s.from.0), s.from.1) z s.gives (record {
      is = ap (λ (xs : List ℕ). codes "<![CDATA[" ++ xs) f.is;
      right = λ h. (refl, record { characters = h; no_end = holds_not (codes "]]>") s.from.0 s.from.1 f.none });
    })

instruction_is : (place : Place) (target cs : List ℕ) (z : Both) → is_name target ≡ true → instruction_at target cs ≡ Some z → IsAt place (codes "<?" ++ (target ++ cs)) z.0 z.1
unfolding instruction_at
instruction_is place target cs z named e =
    let s = came (until (codes "?>") cs) (λ s. let a : Both = (leaf (instruction target s.0), s.1) in Some a) z e in
    let f = until_is (codes "?>") cs s.from s.was in
    moved place (codes "<?" ++ (target ++ cs)) (leaf (instruction target s.from.0), s.from.1) z s.gives (record {
      is = ap (λ (xs : List ℕ). codes "<?" ++ (target ++ xs)) f.is;
      right = λ h.
          let a = and_parts (not (str_eq_ignore_ascii_case target (codes "xml")) && begins_blank s.from.0) (list_all is_character s.from.0) h in
          let b = and_parts (not (str_eq_ignore_ascii_case target (codes "xml"))) (begins_blank s.from.0) a.0 in
          (refl, record { named = named; not_reserved = not-true (str_eq_ignore_ascii_case target (codes "xml")) b.0; apart = b.1; characters = a.1; no_end = holds_not (codes "?>") s.from.0 s.from.1 f.none });
    })

-- Declarations.

declaration_is : (place : Place) (cs : List ℕ) (z : Both) → declaration_at cs ≡ Some z → IsAt place (codes "<?xml" ++ cs) z.0 z.1
unfolding declaration_at
declaration_is place cs z e =
    let xs = (all_attributes cs).0 in
    let ds = (all_attributes cs).1 in
    let d : Declaration = record { attributes = xs; space = front is_blank ds } in
    let m = came (strip (codes "?>") (beyond is_blank ds)) (λ rest. let a : Both = (declaration d, rest) in Some a) z e in
    let end = strip_is (codes "?>") (beyond is_blank ds) m.from m.was in
    let are = all_are cs in
    moved place (codes "<?xml" ++ cs) (declaration d, m.from) z m.gives (record {
      is = ap (λ (w : List ℕ). codes "<?xml" ++ w) (ap (λ (w : List ℕ). attributes_then xs (front is_blank ds ++ w)) end ∙ ap (attributes_then xs) (front_beyond is_blank ds) ∙ are.is);
      right = λ h.
          let a = and_parts (is_early place && list_all attribute_is_right xs) (is_in_order xs) h in
          let b = and_parts (is_early place) (list_all attribute_is_right xs) a.0 in
          (b.0, record { attributes = are.right b.1; in_order = a.1; blank_space = front_all is_blank ds });
    })

question_is : (place : Place) (cs : List ℕ) (z : Both) → question_at cs ≡ Some z → IsAt place (codes "<?" ++ cs) z.0 z.1
unfolding question_at
question_is place cs z e =
    let n = came (name_at cs) (λ n. if bytes_eq n.0 (codes "xml") then declaration_at n.1 else instruction_at n.0 n.1) z e in
    let ni = name_is cs n.from n.was in
    at n.from ni (bytes_eq n.from.0 (codes "xml")) refl n.gives
  where
    at : (n : List ℕ × List ℕ) → IsNameAt cs n.0 n.1 → (b : Bool) → bytes_eq n.0 (codes "xml") ≡ b → (if b then declaration_at n.1 else instruction_at n.0 n.1) ≡ Some z → IsAt place (codes "<?" ++ cs) z.0 z.1
    at n ni true q g =
        let xml : n.0 ≡ codes "xml" = (bytes_eq-Decides n.0 (codes "xml")).0 q in
        subst (λ (w : List ℕ). IsAt place w z.0 z.1) (ap (λ (w : List ℕ). codes "<?" ++ (w ++ n.1)) (sym xml) ∙ ap (λ (w : List ℕ). codes "<?" ++ w) ni.is) (declaration_is place n.1 z g)
    at n ni false q g = subst (λ (w : List ℕ). IsAt place w z.0 z.1) (ap (λ (w : List ℕ). codes "<?" ++ w) ni.is) (instruction_is place n.0 n.1 z ni.named g)

some_not_empty : (xs : List ℕ) → is_some xs ≡ true → xs ≢ []
some_not_empty [] h e = cc
some_not_empty (x ∷ xs) h e = cc

space_of : (cs : List ℕ) → is_some (front is_blank cs) ≡ true → IsSpace (front is_blank cs)
space_of cs h = record { some = some_not_empty (front is_blank cs) h; blank = front_all is_blank cs }

type_end_is : (place : Place) (space : List ℕ) (i : Identifier) (cs : List ℕ) (z : Both) (before : List ℕ) → identifier_then i cs ≡ before → list_all is_blank space ≡ true → (identifier_is_right i ≡ true → IsIdentifier i)
    → doctype_end space i cs ≡ Some z → IsAt place (codes "<!DOCTYPE" ++ (space ++ (codes "html" ++ before))) z.0 z.1
type_end_is place space i cs z before is blank right e =
    let m = came (strip (codes ">") (beyond is_blank cs)) (λ rest. let a : Both = (doctype (record { space = space; identifier = i; end_space = front is_blank cs }), rest) in Some a) z e in
    let end = strip_is (codes ">") (beyond is_blank cs) m.from m.was in
    let spelled : front is_blank cs ++ 62 ∷ m.from ≡ cs = ap (λ (w : List ℕ). front is_blank cs ++ w) end ∙ front_beyond is_blank cs in
    moved place (codes "<!DOCTYPE" ++ (space ++ (codes "html" ++ before))) (doctype (record { space = space; identifier = i; end_space = front is_blank cs }), m.from) z m.gives (record {
      is = ap (λ (w : List ℕ). codes "<!DOCTYPE" ++ (space ++ (codes "html" ++ w))) (ap (identifier_then i) spelled ∙ is);
      right = λ h.
          let a = and_parts (is_some space) (identifier_is_right i) h in
          record { apart = record { some = some_not_empty space a.0; blank = blank }; identifier = right a.1; blank_space = front_all is_blank cs };
    })

literal_right : (test : ℕ → Bool) (cs : List ℕ) (l : Literal) (rest : List ℕ) → IsQuotedAt cs l rest → literal_is_right test l ≡ true → IsLiteral test l
literal_right test cs l rest q h = record { quoted = q.quoted; pass = h }

system_is : (place : Place) (space before ds cs : List ℕ) (z : Both) → list_all is_blank space ≡ true → before ++ (codes "SYSTEM" ++ cs) ≡ ds → list_all is_blank before ≡ true
    → system_at space before cs ≡ Some z → IsAt place (codes "<!DOCTYPE" ++ (space ++ (codes "html" ++ ds))) z.0 z.1
unfolding system_at
system_is place space before ds cs z blank is first e =
    let q = came (quoted_at (beyond is_blank cs)) (λ q. doctype_end space (system before (front is_blank cs) q.0) q.1) z e in
    let qi = quoted_is (beyond is_blank cs) q.from q.was in
    type_end_is place space (system before (front is_blank cs) q.from.0) q.from.1 z ds (ap (λ (w : List ℕ). before ++ (codes "SYSTEM" ++ (front is_blank cs ++ w))) qi.is ∙ ap (λ (w : List ℕ). before ++ (codes "SYSTEM" ++ w)) (front_beyond is_blank cs) ∙ is) blank
    (λ h.
    let a = and_parts (is_some before && is_some (front is_blank cs)) (literal_is_right is_character q.from.0) h in
    let b = and_parts (is_some before) (is_some (front is_blank cs)) a.0 in
    (record { some = some_not_empty before b.0; blank = first }, space_of cs b.1, literal_right is_character _ q.from.0 q.from.1 qi a.1))
    q.gives

public_is : (place : Place) (space before ds cs : List ℕ) (z : Both) → list_all is_blank space ≡ true → before ++ (codes "PUBLIC" ++ cs) ≡ ds → list_all is_blank before ≡ true
    → public_at space before cs ≡ Some z → IsAt place (codes "<!DOCTYPE" ++ (space ++ (codes "html" ++ ds))) z.0 z.1
unfolding public_at
public_is place space before ds cs z blank is first e =
    let q = came (quoted_at (beyond is_blank cs)) (λ q. second_at space before (front is_blank cs) q.0 q.1) z e in
    let qi = quoted_is (beyond is_blank cs) q.from q.was in
    let us = q.from.1 in
    let r = came (quoted_at (beyond is_blank us)) (λ r. doctype_end space (public before (front is_blank cs) q.from.0 (front is_blank us) r.0) r.1) z q.gives in
    let ri = quoted_is (beyond is_blank us) r.from r.was in
    let second : front is_blank us ++ literal_then r.from.0 r.from.1 ≡ us = ap (λ (w : List ℕ). front is_blank us ++ w) ri.is ∙ front_beyond is_blank us in
    type_end_is place space (public before (front is_blank cs) q.from.0 (front is_blank us) r.from.0) r.from.1 z ds (ap (λ (w : List ℕ). before ++ (codes "PUBLIC" ++ (front is_blank cs ++ literal_then q.from.0 w))) second ∙ ap (λ (w : List ℕ). before ++ (codes "PUBLIC" ++ (front is_blank cs ++ w))) qi.is ∙ ap (λ (w : List ℕ). before ++ (codes "PUBLIC" ++ w)) (front_beyond is_blank cs) ∙ is) blank
    (λ h.
    let a = and_parts (is_some before && is_some (front is_blank cs) && literal_is_right in_public_identifier q.from.0 && is_some (front is_blank us)) (literal_is_right is_character r.from.0) h in
    let b = and_parts (is_some before && is_some (front is_blank cs) && literal_is_right in_public_identifier q.from.0) (is_some (front is_blank us)) a.0 in
    let c = and_parts (is_some before && is_some (front is_blank cs)) (literal_is_right in_public_identifier q.from.0) b.0 in
    let d = and_parts (is_some before) (is_some (front is_blank cs)) c.0 in
    (record { some = some_not_empty before d.0; blank = first }, space_of cs d.1, literal_right in_public_identifier _ q.from.0 q.from.1 qi c.1, space_of us b.1, literal_right is_character _ r.from.0 r.from.1 ri a.1))
    r.gives

identifier_is : (place : Place) (space cs : List ℕ) (z : Both) → list_all is_blank space ≡ true → identifier_at space cs ≡ Some z → IsAt place (codes "<!DOCTYPE" ++ (space ++ (codes "html" ++ cs))) z.0 z.1
identifier_is place space cs z blank e = at (strip (codes "SYSTEM") (beyond is_blank cs)) refl (strip (codes "PUBLIC") (beyond is_blank cs)) refl e
  where
    spelled : (word rest : List ℕ) → strip word (beyond is_blank cs) ≡ Some rest → front is_blank cs ++ (word ++ rest) ≡ cs
    spelled word rest h = ap (λ (w : List ℕ). front is_blank cs ++ w) (strip_is word (beyond is_blank cs) rest h) ∙ front_beyond is_blank cs

    at : (s : Option (List ℕ)) → strip (codes "SYSTEM") (beyond is_blank cs) ≡ s → (p : Option (List ℕ)) → strip (codes "PUBLIC") (beyond is_blank cs) ≡ p → identifier_by space cs s p ≡ Some z → IsAt place (codes "<!DOCTYPE" ++ (space ++ (codes "html" ++ cs))) z.0 z.1
    at (Some rest) h p g e = system_is place space (front is_blank cs) cs rest z blank (spelled (codes "SYSTEM") rest h) (front_all is_blank cs) e
    at None h (Some rest) g e = public_is place space (front is_blank cs) cs rest z blank (spelled (codes "PUBLIC") rest g) (front_all is_blank cs) e
    at None h None g e = type_end_is place space no_identifier cs z cs refl blank (λ h. tt) e

doctype_is : (place : Place) (cs : List ℕ) (z : Both) → doctype_at cs ≡ Some z → IsAt place (codes "<!DOCTYPE" ++ cs) z.0 z.1
unfolding doctype_at
doctype_is place cs z e =
    let m = came (strip (codes "html") (beyond is_blank cs)) (λ rest. identifier_at (front is_blank cs) rest) z e in
    let word = strip_is (codes "html") (beyond is_blank cs) m.from m.was in
    subst (λ (w : List ℕ). IsAt place w z.0 z.1) (ap (λ (w : List ℕ). codes "<!DOCTYPE" ++ (front is_blank cs ++ w)) word ∙ ap (λ (w : List ℕ). codes "<!DOCTYPE" ++ w) (front_beyond is_blank cs)) (identifier_is place (front is_blank cs) m.from z (front_all is_blank cs) m.gives)

-- What stands behind `<!` and `<`.

bang_is : (place : Place) (cs : List ℕ) (z : Both) → bang_at cs ≡ Some z → IsAt place (60 ∷ 33 ∷ cs) z.0 z.1
unfolding bang_at
bang_is place cs z e = at (strip (codes "--") cs) refl (strip (codes "[CDATA[") cs) refl (strip (codes "DOCTYPE") cs) refl e
  where
    to : (word rest : List ℕ) → strip word cs ≡ Some rest → IsAt place (60 ∷ 33 ∷ (word ++ rest)) z.0 z.1 → IsAt place (60 ∷ 33 ∷ cs) z.0 z.1
    to word rest h i = subst (λ (w : List ℕ). IsAt place (60 ∷ 33 ∷ w) z.0 z.1) (strip_is word cs rest h) i

    at : (a : Option (List ℕ)) → strip (codes "--") cs ≡ a → (b : Option (List ℕ)) → strip (codes "[CDATA[") cs ≡ b → (c : Option (List ℕ)) → strip (codes "DOCTYPE") cs ≡ c → bang_by a b c ≡ Some z → IsAt place (60 ∷ 33 ∷ cs) z.0 z.1
    at (Some rest) h b i c j e = to (codes "--") rest h (comment_is place rest z e)
    at None h (Some rest) i c j e = to (codes "[CDATA[") rest i (section_is place rest z e)
    at None h None i (Some rest) j e = to (codes "DOCTYPE") rest j (doctype_is place rest z e)
    at None h None i None j e = cc

markup_is : (place : Place) (cs : List ℕ) (z : Both) → markup_at cs ≡ Some z → IsAt place (60 ∷ cs) z.0 z.1
unfolding markup_at
markup_is place [] z e = cc
markup_is place (c ∷ cs) z e = at (nat_eq c 33) refl (nat_eq c 63) refl (nat_eq c 47) refl e
  where
    to : (n : ℕ) → nat_eq c n ≡ true → IsAt place (60 ∷ n ∷ cs) z.0 z.1 → IsAt place (60 ∷ c ∷ cs) z.0 z.1
    to n h i = subst (λ (x : ℕ). IsAt place (60 ∷ x ∷ cs) z.0 z.1) (sym (eqb-true c n h)) i

    at : (x : Bool) → nat_eq c 33 ≡ x → (y : Bool) → nat_eq c 63 ≡ y → (w : Bool) → nat_eq c 47 ≡ w → (if x then bang_at cs else (if y then question_at cs else (if w then end_at cs else open_at (c ∷ cs)))) ≡ Some z → IsAt place (60 ∷ c ∷ cs) z.0 z.1
    at true f y g w h e = to 33 f (bang_is place cs z e)
    at false f true g w h e = to 63 g (question_is place cs z e)
    at false f false g true h e = to 47 h (end_is place cs z e)
    at false f false g false h e = open_is place (c ∷ cs) z e

single_right : (place : Place) (c : ℕ) (cs : List ℕ) → nat_eq c 60 ≡ false → nat_eq c 38 ≡ false → IsAt place (c ∷ cs) (single_at place c) cs
single_right at_beginning c cs f g = at (nat_eq c 0xFEFF) refl
  where
    plain : is_character c ≡ true → is_plain c ≡ true
    plain h = and_from _ _ h (ap (λ (b : Bool). not (b || nat_eq c 38)) f ∙ ap not g)

    at : (b : Bool) → nat_eq c 0xFEFF ≡ b → IsAt at_beginning (c ∷ cs) (if b then mark else leaf (character c)) cs
    at true h = record { is = ap (λ (x : ℕ). x ∷ cs) (sym (eqb-true c 0xFEFF h)); right = λ r. refl }
    at false h = record { is = refl; right = λ r. let a = and_parts _ _ r in (a.0, plain a.1) }
single_right behind_mark c cs f g = record { is = refl; right = λ r. (refl, and_from _ _ r (ap (λ (b : Bool). not (b || nat_eq c 38)) f ∙ ap not g)) }
single_right (behind k) c cs f g = record { is = refl; right = λ r. let a = and_parts _ _ r in (a.0, and_from _ _ a.1 (ap (λ (b : Bool). not (b || nat_eq c 38)) f ∙ ap not g)) }

pub piece_is : (place : Place) (cs : List ℕ) (z : Both) → piece_at place cs ≡ Some z → IsAt place cs z.0 z.1
unfolding piece_at
piece_is place [] z e = cc
piece_is place (c ∷ cs) z e = at (nat_eq c 60) refl (nat_eq c 38) refl e
  where
    to : (n : ℕ) → nat_eq c n ≡ true → IsAt place (n ∷ cs) z.0 z.1 → IsAt place (c ∷ cs) z.0 z.1
    to n h i = subst (λ (x : ℕ). IsAt place (x ∷ cs) z.0 z.1) (sym (eqb-true c n h)) i

    at : (x : Bool) → nat_eq c 60 ≡ x → (y : Bool) → nat_eq c 38 ≡ y → (if x then markup_at cs else (if y then reference_at cs else (let a : Both = (single_at place c, cs) in Some a))) ≡ Some z → IsAt place (c ∷ cs) z.0 z.1
    at true f y g e = to 60 f (markup_is place cs z e)
    at false f true g e = to 38 g (ampersand_is place cs z e)
    at false f false g e = moved place (c ∷ cs) (single_at place c, cs) z e (single_right place c cs f g)
