-- Document type declarations and openers end.
use Rattle.std.proofs.Common.{◌≡◌, ◌⊎◌, inl, inr, ℕ, Bool, true, false, not, ◌&&◌, ◌||◌, List, [], ◌∷◌, ◌++◌, Option, Some, None, refl, sym, ◌∙◌, ap, subst, arith, append-nil, append_assoc, codes}
use Rattle.std.specs.Prelude.{if◌then◌else◌, bytes_eq, nat_eq}
use Rattle.std.specs.List.{list_all}
use Rattle.std.proofs.lemmas.Bool.{and_parts, and_from, or_cases}
use Rattle.std.proofs.lemmas.Bool.Decides.{nat_tests}
use Rattle.text_base.specs.declared.page_token.PageToken.TheVariants as token
use Rattle.xml_text.specs.Characters.{is_character}
use Rattle.xml_text.specs.Names.{in_public_identifier}
use Rattle.dtd_model.specs.declared.dtd.DoctypeRule.{DoctypeRule}
use Rattle.dtd_model.specs.declared.dtd.DoctypeRule.TheVariants.{Strict, Free}
use Rattle.dtd_model.specs.Table.{Table}
use Rattle.page_model.specs.Parts.{is_quote}
use Rattle.page_model.specs.Places.{Place, behind}
use Rattle.piece_steps.specs.Insides.{Turn, on, out, stop, inside}
use Rattle.piece_steps.specs.Readers.{go, done, fail}
use Rattle.page_model.specs.Fronts.{Open, in_opener, in_doctype, IsFrontOf}
use Rattle.page_model.specs.OpenDoctypes.{Word, system_word, public_word, letters, OpenDoctype, before_root, in_root, behind_root, in_word, behind_word, in_public, behind_public, in_system, behind_system, kept}
use Rattle.page_steps.specs.DoctypeSteps.{begins, is_free, may_begin, root_turn, is_wanted, doctype_turn}
use Rattle.page_steps.specs.PageSteps.{OpenMove, open_move, bang_move}
use Rattle.page_endings.specs.Ending.{public_can_end, doctype_can_end}
use Rattle.page_endings.specs.Laws.{Ends}
use Rattle.page_endings.specs.Shapes.{IsOpener, IsDoctypeShaped}
use Rattle.page_endings.proofs.Among.{quote_character}
use Rattle.page_endings.proofs.Declared.{itself, begun}
use Rattle.page_endings.proofs.Going.{if_true, if_false, goes, ended}
use Rattle.page_endings.proofs.Remarks.{comment_ends, section_ends}

eqb_self : (n : ℕ) → nat_eq n n ≡ true
eqb_self n = grind (arith, nat_tests)

module _ (table : Table) where
  abbrev DoctypeEnds : OpenDoctype → Type 0
  DoctypeEnds o = Ends table (in_doctype o)

  turns : (o g : OpenDoctype) (c : ℕ) → is_character c ≡ true → doctype_turn table.doctype o c ≡ on g → DoctypeEnds g → DoctypeEnds o
  turns o g c h e more =
      goes table (in_doctype o) (in_doctype g) c h
      (λ place. ap (λ (t : Turn OpenDoctype). let m : OpenMove = inside in_doctype (done (behind 0) (token.Doctype ∷ [])) t in m) e) more

  leaves : (o : OpenDoctype) (c : ℕ) → is_character c ≡ true → doctype_turn table.doctype o c ≡ out → DoctypeEnds o
  leaves o c h e =
      ended table (in_doctype o) c h
      (λ place. (behind 0, token.Doctype ∷ [], ap (λ (t : Turn OpenDoctype). let m : OpenMove = inside in_doctype (done (behind 0) (token.Doctype ∷ [])) t in m) e))

  behind_system_ends : DoctypeEnds behind_system
  behind_system_ends = leaves behind_system 62 refl refl

  in_system_ends : (quote : ℕ) → is_quote quote ≡ true → DoctypeEnds (in_system quote)
  in_system_ends quote q = turns (in_system quote) behind_system quote (quote_character quote q) (if_true (nat_eq quote quote) _ _ (eqb_self quote)) behind_system_ends

  behind_public_ends : (spaced : Bool) → DoctypeEnds (behind_public spaced)
  behind_public_ends spaced = turns (behind_public spaced) (behind_public true) 32 refl refl (turns (behind_public true) (in_system 34) 34 refl refl (in_system_ends 34 refl))

  -- a public literal that is whole
  whole_public : (quote : ℕ) (o : Option (List ℕ)) → is_quote quote ≡ true → is_wanted o ≡ true → DoctypeEnds (in_public quote o)
  whole_public quote o q e =
      turns (in_public quote o) (behind_public false) quote (quote_character quote q)
      (if_true (nat_eq quote quote) _ _ (eqb_self quote) ∙ if_true (is_wanted o) (on (behind_public false)) stop e) (behind_public_ends false)

  -- a character of the literal may stand in it, and is no quote
  may_be : ℕ → Bool
  may_be c = in_public_identifier c && (is_character c && not (is_quote c))

  not_quoted : (quote c : ℕ) → is_quote quote ≡ true → not (is_quote c) ≡ true → nat_eq c quote ≡ false
  not_quoted quote c q e = at (nat_eq c quote) refl
    where
      at : (b : Bool) → nat_eq c quote ≡ b → b ≡ false
      at false i = refl
      at true i = let z : c ≡ quote = grind (arith, nat_tests) in let y : not (is_quote quote) ≡ true = ap (λ (k : ℕ). not (is_quote k)) (sym z) ∙ e in let x : false ≡ true = sym (ap not q) ∙ y in cc

  over_public : (quote : ℕ) → is_quote quote ≡ true → (more text : List ℕ) → list_all may_be more ≡ true → is_wanted (Some (text ++ more)) ≡ true → DoctypeEnds (in_public quote (Some text))
  unfolding may_be
  over_public quote q [] text h e = whole_public quote (Some text) q (ap (λ (w : List ℕ). is_wanted (Some w)) (sym (append-nil text)) ∙ e)
  over_public quote q (c ∷ more) text h e =
      let p = and_parts (may_be c) (list_all may_be more) h in
      let r = and_parts (in_public_identifier c) (is_character c && not (is_quote c)) p.0 in
      let s = and_parts (is_character c) (not (is_quote c)) r.1 in
      turns (in_public quote (Some text)) (in_public quote (Some (text ++ c ∷ []))) c s.0
      (if_false (nat_eq c quote) _ _ (not_quoted quote c q s.1) ∙ if_true (in_public_identifier c) (on (in_public quote (Some (text ++ c ∷ [])))) stop r.0)
      (over_public quote q more (text ++ c ∷ []) p.1 (ap (λ (w : List ℕ). is_wanted (Some w)) (append_assoc text (c ∷ []) more) ∙ e))

  wanted_may_be : list_all may_be (codes "-//W3C//DTD XHTML 1.0 Strict//EN") ≡ true
  unfolding may_be
  wanted_may_be = refl

  part_may_be : (xs ys : List ℕ) → list_all may_be (xs ++ ys) ≡ true → list_all may_be ys ≡ true
  part_may_be [] ys h = h
  part_may_be (x ∷ xs) ys h = part_may_be xs ys (and_parts (may_be x) (list_all may_be (xs ++ ys)) h).1

  in_public_ends : (quote : ℕ) (o : Option (List ℕ)) → is_quote quote ≡ true → public_can_end o ≡ true → DoctypeEnds (in_public quote o)
  in_public_ends quote None q e = whole_public quote None q refl
  in_public_ends quote (Some text) q e =
      let m = begun text (codes "-//W3C//DTD XHTML 1.0 Strict//EN") e in
      over_public quote q m.0 text (part_may_be text m.0 (ap (list_all may_be) (sym m.1) ∙ wanted_may_be))
      (ap (λ (w : List ℕ). bytes_eq w (codes "-//W3C//DTD XHTML 1.0 Strict//EN")) (sym m.1) ∙ itself (codes "-//W3C//DTD XHTML 1.0 Strict//EN"))

  kept_nothing : (rule : DoctypeRule) → public_can_end (kept rule []) ≡ true
  kept_nothing Strict = refl
  kept_nothing Free = refl

  behind_word_ends : (word : Word) → DoctypeEnds (behind_word word)
  behind_word_ends system_word = turns (behind_word system_word) (in_system 34) 34 refl refl (in_system_ends 34 refl)
  behind_word_ends public_word =
      turns (behind_word public_word) (in_public 34 (kept table.doctype [])) 34 refl refl (in_public_ends 34 (kept table.doctype []) refl (kept_nothing table.doctype))

  -- the letters of a word are characters
  over_word : (whole : Word) (more word : List ℕ) → letters whole ≡ word ++ more → list_all is_character more ≡ true
      → ((front later : List ℕ) → letters whole ≡ front ++ later → may_begin table.doctype front ≡ true) → DoctypeEnds (in_word word)
  over_word whole [] word e h f =
      let is : word ≡ letters whole = sym (append-nil word) ∙ sym e in
      subst (λ (w : List ℕ). DoctypeEnds (in_word w)) (sym is) (at whole)
    where
      no_longer : (rule : DoctypeRule) (word : Word) → may_begin rule (letters word ++ 32 ∷ []) ≡ false
      no_longer Strict public_word = refl
      no_longer Free public_word = refl
      no_longer Strict system_word = refl
      no_longer Free system_word = refl

      at : (w : Word) → DoctypeEnds (in_word (letters w))
      at public_word =
          turns (in_word (letters public_word)) (behind_word public_word) 32 refl (if_false (may_begin table.doctype (letters public_word ++ 32 ∷ [])) _ _ (no_longer table.doctype public_word)) (behind_word_ends public_word)
      at system_word =
          turns (in_word (letters system_word)) (behind_word system_word) 32 refl (if_false (may_begin table.doctype (letters system_word ++ 32 ∷ [])) _ _ (no_longer table.doctype system_word)) (behind_word_ends system_word)
  over_word whole (c ∷ more) word e h f =
      let p = and_parts (is_character c) (list_all is_character more) h in
      let moved : letters whole ≡ (word ++ c ∷ []) ++ more = e ∙ sym (append_assoc word (c ∷ []) more) in
      turns (in_word word) (in_word (word ++ c ∷ [])) c p.0 (if_true (may_begin table.doctype (word ++ c ∷ [])) _ _ (f (word ++ c ∷ []) more moved))
      (over_word whole more (word ++ c ∷ []) moved p.1 f)

  part_characters : (xs ys : List ℕ) → list_all is_character (xs ++ ys) ≡ true → list_all is_character ys ≡ true
  part_characters [] ys h = h
  part_characters (x ∷ xs) ys h = part_characters xs ys (and_parts (is_character x) (list_all is_character (xs ++ ys)) h).1

  begins_part : (front later : List ℕ) → begins (front ++ later) front ≡ true
  begins_part [] later = refl
  begins_part (c ∷ cs) later = and_from (nat_eq c c) (begins (cs ++ later) cs) (eqb_self c) (begins_part cs later)

  or_left : (x y : Bool) → x ≡ true → (x || y) ≡ true
  or_left true y e = refl
  or_left false y e = cc

  or_right : (x y : Bool) → y ≡ true → (x || y) ≡ true
  or_right true y e = refl
  or_right false y e = e

  public_begins : (front later : List ℕ) → letters public_word ≡ front ++ later → may_begin table.doctype front ≡ true
  public_begins front later e =
      or_left (begins (letters public_word) front) (is_free table.doctype && begins (letters system_word) front)
      (ap (λ (w : List ℕ). begins w front) e ∙ begins_part front later)

  in_word_ends : (word : List ℕ) → may_begin table.doctype word ≡ true → DoctypeEnds (in_word word)
  in_word_ends word e = at (or_cases (begins (letters public_word) word) (is_free table.doctype && begins (letters system_word) word) e)
    where
      at : (begins (letters public_word) word ≡ true) ⊎ ((is_free table.doctype && begins (letters system_word) word) ≡ true) → DoctypeEnds (in_word word)
      at (inl i) =
          let m = begun word (letters public_word) i in
          over_word public_word m.0 word m.1 (part_characters word m.0 (ap (list_all is_character) (sym m.1) ∙ refl)) public_begins
      at (inr i) =
          let p = and_parts (is_free table.doctype) (begins (letters system_word) word) i in
          let m = begun word (letters system_word) p.1 in
          over_word system_word m.0 word m.1 (part_characters word m.0 (ap (list_all is_character) (sym m.1) ∙ refl))
          (λ front later e. or_right (begins (letters public_word) front) (is_free table.doctype && begins (letters system_word) front)
          (and_from (is_free table.doctype) (begins (letters system_word) front) p.0 (ap (λ (w : List ℕ). begins w front) e ∙ begins_part front later)))

  behind_root_ends : DoctypeEnds behind_root
  behind_root_ends = turns behind_root (in_word (codes "P")) 80 refl (if_true (may_begin table.doctype (codes "P")) (on (in_word (codes "P"))) (root_turn table.doctype 80) (public_begins (codes "P") (codes "UBLIC") refl)) (in_word_ends (codes "P") (public_begins (codes "P") (codes "UBLIC") refl))

  whole_root : DoctypeEnds (in_root (codes "html"))
  whole_root = turns (in_root (codes "html")) behind_root 32 refl refl behind_root_ends

  over_root : (more name : List ℕ) → codes "html" ≡ name ++ more → list_all is_character more ≡ true → DoctypeEnds (in_root name)
  over_root [] name e h = subst (λ (w : List ℕ). DoctypeEnds (in_root w)) (e ∙ append-nil name) whole_root
  over_root (c ∷ more) name e h =
      let p = and_parts (is_character c) (list_all is_character more) h in
      let moved : codes "html" ≡ (name ++ c ∷ []) ++ more = e ∙ sym (append_assoc name (c ∷ []) more) in
      turns (in_root name) (in_root (name ++ c ∷ [])) c p.0
      (if_true (begins (codes "html") (name ++ c ∷ [])) _ _ (ap (λ (w : List ℕ). begins w (name ++ c ∷ [])) moved ∙ begins_part (name ++ c ∷ []) more))
      (over_root more (name ++ c ∷ []) moved p.1)

  in_root_ends : (name : List ℕ) → begins (codes "html") name ≡ true → DoctypeEnds (in_root name)
  in_root_ends name e = let m = begun name (codes "html") e in over_root m.0 name m.1 (part_characters name m.0 (ap (list_all is_character) (sym m.1) ∙ refl))

  before_root_ends : (spaced : Bool) → DoctypeEnds (before_root spaced)
  before_root_ends spaced = turns (before_root spaced) (before_root true) 32 refl refl (turns (before_root true) (in_root (codes "h")) 104 refl refl (in_root_ends (codes "h") refl))

  pub doctype_ends : (o : OpenDoctype) → IsDoctypeShaped table.doctype o → doctype_can_end o ≡ true → Ends table (in_doctype o)
  doctype_ends (before_root spaced) s e = before_root_ends spaced
  doctype_ends (in_root name) s e = in_root_ends name s
  doctype_ends behind_root s e = behind_root_ends
  doctype_ends (in_word word) s e = in_word_ends word s
  doctype_ends (behind_word word) s e = behind_word_ends word
  doctype_ends (in_public quote o) s e = in_public_ends quote o s e
  doctype_ends (behind_public spaced) s e = behind_public_ends spaced
  doctype_ends (in_system quote) s e = in_system_ends quote s
  doctype_ends behind_system s e = behind_system_ends

  -- Openers.

  -- wherever the characters lead, it ends
  EndsBy : OpenMove → Type 0
  EndsBy (go o) = Ends table o
  EndsBy (done place tokens) = Unit {0}
  EndsBy fail = ⊥

  by_move : (o : Open) (c : ℕ) (m : OpenMove) → is_character c ≡ true → ((place : Place) → open_move table place o c ≡ m) → EndsBy m → Ends table o
  unfolding EndsBy
  by_move o c (go g) h e more = goes table o g c h e more
  by_move o c (done next tokens) h e more = ended table o c h (λ place. (next, tokens, e place))
  by_move o c fail h e more = absurd more

  either : (b : Bool) (x y : OpenMove) → EndsBy x → (b ≡ false → EndsBy y) → EndsBy (if b then x else y)
  either true x y p q = p
  either false x y p q = q refl

  opened : (whole more : List ℕ) (begun : List ℕ) (c d : ℕ) (cs : List ℕ) → begun ≡ c ∷ d ∷ cs → whole ≡ begun ++ more → (more ≡ [] → ⊥) → list_all is_character more ≡ true
      → ((cs : List ℕ) → begins whole cs ≡ true → (begins (codes "<!--") cs || begins (codes "<![CDATA[") cs || begins (codes "<!DOCTYPE") cs) ≡ true)
      → ((cs : List ℕ) → cs ≡ whole → bytes_eq cs (codes "<!--") ≡ false → bytes_eq cs (codes "<![CDATA[") ≡ false → bytes_eq cs (codes "<!DOCTYPE") ≡ false → ⊥)
      → Ends table (in_opener begun)
  unfolding EndsBy
  opened whole [] begun c d cs b e n h f g = absurd (n refl)
  opened whole (m ∷ more) begun c d cs b e n h f g =
      let p = and_parts (is_character m) (list_all is_character more) h in
      let moved : whole ≡ (begun ++ m ∷ []) ++ more = e ∙ sym (append_assoc begun (m ∷ []) more) in
      by_move (in_opener begun) m (bang_move (begun ++ m ∷ [])) p.0
      (λ place. ap (λ (w : List ℕ). open_move table place (in_opener w) m) b ∙ ap (λ (w : List ℕ). bang_move (w ++ m ∷ [])) (sym b))
      (either (bytes_eq (begun ++ m ∷ []) (codes "<!--")) _ _ (comment_ends table 0) (λ x.
      either (bytes_eq (begun ++ m ∷ []) (codes "<![CDATA[")) _ _ (section_ends table 0) (λ y.
      either (bytes_eq (begun ++ m ∷ []) (codes "<!DOCTYPE")) _ _ (doctype_ends (before_root false) tt refl) (λ z.
      subst (λ (b : Bool). EndsBy (if b then go (in_opener (begun ++ m ∷ [])) else fail))
      (sym (f (begun ++ m ∷ []) (ap (λ (w : List ℕ). begins w (begun ++ m ∷ [])) moved ∙ begins_part (begun ++ m ∷ []) more)))
      (opened whole more (begun ++ m ∷ []) c d (cs ++ m ∷ []) (ap (λ (w : List ℕ). w ++ m ∷ []) b) moved
      (λ q. g (begun ++ m ∷ []) (sym (append-nil (begun ++ m ∷ [])) ∙ ap (λ (w : List ℕ). (begun ++ m ∷ []) ++ w) (sym q) ∙ sym moved) x y z) p.1 f g)))))

  first_of : (x y z : Bool) → x ≡ true → (x || y || z) ≡ true
  first_of true y z e = refl
  first_of false y z e = cc

  second_of : (x y z : Bool) → y ≡ true → (x || y || z) ≡ true
  second_of true y z e = refl
  second_of false true z e = refl
  second_of false false z e = cc

  third_of : (x y z : Bool) → z ≡ true → (x || y || z) ≡ true
  third_of true y z e = refl
  third_of false true z e = refl
  third_of false false z e = e

  comment_opened : (begun : List ℕ) (c d : ℕ) (cs : List ℕ) → begun ≡ c ∷ d ∷ cs → IsFrontOf (codes "<!--") begun → Ends table (in_opener begun)
  comment_opened begun c d cs b (more, n, e) =
      opened (codes "<!--") more begun c d cs b e n (part_characters begun more (ap (list_all is_character) (sym e) ∙ refl)) (λ w i. first_of (begins (codes "<!--") w) (begins (codes "<![CDATA[") w) (begins (codes "<!DOCTYPE") w) i)
      (λ w i x y z. let q : bytes_eq w (codes "<!--") ≡ true = ap (λ (u : List ℕ). bytes_eq u (codes "<!--")) i ∙ refl in let r : true ≡ false = sym q ∙ x in cc)

  section_opened : (begun : List ℕ) (c d : ℕ) (cs : List ℕ) → begun ≡ c ∷ d ∷ cs → IsFrontOf (codes "<![CDATA[") begun → Ends table (in_opener begun)
  section_opened begun c d cs b (more, n, e) =
      opened (codes "<![CDATA[") more begun c d cs b e n (part_characters begun more (ap (list_all is_character) (sym e) ∙ refl)) (λ w i. second_of (begins (codes "<!--") w) (begins (codes "<![CDATA[") w) (begins (codes "<!DOCTYPE") w) i)
      (λ w i x y z. let q : bytes_eq w (codes "<![CDATA[") ≡ true = ap (λ (u : List ℕ). bytes_eq u (codes "<![CDATA[")) i ∙ refl in let r : true ≡ false = sym q ∙ y in cc)

  doctype_opened : (begun : List ℕ) (c d : ℕ) (cs : List ℕ) → begun ≡ c ∷ d ∷ cs → IsFrontOf (codes "<!DOCTYPE") begun → Ends table (in_opener begun)
  doctype_opened begun c d cs b (more, n, e) =
      opened (codes "<!DOCTYPE") more begun c d cs b e n (part_characters begun more (ap (list_all is_character) (sym e) ∙ refl)) (λ w i. third_of (begins (codes "<!--") w) (begins (codes "<![CDATA[") w) (begins (codes "<!DOCTYPE") w) i)
      (λ w i x y z. let q : bytes_eq w (codes "<!DOCTYPE") ≡ true = ap (λ (u : List ℕ). bytes_eq u (codes "<!DOCTYPE")) i ∙ refl in let r : true ≡ false = sym q ∙ z in cc)

  pub opener_ends : (begun : List ℕ) → IsOpener begun → Ends table (in_opener begun)
  opener_ends begun (inl e) =
      subst (λ (w : List ℕ). Ends table (in_opener w)) (sym e)
      (goes table (in_opener (codes "<")) (in_opener (codes "<!")) 33 refl (λ place. refl)
      (comment_opened (codes "<!") 60 33 [] refl (codes "--", (λ q. cc), refl)))
  opener_ends begun (inr (c, d, cs, b, inl f)) = comment_opened begun c d cs b f
  opener_ends begun (inr (c, d, cs, b, inr (inl f))) = section_opened begun c d cs b f
  opener_ends begun (inr (c, d, cs, b, inr (inr f))) = doctype_opened begun c d cs b f
