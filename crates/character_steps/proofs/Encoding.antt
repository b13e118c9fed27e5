-- A reader of pieces by characters, made one by bytes, reads the same pieces.
use Rattle.std.proofs.Common.{◌≡◌, ◌⊎◌, inl, inr, ℕ, ◌≤◌, ◌<◌, Bool, true, false, ◌||◌, List, [], ◌∷◌, ◌++◌, Option, Some, None, refl, sym, ◌∙◌, ap, subst, append-nil, append_assoc, arith, length}
use Rattle.std.specs.Prelude.{if◌then◌else◌}
use Rattle.std.specs.Char.{encode_utf8}
use Rattle.std.specs.Str.{encode_utf8_all}
use Rattle.std.proofs.lemmas.Bool.{and_parts, leb-true, cases_lt}
use Rattle.std.proofs.lemmas.Str.{length-encode, len_utf8_bounds}
use Rattle.xml_text.specs.Characters.{is_character}
use Rattle.piece_steps.specs.Languages.{Language}
use Rattle.piece_steps.specs.Readers.{Move, go, done, fail, Reader, Outcome, whole, next, ends}
use Rattle.piece_steps.specs.Reads.{Begins, Reads}
use Rattle.character_steps.specs.Bytes.{decoded, is_begun}
use Rattle.character_steps.specs.Encoded.{encoded_language, Held, at_state, lifted, by_character, is_some_byte, encoded, ByCharacters}
use Rattle.character_steps.proofs.Begun.{decoded_whole, decoded_is, decoded_part, begun_part, one_byte}

-- a character of several bytes is no ASCII
several : (c : ℕ) (a b : ℕ) (u : List ℕ) → encode_utf8 c ≡ a ∷ b ∷ u → 128 ≤ c
several c a b u e = at (cases_lt c 128)
  where
    at : (c < 128) ⊎ (128 ≤ c) → 128 ≤ c
    at (inl l) = let z : c ∷ [] ≡ a ∷ b ∷ u = sym (one_byte c l) ∙ e in cc
    at (inr l) = l

two_at_least : (c : ℕ) (u : List ℕ) (a b : ℕ) (v : List ℕ) → u ++ a ∷ b ∷ v ≡ encode_utf8 c → 128 ≤ c
two_at_least c [] a b v e = several c a b v (sym e)
two_at_least c (x ∷ []) a b v e = several c x a (b ∷ v) (sym e)
two_at_least c (x ∷ y ∷ u) a b v e = several c x y (u ++ a ∷ b ∷ v) (sym e)

-- over the bytes of a character
over_one : {P T S : Type 0} (r : Reader P T S) (hold : S → S) → ByCharacters r hold → (c : ℕ) → is_character c ≡ true → (m : Move P T S) (v : List ℕ) (b : ℕ) (s : S) (u more : List ℕ)
    → u ++ b ∷ v ≡ encode_utf8 c → r.step s c ≡ m → ends (encoded r hold) (record { state = s; begun = u }) ((b ∷ v) ++ more) ≡ next (lifted m) (λ h. ends (encoded r hold) h more) more
over_one {P} {T} {S} r hold f c h m [] b s u more e q =
    let whole_is : decoded (u ++ b ∷ []) ≡ Some c = ap decoded e ∙ decoded_whole c h in
    ap (λ (o : Option ℕ). next (by_character r hold s (u ++ b ∷ []) o) (λ h. ends (encoded r hold) h more) more) whole_is
    ∙ ap (λ (m : Move P T S). next (lifted m) (λ h. ends (encoded r hold) h more) more) q
over_one {P} {T} {S} r hold f c h m (d ∷ v) b s u more e q =
    let moved : (u ++ b ∷ []) ++ d ∷ v ≡ encode_utf8 c = append_assoc u (b ∷ []) (d ∷ v) ∙ e in
    ap (λ (o : Option ℕ). next (by_character r hold s (u ++ b ∷ []) o) (λ h. ends (encoded r hold) h ((d ∷ v) ++ more)) ((d ∷ v) ++ more)) (decoded_part c (u ++ b ∷ []) d v moved)
    ∙ ap (λ (x : Bool). let z : Move P T (Held S) = if x then go (record { state = hold s; begun = u ++ b ∷ [] }) else fail in next z (λ h. ends (encoded r hold) h ((d ∷ v) ++ more)) ((d ∷ v) ++ more)) (begun_part c h (u ++ b ∷ []) d v moved)
    ∙ over_one r hold f c h m v d (hold s) (u ++ b ∷ []) more moved (f.holds s c (two_at_least c u b d v e) ∙ q)

some_first : (c : ℕ) → (b : ℕ) × (v : List ℕ) × (encode_utf8 c ≡ b ∷ v)
some_first c = at (encode_utf8 c) refl
  where
    at : (w : List ℕ) → encode_utf8 c ≡ w → (b : ℕ) × (v : List ℕ) × (encode_utf8 c ≡ b ∷ v)
    at [] e =
        let z : length (encode_utf8 c) ≡ 0 = ap length e in
        let m = length-encode c in
        let l = (len_utf8_bounds c).0 in
        absurd (omega arith)
    at (b ∷ v) e = (b, v, e)

-- over characters up to the end of a piece
over_characters : {P T S : Type 0} (r : Reader P T S) (hold : S → S) → ByCharacters r hold → (cs : List ℕ) (s : S) (behind : P) (tokens : List T) (rest : List ℕ)
    → ends r s cs ≡ whole behind tokens [] → ends (encoded r hold) (at_state s) (encode_utf8_all cs ++ rest) ≡ whole behind tokens rest
over_characters r hold f [] s behind tokens rest e = cc
over_characters {P} {T} {S} r hold f (c ∷ cs) s behind tokens rest e = at (is_character c) refl (λ g q. over_characters r hold f cs g behind tokens rest q)
  where
    E : Reader P T (Held S)
    E = encoded r hold

    same : (x : P) (y : List T) (z : List ℕ) → (let o : Outcome P T S = whole x y z in o ≡ whole behind tokens []) → (let o : Outcome P T (Held S) = whole x y (encode_utf8_all z ++ rest) in o ≡ whole behind tokens rest)
    same x y [] q = let p : x ≡ behind = cc in let t : y ≡ tokens = cc in cc
    same x y (a ∷ z) q = cc

    by : (m : Move P T S) → next m (λ g. ends r g cs) cs ≡ whole behind tokens [] → ((g : S) → ends r g cs ≡ whole behind tokens [] → ends (encoded r hold) (at_state g) (encode_utf8_all cs ++ rest) ≡ whole behind tokens rest)
        → next (lifted m) (λ h. ends (encoded r hold) h (encode_utf8_all cs ++ rest)) (encode_utf8_all cs ++ rest) ≡ whole behind tokens rest
    by (go g) q ih = ih g q
    by (done x y) q ih = same x y cs q
    by fail q ih = cc

    at : (b : Bool) → is_character c ≡ b → ((g : S) → ends r g cs ≡ whole behind tokens [] → ends (encoded r hold) (at_state g) (encode_utf8_all cs ++ rest) ≡ whole behind tokens rest)
        → ends (encoded r hold) (at_state s) (encode_utf8_all (c ∷ cs) ++ rest) ≡ whole behind tokens rest
    at true h ih =
        let w = some_first c in
        ap (ends (encoded r hold) (at_state s)) (append_assoc (encode_utf8 c) (encode_utf8_all cs) rest ∙ ap (λ (u : List ℕ). u ++ (encode_utf8_all cs ++ rest)) w.2)
        ∙ over_one r hold f c h (r.step s c) w.1 w.0 s [] (encode_utf8_all cs ++ rest) (sym w.2) refl
        ∙ by (r.step s c) e ih
    at false h ih = let z : next fail (λ g. ends r g cs) cs ≡ whole behind tokens [] = ap (λ (m : Move P T S). next m (λ g. ends r g cs) cs) (sym (f.strict s c h)) ∙ e in cc

-- bytes up to the end of a piece are characters
pub record Characters {P T S : Type 0} (r : Reader P T S) (s : S) (bytes : List ℕ) (behind : P) (tokens : List T) (rest : List ℕ) : Type 0 where
  pub first : ℕ
  pub more : List ℕ
  pub is : bytes ≡ encode_utf8_all (first ∷ more) ++ rest
  pub whole_is : ends r s (first ∷ more) ≡ whole behind tokens []

-- what is begun is no ASCII
begun_not : (b : ℕ) (bytes : List ℕ) → is_begun (b ∷ bytes) ≡ true → b < 128 → ⊥
unfolding is_begun
begun_not b [] h l = let p = leb-true 0xC2 b (and_parts _ _ h).0 in omega arith
begun_not b (c ∷ []) h l = let p = leb-true 0xE0 b (and_parts _ _ (and_parts _ _ h).0).0 in omega arith
begun_not b (c ∷ d ∷ []) h l = let p = leb-true 0xF0 b (and_parts _ _ (and_parts _ _ (and_parts _ _ h).0).0).0 in omega arith
begun_not b (c ∷ d ∷ e ∷ more) h l = cc

wide : (c : ℕ) (u bytes rest : List ℕ) (b : ℕ) → is_begun (u ++ b ∷ []) ≡ true → (u ++ b ∷ []) ++ bytes ≡ encode_utf8 c ++ rest → 128 ≤ c
wide c u bytes rest b h e = at (cases_lt c 128) u h e
  where
    head : (x : ℕ) (xs : List ℕ) → c < 128 → is_begun (x ∷ xs) ≡ true → x ∷ (xs ++ bytes) ≡ encode_utf8 c ++ rest → 128 ≤ c
    head x xs l h e =
        let z : x ∷ (xs ++ bytes) ≡ c ∷ rest = e ∙ ap (λ (w : List ℕ). w ++ rest) (one_byte c l) in
        let y : x ≡ c = cc in
        absurd (begun_not x xs h (subst (λ (n : ℕ). n < 128) (sym y) l))

    at : (c < 128) ⊎ (128 ≤ c) → (u : List ℕ) → is_begun (u ++ b ∷ []) ≡ true → (u ++ b ∷ []) ++ bytes ≡ encode_utf8 c ++ rest → 128 ≤ c
    at (inl l) [] h e = head b [] l h e
    at (inl l) (x ∷ xs) h e = head x (xs ++ b ∷ []) l h e
    at (inr l) u h e = l

into_characters : {P T S : Type 0} (r : Reader P T S) (hold : S → S) → ByCharacters r hold → (bytes u : List ℕ) (s : S) (behind : P) (tokens : List T) (rest : List ℕ)
    → ends (encoded r hold) (record { state = s; begun = u }) bytes ≡ whole behind tokens rest → Characters r s (u ++ bytes) behind tokens rest
into_characters r hold f [] u s behind tokens rest e = cc
into_characters {P} {T} {S} r hold f (b ∷ bytes) u s behind tokens rest e =
    at (decoded (u ++ b ∷ [])) refl e (λ g w q. into_characters r hold f bytes w g behind tokens rest q)
  where
    whole_char : (c : ℕ) → decoded (u ++ b ∷ []) ≡ Some c → u ++ b ∷ bytes ≡ encode_utf8 c ++ bytes
    whole_char c q = sym (append_assoc u (b ∷ []) bytes) ∙ ap (λ (w : List ℕ). w ++ bytes) (sym (decoded_is (u ++ b ∷ []) c q).is)

    left_is : (x : P) (y : List T) → (let o : Outcome P T (Held S) = whole x y bytes in o ≡ whole behind tokens rest) → bytes ≡ rest
    left_is x y e = cc

    same : (x : P) (y : List T) → (let o : Outcome P T (Held S) = whole x y bytes in o ≡ whole behind tokens rest) → (let o : Outcome P T S = whole x y [] in o ≡ whole behind tokens [])
    same x y e = let p : x ≡ behind = cc in let t : y ≡ tokens = cc in cc

    by : (c : ℕ) → decoded (u ++ b ∷ []) ≡ Some c → (m : Move P T S) → r.step s c ≡ m → next (lifted m) (λ h. ends (encoded r hold) h bytes) bytes ≡ whole behind tokens rest
        → ((g : S) (w : List ℕ) → ends (encoded r hold) (record { state = g; begun = w }) bytes ≡ whole behind tokens rest → Characters r g (w ++ bytes) behind tokens rest) → Characters r s (u ++ b ∷ bytes) behind tokens rest
    by c q (go g) i e ih =
        let more = ih g [] e in
        record {
          first = c;
          more = more.first ∷ more.more;
          is = whole_char c q ∙ ap (λ (w : List ℕ). encode_utf8 c ++ w) more.is ∙ sym (append_assoc (encode_utf8 c) (encode_utf8_all (more.first ∷ more.more)) rest);
          whole_is = ap (λ (m : Move P T S). next m (λ h. ends r h (more.first ∷ more.more)) (more.first ∷ more.more)) i ∙ more.whole_is;
        }
    by c q (done x y) i e ih = record {
      first = c;
      more = [];
      is = whole_char c q ∙ ap (λ (w : List ℕ). encode_utf8 c ++ w) (left_is x y e) ∙ ap (λ (w : List ℕ). w ++ rest) (sym (append-nil (encode_utf8 c)));
      whole_is = ap (λ (m : Move P T S). next m (λ h. ends r h []) []) i ∙ same x y e;
    }
    by c q fail i e ih = cc

    begun_by : (x : Bool) → is_begun (u ++ b ∷ []) ≡ x → (let z : Move P T (Held S) = if x then go (record { state = hold s; begun = u ++ b ∷ [] }) else fail in next z (λ h. ends (encoded r hold) h bytes) bytes ≡ whole behind tokens rest)
        → ((g : S) (w : List ℕ) → ends (encoded r hold) (record { state = g; begun = w }) bytes ≡ whole behind tokens rest → Characters r g (w ++ bytes) behind tokens rest) → Characters r s (u ++ b ∷ bytes) behind tokens rest
    begun_by true h e ih =
        let more = ih (hold s) (u ++ b ∷ []) e in
        let big = wide more.first u bytes (encode_utf8_all more.more ++ rest) b h (more.is ∙ append_assoc (encode_utf8 more.first) (encode_utf8_all more.more) rest) in
        record {
          first = more.first;
          more = more.more;
          is = sym (append_assoc u (b ∷ []) bytes) ∙ more.is;
          whole_is = ap (λ (m : Move P T S). next m (λ h. ends r h more.more) more.more) (sym (f.holds s more.first big)) ∙ more.whole_is;
        }
    begun_by false h e ih = cc

    at : (o : Option ℕ) → decoded (u ++ b ∷ []) ≡ o → next (by_character r hold s (u ++ b ∷ []) o) (λ h. ends (encoded r hold) h bytes) bytes ≡ whole behind tokens rest
        → ((g : S) (w : List ℕ) → ends (encoded r hold) (record { state = g; begun = w }) bytes ≡ whole behind tokens rest → Characters r g (w ++ bytes) behind tokens rest) → Characters r s (u ++ b ∷ bytes) behind tokens rest
    at None q e ih = begun_by (is_begun (u ++ b ∷ [])) refl e ih
    at (Some c) q e ih = by c q (r.step s c) refl e ih

-- the reader by bytes reads the pieces by their bytes
pub encoded_reads : {P Q T S : Type 0} (l : Language P Q T) (r : Reader P T S) (hold : S → S) → ByCharacters r hold → Reads l r → Reads (encoded_language l) (encoded r hold)
encoded_reads {P} {Q} {T} {S} l r hold f reads = record {
  closed = λ place. reads.closed place;
  opens = λ s g b e. opens s g b (decoded (s.begun ++ b ∷ [])) e;
  complete = λ place p rest h.
      over_characters r hold f (l.spell p) (r.first place) (l.after place p) (l.tokens p) rest (ap (ends r (r.first place)) (sym (append-nil (l.spell p))) ∙ reads.complete place p [] h);
  sound = λ place behind tokens text rest e. sounds place behind tokens text rest (into_characters r hold f text [] (r.first place) behind tokens rest e);
}
  where
    sounds : (place behind : P) (tokens : List T) (text rest : List ℕ) → Characters r (r.first place) text behind tokens rest → Begins (encoded_language l) place text behind tokens rest
    sounds place behind tokens text rest c =
        let b = reads.sound place behind tokens (c.first ∷ c.more) [] c.whole_is in
        record {
          piece = b.piece;
          lawful = b.lawful;
          spelled = ap (λ (w : List ℕ). encode_utf8_all w ++ rest) (sym (append-nil (l.spell b.piece)) ∙ b.spelled) ∙ sym c.is;
          leads = b.leads;
          gives = b.gives;
        }

    same : (h g : Held S) → (let z : Move P T (Held S) = go h in z ≡ go g) → h ≡ g
    same h g e = cc

    some_end : (u : List ℕ) (b : ℕ) → is_some_byte (u ++ b ∷ []) ≡ true
    some_end [] b = refl
    some_end (x ∷ u) b = refl

    lift_opens : (s : S) (g : Held S) (c : ℕ) (m : Move P T S) → r.step s c ≡ m → lifted m ≡ go g → (is_some_byte g.begun || r.is_open g.state) ≡ true
    lift_opens s g c (go x) q e = ap (λ (h : Held S). is_some_byte h.begun || r.is_open h.state) (sym (same (at_state x) g e)) ∙ reads.opens s x c q
    lift_opens s g c (done x y) q e = cc
    lift_opens s g c fail q e = cc

    or_first : (x y : Bool) → x ≡ true → (x || y) ≡ true
    or_first true y e = refl
    or_first false y e = cc

    hold_opens : (s g : Held S) (b : ℕ) (x : Bool) → (let z : Move P T (Held S) = if x then go (record { state = hold s.state; begun = s.begun ++ b ∷ [] }) else fail in z ≡ go g) → (is_some_byte g.begun || r.is_open g.state) ≡ true
    hold_opens s g b true e =
        let w : Held S = record { state = hold s.state; begun = s.begun ++ b ∷ [] } in
        ap (λ (h : Held S). is_some_byte h.begun || r.is_open h.state) (sym (same w g e)) ∙ or_first _ _ (some_end s.begun b)
    hold_opens s g b false e = cc

    opens : (s g : Held S) (b : ℕ) (o : Option ℕ) → by_character r hold s.state (s.begun ++ b ∷ []) o ≡ go g → (is_some_byte g.begun || r.is_open g.state) ≡ true
    opens s g b None e = hold_opens s g b (is_begun (s.begun ++ b ∷ [])) e
    opens s g b (Some c) e = lift_opens s.state g c (r.step s.state c) refl e
