-- From characters to bytes: the state behind the UTF-8 of characters, and behind the first bytes of one more.
use Rattle.std.proofs.Common.{◌≡◌, ◌≢◌, ◌⊎◌, inl, inr, ℕ, ◌≤◌, ◌<◌, Bool, true, false, List, [], ◌∷◌, ◌++◌, Option, Some, None, refl, sym, ◌∙◌, ap, subst, append-nil, append_assoc}
use Rattle.std.specs.Prelude.{if◌then◌else◌}
use Rattle.std.specs.Char.{encode_utf8}
use Rattle.std.specs.Option.{option_and_then}
use Rattle.std.specs.Str.{encode_utf8_all}
use Rattle.std.proofs.lemmas.Bool.{cases_lt}
use Rattle.std.proofs.lemmas.Str.{encode_ascii}
use Rattle.xml_text.specs.Characters.{is_character}
use Rattle.piece_steps.specs.Languages.{Language}
use Rattle.piece_steps.specs.Readers.{Move, go, done, fail, Reader, Outcome, whole, next, ends}
use Rattle.piece_steps.specs.Reads.{Begins, Reads}
use Rattle.character_steps.specs.Bytes.{decoded, is_begun}
use Rattle.character_steps.specs.Encoded.{Held, at_state, lifted, by_character, encoded, ByCharacters}
use Rattle.character_steps.proofs.Encoding.{encoded_reads}
use Rattle.front_laws.proofs.Folds.{folded, Folds, From, same, here, on, somewhere}
use Rattle.front_laws.proofs.Pages.{goes}

-- The bytes of one character, told by a reader for which each character is a piece.

abbrev one_reader : Reader (Unit {0}) ℕ (Unit {0})
one_reader = record { first = λ place. tt; step = λ s c. if is_character c then done tt (c ∷ []) else fail; is_open = λ s. false; bad = 0 }

abbrev one_language : Language (Unit {0}) ℕ ℕ
one_language = record { Lawful = λ place c. is_character c ≡ true; spell = λ c. c ∷ []; after = λ place c. tt; tokens = λ c. c ∷ [] }

abbrev Outcomes : Type 0
Outcomes = Outcome (Unit {0}) ℕ (Unit {0})

one_reads : Reads one_language one_reader
one_reads = record {
  closed = λ place. refl;
  opens = λ s g b e. absurd (no_go b g (is_character b) e);
  complete = λ place c rest h. ap (λ (b : Bool). let m : Move (Unit {0}) ℕ (Unit {0}) = if b then done tt (c ∷ []) else fail in next m (λ g. ends one_reader g rest) rest) h;
  sound = λ place behind tokens text rest e. sound place behind tokens text rest e;
}
  where
    no_go : (b : ℕ) (g : Unit {0}) (x : Bool) → (let m : Move (Unit {0}) ℕ (Unit {0}) = if x then done tt (b ∷ []) else fail in m ≡ go g) → ⊥
    no_go b g true e = cc
    no_go b g false e = cc

    at : (place behind : Unit {0}) (tokens : List ℕ) (c : ℕ) (cs rest : List ℕ) (x : Bool) → is_character c ≡ x
        → (let m : Move (Unit {0}) ℕ (Unit {0}) = if x then done tt (c ∷ []) else fail in next m (λ g. ends one_reader g cs) cs ≡ whole behind tokens rest) → Begins one_language place (c ∷ cs) behind tokens rest
    at place behind tokens c cs rest true h e = record { piece = c; lawful = h; spelled = ap (λ (w : List ℕ). c ∷ w) (sym (let z : cs ≡ rest = cc in z)); leads = refl; gives = let z : c ∷ [] ≡ tokens = cc in z }
    at place behind tokens c cs rest false h e = cc

    sound : (place behind : Unit {0}) (tokens text rest : List ℕ) → ends one_reader tt text ≡ whole behind tokens rest → Begins one_language place text behind tokens rest
    sound place behind tokens [] rest e = cc
    sound place behind tokens (c ∷ cs) rest e = at place behind tokens c cs rest (is_character c) refl e

one_by_characters : ByCharacters one_reader (λ s. s)
one_by_characters = record { strict = λ s c h. ap (λ (b : Bool). let m : Move (Unit {0}) ℕ (Unit {0}) = if b then done tt (c ∷ []) else fail in m) h; holds = λ s c h. refl }

abbrev one_encoded : Reader (Unit {0}) ℕ (Held (Unit {0}))
one_encoded = encoded one_reader (λ s. s)

-- behind some bytes of a character, the others lead to it
abbrev Rest : List ℕ → List ℕ → ℕ → Type 0
Rest u bytes c = ends one_encoded (record { state = tt; begun = u }) bytes ≡ whole tt (c ∷ []) []

whole_character : (c : ℕ) → is_character c ≡ true → Rest [] (encode_utf8 c) c
whole_character c h =
    let r = encoded_reads one_language one_reader (λ s. s) one_by_characters one_reads in
    ap (ends one_encoded (at_state tt)) (sym (append-nil (encode_utf8 c)) ∙ sym (append-nil (encode_utf8 c ++ []))) ∙ r.complete tt c [] h

module _ {P T S : Type 0} (r : Reader P T S) (hold : S → S) (is : ByCharacters r hold) (kept : (s : S) → hold (hold s) ≡ hold s) where
  abbrev Bytes : Held S → List ℕ → Held S → Type 0
  Bytes h text w = Folds (λ h b. goes ((encoded r hold).step h b)) h text w

  abbrev Behind : Option (Held S) → List ℕ → Held S → Type 0
  Behind o text w = From (λ h b. goes ((encoded r hold).step h b)) o text w

  abbrev held : S → List ℕ → Held S
  held s u = record { state = s; begun = u }

  -- one byte of a character that leads on
  one_byte : (v : List ℕ) (b c : ℕ) (s g : S) (u rest : List ℕ) (w : Held S) → r.step s c ≡ go g → Bytes (at_state g) rest w
      → (Rest (u ++ b ∷ []) v c → Bytes (held (hold s) (u ++ b ∷ [])) (v ++ rest) w) → Rest u (b ∷ v) c → Bytes (held s u) ((b ∷ v) ++ rest) w
  one_byte v b c s g u rest w e f ih h = on (by (decoded (u ++ b ∷ [])) h)
    where
      last : (d : ℕ) (x : Bool) → (let m : Move (Unit {0}) ℕ (Unit {0}) = if x then done tt (d ∷ []) else fail in next (lifted m) (λ z. ends one_encoded z v) v ≡ whole tt (c ∷ []) []) → Behind (goes (lifted (r.step s d))) (v ++ rest) w
      last d true h =
          let left : v ≡ [] = cc in
          let is_it : d ≡ c = cc in
          subst (λ (x : List ℕ). Behind (goes (lifted (r.step s d))) (x ++ rest) w) (sym left)
          (subst (λ (m : Move P T S). Behind (goes (lifted m)) rest w) (sym (ap (r.step s) is_it ∙ e)) (somewhere f))
      last d false h = cc

      begun : (x : Bool) → (let m : Move (Unit {0}) ℕ (Held (Unit {0})) = if x then go (record { state = tt; begun = u ++ b ∷ [] }) else fail in next m (λ z. ends one_encoded z v) v ≡ whole tt (c ∷ []) [])
          → Behind (let m : Move P T (Held S) = if x then go (held (hold s) (u ++ b ∷ [])) else fail in goes m) (v ++ rest) w
      begun true h = somewhere (ih h)
      begun false h = cc

      by : (o : Option ℕ) → next (by_character one_reader (λ s. s) tt (u ++ b ∷ []) o) (λ z. ends one_encoded z v) v ≡ whole tt (c ∷ []) [] → Behind (goes (by_character r hold s (u ++ b ∷ []) o)) (v ++ rest) w
      by (Some d) h = last d (is_character d) h
      by None h = begun (is_begun (u ++ b ∷ [])) h

  over_bytes : (v : List ℕ) (b c : ℕ) (s g : S) (u rest : List ℕ) (w : Held S) → (128 ≤ c) ⊎ (v ≡ []) → r.step s c ≡ go g → Bytes (at_state g) rest w → Rest u (b ∷ v) c → Bytes (held s u) ((b ∷ v) ++ rest) w
  over_bytes [] b c s g u rest w big e f h = one_byte [] b c s g u rest w e f (λ k. cc) h
  over_bytes (d ∷ v) b c s g u rest w (inr none) e f h = cc
  over_bytes (d ∷ v) b c s g u rest w (inl big) e f h = one_byte (d ∷ v) b c s g u rest w e f (λ k. over_bytes v d c (hold s) g (u ++ b ∷ []) rest w (inl big) (is.holds s c big ∙ e) f k) h

  over_character : (c : ℕ) (s g : S) (rest : List ℕ) (w : Held S) → is_character c ≡ true → r.step s c ≡ go g → Bytes (at_state g) rest w → Bytes (at_state s) (encode_utf8 c ++ rest) w
  over_character c s g rest w h e f = at (encode_utf8 c) refl (whole_character c h)
    where
      big : (b : ℕ) (v : List ℕ) → encode_utf8 c ≡ b ∷ v → (c < 128) ⊎ (128 ≤ c) → (128 ≤ c) ⊎ (v ≡ [])
      big b v q (inl l) = let z : c ∷ [] ≡ b ∷ v = sym (encode_ascii c l) ∙ q in inr (sym (let y : [] ≡ v = cc in y))
      big b v q (inr l) = inl l

      at : (x : List ℕ) → encode_utf8 c ≡ x → Rest [] x c → Bytes (at_state s) (x ++ rest) w
      at [] q k = cc
      at (b ∷ v) q k = over_bytes v b c s g [] rest w (big b v q (cases_lt c 128)) e f k

  pub over_characters : (cs : List ℕ) (s g : S) (rest : List ℕ) (w : Held S) → folded (λ s c. goes (r.step s c)) s cs ≡ Some g → Bytes (at_state g) rest w → Bytes (at_state s) (encode_utf8_all cs ++ rest) w
  over_characters [] s g rest w e f = subst (λ (x : S). Bytes (at_state x) rest w) (sym (same s g e)) f
  over_characters (c ∷ cs) s g rest w e f = at (r.step s c) refl e (λ z q. over_characters cs z g rest w q f)
    where
      char : (z : S) → r.step s c ≡ go z → (x : Bool) → is_character c ≡ x → x ≡ true
      char z q true h = refl
      char z q false h = let y : (let m : Move P T S = fail in m) ≡ go z = sym (is.strict s c h) ∙ q in cc

      at : (m : Move P T S) → r.step s c ≡ m → option_and_then (λ z. folded (λ s c. goes (r.step s c)) z cs) (goes m) ≡ Some g → ((z : S) → folded (λ s c. goes (r.step s c)) z cs ≡ Some g → Bytes (at_state z) (encode_utf8_all cs ++ rest) w)
          → Bytes (at_state s) (encode_utf8_all (c ∷ cs) ++ rest) w
      at (go z) q e ih =
          subst (λ (x : List ℕ). Bytes (at_state s) x w) (sym (append_assoc (encode_utf8 c) (encode_utf8_all cs) rest))
          (over_character c s z (encode_utf8_all cs ++ rest) w (char z q (is_character c) refl) q (ih z e))
      at (done place tokens) q e ih = cc
      at fail q e ih = cc

  -- Behind the first bytes of a character, but not all.

  one_begun : (v : List ℕ) (b c : ℕ) (s : S) (u m : List ℕ) (d : ℕ) (w : Held S) → (Rest (u ++ b ∷ []) (v ++ d ∷ m) c → Bytes (held (hold s) (u ++ b ∷ [])) v w) → Rest u ((b ∷ v) ++ d ∷ m) c → Bytes (held s u) (b ∷ v) w
  one_begun v b c s u m d w ih h = on (by (decoded (u ++ b ∷ [])) h)
    where
      some : (v : List ℕ) → v ++ d ∷ m ≡ [] → ⊥
      some [] e = cc
      some (x ∷ v) e = cc

      last : (x : ℕ) (y : Bool) → (let n : Move (Unit {0}) ℕ (Unit {0}) = if y then done tt (x ∷ []) else fail in next (lifted n) (λ z. ends one_encoded z (v ++ d ∷ m)) (v ++ d ∷ m) ≡ whole tt (c ∷ []) []) → ⊥
      last x true h = some v (let z : v ++ d ∷ m ≡ [] = cc in z)
      last x false h = cc

      begun : (x : Bool) → (let n : Move (Unit {0}) ℕ (Held (Unit {0})) = if x then go (record { state = tt; begun = u ++ b ∷ [] }) else fail in next n (λ z. ends one_encoded z (v ++ d ∷ m)) (v ++ d ∷ m) ≡ whole tt (c ∷ []) [])
          → Behind (let n : Move P T (Held S) = if x then go (held (hold s) (u ++ b ∷ [])) else fail in goes n) v w
      begun true h = somewhere (ih h)
      begun false h = cc

      by : (o : Option ℕ) → next (by_character one_reader (λ s. s) tt (u ++ b ∷ []) o) (λ z. ends one_encoded z (v ++ d ∷ m)) (v ++ d ∷ m) ≡ whole tt (c ∷ []) [] → Behind (goes (by_character r hold s (u ++ b ∷ []) o)) v w
      by (Some x) h = absurd (last x (is_character x) h)
      by None h = begun (is_begun (u ++ b ∷ [])) h

  begun_from : (v : List ℕ) (b c : ℕ) (s : S) (u m : List ℕ) (d : ℕ) → Rest u ((b ∷ v) ++ d ∷ m) c → Bytes (held s u) (b ∷ v) (held (hold s) (u ++ b ∷ v))
  begun_from [] b c s u m d h = one_begun [] b c s u m d (held (hold s) (u ++ b ∷ [])) (λ k. here refl) h
  begun_from (a ∷ v) b c s u m d h =
      one_begun (a ∷ v) b c s u m d (held (hold s) (u ++ b ∷ a ∷ v))
      (λ k. subst (λ (w : Held S). Bytes (held (hold s) (u ++ b ∷ [])) (a ∷ v) w) (ap (λ (x : S). held x ((u ++ b ∷ []) ++ a ∷ v)) (kept s) ∙ ap (held (hold s)) (append_assoc u (b ∷ []) (a ∷ v))) (begun_from v a c (hold s) (u ++ b ∷ []) m d k)) h

  pub over_begun : (c b : ℕ) (v others : List ℕ) (s : S) → is_character c ≡ true → (others ≢ []) → encode_utf8 c ≡ (b ∷ v) ++ others → Bytes (at_state s) (b ∷ v) (held (hold s) (b ∷ v))
  over_begun c b v [] s h some e = absurd (some refl)
  over_begun c b v (d ∷ m) s h some e = begun_from v b c s [] m d (subst (λ (x : List ℕ). Rest [] x c) e (whole_character c h))
