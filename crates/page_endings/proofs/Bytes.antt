-- By bytes, and behind the first bytes of a character too.
use Rattle.std.proofs.Common.{◌≡◌, ◌⊎◌, inl, inr, ℕ, ◌≤◌, ◌<◌, Bool, true, false, List, [], ◌∷◌, ◌++◌, Option, Some, refl, sym, ◌∙◌, ap, arith, length, append_assoc}
use Rattle.std.specs.Prelude.{if◌then◌else◌}
use Rattle.std.specs.Char.{encode_utf8}
use Rattle.std.specs.Str.{encode_utf8_all}
use Rattle.std.proofs.lemmas.Bool.{cases_lt}
use Rattle.std.proofs.lemmas.Str.{length-encode, len_utf8_bounds}
use Rattle.xml_text.specs.Characters.{is_character}
use Rattle.piece_steps.specs.Readers.{Move, go, done, fail, Reader, Outcome, whole, next, ends}
use Rattle.character_steps.specs.Bytes.{decoded}
use Rattle.character_steps.specs.Encoded.{Held, at_state, lifted, by_character, encoded, ByCharacters}
use Rattle.character_steps.proofs.Begun.{decoded_whole, decoded_part, begun_part, one_byte}

-- over the bytes of a character

several : (c : ℕ) (a b : ℕ) (u : List ℕ) → encode_utf8 c ≡ a ∷ b ∷ u → 128 ≤ c
several c a b u e = at (cases_lt c 128)
  where
    at : (c < 128) ⊎ (128 ≤ c) → 128 ≤ c
    at (inl l) = let z : c ∷ [] ≡ a ∷ b ∷ u = sym (one_byte c l) ∙ e in cc
    at (inr l) = l

pub two_at_least : (c : ℕ) (u : List ℕ) (a b : ℕ) (v : List ℕ) → u ++ a ∷ b ∷ v ≡ encode_utf8 c → 128 ≤ c
two_at_least c [] a b v e = several c a b v (sym e)
two_at_least c (x ∷ []) a b v e = several c x a (b ∷ v) (sym e)
two_at_least c (x ∷ y ∷ u) a b v e = several c x y (u ++ a ∷ b ∷ v) (sym e)

pub over_one : {P T S : Type 0} (r : Reader P T S) (hold : S → S) → ByCharacters r hold → (c : ℕ) → is_character c ≡ true → (m : Move P T S) (v : List ℕ) (b : ℕ) (s : S) (u more : List ℕ)
    → u ++ b ∷ v ≡ encode_utf8 c → r.step s c ≡ m → ends (encoded r hold) (record { state = s; begun = u }) ((b ∷ v) ++ more) ≡ next (lifted m) (λ h. ends (encoded r hold) h more) more
over_one {P} {T} {S} r hold f c h m [] b s u more e q =
    let whole_is : decoded (u ++ b ∷ []) ≡ Some c = ap decoded e ∙ decoded_whole c h in
    ap (λ (o : Option ℕ). next (by_character r hold s (u ++ b ∷ []) o) (λ h. ends (encoded r hold) h more) more) whole_is
    ∙ ap (λ (m : Move P T S). next (lifted m) (λ h. ends (encoded r hold) h more) more) q
over_one {P} {T} {S} r hold f c h m (d ∷ v) b s u more e q =
    let moved : (u ++ b ∷ []) ++ d ∷ v ≡ encode_utf8 c = append_assoc u (b ∷ []) (d ∷ v) ∙ e in
    ap (λ (o : Option ℕ). next (by_character r hold s (u ++ b ∷ []) o) (λ h. ends (encoded r hold) h ((d ∷ v) ++ more)) ((d ∷ v) ++ more)) (decoded_part c (u ++ b ∷ []) d v moved)
    ∙ ap (λ (x : Bool). let z : Move P T (Held S) = if x then go (record { state = hold s; begun = u ++ b ∷ [] }) else fail in next z (λ h. ends (encoded r hold) h ((d ∷ v) ++ more)) ((d ∷ v) ++ more)) (begun_part c h (u ++ b ∷ []) d v moved)
    ∙ over_one r hold f c h m v d (hold s) (u ++ b ∷ []) more moved (f.holds s c (two_at_least c u b d v e) ∙ q)

some_first : (c : ℕ) → (b : ℕ) × (v : List ℕ) × (encode_utf8 c ≡ b ∷ v)
some_first c = at (encode_utf8 c) refl
  where
    at : (w : List ℕ) → encode_utf8 c ≡ w → (b : ℕ) × (v : List ℕ) × (encode_utf8 c ≡ b ∷ v)
    at [] e =
        let z : length (encode_utf8 c) ≡ 0 = ap length e in
        let m = length-encode c in
        let l = (len_utf8_bounds c).0 in
        absurd (omega arith)
    at (b ∷ v) e = (b, v, e)

-- some bytes end a piece
abbrev pub Ended : {P T S : Type 0} → Reader P T S → (S → S) → Held S → Type 0
Ended {P} {T} {S} r hold h = (bytes : List ℕ) × (at_end : P) × (tokens : List T) × (ends (encoded r hold) h bytes ≡ whole at_end tokens [])

module _ {P T S : Type 0} (r : Reader P T S) (hold : S → S) (f : ByCharacters r hold) where
  -- over characters up to the end of a piece
  pub over_characters : (cs : List ℕ) (s : S) (at_end : P) (tokens : List T) → ends r s cs ≡ whole at_end tokens [] → ends (encoded r hold) (at_state s) (encode_utf8_all cs) ≡ whole at_end tokens []
  over_characters [] s at_end tokens e = cc
  over_characters (c ∷ cs) s at_end tokens e = at (is_character c) refl (λ g q. over_characters cs g at_end tokens q)
    where
      same : (x : P) (y : List T) (z : List ℕ) → (let o : Outcome P T S = whole x y z in o ≡ whole at_end tokens []) → (let o : Outcome P T (Held S) = whole x y (encode_utf8_all z) in o ≡ whole at_end tokens [])
      same x y [] q = let p : x ≡ at_end = cc in let t : y ≡ tokens = cc in cc
      same x y (a ∷ z) q = cc

      by : (m : Move P T S) → next m (λ g. ends r g cs) cs ≡ whole at_end tokens [] → ((g : S) → ends r g cs ≡ whole at_end tokens [] → ends (encoded r hold) (at_state g) (encode_utf8_all cs) ≡ whole at_end tokens [])
          → next (lifted m) (λ h. ends (encoded r hold) h (encode_utf8_all cs)) (encode_utf8_all cs) ≡ whole at_end tokens []
      by (go g) q ih = ih g q
      by (done x y) q ih = same x y cs q
      by fail q ih = cc

      at : (b : Bool) → is_character c ≡ b → ((g : S) → ends r g cs ≡ whole at_end tokens [] → ends (encoded r hold) (at_state g) (encode_utf8_all cs) ≡ whole at_end tokens [])
          → ends (encoded r hold) (at_state s) (encode_utf8_all (c ∷ cs)) ≡ whole at_end tokens []
      at true h ih =
          let w = some_first c in
          ap (ends (encoded r hold) (at_state s)) (ap (λ (u : List ℕ). u ++ encode_utf8_all cs) w.2)
          ∙ over_one r hold f c h (r.step s c) w.1 w.0 s [] (encode_utf8_all cs) (sym w.2) refl
          ∙ by (r.step s c) e ih
      at false h ih = let z : next fail (λ g. ends r g cs) cs ≡ whole at_end tokens [] = ap (λ (m : Move P T S). next m (λ g. ends r g cs) cs) (sym (f.strict s c h)) ∙ e in cc

  -- behind no byte of a character
  pub at_character : (cs : List ℕ) (s : S) (at_end : P) (tokens : List T) → ends r s cs ≡ whole at_end tokens [] → Ended r hold (at_state s)
  at_character cs s at_end tokens e = (encode_utf8_all cs, at_end, tokens, over_characters cs s at_end tokens e)

  -- behind some, with which this character begins
  pub in_character : (c : ℕ) (u : List ℕ) (m : ℕ) (others cs : List ℕ) (s : S) (at_end : P) (tokens : List T) → is_character c ≡ true → u ++ m ∷ others ≡ encode_utf8 c
      → ends r s (c ∷ cs) ≡ whole at_end tokens [] → Ended r hold (record { state = s; begun = u })
  in_character c u m others cs s at_end tokens h e q =
      ((m ∷ others) ++ encode_utf8_all cs, at_end, tokens, over_one r hold f c h (r.step s c) others m s u (encode_utf8_all cs) e refl ∙ by (r.step s c) q)
    where
      same : (x : P) (y : List T) (z : List ℕ) → (let o : Outcome P T S = whole x y z in o ≡ whole at_end tokens []) → (let o : Outcome P T (Held S) = whole x y (encode_utf8_all z) in o ≡ whole at_end tokens [])
      same x y [] q = let p : x ≡ at_end = cc in let t : y ≡ tokens = cc in cc
      same x y (a ∷ z) q = cc

      by : (m : Move P T S) → next m (λ g. ends r g cs) cs ≡ whole at_end tokens [] → next (lifted m) (λ h. ends (encoded r hold) h (encode_utf8_all cs)) (encode_utf8_all cs) ≡ whole at_end tokens []
      by (go g) q = over_characters cs g at_end tokens q
      by (done x y) q = same x y cs q
      by fail q = cc
