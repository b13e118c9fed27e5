-- A test of states that fails from then on where it failed once: no piece comes of it, by characters and by bytes.
use Rattle.std.proofs.Common.{◌≡◌, ◌⊎◌, inl, inr, ℕ, ◌≤◌, ◌<◌, Bool, true, false, ◌&&◌, List, [], ◌∷◌, ◌++◌, Option, Some, None, refl, sym, ◌∙◌, ap}
use Rattle.std.specs.Prelude.{if◌then◌else◌}
use Rattle.std.specs.Char.{encode_utf8}
use Rattle.std.proofs.lemmas.Bool.{cases_lt}
use Rattle.std.proofs.lemmas.Str.{encode_ascii}
use Rattle.xml_text.specs.Characters.{is_character}
use Rattle.piece_steps.specs.Readers.{Move, go, done, fail, Reader, whole, next, ends}
use Rattle.piece_steps.proofs.Narrowed.{AllPass}
use Rattle.character_steps.specs.Bytes.{decoded, is_begun}
use Rattle.character_steps.specs.Encoded.{Held, lifted, by_character, byte_step, is_some_byte, encoded}
use Rattle.character_steps.proofs.Begun.{decoded_is}

-- the move fails, or leads where the test fails
abbrev pub Trapped : {P T S : Type 0} → (S → Bool) → Move P T S → Type 0
Trapped test (go s) = test s ≡ false
Trapped test (done place tokens) = ⊥
Trapped test fail = Unit {0}

never : {P T S : Type 0} (test : S → Bool) (r : Reader P T S) → ((s : S) (b : ℕ) → test s ≡ false → Trapped test (r.step s b)) → (text : List ℕ) (s : S) (behind : P) (tokens : List T) (rest : List ℕ)
    → test s ≡ false → ends r s text ≡ whole behind tokens rest → ⊥
never test r keeps [] s behind tokens rest h e = cc
never {P} {T} {S} test r keeps (b ∷ bs) s behind tokens rest h e = at (r.step s b) (keeps s b h) e (λ g k q. never test r keeps bs g behind tokens rest k q)
  where
    at : (m : Move P T S) → Trapped test m → next m (λ g. ends r g bs) bs ≡ whole behind tokens rest → ((g : S) → test g ≡ false → ends r g bs ≡ whole behind tokens rest → ⊥) → ⊥
    at (go g) t e ih = ih g t e
    at (done place given) t e ih = t
    at fail t e ih = cc

-- so each state passes from which a piece ends
end_passes : {P T S : Type 0} (test : S → Bool) (r : Reader P T S) → ((s : S) (b : ℕ) → test s ≡ false → Trapped test (r.step s b)) → (text : List ℕ) (s : S) (behind : P) (tokens : List T) (rest : List ℕ)
    → ends r s text ≡ whole behind tokens rest → test s ≡ true
end_passes test r keeps text s behind tokens rest e = at (test s) refl
  where
    at : (x : Bool) → test s ≡ x → x ≡ true
    at true h = refl
    at false h = absurd (never test r keeps text s behind tokens rest h e)

-- by characters: the test fails from then on, and where no character of several bytes is taken that begins so, each such one leads to where it fails
pub record Trap {P T S : Type 0} (r : Reader P T S) (hold : S → S) (test : S → Bool) (takes : S → List ℕ → Bool) : Type 0 where
  pub keeps : (s : S) (c : ℕ) → test s ≡ false → Trapped test (r.step s c)
  pub refuses : (s : S) (c : ℕ) (u others : List ℕ) → 128 ≤ c → is_character c ≡ true → encode_utf8 c ≡ u ++ others → takes s u ≡ false → Trapped test (r.step s c)
  pub fewer : (s : S) (u : List ℕ) (b : ℕ) → takes s u ≡ false → takes s (u ++ b ∷ []) ≡ false
  pub held_test : (s : S) → test (hold s) ≡ test s
  pub held_takes : (s : S) (u : List ℕ) → takes (hold s) u ≡ takes s u

abbrev pub both : {S : Type 0} → (S → Bool) → (S → List ℕ → Bool) → Held S → Bool
both test takes h = test h.state && (if is_some_byte h.begun then takes h.state h.begun else true)

-- a character of several bytes is no ASCII
several : (u : List ℕ) (b c : ℕ) → is_some_byte u ≡ true → decoded (u ++ b ∷ []) ≡ Some c → 128 ≤ c
several [] b c h e = cc
several (a ∷ u) b c h e = at (cases_lt c 128) u (decoded_is (a ∷ (u ++ b ∷ [])) c e).is
  where
    at : (c < 128) ⊎ (128 ≤ c) → (u : List ℕ) → encode_utf8 c ≡ a ∷ (u ++ b ∷ []) → 128 ≤ c
    at (inl l) [] q = let z : c ∷ [] ≡ a ∷ b ∷ [] = sym (encode_ascii c l) ∙ q in cc
    at (inl l) (x ∷ u) q = let z : c ∷ [] ≡ a ∷ x ∷ (u ++ b ∷ []) = sym (encode_ascii c l) ∙ q in cc
    at (inr l) u q = l

some_end : (u : List ℕ) (b : ℕ) → is_some_byte (u ++ b ∷ []) ≡ true
some_end [] b = refl
some_end (x ∷ u) b = refl

module _ {P T S : Type 0} (r : Reader P T S) (hold : S → S) (test : S → Bool) (takes : S → List ℕ → Bool) (trap : Trap r hold test takes) where
  -- which of the two tests fails
  parts : (h : Held S) → both test takes h ≡ false → (test h.state ≡ false) ⊎ ((is_some_byte h.begun ≡ true) × (takes h.state h.begun ≡ false))
  parts h e = at (test h.state) (is_some_byte h.begun) refl refl e
    where
      at : (x y : Bool) → test h.state ≡ x → is_some_byte h.begun ≡ y → (x && (if y then takes h.state h.begun else true)) ≡ false
          → (test h.state ≡ false) ⊎ ((is_some_byte h.begun ≡ true) × (takes h.state h.begun ≡ false))
      at false y p q e = inl p
      at true true p q e = inr (q, e)
      at true false p q e = cc

  over_character : (h : Held S) (m : Move P T S) → Trapped test m → Trapped (both test takes) (lifted m)
  over_character h (go s) t = ap (λ (x : Bool). x && true) t
  over_character h (done place tokens) t = t
  over_character h fail t = tt

  over_begun : (h : Held S) (b : ℕ) → (test h.state ≡ false) ⊎ (takes h.state h.begun ≡ false) → both test takes (record { state = hold h.state; begun = h.begun ++ b ∷ [] }) ≡ false
  over_begun h b (inl e) =
      ap (λ (x : Bool). x && (if is_some_byte (h.begun ++ b ∷ []) then takes (hold h.state) (h.begun ++ b ∷ []) else true)) (trap.held_test h.state ∙ e)
  over_begun h b (inr e) =
      ap (λ (x : Bool). test (hold h.state) && (if x then takes (hold h.state) (h.begun ++ b ∷ []) else true)) (some_end h.begun b)
      ∙ ap (λ (x : Bool). test (hold h.state) && x) (trap.held_takes h.state (h.begun ++ b ∷ []) ∙ trap.fewer h.state h.begun b e)
      ∙ none (test (hold h.state))
    where
      none : (x : Bool) → (x && false) ≡ false
      none true = refl
      none false = refl

  over_byte : (h : Held S) (b : ℕ) → both test takes h ≡ false → Trapped (both test takes) (byte_step r hold h b)
  over_byte h b e = at (decoded (h.begun ++ b ∷ [])) refl (parts h e)
    where
      either : (test h.state ≡ false) ⊎ ((is_some_byte h.begun ≡ true) × (takes h.state h.begun ≡ false)) → (test h.state ≡ false) ⊎ (takes h.state h.begun ≡ false)
      either (inl p) = inl p
      either (inr p) = inr p.1

      begun_by : (x : Bool) → (test h.state ≡ false) ⊎ (takes h.state h.begun ≡ false)
          → (let z : Move P T (Held S) = if x then go (record { state = hold h.state; begun = h.begun ++ b ∷ [] }) else fail in Trapped (both test takes) z)
      begun_by true p = over_begun h b p
      begun_by false p = tt

      at : (o : Option ℕ) → decoded (h.begun ++ b ∷ []) ≡ o → (test h.state ≡ false) ⊎ ((is_some_byte h.begun ≡ true) × (takes h.state h.begun ≡ false))
          → Trapped (both test takes) (by_character r hold h.state (h.begun ++ b ∷ []) o)
      at None q p = begun_by (is_begun (h.begun ++ b ∷ [])) (either p)
      at (Some c) q (inl p) = over_character h (r.step h.state c) (trap.keeps h.state c p)
      at (Some c) q (inr p) =
          let d = decoded_is (h.begun ++ b ∷ []) c q in
          over_character h (r.step h.state c) (trap.refuses h.state c h.begun (b ∷ []) (several h.begun b c p.0 q) d.character d.is p.1)

  -- the reader by bytes
  pub end_passes_by_bytes : (text : List ℕ) (h : Held S) (behind : P) (tokens : List T) (rest : List ℕ) → ends (encoded r hold) h text ≡ whole behind tokens rest → both test takes h ≡ true
  end_passes_by_bytes text h behind tokens rest e = end_passes (both test takes) (encoded r hold) over_byte text h behind tokens rest e

  pub all_pass_by_bytes : AllPass (both test takes) (encoded r hold)
  all_pass_by_bytes s g b text rest behind tokens e q = end_passes_by_bytes text g behind tokens rest q
