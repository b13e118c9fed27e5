-- The laws by bytes.
use Rattle.std.proofs.Common.{◌≡◌, ℕ, Bool, true, false, ◌&&◌, List, [], ◌∷◌, ◌++◌, Option, Some, None, refl, subst}
use Rattle.std.specs.Prelude.{if◌then◌else◌}
use Rattle.std.proofs.lemmas.Bool.{and_parts}
use Rattle.text_base.specs.declared.page_token.PageToken.{PageToken}
use Rattle.dtd_model.specs.Table.{Table}
use Rattle.page_model.specs.Places.{Place}
use Rattle.piece_steps.specs.Readers.{Move, go, done, fail, whole, ends}
use Rattle.character_steps.specs.Bytes.{decoded, is_begun}
use Rattle.character_steps.specs.Encoded.{Held, at_state, lifted, by_character, encoded}
use Rattle.page_steps.specs.PageSteps.{PageState, page_step, page_reader, page_hold}
use Rattle.page_step_laws.proofs.Held.{read_by_characters}
use Rattle.page_endings.specs.Ending.{open_can_end, takes_several, goes_on_with, can_end}
use Rattle.page_endings.specs.Laws.{at_open, Ends, IsHeldShaped, BytesKept, BytesEnd, EndsCan}
use Rattle.page_endings.specs.Shapes.{IsShaped}
use Rattle.page_endings.proofs.Bytes.{at_character, in_character}
use Rattle.page_endings.proofs.Declared.{Lawful, lawful_parts}
use Rattle.page_endings.proofs.Ends.{ends_so}
use Rattle.page_endings.proofs.Halts.{ends_can as each_can}
use Rattle.page_endings.proofs.Kept.{shapes_kept}
use Rattle.page_endings.proofs.Several.{Leading, several_lead}

pub ends_can : EndsCan
ends_can table h bytes rest next tokens e = each_can table h bytes rest next tokens e

module _ (table : Table) (lawful : Lawful table) where
  abbrev EndsSo : Held PageState → Type 0
  EndsSo h = (bytes : List ℕ) × (next : Place) × (tokens : List PageToken) × (ends (encoded (page_reader table) page_hold) h bytes ≡ whole next tokens [])

  between_characters : (s : PageState) → open_can_end table s.inside ≡ true → IsShaped table s.inside → EndsSo (at_state s)
  between_characters s e h = at (ends_so table lawful s.inside e h)
    where
      at : Ends table s.inside → EndsSo (at_state s)
      at (text, more) = let m = more s.place in at_character (page_reader table) page_hold (read_by_characters table) text s m.0 m.1 m.2

  within_character : (s : PageState) (b : ℕ) (u : List ℕ) → Leading table s.inside (b ∷ u) → EndsSo (record { state = s; begun = b ∷ u })
  within_character s b u l = at l.led
    where
      at : (text : List ℕ) × ((place : Place) → (next : Place) × (tokens : List PageToken) × (ends (page_reader table) (at_open place s.inside) (l.c ∷ text) ≡ whole next tokens []))
          → EndsSo (record { state = s; begun = b ∷ u })
      at (text, more) = let m = more s.place in in_character (page_reader table) page_hold (read_by_characters table) l.c (b ∷ u) l.m l.others text s m.0 m.1 l.character l.is m.2

  ends_by : (s : PageState) (u : List ℕ) → can_end table (record { state = s; begun = u }) ≡ true → IsShaped table s.inside → is_begun u ≡ true → EndsSo (record { state = s; begun = u })
  ends_by s [] e h b = between_characters s (and_parts (open_can_end table s.inside) true e).0 h
  ends_by s (x ∷ u) e h b =
      let p = and_parts (open_can_end table s.inside) (takes_several s.inside && goes_on_with table s.inside (x ∷ u)) e in
      let q = and_parts (takes_several s.inside) (goes_on_with table s.inside (x ∷ u)) p.1 in
      within_character s x u (several_lead table lawful s.inside x u p.0 h b q.0 q.1)

pub bytes_end : BytesEnd
bytes_end table lawful h e s = ends_by table (lawful_parts table lawful) h.state h.begun e s.0 s.1

-- The shapes are kept.

pub bytes_kept : BytesKept
unfolding is_begun
bytes_kept table h g b e s = at (decoded (h.begun ++ b ∷ [])) e
  where
    same_held : (x : Held PageState) → (let m : Move Place PageToken (Held PageState) = go x in m ≡ go g) → x ≡ g
    same_held x q = cc

    over : (m : Move Place PageToken PageState) (c : ℕ) → page_step table h.state c ≡ m → lifted m ≡ go g → IsHeldShaped table g
    over (go t) c q i = subst (IsHeldShaped table) (same_held (at_state t) i) (shapes_kept table h.state t c q s.0, refl)
    over (done next tokens) c q i = cc
    over fail c q i = cc

    held : (x : Bool) → is_begun (h.begun ++ b ∷ []) ≡ x → (let m : Move Place PageToken (Held PageState) = if x then go (record { state = page_hold h.state; begun = h.begun ++ b ∷ [] }) else fail in m ≡ go g)
        → IsHeldShaped table g
    held true q i = subst (IsHeldShaped table) (same_held (record { state = page_hold h.state; begun = h.begun ++ b ∷ [] }) i) (s.0, q)
    held false q i = cc

    at : (o : Option ℕ) → by_character (page_reader table) page_hold h.state (h.begun ++ b ∷ []) o ≡ go g → IsHeldShaped table g
    at None i = held (is_begun (h.begun ++ b ∷ [])) refl i
    at (Some c) i = over (page_step table h.state c) c refl i
