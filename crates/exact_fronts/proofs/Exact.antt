-- The state of the narrowed reader is the front of the page.
use Rattle.std.proofs.Common.{◌≡◌, ℕ, Bool, true, false, List, [], ◌∷◌, ◌++◌, Some, None, refl, sym, ◌∙◌, ap, subst}
use Rattle.std.specs.Prelude.{if◌then◌else◌}
use Rattle.text_base.specs.declared.page_token.PageToken.{PageToken}
use Rattle.dtd_model.specs.Table.{Table}
use Rattle.page_model.specs.PageTokens.{NoPiece}
use Rattle.page_model.specs.Pieces.{after_all}
use Rattle.page_model.specs.Places.{Place, at_beginning}
use Rattle.piece_steps.specs.Languages as language
use Rattle.piece_steps.specs.Readers.{Move, go, done, fail, Reader, Outcome, whole, failed, stuck, next, ends, state_after, kept, narrowed}
use Rattle.piece_steps.specs.Reads.{Reads}
use Rattle.piece_steps.proofs.Outcomes.{state_by, state_of_ends, goes_on}
use Rattle.piece_steps.proofs.States.{state_behind}
use Rattle.character_steps.specs.Bytes.{is_begun}
use Rattle.character_steps.specs.Encoded.{Held, at_state, encoded}
use Rattle.character_steps.proofs.Encoding.{encoded_reads}
use Rattle.page_model.specs.Fronts.{Front, bad, front, CanGoOn, HasFront}
use Rattle.page_steps.specs.PageSteps.{PageState, page_reader, page_hold, page_language}
use Rattle.page_step_laws.specs.Laws.{beginning}
use Rattle.page_step_laws.proofs.Held.{read_by_characters}
use Rattle.page_step_laws.proofs.Tokens.{pieces, place_same, bytes_same, to_lawful}
use Rattle.page_reads.specs.Laws.{IsLawfulTable}
use Rattle.page_reads.proofs.All.{pieces_read}
use Rattle.page_narrowing.specs.Passing.{narrow_reader}
use Rattle.page_narrowing.proofs.Narrow.{by_narrow}
use Rattle.front_laws.specs.Laws.{narrow_state, FrontsLead}
use Rattle.page_endings.specs.Ending.{can_end}
use Rattle.page_endings.specs.Laws.{IsHeldShaped}
use Rattle.page_endings.proofs.Held.{bytes_end, bytes_kept}
use Rattle.exact_fronts.specs.Laws.{state_of, FrontsAreStates, EqualFronts}

-- where a reader that fails sooner is in the middle of a piece, the other is too, in the same state
back_stuck : {P T S : Type 0} (test : S → Bool) (r : Reader P T S) (text : List ℕ) (s g : S) → ends (narrowed test r) s text ≡ stuck g → ends r s text ≡ stuck g
back_stuck {P} {T} {S} test r [] s g e = let q : s ≡ g = cc in ap (λ (x : S). let o : Outcome P T S = stuck x in o) q
back_stuck {P} {T} {S} test r (c ∷ cs) s g e = at (r.step s c) e (λ z q. back_stuck test r cs z g q)
  where
    by : (z : S) (x : Bool) → next (if x then go z else fail) (λ z. ends (narrowed test r) z cs) cs ≡ stuck g → ends (narrowed test r) z cs ≡ stuck g
    by z true e = e
    by z false e = cc

    at : (m : Move P T S) → next (kept test m) (λ z. ends (narrowed test r) z cs) cs ≡ stuck g → ((z : S) → ends (narrowed test r) z cs ≡ stuck g → ends r z cs ≡ stuck g)
        → next m (λ z. ends r z cs) cs ≡ stuck g
    at (go z) e ih = ih z (by z (test z) e)
    at (done p ts) e ih = cc
    at fail e ih = cc

-- and that state passes, where the first does
stuck_passes : {P T S : Type 0} (test : S → Bool) (r : Reader P T S) (text : List ℕ) (s g : S) → test s ≡ true → ends (narrowed test r) s text ≡ stuck g → test g ≡ true
stuck_passes {P} {T} {S} test r [] s g h e = let q : s ≡ g = cc in ap test (sym q) ∙ h
stuck_passes {P} {T} {S} test r (c ∷ cs) s g h e = at (r.step s c) e (λ z i q. stuck_passes test r cs z g i q)
  where
    by : (z : S) (x : Bool) → test z ≡ x → next (if x then go z else fail) (λ z. ends (narrowed test r) z cs) cs ≡ stuck g
        → ((z : S) → test z ≡ true → ends (narrowed test r) z cs ≡ stuck g → test g ≡ true) → test g ≡ true
    by z true i e ih = ih z i e
    by z false i e ih = cc

    at : (m : Move P T S) → next (kept test m) (λ z. ends (narrowed test r) z cs) cs ≡ stuck g → ((z : S) → test z ≡ true → ends (narrowed test r) z cs ≡ stuck g → test g ≡ true) → test g ≡ true
    at (go z) e ih = by z (test z) refl e ih
    at (done p ts) e ih = cc
    at fail e ih = cc

-- what each step keeps is so of the state
stuck_keeps : {P T S : Type 0} (r : Reader P T S) (Holds : S → Type 0) → ((s g : S) (b : ℕ) → r.step s b ≡ go g → Holds s → Holds g) → (text : List ℕ) (s g : S) → Holds s → ends r s text ≡ stuck g → Holds g
stuck_keeps {P} {T} {S} r Holds keeps [] s g h e = let q : s ≡ g = cc in subst Holds q h
stuck_keeps {P} {T} {S} r Holds keeps (c ∷ cs) s g h e = at (r.step s c) refl e (λ z i q. stuck_keeps r Holds keeps cs z g i q)
  where
    at : (m : Move P T S) → r.step s c ≡ m → next m (λ z. ends r z cs) cs ≡ stuck g → ((z : S) → Holds z → ends r z cs ≡ stuck g → Holds g) → Holds g
    at (go z) q e ih = ih z (keeps s z c q h) e
    at (done p ts) q e ih = cc
    at fail q e ih = cc

module _ (table : Table) (lawful : IsLawfulTable table) where
  by_bytes : Reads (pieces table) (encoded (page_reader table) page_hold)
  by_bytes = encoded_reads (page_language table) (page_reader table) page_hold (read_by_characters table) (pieces_read table lawful)

  -- where no character is open none is begun
  first_begun : is_begun [] ≡ true
  unfolding is_begun
  first_begun = refl

  -- of a state that the narrowed reader is in a piece can come
  goes_so : (place : Place) (rest : List ℕ) (g : Held PageState) → ends (narrow_reader table) ((narrow_reader table).first place) rest ≡ stuck g → CanGoOn table place rest
  goes_so place rest g e =
      let here = back_stuck (can_end table) (encoded (page_reader table) page_hold) rest ((narrow_reader table).first place) g e in
      let can = stuck_passes (can_end table) (encoded (page_reader table) page_hold) rest ((narrow_reader table).first place) g refl e in
      let shaped = stuck_keeps (encoded (page_reader table) page_hold) (IsHeldShaped table) (bytes_kept table) rest ((narrow_reader table).first place) g (tt, first_begun) here in
      at (bytes_end table lawful g can shaped) here
    where
      at : (more : List ℕ) × (at_end : Place) × (tokens : List PageToken) × (ends (encoded (page_reader table) page_hold) g more ≡ whole at_end tokens [])
          → ends (encoded (page_reader table) page_hold) ((narrow_reader table).first place) rest ≡ stuck g → CanGoOn table place rest
      at (more, at_end, tokens, q) here =
          let b = by_bytes.sound place at_end tokens (rest ++ more) [] (goes_on (encoded (page_reader table) page_hold) rest ((narrow_reader table).first place) g more here ∙ q) in
          (more, b.piece, [], b.lawful, b.spelled)

  to_going : (place : Place) (bytes : List ℕ) → CanGoOn table place bytes → language.CanGoOn (pieces table) place bytes
  to_going place bytes (others, p, rest, h, e) = (others, p, rest, h, e)

  -- behind the lawful pieces
  behind_pieces : (r : Reader Place PageToken (Held PageState)) → Reads (pieces table) r → r.first at_beginning ≡ at_state beginning → (bytes : List ℕ) (f : Front) (h : HasFront table bytes f)
      → state_after r (Some (at_state beginning)) bytes ≡ state_after r (Some (r.first (after_all at_beginning h.pieces))) h.rest
  behind_pieces r reads first bytes f h =
      ap (state_after r (Some (at_state beginning))) (sym (bytes_same table h.pieces h.rest ∙ h.spelled))
      ∙ ap (λ (s : Held PageState). state_after r (Some s) (language.spelled_then (pieces table) h.pieces h.rest)) (sym first)
      ∙ state_behind (pieces table) r reads h.pieces at_beginning h.rest (to_lawful table h.pieces at_beginning h.lawful)
      ∙ ap (λ (p : Place). state_after r (Some (r.first p)) h.rest) (place_same table h.pieces at_beginning)

  module _ (lead : FrontsLead) where
    bad_at : (place : Place) (rest : List ℕ) → NoPiece table place rest → (CanGoOn table place rest → ⊥) → state_after (narrow_reader table) (Some ((narrow_reader table).first place)) rest ≡ None
    bad_at place rest none dead = state_of_ends (narrow_reader table) rest ((narrow_reader table).first place) ∙ at (ends (narrow_reader table) ((narrow_reader table).first place) rest) refl
      where
        at : (x : Outcome Place PageToken (Held PageState)) → ends (narrow_reader table) ((narrow_reader table).first place) rest ≡ x → state_by (narrow_reader table) x ≡ None
        at (whole at_end tokens left) q = let b = (by_narrow table lawful).sound place at_end tokens rest left q in absurd (none b.piece left b.lawful b.spelled)
        at failed q = refl
        at (stuck g) q = absurd (dead (goes_so place rest g q))

    fronts_are : (bytes : List ℕ) (f : Front) → HasFront table bytes f → narrow_state table bytes ≡ state_of f
    fronts_are bytes bad h = behind_pieces (narrow_reader table) (by_narrow table lawful) refl bytes bad h ∙ bad_at (after_all at_beginning h.pieces) h.rest h.none h.stands
    fronts_are bytes (front place o begun) h = lead table lawful bytes place o begun h

pub fronts_are_states : FrontsLead → FrontsAreStates
fronts_are_states lead table lawful bytes f h = fronts_are table lawful lead bytes f h

pub equal_fronts : FrontsLead → EqualFronts
equal_fronts lead table lawful first second f h g = fronts_are_states lead table lawful first f h ∙ sym (fronts_are_states lead table lawful second f g)
