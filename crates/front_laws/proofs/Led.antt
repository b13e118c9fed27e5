-- The front of a page tells the state of its reader.
use Rattle.std.proofs.Common.{◌≡◌, ◌⊎◌, inl, inr, ℕ, Bool, true, false, List, [], ◌∷◌, ◌++◌, Some, None, refl, sym, ◌∙◌, ap, subst, append-nil, append_assoc}
use Rattle.std.specs.Prelude.{if◌then◌else◌}
use Rattle.std.specs.Option.{option_and_then}
use Rattle.std.specs.Str.{encode_utf8_all}
use Rattle.std.proofs.lemmas.Str.{encodes-append}
use Rattle.text_base.specs.declared.page_token.PageToken.{PageToken}
use Rattle.text_base.specs.declared.page_token.PageToken.TheVariants as token
use Rattle.dtd_model.specs.Table.{Table}
use Rattle.page_model.specs.PageTokens.{NoPiece, piece_bytes}
use Rattle.page_model.specs.Pieces.{piece_then, after, after_all}
use Rattle.page_model.specs.Places.{Place, at_beginning, behind_mark, behind}
use Rattle.piece_steps.specs.Languages as language
use Rattle.piece_steps.specs.Readers.{Move, go, done, fail, Reader, Outcome, whole, failed, stuck, next, ends, state_after, kept, narrowed}
use Rattle.piece_steps.proofs.Outcomes.{state_by, state_of_ends}
use Rattle.piece_steps.proofs.States.{state_behind, not_failed, dead_where_none}
use Rattle.character_steps.specs.Encoded.{Held, at_state, encoded}
use Rattle.page_model.specs.Fronts.{Open, nothing, in_reference, in_opener, in_tag_name, in_tag, at_empty_end, in_end_tag, in_comment, in_section, in_target, behind_target, in_instruction, in_declaration, at_declaration_end, in_doctype, kept_place, front, IsBegun, CanGoOn, OpenStands, FrontStands}
use Rattle.page_model.proofs.Once.{Further, further}
use Rattle.page_steps.specs.PageSteps.{PageState, page_reader, page_hold}
use Rattle.page_step_laws.proofs.Held.{read_by_characters}
use Rattle.page_step_laws.proofs.Tokens.{pieces, place_same, bytes_same, to_lawful}
use Rattle.page_reads.specs.Laws.{IsLawfulTable}
use Rattle.page_reads.proofs.All.{pieces_read}
use Rattle.page_narrowing.specs.Passing.{passes, narrow_reader}
use Rattle.page_narrowing.specs.Laws.{narrow_tokens}
use Rattle.page_narrowing.proofs.Narrow.{by_narrow, narrow_tokens_read}
use Rattle.front_laws.specs.Laws.{narrow_state, state_of_front, FrontsLead, SameFronts, FailedAreBad}
use Rattle.front_laws.proofs.Folds.{Folds, folded, here}
use Rattle.front_laws.proofs.Pages.{goes}
use Rattle.front_laws.proofs.Bytes.{over_characters, over_begun}
use Rattle.front_laws.proofs.Characters.{char_step, reads_so}

-- up to some symbol before the end of a piece each leads on
prefix_goes : {P T S : Type 0} (r : Reader P T S) (cs : List ℕ) (d : ℕ) (others : List ℕ) (s : S) (at_end : P) (tokens : List T) → ends r s (cs ++ d ∷ others) ≡ whole at_end tokens []
    → (g : S) × (folded (λ s c. goes (r.step s c)) s cs ≡ Some g)
prefix_goes r [] d others s at_end tokens e = (s, refl)
prefix_goes {P} {T} {S} r (c ∷ cs) d others s at_end tokens e = at (r.step s c) e (λ g q. prefix_goes r cs d others g at_end tokens q)
  where
    some : (cs : List ℕ) → cs ++ d ∷ others ≡ [] → ⊥
    some [] e = cc
    some (x ∷ cs) e = cc

    ended : (p : P) (ts : List T) → (let o : Outcome P T S = whole p ts (cs ++ d ∷ others) in o ≡ whole at_end tokens []) → ⊥
    ended p ts e = some cs (let z : cs ++ d ∷ others ≡ [] = cc in z)

    at : (m : Move P T S) → next m (λ g. ends r g (cs ++ d ∷ others)) (cs ++ d ∷ others) ≡ whole at_end tokens []
        → ((g : S) → ends r g (cs ++ d ∷ others) ≡ whole at_end tokens [] → (h : S) × (folded (λ s c. goes (r.step s c)) g cs ≡ Some h)) → (h : S) × (option_and_then (λ z. folded (λ s c. goes (r.step s c)) z cs) (goes m) ≡ Some h)
    at (go g) e ih = ih g e
    at (done p ts) e ih = absurd (ended p ts e)
    at fail e ih = cc

-- where a reader that fails sooner is in the middle of a piece, each symbol led on
stuck_goes : {P T S : Type 0} (test : S → Bool) (r : Reader P T S) (text : List ℕ) (s g : S) → ends (narrowed test r) s text ≡ stuck g → folded (λ s c. goes (r.step s c)) s text ≡ Some g
stuck_goes {P} {T} {S} test r [] s g e = ap Some (let z : s ≡ g = cc in z)
stuck_goes {P} {T} {S} test r (c ∷ cs) s g e = at (r.step s c) e (λ z q. stuck_goes test r cs z g q)
  where
    by : (z : S) (x : Bool) → next (if x then go z else fail) (λ z. ends (narrowed test r) z cs) cs ≡ stuck g → ends (narrowed test r) z cs ≡ stuck g
    by z true e = e
    by z false e = cc

    at : (m : Move P T S) → next (kept test m) (λ z. ends (narrowed test r) z cs) cs ≡ stuck g → ((z : S) → ends (narrowed test r) z cs ≡ stuck g → folded (λ s c. goes (r.step s c)) z cs ≡ Some g)
        → option_and_then (λ z. folded (λ s c. goes (r.step s c)) z cs) (goes m) ≡ Some g
    at (go z) e ih = ih z (by z (test z) e)
    at (done p ts) e ih = cc
    at fail e ih = cc

kept_some : (o : Open) (b : ℕ) (v : List ℕ) (k : ℕ) → kept_place o (b ∷ v) (behind k) ≡ behind 0
kept_some nothing b v k = refl
kept_some (in_reference r) b v k = refl
kept_some (in_opener begun) b v k = refl
kept_some (in_tag_name name) b v k = refl
kept_some (in_tag name names o) b v k = refl
kept_some (at_empty_end name names) b v k = refl
kept_some (in_end_tag name spaced) b v k = refl
kept_some (in_comment dashes) b v k = refl
kept_some (in_section brackets) b v k = refl
kept_some (in_target o) b v k = refl
kept_some behind_target b v k = refl
kept_some (in_instruction asked) b v k = refl
kept_some (in_declaration names o) b v k = refl
kept_some at_declaration_end b v k = refl
kept_some (in_doctype o) b v k = refl

some_behind : (o : Open) (k : ℕ) → (n : ℕ) × (kept_place o [] (behind k) ≡ behind n)
some_behind nothing k = (k, refl)
some_behind (in_reference r) k = (0, refl)
some_behind (in_opener begun) k = (0, refl)
some_behind (in_tag_name name) k = (0, refl)
some_behind (in_tag name names o) k = (0, refl)
some_behind (at_empty_end name names) k = (0, refl)
some_behind (in_end_tag name spaced) k = (0, refl)
some_behind (in_comment dashes) k = (0, refl)
some_behind (in_section brackets) k = (0, refl)
some_behind (in_target o) k = (0, refl)
some_behind behind_target k = (0, refl)
some_behind (in_instruction asked) k = (0, refl)
some_behind (in_declaration names o) k = (0, refl)
some_behind at_declaration_end k = (0, refl)
some_behind (in_doctype o) k = (0, refl)

kept_begun : (o : Open) (b : ℕ) (v : List ℕ) (place : Place) → kept_place o (0x80 ∷ []) (kept_place o [] place) ≡ kept_place o (b ∷ v) place
kept_begun o b v at_beginning = refl
kept_begun o b v behind_mark = refl
kept_begun o b v (behind k) = let s = some_behind o k in ap (kept_place o (0x80 ∷ [])) s.1 ∙ kept_some o 0x80 [] s.0 ∙ sym (kept_some o b v k)

held_once : (s : PageState) → page_hold (page_hold s) ≡ page_hold s
held_once s = by s.place s.inside
  where
    by : (p : Place) (o : Open) → page_hold (page_hold (record { place = p; inside = o })) ≡ page_hold (record { place = p; inside = o })
    by at_beginning o = refl
    by behind_mark o = refl
    by (behind k) o = ap (λ (p : Place). record { place = p; inside = o }) (ap (kept_place o (0x80 ∷ [])) (kept_some o 0x80 [] k) ∙ kept_some o 0x80 [] 0 ∙ sym (kept_some o 0x80 [] k))

-- a page goes on, as a language
to_going : (table : Table) (place : Place) (bytes : List ℕ) → CanGoOn table place bytes → language.CanGoOn (pieces table) place bytes
to_going table place bytes (others, p, rest, h, e) = (others, p, rest, h, e)

module _ (table : Table) (lawful : IsLawfulTable table) (place : Place) (rest : List ℕ) (none : NoPiece table place rest) where
  -- the characters of the rest are those of a piece, but not all
  record Begun (cs : List ℕ) : Type 0 where
    state : PageState
    reads : folded (char_step table) (record { place = place; inside = nothing }) cs ≡ Some state

  begun_piece : (cs begun : List ℕ) → encode_utf8_all cs ++ begun ≡ rest → CanGoOn table place rest → Begun cs
  begun_piece cs begun e (others, p, left, h, q) = at (further (piece_then p []) cs left (begun ++ others) (q ∙ ap (λ (w : List ℕ). w ++ others) (sym e) ∙ append_assoc (encode_utf8_all cs) begun others))
    where
      goes_so : (zs : List ℕ) → piece_then p [] ≡ cs ++ zs → Begun cs
      goes_so [] f = absurd (none p begun h (ap (λ (w : List ℕ). encode_utf8_all w ++ begun) (f ∙ append-nil cs) ∙ e))
      goes_so (z ∷ zs) f =
          let c = (pieces_read table lawful).complete place p [] h in
          let g = prefix_goes (page_reader table) cs z zs (record { place = place; inside = nothing }) (after place p) _ (ap (ends (page_reader table) (record { place = place; inside = nothing })) (sym (append-nil (piece_then p []) ∙ f)) ∙ c) in
          record { state = g.0; reads = g.1 }

      at : Further (piece_then p []) cs left (begun ++ others) ⊎ Further cs (piece_then p []) (begun ++ others) left → Begun cs
      at (inl (zs, f, k)) = goes_so zs f
      at (inr (zs, f, k)) =
          absurd (none p (encode_utf8_all zs ++ begun) h
          (sym (append_assoc (piece_bytes p) (encode_utf8_all zs) begun) ∙ ap (λ (w : List ℕ). w ++ begun) (sym (encodes-append (piece_then p []) zs) ∙ ap encode_utf8_all (sym f)) ∙ e))

  -- behind the characters, and the first bytes of one more
  bytes_so : (place_kept : Place) (o : Open) (cs begun : List ℕ) → OpenStands table o cs → IsBegun begun → place_kept ≡ kept_place o begun place → Begun cs
      → Folds (λ h b. goes ((encoded (page_reader table) page_hold).step h b)) (at_state (record { place = place; inside = nothing })) (encode_utf8_all cs ++ begun) (state_of_front place_kept o begun)
  bytes_so place_kept o cs begun stands is_begun seen b =
      over_characters (page_reader table) page_hold (read_by_characters table) held_once cs (record { place = place; inside = nothing }) (record { place = kept_place o [] place; inside = o }) begun (state_of_front place_kept o begun)
      (b.reads ∙ ap Some ((reads_so table lawful place o cs stands).is b.state b.reads)) (at begun is_begun seen)
    where
      at : (begun : List ℕ) → IsBegun begun → place_kept ≡ kept_place o begun place
          → Folds (λ h b. goes ((encoded (page_reader table) page_hold).step h b)) (at_state (record { place = kept_place o [] place; inside = o })) begun (state_of_front place_kept o begun)
      at [] is_begun seen = here (ap (λ (p : Place). at_state (record { place = p; inside = o })) (sym seen))
      at (b ∷ v) (c, h, (others, some, e)) seen =
          subst (λ (w : Held PageState). Folds (λ h b. goes ((encoded (page_reader table) page_hold).step h b)) (at_state (record { place = kept_place o [] place; inside = o })) (b ∷ v) w)
          (ap (λ (p : Place). record { state = record { place = p; inside = o }; begun = b ∷ v }) (kept_begun o b v place ∙ sym seen))
          (over_begun (page_reader table) page_hold (read_by_characters table) held_once c b v others (record { place = kept_place o [] place; inside = o }) h some e)

  -- the reader is in the middle of a piece
  led_so : (place_kept : Place) (o : Open) (begun : List ℕ) → FrontStands table place rest (front place_kept o begun) → state_after (narrow_reader table) (Some ((narrow_reader table).first place)) rest ≡ Some (state_of_front place_kept o begun)
  led_so place_kept o begun (going, (cs, e, is_begun, stands, seen)) = state_of_ends (narrow_reader table) rest ((narrow_reader table).first place) ∙ at (ends (narrow_reader table) ((narrow_reader table).first place) rest) refl
    where
      at : (x : Outcome Place PageToken (Held PageState)) → ends (narrow_reader table) ((narrow_reader table).first place) rest ≡ x → state_by (narrow_reader table) x ≡ Some (state_of_front place_kept o begun)
      at (whole next tokens left) q = let b = (by_narrow table lawful).sound place next tokens rest left q in absurd (none b.piece left b.lawful b.spelled)
      at failed q = absurd (not_failed (pieces table) (narrow_reader table) (by_narrow table lawful) place rest (to_going table place rest going) q)
      at (stuck g) q =
          let f = bytes_so place_kept o cs begun stands is_begun seen (begun_piece cs begun e going) in
          ap Some (f.is g (ap (folded (λ h b. goes ((encoded (page_reader table) page_hold).step h b)) (at_state (record { place = place; inside = nothing }))) e ∙ stuck_goes (passes table) (encoded (page_reader table) page_hold) rest (at_state (record { place = place; inside = nothing })) g q))

pub fronts_lead : FrontsLead
fronts_lead table lawful bytes place o begun h =
    let l = to_lawful table h.pieces at_beginning h.lawful in
    let b = state_behind (pieces table) (narrow_reader table) (by_narrow table lawful) h.pieces at_beginning h.rest l in
    ap (narrow_state table) (sym (bytes_same table h.pieces h.rest ∙ h.spelled))
    ∙ b
    ∙ ap (λ (p : Place). state_after (narrow_reader table) (Some ((narrow_reader table).first p)) h.rest) (place_same table h.pieces at_beginning)
    ∙ led_so table lawful (after_all at_beginning h.pieces) h.rest h.none place o begun h.stands

pub same_fronts : SameFronts
same_fronts table lawful first second place o begun h g = fronts_lead table lawful first place o begun h ∙ sym (fronts_lead table lawful second place o begun g)

pub failed_are_bad : FailedAreBad
failed_are_bad table lawful bytes e =
    let t = (narrow_tokens_read table lawful bytes (narrow_tokens table bytes)).1 refl in
    let place = after_all at_beginning t.pieces in
    let b = state_behind (pieces table) (narrow_reader table) (by_narrow table lawful) t.pieces at_beginning t.rest (to_lawful table t.pieces at_beginning t.lawful) in
    let f : state_after (narrow_reader table) (Some ((narrow_reader table).first place)) t.rest ≡ None =
    ap (λ (p : Place). state_after (narrow_reader table) (Some ((narrow_reader table).first p)) t.rest) (sym (place_same table t.pieces at_beginning)) ∙ sym b ∙ ap (narrow_state table) (bytes_same table t.pieces t.rest ∙ t.spelled) ∙ e in
    record {
      pieces = t.pieces;
      rest = t.rest;
      lawful = t.lawful;
      spelled = t.spelled;
      none = t.none;
      stands = λ going. dead_where_none (pieces table) (narrow_reader table) (by_narrow table lawful) place t.rest (λ p rest h e. t.none p rest h e) f (to_going table place t.rest going);
    }
