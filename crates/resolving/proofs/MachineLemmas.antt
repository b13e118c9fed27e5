-- What the machine of an operation puts out over a text of bytes.
use Rattle.std.proofs.Common.{◌≡◌, ◌+◌, ℕ, true, List, [], ◌∷◌, ◌++◌, map, refl, sym, ◌∙◌, ap, subst}
use Rattle.std.specs.List.{All, list_all}
use Rattle.std.proofs.lemmas.List.Elements.{All-contains}
use Rattle.text_base.specs.declared.page_token.PageToken.{PageToken}
use Rattle.text_base.specs.declared.letter.Letter.{Letter}
use Rattle.text_base.specs.declared.letter.Letter.TheVariants.{OfByte}
use Rattle.fst_core.specs.Letter.{letter_of}
use Rattle.fst_core.specs.Runs.{Runs}
use Rattle.fst_core.specs.Tables.{TableStep, TableRelates}
use Rattle.fst_core.specs.declared.out.Out.{Out}
use Rattle.fst_core.specs.declared.out.Out.TheVariants as out
use Rattle.fst_core.specs.declared.moves.TableMove.{TableMove}
use Rattle.fst_core.specs.declared.moves.TableEnd.{TableEnd}
use Rattle.fst_core.specs.declared.table.Table.{Table}
use Rattle.string_ops.specs.Listed.{is_plain, byte_of, IsShort, AreBytes, IsMachine}
use Rattle.resolving.proofs.LetterLemmas.{letters_append, first_so, second_so}

-- letters that are bytes
pub record AreOfBytes (w : List Letter) : Type 0 where
  pub text : List ℕ
  pub is : w ≡ map OfByte text

token_plain : (t : PageToken) → is_plain (out.Token t) ≡ true → ⊥
token_plain t e = cc

plain_letter : (byte : ℕ) (o : Out) → is_plain o ≡ true → letter_of byte o ≡ OfByte (byte_of byte o)
plain_letter byte out.Same h = refl
plain_letter byte (out.Shift by) h = refl
plain_letter byte (out.Byte own) h = refl
plain_letter byte (out.Token t) h = absurd (token_plain t h)

plain_letters : (byte : ℕ) (os : List Out) → list_all is_plain os ≡ true → map (letter_of byte) os ≡ map OfByte (map (byte_of byte) os)
plain_letters byte [] h = refl
plain_letters byte (o ∷ os) h =
    let first = plain_letter byte o (first_so (is_plain o) (list_all is_plain os) h) in
    let rest = plain_letters byte os (second_so (is_plain o) (list_all is_plain os) h) in
    subst (λ (x : Letter). x ∷ map (letter_of byte) os ≡ OfByte (byte_of byte o) ∷ map OfByte (map (byte_of byte) os)) (sym first) (ap (λ (x : List Letter). OfByte (byte_of byte o) ∷ x) rest)

both_bytes : (v w : List Letter) → AreOfBytes v → AreOfBytes w → AreOfBytes (v ++ w)
both_bytes v w h g = record {
  text = h.text ++ g.text;
  is = subst (λ (x : List Letter). x ++ w ≡ map OfByte (h.text ++ g.text)) (sym h.is) (subst (λ (x : List Letter). map OfByte h.text ++ x ≡ map OfByte (h.text ++ g.text)) (sym g.is) (sym (letters_append h.text g.text)));
}

module _ (table : Table) (size : ℕ) (moves : All (λ (m : TableMove). IsShort size m.out.items) table.moves.items) (ends : All (λ (e : TableEnd). IsShort size e.out.items) table.ends.items) where
  step_bytes : (u byte v : ℕ) (letters : List Letter) → TableStep table.moves.items u byte v letters → AreOfBytes letters
  step_bytes u byte v letters h =
      let short = All-contains (λ (m : TableMove). IsShort size m.out.items) table.moves.items h.0 moves h.1 in
      record { text = map (byte_of byte) h.0.out.items; is = sym h.5 ∙ plain_letters byte h.0.out.items short.0 }

  run_bytes : (text : List ℕ) (u v : ℕ) (letters : List Letter) → Runs (TableStep table.moves.items) u text v letters → AreOfBytes letters
  run_bytes [] u v letters h = record { text = []; is = h.1 }
  run_bytes (byte ∷ text) u v letters (t, first, rest, step, run, is) =
      subst AreOfBytes (sym is) (both_bytes first rest (step_bytes u byte t first step) (run_bytes text t v rest run))

  pub output_bytes : (text : List ℕ) (letters : List Letter) → TableRelates table text letters → AreOfBytes letters
  output_bytes text letters (u, out, last, run, stop, is) =
      let short = All-contains (λ (e : TableEnd). IsShort size e.out.items) table.ends.items stop.0 ends stop.1 in
      let last_is : AreOfBytes last = record { text = map (byte_of 0) stop.0.out.items; is = sym stop.3 ∙ plain_letters 0 stop.0.out.items short.0 } in
      subst AreOfBytes (sym is) (both_bytes out last (run_bytes text table.start u out run) last_is)

-- the letters are those of an output of the operation
pub machine_sound : (table : Table) (size : ℕ) (relates : List ℕ → List ℕ → Type 0) → IsMachine table size relates → (text : List ℕ) → AreBytes text → (letters : List Letter) → TableRelates table text letters
    → (output : List ℕ) × (letters ≡ map OfByte output) × relates text output
machine_sound table size relates is text bytes letters h =
    let o = output_bytes table (size + 8) is.moves is.ends text letters h in
    (o.text, o.is, (is.exact text o.text bytes).0 (subst (TableRelates table text) o.is h))
