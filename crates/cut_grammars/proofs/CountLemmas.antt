-- Texts that the machine copies are those of at most so many bytes.
use Rattle.std.proofs.Common.{◌≡◌, ◌∙◌, ◌≤◌, ◌<◌, ◌+◌, ◌++◌, ◌↔◌, ℕ, suc, List, [], ◌∷◌, map, length, refl, sym, ap, ap₂, subst, arith, append-nil}
use Rattle.text_base.specs.declared.letter.Letter.{Letter}
use Rattle.text_base.specs.declared.letter.Letter.TheVariants.{OfByte}
use Rattle.cfg_grammar.specs.declared.symbol.Symbol.TheVariants.{Nt}
use Rattle.cfg_grammar.specs.declared.grammar.Grammar.{Grammar}
use Rattle.cfg_grammar.specs.Derives.{Derives}
use Rattle.derivations.specs.Bytes.{bytes_in}
use Rattle.fst_core.specs.Runs.{Runs, Relates}
use Rattle.fst_core.specs.Outputs.{DerivesText, Outputs}
use Rattle.cut_grammars.specs.Counts.{CountStep, CountEnd}

-- a text has its own bytes
own_bytes : (text : List ℕ) → bytes_in (map OfByte text) ≡ text
own_bytes [] = refl
own_bytes (b ∷ text) = ap (λ (bs : List ℕ). b ∷ bs) (own_bytes text)

same_text : (u v : List ℕ) → map OfByte u ≡ map OfByte v → u ≡ v
same_text u v e = sym (own_bytes u) ∙ (ap bytes_in e ∙ own_bytes v)

module _ (most : ℕ) where
  -- what is put out is what is read, and no more than may be
  copies : (s u : ℕ) (text : List ℕ) (out : List Letter) → s ≤ most → Runs (CountStep most) s text u out → out ≡ map OfByte text
  copies s u [] out low (same, none) = none
  copies s u (byte ∷ text) out low (t, here, rest, (less, is, copy), run, e) =
      let next : t ≤ most = omega (arith, less, is) in
      e ∙ ap₂ (λ (a b : List Letter). a ++ b) copy (copies t u text rest next run)

  few : (s u : ℕ) (text : List ℕ) (out : List Letter) → s ≤ most → Runs (CountStep most) s text u out → s + length text ≤ most
  few s u [] out low (same, none) = omega (arith, low)
  few s u (byte ∷ text) out low (t, here, rest, (less, is, copy), run, e) =
      let next : t ≤ most = omega (arith, less, is) in
      let more : t + length text ≤ most = few t u text rest next run in
      omega (arith, more, is)

  -- each text of so few bytes is read
  reads : (s : ℕ) (text : List ℕ) → s + length text ≤ most → Runs (CountStep most) s text (s + length text) (map OfByte text)
  reads s [] low = (omega arith, refl)
  reads s (byte ∷ text) low =
      let less : s < most = omega (arith, low) in
      let next : s + 1 + length text ≤ most = omega (arith, low) in
      let same : s + 1 + length text ≡ s + suc (length text) = omega arith in (
        s + 1,
        OfByte byte ∷ [],
        map OfByte text,
        (less, refl, refl),
        subst (λ (u : ℕ). Runs (CountStep most) (s + 1) text u (map OfByte text)) same (reads (s + 1) text next),
        refl,
      )

  related : (text : List ℕ) → length text ≤ most → Relates 0 (CountStep most) CountEnd text (map OfByte text)
  related text short =
      let low : 0 + length text ≤ most = omega (arith, short) in
      (0 + length text, map OfByte text, [], reads 0 text low, refl, sym (append-nil (map OfByte text)))

  same_as_read : (text : List ℕ) (out : List Letter) → Relates 0 (CountStep most) CountEnd text out → out ≡ map OfByte text
  same_as_read text out (u, front, last, run, none, e) =
      let low : 0 ≤ most = omega arith in
      e ∙ (ap₂ (λ (a b : List Letter). a ++ b) (copies 0 u text front low run) none ∙ append-nil (map OfByte text))

  short_enough : (text : List ℕ) (out : List Letter) → Relates 0 (CountStep most) CountEnd text out → length text ≤ most
  short_enough text out (u, front, last, run, none, e) =
      let low : 0 ≤ most = omega arith in
      let all : 0 + length text ≤ most = few 0 u text front low run in
      omega (arith, all)

-- an image under the machine derives the texts of so few bytes
pub texts_cut : (most : ℕ) (grammar cut : Grammar)
    → ((w : List Letter) → Derives cut.productions.items (Nt cut.start) w ↔ Outputs grammar.productions.items (Nt grammar.start) 0 (CountStep most) CountEnd w) → (text : List ℕ)
    → DerivesText cut.productions.items (Nt cut.start) text ↔ (DerivesText grammar.productions.items (Nt grammar.start) text × (length text ≤ most))
texts_cut most grammar cut is text = (there (is (map OfByte text)).0, back)
  where
    there : (Derives cut.productions.items (Nt cut.start) (map OfByte text) → Outputs grammar.productions.items (Nt grammar.start) 0 (CountStep most) CountEnd (map OfByte text))
        → DerivesText cut.productions.items (Nt cut.start) text → DerivesText grammar.productions.items (Nt grammar.start) text × (length text ≤ most)
    there lead derived = of (lead derived)
      where
        of : Outputs grammar.productions.items (Nt grammar.start) 0 (CountStep most) CountEnd (map OfByte text)
            → DerivesText grammar.productions.items (Nt grammar.start) text × (length text ≤ most)
        of (own, is_text, put) =
            let same : own ≡ text = sym (same_text text own (same_as_read most own (map OfByte text) put)) in
            subst (λ (t : List ℕ). DerivesText grammar.productions.items (Nt grammar.start) t × (length t ≤ most)) same
            (is_text, short_enough most own (map OfByte text) put)

    back : DerivesText grammar.productions.items (Nt grammar.start) text × (length text ≤ most) → DerivesText cut.productions.items (Nt cut.start) text
    back (is_text, short) = (is (map OfByte text)).1 (text, is_text, related most text short)
