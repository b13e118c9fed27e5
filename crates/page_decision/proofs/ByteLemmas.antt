-- The texts that productions derive are of bytes where the ranges in the productions are.
use Rattle.std.proofs.Common.{◌≡◌, ◌<◌, ℕ, List, [], ◌∷◌, ◌++◌, length, map, Some, slice_get, Contains, refl, ◌∙◌, ap, arith}
use Rattle.std.specs.Prelude.{All}
use Rattle.std.proofs.lemmas.Option.{slice_get-get_or, slice_get_within}
use Rattle.std.proofs.lemmas.List.Elements.{All-nil, All-cons}
use Rattle.text_base.specs.declared.byte_range.ByteRange.{ByteRange}
use Rattle.text_base.specs.declared.numbers.Nt as nt
use Rattle.text_base.specs.declared.letter.Letter.{Letter}
use Rattle.text_base.specs.declared.letter.Letter.TheVariants.{OfByte, OfToken}
use Rattle.cfg_grammar.specs.declared.symbol.Symbol.{Symbol}
use Rattle.cfg_grammar.specs.declared.symbol.Symbol.TheVariants.{Range, Token, Nt}
use Rattle.cfg_grammar.specs.declared.production.Production.{Production}
use Rattle.cfg_grammar.specs.Derives.{Derives, by_range, by_token, by_empty, by_one, by_two}
use Rattle.fst_core.specs.Outputs.{DerivesText}
use Rattle.cfg_grammar.specs.Bytes.{HasBytes, FirstHaveBytes}

placed : {X : Type 0} (xs : List X) (x : X) → Contains xs x → (n : ℕ) × (slice_get xs n ≡ Some x)
placed xs x c = (c.0, slice_get-get_or xs c.0 x c.1 ∙ ap Some c.2)

-- the bytes among letters are below 256
abbrev AreFit : List Letter → Type 0
AreFit [] = Unit {0}
AreFit (OfByte b ∷ w) = (b < 256) × AreFit w
AreFit (OfToken t ∷ w) = AreFit w

fit_append : (v w : List Letter) → AreFit v → AreFit w → AreFit (v ++ w)
fit_append [] w f g = g
fit_append (OfByte b ∷ v) w f g = (f.0, fit_append v w f.1 g)
fit_append (OfToken t ∷ v) w f g = fit_append v w f g

fit_text : (text : List ℕ) → AreFit (map OfByte text) → All (λ byte. byte < 256) text
fit_text [] f = All-nil (λ byte. byte < 256)
fit_text (b ∷ text) f = All-cons (λ byte. byte < 256) b text f.0 (fit_text text f.1)

-- the symbol is no range over other numbers
abbrev SymbolFits : Symbol → Type 0
SymbolFits (Range range) = range.hi < 256
SymbolFits (Token token) = Unit {0}
SymbolFits (Nt a) = Unit {0}

symbol_fits : (s : Symbol) → ((range : ByteRange) → s ≡ Range range → range.hi < 256) → SymbolFits s
symbol_fits (Range range) h = h range refl
symbol_fits (Token token) h = tt
symbol_fits (Nt a) h = tt

module _ (ps : List Production) (fit : FirstHaveBytes ps (length ps)) where
  range_fits : (p : Production) → Contains ps p → HasBytes p
  range_fits p has = let at = placed ps p has in fit at.0 p (slice_get_within ps at.0 p at.1) at.1

  letters_fit : (s : Symbol) (w : List Letter) → SymbolFits s → Derives ps s w → AreFit w
  letters_fit _ _ f (by_range range byte within) = (omega (arith, f, within.1), tt)
  letters_fit _ _ f (by_token token) = tt
  letters_fit _ _ f (by_empty left has) = tt
  letters_fit _ _ f (by_one left a w has d) =
      letters_fit a w (symbol_fits a (λ range same. range_fits _ has range (0, omega arith, same))) d
  letters_fit _ _ f (by_two left a b v w has d e) =
      fit_append v w (letters_fit a v (symbol_fits a (λ range same. range_fits _ has range (0, omega arith, same))) d)
      (letters_fit b w (symbol_fits b (λ range same. range_fits _ has range (1, omega arith, same))) e)

  pub text_fits : (start : nt.Nt) (text : List ℕ) → DerivesText ps (Nt start) text → All (λ byte. byte < 256) text
  text_fits start text d = fit_text text (letters_fit (Nt start) (map OfByte text) tt d)
