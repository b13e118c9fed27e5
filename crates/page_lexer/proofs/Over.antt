-- The tokens over a text, byte by byte.
use Rattle.std.proofs.Common.{◌≡◌, ◌<◌, ◌≤◌, ◌+◌, ◌++◌, ℕ, List, [], length, drop, Some, slice_get, get_or, append_assoc, refl, sym, ◌∙◌, ap}
use Rattle.std.proofs.lemmas.List.{drop_more, drop_all}
use Rattle.std.proofs.lemmas.Option.{slice_get_within}
use Rattle.text_base.specs.declared.page_token.PageToken.{PageToken}
use Rattle.byte_readers.specs.declared.emit.Emit.{Emit}
use Rattle.byte_readers.specs.Reading.{emitted, tokens_over}
use Rattle.page_lexer.specs.Numbered.{IsStep}
use Rattle.page_lexer.specs.declared.rows.NumberedStep.{NumberedStep}

module _ {S : Type 0} (next : S → ℕ → S) (puts : S → ℕ → List PageToken) (lasts : S → List PageToken) (first : S) (text : List ℕ) where
  -- so many bytes are read, these tokens are put out, and the state behind has this number
  pub record IsAt (states : List S) (n i : ℕ) (tokens : List PageToken) : Type 0 where
    pub state : S
    pub at : slice_get states n ≡ Some state
    pub rest : tokens ++ tokens_over next puts lasts state (drop i text) ≡ tokens_over next puts lasts first text

  pub at_first : (states : List S) (n : ℕ) → slice_get states n ≡ Some first → IsAt states n 0 []
  at_first states n at = record { state = first; at = at; rest = refl }

  pub is_met : (states : List S) (n i : ℕ) (tokens : List PageToken) → IsAt states n i tokens → n < length states
  is_met states n i tokens is = slice_get_within states n is.state is.at

  -- one byte more
  pub at_next : (states more : List S) (n i other : ℕ) (step : NumberedStep) (tokens then : List PageToken) → IsAt states n i tokens → i < length text
      → ((s : S) → slice_get states n ≡ Some s → IsStep next puts more s (get_or text i other) step) → then ≡ tokens ++ emitted step.emit → IsAt more step.to.0 (i + 1) then
  at_next states more n i other step tokens then is lt steps push =
      let byte : ℕ = get_or text i other in
      let own = steps is.state is.at in
      let over : List ℕ → List PageToken = tokens_over next puts lasts is.state in
      let rest : List PageToken = tokens_over next puts lasts (next is.state byte) (drop (i + 1) text) in
      record {
        state = next is.state byte;
        at = own.to;
        rest = ap (λ (ts : List PageToken). ts ++ rest) (push ∙ ap (λ (ts : List PageToken). tokens ++ ts) own.emit)
            ∙ append_assoc tokens (puts is.state byte) rest
            ∙ ap (λ (bs : List ℕ). tokens ++ over bs) (sym (drop_more text i other lt)) ∙ is.rest;
      }

  -- behind the last byte
  pub at_end : (states : List S) (n i : ℕ) (emit : Emit) (tokens then : List PageToken) → IsAt states n i tokens → length text ≤ i
      → ((s : S) → slice_get states n ≡ Some s → emitted emit ≡ lasts s) → then ≡ tokens ++ emitted emit → then ≡ tokens_over next puts lasts first text
  at_end states n i emit tokens then is le last push =
      push ∙ ap (λ (ts : List PageToken). tokens ++ ts) (last is.state is.at)
      ∙ ap (λ (bs : List ℕ). tokens ++ tokens_over next puts lasts is.state bs) (sym (drop_all i text le)) ∙ is.rest
