-- Bytes are put one after another, the last of them first.
use Rattle.std.proofs.Common.{◌≡◌, ℕ, Bool, List, [], ◌∷◌, ◌++◌, None, Some, length, get_or, take, refl, sym, ◌∙◌, ap, subst, arith, append_assoc, append-nil}
use Rattle.std.proofs.lemmas.List.{take_more}
use Rattle.std.specs.Prelude.{◌<◌, ◌+◌}
use Rattle.cfg_grammar.specs.declared.symbol.Symbol.{Symbol}
use Rattle.system_writing.specs.declared.lines.Lines.{Lines}
use Rattle.system_writing.specs.declared.waiting.Waiting.{Waiting}
use Rattle.system_writing.specs.Steps.{IsByte, PutsByte, PutsBytes, PutsText, WritesWhere, WritesWaiting}

-- what is put, and what is left
abbrev pub SoFar : Lines → Lines → List ℕ → List ℕ → Symbol → Symbol → Type 0
SoFar old mid bytes rest behind symbol = (done : List ℕ) × (rest ++ done ≡ bytes) × PutsBytes old mid done behind symbol

pub begin : (lines : Lines) (bytes : List ℕ) (behind : Symbol) → SoFar lines lines bytes bytes behind behind
begin lines bytes behind = ([], append-nil bytes, PutsBytes.none lines behind)

pub further : (old mid new : Lines) (bytes rest before : List ℕ) (b : ℕ) (behind symbol s : Symbol) → SoFar old mid bytes rest behind symbol → rest ≡ before ++ b ∷ [] → PutsByte mid new b symbol s → SoFar old new bytes before behind s
further old mid new bytes rest before b behind symbol s far e put =
    (b ∷ far.0, sym (append_assoc before (b ∷ []) far.0) ∙ ap (λ z. z ++ far.0) (sym e) ∙ far.1, PutsBytes.more old mid new b far.0 behind symbol s far.2 put)

nil_of : (w : List ℕ) → length w ≡ 0 → w ≡ []
nil_of [] e = refl
nil_of (b ∷ w) e = absurd (omega (arith, e))

pub at_last : (old new : Lines) (bytes rest : List ℕ) (behind s : Symbol) → SoFar old new bytes rest behind s → length rest ≡ 0 → PutsBytes old new bytes behind s
at_last old new bytes rest behind s far none = subst (λ z. PutsBytes old new z behind s) (ap (λ z. z ++ far.0) (sym (nil_of rest none)) ∙ far.1) far.2

pub no_text : (lines : Lines) (w : List ℕ) → length w ≡ 0 → PutsText lines lines w None
no_text lines w e = subst (λ z. PutsText lines lines z None) (sym (nil_of w e)) (PutsText.nothing lines)

pub some_text : (old new : Lines) (w before : List ℕ) (b : ℕ) (byte s : Symbol) → w ≡ before ++ b ∷ [] → IsByte b byte → PutsBytes old new before byte s → PutsText old new w (Some s)
some_text old new w before b byte s e is puts = subst (λ z. PutsText old new z (Some s)) (sym e) (PutsText.something old new before b byte s is puts)

-- texts that wait, one after another
pub next_text : (marks : List Bool) (old mid new : Lines) (texts : List Waiting) (i : ℕ) (d x : Waiting) → i < length texts → WritesWaiting marks old mid (take i texts) → get_or texts i d ≡ x → WritesWhere marks mid new x → WritesWaiting marks old new (take (i + 1) texts)
next_text marks old mid new texts i d x less writes e one =
    subst (λ z. WritesWaiting marks old new z) (sym (take_more texts i d less ∙ ap (λ z. take i texts ++ z ∷ []) e)) (WritesWaiting.more old mid new (take i texts) x writes one)
