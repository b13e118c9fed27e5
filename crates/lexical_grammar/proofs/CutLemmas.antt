-- A file is cut in one way at most, and breaks the grammar in one way at most, and never both.
use Rattle.std.proofs.Common.{◌≡◌, ◌∙◌, ℕ, ◌+◌, List, [], ◌∷◌, drop, refl, sym, ap, Some, None}
use Rattle.php_syntax.specs.Tokens.{PlainToken}
use Rattle.lexical_grammar.specs.Steps.{Mode, Step, goes, refuses}
use Rattle.lexical_grammar.specs.declared.fault.LexicalFault.{LexicalFault}
use Rattle.lexical_grammar.specs.Cuts.{step, CutsFrom, at_end, after_token, after_blank, BreaksFrom, broken_here, broken_later}

-- how the bytes behind a step are cut, by the step
abbrev CutsBy : Step → ℕ → List ℕ → List PlainToken → Type 0
CutsBy (goes (Some kind) n next) at bytes tokens = (rest : List PlainToken) × (tokens ≡ record { kind = kind; at = at } ∷ rest) × CutsFrom next (at + n) (drop n bytes) rest
CutsBy (goes None n next) at bytes tokens = CutsFrom next (at + n) (drop n bytes) tokens
CutsBy (refuses fault n) at bytes tokens = ⊥

abbrev CutsAt : Mode → ℕ → List ℕ → List PlainToken → Type 0
CutsAt mode at [] tokens = tokens ≡ []
CutsAt mode at (b ∷ bytes) tokens = CutsBy (step mode (b ∷ bytes)) at (b ∷ bytes) tokens

cuts_at : {mode : Mode} {at : ℕ} {bytes : List ℕ} {tokens : List PlainToken} → CutsFrom mode at bytes tokens → CutsAt mode at bytes tokens
cuts_at at_end = refl
cuts_at (after_token e rest) = rw e (_, refl, rest)
cuts_at (after_blank e rest) = rw e rest

pub cut_once : {mode : Mode} {at : ℕ} {bytes : List ℕ} {tokens others : List PlainToken} → CutsFrom mode at bytes tokens → CutsFrom mode at bytes others → tokens ≡ others
cut_once at_end second = sym (cuts_at second)
cut_once (after_token {at = at} {kind = kind} e rest) second = let here = rw e at (cuts_at second) in ap (λ (ts : List PlainToken). record { kind = kind; at = at } ∷ ts) (cut_once rest here.2) ∙ sym here.1
cut_once (after_blank e rest) second = cut_once rest (rw e at (cuts_at second))

-- how the grammar is broken, by the step
abbrev BreaksBy : Step → ℕ → List ℕ → LexicalFault → ℕ → Type 0
BreaksBy (goes token n next) at bytes fault place = BreaksFrom next (at + n) (drop n bytes) fault place
BreaksBy (refuses found n) at bytes fault place = (fault ≡ found) × (place ≡ at + n)

abbrev BreaksAt : Mode → ℕ → List ℕ → LexicalFault → ℕ → Type 0
BreaksAt mode at [] fault place = ⊥
BreaksAt mode at (b ∷ bytes) fault place = BreaksBy (step mode (b ∷ bytes)) at (b ∷ bytes) fault place

breaks_at : {mode : Mode} {at place : ℕ} {bytes : List ℕ} {fault : LexicalFault} → BreaksFrom mode at bytes fault place → BreaksAt mode at bytes fault place
breaks_at (broken_here e) = rw e (refl, refl)
breaks_at (broken_later e rest) = rw e rest

pub break_once : {mode : Mode} {at place second : ℕ} {bytes : List ℕ} {fault other : LexicalFault} → BreaksFrom mode at bytes fault place → BreaksFrom mode at bytes other second → (fault ≡ other) × (place ≡ second)
break_once (broken_here e) again = let here = rw e at (breaks_at again) in (sym here.0, sym here.1)
break_once (broken_later e rest) again = break_once rest (rw e at (breaks_at again))

pub never_both : {mode : Mode} {at place : ℕ} {bytes : List ℕ} {tokens : List PlainToken} {fault : LexicalFault} → CutsFrom mode at bytes tokens → BreaksFrom mode at bytes fault place → ⊥
never_both at_end broken = breaks_at broken
never_both (after_token e rest) broken = never_both rest (rw e at (breaks_at broken))
never_both (after_blank e rest) broken = never_both rest (rw e at (breaks_at broken))
