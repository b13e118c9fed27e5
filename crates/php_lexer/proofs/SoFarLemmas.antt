-- Cutting in a loop over the steps: what was cut so far, and what is left.
use Rattle.std.proofs.Common.{◌≡◌, ◌∙◌, ℕ, ◌+◌, ◌<◌, ◌≤◌, List, [], ◌∷◌, ◌++◌, length, drop, refl, sym, ap, subst, arith, append_assoc, Option, Some, None}
use Rattle.std.proofs.lemmas.List.{append-nil, length-drop, drop-drop}
use Rattle.php_syntax.specs.Tokens.{PlainToken, PlainKind}
use Rattle.lexical_grammar.specs.Steps.{Mode, outside, goes, refuses}
use Rattle.lexical_grammar.specs.declared.fault.LexicalFault.{LexicalFault}
use Rattle.lexical_grammar.specs.Cuts.{step, CutsFrom, at_end, after_token, after_blank, BreaksFrom, broken_here, broken_later, Cuts, Breaks}
use Rattle.php_lexer.specs.View.{tokens_with}
use Rattle.php_lexer.proofs.RowLemmas.{drop_past}

-- the tokens so far, and whatever the rest is cut into; and how the rest is broken, so is the file
pub record SoFar (file : List ℕ) (mode : Mode) (at : ℕ) (tokens : List PlainToken) : Type 0 where
  pub cuts : (rest : List PlainToken) → CutsFrom mode at (drop at file) rest → Cuts file (tokens ++ rest)
  pub breaks : (fault : LexicalFault) (place : ℕ) → BreaksFrom mode at (drop at file) fault place → Breaks file fault place
  pub within : at ≤ length file

pub none_so_far : (file : List ℕ) → SoFar file outside 0 []
none_so_far file = record { cuts = λ rest cut. cut; breaks = λ fault place broken. broken; within = omega arith }

cuts_on : (mode next : Mode) (at n : ℕ) (here : List ℕ) (token : Option PlainKind) (rest : List PlainToken) → 0 < length here → goes token n next ≡ step mode here
    → CutsFrom next (at + n) (drop n here) rest → CutsFrom mode at here (tokens_with [] token at ++ rest)
cuts_on mode next at n [] token rest h e cut = absurd (omega arith)
cuts_on mode next at n (b ∷ bytes) None rest h e cut = after_blank (sym e) cut
cuts_on mode next at n (b ∷ bytes) (Some kind) rest h e cut = after_token (sym e) cut

breaks_on : (mode next : Mode) (at n : ℕ) (here : List ℕ) (token : Option PlainKind) (fault : LexicalFault) (place : ℕ) → 0 < length here → goes token n next ≡ step mode here
    → BreaksFrom next (at + n) (drop n here) fault place → BreaksFrom mode at here fault place
breaks_on mode next at n [] token fault place h e broken = absurd (omega arith)
breaks_on mode next at n (b ∷ bytes) token fault place h e broken = broken_later (sym e) broken

breaks_now : (mode : Mode) (at n : ℕ) (here : List ℕ) (fault : LexicalFault) → 0 < length here → refuses fault n ≡ step mode here → BreaksFrom mode at here fault (at + n)
breaks_now mode at n [] fault h e = absurd (omega arith)
breaks_now mode at n (b ∷ bytes) fault h e = broken_here (sym e)

with_assoc : (tokens : List PlainToken) (token : Option PlainKind) (at : ℕ) (rest : List PlainToken) → tokens ++ (tokens_with [] token at ++ rest) ≡ tokens_with tokens token at ++ rest
with_assoc tokens None at rest = refl
with_assoc tokens (Some kind) at rest = sym (append_assoc tokens (record { kind = kind; at = at } ∷ []) rest)

-- one step more
pub so_far_more : (file : List ℕ) (mode next : Mode) (at n : ℕ) (here : List ℕ) (token : Option PlainKind) (tokens more : List PlainToken)
    → SoFar file mode at tokens → at < length file → here ≡ drop at file → goes token n next ≡ step mode here → n ≤ length here → more ≡ tokens_with tokens token at → SoFar file next (at + n) more
so_far_more file mode next at n here token tokens more so_far h at_is e fits more_is =
    let some : 0 < length here = omega (arith, ap length at_is, length-drop at file)
    in let rest_is : drop (at + n) file ≡ drop n here = sym (ap (drop n) at_is ∙ drop-drop n at file)
    in record {
      cuts = λ rest cut.
          let there : CutsFrom next (at + n) (drop n here) rest = subst (λ bs. CutsFrom next (at + n) bs rest) rest_is cut
          in let whole : CutsFrom mode at (drop at file) (tokens_with [] token at ++ rest) = subst (λ bs. CutsFrom mode at bs (tokens_with [] token at ++ rest)) at_is (cuts_on mode next at n here token rest some e there)
          in subst (λ ts. Cuts file ts) (with_assoc tokens token at rest ∙ ap (λ ts. ts ++ rest) (sym more_is)) (so_far.cuts _ whole);
      breaks = λ fault place broken.
          let there : BreaksFrom next (at + n) (drop n here) fault place = subst (λ bs. BreaksFrom next (at + n) bs fault place) rest_is broken
          in so_far.breaks fault place (subst (λ bs. BreaksFrom mode at bs fault place) at_is (breaks_on mode next at n here token fault place some e there));
      within = omega (arith, ap length at_is, length-drop at file);
    }

-- no byte is left
pub so_far_end : (file : List ℕ) (mode : Mode) (at : ℕ) (tokens : List PlainToken) → SoFar file mode at tokens → length file ≤ at → Cuts file tokens
so_far_end file mode at tokens so_far h = subst (λ ts. Cuts file ts) (append-nil tokens) (so_far.cuts [] (subst (λ bs. CutsFrom mode at bs []) (drop_past file at h) at_end))

-- a fault
pub so_far_broken : (file : List ℕ) (mode : Mode) (at n : ℕ) (here : List ℕ) (fault : LexicalFault) (tokens : List PlainToken)
    → SoFar file mode at tokens → at < length file → here ≡ drop at file → refuses fault n ≡ step mode here → Breaks file fault (at + n)
so_far_broken file mode at n here fault tokens so_far h at_is e =
    let some : 0 < length here = omega (arith, ap length at_is, length-drop at file)
    in so_far.breaks fault (at + n) (subst (λ bs. BreaksFrom mode at bs fault (at + n)) at_is (breaks_now mode at n here fault some e))
