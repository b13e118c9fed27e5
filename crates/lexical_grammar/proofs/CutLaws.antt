-- A file is cut or broken, and its tokens are those of its pieces.
use Rattle.std.proofs.Common.{◌≡◌, ◌∙◌, ◌⊎◌, inl, inr, ℕ, zero, suc, ◌+◌, ◌-◌, ◌<◌, ◌≤◌, List, [], ◌∷◌, ◌++◌, length, take, drop, refl, sym, ap, subst, arith, Option, Some, None}
use Rattle.std.proofs.lemmas.Bool.{cases_lt}
use Rattle.std.proofs.lemmas.List.{length-drop, take-append-drop, append-nil, take_all}
use Rattle.std.proofs.Math.ListN.{drop_of_length-le}
use Rattle.php_syntax.specs.Tokens.{PlainToken, PlainKind}
use Rattle.lexical_grammar.specs.declared.fault.LexicalFault.{LexicalFault}
use Rattle.lexical_grammar.specs.Steps.{Mode, outside, inside, Step, goes, refuses}
use Rattle.lexical_grammar.specs.Cuts.{step, CutsFrom, at_end, after_token, after_blank, BreaksFrom, broken_here, broken_later}
use Rattle.lexical_grammar.specs.Pieces.{Piece, joined, token_before, placed, IsPiece, ArePieces, Rise}
use Rattle.lexical_grammar.proofs.FitLemmas.{Fits, fits}

-- the bytes are cut, or the grammar is broken in them
abbrev pub Read : Mode → ℕ → List ℕ → Type 0
Read mode at bytes = ((tokens : List PlainToken) × CutsFrom mode at bytes tokens) ⊎ ((fault : LexicalFault) × (place : ℕ) × BreaksFrom mode at bytes fault place)

read_on : (mode next : Mode) (at n b : ℕ) (bytes : List ℕ) (token : Option PlainKind) → step mode (b ∷ bytes) ≡ goes token n next → Read next (at + n) (drop n (b ∷ bytes)) → Read mode at (b ∷ bytes)
read_on mode next at n b bytes None e (inl (tokens, cut)) = inl (tokens, after_blank e cut)
read_on mode next at n b bytes (Some kind) e (inl (tokens, cut)) = inl (record { kind = kind; at = at } ∷ tokens, after_token e cut)
read_on mode next at n b bytes token e (inr (fault, place, broken)) = inr (fault, place, broken_later e broken)

read_step : (mode : Mode) (at b : ℕ) (bytes : List ℕ) (s : Step) → step mode (b ∷ bytes) ≡ s → Fits (b ∷ bytes) s
    → ((next : Mode) (n : ℕ) → 0 < n → Read next (at + n) (drop n (b ∷ bytes))) → Read mode at (b ∷ bytes)
read_step mode at b bytes (goes token n next) e fit more = read_on mode next at n b bytes token e (more next n fit.0)
read_step mode at b bytes (refuses fault n) e fit more = inr (fault, at + n, broken_here e)

read_within : (most : ℕ) (mode : Mode) (at : ℕ) (bytes : List ℕ) → length bytes ≤ most → Read mode at bytes
read_within most mode at [] h = inl ([], at_end)
read_within zero mode at (b ∷ bytes) h = absurd (omega arith)
read_within (suc most) mode at (b ∷ bytes) h =
    read_step mode at b bytes (step mode (b ∷ bytes)) refl (fits mode b bytes) (λ next n some. read_within most next (at + n) (drop n (b ∷ bytes)) (omega (arith, h, some, length-drop n (b ∷ bytes))))

pub cut_or_broken : (file : List ℕ) → Read outside 0 file
cut_or_broken file = read_within (length file) outside 0 file (omega arith)

-- the pieces of bytes from a place on
abbrev pub HasPieces : ℕ → List ℕ → List PlainToken → Type 0
HasPieces at bytes tokens = (pieces : List Piece) × (joined pieces ≡ bytes) × (placed at pieces ≡ tokens) × ArePieces pieces

fit_of : (mode next : Mode) (n b : ℕ) (bytes : List ℕ) (token : Option PlainKind) → step mode (b ∷ bytes) ≡ goes token n next → Fits (b ∷ bytes) (goes token n next)
fit_of mode next n b bytes token e = subst (Fits (b ∷ bytes)) e (fits mode b bytes)

take_some : (n b : ℕ) (bytes : List ℕ) → 0 < n → 0 < length (take n (b ∷ bytes))
take_some zero b bytes h = absurd (omega arith)
take_some (suc n) b bytes h = omega arith

length_take : (n : ℕ) (bytes : List ℕ) → n ≤ length bytes → length (take n bytes) ≡ n
length_take zero bytes h = refl
length_take (suc n) [] h = absurd (omega arith)
length_take (suc n) (b ∷ bytes) h = omega (arith, length_take n bytes (omega arith))

no_tokens : {mode : Mode} {at : ℕ} {bytes : List ℕ} {tokens : List PlainToken} → CutsFrom mode at bytes tokens → bytes ≡ [] → tokens ≡ []
no_tokens at_end e = refl
no_tokens (after_token e' rest) e = absurd (cc)
no_tokens (after_blank e' rest) e = absurd (cc)

-- one piece more, of all that the step takes
pieces_more : (at n b : ℕ) (bytes : List ℕ) (token : Option PlainKind) (tokens : List PlainToken) → Fits (b ∷ bytes) (goes token n inside) → n ≤ length (b ∷ bytes) → HasPieces (at + n) (drop n (b ∷ bytes)) tokens
    → HasPieces at (b ∷ bytes) (token_before token at tokens)
pieces_more at n b bytes token tokens fit h (pieces, join, place, are) = (
  record { bytes = take n (b ∷ bytes); token = token } ∷ pieces,
  ap (λ rest. take n (b ∷ bytes) ++ rest) join ∙ take-append-drop n (b ∷ bytes),
  ap (λ m. token_before token at (placed (at + m) pieces)) (length_take n (b ∷ bytes) h) ∙ ap (token_before token at) place,
  (take_some n b bytes fit.0, subst (IsPiece token (take n (b ∷ bytes))) (sym join) fit.1, are),
)

-- a step that takes the rest of the file
pieces_last : (at n b : ℕ) (bytes : List ℕ) (token : Option PlainKind) (tokens : List PlainToken) → Fits (b ∷ bytes) (goes token n inside) → length (b ∷ bytes) ≤ n → tokens ≡ [] → HasPieces at (b ∷ bytes) (token_before token at tokens)
pieces_last at n b bytes token tokens fit h none = (
  record { bytes = take n (b ∷ bytes); token = token } ∷ [],
  append-nil (take n (b ∷ bytes)) ∙ take_all n (b ∷ bytes) h,
  ap (token_before token at) (sym none),
  (take_some n b bytes fit.0, subst (IsPiece token (take n (b ∷ bytes))) (drop_of_length-le (b ∷ bytes) h) fit.1, tt),
)

pieces_step : (mode next : Mode) (at n b : ℕ) (bytes : List ℕ) (token : Option PlainKind) (tokens : List PlainToken) → step mode (b ∷ bytes) ≡ goes token n next → CutsFrom next (at + n) (drop n (b ∷ bytes)) tokens
    → HasPieces (at + n) (drop n (b ∷ bytes)) tokens → HasPieces at (b ∷ bytes) (token_before token at tokens)
pieces_step mode next at n b bytes token tokens e cut more = elim (cases_lt n (length (b ∷ bytes))) [
  | inl h ↦ pieces_more at n b bytes token tokens (fit_of mode next n b bytes token e) (omega arith) more
  | inr h ↦ pieces_last at n b bytes token tokens (fit_of mode next n b bytes token e) h (no_tokens cut (drop_of_length-le (b ∷ bytes) h))
]

pub pieces_of : {mode : Mode} {at : ℕ} {bytes : List ℕ} {tokens : List PlainToken} → CutsFrom mode at bytes tokens → HasPieces at bytes tokens
pieces_of at_end = ([], refl, refl, tt)
pieces_of (after_token {mode = mode} {next = next} {at = at} {n = n} {b = b} {bytes = bytes} {kind = kind} {tokens = tokens} e rest) = pieces_step mode next at n b bytes (Some kind) tokens e rest (pieces_of rest)
pieces_of (after_blank {mode = mode} {next = next} {at = at} {n = n} {b = b} {bytes = bytes} {tokens = tokens} e rest) = pieces_step mode next at n b bytes None tokens e rest (pieces_of rest)

-- places rise
rise_less : (less more : ℕ) (tokens : List PlainToken) → less ≤ more → Rise more tokens → Rise less tokens
rise_less less more [] h rise = tt
rise_less less more (token ∷ tokens) h (first, rest) = (omega (arith, h, first), rest)

pub rises : {mode : Mode} {at : ℕ} {bytes : List ℕ} {tokens : List PlainToken} → CutsFrom mode at bytes tokens → Rise at tokens
rises at_end = tt
rises (after_token {mode = mode} {next = next} {at = at} {n = n} {b = b} {bytes = bytes} {kind = kind} {tokens = tokens} e rest) =
    (omega arith, rise_less (at + 1) (at + n) tokens (omega (arith, (fit_of mode next n b bytes (Some kind) e).0)) (rises rest))
rises (after_blank {at = at} {n = n} {tokens = tokens} e rest) = rise_less at (at + n) tokens (omega arith) (rises rest)
