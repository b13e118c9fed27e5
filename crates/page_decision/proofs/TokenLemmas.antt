-- Grammars without bytes, and derivations by them.
use Rattle.std.proofs.Common.{◌≡◌, ℕ, zero, suc, Bool, true, false, append-nil, List, [], ◌∷◌, ◌++◌, map, refl, sym, ◌∙◌, ap, subst, arith, Some, slice_get, option_map, Contains, ◌&&◌, nat_lt}
use Rattle.std.specs.List.{list_all}
use Rattle.std.specs.Cmp.{first_so, second_so}
use Rattle.std.proofs.lemmas.List.{map-append}
use Rattle.std.proofs.lemmas.Option.{slice_get-map}
use Rattle.text_base.specs.ByteRange.{InRange}
use Rattle.text_base.specs.declared.byte_range.ByteRange.{ByteRange}
use Rattle.text_base.specs.declared.letter.Letter.{Letter}
use Rattle.text_base.specs.declared.letter.Letter.TheVariants.{OfByte, OfToken}
use Rattle.text_base.specs.declared.numbers.Nt as nt
use Rattle.text_base.specs.declared.page_token.PageToken.{PageToken}
use Rattle.cfg_grammar.specs.declared.production.Production.{Production}
use Rattle.cfg_grammar.specs.declared.production.Right.{Right}
use Rattle.cfg_grammar.specs.declared.production.Right.TheVariants.{Empty, One, Two}
use Rattle.cfg_grammar.specs.declared.symbol.Symbol.{Symbol}
use Rattle.cfg_grammar.specs.declared.symbol.Symbol.TheVariants.{Range, Token, Nt}
use Rattle.cfg_grammar.specs.Below.{AreBelow, production_below, symbol_below, symbols_of}
use Rattle.cfg_grammar.specs.Derives.{Derives}
use Rattle.derivations.specs.Bytes.{bytes_in}
use Rattle.page_decision.specs.Echoes.{EchoTexts}
use Rattle.summary_decision.specs.Pairs.{tokens_in}
use Rattle.summary_decision.proofs.ClosedLemmas.{contained, placed, tokens_append}
use Rattle.page_decision.specs.TokenGrammars.{is_no_byte, without_bytes, production_without_bytes, DeriveTokenLists}

-- what right sides were that have none, one or two symbols without their bytes
pub data WasEmpty : Right → Type 0 where
  was_empty : WasEmpty Empty
  was_byte : (range : ByteRange) → WasEmpty (One (Range range))
  was_bytes : (first second : ByteRange) → WasEmpty (Two (Range first) (Range second))

pub data WasOne (a : Symbol) : Right → Type 0 where
  was_one : WasOne a (One a)
  was_behind : (range : ByteRange) → WasOne a (Two (Range range) a)
  was_before : (range : ByteRange) → WasOne a (Two a (Range range))

pub empty_was : (r : Right) → without_bytes r ≡ Empty → WasEmpty r
empty_was Empty e = was_empty
empty_was (One (Range r)) e = was_byte r
empty_was (One (Token t)) e = cc
empty_was (One (Nt n)) e = cc
empty_was (Two (Range r) (Range s)) e = was_bytes r s
empty_was (Two (Range r) (Token t)) e = cc
empty_was (Two (Range r) (Nt n)) e = cc
empty_was (Two (Token t) (Range s)) e = cc
empty_was (Two (Token t) (Token u)) e = cc
empty_was (Two (Token t) (Nt n)) e = cc
empty_was (Two (Nt n) (Range s)) e = cc
empty_was (Two (Nt n) (Token t)) e = cc
empty_was (Two (Nt n) (Nt m)) e = cc

pub one_was : (r : Right) (a : Symbol) → without_bytes r ≡ One a → (is_no_byte a ≡ true) × WasOne a r
one_was Empty a e = cc
one_was (One (Range r)) a e = cc
one_was (One (Token t)) a e = let p : Token t ≡ a = cc in subst (λ (x : Symbol). (is_no_byte x ≡ true) × WasOne x (One (Token t))) p (refl, was_one)
one_was (One (Nt n)) a e = let p : Nt n ≡ a = cc in subst (λ (x : Symbol). (is_no_byte x ≡ true) × WasOne x (One (Nt n))) p (refl, was_one)
one_was (Two (Range r) (Range s)) a e = cc
one_was (Two (Range r) (Token t)) a e = let p : Token t ≡ a = cc in subst (λ (x : Symbol). (is_no_byte x ≡ true) × WasOne x (Two (Range r) (Token t))) p (refl, was_behind r)
one_was (Two (Range r) (Nt n)) a e = let p : Nt n ≡ a = cc in subst (λ (x : Symbol). (is_no_byte x ≡ true) × WasOne x (Two (Range r) (Nt n))) p (refl, was_behind r)
one_was (Two (Token t) (Range s)) a e = let p : Token t ≡ a = cc in subst (λ (x : Symbol). (is_no_byte x ≡ true) × WasOne x (Two (Token t) (Range s))) p (refl, was_before s)
one_was (Two (Token t) (Token u)) a e = cc
one_was (Two (Token t) (Nt n)) a e = cc
one_was (Two (Nt n) (Range s)) a e = let p : Nt n ≡ a = cc in subst (λ (x : Symbol). (is_no_byte x ≡ true) × WasOne x (Two (Nt n) (Range s))) p (refl, was_before s)
one_was (Two (Nt n) (Token t)) a e = cc
one_was (Two (Nt n) (Nt m)) a e = cc

pub two_was : (r : Right) (a b : Symbol) → without_bytes r ≡ Two a b → (r ≡ Two a b) × (is_no_byte a ≡ true) × (is_no_byte b ≡ true)
two_was Empty a b e = cc
two_was (One (Range r)) a b e = cc
two_was (One (Token t)) a b e = cc
two_was (One (Nt n)) a b e = cc
two_was (Two (Range r) (Range s)) a b e = cc
two_was (Two (Range r) (Token t)) a b e = cc
two_was (Two (Range r) (Nt n)) a b e = cc
two_was (Two (Token t) (Range s)) a b e = cc
two_was (Two (Token t) (Token u)) a b e = let p : Token t ≡ a = cc in let q : Token u ≡ b = cc in (e, ap is_no_byte (sym p), ap is_no_byte (sym q))
two_was (Two (Token t) (Nt n)) a b e = let p : Token t ≡ a = cc in let q : Nt n ≡ b = cc in (e, ap is_no_byte (sym p), ap is_no_byte (sym q))
two_was (Two (Nt n) (Range s)) a b e = cc
two_was (Two (Nt n) (Token t)) a b e = let p : Nt n ≡ a = cc in let q : Token t ≡ b = cc in (e, ap is_no_byte (sym p), ap is_no_byte (sym q))
two_was (Two (Nt n) (Nt m)) a b e = let p : Nt n ≡ a = cc in let q : Nt m ≡ b = cc in (e, ap is_no_byte (sym p), ap is_no_byte (sym q))

-- what stands at a place of a mapped list comes of what stands there
pub from_place : {X Y : Type 0} (f : X → Y) (xs : List X) (n : ℕ) (y : Y) → slice_get (map f xs) n ≡ Some y → (x : X) × (slice_get xs n ≡ Some x) × (f x ≡ y)
from_place f [] n y e = cc
from_place f (x ∷ xs) zero y e = (x, refl, cc)
from_place f (x ∷ xs) (suc n) y e = from_place f xs n y e

-- the first byte of a range is in it
pub first_in : (range : ByteRange) → InRange range range.lo
first_in range = let h = range.ordered in (omega arith, omega (arith, h))

-- the tokens of letters, and nothing else
abbrev pub alone : List Letter → List Letter
alone w = map OfToken (tokens_in w)

alone_append : (v w : List Letter) → alone (v ++ w) ≡ alone v ++ alone w
alone_append v w = ap (λ (ts : List PageToken). map OfToken ts) (tokens_append v w) ∙ map-append OfToken (tokens_in v) (tokens_in w)

module _ (qs : List Production) where
  abbrev pub es : List Production
  es = map production_without_bytes qs

  -- a production without bytes stands in a grammar for one with this left side
  pub source : (left : nt.Nt) (right : Right) → Contains es (record { left = left; right = right })
      → (r : Right) × Contains qs (record { left = left; right = r }) × (without_bytes r ≡ right)
  source left right there =
      let p : Production = record { left = left; right = right } in
      let at = placed es p there in
      let q = from_place production_without_bytes qs at.0 p at.2 in
      let is : Contains qs (record { left = q.0.left; right = q.0.right }) = contained qs at.0 q.0 q.1 in
      (q.0.right, subst (λ (l : nt.Nt). Contains qs (record { left = l; right = q.0.right })) (ap (λ (x : Production). x.left) q.2) is, ap (λ (x : Production). x.right) q.2)

  mapped : (q : Production) → Contains qs q → Contains es (production_without_bytes q)
  mapped q there =
      let at = placed qs q there in
      contained es at.0 (production_without_bytes q) (slice_get-map production_without_bytes qs at.0 ∙ ap (option_map production_without_bytes) at.2)

  abbrev pub Taken : Symbol → List Letter → Type 0
  Taken a w = (v : List Letter) × Derives qs a v × (alone v ≡ w)

  empty_taken : (left : nt.Nt) (r : Right) → Contains qs (record { left = left; right = r }) → WasEmpty r → Taken (Nt left) []
  empty_taken left _ there was_empty = ([], Derives.by_empty left there, refl)
  empty_taken left _ there (was_byte range) =
      (OfByte range.lo ∷ [], Derives.by_one left (Range range) (OfByte range.lo ∷ []) there (Derives.by_range range range.lo (first_in range)), refl)
  empty_taken left _ there (was_bytes first second) =
      (OfByte first.lo ∷ OfByte second.lo ∷ [], Derives.by_two left (Range first) (Range second) (OfByte first.lo ∷ []) (OfByte second.lo ∷ []) there (Derives.by_range first first.lo (first_in first)) (Derives.by_range second second.lo (first_in second)), refl)

  one_taken : (left : nt.Nt) (a : Symbol) (w : List Letter) (r : Right) → Contains qs (record { left = left; right = r }) → WasOne a r → Taken a w → Taken (Nt left) w
  one_taken left a w _ there was_one (v, d, e) = (v, Derives.by_one left a v there d, e)
  one_taken left a w _ there (was_behind range) (v, d, e) =
      (OfByte range.lo ∷ v, Derives.by_two left (Range range) a (OfByte range.lo ∷ []) v there (Derives.by_range range range.lo (first_in range)) d, e)
  one_taken left a w _ there (was_before range) (v, d, e) = (
    v ++ OfByte range.lo ∷ [],
    Derives.by_two left a (Range range) v (OfByte range.lo ∷ []) there d (Derives.by_range range range.lo (first_in range)),
    (alone_append v (OfByte range.lo ∷ []) ∙ append-nil (alone v)) ∙ e,
  )

  two_taken : (left : nt.Nt) (a b : Symbol) (v w : List Letter) → Contains qs (record { left = left; right = Two a b }) → Taken a v → Taken b w → Taken (Nt left) (v ++ w)
  two_taken left a b v w there (x, d, e) (y, f, g) =
      (x ++ y, Derives.by_two left a b x y there d f, alone_append x y ∙ (ap (λ (l : List Letter). l ++ alone y) e ∙ ap (λ (l : List Letter). v ++ l) g))

  -- a sentence without bytes is that of a sentence
  pub taken : (a : Symbol) (w : List Letter) → Derives es a w → is_no_byte a ≡ true → Taken a w
  taken _ _ (Derives.by_range range byte is) byteless = cc
  taken _ _ (Derives.by_token token) byteless = (OfToken token ∷ [], Derives.by_token token, refl)
  taken _ _ (Derives.by_empty left there) byteless = let s = source left Empty there in empty_taken left s.0 s.1 (empty_was s.0 s.2)
  taken _ _ (Derives.by_one left a w there d) byteless =
      let s = source left (One a) there in
      let was = one_was s.0 a s.2 in
      one_taken left a w s.0 s.1 was.1 (taken a w d was.0)
  taken _ _ (Derives.by_two left a b v w there d e) byteless =
      let s = source left (Two a b) there in
      let was = two_was s.0 a b s.2 in
      two_taken left a b v w (subst (λ (r : Right). Contains qs (record { left = left; right = r })) was.0 s.1) (taken a v d was.1) (taken b w e was.2)

  abbrev pub Kept : Symbol → List Letter → Type 0
  Kept a v = (is_no_byte a ≡ true → Derives es a (alone v)) × (is_no_byte a ≡ false → tokens_in v ≡ [])

  derives_as : (left : nt.Nt) (v w : List Letter) → v ≡ w → Derives es (Nt left) v → Derives es (Nt left) w
  derives_as left v w e d = subst (λ (l : List Letter). Derives es (Nt left) l) e d

  one_kept : (left : nt.Nt) (a : Symbol) (w : List Letter) → Contains es (record { left = left; right = without_bytes (One a) }) → Kept a w → Derives es (Nt left) (alone w)
  one_kept left (Range r) w there kept = derives_as left [] (alone w) (ap (λ (ts : List PageToken). map OfToken ts) (sym (kept.1 refl))) (Derives.by_empty left there)
  one_kept left (Token t) w there kept = Derives.by_one left (Token t) (alone w) there (kept.0 refl)
  one_kept left (Nt n) w there kept = Derives.by_one left (Nt n) (alone w) there (kept.0 refl)

  no_tokens : (v : List Letter) → tokens_in v ≡ [] → alone v ≡ []
  no_tokens v e = ap (λ (ts : List PageToken). map OfToken ts) e

  joined : (left : nt.Nt) (v w : List Letter) → Derives es (Nt left) (alone v ++ alone w) → Derives es (Nt left) (alone (v ++ w))
  joined left v w d = derives_as left (alone v ++ alone w) (alone (v ++ w)) (sym (alone_append v w)) d

  first_alone : (left : nt.Nt) (a : Symbol) (v w : List Letter) → Contains es (record { left = left; right = One a }) → Derives es a (alone v) → tokens_in w ≡ [] → Derives es (Nt left) (alone v ++ alone w)
  first_alone left a v w there d e =
      derives_as left (alone v) (alone v ++ alone w) (sym (ap (λ (l : List Letter). alone v ++ l) (no_tokens w e) ∙ append-nil (alone v))) (Derives.by_one left a (alone v) there d)

  second_alone : (left : nt.Nt) (b : Symbol) (v w : List Letter) → Contains es (record { left = left; right = One b }) → tokens_in v ≡ [] → Derives es b (alone w) → Derives es (Nt left) (alone v ++ alone w)
  second_alone left b v w there e d = derives_as left (alone w) (alone v ++ alone w) (sym (ap (λ (l : List Letter). l ++ alone w) (no_tokens v e))) (Derives.by_one left b (alone w) there d)

  two_kept : (left : nt.Nt) (a b : Symbol) (v w : List Letter) → Contains es (record { left = left; right = without_bytes (Two a b) }) → Kept a v → Kept b w → Derives es (Nt left) (alone v ++ alone w)
  two_kept left (Range r) (Range s) v w there k l =
      derives_as left [] (alone v ++ alone w) (sym (ap (λ (x : List Letter). x ++ alone w) (no_tokens v (k.1 refl)) ∙ no_tokens w (l.1 refl))) (Derives.by_empty left there)
  two_kept left (Range r) (Token t) v w there k l = second_alone left (Token t) v w there (k.1 refl) (l.0 refl)
  two_kept left (Range r) (Nt n) v w there k l = second_alone left (Nt n) v w there (k.1 refl) (l.0 refl)
  two_kept left (Token t) (Range s) v w there k l = first_alone left (Token t) v w there (k.0 refl) (l.1 refl)
  two_kept left (Token t) (Token u) v w there k l = Derives.by_two left (Token t) (Token u) (alone v) (alone w) there (k.0 refl) (l.0 refl)
  two_kept left (Token t) (Nt n) v w there k l = Derives.by_two left (Token t) (Nt n) (alone v) (alone w) there (k.0 refl) (l.0 refl)
  two_kept left (Nt n) (Range s) v w there k l = first_alone left (Nt n) v w there (k.0 refl) (l.1 refl)
  two_kept left (Nt n) (Token t) v w there k l = Derives.by_two left (Nt n) (Token t) (alone v) (alone w) there (k.0 refl) (l.0 refl)
  two_kept left (Nt n) (Nt m) v w there k l = Derives.by_two left (Nt n) (Nt m) (alone v) (alone w) there (k.0 refl) (l.0 refl)

  -- and of each sentence it is one
  pub kept : (a : Symbol) (v : List Letter) → Derives qs a v → Kept a v
  kept _ _ (Derives.by_range range byte is) = (λ byteless. cc, λ byteless. refl)
  kept _ _ (Derives.by_token token) = (λ byteless. Derives.by_token token, λ byteless. cc)
  kept _ _ (Derives.by_empty left there) = (λ byteless. Derives.by_empty left (mapped _ there), λ byteless. cc)
  kept _ _ (Derives.by_one left a w there d) = (λ byteless. one_kept left a w (mapped _ there) (kept a w d), λ byteless. cc)
  kept _ _ (Derives.by_two left a b v w there d e) = (λ byteless. joined left v w (two_kept left a b v w (mapped _ there) (kept a v d) (kept b w e)), λ byteless. cc)

right_below : (count : ℕ) (r : Right) → list_all (symbol_below count) (symbols_of r) ≡ true → list_all (symbol_below count) (symbols_of (without_bytes r)) ≡ true
right_below count Empty h = refl
right_below count (One (Range r)) h = refl
right_below count (One (Token t)) h = refl
right_below count (One (Nt n)) h = h
right_below count (Two (Range r) (Range s)) h = refl
right_below count (Two (Range r) (Token t)) h = refl
right_below count (Two (Range r) (Nt n)) h = h
right_below count (Two (Token t) (Range s)) h = refl
right_below count (Two (Token t) (Token u)) h = refl
right_below count (Two (Token t) (Nt n)) h = h
right_below count (Two (Nt n) (Range s)) h = h
right_below count (Two (Nt n) (Token t)) h = h
right_below count (Two (Nt n) (Nt m)) h = h

both : (a b : Bool) → a ≡ true → b ≡ true → (a && b) ≡ true
both true b p q = q
both false b p q = cc

-- what is left out leaves the nonterminals below the count
pub below_kept : (count : ℕ) (qs : List Production) → AreBelow count qs → AreBelow count (map production_without_bytes qs)
below_kept count [] h = refl
below_kept count (q ∷ qs) h =
    let here : production_below count q ≡ true = first_so (production_below count q) (list_all (production_below count) qs) h in
    let below : list_all (symbol_below count) (symbols_of q.right) ≡ true = second_so (nat_lt q.left.0 count) (list_all (symbol_below count) (symbols_of q.right)) here in
    both (production_below count (production_without_bytes q)) (list_all (production_below count) (map production_without_bytes qs))
    (both (nat_lt q.left.0 count) (list_all (symbol_below count) (symbols_of (without_bytes q.right))) (first_so (nat_lt q.left.0 count) (list_all (symbol_below count) (symbols_of q.right)) here) (right_below count q.right below))
    (below_kept count qs (second_so (production_below count q) (list_all (production_below count) qs) h))

-- a grammar of texts with their tokens, of which it has all, derives the token lists once it has no bytes
pub token_lists : (IsText : List ℕ → Type 0) (HasTokens : List ℕ → List PageToken → Type 0) (qs : List Production) (start : nt.Nt)
    → EchoTexts IsText HasTokens qs start
    → ((text : List ℕ) (tokens : List PageToken) → IsText text → HasTokens text tokens → (v : List Letter) × Derives qs (Nt start) v × (tokens_in v ≡ tokens))
    → DeriveTokenLists IsText HasTokens (map production_without_bytes qs) start
token_lists IsText HasTokens qs start echo all letters = (
  λ d. let t = taken qs (Nt start) letters d refl in (bytes_in t.0, tokens_in t.0, echo.texts t.0 t.1, echo.tokens t.0 t.1, sym t.2),
  λ listed. let (text, tokens, is, has, e) = listed in
      let s = all text tokens is has in
      subst (λ (l : List Letter). Derives (map production_without_bytes qs) (Nt start) l) (ap (λ (ts : List PageToken). map OfToken ts) s.2 ∙ sym e) ((kept qs (Nt start) s.0 s.1).0 refl),
)

-- the same where the texts have the same tokens by another relation
pub lists_by : (IsText : List ℕ → Type 0) (HasTokens Other : List ℕ → List PageToken → Type 0) (ps : List Production) (start : nt.Nt)
    → ((text : List ℕ) (tokens : List PageToken) → IsText text → HasTokens text tokens → Other text tokens)
    → ((text : List ℕ) (tokens : List PageToken) → IsText text → Other text tokens → HasTokens text tokens)
    → DeriveTokenLists IsText HasTokens ps start → DeriveTokenLists IsText Other ps start
lists_by IsText HasTokens Other ps start to from lists letters = (
  λ d. let (text, tokens, is, has, e) = (lists letters).0 d in (text, tokens, is, to text tokens is has, e),
  λ listed. let (text, tokens, is, has, e) = listed in (lists letters).1 (text, tokens, is, from text tokens is has, e),
)
