-- From a derivation of tokens to one of a text that has them.
use Rattle.std.proofs.Common.{◌≡◌, ℕ, Bool, true, List, [], ◌∷◌, ◌++◌, map, refl, sym, ◌∙◌, ap, subst, Some, Option, None, slice_get, option_map, IsTrue, ◌&&◌, ◌-◌, append-nil, length}
use Rattle.std.proofs.lemmas.List.{length-map}
use Rattle.std.proofs.lemmas.Option.{slice_get-map}
use Rattle.text_base.specs.declared.byte_range.ByteRange.{ByteRange}
use Rattle.text_base.specs.declared.letter.Letter.{Letter}
use Rattle.text_base.specs.declared.letter.Letter.TheVariants.{OfByte, OfToken}
use Rattle.text_base.specs.declared.numbers.Nt as nt
use Rattle.text_base.specs.declared.page_token.PageToken.{PageToken}
use Rattle.cfg_grammar.specs.declared.production.Production.{Production}
use Rattle.cfg_grammar.specs.declared.production.Right.{Right}
use Rattle.cfg_grammar.specs.declared.production.Right.TheVariants as right
use Rattle.cfg_grammar.specs.declared.symbol.Symbol.{Symbol}
use Rattle.cfg_grammar.specs.declared.symbol.Symbol.TheVariants.{Range, Token as OfKind, Nt}
use Rattle.derivations.specs.Nodes.{part_below, parts_below}
use Rattle.derivations.specs.Stands.{IsDerivation, Stands, root_of}
use Rattle.derivations.specs.declared.node.Node.{Node}
use Rattle.derivations.specs.declared.node.Part.{Part}
use Rattle.derivations.specs.declared.node.Part.TheVariants.{Byte, Inner}
use Rattle.derivations.specs.declared.node.Parts.{Parts}
use Rattle.derivations.specs.declared.node.Parts.TheVariants.{Empty, One, Two}
use Rattle.summary_decision.specs.Pairs.{tokens_in}
use Rattle.summary_decision.proofs.ClosedLemmas.{tokens_append}
use Rattle.page_decision.specs.Restoring.{restored, use_of, with_bytes, with_bytes_of}
use Rattle.page_decision.specs.TokenGrammars.{is_no_byte, without_bytes, production_without_bytes}
use Rattle.page_decision.proofs.TokenLemmas.{WasEmpty, was_empty, was_byte, was_bytes, WasOne, was_one, was_behind, was_before, empty_was, one_was, two_was, from_place, first_in}

-- what stands for a right side is before a place where what stands for it without its bytes is
pub bytes_below : (n : ℕ) (r : Right) (parts : Parts) → IsTrue (parts_below n parts) → IsTrue (parts_below n (with_bytes r parts))
bytes_below n right.Empty parts h = h
bytes_below n (right.One (Range range)) parts h = refl
bytes_below n (right.One (OfKind t)) parts h = h
bytes_below n (right.One (Nt a)) parts h = h
bytes_below n (right.Two (Range r) (Range s)) parts h = refl
bytes_below n (right.Two (Range r) (OfKind t)) Empty h = h
bytes_below n (right.Two (Range r) (OfKind t)) (One p) h = h
bytes_below n (right.Two (Range r) (OfKind t)) (Two p q) h = h
bytes_below n (right.Two (Range r) (Nt a)) Empty h = h
bytes_below n (right.Two (Range r) (Nt a)) (One p) h = h
bytes_below n (right.Two (Range r) (Nt a)) (Two p q) h = h
bytes_below n (right.Two (OfKind t) (Range s)) Empty h = h
bytes_below n (right.Two (OfKind t) (Range s)) (One p) h = let e : part_below n p ≡ true = h in ap (λ (b : Bool). b && true) e
bytes_below n (right.Two (OfKind t) (Range s)) (Two p q) h = h
bytes_below n (right.Two (Nt a) (Range s)) Empty h = h
bytes_below n (right.Two (Nt a) (Range s)) (One p) h = let e : part_below n p ≡ true = h in ap (λ (b : Bool). b && true) e
bytes_below n (right.Two (Nt a) (Range s)) (Two p q) h = h
bytes_below n (right.Two (OfKind t) (OfKind u)) parts h = h
bytes_below n (right.Two (OfKind t) (Nt a)) parts h = h
bytes_below n (right.Two (Nt a) (OfKind t)) parts h = h
bytes_below n (right.Two (Nt a) (Nt b)) parts h = h

pub bytes_of_below : (n : ℕ) (o : Option Production) (parts : Parts) → IsTrue (parts_below n parts) → IsTrue (parts_below n (with_bytes_of o parts))
bytes_of_below n None parts h = h
bytes_of_below n (Some p) parts h = bytes_below n p.right parts h

one_as : (a : Symbol) (parts : Parts) → is_no_byte a ≡ true → with_bytes (right.One a) parts ≡ parts
one_as (Range range) parts byteless = cc
one_as (OfKind t) parts byteless = refl
one_as (Nt a) parts byteless = refl

behind_as : (range : ByteRange) (a : Symbol) (p : Part) → is_no_byte a ≡ true → with_bytes (right.Two (Range range) a) (One p) ≡ Two (Byte range.lo) p
behind_as range (Range s) p byteless = cc
behind_as range (OfKind t) p byteless = refl
behind_as range (Nt a) p byteless = refl

before_as : (range : ByteRange) (a : Symbol) (p : Part) → is_no_byte a ≡ true → with_bytes (right.Two a (Range range)) (One p) ≡ Two p (Byte range.lo)
before_as range (Range s) p byteless = cc
before_as range (OfKind t) p byteless = refl
before_as range (Nt a) p byteless = refl

two_as : (a b : Symbol) (parts : Parts) → is_no_byte a ≡ true → is_no_byte b ≡ true → with_bytes (right.Two a b) parts ≡ parts
two_as (Range r) b parts byteless byteless' = cc
two_as (OfKind t) (Range s) parts byteless byteless' = cc
two_as (Nt a) (Range s) parts byteless byteless' = cc
two_as (OfKind t) (OfKind u) parts byteless byteless' = refl
two_as (OfKind t) (Nt b) parts byteless byteless' = refl
two_as (Nt a) (OfKind u) parts byteless byteless' = refl
two_as (Nt a) (Nt b) parts byteless byteless' = refl

module _ (qs : List Production) (ns ms : List Node) (same : map use_of ms ≡ map (restored qs) ns) where
  abbrev pub es : List Production
  es = map production_without_bytes qs

  -- the node in place of one that uses a production with this left side, and the right side with its bytes
  pub record Restores (n : ℕ) (node : Node) (left : nt.Nt) (without : Right) : Type 0 where
    pub m : Node
    pub right : Right
    pub at : slice_get ms n ≡ Some m
    pub uses : slice_get qs m.production ≡ Some (record { left = left; right = right })
    pub parts : m.parts ≡ with_bytes right node.parts
    pub is : without_bytes right ≡ without

  restores : (n : ℕ) (node : Node) (left : nt.Nt) (without : Right) → slice_get ns n ≡ Some node
      → slice_get es node.production ≡ Some (record { left = left; right = without }) → Restores n node left without
  restores n node left without here uses =
      let there : slice_get (map use_of ms) n ≡ Some (restored qs node) =
      ap (λ (us : List (ℕ × Parts)). slice_get us n) same ∙ (slice_get-map (restored qs) ns n ∙ ap (option_map (restored qs)) here) in
      let m = from_place use_of ms n (restored qs node) there in
      let q = from_place production_without_bytes qs node.production (record { left = left; right = without }) uses in
      let is_left : q.0.left ≡ left = ap (λ (x : Production). x.left) q.2 in
      let number : m.0.production ≡ node.production = ap (λ (x : ℕ × Parts). x.0) m.2 in
      let whole : slice_get qs node.production ≡ Some (record { left = q.0.left; right = q.0.right }) = q.1 in
      record {
        m = m.0;
        right = q.0.right;
        at = m.1;
        uses = ap (slice_get qs) number ∙ subst (λ (l : nt.Nt). slice_get qs node.production ≡ Some (record { left = l; right = q.0.right })) is_left whole;
        parts = ap (λ (x : ℕ × Parts). x.1) m.2 ∙ ap (λ (o : Option Production). with_bytes_of o node.parts) q.1;
        is = ap (λ (x : Production). x.right) q.2;
      }

  -- the part is a derivation by the productions with their bytes, with the same tokens
  abbrev pub Filled : Part → Symbol → List Letter → Type 0
  Filled p a w = (v : List Letter) × Stands qs ms p a v × (tokens_in v ≡ tokens_in w)

  byte_stands : (range : ByteRange) → Stands qs ms (Byte range.lo) (Range range) (OfByte range.lo ∷ [])
  byte_stands range = Stands.by_byte range range.lo (first_in range)

  empty_filled : (n : ℕ) (m : Node) (left : nt.Nt) (r : Right) → slice_get ms n ≡ Some m → slice_get qs m.production ≡ Some (record { left = left; right = r })
      → m.parts ≡ with_bytes r Empty → WasEmpty r → Filled (Inner n) (Nt left) []
  empty_filled n m left _ at uses parts was_empty = ([], Stands.by_empty n m left at uses parts, refl)
  empty_filled n m left _ at uses parts (was_byte range) =
      (OfByte range.lo ∷ [], Stands.by_one n m left (Range range) (Byte range.lo) (OfByte range.lo ∷ []) at uses parts (byte_stands range), refl)
  empty_filled n m left _ at uses parts (was_bytes first second) =
      (OfByte first.lo ∷ OfByte second.lo ∷ [], Stands.by_two n m left (Range first) (Range second) (Byte first.lo) (Byte second.lo) (OfByte first.lo ∷ []) (OfByte second.lo ∷ []) at uses parts (byte_stands first) (byte_stands second), refl)

  one_filled : (n : ℕ) (m : Node) (left : nt.Nt) (a : Symbol) (p : Part) (w : List Letter) (r : Right) → slice_get ms n ≡ Some m
      → slice_get qs m.production ≡ Some (record { left = left; right = r }) → m.parts ≡ with_bytes r (One p) → is_no_byte a ≡ true → WasOne a r
      → Filled p a w → Filled (Inner n) (Nt left) w
  one_filled n m left a p w _ at uses parts byteless was_one (v, d, e) = (v, Stands.by_one n m left a p v at uses (parts ∙ one_as a (One p) byteless) d, e)
  one_filled n m left a p w _ at uses parts byteless (was_behind range) (v, d, e) =
      (OfByte range.lo ∷ v, Stands.by_two n m left (Range range) a (Byte range.lo) p (OfByte range.lo ∷ []) v at uses (parts ∙ behind_as range a p byteless) (byte_stands range) d, e)
  one_filled n m left a p w _ at uses parts byteless (was_before range) (v, d, e) = (
    v ++ OfByte range.lo ∷ [],
    Stands.by_two n m left a (Range range) p (Byte range.lo) v (OfByte range.lo ∷ []) at uses (parts ∙ before_as range a p byteless) d (byte_stands range),
    (tokens_append v (OfByte range.lo ∷ []) ∙ append-nil (tokens_in v)) ∙ e,
  )

  two_filled : (n : ℕ) (m : Node) (left : nt.Nt) (a b : Symbol) (p q : Part) (v w : List Letter) → slice_get ms n ≡ Some m
      → slice_get qs m.production ≡ Some (record { left = left; right = right.Two a b }) → m.parts ≡ Two p q → Filled p a v → Filled q b w
      → Filled (Inner n) (Nt left) (v ++ w)
  two_filled n m left a b p q v w at uses parts (x, d, e) (y, f, g) = (
    x ++ y,
    Stands.by_two n m left a b p q x y at uses parts d f,
    tokens_append x y ∙ (ap (λ (l : List PageToken). l ++ tokens_in y) e ∙ (ap (λ (l : List PageToken). tokens_in v ++ l) g ∙ sym (tokens_append v w))),
  )

  -- a derivation of tokens is one of a text with these tokens, once the bytes are back
  pub filled : (p : Part) (a : Symbol) (w : List Letter) → Stands es ns p a w → is_no_byte a ≡ true → Filled p a w
  filled _ _ _ (Stands.by_byte range byte is) byteless = cc
  filled _ _ _ (Stands.by_token token) byteless = (OfToken token ∷ [], Stands.by_token token, refl)
  filled _ _ _ (Stands.by_empty n node left here uses parts) byteless =
      let r = restores n node left right.Empty here uses in
      empty_filled n r.m left r.right r.at r.uses (r.parts ∙ ap (with_bytes r.right) parts) (empty_was r.right r.is)
  filled _ _ _ (Stands.by_one n node left a p w here uses parts d) byteless =
      let r = restores n node left (right.One a) here uses in
      let was = one_was r.right a r.is in
      one_filled n r.m left a p w r.right r.at r.uses (r.parts ∙ ap (with_bytes r.right) parts) was.0 was.1 (filled p a w d was.0)
  filled _ _ _ (Stands.by_two n node left a b p q v w here uses parts d e) byteless =
      let r = restores n node left (right.Two a b) here uses in
      let was = two_was r.right a b r.is in
      two_filled n r.m left a b p q v w r.at (subst (λ (x : Right). slice_get qs r.m.production ≡ Some (record { left = left; right = x })) was.0 r.uses)
      (r.parts ∙ (ap (with_bytes r.right) parts ∙ (ap (λ (x : Right). with_bytes x (Two p q)) was.0 ∙ two_as a b (Two p q) was.1 was.2)))
      (filled p a v d was.1) (filled q b w e was.2)

  -- so it is with the root
  pub root_filled : (ts : List Production) (start from : nt.Nt) → ts ≡ es → start ≡ from → (w : List Letter) → IsDerivation ts ns start w
      → (v : List Letter) × IsDerivation qs ms from v × (tokens_in v ≡ tokens_in w)
  root_filled ts start from is begins w derived =
      let long : length ms ≡ length ns = sym (length-map ms use_of) ∙ (ap (λ (us : List (ℕ × Parts)). length us) same ∙ length-map ns (restored qs)) in
      let there : Stands es ns (Inner (length ms - 1)) (Nt from) w =
      subst (λ (k : ℕ). Stands es ns (Inner (k - 1)) (Nt from) w) (sym long)
      (subst (λ (a : nt.Nt). Stands es ns (root_of ns) (Nt a) w) begins (subst (λ (ps : List Production). Stands ps ns (root_of ns) (Nt start) w) is derived)) in
      filled (Inner (length ms - 1)) (Nt from) w there refl
