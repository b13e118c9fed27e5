-- A draft with a link and new productions is a draft.
use Rattle.std.proofs.Common.{◌≡◌, ◌<◌, ◌≤◌, ◌+◌, ℕ, true, List, [], ◌∷◌, ◌++◌, map, Contains, refl, sym, ap, subst, arith}
use Rattle.std.specs.Prelude.{nat_lt}
use Rattle.std.specs.List.{list_all}
use Rattle.std.proofs.lemmas.Bool.{ltb-true}
use Rattle.text_base.specs.declared.page_token.PageToken.{PageToken}
use Rattle.text_base.specs.declared.numbers.Nt as nt
use Rattle.text_base.specs.declared.letter.Letter.{Letter}
use Rattle.text_base.specs.declared.letter.Letter.TheVariants.{OfByte}
use Rattle.cfg_grammar.specs.declared.symbol.Symbol.{Symbol}
use Rattle.cfg_grammar.specs.declared.symbol.Symbol.TheVariants.{Range, Token, Nt}
use Rattle.cfg_grammar.specs.declared.production.Right.{Right}
use Rattle.cfg_grammar.specs.declared.production.Right.TheVariants.{Empty, One, Two}
use Rattle.cfg_grammar.specs.declared.production.Production.{Production}
use Rattle.cfg_grammar.specs.Below.{symbols_of, symbol_below, production_below, AreBelow}
use Rattle.cfg_grammar.specs.Tokens.{HaveNoToken, is_no_token, production_without_token}
use Rattle.cfg_grammar.specs.Derives.{Derives}
use Rattle.op_system.specs.declared.system.OpSystem.{OpSystem}
use Rattle.least_sets.specs.Sets.{In}
use Rattle.least_sets.specs.Systems.{SystemRow}
use Rattle.resolving.specs.Resolved.{HasLetters}
use Rattle.resolving.specs.Drafts.{IsKind, IsDraft, IsNew}
use Rattle.resolving.proofs.LetterLemmas.{first_in, later_in, all_at, first_so, second_so, letters_append}

pub left_below : (count : ℕ) (ps : List Production) (p : Production) → AreBelow count ps → Contains ps p → p.left.0 < count
left_below count ps p h c = ltb-true p.left.0 count (first_so (nat_lt p.left.0 count) (list_all (symbol_below count) (symbols_of p.right)) (all_at (production_below count) ps p h c))

pub right_below : (count : ℕ) (ps : List Production) (p : Production) (b : nt.Nt) → AreBelow count ps → Contains ps p → Contains (symbols_of p.right) (Nt b) → b.0 < count
right_below count ps p b h c on = ltb-true b.0 count (all_at (symbol_below count) (symbols_of p.right) (Nt b) (second_so (nat_lt p.left.0 count) (list_all (symbol_below count) (symbols_of p.right)) (all_at (production_below count) ps p h c)) on)

-- what stands on the right of productions of the system
abbrev pub IsSystemSymbol : ℕ → Symbol → Type 0
IsSystemSymbol n (Range r) = Unit {0}
IsSystemSymbol n (Token t) = ⊥
IsSystemSymbol n (Nt a) = a.0 < n

abbrev pub IsOldSymbol : ℕ → ℕ → Symbol → Type 0
IsOldSymbol n count (Range r) = Unit {0}
IsOldSymbol n count (Token t) = Unit {0}
IsOldSymbol n count (Nt a) = (n ≤ a.0) × (a.0 < count)

one_empty : (a : Symbol) → Empty ≡ One a → ⊥
one_empty a e = cc

two_one : (a b c : Symbol) → Two a b ≡ One c → ⊥
two_one a b c e = cc

same_one : (a b : Symbol) → One a ≡ One b → a ≡ b
same_one a b e = cc

module _ (s : OpSystem) where
  abbrev N : ℕ
  N = s.grammar.count

  abbrev G : List Production
  G = s.grammar.productions.items

  token_fits : (k : PageToken) → is_no_token (Token k) ≡ true → ⊥
  token_fits k e = cc

  -- symbols of productions of the system
  pub system_symbol : (p : Production) → Contains G p → (a : Symbol) → Contains (symbols_of p.right) a → IsSystemSymbol N a
  system_symbol p has (Range r) on = tt
  system_symbol p has (Token t) on = token_fits t (all_at is_no_token (symbols_of p.right) (Token t) (all_at production_without_token G p s.no_token has) on)
  system_symbol p has (Nt a) on = right_below N G p a s.grammar.below has on

  pub system_left : (p : Production) → Contains G p → p.left.0 < N
  system_left p has = left_below N G p s.grammar.below has

  module _ (ps : List Production) (count : ℕ) (old : IsDraft s ps count) (after : List Production) (more : ℕ) (left m : nt.Nt) (left_in : left.0 < N) (m_new : count ≤ m.0)
      (keeps : (p : Production) → Contains ps p → Contains after p) (split : (p : Production) → Contains after p → IsNew ps count left m p)
      (is_sound : (w : List Letter) → Derives after (Nt m) w → HasLetters s (Nt left) w) where
    least : N ≤ count
    least = old.least

    old_symbol : (p : Production) → Contains ps p → ((b : nt.Nt) → Contains (symbols_of p.right) (Nt b) → N ≤ b.0) → (a : Symbol) → Contains (symbols_of p.right) a → IsOldSymbol N count a
    old_symbol p has own (Range r) on = tt
    old_symbol p has own (Token t) on = tt
    old_symbol p has own (Nt a) on = (own a on, right_below count ps p a old.below has on)

    -- a production with a left side of its own is one of before
    own_old : (p : Production) → N ≤ p.left.0 → p.left.0 < count → IsNew ps count left m p → Contains ps p × ((a : Symbol) → Contains (symbols_of p.right) a → IsOldSymbol N count a)
    own_old p low high (IsNew.old has) = (has, so (old.kinds p has))
      where
        so : IsKind s p → (a : Symbol) → Contains (symbols_of p.right) a → IsOldSymbol N count a
        so (IsKind.of_system among) a on = absurd (let l = system_left p among in omega arith)
        so (IsKind.link lt m' e le) a on = absurd (omega arith)
        so (IsKind.own le among) a on = old_symbol p has among a on
    own_old p low high (IsNew.link e) = absurd (let f : p.left.0 ≡ left.0 = ap (λ (q : Production). q.left.0) e in let l = left_in in omega arith)
    own_old p low high (IsNew.fresh le among) = absurd (omega arith)

    back : (a : Symbol) (w : List Letter) → Derives after a w → IsOldSymbol N count a → Derives ps a w
    back _ _ (Derives.by_range r b within) h = Derives.by_range r b within
    back _ _ (Derives.by_token t) h = Derives.by_token t
    back _ _ (Derives.by_empty l has) h = Derives.by_empty l (own_old (record { left = l; right = Empty }) h.0 h.1 (split (record { left = l; right = Empty }) has)).0
    back _ w (Derives.by_one l a _ has d) h =
        let o = own_old (record { left = l; right = One a }) h.0 h.1 (split (record { left = l; right = One a }) has) in
        Derives.by_one l a w o.0 (back a w d (o.1 a (first_in a [])))
    back _ _ (Derives.by_two l a b v w has d e) h =
        let o = own_old (record { left = l; right = Two a b }) h.0 h.1 (split (record { left = l; right = Two a b }) has) in
        Derives.by_two l a b v w o.0 (back a v d (o.1 a (first_in a (b ∷ [])))) (back b w e (o.1 b (later_in a (b ∷ []) b (first_in b []))))

    -- a production of a nonterminal of the system
    pub data IsLeft (p : Production) : Type 0 where
      system : Contains G p → IsLeft p
      old_link : Contains ps p → (k : nt.Nt) → p.right ≡ One (Nt k) → IsOldSymbol N count (Nt k) → IsLeft p
      new_link : p ≡ record { left = left; right = One (Nt m) } → IsLeft p

    which : (p : Production) → p.left.0 < N → IsNew ps count left m p → IsLeft p
    which p lt (IsNew.old has) = so (old.kinds p has)
      where
        so : IsKind s p → IsLeft p
        so (IsKind.of_system among) = IsLeft.system among
        so (IsKind.link l k e le) = IsLeft.old_link has k e (le, right_below count ps p k old.below has (subst (λ (r : Right). Contains (symbols_of r) (Nt k)) (sym e) (first_in (Nt k) [])))
        so (IsKind.own le among) = absurd (omega arith)
    which p lt (IsNew.link e) = IsLeft.new_link e
    which p lt (IsNew.fresh le among) = absurd (let l = least in omega arith)

    means : (a : Symbol) (w : List Letter) → Derives after a w → IsSystemSymbol N a → HasLetters s a w
    means _ _ (Derives.by_range r b within) h = (b ∷ [], refl, In.text (Range r) (b ∷ []) (SystemRow.of_range r b within))
    means _ _ (Derives.by_token t) h = absurd h
    means _ _ (Derives.by_empty l has) h = so (which (record { left = l; right = Empty }) h (split (record { left = l; right = Empty }) has))
      where
        so : IsLeft (record { left = l; right = Empty }) → HasLetters s (Nt l) []
        so (IsLeft.system among) = ([], refl, In.text (Nt l) [] (SystemRow.of_empty l among))
        so (IsLeft.old_link among k e o) = absurd (one_empty (Nt k) e)
        so (IsLeft.new_link e) = absurd (one_empty (Nt m) (ap (λ (q : Production). q.right) e))
    means _ w (Derives.by_one l a _ has d) h = so (which (record { left = l; right = One a }) h (split (record { left = l; right = One a }) has)) (means a w d)
      where
        so : IsLeft (record { left = l; right = One a }) → (IsSystemSymbol N a → HasLetters s a w) → HasLetters s (Nt l) w
        so (IsLeft.system among) further =
            let t = further (system_symbol (record { left = l; right = One a }) among a (first_in a [])) in
            (t.0, t.1, In.same (Nt l) a t.0 (SystemRow.of_one l a among) t.2)
        so (IsLeft.old_link among k e o) further =
            let is : a ≡ Nt k = same_one a (Nt k) e in
            old.sound l w h (Derives.by_one l a w among (back a w d (subst (IsOldSymbol N count) (sym is) o)))
        so (IsLeft.new_link e) further =
            let is : a ≡ Nt m = same_one a (Nt m) (ap (λ (q : Production). q.right) e) in
            subst (λ (x : nt.Nt). HasLetters s (Nt x) w) (sym (ap (λ (q : Production). q.left) e)) (is_sound w (subst (λ (x : Symbol). Derives after x w) is d))
    means _ _ (Derives.by_two l a b v w has d e) h = so (which (record { left = l; right = Two a b }) h (split (record { left = l; right = Two a b }) has)) (means a v d) (means b w e)
      where
        so : IsLeft (record { left = l; right = Two a b }) → (IsSystemSymbol N a → HasLetters s a v) → (IsSystemSymbol N b → HasLetters s b w) → HasLetters s (Nt l) (v ++ w)
        so (IsLeft.system among) first second =
            let t = first (system_symbol (record { left = l; right = Two a b }) among a (first_in a (b ∷ []))) in
            let u = second (system_symbol (record { left = l; right = Two a b }) among b (later_in a (b ∷ []) b (first_in b []))) in
            (t.0 ++ u.0, joined v w t.0 u.0 t.1 u.1, In.join (Nt l) a b t.0 u.0 (SystemRow.of_two l a b among) t.2 u.2)
          where
            joined : (v w : List Letter) (t u : List ℕ) → v ≡ map OfByte t → w ≡ map OfByte u → v ++ w ≡ map OfByte (t ++ u)
            joined v w t u e f = subst (λ (x : List Letter). x ++ w ≡ map OfByte (t ++ u)) (sym e) (subst (λ (x : List Letter). map OfByte t ++ x ≡ map OfByte (t ++ u)) (sym f) (sym (letters_append t u)))
        so (IsLeft.old_link among k e o) first second = absurd (two_one a b (Nt k) e)
        so (IsLeft.new_link e) first second = absurd (two_one a b (Nt m) (ap (λ (q : Production). q.right) e))

    kind_of : (p : Production) → IsNew ps count left m p → IsKind s p
    kind_of p (IsNew.old has) = old.kinds p has
    kind_of p (IsNew.link e) = IsKind.link (let f : p.left.0 ≡ left.0 = ap (λ (q : Production). q.left.0) e in let l = left_in in omega arith) m (ap (λ (q : Production). q.right) e) (let l = least in omega arith)
    kind_of p (IsNew.fresh le among) = IsKind.own (let l = least in omega arith) (λ b on. let l = least in let k = among b on in omega arith)

    pub draft_more : count ≤ more → AreBelow more after → HaveNoToken after → IsDraft s after more
    draft_more le below plain = record {
      least = (let l = least in omega arith);
      below = below;
      base = λ p has. keeps p (old.base p has);
      kinds = λ p has. kind_of p (split p has);
      no_token = plain;
      sound = λ a w lt d. means (Nt a) w d lt;
    }

-- the system alone
pub draft_begins : (s : OpSystem) → IsDraft s s.grammar.productions.items s.grammar.count
draft_begins s = record {
  least = omega arith;
  below = s.grammar.below;
  base = λ p has. has;
  kinds = λ p has. IsKind.of_system has;
  no_token = s.no_token;
  sound = λ a w lt d. means_only (Nt a) w d lt;
}
  where
    means_only : (a : Symbol) (w : List Letter) → Derives s.grammar.productions.items a w → IsSystemSymbol s.grammar.count a → HasLetters s a w
    means_only _ _ (Derives.by_range r b within) h = (b ∷ [], refl, In.text (Range r) (b ∷ []) (SystemRow.of_range r b within))
    means_only _ _ (Derives.by_token t) h = absurd h
    means_only _ _ (Derives.by_empty l has) h = ([], refl, In.text (Nt l) [] (SystemRow.of_empty l has))
    means_only _ w (Derives.by_one l a _ has d) h =
        let t = means_only a w d (system_symbol s (record { left = l; right = One a }) has a (first_in a [])) in
        (t.0, t.1, In.same (Nt l) a t.0 (SystemRow.of_one l a has) t.2)
    means_only _ _ (Derives.by_two l a b v w has d e) h =
        let t = means_only a v d (system_symbol s (record { left = l; right = Two a b }) has a (first_in a (b ∷ []))) in
        let u = means_only b w e (system_symbol s (record { left = l; right = Two a b }) has b (later_in a (b ∷ []) b (first_in b []))) in
        (t.0 ++ u.0, subst (λ (x : List Letter). x ++ w ≡ map OfByte (t.0 ++ u.0)) (sym t.1) (subst (λ (x : List Letter). map OfByte t.0 ++ x ≡ map OfByte (t.0 ++ u.0)) (sym u.1) (sym (letters_append t.0 u.0))), In.join (Nt l) a b t.0 u.0 (SystemRow.of_two l a b has) t.2 u.2)
