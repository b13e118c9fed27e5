-- A grammar under new names has the same sentences, and nothing useless but its start.
use Rattle.std.proofs.Common.{◌≡◌, ℕ, zero, suc, ◌<◌, ◌≤◌, ◌⊎◌, inl, inr, Bool, true, List, [], ◌∷◌, ◌++◌, length, Contains, Option, None, Some, refl, sym, ◌∙◌, ap, subst, arith, slice_get}
use Rattle.std.specs.Prelude.{◌↔◌, slice_index_or}
use Rattle.std.specs.List.{list_all}
use Rattle.std.proofs.lemmas.Option.{slice_get_within}
use Rattle.text_base.specs.declared.letter.Letter.{Letter}
use Rattle.text_base.specs.declared.letter.Letter.TheVariants.{OfByte, OfToken}
use Rattle.text_base.specs.declared.page_token.PageToken.{PageToken}
use Rattle.text_base.specs.declared.numbers.Nt as nt
use Rattle.cfg_grammar.specs.declared.symbol.Symbol.{Symbol}
use Rattle.cfg_grammar.specs.declared.symbol.Symbol.TheVariants.{Range, Token, Nt}
use Rattle.cfg_grammar.specs.declared.production.Right.{Right}
use Rattle.cfg_grammar.specs.declared.production.Right.TheVariants.{Empty, One, Two}
use Rattle.cfg_grammar.specs.declared.production.Production.{Production}
use Rattle.cfg_grammar.specs.Below.{production_below}
use Rattle.cfg_grammar.specs.Derives.{Derives}
use Rattle.useful_nonterminals.specs.Follows.{IsMarked}
use Rattle.useful_nonterminals.specs.Useful.{IsUseful}
use Rattle.useful_nonterminals.specs.Naming.{IsNaming, name_at, as_named, named_symbol, as_one, as_two, named_right, as_production, named_productions}
use Rattle.useful_nonterminals.specs.Trimmed.{HasToken, AreNamed, IsTrimmed}
use Rattle.useful_nonterminals.proofs.ProductionLemmas.{some_same, named_in, in_named, as_few, named_back, range_back, token_back, nonterminal_back, production_back, empty_back, one_back, two_back, token_stands, all_below}

name_found : (names : List (Option ℕ)) (n k : ℕ) → slice_index_or names n None ≡ Some k → slice_get names n ≡ Some (Some k)
name_found [] n k e = cc
name_found (o ∷ names) zero k e = ap (λ (x : Option ℕ). Some x) e
name_found (o ∷ names) (suc n) k e = name_found names n k e

name_read : (names : List (Option ℕ)) (n k : ℕ) → slice_get names n ≡ Some (Some k) → slice_index_or names n None ≡ Some k
name_read [] n k e = cc
name_read (o ∷ names) zero k e = some_same o (Some k) e
name_read (o ∷ names) (suc n) k e = name_read names n k e

at_some : (xs : List ℕ) (n : ℕ) → n < length xs → (x : ℕ) × (slice_get xs n ≡ Some x)
at_some [] n h = absurd (omega (arith, h))
at_some (x ∷ xs) zero h = (x, refl)
at_some (x ∷ xs) (suc n) h = at_some xs n (omega (arith, h))

module _ (ps : List Production) (start : nt.Nt) (marks : List Bool) (names : List (Option ℕ)) (count : ℕ) (naming : IsNaming marks start.0 names count) (long : length names ≡ length marks) (exact : (a : nt.Nt) → IsMarked marks a.0 ↔ IsUseful ps start a) (start' : nt.Nt) (starts : name_at names start ≡ Some start'.0) where
  new : List Production
  new = named_productions names ps

  same_name : (a b : nt.Nt) (k : ℕ) → name_at names a ≡ Some k → name_at names b ≡ Some k → a ≡ b
  same_name a b k e f =
      let one = naming.into a.0 k (name_found names a.0 k e) in
      let two = naming.into b.0 k (name_found names b.0 k f) in
      ap (λ (n : ℕ). record { 0 = n }) (some_same a.0 b.0 (sym one ∙ two))

  pub name_below : (a : nt.Nt) (k : ℕ) → name_at names a ≡ Some k → k < count
  name_below a k e = subst (λ (n : ℕ). k < n) naming.many (slice_get_within naming.kept k a.0 (naming.into a.0 k (name_found names a.0 k e)))

  -- a production of the new grammar is one of the old under new names
  used : (left : nt.Nt) (r' : Right) (a : nt.Nt) → Contains new (record { left = left; right = r' }) → name_at names a ≡ Some left.0 → (r : Right) × Contains ps (record { left = a; right = r }) × (named_right names r ≡ Some r')
  unfolding new
  used left r' a c e =
      let found = named_in names ps (record { left = left; right = r' }) c in
      let back = production_back names (name_at names found.0.left) (named_right names found.0.right) (record { left = left; right = r' }) found.2 in
      (found.0.right, subst (λ (b : nt.Nt). Contains ps (record { left = b; right = found.0.right })) (same_name found.0.left a left.0 back.0 e) found.1, back.1)

  sound : (x' : Symbol) (w : List Letter) → Derives new x' w → (x : Symbol) → named_symbol names x ≡ Some x' → Derives ps x w
  sound x' w (Derives.by_range range byte h) x e = subst (λ (s : Symbol). Derives ps s (OfByte byte ∷ [])) (sym (range_back names x range e)) (Derives.by_range range byte h)
  sound x' w (Derives.by_token token) x e = subst (λ (s : Symbol). Derives ps s (OfToken token ∷ [])) (sym (token_back names x token e)) (Derives.by_token token)
  sound x' w (Derives.by_empty left c) x e =
      let back = nonterminal_back names x left e in
      let from = used left Empty back.0 c back.2 in
      subst (λ (s : Symbol). Derives ps s []) (sym back.1) (Derives.by_empty back.0 (subst (λ (r : Right). Contains ps (record { left = back.0; right = r })) (empty_back names from.0 from.2) from.1))
  sound x' w (Derives.by_one left a' v c d) x e =
      let back = nonterminal_back names x left e in
      let from = used left (One a') back.0 c back.2 in
      let one = one_back names from.0 a' from.2 in
      subst (λ (s : Symbol). Derives ps s v) (sym back.1) (Derives.by_one back.0 one.0 v (subst (λ (r : Right). Contains ps (record { left = back.0; right = r })) one.1 from.1) (sound a' v d one.0 one.2))
  sound x' w (Derives.by_two left a' b' u v c d f) x e =
      let back = nonterminal_back names x left e in
      let from = used left (Two a' b') back.0 c back.2 in
      let two = two_back names from.0 a' b' from.2 in
      subst (λ (s : Symbol). Derives ps s (u ++ v)) (sym back.1) (Derives.by_two back.0 two.0 two.1 u v (subst (λ (r : Right). Contains ps (record { left = back.0; right = r })) two.2 from.1) (sound a' u d two.0 two.3) (sound b' v f two.1 two.4))

  -- a nonterminal is useful
  abbrev Serves : Symbol → Type 0
  Serves (Range range) = Unit {0}
  Serves (Token token) = Unit {0}
  Serves (Nt a) = IsUseful ps start a

  serves_one : (left : nt.Nt) (a : Symbol) (w : List Letter) → IsUseful ps start left → Contains ps (record { left = left; right = One a }) → Derives ps a w → Serves a
  serves_one left (Range r) w u c d = tt
  serves_one left (Token t) w u c d = tt
  serves_one left (Nt a) w u c d = IsUseful.alone left a w u c d

  serves_first : (left : nt.Nt) (a b : Symbol) (v w : List Letter) → IsUseful ps start left → Contains ps (record { left = left; right = Two a b }) → Derives ps a v → Derives ps b w → Serves a
  serves_first left (Range r) b v w u c d e = tt
  serves_first left (Token t) b v w u c d e = tt
  serves_first left (Nt a) b v w u c d e = IsUseful.as_first left a b v w u c d e

  serves_second : (left : nt.Nt) (a b : Symbol) (v w : List Letter) → IsUseful ps start left → Contains ps (record { left = left; right = Two a b }) → Derives ps a v → Derives ps b w → Serves b
  serves_second left a (Range r) v w u c d e = tt
  serves_second left a (Token t) v w u c d e = tt
  serves_second left a (Nt b) v w u c d e = IsUseful.as_second left b a v w u c d e

  has_name : (a : nt.Nt) → IsUseful ps start a → (k : ℕ) × (name_at names a ≡ Some k)
  has_name a u =
      let marked = (exact a).1 u in
      let within = subst (λ (n : ℕ). a.0 < n) (sym long) (slice_get_within marks a.0 true marked) in
      let found = naming.all a.0 within (inl marked) in
      (found.0, name_read names a.0 found.0 found.1)

  put_empty : (left : nt.Nt) (k : ℕ) → name_at names left ≡ Some k → Contains ps (record { left = left; right = Empty }) → Contains new (record { left = record { 0 = k }; right = Empty })
  unfolding new
  put_empty left k e c = in_named names ps (record { left = left; right = Empty }) (record { left = record { 0 = k }; right = Empty }) c (ap (λ (o : Option ℕ). as_production o (Some Empty)) e)

  put_one : (left : nt.Nt) (k : ℕ) (a a' : Symbol) → name_at names left ≡ Some k → named_symbol names a ≡ Some a' → Contains ps (record { left = left; right = One a }) → Contains new (record { left = record { 0 = k }; right = One a' })
  unfolding new
  put_one left k a a' e f c =
      in_named names ps (record { left = left; right = One a }) (record { left = record { 0 = k }; right = One a' }) c
      (ap (λ (o : Option ℕ). as_production o (as_one (named_symbol names a))) e ∙ ap (λ (o : Option Symbol). as_production (Some k) (as_one o)) f)

  put_two : (left : nt.Nt) (k : ℕ) (a b a' b' : Symbol) → name_at names left ≡ Some k → named_symbol names a ≡ Some a' → named_symbol names b ≡ Some b' → Contains ps (record { left = left; right = Two a b }) → Contains new (record { left = record { 0 = k }; right = Two a' b' })
  unfolding new
  put_two left k a b a' b' e f g c =
      in_named names ps (record { left = left; right = Two a b }) (record { left = record { 0 = k }; right = Two a' b' }) c
      (ap (λ (o : Option ℕ). as_production o (as_two (named_symbol names a) (named_symbol names b))) e
      ∙ ap (λ (o : Option Symbol). as_production (Some k) (as_two o (named_symbol names b))) f
      ∙ ap (λ (o : Option Symbol). as_production (Some k) (as_two (Some a') o)) g)

  complete : (x : Symbol) (w : List Letter) → Derives ps x w → Serves x → (x' : Symbol) × (named_symbol names x ≡ Some x') × Derives new x' w
  complete x w (Derives.by_range range byte h) u = (Range range, refl, Derives.by_range range byte h)
  complete x w (Derives.by_token token) u = (Token token, refl, Derives.by_token token)
  complete x w (Derives.by_empty left c) u =
      let name = has_name left u in
      (Nt (record { 0 = name.0 }), ap as_named name.1, Derives.by_empty (record { 0 = name.0 }) (put_empty left name.0 name.1 c))
  complete x w (Derives.by_one left a v c d) u =
      let name = has_name left u in
      let one = complete a v d (serves_one left a v u c d) in
      (Nt (record { 0 = name.0 }), ap as_named name.1, Derives.by_one (record { 0 = name.0 }) one.0 v (put_one left name.0 a one.0 name.1 one.1 c) one.2)
  complete x w (Derives.by_two left a b s v c d e) u =
      let name = has_name left u in
      let one = complete a s d (serves_first left a b s v u c d e) in
      let two = complete b v e (serves_second left a b s v u c d e) in
      (Nt (record { 0 = name.0 }), ap as_named name.1, Derives.by_two (record { 0 = name.0 }) one.0 two.0 s v (put_two left name.0 a b one.0 two.0 name.1 one.1 two.1 c) one.2 two.2)

  -- the same of a nonterminal, by its name
  derived : (a : nt.Nt) (w : List Letter) → Derives ps (Nt a) w → IsUseful ps start a → (k : ℕ) × (name_at names a ≡ Some k) × Derives new (Nt (record { 0 = k })) w
  derived a w d u =
      let c = complete (Nt a) w d u in
      let back = named_back names (name_at names a) c.0 c.1 in
      (back.0, back.1, subst (λ (s : Symbol). Derives new s w) back.2 c.2)

  at_name : (a : nt.Nt) (k : ℕ) → name_at names a ≡ Some k → named_symbol names (Nt a) ≡ Some (Nt (record { 0 = k }))
  at_name a k e = ap as_named e

  stays_useful : (a : nt.Nt) → IsUseful ps start a → (k : ℕ) × (name_at names a ≡ Some k) × IsUseful new start' (record { 0 = k })
  stays_useful a (IsUseful.at_start w d) =
      let c = derived start w d (IsUseful.at_start w d) in
      let same : c.0 ≡ start'.0 = some_same c.0 start'.0 (sym c.1 ∙ starts) in
      (start'.0, starts, IsUseful.at_start w (subst (λ (k : ℕ). Derives new (Nt (record { 0 = k })) w) same c.2))
  stays_useful a (IsUseful.alone left b w u c d) =
      let up = stays_useful left u in
      let own = derived b w d (IsUseful.alone left b w u c d) in
      (own.0, own.1, IsUseful.alone (record { 0 = up.0 }) (record { 0 = own.0 }) w up.2 (put_one left up.0 (Nt b) (Nt (record { 0 = own.0 })) up.1 (at_name b own.0 own.1) c) own.2)
  stays_useful a (IsUseful.as_first left b s v w u c d e) =
      let up = stays_useful left u in
      let own = derived b v d (IsUseful.as_first left b s v w u c d e) in
      let other = complete s w e (serves_second left (Nt b) s v w u c d e) in
      (own.0, own.1, IsUseful.as_first (record { 0 = up.0 }) (record { 0 = own.0 }) other.0 v w up.2 (put_two left up.0 (Nt b) s (Nt (record { 0 = own.0 })) other.0 up.1 (at_name b own.0 own.1) other.1 c) own.2 other.2)
  stays_useful a (IsUseful.as_second left b s v w u c d e) =
      let up = stays_useful left u in
      let own = derived b w e (IsUseful.as_second left b s v w u c d e) in
      let other = complete s v d (serves_first left s (Nt b) v w u c d e) in
      (own.0, own.1, IsUseful.as_second (record { 0 = up.0 }) (record { 0 = own.0 }) other.0 v w up.2 (put_two left up.0 s (Nt b) other.0 (Nt (record { 0 = own.0 })) up.1 other.1 (at_name b own.0 own.1) c) other.2 own.2)

  same_sentences : (w : List Letter) → Derives ps (Nt start) w ↔ Derives new (Nt start') w
  same_sentences w = (
    (λ d.
        let c = derived start w d (IsUseful.at_start w d) in
        subst (λ (k : ℕ). Derives new (Nt (record { 0 = k })) w) (some_same c.0 start'.0 (sym c.1 ∙ starts)) c.2),
    (λ d. sound (Nt start') w d (Nt start) (ap as_named starts)),
  )

  each_is_useful : (a : nt.Nt) → a.0 < count → (a ≡ start') ⊎ IsUseful new start' a
  each_is_useful a h =
      let old = at_some naming.kept a.0 (subst (λ (n : ℕ). a.0 < n) (sym naming.many) h) in
      let at = naming.back a.0 old.0 old.1 in
      let named = name_read names old.0 a.0 at in
      elim (naming.only old.0 a.0 at) [
        | inl marked ↦
            let u = stays_useful (record { 0 = old.0 }) ((exact (record { 0 = old.0 })).0 marked) in
            inr (subst (λ (k : ℕ). IsUseful new start' (record { 0 = k })) (some_same u.0 a.0 (sym u.1 ∙ named)) u.2)
        | inr same ↦ inl (ap (λ (k : ℕ). record { 0 = k }) (some_same a.0 start'.0 (sym named ∙ ap (λ (n : ℕ). slice_index_or names n None) same ∙ starts)))
      ]

  no_new_token : (token : PageToken) → HasToken new token → HasToken ps token
  unfolding new
  no_new_token token (p', c, t) =
      let found = named_in names ps p' c in
      let back = production_back names (name_at names found.0.left) (named_right names found.0.right) p' found.2 in
      (found.0, found.1, token_stands names found.0.right p'.right token back.1 t)

  only_these : (a : nt.Nt) (k : ℕ) → name_at names a ≡ Some k → (a ≡ start) ⊎ IsUseful ps start a
  only_these a k e = elim (naming.only a.0 k (name_found names a.0 k e)) [
    | inl marked ↦ inr ((exact a).0 marked)
    | inr same ↦ inl (ap (λ (n : ℕ). let x : nt.Nt = record { 0 = n } in x) same)
  ]

  are_named : AreNamed ps start (named_productions names ps) start'
  are_named = record { names = names; productions = refl; first = starts; all = has_name; only = only_these; different = same_name }

  pub trimmed : (all : ℕ) → count ≤ all → IsTrimmed ps start all (named_productions names ps) start' count
  unfolding new
  trimmed all h = record {
    sentences = same_sentences;
    useful = each_is_useful;
    tokens = no_new_token;
    fewer = h;
    as_few = as_few names ps;
    named = are_named;
  }

  pub below : list_all (production_below count) (named_productions names ps) ≡ true
  below = all_below names count name_below ps
