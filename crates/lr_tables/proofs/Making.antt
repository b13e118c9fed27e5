-- What is told of a derivation makes its value, and nothing else is made; so where at most one thing is told, there is at most one value.
use Rattle.std.proofs.Common.{◌≡◌, ℕ, suc, ◌+◌, ◌<◌, arith, true, false, nat_lt, List, [], ◌∷◌, ◌++◌, refl, sym, ◌∙◌, ap, subst, Option, Some, None}
use Rattle.std.specs.Prelude.{slice_get}
use Rattle.lr_tables.specs.declared.rule.Rule.{Rule}
use Rattle.lr_tables.specs.declared.event.Event as event
use Rattle.lr_tables.specs.Grammars.{Grammar, head, is_blocked, is_barred, onto, side, IsDerived, Derives, leaf, node, Spells, none, more}
use Rattle.lr_tables.specs.Machine.{Tables}
use Rattle.lr_tables.specs.Certificates.{Certificate}
use Rattle.lr_tables.specs.Checks.{tables_ok, paid, weight_of}
use Rattle.lr_tables.proofs.Basics.{read_is}
use Rattle.lr_tables.proofs.Complete.{is_complete}
use Rattle.lr_tables.specs.Values.{Meaning, kinds, Has, Have, token, made, nothing, further, taken, kept, acted_on, by_rule, make, AreMade, AreMeant, HaveOneValue}

-- xs, turned round, before ys
abbrev turn : {A : Type 0} → List A → List A → List A
turn [] ys = ys
turn (x ∷ xs) ys = turn xs (x ∷ ys)

abbrev AreAsLong : {A : Type 0} → List ℕ → List A → Type 0
AreAsLong [] [] = Unit {0}
AreAsLong [] (v ∷ vs) = ⊥
AreAsLong (x ∷ xs) [] = ⊥
AreAsLong (x ∷ xs) (v ∷ vs) = AreAsLong xs vs

-- values that were put on the stack for these symbols are taken from it again
taken_turned : {A : Type 0} (xs done : List ℕ) (vs stack got : List A) → AreAsLong xs vs → taken (onto xs done) (turn vs stack) got ≡ taken done stack (vs ++ got)
taken_turned [] done [] stack got h = refl
taken_turned [] done (v ∷ vs) stack got h = absurd h
taken_turned (x ∷ xs) done [] stack got h = absurd h
taken_turned (x ∷ xs) done (v ∷ vs) stack got h = taken_turned xs (x ∷ done) vs (v ∷ stack) got h

and_nothing : {A : Type 0} (xs : List A) → xs ++ [] ≡ xs
and_nothing [] = refl
and_nothing (x ∷ xs) = ap (λ ys. x ∷ ys) (and_nothing xs)

taken_all : {A : Type 0} (xs : List ℕ) (vs stack : List A) → AreAsLong xs vs → taken (onto xs []) (turn vs stack) [] ≡ Some (vs, stack)
taken_all xs vs stack h = taken_turned xs [] vs stack [] h ∙ ap (λ (ws : _). Some (ws, stack)) (and_nothing vs)

none_some : {A : Type 0} {x : A} {P : Type 0} → None ≡ Some x → P
none_some e = cc

empty_full : {x : ℕ} {xs : List ℕ} {P : Type 0} → [] ≡ x ∷ xs → P
empty_full e = cc

full_empty : {x : ℕ} {xs : List ℕ} {P : Type 0} → x ∷ xs ≡ [] → P
full_empty e = cc

first_is : {x y : ℕ} {xs ys : List ℕ} → x ∷ xs ≡ y ∷ ys → x ≡ y
first_is e = cc

rest_is : {x y : ℕ} {xs ys : List ℕ} → x ∷ xs ≡ y ∷ ys → xs ≡ ys
rest_is e = cc

module _ (g : Grammar) (m : Meaning) where
  long : {prev : ℕ} {xs : List ℕ} {from rest : List m.Token} {vs : List m.Value} → Have g m prev xs from rest vs → AreAsLong xs vs
  long (nothing prev rest) = tt
  long (further prev x xs from mid rest v vs h hs) = long hs

  record Told (prev x : ℕ) (from rest : List m.Token) (v : m.Value) (later : List event.Event) : Type 0 where
    es : List event.Event
    derived : Derives g prev x (kinds m from) (kinds m rest) es later
    makes : (stack : List m.Value) → make g m es from stack ≡ make g m later rest (v ∷ stack)

  record AllTold (prev : ℕ) (xs : List ℕ) (from rest : List m.Token) (vs : List m.Value) (later : List event.Event) : Type 0 where
    es : List event.Event
    spelled : Spells g prev xs (kinds m from) (kinds m rest) es later
    makes : (stack : List m.Value) → make g m es from stack ≡ make g m later rest (turn vs stack)

  one_token : (prev : ℕ) (k : m.Token) (rest : List m.Token) (later : List event.Event) → nat_lt (m.kind k) g.terminals ≡ true → Told prev (m.kind k) (k ∷ rest) rest (m.leaf k) later
  unfolding make
  one_token prev k rest later e = record { es = event.TheVariants.Token ∷ later; derived = leaf prev (m.kind k) (kinds m rest) later e; makes = λ stack. refl }

  rule_makes : (p : ℕ) (r : Rule) (rest : List m.Token) (vs stack : List m.Value) (v : m.Value) (later : List event.Event) → slice_get g.rules p ≡ Some r → AreAsLong (side r) vs → m.act p vs ≡ Some v → make g m (event.TheVariants.Rule p ∷ later) rest (turn vs stack) ≡ make g m later rest (v ∷ stack)
  unfolding make
  rule_makes p r rest vs stack v later got l is =
      ap (λ (o : Option Rule). by_rule g m (make g m later) p rest (turn vs stack) o) got
      ∙ ap (acted_on g m (make g m later) p rest) (taken_all (side r) vs stack l)
      ∙ ap (kept g m (make g m later) rest stack) is

  one_rule : (prev p : ℕ) (r : Rule) (from rest : List m.Token) (vs : List m.Value) (v : m.Value) (later : List event.Event) → slice_get g.rules p ≡ Some r → is_barred g r prev ≡ false → is_blocked g r (head (kinds m rest)) ≡ false → AreAsLong (side r) vs → m.act p vs ≡ Some v → AllTold prev (side r) from rest vs (event.TheVariants.Rule p ∷ later) → Told prev r.left from rest v later
  one_rule prev p r from rest vs v later got open_ free l is all = record {
    es = all.es;
    derived = node prev p r (kinds m from) (kinds m rest) all.es later got open_ free all.spelled;
    makes = λ stack. all.makes stack ∙ rule_makes p r rest vs stack v later got l is;
  }

  one_further : (prev x : ℕ) (xs : List ℕ) (from mid rest : List m.Token) (v : m.Value) (vs : List m.Value) (later : List event.Event) (all : AllTold x xs mid rest vs later) → Told prev x from mid v all.es → AllTold prev (x ∷ xs) from rest (v ∷ vs) later
  one_further prev x xs from mid rest v vs later all one = record {
    es = one.es;
    spelled = more prev x xs (kinds m from) (kinds m mid) (kinds m rest) one.es all.es later one.derived all.spelled;
    makes = λ stack. one.makes stack ∙ all.makes (v ∷ stack);
  }

  mutual
    told : {prev x : ℕ} {from rest : List m.Token} {v : m.Value} → Has g m prev x from rest v → (later : List event.Event) → Told prev x from rest v later
    told (token prev k rest e) later = one_token prev k rest later e
    told (made prev p r from rest vs v got open_ free hs is) later = one_rule prev p r from rest vs v later got open_ free (long hs) is (all_told hs (event.TheVariants.Rule p ∷ later))

    all_told : {prev : ℕ} {xs : List ℕ} {from rest : List m.Token} {vs : List m.Value} → Have g m prev xs from rest vs → (later : List event.Event) → AllTold prev xs from rest vs later
    all_told (nothing prev rest) later = record { es = later; spelled = none prev (kinds m rest) later; makes = λ stack. refl }
    all_told (further prev x xs from mid rest v vs h hs) later =
        let all = all_told hs later in
        one_further prev x xs from mid rest v vs later all (told h all.es)

  -- back
  record Meant (prev x : ℕ) (from : List m.Token) (rest : List ℕ) (stack out : List m.Value) (later : List event.Event) : Type 0 where
    left : List m.Token
    kinds_are : kinds m left ≡ rest
    value : m.Value
    has : Has g m prev x from left value
    makes : make g m later left (value ∷ stack) ≡ Some out

  record AllMeant (prev : ℕ) (xs : List ℕ) (from : List m.Token) (rest : List ℕ) (stack out : List m.Value) (later : List event.Event) : Type 0 where
    left : List m.Token
    kinds_are : kinds m left ≡ rest
    values : List m.Value
    have : Have g m prev xs from left values
    makes : make g m later left (turn values stack) ≡ Some out

  leaf_meant : (prev k : ℕ) (rest : List ℕ) (later : List event.Event) (ts : List m.Token) (stack out : List m.Value) → nat_lt k g.terminals ≡ true → kinds m ts ≡ k ∷ rest → make g m (event.TheVariants.Token ∷ later) ts stack ≡ Some out → Meant prev k ts rest stack out later
  unfolding make
  leaf_meant prev k rest later [] stack out e is h = empty_full is
  leaf_meant prev k rest later (t ∷ ts) stack out e is h =
      let same = first_is is in
      record {
        left = ts;
        kinds_are = rest_is is;
        value = m.leaf t;
        has = subst (λ (j : ℕ). Has g m prev j (t ∷ ts) ts (m.leaf t)) same (token prev t ts (subst (λ (j : ℕ). nat_lt j g.terminals ≡ true) (sym same) e));
        makes = h;
      }

  rule_meant : (prev p : ℕ) (r : Rule) (rest : List ℕ) (later : List event.Event) (ts : List m.Token) (stack out : List m.Value) → slice_get g.rules p ≡ Some r → is_barred g r prev ≡ false → is_blocked g r (head rest) ≡ false → AllMeant prev (side r) ts rest stack out (event.TheVariants.Rule p ∷ later) → Meant prev r.left ts rest stack out later
  unfolding make
  rule_meant prev p r rest later ts stack out got open_ free all = by_act (m.act p all.values) refl
      (sym (ap (λ (o : Option Rule). by_rule g m (make g m later) p all.left (turn all.values stack) o) got ∙ ap (acted_on g m (make g m later) p all.left) (taken_all (side r) all.values stack (long all.have))) ∙ all.makes)
    where
      by_act : (o : Option m.Value) → m.act p all.values ≡ o → kept g m (make g m later) all.left stack (m.act p all.values) ≡ Some out → Meant prev r.left ts rest stack out later
      by_act None e h = none_some (sym (ap (kept g m (make g m later) all.left stack) e) ∙ h)
      by_act (Some v) e h = record {
        left = all.left;
        kinds_are = all.kinds_are;
        value = v;
        has = made prev p r ts all.left all.values v got open_ (ap (λ (ks : List ℕ). is_blocked g r (head ks)) all.kinds_are ∙ free) all.have e;
        makes = sym (ap (kept g m (make g m later) all.left stack) e) ∙ h;
      }

  further_meant : (prev x : ℕ) (xs rest : List ℕ) (later : List event.Event) (ts mid : List m.Token) (v : m.Value) (stack out : List m.Value) → Has g m prev x ts mid v → AllMeant x xs mid rest (v ∷ stack) out later → AllMeant prev (x ∷ xs) ts rest stack out later
  further_meant prev x xs rest later ts mid v stack out h all = record {
    left = all.left;
    kinds_are = all.kinds_are;
    values = v ∷ all.values;
    have = further prev x xs ts mid all.left v all.values h all.have;
    makes = all.makes;
  }

  mutual
    meant : {prev x : ℕ} {from rest : List ℕ} {es later : List event.Event} → Derives g prev x from rest es later → (ts : List m.Token) (stack out : List m.Value) → kinds m ts ≡ from → make g m es ts stack ≡ Some out → Meant prev x ts rest stack out later
    meant (leaf prev k rest later e) ts stack out is h = leaf_meant prev k rest later ts stack out e is h
    meant (node prev p r from rest es later got open_ free sp) ts stack out is h = rule_meant prev p r rest later ts stack out got open_ free (all_meant sp ts stack out is h)

    all_meant : {prev : ℕ} {xs from rest : List ℕ} {es later : List event.Event} → Spells g prev xs from rest es later → (ts : List m.Token) (stack out : List m.Value) → kinds m ts ≡ from → make g m es ts stack ≡ Some out → AllMeant prev xs ts rest stack out later
    all_meant (none prev rest later) ts stack out is h = record { left = ts; kinds_are = is; values = []; have = nothing prev ts; makes = h }
    all_meant (more prev x xs from mid rest es fs later d sp) ts stack out is h =
        let one = meant d ts stack out is h in
        further_meant prev x xs rest later ts one.left one.value stack out one.has (all_meant sp one.left (one.value ∷ stack) out one.kinds_are one.makes)

pub are_made : AreMade
unfolding make
are_made g m ks v h = let t = told g m h [] in (t.es, t.derived, t.makes [])

at_end : (g : Grammar) (m : Meaning) (ks left : List m.Token) (v : m.Value) (stack : List m.Value) → kinds m left ≡ [] → Has g m 0 g.start ks left v → make g m [] left (v ∷ []) ≡ Some stack → (w : m.Value) × (stack ≡ w ∷ []) × Has g m 0 g.start ks [] w
unfolding make
at_end g m ks [] v stack is h e = (v, some_is e, h)
  where
    some_is : Some (v ∷ []) ≡ Some stack → stack ≡ v ∷ []
    some_is e = cc
at_end g m ks (t ∷ ts) v stack is h e = full_empty is

pub are_meant : AreMeant
are_meant g m ks es stack d h = let t = meant g m d ks [] stack refl h in at_end g m ks t.left t.value stack t.kinds_are t.has t.makes

-- One value at most.

module _ (t : Tables) (c : Certificate) (ok : tables_ok t c.most c.facts c.states ≡ true) where
  one_told : (ks : List ℕ) (es fs : List event.Event) (n : ℕ) → IsDerived t.grammar ks es → IsDerived t.grammar ks fs
      → paid c.most ks + weight_of t.grammar.terminals c.facts t.grammar.start < n → es ≡ fs
  one_told ks es fs n d e enough = read_is (sym (is_complete t c ok ks es d n enough) ∙ is_complete t c ok ks fs e n enough)

below_next : (n : ℕ) → n < suc n
below_next n = omega arith

only_is : {A : Type 0} {v w : A} → Some (v ∷ []) ≡ Some (w ∷ []) → v ≡ w
only_is e = cc

pub have_one_value : HaveOneValue
have_one_value t c ok m ks v w h i =
    let a = are_made t.grammar m ks v h in
    let b = are_made t.grammar m ks w i in
    let n = paid c.most (kinds m ks) + weight_of t.grammar.terminals c.facts t.grammar.start in
    let same = one_told t c ok (kinds m ks) a.0 b.0 (suc n) a.1 b.1 (below_next n) in
    only_is (sym a.2 ∙ ap (λ (es : List event.Event). make t.grammar m es ks []) same ∙ b.2)
