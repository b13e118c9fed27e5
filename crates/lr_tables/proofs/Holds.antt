-- What the symbols on a stack derive, whatever comes behind the next token; and that samples are derived.
use Rattle.std.proofs.Common.{◌≡◌, ℕ, true, false, nat_eq, nat_lt, List, [], ◌∷◌, ◌++◌, refl, sym, ◌∙◌, ap, subst, Some, append_assoc, zero, suc, Bool, ◌&&◌, nat_le, arith, Option, None, get_or}
use Rattle.std.specs.Prelude.{slice_get, if◌then◌else◌}
use Rattle.lr_tables.specs.declared.rule.Rule.{Rule}
use Rattle.lr_tables.specs.Grammars.{Grammar, Derives, leaf, node, Spells, none, more, onto, side, head, is_blocked, is_barred}
use Rattle.lr_tables.specs.Machine.{Tables, top, access, pops}
use Rattle.lr_tables.proofs.Basics.{eq_is, none_some, some_is, held_some}
use Rattle.std.proofs.lemmas.Bool.{and_parts}
use Rattle.std.proofs.lemmas.Bool.Decides.{nat_tests}
use Rattle.lr_tables.specs.Certificates.{sides}
use Rattle.lr_tables.specs.FrontChecks.{is_free, begins_free, joined, sample_of, one_sampled, sampled, same_list, is_sampled, stands_behind_all, is_sample, are_samples}
use Rattle.lr_tables.specs.declared.event.Event as event

-- the first of the tokens, and k where there are none
abbrev pub ahead : List ℕ → ℕ → ℕ
ahead [] k = k
ahead (j ∷ js) k = j

pub head_ahead : (ks rest : List ℕ) → head (ks ++ rest) ≡ ahead ks (head rest)
head_ahead [] rest = refl
head_ahead (k ∷ ks) rest = refl

pub ahead-append : (js ls : List ℕ) (k : ℕ) → ahead (js ++ ls) k ≡ ahead js (ahead ls k)
ahead-append [] ls k = refl
ahead-append (j ∷ js) ls k = refl

pub and_nothing : (xs : List ℕ) → xs ++ [] ≡ xs
and_nothing [] = refl
and_nothing (x ∷ xs) = ap (λ (ys : List ℕ). x ∷ ys) (and_nothing xs)

module _ (g : Grammar) where
  -- the symbol derives these tokens, whatever follows that begins with k
  abbrev pub Yields : ℕ → ℕ → List ℕ → ℕ → Type 0
  Yields prev x part k = (rest : List ℕ) (later : List event.Event) → head rest ≡ k → (es : List event.Event) × Derives g prev x (part ++ rest) rest es later

  abbrev pub YieldsAll : ℕ → List ℕ → List ℕ → ℕ → Type 0
  YieldsAll prev xs part k = (rest : List ℕ) (later : List event.Event) → head rest ≡ k → (es : List event.Event) × Spells g prev xs (part ++ rest) rest es later

  pub yields_nothing : (prev k : ℕ) → YieldsAll prev [] [] k
  yields_nothing prev k = λ rest later e. (later, none prev rest later)

  pub yields_leaf : (prev k j : ℕ) → nat_lt k g.terminals ≡ true → Yields prev k (k ∷ []) j
  yields_leaf prev k j h = λ rest later e. (event.TheVariants.Token ∷ later, leaf prev k rest later h)

  pub yields_more : (prev x : ℕ) (xs js ls : List ℕ) (k : ℕ) → Yields prev x js (ahead ls k) → YieldsAll x xs ls k → YieldsAll prev (x ∷ xs) (js ++ ls) k
  yields_more prev x xs js ls k y ys = λ rest later e.
      let sp = ys rest later e in
      let d = y (ls ++ rest) sp.0 (head_ahead ls rest ∙ ap (ahead ls) e) in (
        d.0,
        subst (λ (v : List ℕ). Spells g prev (x ∷ xs) v rest d.0 later) (sym (append_assoc js ls rest))
            (more prev x xs (js ++ (ls ++ rest)) (ls ++ rest) rest d.0 sp.0 later d.1 sp.1),
      )

  pub yields_node : (prev p : ℕ) (r : Rule) (part : List ℕ) (k : ℕ) → slice_get g.rules p ≡ Some r → is_barred g r prev ≡ false → is_blocked g r k ≡ false → YieldsAll prev (side r) part k → Yields prev r.left part k
  yields_node prev p r part k got open_ free ys = λ rest later e.
      let sp = ys rest (event.TheVariants.Rule p ∷ later) e in
      (sp.0, node prev p r (part ++ rest) rest sp.0 later got open_ (ap (is_blocked g r) e ∙ free) sp.1)

module _ (t : Tables) where
  -- the symbols on the stack derive these tokens, whatever follows that begins with k
  abbrev pub Holds : List ℕ → List ℕ → ℕ → Type 0
  Holds [] front k = front ≡ []
  Holds (s ∷ stack) front k = (before : List ℕ) × (part : List ℕ) × (front ≡ before ++ part) × (Yields t.grammar (access t (top stack)) (access t s) part k) × (Holds stack before (ahead part k))

  pub record Popped (stack xs front : List ℕ) (k : ℕ) : Type 0 where
    pub before : List ℕ
    pub part : List ℕ
    pub is : front ≡ before ++ part
    pub yields : YieldsAll t.grammar (access t (top stack)) xs part k
    pub holds : Holds stack before (ahead part k)

  pub popped : (back done stack left front part : List ℕ) (k : ℕ) → pops t back stack ≡ Some left → Holds stack front (ahead part k) → YieldsAll t.grammar (access t (top stack)) done part k → Popped left (onto back done) (front ++ part) k
  popped [] done stack left front part k e h ys = record {
    before = front;
    part = part;
    is = refl;
    yields = subst (λ (v : List ℕ). YieldsAll t.grammar (access t (top v)) done part k) (some_is e) ys;
    holds = subst (λ (v : List ℕ). Holds v front (ahead part k)) (some_is e) h;
  }
  popped (x ∷ back) done [] left front part k e h ys = none_some e
  popped (x ∷ back) done (s ∷ stack) left front part k e h ys =
      let m = held_some (nat_eq (access t s) x) (pops t back stack) left e in
      let is = eq_is (access t s) x m.test in
      let one = subst (λ (v : ℕ). Yields t.grammar (access t (top stack)) v h.1 (ahead part k)) is h.3 in
      let all = subst (λ (v : ℕ). YieldsAll t.grammar v done part k) is ys in
      let rest = popped back (x ∷ done) stack left h.0 (h.1 ++ part) k m.is (subst (λ (v : ℕ). Holds stack h.0 v) (sym (ahead-append h.1 part k)) h.4)
      (yields_more t.grammar (access t (top stack)) x done h.1 part k one all) in
      subst (λ (v : List ℕ). Popped left (onto back (x ∷ done)) v k) (sym (append_assoc h.0 h.1 part) ∙ ap (λ (v : List ℕ). v ++ part) (sym h.2)) rest

-- Samples are derived.

pub record Found (rules : List Rule) (p : ℕ) (q : ℕ × List ℕ × ℕ × ℕ) : Type 0 where
  pub rule : Rule
  pub is : slice_get rules p ≡ Some rule
  pub same : (rule.left, side rule, rule.before, rule.behind) ≡ q

pub found : (rules : List Rule) (p : ℕ) (q : ℕ × List ℕ × ℕ × ℕ) → slice_get (sides rules) p ≡ Some q → Found rules p q
found [] p q h = none_some h
found (r ∷ rules) zero q h = record { rule = r; is = refl; same = some_is h }
found (r ∷ rules) (suc p) q h = let f = found rules p q h in record { rule = f.rule; is = f.is; same = f.same }

same_is : (xs ys : List ℕ) → same_list xs ys ≡ true → xs ≡ ys
same_is [] [] h = refl
same_is [] (y ∷ ys) h = cc
same_is (x ∷ xs) [] h = cc
same_is (x ∷ xs) (y ∷ ys) h =
    let parts = and_parts (nat_eq x y) (same_list xs ys) h in
    ap (λ (v : ℕ). v ∷ xs) (eq_is x y parts.0) ∙ ap (λ (vs : List ℕ). y ∷ vs) (same_is xs ys parts.1)

not_less : (a b : ℕ) → nat_eq b 0 ≡ true → nat_lt a b ≡ false
not_less a b h = grind (arith, nat_tests)

le_is : (a b : ℕ) → nat_le a b ≡ true → nat_lt b a ≡ false
le_is a b h = grind (arith, nat_tests)

none_less : (a : ℕ) → nat_lt a 0 ≡ false
none_less a = grind (arith, nat_tests)

-- every rule stands before a free token
pub free_stands : (g : Grammar) (r : Rule) (k : ℕ) → is_free g.lefts k ≡ true → is_blocked g r k ≡ false
free_stands g r k h = not_less r.before (get_or g.lefts k 0) h

pub behind_all : (rights : List ℕ) (at x : ℕ) → stands_behind_all rights at ≡ true → nat_lt at (get_or rights x 0) ≡ false
behind_all [] at x h = none_less at
behind_all (power ∷ rights) at zero h = le_is power at (and_parts (nat_le power at) (stands_behind_all rights at) h).0
behind_all (power ∷ rights) at (suc x) h = behind_all rights at x (and_parts (nat_le power at) (stands_behind_all rights at) h).1

pub free_ahead : (lefts ks : List ℕ) (k : ℕ) → begins_free lefts ks ≡ true → is_free lefts k ≡ true → is_free lefts (ahead ks k) ≡ true
free_ahead lefts [] k h free = free
free_ahead lefts (j ∷ ks) k h free = h

module _ (g : Grammar) where
  abbrev pub Sampled : ℕ → List ℕ → Type 0
  Sampled x ks = (prev k : ℕ) → is_free g.lefts k ≡ true → Yields g prev x ks k

  abbrev pub SampledAll : List ℕ → List ℕ → Type 0
  SampledAll xs ks = (prev k : ℕ) → is_free g.lefts k ≡ true → YieldsAll g prev xs ks k

  module _ (samples : List (ℕ × ℕ × List ℕ)) (each : (x : ℕ) (ks : List ℕ) → sample_of samples x ≡ Some ks → Sampled x ks) where
    before_those : (x : ℕ) (xs js ks : List ℕ) (o : Option (List ℕ)) → sample_of samples x ≡ o → begins_free g.lefts js ≡ true → joined o js ≡ Some ks → SampledAll xs js → SampledAll (x ∷ xs) ks
    before_those x xs js ks None is free e later = none_some e
    before_those x xs js ks (Some os) is free e later =
        subst (SampledAll (x ∷ xs)) (some_is e) (λ prev k f. yields_more g prev x xs os js k (each x os is prev (ahead js k) (free_ahead g.lefts js k free f)) (later x k f))

    before_these : (x : ℕ) (xs js ks : List ℕ) (b : Bool) → nat_lt x g.terminals ≡ b → (if b then Some (x ∷ js) else (if begins_free g.lefts js then joined (sample_of samples x) js else None)) ≡ Some ks → SampledAll xs js → SampledAll (x ∷ xs) ks
    before_these x xs js ks true small e later =
        subst (SampledAll (x ∷ xs)) (some_is e) (λ prev k f. yields_more g prev x xs (x ∷ []) js k (yields_leaf g prev x (ahead js k) small) (later x k f))
    before_these x xs js ks false small e later =
        let m = held_some (begins_free g.lefts js) (joined (sample_of samples x) js) ks e in
        before_those x xs js ks (sample_of samples x) refl m.test m.is later

    more_sampled : (x : ℕ) (xs ks : List ℕ) (o : Option (List ℕ)) → ((js : List ℕ) → o ≡ Some js → SampledAll xs js) → one_sampled g.terminals g.lefts samples x o ≡ Some ks → SampledAll (x ∷ xs) ks
    more_sampled x xs ks None later e = none_some e
    more_sampled x xs ks (Some js) later e = before_these x xs js ks (nat_lt x g.terminals) refl e (later js refl)

    pub all_sampled : (xs ks : List ℕ) → sampled g.terminals g.lefts samples xs ≡ Some ks → SampledAll xs ks
    all_sampled [] ks e = subst (SampledAll []) (some_is e) (λ prev k f. yields_nothing g prev k)
    all_sampled (x ∷ xs) ks e = more_sampled x xs ks (sampled g.terminals g.lefts samples xs) (all_sampled xs) e

  -- the sample of a nonterminal, by its rule
  by_side : (samples : List (ℕ × ℕ × List ℕ)) (each : (x : ℕ) (ks : List ℕ) → sample_of samples x ≡ Some ks → Sampled x ks) (p : ℕ) (r : Rule) (ks : List ℕ) (o : Option (List ℕ)) → slice_get g.rules p ≡ Some r → stands_behind_all g.rights r.behind ≡ true → sampled g.terminals g.lefts samples (side r) ≡ o → is_sampled o ks ≡ true → Sampled r.left ks
  by_side samples each p r ks None got all is e = cc
  by_side samples each p r ks (Some js) got all is e = subst (Sampled r.left) (same_is js ks e)
      (λ prev k f. yields_node g prev p r js k got (behind_all g.rights r.behind prev all) (free_stands g r k f) (all_sampled samples each (side r) js is prev k f))

  by_rule : (samples : List (ℕ × ℕ × List ℕ)) (each : (x : ℕ) (ks : List ℕ) → sample_of samples x ≡ Some ks → Sampled x ks) (m : ℕ × ℕ × List ℕ) (o : Option (ℕ × List ℕ × ℕ × ℕ)) → slice_get (sides g.rules) m.1 ≡ o → is_sample g.terminals g.lefts g.rights samples m o ≡ true → Sampled m.0 m.2
  by_rule samples each m None is h = cc
  by_rule samples each m (Some q) is h =
      let f = found g.rules m.1 q is in
      let here : is_sample g.terminals g.lefts g.rights samples m (Some (f.rule.left, side f.rule, f.rule.before, f.rule.behind)) ≡ true = subst (λ (v : ℕ × List ℕ × ℕ × ℕ). is_sample g.terminals g.lefts g.rights samples m (Some v) ≡ true) (sym f.same) h in
      let a = and_parts (nat_eq f.rule.left m.0) (is_sampled (sampled g.terminals g.lefts samples (side f.rule)) m.2 && stands_behind_all g.rights f.rule.behind) here in
      let b = and_parts (is_sampled (sampled g.terminals g.lefts samples (side f.rule)) m.2) (stands_behind_all g.rights f.rule.behind) a.1 in
      subst (λ (v : ℕ). Sampled v m.2) (eq_is f.rule.left m.0 a.0) (by_side samples each m.1 f.rule m.2 (sampled g.terminals g.lefts samples (side f.rule)) f.is b.1 refl b.0)

  here_or_later : (m : ℕ × ℕ × List ℕ) (samples : List (ℕ × ℕ × List ℕ)) (x : ℕ) (ks : List ℕ) (b : Bool) → nat_eq m.0 x ≡ b → (if b then Some m.2 else sample_of samples x) ≡ Some ks → Sampled m.0 m.2 → (sample_of samples x ≡ Some ks → Sampled x ks) → Sampled x ks
  here_or_later m samples x ks true is e one later = subst (λ (v : ℕ). Sampled v ks) (eq_is m.0 x is) (subst (Sampled m.0) (some_is e) one)
  here_or_later m samples x ks false is e one later = later e

  pub each_sampled : (samples : List (ℕ × ℕ × List ℕ)) → are_samples g.terminals g.lefts g.rights (sides g.rules) samples ≡ true → (x : ℕ) (ks : List ℕ) → sample_of samples x ≡ Some ks → Sampled x ks
  each_sampled [] h x ks e = none_some e
  each_sampled (m ∷ samples) h x ks e =
      let parts = and_parts (is_sample g.terminals g.lefts g.rights samples m (slice_get (sides g.rules) m.1)) (are_samples g.terminals g.lefts g.rights (sides g.rules) samples) h in
      here_or_later m samples x ks (nat_eq m.0 x) refl e (by_rule samples (each_sampled samples parts.1) m (slice_get (sides g.rules) m.1) refl parts.0) (each_sampled samples parts.1 x ks)
