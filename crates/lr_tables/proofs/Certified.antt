-- Whatever is derived is read, where each state is ready for what may come; and how many turns that takes.
use Rattle.std.proofs.Common.{◌≡◌, ℕ, suc, ◌+◌, ◌≤◌, List, [], ◌∷◌, Some, arith, ◌⊎◌, inl, inr, Bool, true, false, nat_lt, ◌++◌, refl, sym, ◌∙◌, ap, subst, Option, None}
use Rattle.std.specs.Prelude.{slice_get, if◌then◌else◌}
use Rattle.lr_tables.specs.declared.rule.Rule.{Rule}
use Rattle.lr_tables.specs.Grammars.{Grammar, Derives, leaf, node, Spells, none, more, side, named, onto, head, is_blocked, is_barred}
use Rattle.lr_tables.specs.Checks.{below, paid}
use Rattle.lr_tables.specs.declared.step.Step.{Step}
use Rattle.lr_tables.specs.declared.step.Step.TheVariants.{Go, Reduce}
use Rattle.lr_tables.specs.Machine.{Tables, Read, Wrong, top, access, entry, pops, told, put, replaced, reduced, acted, run}
use Rattle.lr_tables.proofs.Basics.{is_eq}
use Rattle.lr_tables.specs.declared.event.Event as event

abbrev mutual
  pub size : {g : Grammar} {prev x : ℕ} {from rest : List ℕ} {es later : List event.Event} → Derives g prev x from rest es later → ℕ
  size (leaf prev k rest later e) = 1
  size (node prev p r from rest es later is open_ free sp) = suc (sizes sp)

  pub sizes : {g : Grammar} {prev : ℕ} {xs from rest : List ℕ} {es later : List event.Event} → Spells g prev xs from rest es later → ℕ
  sizes (none prev rest later) = 0
  sizes (more prev x xs from mid rest es fs later d sp) = size d + sizes sp

abbrev pub weights_by : (ℕ → ℕ) → List ℕ → ℕ
weights_by weight [] = 0
weights_by weight (x ∷ xs) = weight x + weights_by weight xs

module _ (g : Grammar) (most : ℕ) (weight : ℕ → ℕ) (weigh : (p : ℕ) (r : Rule) → slice_get g.rules p ≡ Some r → 1 + weights_by weight (side r) + most ≤ weight r.left + below most (side r)) where
  for_leaf : (n m w : ℕ) → 1 + n + m ≤ suc n + m + w
  for_leaf n m w = omega arith

  for_node : (n most rest ws b left from : ℕ) → n + b + rest ≤ from + ws → 1 + ws + most ≤ left + b → suc n + most + rest ≤ from + left
  for_node n most rest ws b left from h e = omega arith

  for_none : (m : ℕ) → 0 + 0 + m ≤ m + 0
  for_none m = omega arith

  for_more : (d s most b rest from mid w ws : ℕ) → d + most + mid ≤ from + w → s + b + rest ≤ mid + ws → d + s + (most + b) + rest ≤ from + (w + ws)
  for_more d s most b rest from mid w ws h e = omega arith

  mutual
    pub costs : {prev x : ℕ} {from rest : List ℕ} {es later : List event.Event} (d : Derives g prev x from rest es later) → size d + most + paid most rest ≤ paid most from + weight x
    costs (leaf prev k rest later e) = for_leaf most (paid most rest) (weight k)
    costs (node prev p r from rest es later is open_ free sp) = for_node (sizes sp) most (paid most rest) (weights_by weight (side r)) (below most (side r)) (weight r.left) (paid most from) (all_cost sp) (weigh p r is)

    pub all_cost : {prev : ℕ} {xs from rest : List ℕ} {es later : List event.Event} (sp : Spells g prev xs from rest es later) → sizes sp + below most xs + paid most rest ≤ paid most from + weights_by weight xs
    all_cost (none prev rest later) = for_none (paid most rest)
    all_cost (more prev x xs from mid rest es fs later d sp) = for_more (size d) (sizes sp) most (below most xs) (paid most rest) (paid most from) (paid most mid) (weight x) (weights_by weight xs) (costs d) (all_cost sp)

-- Whatever is derived is read, where each state is ready for what may come.

-- turned round twice
turned : (d xs ys : List ℕ) → onto (onto d xs) ys ≡ onto xs (d ++ ys)
turned [] xs ys = refl
turned (x ∷ d) xs ys = turned d (x ∷ xs) ys

and_nothing : (xs : List ℕ) → xs ++ [] ≡ xs
and_nothing [] = refl
and_nothing (x ∷ xs) = ap (λ ys. x ∷ ys) (and_nothing xs)

module _ (begins : ℕ → ℕ → Type 0) (Empty : ℕ → Type 0) where
  -- xs may begin with w, where u may follow
  abbrev pub Among : List ℕ → ℕ → ℕ → Type 0
  Among [] u w = w ≡ u
  Among (x ∷ xs) u w = begins x w ⊎ (Empty x × Among xs u w)

  -- xs may begin with w
  abbrev pub Starts : List ℕ → ℕ → Type 0
  Starts [] w = ⊥
  Starts (x ∷ xs) w = begins x w ⊎ (Empty x × Starts xs w)

  abbrev pub AllEmpty : List ℕ → Type 0
  AllEmpty [] = Unit {0}
  AllEmpty (x ∷ xs) = Empty x × AllEmpty xs

module _ (t : Tables) (Ready : ℕ → ℕ → List ℕ → ℕ → Type 0) (begins : ℕ → ℕ → Type 0) (Empty : ℕ → Type 0) where
  abbrev pub Expect : ℕ → ℕ → ℕ → Type 0
  Expect s x u = (p : ℕ) (r : Rule) → slice_get t.grammar.rules p ≡ Some r → is_barred t.grammar r (access t s) ≡ false → r.left ≡ x → Ready s p (side r) u

  pub record Leads (s p x : ℕ) (xs : List ℕ) (u : ℕ) : Type 0 where
    pub target : ℕ
    pub is : entry t s x ≡ Go target
    pub ready : Ready target p xs u
    pub expects : (w : ℕ) → Among begins Empty xs u w → Expect s x w

  pub record AreLawful : Type 0 where
    pub own : (k : ℕ) → nat_lt k t.grammar.terminals ≡ true → begins k k
    pub starts : (p : ℕ) (r : Rule) (w : ℕ) → slice_get t.grammar.rules p ≡ Some r → Starts begins Empty (side r) w → begins r.left w
    pub empties : (p : ℕ) (r : Rule) → slice_get t.grammar.rules p ≡ Some r → AllEmpty begins Empty (side r) → Empty r.left
    pub ends : (s p u : ℕ) (r : Rule) → Ready s p [] u → slice_get t.grammar.rules p ≡ Some r → is_blocked t.grammar r u ≡ false → entry t s u ≡ Reduce p
    pub goes : (s p x : ℕ) (xs : List ℕ) (u : ℕ) → Ready s p (x ∷ xs) u → Leads s p x xs u
    pub accessed : (s x u : ℕ) → entry t s x ≡ Go u → access t u ≡ x

module _ (t : Tables) (Ready : ℕ → ℕ → List ℕ → ℕ → Type 0) (begins : ℕ → ℕ → Type 0) (Empty : ℕ → Type 0) (laws : AreLawful t Ready begins Empty) where
  more_front : (x : ℕ) (xs from mid rest : List ℕ) → begins x (head from) ⊎ (Empty x × (from ≡ mid)) → Starts begins Empty xs (head mid) ⊎ (AllEmpty begins Empty xs × (mid ≡ rest)) → Starts begins Empty (x ∷ xs) (head from) ⊎ (AllEmpty begins Empty (x ∷ xs) × (from ≡ rest))
  more_front x xs from mid rest (inl b) f = inl (inl b)
  more_front x xs from mid rest (inr e) (inl s) = inl (inr (e.0, subst (λ (v : List ℕ). Starts begins Empty xs (head v)) (sym e.1) s))
  more_front x xs from mid rest (inr e) (inr f) = inr ((e.0, f.0), e.1 ∙ f.1)

  node_front : (p : ℕ) (r : Rule) (from rest : List ℕ) → slice_get t.grammar.rules p ≡ Some r → Starts begins Empty (side r) (head from) ⊎ (AllEmpty begins Empty (side r) × (from ≡ rest)) → begins r.left (head from) ⊎ (Empty r.left × (from ≡ rest))
  node_front p r from rest is (inl s) = inl (laws.starts p r (head from) is s)
  node_front p r from rest is (inr e) = inr (laws.empties p r is e.0, e.1)

  mutual
    front : {prev x : ℕ} {from rest : List ℕ} {es later : List event.Event} → Derives t.grammar prev x from rest es later → begins x (head from) ⊎ (Empty x × (from ≡ rest))
    front (leaf prev k rest later e) = inl (laws.own k e)
    front (node prev p r from rest es later is open_ free sp) = node_front p r from rest is (fronts sp)

    fronts : {prev : ℕ} {xs from rest : List ℕ} {es later : List event.Event} → Spells t.grammar prev xs from rest es later → Starts begins Empty xs (head from) ⊎ (AllEmpty begins Empty xs × (from ≡ rest))
    fronts (none prev rest later) = inr (tt, refl)
    fronts (more prev x xs from mid rest es fs later d sp) = more_front x xs from mid rest (front d) (fronts sp)

  started : (xs : List ℕ) (u w : ℕ) → Starts begins Empty xs w → Among begins Empty xs u w
  started [] u w h = absurd h
  started (x ∷ xs) u w (inl b) = inl b
  started (x ∷ xs) u w (inr e) = inr (e.0, started xs u w e.1)

  through : (xs : List ℕ) (u : ℕ) → AllEmpty begins Empty xs → Among begins Empty xs u u
  through [] u h = refl
  through (x ∷ xs) u h = inr (h.0, through xs u h.1)

  among : (xs from rest : List ℕ) → Starts begins Empty xs (head from) ⊎ (AllEmpty begins Empty xs × (from ≡ rest)) → Among begins Empty xs (head rest) (head from)
  among xs from rest (inl s) = started xs (head rest) (head from) s
  among xs from rest (inr e) = subst (λ (v : List ℕ). Among begins Empty xs (head v) (head from)) e.1 (through xs (head from) e.0)

  step_leaf : (k s : ℕ) (stack rest : List ℕ) (later : List event.Event) (n : ℕ) → nat_lt k t.grammar.terminals ≡ true → entry t (top stack) k ≡ Go s → run t n (s ∷ stack) rest ≡ Read later → run t (suc n) stack (k ∷ rest) ≡ Read (event.TheVariants.Token ∷ later)
  unfolding run
  step_leaf k s stack rest later n small is h =
      ap (λ (e : Step). acted t (run t n) e stack (k ∷ rest)) is
      ∙ ap (λ (b : Bool). if b then told event.TheVariants.Token (run t n (s ∷ stack) rest) else Wrong (k ∷ rest)) small
      ∙ ap (told event.TheVariants.Token) h

  step_node : (p : ℕ) (r : Rule) (s : ℕ) (stack below rest : List ℕ) (later : List event.Event) (n : ℕ) → slice_get t.grammar.rules p ≡ Some r → is_barred t.grammar r (access t (top below)) ≡ false → entry t (top stack) (head rest) ≡ Reduce p → pops t (onto (side r) []) stack ≡ Some below → entry t (top below) r.left ≡ Go s → run t n (s ∷ below) rest ≡ Read later → run t (suc n) stack rest ≡ Read (event.TheVariants.Rule p ∷ later)
  unfolding run
  step_node p r s stack below rest later n got free is pop goes h =
      ap (λ (e : Step). acted t (run t n) e stack rest) is
      ∙ ap (λ (o : Option Rule). reduced t (run t n) p o stack rest) got
      ∙ ap (λ (o : Option (List ℕ)). replaced t (run t n) p r o rest) (ap (λ (xs : List ℕ). pops t xs stack) (sym (turned (named r.back) [] [] ∙ and_nothing (named r.back))) ∙ pop)
      ∙ ap (λ (b : Bool). if b then Wrong rest else told (event.TheVariants.Rule p) (put t (run t n) (entry t (top below) r.left) below rest)) free
      ∙ ap (λ (e : Step). told (event.TheVariants.Rule p) (put t (run t n) e below rest)) goes
      ∙ ap (told (event.TheVariants.Rule p)) h

  pushed : (x s : ℕ) (done stack left : List ℕ) → access t s ≡ x → pops t done stack ≡ Some left → pops t (x ∷ done) (s ∷ stack) ≡ Some left
  pushed x s done stack left is h = ap (λ (b : Bool). if b then pops t done stack else None) (is_eq (access t s) x is) ∙ h

  one_more : (m n : ℕ) → m ≡ 1 + n → suc n ≡ m
  one_more m n e = omega arith

  node_more : (m k n : ℕ) → m ≡ suc k + n → m ≡ k + suc n
  node_more m k n e = omega arith

  nothing_more : (m n : ℕ) → m ≡ 0 + n → n ≡ m
  nothing_more m n e = omega arith

  both_more : (m a b n : ℕ) → m ≡ a + b + n → m ≡ a + (b + n)
  both_more m a b n e = omega arith

  mutual
    pub reads : {prev x : ℕ} {from rest : List ℕ} {es later : List event.Event} (d : Derives t.grammar prev x from rest es later) (stack : List ℕ) (s : ℕ) → prev ≡ access t (top stack) → entry t (top stack) x ≡ Go s → Expect t Ready begins Empty (top stack) x (head rest)
        → (n m : ℕ) → m ≡ size d + n → run t n (s ∷ stack) rest ≡ Read later → run t m stack from ≡ Read es
    reads (leaf prev k rest later e) stack s at is ex n m eq h = subst (λ (v : ℕ). run t v stack (k ∷ rest) ≡ Read (event.TheVariants.Token ∷ later)) (one_more m n eq) (step_leaf k s stack rest later n e is h)
    reads (node prev p r from rest es later got open_ free sp) stack s at is ex n m eq h =
        spelled sp p [] stack stack at refl (ex p r got (ap (is_barred t.grammar r) (sym at) ∙ open_) refl) (suc n) m (node_more m (sizes sp) n eq)
        (λ all pop ready. step_node p r s all stack rest later n got (ap (is_barred t.grammar r) (sym at) ∙ open_) (laws.ends (top all) p (head rest) r ready got free) pop is h)

    spelled : {prev : ℕ} {xs from rest : List ℕ} {es later : List event.Event} (sp : Spells t.grammar prev xs from rest es later) (p : ℕ) (done below stack : List ℕ) → prev ≡ access t (top stack) → pops t done stack ≡ Some below → Ready (top stack) p xs (head rest)
        → (n m : ℕ) → m ≡ sizes sp + n
        → ((all : List ℕ) → pops t (onto xs done) all ≡ Some below → Ready (top all) p [] (head rest) → run t n all rest ≡ Read later)
        → run t m stack from ≡ Read es
    spelled (none prev rest later) p done below stack at pop ready n m eq last = subst (λ (v : ℕ). run t v stack rest ≡ Read later) (nothing_more m n eq) (last stack pop ready)
    spelled (more prev x xs from mid rest es fs later d sp) p done below stack at pop ready n m eq last =
        let go = laws.goes (top stack) p x xs (head rest) ready in
        reads d stack go.target at go.is (go.expects (head mid) (among xs mid rest (fronts sp))) (sizes sp + n) m (both_more m (size d) (sizes sp) n eq)
        (spelled sp p (x ∷ done) below (go.target ∷ stack) (sym (laws.accessed (top stack) x go.target go.is)) (pushed x go.target done stack below (laws.accessed (top stack) x go.target go.is) pop) go.ready n (sizes sp + n) refl last)
