-- Where the machine stops, the tokens before are a front of a sentence.
use Rattle.std.proofs.Common.{◌≡◌, ℕ, zero, suc, Bool, true, false, nat_eq, nat_lt, List, [], ◌∷◌, ◌++◌, refl, sym, ◌∙◌, ap, subst, Option, Some, None, append_assoc}
use Rattle.std.specs.Prelude.{if◌then◌else◌, slice_get}
use Rattle.lr_tables.specs.declared.rule.Rule.{Rule}
use Rattle.lr_tables.specs.declared.step.Step.{Step}
use Rattle.lr_tables.specs.declared.step.Step.TheVariants.{Fail, Go, Reduce, Accept}
use Rattle.lr_tables.specs.declared.event.Event as event
use Rattle.lr_tables.specs.Grammars.{IsFront, named, side, head, is_blocked, is_barred}
use Rattle.lr_tables.specs.Machine.{Tables, Answer, Read, Wrong, top, access, entry, pops, told, put, replaced, reduced, shifted, accepted, acted, run}
use Rattle.lr_tables.proofs.Basics.{read_wrong, going_wrong, wrong_is, untold}
use Rattle.lr_tables.proofs.Holds.{and_nothing, Yields, yields_nothing, yields_leaf, yields_node, Holds, Popped, popped}

module _ (t : Tables) (Path : List ℕ → Type 0) (all left : List ℕ)
    (accessed : (s x u : ℕ) → entry t s x ≡ Go u → access t u ≡ x)
    (free : (s x p : ℕ) (r : Rule) → entry t s x ≡ Reduce p → slice_get t.grammar.rules p ≡ Some r → is_blocked t.grammar r x ≡ false)
    (longer : (s : ℕ) (stack : List ℕ) → entry t (top stack) (access t s) ≡ Go s → Path stack → Path (s ∷ stack))
    (shorter : (s : ℕ) (stack : List ℕ) → Path (s ∷ stack) → Path stack)
    (behind_token : (s : ℕ) (stack front : List ℕ) → Path (s ∷ stack) → nat_lt (access t s) t.grammar.terminals ≡ true → ((k : ℕ) → Holds t (s ∷ stack) front k) → IsFront t.grammar front) where
  -- what was read is a front of a sentence, and the stack stands for it
  pub record Stands (stack ks : List ℕ) : Type 0 where
    pub front : List ℕ
    pub is : all ≡ front ++ ks
    pub path : Path stack
    pub holds : Holds t stack front (head ks)
    pub fits : IsFront t.grammar front

  pub record Stopped : Type 0 where
    pub front : List ℕ
    pub is : all ≡ front ++ left
    pub fits : IsFront t.grammar front

  stopped : (stack ks : List ℕ) → Wrong ks ≡ Wrong left → Stands stack ks → Stopped
  stopped stack ks h st = record { front = st.front; is = st.is ∙ ap (λ (v : List ℕ). st.front ++ v) (wrong_is h); fits = st.fits }

  popped_path : (back stack below : List ℕ) → pops t back stack ≡ Some below → Path stack → Path below
  popped_path [] stack below e path = subst Path (some_of e) path
    where
      some_of : Some stack ≡ Some below → stack ≡ below
      some_of e = cc
  popped_path (x ∷ back) [] below e path = cc
  popped_path (x ∷ back) (s ∷ stack) below e path = at (nat_eq (access t s) x) e (shorter s stack path) (popped_path back stack below)
    where
      at : (b : Bool) → (if b then pops t back stack else None) ≡ Some below → Path stack → (pops t back stack ≡ Some below → Path stack → Path below) → Path below
      at true e path later = later e path
      at false e path later = cc

  module _ (next : List ℕ → List ℕ → Answer) (later : (stack ks : List ℕ) → next stack ks ≡ Wrong left → Stands stack ks → Stopped) where
    put_stands : (p : ℕ) (r : Rule) (e : Step) (stack below ks : List ℕ) → slice_get t.grammar.rules p ≡ Some r → is_barred t.grammar r (access t (top below)) ≡ false → is_blocked t.grammar r (head ks) ≡ false → Path below
        → entry t (top below) r.left ≡ e → put t next e below ks ≡ Wrong left → (st : Stands stack ks) → Popped t below (side r) (st.front ++ []) (head ks) → Stopped
    put_stands p r Fail stack below ks got open_ at path is h st pop = stopped stack ks h st
    put_stands p r (Go s) stack below ks got open_ at path is h st pop =
        let symbol = accessed (top below) r.left s is in
        later (s ∷ below) ks h (record {
          front = st.front;
          is = st.is;
          path = longer s below (ap (entry t (top below)) symbol ∙ is) path;
          holds = (
            pop.before,
            pop.part,
            sym (and_nothing st.front) ∙ pop.is,
            subst (λ (v : ℕ). Yields t.grammar (access t (top below)) v pop.part (head ks)) (sym symbol)
                (yields_node t.grammar (access t (top below)) p r pop.part (head ks) got open_ at pop.yields),
            pop.holds,
          );
          fits = st.fits;
        })
    put_stands p r (Reduce q) stack below ks got open_ at path is h st pop = stopped stack ks h st
    put_stands p r Accept stack below ks got open_ at path is h st pop = stopped stack ks h st

    barred_stands : (p : ℕ) (r : Rule) (stack below ks : List ℕ) (b : Bool) → is_barred t.grammar r (access t (top below)) ≡ b → slice_get t.grammar.rules p ≡ Some r → is_blocked t.grammar r (head ks) ≡ false → pops t (named r.back) stack ≡ Some below
        → (if b then Wrong ks else told (event.TheVariants.Rule p) (put t next (entry t (top below) r.left) below ks)) ≡ Wrong left → Stands stack ks → Stopped
    barred_stands p r stack below ks true open_ got at e h st = stopped stack ks h st
    barred_stands p r stack below ks false open_ got at e h st =
        put_stands p r (entry t (top below) r.left) stack below ks got open_ at (popped_path (named r.back) stack below e st.path) refl
        (untold (event.TheVariants.Rule p) (put t next (entry t (top below) r.left) below ks) left h) st
        (popped t (named r.back) [] stack below st.front [] (head ks) e st.holds (yields_nothing t.grammar (access t (top stack)) (head ks)))

    replaced_stands : (p : ℕ) (r : Rule) (o : Option (List ℕ)) (stack ks : List ℕ) → pops t (named r.back) stack ≡ o → slice_get t.grammar.rules p ≡ Some r → is_blocked t.grammar r (head ks) ≡ false → replaced t next p r o ks ≡ Wrong left → Stands stack ks → Stopped
    replaced_stands p r None stack ks e got at h st = stopped stack ks h st
    replaced_stands p r (Some below) stack ks e got at h st = barred_stands p r stack below ks (is_barred t.grammar r (access t (top below))) refl got at e h st

    reduced_stands : (p : ℕ) (o : Option Rule) (stack ks : List ℕ) → slice_get t.grammar.rules p ≡ o → entry t (top stack) (head ks) ≡ Reduce p → reduced t next p o stack ks ≡ Wrong left → Stands stack ks → Stopped
    reduced_stands p None stack ks got is h st = stopped stack ks h st
    reduced_stands p (Some r) stack ks got is h st = replaced_stands p r (pops t (named r.back) stack) stack ks refl got (free (top stack) (head ks) p r is got) h st

    shift_stands : (s k : ℕ) (stack ks : List ℕ) (b : Bool) → nat_lt k t.grammar.terminals ≡ b → entry t (top stack) k ≡ Go s → (if b then told event.TheVariants.Token (next (s ∷ stack) ks) else Wrong (k ∷ ks)) ≡ Wrong left → Stands stack (k ∷ ks) → Stopped
    shift_stands s k stack ks false small is h st = stopped stack (k ∷ ks) h st
    shift_stands s k stack ks true small is h st = later (s ∷ stack) ks (untold event.TheVariants.Token (next (s ∷ stack) ks) left h) (record {
      front = st.front ++ (k ∷ []);
      is = st.is ∙ sym (append_assoc st.front (k ∷ []) ks);
      path = path;
      holds = holds (head ks);
      fits = behind_token s stack (st.front ++ (k ∷ [])) path (ap (λ (v : ℕ). nat_lt v t.grammar.terminals) symbol ∙ small) holds;
    })
      where
        symbol : access t s ≡ k
        symbol = accessed (top stack) k s is

        path : Path (s ∷ stack)
        path = longer s stack (ap (entry t (top stack)) symbol ∙ is) st.path

        holds : (j : ℕ) → Holds t (s ∷ stack) (st.front ++ (k ∷ [])) j
        holds j = (st.front, k ∷ [], refl, subst (λ (v : ℕ). Yields t.grammar (access t (top stack)) v (k ∷ []) j) (sym symbol) (yields_leaf t.grammar (access t (top stack)) k j small), st.holds)

    shifted_stands : (s : ℕ) (stack ks : List ℕ) → entry t (top stack) (head ks) ≡ Go s → shifted t next s stack ks ≡ Wrong left → Stands stack ks → Stopped
    shifted_stands s stack [] is h st = stopped stack [] h st
    shifted_stands s stack (k ∷ ks) is h st = shift_stands s k stack ks (nat_lt k t.grammar.terminals) refl is h st

    only_stands : (stack : List ℕ) (b : Bool) → (if b then Read [] else Wrong []) ≡ Wrong left → Stands stack [] → Stopped
    only_stands stack true h st = read_wrong h
    only_stands stack false h st = stopped stack [] h st

    accepted_stands : (stack ks : List ℕ) → accepted t next stack ks ≡ Wrong left → Stands stack ks → Stopped
    accepted_stands [] ks h st = stopped [] ks h st
    accepted_stands (s ∷ []) [] h st = only_stands (s ∷ []) (nat_eq (access t s) t.grammar.start) h st
    accepted_stands (s ∷ []) (k ∷ ks) h st = stopped (s ∷ []) (k ∷ ks) h st
    accepted_stands (s ∷ (u ∷ stack)) ks h st = stopped (s ∷ (u ∷ stack)) ks h st

    acted_stands : (e : Step) (stack ks : List ℕ) → entry t (top stack) (head ks) ≡ e → acted t next e stack ks ≡ Wrong left → Stands stack ks → Stopped
    acted_stands Fail stack ks is h st = stopped stack ks h st
    acted_stands (Go s) stack ks is h st = shifted_stands s stack ks is h st
    acted_stands (Reduce p) stack ks is h st = reduced_stands p (slice_get t.grammar.rules p) stack ks refl is h st
    acted_stands Accept stack ks is h st = accepted_stands stack ks h st

  pub run_stands : (n : ℕ) (stack ks : List ℕ) → run t n stack ks ≡ Wrong left → Stands stack ks → Stopped
  unfolding run
  run_stands zero stack ks h st = going_wrong h
  run_stands (suc n) stack ks h st = acted_stands (run t n) (run_stands n) (entry t (top stack) (head ks)) stack ks refl h st
