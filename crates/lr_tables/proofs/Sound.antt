-- What is read is derived.
use Rattle.std.proofs.Common.{◌≡◌, ℕ, zero, suc, false, nat_eq, nat_lt, List, [], ◌∷◌, refl, sym, subst, Option, Some, None}
use Rattle.std.specs.Prelude.{slice_get}
use Rattle.lr_tables.specs.declared.rule.Rule.{Rule}
use Rattle.lr_tables.specs.declared.step.Step.{Step}
use Rattle.lr_tables.specs.declared.step.Step.TheVariants.{Fail, Go, Reduce, Accept}
use Rattle.lr_tables.specs.declared.event.Event as event
use Rattle.lr_tables.specs.Grammars.{Derives, leaf, node, Spells, none, more, named, onto, side, head, is_blocked, is_barred}
use Rattle.lr_tables.specs.Machine.{Tables, Answer, Read, Wrong, top, access, entry, pops, told, put, replaced, reduced, shifted, accepted, acted, run}
use Rattle.lr_tables.specs.Checks.{rows_accessed}
use Rattle.std.proofs.lemmas.Bool.{and_parts}
use Rattle.lr_tables.specs.Laws.{IsSound}
use Rattle.lr_tables.proofs.Basics.{eq_is, none_some, some_is, wrong_read, going_read, read_is, tells, held, held_some, unheld, accessed, stands}

module _ (t : Tables) (good : (s x u : ℕ) → entry t s x ≡ Go u → access t u ≡ x) (free : (s x p : ℕ) (r : Rule) → entry t s x ≡ Reduce p → slice_get t.grammar.rules p ≡ Some r → is_blocked t.grammar r x ≡ false) (begins : access t 0 ≡ 0) (all : List ℕ) (events : List event.Event) where
  -- the symbols on the stack derive what was read
  abbrev Stands : List ℕ → List ℕ → List event.Event → Type 0
  Stands [] ks es = (all ≡ ks) × (events ≡ es)
  Stands (s ∷ stack) ks es = (mid : List ℕ) × (fs : List event.Event) × (Derives t.grammar (access t (top stack)) (access t s) mid ks fs es) × (Stands stack mid fs)

  record Popped (stack xs rest : List ℕ) (later : List event.Event) : Type 0 where
    mid : List ℕ
    fs : List event.Event
    stands : Stands stack mid fs
    spells : Spells t.grammar (access t (top stack)) xs mid rest fs later

  popped : (back done stack left ks rest : List ℕ) (es later : List event.Event) → pops t back stack ≡ Some left → Stands stack ks es → Spells t.grammar (access t (top stack)) done ks rest es later → Popped left (onto back done) rest later
  popped [] done stack left ks rest es later e st sp = record { mid = ks; fs = es; stands = subst (λ (v : List ℕ). Stands v ks es) (some_is e) st; spells = subst (λ (v : List ℕ). Spells t.grammar (access t (top v)) done ks rest es later) (some_is e) sp }
  popped (x ∷ back) done [] left ks rest es later e st sp = none_some e
  popped (x ∷ back) done (s ∷ stack) left ks rest es later e st sp =
      let h = held_some (nat_eq (access t s) x) (pops t back stack) left e in
      let is = eq_is (access t s) x h.test in
      popped back (x ∷ done) stack left st.0 rest st.1 later h.is st.3 (more (access t (top stack)) x done st.0 ks rest st.1 es later (subst (λ (v : ℕ). Derives t.grammar (access t (top stack)) v st.0 ks st.1 es) is st.2) (subst (λ (v : ℕ). Spells t.grammar v done ks rest es later) is sp))

  abbrev Whole : Type 0
  Whole = Derives t.grammar 0 t.grammar.start all [] events []

  module _ (next : List ℕ → List ℕ → Answer) (later : (stack ks : List ℕ) (es : List event.Event) → next stack ks ≡ Read es → Stands stack ks es → Whole) where
    put_sound : (x : ℕ) (e : Step) (stack ks : List ℕ) (es fs : List event.Event) (mid : List ℕ) → entry t (top stack) x ≡ e → put t next e stack ks ≡ Read es → Derives t.grammar (access t (top stack)) x mid ks fs es → Stands stack mid fs → Whole
    put_sound x Fail stack ks es fs mid e h d st = wrong_read h
    put_sound x (Go s) stack ks es fs mid e h d st = later (s ∷ stack) ks es h (mid, fs, subst (λ (v : ℕ). Derives t.grammar (access t (top stack)) v mid ks fs es) (sym (good (top stack) x s e)) d, st)
    put_sound x (Reduce p) stack ks es fs mid e h d st = wrong_read h
    put_sound x Accept stack ks es fs mid e h d st = wrong_read h

    replaced_sound : (p : ℕ) (r : Rule) (left : Option (List ℕ)) (stack ks : List ℕ) (es : List event.Event) → slice_get t.grammar.rules p ≡ Some r → entry t (top stack) (head ks) ≡ Reduce p → pops t (named r.back) stack ≡ left → replaced t next p r left ks ≡ Read es → Stands stack ks es → Whole
    replaced_sound p r None stack ks es is at e h st = wrong_read h
    replaced_sound p r (Some left) stack ks es is at e h st =
        let b = unheld (is_barred t.grammar r (access t (top left))) (told (event.TheVariants.Rule p) (put t next (entry t (top left) r.left) left ks)) (Wrong ks) (Read es) wrong_read h in
        let a = tells (event.TheVariants.Rule p) (put t next (entry t (top left) r.left) left ks) es b.is in
        let got = popped (named r.back) [] stack left ks ks es es e st (none (access t (top stack)) ks es) in
        let d = node (access t (top left)) p r got.mid ks got.fs a.rest is b.test (free (top stack) (head ks) p r at is) (subst (λ (v : List event.Event). Spells t.grammar (access t (top left)) (side r) got.mid ks got.fs v) (sym a.is) got.spells) in
        put_sound r.left (entry t (top left) r.left) left ks a.rest got.fs got.mid refl a.was d got.stands

    reduced_sound : (p : ℕ) (r : Option Rule) (stack ks : List ℕ) (es : List event.Event) → slice_get t.grammar.rules p ≡ r → entry t (top stack) (head ks) ≡ Reduce p → reduced t next p r stack ks ≡ Read es → Stands stack ks es → Whole
    reduced_sound p None stack ks es is at h st = wrong_read h
    reduced_sound p (Some r) stack ks es is at h st = replaced_sound p r (pops t (named r.back) stack) stack ks es is at refl h st

    shifted_sound : (s : ℕ) (stack ks : List ℕ) (es : List event.Event) → entry t (top stack) (head ks) ≡ Go s → shifted t next s stack ks ≡ Read es → Stands stack ks es → Whole
    shifted_sound s stack [] es e h st = wrong_read h
    shifted_sound s stack (k ∷ ks) es e h st =
        let a = held (nat_lt k t.grammar.terminals) (told event.TheVariants.Token (next (s ∷ stack) ks)) (Wrong (k ∷ ks)) (Read es) wrong_read h in
        let b = tells event.TheVariants.Token (next (s ∷ stack) ks) es a.is in
        let d = subst (λ (v : List event.Event). Derives t.grammar (access t (top stack)) k (k ∷ ks) ks v b.rest) b.is (leaf (access t (top stack)) k ks b.rest a.test) in
        later (s ∷ stack) ks b.rest b.was (k ∷ ks, es, subst (λ (v : ℕ). Derives t.grammar (access t (top stack)) v (k ∷ ks) ks es b.rest) (sym (good (top stack) k s e)) d, st)

    accepted_sound : (stack ks : List ℕ) (es : List event.Event) → accepted t next stack ks ≡ Read es → Stands stack ks es → Whole
    accepted_sound [] ks es h st = wrong_read h
    accepted_sound (s ∷ []) [] es h st =
        let a = held (nat_eq (access t s) t.grammar.start) (Read []) (Wrong []) (Read es) wrong_read h in
        let d = subst (λ (v : ℕ). Derives t.grammar v t.grammar.start st.0 [] st.1 es) begins (subst (λ (v : ℕ). Derives t.grammar (access t 0) v st.0 [] st.1 es) (eq_is (access t s) t.grammar.start a.test) st.2) in
        subst (λ (v : List event.Event). Derives t.grammar 0 t.grammar.start all [] events v) (sym (read_is a.is))
        (subst (λ (v : List event.Event). Derives t.grammar 0 t.grammar.start all [] v es) (sym st.3.1)
        (subst (λ (v : List ℕ). Derives t.grammar 0 t.grammar.start v [] st.1 es) (sym st.3.0) d))
    accepted_sound (s ∷ []) (k ∷ ks) es h st = wrong_read h
    accepted_sound (s ∷ (u ∷ stack)) ks es h st = wrong_read h

    acted_sound : (e : Step) (stack ks : List ℕ) (es : List event.Event) → entry t (top stack) (head ks) ≡ e → acted t next e stack ks ≡ Read es → Stands stack ks es → Whole
    acted_sound Fail stack ks es e h st = wrong_read h
    acted_sound (Go s) stack ks es e h st = shifted_sound s stack ks es e h st
    acted_sound (Reduce p) stack ks es e h st = reduced_sound p (slice_get t.grammar.rules p) stack ks es refl e h st
    acted_sound Accept stack ks es e h st = accepted_sound stack ks es h st

  sound : (n : ℕ) (stack ks : List ℕ) (es : List event.Event) → run t n stack ks ≡ Read es → Stands stack ks es → Whole
  unfolding run
  sound zero stack ks es h st = going_read h
  sound (suc n) stack ks es h st = acted_sound (run t n) (sound n) (entry t (top stack) (head ks)) stack ks es refl h st

pub is_sound : IsSound
is_sound t good n ks es h =
    let parts = and_parts (nat_eq (access t 0) 0) (rows_accessed t t.rows) good in
    sound t (accessed t parts.1) (stands t parts.1) (eq_is (access t 0) 0 parts.0) ks es n [] ks es h (refl, refl)
