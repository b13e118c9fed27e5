-- Two runs side by side: where the machine stops, it stops with every other list that agrees with its tokens up to the one where it
-- stops; and what is read in some turns is read in more.
use Rattle.std.proofs.Common.{◌≡◌, ℕ, zero, suc, ◌≤◌, Bool, true, false, nat_eq, nat_lt, List, [], ◌∷◌, ◌++◌, length, refl, sym, ◌∙◌, ap, subst, arith, Option, Some, None, ◌+◌}
use Rattle.std.specs.Prelude.{if◌then◌else◌, slice_get}
use Rattle.lr_tables.specs.declared.rule.Rule.{Rule}
use Rattle.lr_tables.specs.declared.step.Step.{Step}
use Rattle.lr_tables.specs.declared.step.Step.TheVariants.{Fail, Go, Reduce, Accept}
use Rattle.lr_tables.specs.Grammars.{named, head, is_barred}
use Rattle.lr_tables.specs.Machine.{Tables, Answer, Read, Wrong, top, access, entry, pops, told, put, replaced, reduced, shifted, accepted, acted, run}
use Rattle.lr_tables.proofs.Basics.{read_wrong, going_wrong, wrong_is, untold, wrong_read, going_read, tells}
use Rattle.lr_tables.specs.declared.event.Event as event

-- the lists have the same first tokens, and end together where they end among these
abbrev pub Agree : ℕ → List ℕ → List ℕ → Type 0
Agree zero ks js = Unit {0}
Agree (suc n) [] [] = Unit {0}
Agree (suc n) [] (j ∷ js) = ⊥
Agree (suc n) (k ∷ ks) [] = ⊥
Agree (suc n) (k ∷ ks) (j ∷ js) = (k ≡ j) × (Agree n ks js)

pub agree_self : (n : ℕ) (ks : List ℕ) → Agree n ks ks
agree_self zero ks = tt
agree_self (suc n) [] = tt
agree_self (suc n) (k ∷ ks) = (refl, agree_self n ks)

agree_heads : (n : ℕ) (ks js : List ℕ) → Agree (suc n) ks js → head ks ≡ head js
agree_heads n [] [] a = refl
agree_heads n [] (j ∷ js) a = absurd a
agree_heads n (k ∷ ks) [] a = absurd a
agree_heads n (k ∷ ks) (j ∷ js) a = a.0

abbrev pub IsWrong : Answer → Type 0
IsWrong a = (js : List ℕ) × (a ≡ Wrong js)

told_wrong : (e : event.Event) (a : Answer) → IsWrong a → IsWrong (told e a)
told_wrong e a w = (w.0, ap (told e) w.1)

-- all that agrees stops here
pub record Stops (ks left : List ℕ) (other : List ℕ → Type 0) : Type 0 where
  pub front : List ℕ
  pub is : ks ≡ front ++ left
  pub same : (js : List ℕ) → Agree (suc (length front)) ks js → other js

stops_here : (ks left : List ℕ) (other : List ℕ → Type 0) → Wrong ks ≡ Wrong left → ((js : List ℕ) → Agree 1 ks js → other js) → Stops ks left other
stops_here ks left other e all = record { front = []; is = wrong_is e; same = all }

module _ (t : Tables) (n : ℕ) (later : (stack ks left : List ℕ) → run t n stack ks ≡ Wrong left → Stops ks left (λ js. (m : ℕ) → n ≤ m → IsWrong (run t m stack js))) where
  shift_stops : (s k : ℕ) (stack ks left : List ℕ) (b : Bool) → nat_lt k t.grammar.terminals ≡ b → (if b then told event.TheVariants.Token (run t n (s ∷ stack) ks) else Wrong (k ∷ ks)) ≡ Wrong left
      → Stops (k ∷ ks) left (λ js. (m : ℕ) → n ≤ m → IsWrong (shifted t (run t m) s stack js))
  shift_stops s k stack ks left true small e =
      let r = later (s ∷ stack) ks left (untold event.TheVariants.Token (run t n (s ∷ stack) ks) left e) in
      record { front = k ∷ r.front; is = ap (λ (v : List ℕ). k ∷ v) r.is; same = goes r.front r.same }
    where
      goes : (front : List ℕ) → ((js : List ℕ) → Agree (suc (length front)) ks js → (m : ℕ) → n ≤ m → IsWrong (run t m (s ∷ stack) js)) → (js : List ℕ) → Agree (suc (suc (length front))) (k ∷ ks) js → (m : ℕ) → n ≤ m → IsWrong (shifted t (run t m) s stack js)
      goes front all [] a m l = absurd a
      goes front all (j ∷ js) a m l =
          subst IsWrong (sym (ap (λ (b : Bool). if b then told event.TheVariants.Token (run t m (s ∷ stack) js) else Wrong (j ∷ js)) (ap (λ (v : ℕ). nat_lt v t.grammar.terminals) (sym a.0) ∙ small)))
          (told_wrong event.TheVariants.Token (run t m (s ∷ stack) js) (all js a.1 m l))
  shift_stops s k stack ks left false small e = stops_here (k ∷ ks) left (λ js. (m : ℕ) → n ≤ m → IsWrong (shifted t (run t m) s stack js)) e stays
    where
      stays : (js : List ℕ) → Agree 1 (k ∷ ks) js → (m : ℕ) → n ≤ m → IsWrong (shifted t (run t m) s stack js)
      stays [] a m l = absurd a
      stays (j ∷ js) a m l = (j ∷ js, ap (λ (b : Bool). if b then told event.TheVariants.Token (run t m (s ∷ stack) js) else Wrong (j ∷ js)) (ap (λ (v : ℕ). nat_lt v t.grammar.terminals) (sym a.0) ∙ small))

  shifted_stops : (s : ℕ) (stack ks left : List ℕ) → shifted t (run t n) s stack ks ≡ Wrong left → Stops ks left (λ js. (m : ℕ) → n ≤ m → IsWrong (shifted t (run t m) s stack js))
  shifted_stops s stack [] left e = stops_here [] left (λ js. (m : ℕ) → n ≤ m → IsWrong (shifted t (run t m) s stack js)) e ends
    where
      ends : (js : List ℕ) → Agree 1 [] js → (m : ℕ) → n ≤ m → IsWrong (shifted t (run t m) s stack js)
      ends [] a m l = ([], refl)
      ends (j ∷ js) a m l = absurd a
  shifted_stops s stack (k ∷ ks) left e = shift_stops s k stack ks left (nat_lt k t.grammar.terminals) refl e

  put_stops : (e : Step) (stack ks left : List ℕ) → put t (run t n) e stack ks ≡ Wrong left → Stops ks left (λ js. (m : ℕ) → n ≤ m → IsWrong (put t (run t m) e stack js))
  put_stops Fail stack ks left h = stops_here ks left (λ js. (m : ℕ) → n ≤ m → IsWrong (put t (run t m) Fail stack js)) h (λ js a m l. (js, refl))
  put_stops (Go s) stack ks left h = later (s ∷ stack) ks left h
  put_stops (Reduce p) stack ks left h = stops_here ks left (λ js. (m : ℕ) → n ≤ m → IsWrong (put t (run t m) (Reduce p) stack js)) h (λ js a m l. (js, refl))
  put_stops Accept stack ks left h = stops_here ks left (λ js. (m : ℕ) → n ≤ m → IsWrong (put t (run t m) Accept stack js)) h (λ js a m l. (js, refl))

  barred_stops : (p : ℕ) (e : Step) (stack ks left : List ℕ) (b : Bool) → (if b then Wrong ks else told (event.TheVariants.Rule p) (put t (run t n) e stack ks)) ≡ Wrong left
      → Stops ks left (λ js. (m : ℕ) → n ≤ m → IsWrong (if b then Wrong js else told (event.TheVariants.Rule p) (put t (run t m) e stack js)))
  barred_stops p e stack ks left true h = stops_here ks left (λ js. (m : ℕ) → n ≤ m → IsWrong (Wrong js)) h (λ js a m l. (js, refl))
  barred_stops p e stack ks left false h =
      let r = put_stops e stack ks left (untold (event.TheVariants.Rule p) (put t (run t n) e stack ks) left h) in
      record { front = r.front; is = r.is; same = λ js a m l. told_wrong (event.TheVariants.Rule p) (put t (run t m) e stack js) (r.same js a m l) }

  replaced_stops : (p : ℕ) (r : Rule) (o : Option (List ℕ)) (ks left : List ℕ) → replaced t (run t n) p r o ks ≡ Wrong left → Stops ks left (λ js. (m : ℕ) → n ≤ m → IsWrong (replaced t (run t m) p r o js))
  replaced_stops p r None ks left h = stops_here ks left (λ js. (m : ℕ) → n ≤ m → IsWrong (replaced t (run t m) p r None js)) h (λ js a m l. (js, refl))
  replaced_stops p r (Some stack) ks left h = barred_stops p (entry t (top stack) r.left) stack ks left (is_barred t.grammar r (access t (top stack))) h

  reduced_stops : (p : ℕ) (o : Option Rule) (stack ks left : List ℕ) → reduced t (run t n) p o stack ks ≡ Wrong left → Stops ks left (λ js. (m : ℕ) → n ≤ m → IsWrong (reduced t (run t m) p o stack js))
  reduced_stops p None stack ks left h = stops_here ks left (λ js. (m : ℕ) → n ≤ m → IsWrong (reduced t (run t m) p None stack js)) h (λ js a m l. (js, refl))
  reduced_stops p (Some r) stack ks left h = replaced_stops p r (pops t (named r.back) stack) ks left h

  accepted_stops : (stack ks left : List ℕ) → accepted t (run t n) stack ks ≡ Wrong left → Stops ks left (λ js. (m : ℕ) → n ≤ m → IsWrong (accepted t (run t m) stack js))
  accepted_stops [] ks left h = stops_here ks left (λ js. (m : ℕ) → n ≤ m → IsWrong (accepted t (run t m) [] js)) h (λ js a m l. (js, refl))
  accepted_stops (s ∷ []) [] left h = at (nat_eq (access t s) t.grammar.start) refl h
    where
      ends : nat_eq (access t s) t.grammar.start ≡ false → (js : List ℕ) → Agree 1 [] js → (m : ℕ) → n ≤ m → IsWrong (accepted t (run t m) (s ∷ []) js)
      ends is [] a m l = ([], ap (λ (b : Bool). if b then Read [] else Wrong []) is)
      ends is (j ∷ js) a m l = absurd a

      at : (b : Bool) → nat_eq (access t s) t.grammar.start ≡ b → (if b then Read [] else Wrong []) ≡ Wrong left → Stops [] left (λ js. (m : ℕ) → n ≤ m → IsWrong (accepted t (run t m) (s ∷ []) js))
      at true is e = read_wrong e
      at false is e = stops_here [] left (λ js. (m : ℕ) → n ≤ m → IsWrong (accepted t (run t m) (s ∷ []) js)) e (ends is)
  accepted_stops (s ∷ []) (k ∷ ks) left h = stops_here (k ∷ ks) left (λ js. (m : ℕ) → n ≤ m → IsWrong (accepted t (run t m) (s ∷ []) js)) h more_left
    where
      more_left : (js : List ℕ) → Agree 1 (k ∷ ks) js → (m : ℕ) → n ≤ m → IsWrong (accepted t (run t m) (s ∷ []) js)
      more_left [] a m l = absurd a
      more_left (j ∷ js) a m l = (j ∷ js, refl)
  accepted_stops (s ∷ (u ∷ stack)) ks left h = stops_here ks left (λ js. (m : ℕ) → n ≤ m → IsWrong (accepted t (run t m) (s ∷ (u ∷ stack)) js)) h (λ js a m l. (js, refl))

  acted_stops : (e : Step) (stack ks left : List ℕ) → acted t (run t n) e stack ks ≡ Wrong left → Stops ks left (λ js. (m : ℕ) → n ≤ m → IsWrong (acted t (run t m) e stack js))
  acted_stops Fail stack ks left h = stops_here ks left (λ js. (m : ℕ) → n ≤ m → IsWrong (acted t (run t m) Fail stack js)) h (λ js a m l. (js, refl))
  acted_stops (Go s) stack ks left h = shifted_stops s stack ks left h
  acted_stops (Reduce p) stack ks left h = reduced_stops p (slice_get t.grammar.rules p) stack ks left h
  acted_stops Accept stack ks left h = accepted_stops stack ks left h

less_one : (n m : ℕ) → suc n ≤ suc m → n ≤ m
less_one n m l = omega arith

no_less : {P : Type 0} (n : ℕ) → suc n ≤ 0 → P
no_less n l = absurd (omega arith)

turn_wrong : (t : Tables) (n : ℕ) (stack ks js : List ℕ) → head ks ≡ head js → ((m : ℕ) → n ≤ m → IsWrong (acted t (run t m) (entry t (top stack) (head ks)) stack js)) → (m : ℕ) → suc n ≤ m → IsWrong (run t m stack js)
unfolding run
turn_wrong t n stack ks js heads all zero l = no_less n l
turn_wrong t n stack ks js heads all (suc m) l = subst (λ (k : ℕ). IsWrong (acted t (run t m) (entry t (top stack) k) stack js)) heads (all m (less_one n m l))

pub stops : (t : Tables) (n : ℕ) (stack ks left : List ℕ) → run t n stack ks ≡ Wrong left → Stops ks left (λ js. (m : ℕ) → n ≤ m → IsWrong (run t m stack js))
unfolding run
stops t zero stack ks left h = going_wrong h
stops t (suc n) stack ks left h =
    let r = acted_stops t n (stops t n) (entry t (top stack) (head ks)) stack ks left h in
    record { front = r.front; is = r.is; same = λ js a. turn_wrong t n stack ks js (agree_heads (length r.front) ks js a) (r.same js a) }

-- What is read in some turns is read in more.

told_more : (e : event.Event) (a b : Answer) (es : List event.Event) → told e a ≡ Read es → ((fs : List event.Event) → a ≡ Read fs → b ≡ Read fs) → told e b ≡ Read es
told_more e a b es h later = let r = tells e a es h in ap (told e) (later r.rest r.was) ∙ ap Read r.is

module _ (t : Tables) (next more : List ℕ → List ℕ → Answer) (later : (stack ks : List ℕ) (es : List event.Event) → next stack ks ≡ Read es → more stack ks ≡ Read es) where
  put_more : (e : Step) (stack ks : List ℕ) (es : List event.Event) → put t next e stack ks ≡ Read es → put t more e stack ks ≡ Read es
  put_more Fail stack ks es h = wrong_read h
  put_more (Go s) stack ks es h = later (s ∷ stack) ks es h
  put_more (Reduce p) stack ks es h = wrong_read h
  put_more Accept stack ks es h = wrong_read h

  barred_more : (p : ℕ) (b : Bool) (e : Step) (stack ks : List ℕ) (es : List event.Event) → (if b then Wrong ks else told (event.TheVariants.Rule p) (put t next e stack ks)) ≡ Read es
      → (if b then Wrong ks else told (event.TheVariants.Rule p) (put t more e stack ks)) ≡ Read es
  barred_more p true e stack ks es h = wrong_read h
  barred_more p false e stack ks es h = told_more (event.TheVariants.Rule p) (put t next e stack ks) (put t more e stack ks) es h (put_more e stack ks)

  replaced_more : (p : ℕ) (r : Rule) (o : Option (List ℕ)) (ks : List ℕ) (es : List event.Event) → replaced t next p r o ks ≡ Read es → replaced t more p r o ks ≡ Read es
  replaced_more p r None ks es h = wrong_read h
  replaced_more p r (Some stack) ks es h = barred_more p (is_barred t.grammar r (access t (top stack))) (entry t (top stack) r.left) stack ks es h

  reduced_more : (p : ℕ) (o : Option Rule) (stack ks : List ℕ) (es : List event.Event) → reduced t next p o stack ks ≡ Read es → reduced t more p o stack ks ≡ Read es
  reduced_more p None stack ks es h = wrong_read h
  reduced_more p (Some r) stack ks es h = replaced_more p r (pops t (named r.back) stack) ks es h

  token_more : (s k : ℕ) (b : Bool) (stack ks : List ℕ) (es : List event.Event) → (if b then told event.TheVariants.Token (next (s ∷ stack) ks) else Wrong (k ∷ ks)) ≡ Read es
      → (if b then told event.TheVariants.Token (more (s ∷ stack) ks) else Wrong (k ∷ ks)) ≡ Read es
  token_more s k true stack ks es h = told_more event.TheVariants.Token (next (s ∷ stack) ks) (more (s ∷ stack) ks) es h (later (s ∷ stack) ks)
  token_more s k false stack ks es h = wrong_read h

  shifted_more : (s : ℕ) (stack ks : List ℕ) (es : List event.Event) → shifted t next s stack ks ≡ Read es → shifted t more s stack ks ≡ Read es
  shifted_more s stack [] es h = wrong_read h
  shifted_more s stack (k ∷ ks) es h = token_more s k (nat_lt k t.grammar.terminals) stack ks es h

  accepted_more : (stack ks : List ℕ) (es : List event.Event) → accepted t next stack ks ≡ Read es → accepted t more stack ks ≡ Read es
  accepted_more [] ks es h = wrong_read h
  accepted_more (s ∷ []) [] es h = h
  accepted_more (s ∷ []) (k ∷ ks) es h = wrong_read h
  accepted_more (s ∷ (u ∷ stack)) ks es h = wrong_read h

  acted_more : (e : Step) (stack ks : List ℕ) (es : List event.Event) → acted t next e stack ks ≡ Read es → acted t more e stack ks ≡ Read es
  acted_more Fail stack ks es h = wrong_read h
  acted_more (Go s) stack ks es h = shifted_more s stack ks es h
  acted_more (Reduce p) stack ks es h = reduced_more p (slice_get t.grammar.rules p) stack ks es h
  acted_more Accept stack ks es h = accepted_more stack ks es h

suc_is : (n m : ℕ) → suc n + m ≡ suc (n + m)
suc_is n m = omega arith

pub still_read : (t : Tables) (n m : ℕ) (stack ks : List ℕ) (es : List event.Event) → run t n stack ks ≡ Read es → run t (n + m) stack ks ≡ Read es
unfolding run
still_read t zero m stack ks es h = going_read h
still_read t (suc n) m stack ks es h =
    ap (λ (v : ℕ). run t v stack ks) (suc_is n m)
    ∙ acted_more t (run t n) (run t (n + m)) (still_read t n m) (entry t (top stack) (head ks)) stack ks es h
