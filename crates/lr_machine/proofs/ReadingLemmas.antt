-- Lemmas of the machine: the symbols of a rule, rows of numbers, a turn of all that are left, and what its answers mean.
use Rattle.std.proofs.Common.{◌≡◌, ◌≢◌, ℕ, zero, suc, ◌+◌, List, [], ◌∷◌, length, drop, get_or, refl, ap, ◌∙◌, arith, sym, ◌-◌, ◌<◌, subst, Bor, Result, Ok, Err}
use Rattle.lr_tables.specs.Grammars.{named, IsDerived, IsOnly, IsFirstWrong}
use Rattle.lr_tables.specs.declared.step.Step.{Step}
use Rattle.lr_tables.specs.declared.step.Step.TheVariants.{Fail}
use Rattle.lr_machine.specs.Shown.{step_for, row_of, steps_of}
use Rattle.lr_tables.specs.Machine.{Tables, Answer, Read, Wrong, top, head, entry, acted, run}
use Rattle.lr_machine.specs.declared.turns.Turn.{Turn}
use Rattle.lr_machine.specs.declared.turns.Turn.TheVariants.{On, Done, Stuck}
use Rattle.lr_machine.specs.declared.turns.Reader.{Reader}
use Rattle.lr_machine.specs.Turns.{joined, Turns}
use Rattle.std.specs.Prelude.{MatchResult}
use Rattle.lr_tables.specs.Laws.{AreChecked}
use Rattle.lr_tables.specs.Checks.{paid, weight_of}
use Rattle.lr_tables.proofs.Basics.{read_is}
use Rattle.lr_tables.proofs.Sound.{is_sound}
use Rattle.lr_tables.proofs.Complete.{tables_of, moves_of, is_complete}
use Rattle.lr_tables.proofs.Placed.{is_placed}
use Rattle.lr_tables.proofs.Runs.{still_read}
use Rattle.lr_machine.specs.declared.reading.ReadError.{ReadError}
use Rattle.lr_machine.specs.Refusals.{IsRefused, StopsAt}
use Rattle.lr_tables.specs.declared.event.Event as event
use Rattle.lr_machine.specs.declared.reading.ReadError.TheVariants as errors

pub named_stop : (xs : List ℕ) (i : ℕ) → get_or xs i 0 ≡ 0 → named (drop i xs) ≡ []
named_stop [] zero h = refl
named_stop [] (suc i) h = refl
named_stop (x ∷ xs) zero h = ap (λ (y : ℕ). named (y ∷ xs)) h
named_stop (x ∷ xs) (suc i) h = named_stop xs i h

pub named_head : (x : ℕ) (xs : List ℕ) → x ≢ 0 → named (x ∷ xs) ≡ x ∷ named xs
named_head zero xs h = absurd (h refl)
named_head (suc x) xs h = refl

drop_suc : (xs : List ℕ) (i : ℕ) → drop (suc i) xs ≡ drop (i + 1) xs
drop_suc xs i = let e : suc i ≡ i + 1 = omega arith in ap (λ (n : ℕ). drop n xs) e

named_suc : (xs : List ℕ) (i : ℕ) → get_or xs i 0 ≢ 0 → named (drop i xs) ≡ get_or xs i 0 ∷ named (drop (suc i) xs)
named_suc [] zero h = absurd (h refl)
named_suc [] (suc i) h = absurd (h refl)
named_suc (x ∷ xs) zero h = named_head x xs h
named_suc (x ∷ xs) (suc i) h = named_suc xs i h

pub named_on : (xs : List ℕ) (i : ℕ) → get_or xs i 0 ≢ 0 → named (drop i xs) ≡ get_or xs i 0 ∷ named (drop (i + 1) xs)
named_on xs i h = named_suc xs i h ∙ ap (λ (ys : List ℕ). get_or xs i 0 ∷ named ys) (drop_suc xs i)

pub named_end : (xs : List ℕ) → named (drop (length xs) xs) ≡ []
named_end [] = refl
named_end (x ∷ xs) = named_end xs

-- Rows of numbers as rows of steps.

pub row_at : (ns : List ℕ) (x : ℕ) → get_or (row_of ns) x Fail ≡ step_for (get_or ns x 0)
row_at [] x = refl
row_at (n ∷ ns) zero = refl
row_at (n ∷ ns) (suc x) = row_at ns x

pub rows_at : (rows : List (List ℕ)) (s : ℕ) → get_or (steps_of rows) s [] ≡ row_of (get_or rows s [])
rows_at [] s = refl
rows_at (ns ∷ rows) zero = refl
rows_at (ns ∷ rows) (suc s) = rows_at rows s

pub entry_at : (rows : List (List ℕ)) (s x : ℕ) → step_for (get_or (get_or rows s []) x 0) ≡ get_or (get_or (steps_of rows) s []) x Fail
entry_at rows s x = sym (ap (λ (row : List Step). get_or row x Fail) (rows_at rows s) ∙ row_at (get_or rows s []) x)

-- One turn of all that are left.

step_is : (t : Tables) (n k : ℕ) (stack ks : List ℕ) → n ≡ suc k → run t n stack ks ≡ acted t (run t k) (entry t (top stack) (head ks)) stack ks
unfolding run
step_is t n k stack ks e = ap (λ (m : ℕ). run t m stack ks) e

less_one : (limit i : ℕ) → i < limit → limit - i ≡ suc (limit - (i + 1))
less_one limit i l = omega arith

module _ (t : Tables) (limit i : ℕ) (ks : List ℕ) (before after : Reader) (whole : Answer) where
  abbrev turns : Turn → Type 0
  turns turned = Turns turned ks before after (λ next. acted t next (entry t (top before.states) (head ks)) before.states ks)

  one_turn : i < limit → run t (limit - i) before.states ks ≡ acted t (run t (limit - (i + 1))) (entry t (top before.states) (head ks)) before.states ks
  one_turn l = step_is t (limit - i) (limit - (i + 1)) before.states ks (less_one limit i l)

  pub on_kept : (turned : Turn) (rest : Bor (List ℕ)) → turned ≡ On rest → turns turned → i < limit → joined before.events.items (run t (limit - i) before.states ks) ≡ whole
      → joined after.events.items (run t (limit - (i + 1)) after.states rest.now) ≡ whole
  on_kept turned rest is h l inv =
      let e = subst turns is h in
      e (run t (limit - (i + 1))) ∙ ap (joined before.events.items) (sym (one_turn l)) ∙ inv

  pub done_is : (turned : Turn) → turned ≡ Done → turns turned → i < limit → joined before.events.items (run t (limit - i) before.states ks) ≡ whole → whole ≡ Read after.events.items
  done_is turned is h l inv =
      let e = subst turns is h in
      sym inv ∙ ap (joined before.events.items) (one_turn l) ∙ sym (e (run t (limit - (i + 1))))

  pub stuck_is : (turned : Turn) → turned ≡ Stuck → turns turned → i < limit → joined before.events.items (run t (limit - i) before.states ks) ≡ whole → whole ≡ Wrong ks
  stuck_is turned is h l inv =
      let e = subst turns is h in
      sym inv ∙ ap (joined before.events.items) (one_turn l ∙ e (run t (limit - (i + 1))))

-- What the machine answers is told of the only derivation, and where it stops is the first token that does not fit.

module _ (t : Tables) (ks : List ℕ) (limit : ℕ) (c : AreChecked t) where
  same_told : (es fs : List event.Event) (n : ℕ) → run t limit [] ks ≡ Read es → IsDerived t.grammar ks fs → n ≡ paid c.certificate.most ks + weight_of t.grammar.terminals c.certificate.facts t.grammar.start → fs ≡ es
  same_told es fs n h d e =
      let enough : n < limit + (n + 1) = omega arith in
      let at = subst (λ (v : ℕ). v < limit + (n + 1)) e enough in
      read_is (sym (is_complete t c.certificate (tables_of t c.certificate c.passes) ks fs d (limit + (n + 1)) at) ∙ still_read t limit (n + 1) [] ks es h)

  only_one : (es : List event.Event) → run t limit [] ks ≡ Read es → IsOnly t.grammar ks es
  only_one es h = record {
    derived = is_sound t (moves_of t c.certificate c.passes) limit ks es h;
    only = λ fs d. same_told es fs (paid c.certificate.most ks + weight_of t.grammar.terminals c.certificate.facts t.grammar.start) h d refl;
  }

  first_wrong : (place : ℕ) → StopsAt (run t limit [] ks) ks place → IsFirstWrong t.grammar ks place
  first_wrong place s = subst (IsFirstWrong t.grammar ks) (sym s.is) (is_placed t c limit ks s.left s.stops)

  is_refused : (e : ReadError) → IsRefused e (StopsAt (run t limit [] ks) ks) → IsRefused e (IsFirstWrong t.grammar ks)
  is_refused errors.NoMemory h = tt
  is_refused (errors.Wrong place) h = first_wrong place h

  pub answered : {V : Type 0} (items : V → List event.Event) (r : Result V ReadError) → MatchResult r (λ v. run t limit [] ks ≡ Read (items v)) (λ e. IsRefused e (StopsAt (run t limit [] ks) ks))
      → MatchResult r (λ v. IsOnly t.grammar ks (items v)) (λ e. IsRefused e (IsFirstWrong t.grammar ks))
  answered items (Ok v) h = only_one (items v) h
  answered items (Err e) h = is_refused e h
