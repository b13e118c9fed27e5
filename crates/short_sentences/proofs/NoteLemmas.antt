-- What the code notes.
use Rattle.std.proofs.Common.{◌≡◌, ℕ, ◌<◌, ◌≤◌, Bool, false, List, [], ◌∷◌, ◌++◌, length, get_or, Contains, refl, sym, ◌∙◌, ap, subst, arith, Some, slice_get, Result, Ok, Err, OnOk}
use Rattle.std.proofs.lemmas.Option.{same_Some, slice_get_read, slice_get_within, get_or_from_slice_get}
use Rattle.text_base.specs.declared.page_token.PageToken.{PageToken}
use Rattle.text_base.specs.declared.numbers.Nt as nt
use Rattle.cfg_grammar.specs.declared.production.Production.{Production}
use Rattle.derivations.specs.declared.node.Parts.{Parts}
use Rattle.derivations.specs.Nodes.{parts_length}
use Rattle.numbered_sets.specs.Numbers.{AreDifferent}
use Rattle.numbered_sets.proofs.NumberLemmas.{at_front}
use Rattle.summary_decision.specs.declared.table.Entry.{Entry}
use Rattle.summary_decision.specs.Closed.{Pair}
use Rattle.summary_decision.specs.Tables.{known_of, AreNumbered}
use Rattle.summary_decision.proofs.ClosedLemmas.{placed}
use Rattle.summary_decision.proofs.KnownLemmas.{at_end, at_known, known_length}
use Rattle.short_sentences.specs.declared.queue.Queue.{Queue}
use Rattle.short_sentences.specs.declared.table.Draft.{Draft}
use Rattle.short_sentences.specs.declared.table.Table.{Table}
use Rattle.short_sentences.specs.declared.taken.Taken.{Taken}
use Rattle.short_sentences.specs.Queues.{Puts}
use Rattle.short_sentences.specs.Notes.{Notes}
use Rattle.short_sentences.specs.Tables.{MakesAt, IsTable, GoesOn, Adds}
use Rattle.short_sentences.proofs.DraftLemmas.{pair_at}
use Rattle.short_sentences.proofs.JointLemmas.{adds_behind}
use Rattle.short_sentences.proofs.TableLemmas.{noted_read}

-- a member that is put behind others of which none stands twice was not among them
pub was_none : {X : Type 0} (xs more : List X) (x : X) → more ≡ xs ++ x ∷ [] → AreDifferent more → Contains xs x → ⊥
was_none {X} xs more x e differ c =
    let p = placed xs x c in
    let here = subst (λ (l : List X). slice_get l p.0 ≡ Some x) (sym e) (at_front xs x p.0 x p.2) in
    let last = subst (λ (l : List X). slice_get l (length xs) ≡ Some x) (sym e) (at_end xs x) in
    let same = differ p.0 (length xs) x here last in
    omega (arith, p.1, same)

pub is_last : {X : Type 0} (xs more : List X) (x : X) (place : ℕ) → more ≡ xs ++ x ∷ [] → AreDifferent more → slice_get more place ≡ Some x → place ≡ length xs
is_last {X} xs more x place e differ at = differ place (length xs) x at (subst (λ (l : List X). slice_get l (length xs) ≡ Some x) (sym e) (at_end xs x))

pub note_new : (entry : Entry) (draft : Draft) (found more : List Entry) (drafts after : List Draft) (queue queue' : Queue) (place : ℕ) → more ≡ found ++ entry ∷ [] → slice_get more place ≡ Some entry → AreDifferent more → after ≡ drafts ++ draft ∷ [] → Puts queue queue' draft.length place → Notes entry draft found more drafts after queue queue'
note_new entry draft found more drafts after queue queue' place e at differ f puts =
    Notes.is_new (was_none found more entry e differ) e f (subst (λ (n : ℕ). Puts queue queue' draft.length n) (is_last found more entry place e differ at) puts)

module _ {S : Type 0} where
  -- the entry of a pair
  pub entry_told : (sums : List S) (entries : List Entry) (n : ℕ) (x : Pair S) (read : Entry) → AreNumbered sums entries → slice_get (known_of sums entries) n ≡ Some x → read ≡ get_or entries n read → (read.nonterminal ≡ x.0) × (slice_get sums read.sum ≡ Some x.1)
  entry_told sums entries n x read numbered at is =
      let k = at_known sums entries n x numbered at in
      let same : read ≡ k.0 = is ∙ get_or_from_slice_get entries n k.0 read k.1 in
      (ap (λ (e : Entry). e.nonterminal) same ∙ k.2, ap (λ (e : Entry). slice_get sums e.sum) same ∙ k.3)

  pub entry_within : (sums : List S) (entries : List Entry) (n : ℕ) (x : Pair S) → AreNumbered sums entries → slice_get (known_of sums entries) n ≡ Some x → n < length entries
  entry_within sums entries n x numbered at =
      let l = slice_get_within (known_of sums entries) n x at in
      let k = known_length sums entries numbered in
      omega (arith, l, k)

module _ {S : Type 0} (sum_of : List PageToken → S) (composed : S → S → S) (whole : S → Bool) (ps : List Production) (start : nt.Nt) (count : ℕ) (taken : Taken) where
  -- a draft that the code notes adds its pair
  pub noted_code : {E : Type 0} (r : Result (Unit {0}) E) (old new : Table S) (place number l : ℕ) (qs : Parts) (read : Production) → IsTable sum_of composed whole ps start count old taken → (s : S) × (slice_get old.sums.numbered.keys number ≡ Some s) × MakesAt sum_of composed whole ps start taken.nodes.nodes.items place qs s → taken.length ≤ parts_length taken.nodes.nodes.items qs → AreDifferent old.sums.numbered.keys → read ≡ get_or ps place read → l ≡ parts_length taken.nodes.nodes.items qs → new.sums ≡ old.sums → OnOk r (Notes (record { nonterminal = read.left.0; sum = number }) (record { production = place; parts = qs; length = l; is_taken = false }) old.found.keys new.found.keys old.drafts.items new.drafts.items old.queue new.queue) → OnOk r ((t : S) → slice_get old.sums.numbered.keys number ≡ Some t → Adds sum_of composed whole ps start count taken old new place qs t)
  noted_code (Err e) old new place number l qs read table makes late differ is same_length same notes = tt
  noted_code (Ok e) old new place number l qs read table makes late differ is same_length same notes = λ t at.
      let one : makes.0 ≡ t = same_Some makes.0 t (sym makes.1 ∙ at) in
      let notes' = subst (λ (m : ℕ). Notes (record { nonterminal = read.left.0; sum = number }) (record { production = place; parts = qs; length = m; is_taken = false }) old.found.keys new.found.keys old.drafts.items new.drafts.items old.queue new.queue) same_length notes in
      subst (λ (x : S). Adds sum_of composed whole ps start count taken old new place qs x) one
      (noted_read sum_of composed whole ps start count taken old table place qs makes.0 number makes.2 makes.1 late differ read new is same notes')

  -- the same behind a sum that is numbered first
  pub added_code : {E : Type 0} (r : Result (Unit {0}) E) (old mid new : Table S) (place number : ℕ) (qs : Parts) (s : S) → GoesOn sum_of composed whole ps start count taken old mid → slice_get mid.sums.numbered.keys number ≡ Some s → OnOk r ((t : S) → slice_get mid.sums.numbered.keys number ≡ Some t → Adds sum_of composed whole ps start count taken mid new place qs t) → OnOk r (Adds sum_of composed whole ps start count taken old new place qs s)
  added_code (Err e) old mid new place number qs s goes at h = tt
  added_code (Ok e) old mid new place number qs s goes at h = adds_behind sum_of composed whole ps start count taken old mid new place qs s goes (h s at)

-- the pair of an entry that is read
pub pair_read : {S : Type 0} (sums : List S) (entries : List Entry) (n : ℕ) (read : Entry) (a s : S) → AreNumbered sums entries → n < length entries → read ≡ get_or entries n read → slice_get sums read.sum ≡ Some a → s ≡ a → slice_get (known_of sums entries) n ≡ Some (read.nonterminal, s)
pair_read {S} sums entries n read a s numbered l is here same =
    pair_at sums entries n read s numbered (slice_get_read entries (length entries) n read refl l is) (here ∙ ap Some (sym same))
