-- What is kept of drafts as one is noted.
use Rattle.std.proofs.Common.{◌≡◌, ℕ, ◌+◌, ◌<◌, ◌≤◌, ◌⊎◌, inl, inr, Bool, true, false, List, [], ◌∷◌, ◌++◌, length, set, Contains, refl, sym, ◌∙◌, ap, subst, arith, Some, slice_get, length-append, true≢false}
use Rattle.std.proofs.lemmas.Bool.{cases_eq}
use Rattle.std.proofs.lemmas.List.{length-set}
use Rattle.std.proofs.lemmas.List.Elements.{Contains-append_left}
use Rattle.std.proofs.lemmas.Option.{same_Some, slice_get_within}
use Rattle.text_base.specs.declared.page_token.PageToken.{PageToken}
use Rattle.text_base.specs.declared.numbers.Nt as nt
use Rattle.cfg_grammar.specs.declared.production.Production.{Production}
use Rattle.derivations.specs.declared.node.Part.TheVariants.{Inner}
use Rattle.derivations.specs.declared.node.Node.{Node}
use Rattle.derivations.specs.Nodes.{part_length}
use Rattle.numbered_sets.specs.Numbers.{AreDifferent}
use Rattle.numbered_sets.proofs.NumberLemmas.{at_front}
use Rattle.numbered_sets.proofs.PlaceLemmas.{slice_get-set_other, slice_get-set_same}
use Rattle.summary_decision.specs.declared.table.Entry.{Entry}
use Rattle.summary_decision.specs.Closed.{Pair}
use Rattle.summary_decision.specs.Tables.{known_of, AreNumbered}
use Rattle.summary_decision.proofs.ClosedLemmas.{placed, contained}
use Rattle.summary_decision.proofs.KnownLemmas.{at_cases, at_end, is_there, known_length, known_at, at_known, noted_numbered, noted_pairs}
use Rattle.short_sentences.specs.declared.queue.Queue.{Queue}
use Rattle.short_sentences.specs.declared.table.Draft.{Draft}
use Rattle.short_sentences.specs.Queues.{waiting, Puts}
use Rattle.short_sentences.specs.Notes.{Notes}
use Rattle.short_sentences.specs.Tables.{HasDraft, AreQueued, IsDraft, AreDrafts}

-- a place of a list of which one member is replaced
pub set_cases : {X : Type 0} (xs : List X) (place n : ℕ) (x y : X) → place < length xs → slice_get (set xs place x) n ≡ Some y → ((n ≡ place) × (x ≡ y)) ⊎ ((n ≡ place → ⊥) × (slice_get xs n ≡ Some y))
set_cases xs place n x y l e = elim (cases_eq n place) [
  | inl same ↦ inl (same, same_Some x y (sym (slice_get-set_same xs place x l) ∙ (ap (slice_get (set xs place x)) (sym same) ∙ e)))
  | inr other ↦ inr (other, sym (slice_get-set_other xs place n x other) ∙ e)
]

-- where something stands at a place, something stands there in a list that is as long
pub also_there : {X Y : Type 0} (xs : List X) (ys : List Y) (n : ℕ) (x : X) → length xs ≡ length ys → slice_get xs n ≡ Some x → (y : Y) × (slice_get ys n ≡ Some y)
also_there xs ys n x e at = let l = slice_get_within xs n x at in is_there ys n (omega (arith, l, e))

same_entry : (a b : Entry) → a.nonterminal ≡ b.nonterminal → a.sum ≡ b.sum → a ≡ b
same_entry a b i j = ap (λ (n : ℕ). let z : Entry = record { nonterminal = n; sum = a.sum } in z) i ∙ ap (λ (n : ℕ). let z : Entry = record { nonterminal = b.nonterminal; sum = n } in z) j

module _ {S : Type 0} where
  -- the pair of an entry
  pub pair_at : (sums : List S) (keys : List Entry) (n : ℕ) (e : Entry) (s : S) → AreNumbered sums keys → slice_get keys n ≡ Some e → slice_get sums e.sum ≡ Some s → slice_get (known_of sums keys) n ≡ Some (e.nonterminal, s)
  pair_at sums keys n e s numbered at here =
      let k = known_at sums keys n e numbered at in
      k.2 ∙ ap (λ (t : S). let p : Pair S = (e.nonterminal, t) in Some p) (same_Some k.0 s (sym k.1 ∙ here))

  -- an entry whose pair is there is there, where no sum has two numbers
  pub entry_of : (sums : List S) (keys : List Entry) (e : Entry) (s : S) → AreNumbered sums keys → AreDifferent sums → slice_get sums e.sum ≡ Some s → (n : ℕ) → slice_get (known_of sums keys) n ≡ Some (e.nonterminal, s) → slice_get keys n ≡ Some e
  entry_of sums keys e s numbered differ here n at =
      let k = at_known sums keys n (e.nonterminal, s) numbered at in
      k.1 ∙ ap Some (same_entry k.0 e k.2 (differ k.0.sum e.sum s k.3 here))

  -- so a pair stands at one place alone, where an entry does
  pub one_place : (sums : List S) (keys : List Entry) → AreNumbered sums keys → AreDifferent sums → AreDifferent keys → AreDifferent (known_of sums keys)
  one_place sums keys numbered sums_differ keys_differ i j x at at' =
      let k = at_known sums keys i x numbered at in
      let l = at_known sums keys j x numbered at' in
      let one : k.0 ≡ l.0 = same_entry k.0 l.0 (k.2 ∙ sym l.2) (sums_differ k.0.sum l.0.sum x.1 k.3 l.3) in
      keys_differ i j l.0 (k.1 ∙ ap Some one) l.1

module _ {S : Type 0} (sum_of : List PageToken → S) (composed : S → S → S) (whole : S → Bool) (ps : List Production) (start : nt.Nt) where
  -- what noting comes to
  pub record AreNoted (entry : Entry) (draft : Draft) (sums : List S) (keys more : List Entry) (drafts after : List Draft) (queue' : Queue) (taken : List (Pair S)) (nodes : List Node) (l : ℕ) (s : S) : Type 0 where
    pub numbered : AreNumbered sums more
    pub kept : AreDrafts sum_of composed whole ps start (known_of sums more) taken after nodes l
    pub queued : AreQueued after queue'
    pub reaches : (x : Pair S) (m : ℕ) → HasDraft (known_of sums keys) drafts x m → HasDraft (known_of sums more) after x m
    pub has : HasDraft (known_of sums more) after (entry.nonterminal, s) draft.length

  module _ (entry : Entry) (draft : Draft) (sums : List S) (keys : List Entry) (drafts : List Draft) (queue : Queue) (taken : List (Pair S)) (nodes : List Node) (l : ℕ) (s : S) (numbered : AreNumbered sums keys) (differ : AreDifferent sums) (here : slice_get sums entry.sum ≡ Some s) (is : IsDraft sum_of composed whole ps start nodes (entry.nonterminal, s) draft) (is_open : draft.is_taken ≡ false) (late : l ≤ draft.length) (early : (n : ℕ) → part_length nodes (Inner n) ≤ l) (kept : AreDrafts sum_of composed whole ps start (known_of sums keys) taken drafts nodes l) (queued : AreQueued drafts queue) where
    abbrev pair : Pair S
    pair = (entry.nonterminal, s)

    not_taken : draft.is_taken ≡ true → ⊥
    not_taken e = true≢false (sym e ∙ is_open)

    keys_long : length drafts ≡ length keys
    keys_long = kept.long ∙ known_length sums keys numbered

    -- a new pair
    module _ (fresh : Contains keys entry → ⊥) (queue' : Queue) (puts : Puts queue queue' draft.length (length keys)) where
      more_pairs : known_of sums (keys ++ entry ∷ []) ≡ known_of sums keys ++ pair ∷ []
      more_pairs = noted_pairs sums sums keys (keys ++ entry ∷ []) entry s numbered (λ n x h. h) here true refl

      cases : {Y : Type 0} (n : ℕ) (x : Pair S) (d : Draft) → slice_get (known_of sums keys ++ pair ∷ []) n ≡ Some x → slice_get (drafts ++ draft ∷ []) n ≡ Some d → (slice_get (known_of sums keys) n ≡ Some x → slice_get drafts n ≡ Some d → Y) → (pair ≡ x → draft ≡ d → Y) → Y
      cases n x d at at' old new = elim (at_cases (known_of sums keys) pair n x at) [
        | inl i ↦ elim (at_cases drafts draft n d at') [
          | inl j ↦ old i.1 j.1
          | inr j ↦ absurd (omega (arith, i.0, j.0, kept.long))
        ]
        | inr i ↦ elim (at_cases drafts draft n d at') [
          | inl j ↦ absurd (omega (arith, i.0, j.0, kept.long))
          | inr j ↦ new i.1 j.1
        ]
      ]

      new_kept : AreDrafts sum_of composed whole ps start (known_of sums keys ++ pair ∷ []) taken (drafts ++ draft ∷ []) nodes l
      new_kept =
          record {
            long = length-append drafts (draft ∷ []) ∙ (ap (λ (n : ℕ). n + 1) kept.long ∙ sym (length-append (known_of sums keys) (pair ∷ [])));
            each = λ n x d at at'. cases n x d at at' (kept.each n x d) (λ e f. subst (λ (y : Pair S). IsDraft sum_of composed whole ps start nodes y d) e (subst (λ (c : Draft). IsDraft sum_of composed whole ps start nodes pair c) f is));
            later = λ n d at is_open'. elim (at_cases drafts draft n d at) [
              | inl k ↦ kept.later n d k.1 is_open'
              | inr k ↦ subst (λ (c : Draft). l ≤ c.length) k.1 late
            ];
            taken = λ n x d at at' up. cases n x d at at' (λ a b. kept.taken n x d a b up) (λ e f. absurd (not_taken (ap (λ (c : Draft). c.is_taken) f ∙ up)));
            opens = λ n x d at at' is_open' c. cases n x d at at' (λ a b. kept.opens n x d a b is_open' c) (λ e f.
                let p = placed (known_of sums keys) pair (kept.among pair (subst (Contains taken) (sym e) c)) in
                fresh (contained keys p.0 entry (entry_of sums keys entry s numbered differ here p.0 p.2)));
            among = λ x c. Contains-append_left (known_of sums keys) (pair ∷ []) x (kept.among x c);
          }

      pub noted_new : AreNoted entry draft sums keys (keys ++ entry ∷ []) drafts (drafts ++ draft ∷ []) queue' taken nodes l s
      noted_new =
          record {
            numbered = noted_numbered sums sums keys (keys ++ entry ∷ []) entry s numbered (λ n x h. h) here true refl;
            kept = subst (λ (z : List (Pair S)). AreDrafts sum_of composed whole ps start z taken (drafts ++ draft ∷ []) nodes l) (sym more_pairs) new_kept;
            queued = λ n d at is_open'. elim (at_cases drafts draft n d at) [
              | inl k ↦ puts.keeps (d.length, n) (queued n d k.1 is_open')
              | inr k ↦
                  subst (λ (c : Draft). Contains (waiting queue') (c.length, n)) k.1
                  (subst (λ (i : ℕ). Contains (waiting queue') (draft.length, i)) (sym keys_long ∙ sym k.0) puts.has)
            ];
            reaches = λ x m h. subst (λ (z : List (Pair S)). HasDraft z (drafts ++ draft ∷ []) x m) (sym more_pairs)
                (h.0, h.1, at_front (known_of sums keys) pair h.0 x h.2, at_front drafts draft h.0 h.1 h.3, h.4);
            has = subst (λ (z : List (Pair S)). HasDraft z (drafts ++ draft ∷ []) pair draft.length) (sym more_pairs)
                (length drafts, draft, subst (λ (i : ℕ). slice_get (known_of sums keys ++ pair ∷ []) i ≡ Some pair) (sym kept.long) (at_end (known_of sums keys) pair), at_end drafts draft, omega arith);
          }

    -- a shorter draft
    module _ (place : ℕ) (before : Draft) (at : slice_get keys place ≡ Some entry) (was : slice_get drafts place ≡ Some before) (shorter : draft.length < before.length) (queue' : Queue) (puts : Puts queue queue' draft.length place) where
      place_within : place < length drafts
      place_within = slice_get_within drafts place before was

      pair_here : slice_get (known_of sums keys) place ≡ Some pair
      pair_here = pair_at sums keys place entry s numbered at here

      was_open : before.is_taken ≡ false
      was_open = by_test before.is_taken refl
        where
          by_test : (b : Bool) → before.is_taken ≡ b → b ≡ false
          by_test false e = refl
          by_test true e =
              let h = kept.taken place pair before pair_here was e in
              let i = early h.0 in
              absurd (omega (arith, h.2, i, late, shorter))

      pub noted_shorter : AreNoted entry draft sums keys keys drafts (set drafts place draft) queue' taken nodes l s
      noted_shorter =
          record {
            numbered = numbered;
            kept = record {
              long = length-set drafts place draft ∙ kept.long;
              each = λ n x d a b. elim (set_cases drafts place n draft d place_within b) [
                | inl k ↦
                    let same : pair ≡ x = same_Some pair x (sym pair_here ∙ (ap (slice_get (known_of sums keys)) (sym k.0) ∙ a)) in
                    subst (λ (y : Pair S). IsDraft sum_of composed whole ps start nodes y d) same (subst (λ (c : Draft). IsDraft sum_of composed whole ps start nodes pair c) k.1 is)
                | inr k ↦ kept.each n x d a k.1
              ];
              later = λ n d b is_open'. elim (set_cases drafts place n draft d place_within b) [
                | inl k ↦ subst (λ (c : Draft). l ≤ c.length) k.1 late
                | inr k ↦ kept.later n d k.1 is_open'
              ];
              taken = λ n x d a b up. elim (set_cases drafts place n draft d place_within b) [
                | inl k ↦ absurd (not_taken (ap (λ (c : Draft). c.is_taken) k.1 ∙ up))
                | inr k ↦ kept.taken n x d a k.1 up
              ];
              opens = λ n x d a b is_open' c. elim (set_cases drafts place n draft d place_within b) [
                | inl k ↦ kept.opens place x before (ap (slice_get (known_of sums keys)) (sym k.0) ∙ a) was was_open c
                | inr k ↦ kept.opens n x d a k.1 is_open' c
              ];
              among = kept.among;
            };
            queued = λ n d b is_open'. elim (set_cases drafts place n draft d place_within b) [
              | inl k ↦ subst (λ (c : Draft). Contains (waiting queue') (c.length, n)) k.1 (subst (λ (i : ℕ). Contains (waiting queue') (draft.length, i)) (sym k.0) puts.has)
              | inr k ↦ puts.keeps (d.length, n) (queued n d k.1 is_open')
            ];
            reaches = λ x m h. elim (cases_eq h.0 place) [
              | inl same ↦
                  let one : h.1 ≡ before = same_Some h.1 before (sym h.3 ∙ (ap (slice_get drafts) same ∙ was)) in
                  let e = ap (λ (c : Draft). c.length) one in
                  (place, draft, ap (slice_get (known_of sums keys)) (sym same) ∙ h.2, slice_get-set_same drafts place draft place_within, omega (arith, shorter, e, h.4))
              | inr other ↦ (h.0, h.1, h.2, slice_get-set_other drafts place h.0 draft other ∙ h.3, h.4)
            ];
            has = (place, draft, pair_here, slice_get-set_same drafts place draft place_within, omega arith);
          }

    pub noted : (more : List Entry) (after : List Draft) (queue' : Queue) → Notes entry draft keys more drafts after queue queue' → AreNoted entry draft sums keys more drafts after queue' taken nodes l s
    noted more after queue' (Notes.is_new fresh e f puts) =
        subst (λ (m : List Entry). AreNoted entry draft sums keys m drafts after queue' taken nodes l s) (sym e)
        (subst (λ (a : List Draft). AreNoted entry draft sums keys (keys ++ entry ∷ []) drafts a queue' taken nodes l s) (sym f) (noted_new fresh queue' puts))
    noted more after queue' (Notes.is_shorter place before at was shorter e f puts) =
        subst (λ (m : List Entry). AreNoted entry draft sums keys m drafts after queue' taken nodes l s) (sym e)
        (subst (λ (a : List Draft). AreNoted entry draft sums keys keys drafts a queue' taken nodes l s) (sym f) (noted_shorter place before at was shorter queue' puts))
    noted more after queue' (Notes.is_longer place before at was longer e f g) =
        subst (λ (m : List Entry). AreNoted entry draft sums keys m drafts after queue' taken nodes l s) (sym e)
        (subst (λ (a : List Draft). AreNoted entry draft sums keys keys drafts a queue' taken nodes l s) (sym f)
        (subst (λ (q : Queue). AreNoted entry draft sums keys keys drafts drafts q taken nodes l s) (sym g) (record {
          numbered = numbered;
          kept = kept;
          queued = queued;
          reaches = λ x m h. h;
          has = (place, before, pair_at sums keys place entry s numbered at here, was, longer);
        })))
