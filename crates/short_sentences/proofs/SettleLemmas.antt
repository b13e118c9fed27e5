-- The next pair is taken up.
use Rattle.std.proofs.Common.{◌≡◌, ◌≢◌, ℕ, ◌+◌, ◌-◌, ◌<◌, ◌≤◌, ◌↔◌, inl, inr, Bool, true, false, List, [], ◌∷◌, ◌++◌, length, get_or, set, min, Contains, refl, sym, ◌∙◌, ap, subst, arith, Option, None, Some, slice_get, Result, Ok, Err, OnOk, IfErr, length-append, true≢false}
use Rattle.std.specs.Prelude.{IsTrue}
use Rattle.std.specs.List.{AllPairs}
use Rattle.std.specs.Cmp.{first_so}
use Rattle.std.proofs.lemmas.Bool.{cases_eq, ltb-true}
use Rattle.std.proofs.lemmas.List.{length-set}
use Rattle.std.proofs.lemmas.List.Elements.{Contains-push_cases, Contains-get_or}
use Rattle.std.proofs.lemmas.List.Quantifiers.{all_pairs_push}
use Rattle.std.proofs.lemmas.Option.{same_Some, slice_get_within, slice_get-get_or}
use Rattle.text_base.specs.declared.letter.Letter.{Letter}
use Rattle.text_base.specs.declared.page_token.PageToken.{PageToken}
use Rattle.text_base.specs.declared.numbers.Nt as nt
use Rattle.cfg_grammar.specs.declared.symbol.Symbol.{Symbol}
use Rattle.cfg_grammar.specs.declared.symbol.Symbol.TheVariants.{Range, Token, Nt}
use Rattle.cfg_grammar.specs.declared.production.Production.{Production}
use Rattle.cfg_grammar.specs.Below.{AreBelow, production_below}
use Rattle.derivations.specs.declared.node.Part.TheVariants.{Inner}
use Rattle.derivations.specs.declared.node.Node.{Node}
use Rattle.derivations.specs.Nodes.{most, length_of, part_length, parts_length, parts_below}
use Rattle.derivations.specs.Lawful.{byte_count}
use Rattle.derivations.specs.Stands.{Stands, IsDerivation}
use Rattle.derivations.proofs.Derivations.{lengths}
use Rattle.numbered_sets.specs.Chains.{AreChains}
use Rattle.numbered_sets.specs.Numbers.{Keeps, AreDifferent}
use Rattle.numbered_sets.specs.declared.chains.Chains.{Chains}
use Rattle.numbered_sets.proofs.NumberLemmas.{at_front}
use Rattle.numbered_sets.proofs.PlaceLemmas.{slice_get-set_other, slice_get-set_same}
use Rattle.useful_nonterminals.specs.Useful.{IsUseful}
use Rattle.summary_decision.specs.declared.table.Entry.{Entry}
use Rattle.summary_decision.specs.declared.halt.Halt.{Halt}
use Rattle.summary_decision.specs.declared.halt.Halt.TheVariants.{Memory, NotWhole, TooMany, TooLong}
use Rattle.summary_decision.specs.Pairs.{tokens_in}
use Rattle.summary_decision.specs.Closed.{Pair}
use Rattle.summary_decision.specs.Halts.{Judges}
use Rattle.summary_decision.specs.Tables.{known_of, sums_at}
use Rattle.summary_decision.proofs.AddLemmas.{passes_at}
use Rattle.summary_decision.proofs.ClosedLemmas.{contained, placed}
use Rattle.summary_decision.proofs.KnownLemmas.{at_cases, at_end, at_before, known_length, known_more, noted_numbered, sum_within}
use Rattle.summary_decision.proofs.TableLemmas.{sums_at_same, sums_at_other, in_sums, sums_short}
use Rattle.summary_decision.proofs.TakenLemmas.{first_kept}
use Rattle.short_sentences.specs.declared.queue.Queue.{Queue}
use Rattle.short_sentences.specs.declared.table.Draft.{Draft}
use Rattle.short_sentences.specs.declared.table.Table.{Table}
use Rattle.short_sentences.specs.declared.taken.Taken.{Taken}
use Rattle.short_sentences.specs.ShortPairs.{IsShortPair, HasShortPairs, AreShorterWhole}
use Rattle.short_sentences.specs.Closed.{HasSum, IsClosed, IsCompleteBelow}
use Rattle.short_sentences.specs.Tables.{found, known, IsReached, Supports, IsMade, IsDraft, AreDrafts, AreUpTo, IsTable}
use Rattle.short_sentences.specs.Joints.{chained, AreTaken}
use Rattle.short_sentences.specs.Taking.{IsNext, Settles, AreUp, AreUpButLast}
use Rattle.short_sentences.specs.Halts.{Explains}
use Rattle.short_sentences.proofs.ClosedLemmas.{complete_below}
use Rattle.short_sentences.proofs.DraftLemmas.{set_cases, pair_at, one_place}
use Rattle.short_sentences.proofs.MadeLemmas.{length_on, made_on, makes_below, draft_on, parts_most, short_pair, node_supports}

pub ok_then : {E : Type 0} {P Q : Type 0} (r : Result (Unit {0}) E) → OnOk r P → (P → Q) → OnOk r Q
ok_then (Err e) h f = tt
ok_then (Ok e) h f = f h

pub err_then : {E : Type 0} {P Q : E → Type 0} (r : Result (Unit {0}) E) → IfErr r P → ((e : E) → P e → Q e) → IfErr r Q
err_then (Err e) h f = f e h
err_then (Ok e) h f = tt

module _ {S : Type 0} (sum_of : List PageToken → S) (composed : S → S → S) (whole : S → Bool) (ps : List Production) (start : nt.Nt) (count : ℕ) (t : Table S) (queue : Queue) (taken : Taken) (chains : Chains) (up : AreUp sum_of composed whole ps start count (record t { queue = queue }) taken chains) where
  abbrev nodes : List Node
  nodes = taken.nodes.nodes.items

  abbrev pairs : List (Pair S)
  pairs = found t

  abbrev before : List (Pair S)
  before = known t taken

  before_long : chained chains ≡ length before
  before_long = up.all ∙ sym (known_length t.sums.numbered.keys taken.entries.items up.table.taken_numbered)

  pub place_known : (place : ℕ) → IsNext t.drafts.items t.queue place → place < length t.found.keys
  place_known place next =
      let l = slice_get_within t.drafts.items place next.draft next.at in
      let k = known_length t.sums.numbered.keys t.found.keys up.table.numbered in
      omega (arith, l, k, up.table.drafts.long)

  pub entry_sum : (place : ℕ) (entry : Entry) → slice_get t.found.keys place ≡ Some entry → entry.sum < length t.sums.numbered.keys
  entry_sum place entry at = sum_within t.sums.numbered.keys t.found.keys up.table.numbered place entry at

  -- what is found by fewer bytes than any draft that is not taken up has, is taken up
  module _ (appended : (u v : List PageToken) → sum_of (u ++ v) ≡ composed (sum_of u) (sum_of v)) (bound : ℕ) (least : (n : ℕ) (d : Draft) → slice_get t.drafts.items n ≡ Some d → d.is_taken ≡ false → bound ≤ d.length) where
    settled : (x : Pair S) (l : ℕ) → l < bound → IsReached t x l → (j : ℕ) × (slice_get before j ≡ Some x) × (part_length nodes (Inner j) ≤ l)
    settled x l less h = by_test h.1.is_taken refl
      where
        by_test : (b : Bool) → h.1.is_taken ≡ b → (j : ℕ) × (slice_get before j ≡ Some x) × (part_length nodes (Inner j) ≤ l)
        by_test true e = let k = up.table.drafts.taken h.0 x h.1 h.2 h.3 e in (k.0, k.1, omega (arith, k.2, h.4))
        by_test false e = let k = least h.0 h.1 h.3 e in absurd (omega (arith, k, h.4, less))

    pub complete : IsCompleteBelow sum_of composed ps start before nodes bound
    complete =
        complete_below sum_of composed (IsReached t) ps start before nodes appended bound
        (subst (λ (n : ℕ). IsClosed sum_of composed (IsReached t) ps start before nodes n) before_long up.closed) settled

    pub shorter_whole : AreShorterWhole sum_of whole ps start bound
    shorter_whole w less d =
        let has = complete start w less (IsUseful.at_start w d) d in
        up.table.up.whole_at_start (sum_of (tokens_in w)) (contained before has.0 (start.0, sum_of (tokens_in w)) has.1)

  module _ (place : ℕ) (next : IsNext t.drafts.items t.queue place) (entry : Entry) (s : S) (at : slice_get t.found.keys place ≡ Some entry) (here : slice_get t.sums.numbered.keys entry.sum ≡ Some s) where
    abbrev pair : Pair S
    pair = (entry.nonterminal, s)

    abbrev draft : Draft
    draft = next.draft

    abbrev done : Draft
    done = record draft { is_taken = true }

    abbrev node : Node
    node = record { production = draft.production; parts = draft.parts; length = parts_length nodes draft.parts }

    pair_here : slice_get pairs place ≡ Some pair
    pair_here = pair_at t.sums.numbered.keys t.found.keys place entry s up.table.numbered at here

    place_within : place < length t.drafts.items
    place_within = slice_get_within t.drafts.items place draft next.at

    is_draft : IsDraft sum_of composed whole ps start nodes pair draft
    is_draft = up.table.drafts.each place pair draft pair_here next.at

    fresh : Contains before pair → ⊥
    fresh = up.table.drafts.opens place pair draft pair_here next.at next.is_open

    is_later : taken.length ≤ draft.length
    is_later = up.table.drafts.later place draft next.at next.is_open

    keeps_nodes : Keeps nodes (nodes ++ node ∷ [])
    keeps_nodes n x h = at_front nodes node n x h

    last_length : part_length (nodes ++ node ∷ []) (Inner (length before)) ≡ draft.length
    last_length =
        subst (λ (n : ℕ). part_length (nodes ++ node ∷ []) (Inner n) ≡ draft.length) up.table.up.long
        (ap length_of (at_end nodes node) ∙ sym is_draft.length_is)

    length_stays : (k : ℕ) (x : Pair S) → slice_get before k ≡ Some x → part_length (nodes ++ node ∷ []) (Inner k) ≡ part_length nodes (Inner k)
    length_stays k x e = let l = slice_get_within before k x e in length_on nodes (nodes ++ node ∷ []) k keeps_nodes (omega (arith, l, up.table.up.long))

    -- what the code asks for
    pub left_below : AreBelow count ps → entry.nonterminal < count
    left_below below =
        subst (λ (n : ℕ). n < count) is_draft.left
        (ltb-true is_draft.makes.production.left.0 count (first_so _ _ (passes_at (production_below count) ps draft.production is_draft.makes.production below is_draft.makes.at)))

    pub parts_are_below : (d : Draft) → slice_get t.drafts.items place ≡ Some d → parts_below (length nodes) d.parts ≡ true
    parts_are_below d e =
        let same : draft ≡ d = same_Some draft d (sym next.at ∙ e) in
        subst (λ (c : Draft). parts_below (length nodes) c.parts ≡ true) same (makes_below sum_of composed whole ps start nodes is_draft.makes.production.right draft.parts s is_draft.makes.makes)

    pub place_is_within : place < length t.drafts.items
    place_is_within = place_within

    pub count_within : entry.nonterminal < count → get_or taken.counts.items entry.nonterminal 0 ≤ length taken.entries.items
    count_within below =
        let e = up.table.up.counted entry.nonterminal (get_or taken.counts.items entry.nonterminal 0) (slice_get-get_or taken.counts.items entry.nonterminal 0 (omega (arith, below, up.table.up.spread))) in
        let k = sums_short entry.nonterminal before in
        let l = known_length t.sums.numbered.keys taken.entries.items up.table.taken_numbered in
        omega (arith, e, k, l)

    module _ (new : Table S) (after : Taken) (sums_differ : AreDifferent t.sums.numbered.keys) (keys_differ : AreDifferent t.found.keys) (settles : Settles t.drafts.items new.drafts.items taken after place entry draft) where
      abbrev made : Table S
      made = record new { sums = t.sums; found = t.found; queue = t.queue }

      pub counts_long : length after.counts.items ≡ count
      counts_long = ap length settles.counts ∙ (length-set taken.counts.items entry.nonterminal (get_or taken.counts.items entry.nonterminal 0 + 1) ∙ up.table.up.spread)

      pub entries_long : length after.entries.items ≡ length taken.entries.items + 1
      entries_long = ap length settles.entries ∙ length-append taken.entries.items (entry ∷ [])

      -- the drafts
      done_is_draft : IsDraft sum_of composed whole ps start (nodes ++ node ∷ []) pair done
      done_is_draft = let h = draft_on sum_of composed whole ps start nodes (nodes ++ node ∷ []) pair draft keeps_nodes is_draft in record { makes = h.makes; left = h.left; length_is = h.length_is }

      new_drafts : AreDrafts sum_of composed whole ps start pairs (before ++ pair ∷ []) (set t.drafts.items place done) (nodes ++ node ∷ []) draft.length
      new_drafts =
          record {
            long = length-set t.drafts.items place done ∙ up.table.drafts.long;
            each = λ n x d a b. elim (set_cases t.drafts.items place n done d place_within b) [
              | inl k ↦
                  let same : pair ≡ x = same_Some pair x (sym pair_here ∙ (ap (slice_get pairs) (sym k.0) ∙ a)) in
                  subst (λ (y : Pair S). IsDraft sum_of composed whole ps start (nodes ++ node ∷ []) y d) same (subst (λ (c : Draft). IsDraft sum_of composed whole ps start (nodes ++ node ∷ []) pair c) k.1 done_is_draft)
              | inr k ↦ draft_on sum_of composed whole ps start nodes (nodes ++ node ∷ []) x d keeps_nodes (up.table.drafts.each n x d a k.1)
            ];
            later = λ n d b is_open. elim (set_cases t.drafts.items place n done d place_within b) [
              | inl k ↦ absurd (true≢false (ap (λ (c : Draft). c.is_taken) k.1 ∙ is_open))
              | inr k ↦ next.least n d k.1 is_open
            ];
            taken = λ n x d a b is_up. elim (set_cases t.drafts.items place n done d place_within b) [
              | inl k ↦
                  let same : pair ≡ x = same_Some pair x (sym pair_here ∙ (ap (slice_get pairs) (sym k.0) ∙ a)) in
                  (length before, at_end before pair ∙ ap Some same, last_length ∙ ap (λ (c : Draft). c.length) k.1)
              | inr k ↦
                  let h = up.table.drafts.taken n x d a k.1 is_up in
                  (h.0, at_front before pair h.0 x h.1, length_stays h.0 x h.1 ∙ h.2)
            ];
            opens = λ n x d a b is_open c. elim (set_cases t.drafts.items place n done d place_within b) [
              | inl k ↦ absurd (true≢false (ap (λ (c : Draft). c.is_taken) k.1 ∙ is_open))
              | inr k ↦ elim (Contains-push_cases before pair x c) [
                | inl old ↦ up.table.drafts.opens n x d a k.1 is_open old
                | inr e ↦ k.0 (one_place t.sums.numbered.keys t.found.keys up.table.numbered sums_differ keys_differ n place x a (pair_here ∙ ap Some e))
              ]
            ];
            among = λ x c. elim (Contains-push_cases before pair x c) [
              | inl old ↦ up.table.drafts.among x old
              | inr e ↦ subst (Contains pairs) e (contained pairs place pair pair_here)
            ];
          }

      -- the pairs that are taken up
      after_is : known_of t.sums.numbered.keys after.entries.items ≡ before ++ pair ∷ []
      after_is = ap (known_of t.sums.numbered.keys) settles.entries ∙ known_more t.sums.numbered.keys taken.entries.items entry s up.table.taken_numbered here

      early_more : (n : ℕ) → part_length (nodes ++ node ∷ []) (Inner n) ≤ draft.length
      early_more n = early_at (slice_get (nodes ++ node ∷ []) n) refl
        where
          early_at : (o : Option Node) → slice_get (nodes ++ node ∷ []) n ≡ o → length_of o ≤ draft.length
          early_at None e = omega arith
          early_at (Some m) e = elim (at_cases nodes node n m e) [
            | inl k ↦
                let f = up.table.up.early n in
                let same : length_of (slice_get nodes n) ≡ m.length = ap length_of k.1 in
                omega (arith, f, same, is_later)
            | inr k ↦
                let f = is_draft.length_is in
                let same : parts_length nodes draft.parts ≡ m.length = ap (λ (i : Node). i.length) k.1 in
                omega (arith, f, same)
          ]

      last_supports : (appended : (u v : List PageToken) → sum_of (u ++ v) ≡ composed (sum_of u) (sum_of v)) → Supports sum_of composed whole ps start (nodes ++ node ∷ []) (Inner (length before)) (Nt (record { 0 = entry.nonterminal })) s
      last_supports appended =
          subst (λ (n : ℕ). Supports sum_of composed whole ps start (nodes ++ node ∷ []) (Inner n) (Nt (record { 0 = entry.nonterminal })) s) up.table.up.long
          (subst (λ (n : ℕ). Supports sum_of composed whole ps start (nodes ++ node ∷ []) (Inner (length nodes)) (Nt (record { 0 = n })) s) is_draft.left
          (node_supports sum_of composed whole ps start appended nodes node is_draft.makes.production.left is_draft.makes.production.right s is_draft.makes.at is_draft.makes.makes))

      module _ (appended : (u v : List PageToken) → sum_of (u ++ v) ≡ composed (sum_of u) (sum_of v)) where
        last_made : IsMade sum_of composed whole ps start (nodes ++ node ∷ []) (length before) pair
        last_made = record { useful = subst (λ (n : ℕ). IsUseful ps start (record { 0 = n })) is_draft.left is_draft.makes.useful; supports = last_supports appended }

        made_more : (n : ℕ) (x : Pair S) → slice_get (before ++ pair ∷ []) n ≡ Some x → IsMade sum_of composed whole ps start (nodes ++ node ∷ []) n x
        made_more n x e =
            elim (at_cases before pair n x e) [
              | inl k ↦ made_on sum_of composed whole ps start nodes (nodes ++ node ∷ []) n x keeps_nodes (up.table.up.made n x k.1)
              | inr k ↦ subst (λ (m : ℕ). IsMade sum_of composed whole ps start (nodes ++ node ∷ []) m x) (sym k.0) (subst (λ (y : Pair S). IsMade sum_of composed whole ps start (nodes ++ node ∷ []) (length before) y) k.1 last_made)
            ]

        counted_more : entry.nonterminal < length taken.counts.items → (a n : ℕ) → slice_get (set taken.counts.items entry.nonterminal (get_or taken.counts.items entry.nonterminal 0 + 1)) a ≡ Some n → n ≡ length (sums_at a (before ++ pair ∷ []))
        counted_more below a n e =
            elim (cases_eq a entry.nonterminal) [
              | inl same ↦
                  let c = get_or taken.counts.items entry.nonterminal 0 in
                  let one : c + 1 ≡ n = same_Some (c + 1) n (sym (slice_get-set_same taken.counts.items entry.nonterminal (c + 1) below) ∙ (ap (slice_get (set taken.counts.items entry.nonterminal (c + 1))) (sym same) ∙ e)) in
                  let old = up.table.up.counted entry.nonterminal c (slice_get-get_or taken.counts.items entry.nonterminal 0 below) in
                  let longer : length (sums_at entry.nonterminal (before ++ pair ∷ [])) ≡ length (sums_at entry.nonterminal before) + 1 = ap length (sums_at_same entry.nonterminal before s) ∙ length-append (sums_at entry.nonterminal before) (s ∷ []) in
                  subst (λ (b : ℕ). n ≡ length (sums_at b (before ++ pair ∷ []))) (sym same) (omega (arith, one, old, longer))
              | inr other ↦
                  up.table.up.counted a n (sym (slice_get-set_other taken.counts.items entry.nonterminal a (get_or taken.counts.items entry.nonterminal 0 + 1) other) ∙ e)
                  ∙ sym (ap length (sums_at_other a entry.nonterminal before s (λ k. other (sym k))))
            ]

        different_more : (a : ℕ) → AllPairs (λ (x y : S). x ≢ y) (sums_at a (before ++ pair ∷ []))
        different_more a =
            elim (cases_eq a entry.nonterminal) [
              | inl same ↦ subst (λ (b : ℕ). AllPairs (λ (x y : S). x ≢ y) (sums_at b (before ++ pair ∷ []))) (sym same)
                  (subst (λ (l : List S). AllPairs (λ (x y : S). x ≢ y) l) (sym (sums_at_same entry.nonterminal before s))
                  (all_pairs_push (λ (x y : S). x ≢ y) (sums_at entry.nonterminal before) s (up.table.up.different entry.nonterminal)
                  (λ k d l e. fresh (in_sums entry.nonterminal before s (subst (λ (u : S). Contains (sums_at entry.nonterminal before) u) e (Contains-get_or (sums_at entry.nonterminal before) k d l))))))
              | inr other ↦ subst (λ (l : List S). AllPairs (λ (x y : S). x ≢ y) l) (sym (sums_at_other a entry.nonterminal before s (λ k. other (sym k)))) (up.table.up.different a)
            ]

        is_bounded : draft.length ≤ most
        is_bounded =
            let k = parts_most sum_of composed whole ps start nodes draft.parts (λ n. let e = up.table.up.early n in omega (arith, e, up.table.up.bounded)) in
            omega (arith, k, is_draft.length_is)

        new_up : entry.nonterminal < count → (entry.nonterminal ≡ start.0 → whole s ≡ true) → AreUpTo sum_of composed whole ps start count (before ++ pair ∷ []) after
        new_up below is_whole =
            record {
              long = ap length settles.nodes ∙ (length-append nodes (node ∷ []) ∙ (ap (λ (n : ℕ). n + 1) up.table.up.long ∙ sym (length-append before (pair ∷ []))));
              spread = ap length settles.counts ∙ (length-set taken.counts.items entry.nonterminal (get_or taken.counts.items entry.nonterminal 0 + 1) ∙ up.table.up.spread);
              counted = λ a n e. counted_more (omega (arith, below, up.table.up.spread)) a n (subst (λ (l : List ℕ). slice_get l a ≡ Some n) settles.counts e);
              different = different_more;
              made = λ n x e. subst (λ (ns : List Node). IsMade sum_of composed whole ps start ns n x) (sym settles.nodes) (made_more n x e);
              early = λ n. subst (λ (ns : List Node). part_length ns (Inner n) ≤ after.length) (sym settles.nodes) (subst (λ (l : ℕ). part_length (nodes ++ node ∷ []) (Inner n) ≤ l) (sym settles.length_is) (early_more n));
              bounded = subst (λ (l : ℕ). l ≤ most) (sym settles.length_is) is_bounded;
              whole_at_start = λ u c. elim (Contains-push_cases before pair (start.0, u) c) [
                | inl old ↦ up.table.up.whole_at_start u old
                | inr last ↦ ap whole (ap (λ (p : Pair S). p.1) (sym last)) ∙ is_whole (ap (λ (p : Pair S). p.0) last)
              ];
            }

        new_table : entry.nonterminal < count → (entry.nonterminal ≡ start.0 → whole s ≡ true) → IsTable sum_of composed whole ps start count made after
        new_table below is_whole =
            record {
              numbered = up.table.numbered;
              taken_numbered = noted_numbered t.sums.numbered.keys t.sums.numbered.keys taken.entries.items after.entries.items entry s up.table.taken_numbered (λ n x h. h) here true settles.entries;
              joined = up.table.joined;
              drafts = subst (λ (z : List (Pair S)). AreDrafts sum_of composed whole ps start pairs z new.drafts.items after.nodes.nodes.items after.length) (sym after_is)
                  (subst (λ (ds : List Draft). AreDrafts sum_of composed whole ps start pairs (before ++ pair ∷ []) ds after.nodes.nodes.items after.length) (sym settles.drafts)
                  (subst (λ (ns : List Node). AreDrafts sum_of composed whole ps start pairs (before ++ pair ∷ []) (set t.drafts.items place done) ns after.length) (sym settles.nodes)
                  (subst (λ (l : ℕ). AreDrafts sum_of composed whole ps start pairs (before ++ pair ∷ []) (set t.drafts.items place done) (nodes ++ node ∷ []) l) (sym settles.length_is) new_drafts)));
              queued = λ n d e is_open. elim (set_cases t.drafts.items place n done d place_within (subst (λ (ds : List Draft). slice_get ds n ≡ Some d) settles.drafts e)) [
                | inl k ↦ absurd (true≢false (ap (λ (c : Draft). c.is_taken) k.1 ∙ is_open))
                | inr k ↦ next.others n d k.1 is_open k.0
              ];
              up = subst (λ (z : List (Pair S)). AreUpTo sum_of composed whole ps start count z after) (sym after_is) (new_up below is_whole);
            }

        -- what was closed stays so
        reached_on : (x : Pair S) (l : ℕ) → IsReached t x l → IsReached made x l
        reached_on x l h =
            elim (cases_eq h.0 place) [
              | inl same ↦
                  let one : h.1 ≡ draft = same_Some h.1 draft (sym h.3 ∙ (ap (slice_get t.drafts.items) same ∙ next.at)) in
                  let e = ap (λ (c : Draft). c.length) one in (
                    place,
                    done,
                    ap (slice_get pairs) (sym same) ∙ h.2,
                    subst (λ (ds : List Draft). slice_get ds place ≡ Some done) (sym settles.drafts) (slice_get-set_same t.drafts.items place done place_within),
                    omega (arith, e, h.4),
                  )
              | inr other ↦ (
                h.0,
                h.1,
                h.2,
                subst (λ (ds : List Draft). slice_get ds h.0 ≡ Some h.1) (sym settles.drafts) (slice_get-set_other t.drafts.items place h.0 done other ∙ h.3),
                h.4,
              )
            ]

        has_back : (b : Symbol) (u : S) (m : ℕ) → HasSum sum_of composed (before ++ pair ∷ []) (nodes ++ node ∷ []) (chained chains) b u m → HasSum sum_of composed before nodes (chained chains) b u m
        has_back (Range range) u m h = h
        has_back (Token token) u m h = h
        has_back (Nt a) u m h =
            let e = at_before before (before ++ pair ∷ []) h.0 (a.0, u) (λ n x k. at_front before pair n x k) (omega (arith, h.1, before_long)) h.2 in
            (h.0, h.1, e, sym (length_stays h.0 (a.0, u) e) ∙ h.3)

        new_closed : IsClosed sum_of composed (IsReached made) ps start (before ++ pair ∷ []) (nodes ++ node ∷ []) (chained chains)
        new_closed =
            record {
              empties = λ left c u. reached_on (left.0, sum_of []) 0 (up.closed.empties left c u);
              ones = λ left a v l c u has. reached_on (left.0, v) l (up.closed.ones left a v l c u (has_back a v l has));
              twos = λ left a b v w l m c u has has'. reached_on (left.0, composed v w) (l + m) (up.closed.twos left a b v w l m c u (has_back a v l has) (has_back b w m has'));
            }

        pub up_but_last : entry.nonterminal < count → (entry.nonterminal ≡ start.0 → whole s ≡ true) → AreUpButLast sum_of composed whole ps start count made after chains
        up_but_last below is_whole =
            record {
              table = new_table below is_whole;
              are_taken = subst (λ (z : List (Pair S)). AreTaken z chains) (sym after_is)
                  (subst (λ (keys : List ℕ). AreChains keys chains.last.items chains.before.items) (sym (first_kept before (before ++ pair ∷ []) (chained chains) (λ n x k. at_front before pair n x k) (omega (arith, before_long)))) up.are_taken);
              spread = up.spread;
              one_more = let e = ap length settles.entries ∙ length-append taken.entries.items (entry ∷ []) in omega (arith, e, up.all);
              late = subst (λ (ns : List Node). after.length ≤ part_length ns (Inner (chained chains))) (sym settles.nodes)
                  (let e = ap (λ (n : ℕ). part_length (nodes ++ node ∷ []) (Inner n)) before_long ∙ last_length in omega (arith, e, settles.length_is));
              closed = subst (λ (z : List (Pair S)). IsClosed sum_of composed (IsReached made) ps start z after.nodes.nodes.items (chained chains)) (sym after_is)
                  (subst (λ (ns : List Node). IsClosed sum_of composed (IsReached made) ps start (before ++ pair ∷ []) ns (chained chains)) (sym settles.nodes) new_closed);
            }

        -- why the work ends
        shorter : AreShorterWhole sum_of whole ps start after.length
        shorter = subst (AreShorterWhole sum_of whole ps start) (sym settles.length_is) (shorter_whole appended draft.length next.least)

        wrong : (entry.nonterminal ≡ start.0) → whole s ≡ false → (w : List Letter) × IsDerivation ps after.nodes.nodes.items start w × (whole (sum_of (tokens_in w)) ≡ false) × AreShorterWhole sum_of whole ps start (min (byte_count w) most)
        wrong same not_whole =
            let sup = last_supports appended in
            let w = sup.sentence in
            let root : length before ≡ length after.nodes.nodes.items - 1 = (let e = ap length settles.nodes ∙ length-append nodes (node ∷ []) in omega (arith, e, up.table.up.long)) in
            let stands : Stands ps after.nodes.nodes.items (Inner (length before)) (Nt start) w =
            subst (λ (ns : List Node). Stands ps ns (Inner (length before)) (Nt start) w) (sym settles.nodes)
            (subst (λ (n : ℕ). Stands ps (nodes ++ node ∷ []) (Inner (length before)) (Nt (record { 0 = n })) w) same sup.stands) in
            let long : part_length after.nodes.nodes.items (Inner (length before)) ≡ min (byte_count w) most = lengths ps after.nodes.nodes.items after.nodes.lawful (Inner (length before)) (Nt start) w stands in
            let is : draft.length ≡ min (byte_count w) most = sym last_length ∙ (ap (λ (ns : List Node). part_length ns (Inner (length before))) (sym settles.nodes) ∙ long) in (
              w,
              subst (λ (n : ℕ). Stands ps after.nodes.nodes.items (Inner n) (Nt start) w) root stands,
              ap whole sup.same ∙ not_whole,
              subst (AreShorterWhole sum_of whole ps start) is (shorter_whole appended draft.length next.least),
            )

        too_many : (n : ℕ) → entry.nonterminal < count → slice_get after.counts.items entry.nonterminal ≡ Some n → HasShortPairs sum_of ps start after.length n
        too_many n below e = (
          record { 0 = entry.nonterminal },
          sums_at entry.nonterminal (before ++ pair ∷ []),
          sym (counted_more (omega (arith, below, up.table.up.spread)) entry.nonterminal n (subst (λ (l : List ℕ). slice_get l entry.nonterminal ≡ Some n) settles.counts e)),
          different_more entry.nonterminal,
          λ u c.
              let p = placed (before ++ pair ∷ []) (entry.nonterminal, u) (in_sums entry.nonterminal (before ++ pair ∷ []) u c) in
              is_short p.0 (entry.nonterminal, u) p.2,
        )
          where
            is_short : (k : ℕ) (x : Pair S) → slice_get (before ++ pair ∷ []) k ≡ Some x → IsShortPair sum_of ps start after.length (record { 0 = x.0 }) x.1
            is_short k x f =
                short_pair sum_of composed whole ps start after.nodes.nodes.items k after.length x after.nodes.lawful (subst (λ (l : ℕ). l ≤ most) (sym settles.length_is) is_bounded)
                (subst (λ (ns : List Node). part_length ns (Inner k) ≤ after.length) (sym settles.nodes) (subst (λ (l : ℕ). part_length (nodes ++ node ∷ []) (Inner k) ≤ l) (sym settles.length_is) (early_more k)))
                (subst (λ (ns : List Node). IsMade sum_of composed whole ps start ns k x) (sym settles.nodes) (made_more k x f))

        too_long : IsShortPair sum_of ps start after.length (record { 0 = entry.nonterminal }) s
        too_long =
            short_pair sum_of composed whole ps start after.nodes.nodes.items (length before) after.length pair after.nodes.lawful (subst (λ (l : ℕ). l ≤ most) (sym settles.length_is) is_bounded)
            (subst (λ (ns : List Node). part_length ns (Inner (length before)) ≤ after.length) (sym settles.nodes) (subst (λ (l : ℕ). part_length (nodes ++ node ∷ []) (Inner (length before)) ≤ l) (sym settles.length_is) (early_more (length before))))
            (subst (λ (ns : List Node). IsMade sum_of composed whole ps start ns (length before) pair) (sym settles.nodes) last_made)

        pub explained : (tags : S → ℕ) (limit : ℕ) (is_wrong : Bool) (n m : ℕ) (h : Halt) → entry.nonterminal < count → IsTrue is_wrong ↔ ((entry.nonterminal ≡ start.0) × (whole s ≡ false)) → n ≡ tags s → slice_get after.counts.items entry.nonterminal ≡ Some m → Judges is_wrong n m limit h → Explains sum_of whole tags ps start limit after.nodes.nodes.items after.length h
        explained tags limit is_wrong n m Memory below told is_tags is_count judges = tt
        explained tags limit is_wrong n m NotWhole below told is_tags is_count judges = let k = told.0 judges in wrong k.0 k.1
        explained tags limit is_wrong n m (TooMany i) below told is_tags is_count judges =
            (judges.2, too_many i below (is_count ∙ ap Some (sym judges.1)), shorter)
        explained tags limit is_wrong n m (TooLong i) below told is_tags is_count judges =
            (judges.2, (record { 0 = entry.nonterminal }, s, too_long, sym is_tags ∙ sym judges.1), shorter)

        pub not_wrong : (is_wrong : Bool) → IsTrue is_wrong ↔ ((entry.nonterminal ≡ start.0) × (whole s ≡ false)) → is_wrong ≡ false → entry.nonterminal ≡ start.0 → whole s ≡ true
        not_wrong is_wrong told e same = by_test (whole s) refl
          where
            by_test : (b : Bool) → whole s ≡ b → b ≡ true
            by_test true f = refl
            by_test false f = absurd (true≢false (sym (told.1 (same, f)) ∙ e))
