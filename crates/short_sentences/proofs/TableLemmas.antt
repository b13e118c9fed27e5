-- What a table keeps as more is found.
use Rattle.std.proofs.Common.{◌≡◌, ℕ, ◌≤◌, Bool, false, List, get_or, refl, sym, ◌∙◌, ap, subst, arith, Some, slice_get}
use Rattle.std.proofs.lemmas.Option.{same_Some, get_or_from_slice_get}
use Rattle.text_base.specs.declared.page_token.PageToken.{PageToken}
use Rattle.text_base.specs.declared.numbers.Nt as nt
use Rattle.cfg_grammar.specs.declared.production.Production.{Production}
use Rattle.derivations.specs.declared.node.Parts.{Parts}
use Rattle.derivations.specs.Nodes.{parts_length}
use Rattle.numbered_sets.specs.Numbers.{Keeps, AreDifferent}
use Rattle.summary_decision.specs.declared.table.Entry.{Entry}
use Rattle.summary_decision.specs.Closed.{Pair}
use Rattle.summary_decision.specs.Tables.{known_of, AreJoins}
use Rattle.summary_decision.proofs.KnownLemmas.{known_same, numbered_longer, keeps_longer}
use Rattle.short_sentences.specs.declared.sums.Sums.{Sums}
use Rattle.short_sentences.specs.declared.table.Draft.{Draft}
use Rattle.short_sentences.specs.declared.table.Table.{Table}
use Rattle.short_sentences.specs.declared.taken.Taken.{Taken}
use Rattle.short_sentences.specs.Notes.{Notes}
use Rattle.short_sentences.specs.Tables.{found, known, HasDraft, IsReached, MakesAt, IsDraft, AreDrafts, AreUpTo, IsTable, GoesOn, Adds}
use Rattle.short_sentences.proofs.DraftLemmas.{AreNoted, noted}

module _ {S : Type 0} where
  pub reached_within : (t : Table S) (x : Pair S) (l m : ℕ) → l ≤ m → IsReached t x l → IsReached t x m
  reached_within t x l m less h = (h.0, h.1, h.2, h.3, omega (arith, h.4, less))

module _ {S : Type 0} (sum_of : List PageToken → S) (composed : S → S → S) (whole : S → Bool) (ps : List Production) (start : nt.Nt) (count : ℕ) (taken : Taken) where
  pub goes_none : (t : Table S) → IsTable sum_of composed whole ps start count t taken → GoesOn sum_of composed whole ps start count taken t t
  goes_none t table = record { table = table; sums = λ n x h. h; known_same = refl; reaches = λ x l h. h }

  pub goes_both : (old mid new : Table S) → GoesOn sum_of composed whole ps start count taken old mid → GoesOn sum_of composed whole ps start count taken mid new → GoesOn sum_of composed whole ps start count taken old new
  goes_both old mid new p q =
      record {
        table = q.table;
        sums = λ n x h. q.sums n x (p.sums n x h);
        known_same = q.known_same ∙ p.known_same;
        reaches = λ x l h. q.reaches x l (p.reaches x l h);
      }

  -- more sums and compositions change nothing else
  pub sums_more : (old : Table S) (sums : Sums S) → IsTable sum_of composed whole ps start count old taken → Keeps old.sums.numbered.keys sums.numbered.keys → AreJoins composed sums.numbered.keys sums.joins.keys sums.joined.items → GoesOn sum_of composed whole ps start count taken old (record old { sums = sums })
  sums_more old sums table keeps joined =
      record {
        table = record {
          numbered = numbered_longer old.sums.numbered.keys sums.numbered.keys old.found.keys (keeps_longer old.sums.numbered.keys sums.numbered.keys keeps) table.numbered;
          taken_numbered = numbered_longer old.sums.numbered.keys sums.numbered.keys taken.entries.items (keeps_longer old.sums.numbered.keys sums.numbered.keys keeps) table.taken_numbered;
          joined = joined;
          drafts = subst (λ (z : List (Pair S)). AreDrafts sum_of composed whole ps start z (known_of sums.numbered.keys taken.entries.items) old.drafts.items taken.nodes.nodes.items taken.length) (sym found_same)
              (subst (λ (z : List (Pair S)). AreDrafts sum_of composed whole ps start (found old) z old.drafts.items taken.nodes.nodes.items taken.length) (sym known_is) table.drafts);
          queued = table.queued;
          up = subst (λ (z : List (Pair S)). AreUpTo sum_of composed whole ps start count z taken) (sym known_is) table.up;
        };
        sums = keeps;
        known_same = known_is;
        reaches = λ x l h. subst (λ (z : List (Pair S)). HasDraft z old.drafts.items x l) (sym found_same) h;
      }
    where
      found_same : known_of sums.numbered.keys old.found.keys ≡ known_of old.sums.numbered.keys old.found.keys
      found_same = known_same old.sums.numbered.keys sums.numbered.keys old.found.keys table.numbered keeps

      known_is : known_of sums.numbered.keys taken.entries.items ≡ known_of old.sums.numbered.keys taken.entries.items
      known_is = known_same old.sums.numbered.keys sums.numbered.keys taken.entries.items table.taken_numbered keeps

  -- a draft is noted
  module _ (old : Table S) (table : IsTable sum_of composed whole ps start count old taken) (place : ℕ) (qs : Parts) (s : S) (number : ℕ) (makes : MakesAt sum_of composed whole ps start taken.nodes.nodes.items place qs s) (here : slice_get old.sums.numbered.keys number ≡ Some s) (late : taken.length ≤ parts_length taken.nodes.nodes.items qs) (differ : AreDifferent old.sums.numbered.keys) where
    abbrev pub entry_for : Production → Entry
    entry_for p = record { nonterminal = p.left.0; sum = number }

    abbrev draft_for : Draft
    draft_for = record { production = place; parts = qs; length = parts_length taken.nodes.nodes.items qs; is_taken = false }

    is_draft : IsDraft sum_of composed whole ps start taken.nodes.nodes.items (makes.production.left.0, s) draft_for
    is_draft = record { makes = makes; left = refl; length_is = refl }

    noted_at : (new : Table S) → new.sums ≡ old.sums → Notes (entry_for makes.production) draft_for old.found.keys new.found.keys old.drafts.items new.drafts.items old.queue new.queue → Adds sum_of composed whole ps start count taken old new place qs s
    noted_at new same notes = subst (λ (z : Table S). Adds sum_of composed whole ps start count taken old z place qs s) whole_table adds
      where
        are : AreNoted sum_of composed whole ps start (entry_for makes.production) draft_for old.sums.numbered.keys old.found.keys new.found.keys old.drafts.items new.drafts.items new.queue (known old taken) taken.nodes.nodes.items taken.length s
        are = noted sum_of composed whole ps start (entry_for makes.production) draft_for old.sums.numbered.keys old.found.keys old.drafts.items old.queue (known old taken) taken.nodes.nodes.items taken.length s table.numbered differ here is_draft refl late table.up.early table.drafts table.queued new.found.keys new.drafts.items new.queue notes

        made : Table S
        made = record new { sums = old.sums }

        whole_table : record new { sums = old.sums } ≡ new
        whole_table = ap (λ (z : Sums S). record new { sums = z }) (sym same)

        adds : Adds sum_of composed whole ps start count taken old (record new { sums = old.sums }) place qs s
        adds =
            record {
              goes = record {
                table = record {
                  numbered = are.numbered;
                  taken_numbered = table.taken_numbered;
                  joined = table.joined;
                  drafts = are.kept;
                  queued = are.queued;
                  up = table.up;
                };
                sums = λ n x h. h;
                known_same = refl;
                reaches = are.reaches;
              };
              has = λ p at.
                  let one : makes.production ≡ p = same_Some makes.production p (sym makes.at ∙ at) in
                  subst (λ (q : Production). HasDraft (known_of old.sums.numbered.keys new.found.keys) new.drafts.items (q.left.0, s) (parts_length taken.nodes.nodes.items qs)) one are.has;
            }

    -- as the code reads the production
    pub noted_read : (read : Production) (new : Table S) → read ≡ get_or ps place read → new.sums ≡ old.sums → Notes (record { nonterminal = read.left.0; sum = number }) (record { production = place; parts = qs; length = parts_length taken.nodes.nodes.items qs; is_taken = false }) old.found.keys new.found.keys old.drafts.items new.drafts.items old.queue new.queue → Adds sum_of composed whole ps start count taken old new place qs s
    noted_read read new is same notes =
        let one : read ≡ makes.production = is ∙ get_or_from_slice_get ps place makes.production read makes.at in
        noted_at new same (subst (λ (p : Production). Notes (entry_for p) draft_for old.found.keys new.found.keys old.drafts.items new.drafts.items old.queue new.queue) one notes)
