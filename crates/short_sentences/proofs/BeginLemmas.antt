-- The pairs that letters make.
use Rattle.std.proofs.Common.{◌≡◌, ℕ, ◌+◌, ◌<◌, ◌≤◌, ◌⊎◌, inl, inr, Bool, List, [], length, sym, ◌∙◌, ap, subst, arith, None, Some, slice_get, Result, Ok, Err, OnOk}
use Rattle.std.proofs.lemmas.Option.{same_Some}
use Rattle.std.proofs.lemmas.Bool.{cases_lt}
use Rattle.text_base.specs.declared.page_token.PageToken.{PageToken}
use Rattle.text_base.specs.declared.numbers.Nt as nt
use Rattle.cfg_grammar.specs.declared.symbol.Symbol.{Symbol}
use Rattle.cfg_grammar.specs.declared.symbol.Symbol.TheVariants.{Range, Token, Nt}
use Rattle.cfg_grammar.specs.declared.production.Right.{Right}
use Rattle.cfg_grammar.specs.declared.production.Right.TheVariants.{Empty, One, Two}
use Rattle.cfg_grammar.specs.declared.production.Production.{Production}
use Rattle.derivations.specs.declared.node.Parts.{Parts}
use Rattle.derivations.specs.declared.node.Parts.TheVariants as parts
use Rattle.derivations.specs.declared.node.Node.{Node}
use Rattle.derivations.specs.Nodes.{part_length, parts_length}
use Rattle.useful_nonterminals.specs.Useful.{IsUseful}
use Rattle.summary_decision.specs.declared.letters.Piece.{Piece}
use Rattle.summary_decision.specs.Closed.{Pair}
use Rattle.summary_decision.specs.Joints.{IsLetterOf}
use Rattle.summary_decision.specs.Beginning.{StandsAt}
use Rattle.summary_decision.proofs.ClosedLemmas.{placed}
use Rattle.short_sentences.specs.declared.table.Table.{Table}
use Rattle.short_sentences.specs.declared.taken.Taken.{Taken}
use Rattle.short_sentences.specs.Closed.{HasSum, IsClosed}
use Rattle.short_sentences.specs.Tables.{IsReached, IsTable, GoesOn, MakesAt, Adds}
use Rattle.short_sentences.specs.Beginning.{IsBegun, AreMadeOf, IsMadeOf, Begins}
use Rattle.short_sentences.proofs.MadeLemmas.{letter_supports}
use Rattle.short_sentences.proofs.JointLemmas.{letter_is}
use Rattle.short_sentences.proofs.TableLemmas.{reached_within, goes_none, goes_both}

module _ {S : Type 0} (sum_of : List PageToken → S) (composed : S → S → S) (whole : S → Bool) (ps : List Production) (start : nt.Nt) where
  no_letter : (b : Symbol) → IsLetterOf sum_of b None → (s : S) (l : ℕ) → HasSum sum_of composed [] [] 0 b s l → ⊥
  no_letter (Range range) is s l has = is
  no_letter (Token token) is s l has = is
  no_letter (Nt a) is s l has = absurd (omega (arith, has.1))

  -- no pair gives the sum of a letter
  without : (pairs : List (Pair S)) (nodes more : List Node) (others : List (Pair S)) (b : Symbol) (s : S) (l : ℕ) → HasSum sum_of composed pairs nodes 0 b s l → HasSum sum_of composed others more 0 b s l
  without pairs nodes more others (Range range) s l h = h
  without pairs nodes more others (Token token) s l h = h
  without pairs nodes more others (Nt a) s l h = absurd (omega (arith, h.1))

  letter_told : (nodes : List Node) (a : Symbol) (x : Piece S) (s : S) (l : ℕ) → IsLetterOf sum_of a (Some x) → HasSum sum_of composed [] [] 0 a s l → (x.sum ≡ s) × (part_length nodes x.part ≡ l)
  letter_told nodes a x s l is has = letter_is sum_of composed [] nodes 0 a x s l is (without [] [] nodes [] a s l has)

  begun_on : (old new : Table S) (left : ℕ) (r : Right) → ((x : Pair S) (l : ℕ) → IsReached old x l → IsReached new x l) → IsBegun sum_of composed (IsReached old) left r → IsBegun sum_of composed (IsReached new) left r
  begun_on old new left Empty on h = on (left, sum_of []) 0 h
  begun_on old new left (One a) on h = λ s l k. on (left, s) l (h s l k)
  begun_on old new left (Two a b) on h = λ s t l m j k. on (left, composed s t) (l + m) (h s t l m j k)

  -- what letters make
  pub made_empty : (s : S) → s ≡ sum_of [] → IsMadeOf sum_of composed whole ps start Empty (Some (parts.Empty, s))
  made_empty s e = record { makes = λ nodes. sym e; alone = λ t nodes left has. subst (λ (x : S). IsReached t (left, x) 0) e has }

  pub made_one : (a : Symbol) (x : Piece S) → IsLetterOf sum_of a (Some x) → IsMadeOf sum_of composed whole ps start (One a) (Some (parts.One x.part, x.sum))
  made_one a x is = record {
    makes = λ nodes. letter_supports sum_of composed whole ps start nodes a x is;
    alone = λ t nodes left has s l is_sum.
        let k = letter_told nodes a x s l is is_sum in
        subst (λ (m : ℕ). IsReached t (left, s) m) k.1 (subst (λ (z : S). IsReached t (left, z) (part_length nodes x.part)) k.0 has);
  }

  pub made_two : (a b : Symbol) (x y : Piece S) (s : S) → s ≡ composed x.sum y.sum → IsLetterOf sum_of a (Some x) → IsLetterOf sum_of b (Some y) → IsMadeOf sum_of composed whole ps start (Two a b) (Some (parts.Two x.part y.part, s))
  made_two a b x y s e is is' = record {
    makes = λ nodes. (x.sum, y.sum, letter_supports sum_of composed whole ps start nodes a x is, letter_supports sum_of composed whole ps start nodes b y is', sym e);
    alone = λ t nodes left has v w l m is_first is_second.
        let j = letter_told nodes a x v l is is_first in
        let k = letter_told nodes b y w m is' is_second in
        let same : s ≡ composed v w = e ∙ (ap (λ (z : S). composed z y.sum) j.0 ∙ ap (composed v) k.0) in
        let f = j.1 in
        let g = k.1 in
        reached_within t (left, composed v w) (parts_length nodes (parts.Two x.part y.part)) (l + m) (omega (arith, f, g))
        (subst (λ (z : S). IsReached t (left, z) (parts_length nodes (parts.Two x.part y.part))) same has);
  }

  pub none_of_one : (a : Symbol) → IsLetterOf sum_of a None → IsMadeOf sum_of composed whole ps start (One a) None
  none_of_one a is t left s l has = absurd (no_letter a is s l has)

  pub none_of_two : (a b : Symbol) → IsLetterOf sum_of a None ⊎ IsLetterOf sum_of b None → IsMadeOf sum_of composed whole ps start (Two a b) None
  none_of_two a b is t left s u l m has has' = elim is [
    | inl h ↦ absurd (no_letter a h s l has)
    | inr h ↦ absurd (no_letter b h u m has')
  ]

  -- what makes the pair
  pub made_at : (nodes : List Node) (place : ℕ) (r : Right) (made : Parts × S) → AreMadeOf sum_of composed whole ps start r made → StandsAt ps start place r → MakesAt sum_of composed whole ps start nodes place made.0 made.1
  made_at nodes place r made are stands =
      record { production = record { left = stands.left; right = r }; at = stands.at; useful = stands.useful; makes = are.makes nodes }

  module _ (count : ℕ) (taken : Taken) where
    begins_with : (old new : Table S) (place : ℕ) (r : Right) → StandsAt ps start place r → GoesOn sum_of composed whole ps start count taken old new → ((left : ℕ) → ((p : Production) → slice_get ps place ≡ Some p → p.left.0 ≡ left) → IsBegun sum_of composed (IsReached new) left r) → Begins sum_of composed whole ps start count taken old new (λ (k : ℕ). k ≡ place)
    begins_with old new place r stands goes f =
        record {
          goes = goes;
          begun = λ k p same at useful.
              let one : ◌≡◌ {A = Production} (record { left = stands.left; right = r }) p = same_Some _ p (sym stands.at ∙ (ap (slice_get ps) (sym same) ∙ at)) in
              subst (λ (q : Production). IsBegun sum_of composed (IsReached new) q.left.0 q.right) one
              (f stands.left.0 (λ q e. ap (λ (z : Production). z.left.0) (same_Some q _ (sym e ∙ stands.at))));
        }

    pub begins_made : {E : Type 0} (result : Result (Unit {0}) E) (old new : Table S) (place : ℕ) (r : Right) (made : Parts × S) → AreMadeOf sum_of composed whole ps start r made → StandsAt ps start place r → OnOk result (Adds sum_of composed whole ps start count taken old new place made.0 made.1) → OnOk result (Begins sum_of composed whole ps start count taken old new (λ (k : ℕ). k ≡ place))
    begins_made (Err e) old new place r made are stands adds = tt
    begins_made (Ok e) old new place r made are stands adds =
        begins_with old new place r stands adds.goes (λ left f. subst (λ (n : ℕ). IsBegun sum_of composed (IsReached new) n r) (f _ stands.at) (are.alone new taken.nodes.nodes.items stands.left.0 (adds.has _ stands.at)))

    pub begins_unmade : (t : Table S) (place : ℕ) (r : Right) → IsTable sum_of composed whole ps start count t taken → IsMadeOf sum_of composed whole ps start r None → StandsAt ps start place r → Begins sum_of composed whole ps start count taken t t (λ (k : ℕ). k ≡ place)
    begins_unmade t place r table is stands = begins_with t t place r stands (goes_none sum_of composed whole ps start count taken t table) (λ left f. is t left)

    pub begins_useless : (t : Table S) (place : ℕ) (p : Production) → IsTable sum_of composed whole ps start count t taken → slice_get ps place ≡ Some p → (IsUseful ps start p.left → ⊥) → Begins sum_of composed whole ps start count taken t t (λ (k : ℕ). k ≡ place)
    begins_useless t place p table at useless =
        record {
          goes = goes_none sum_of composed whole ps start count taken t table;
          begun = λ k r same at' useful.
              let one : r ≡ p = same_Some r p (sym at' ∙ (ap (slice_get ps) same ∙ at)) in
              absurd (useless (subst (λ (z : Production). IsUseful ps start z.left) one useful));
        }

    -- productions one by one
    pub begins_none : (t : Table S) → IsTable sum_of composed whole ps start count t taken → Begins sum_of composed whole ps start count taken t t (λ (k : ℕ). k < 0)
    begins_none t table = record { goes = goes_none sum_of composed whole ps start count taken t table; begun = λ k p asked at useful. absurd (omega (arith, asked)) }

    pub begins_more : (old mid new : Table S) (n : ℕ) → Begins sum_of composed whole ps start count taken old mid (λ (k : ℕ). k < n) → Begins sum_of composed whole ps start count taken mid new (λ (k : ℕ). k ≡ n) → Begins sum_of composed whole ps start count taken old new (λ (k : ℕ). k < n + 1)
    begins_more old mid new n p q =
        record {
          goes = goes_both sum_of composed whole ps start count taken old mid new p.goes q.goes;
          begun = λ k r asked at useful. elim (cases_lt k n) [
            | inl below ↦ begun_on mid new r.left.0 r.right q.goes.reaches (p.begun k r below at useful)
            | inr above ↦ q.begun k r (omega (arith, asked, above)) at useful
          ];
        }

    pub begins_along : (old new : Table S) (n m : ℕ) → m ≤ n → Begins sum_of composed whole ps start count taken old new (λ (k : ℕ). k < n) → Begins sum_of composed whole ps start count taken old new (λ (k : ℕ). k < m)
    begins_along old new n m h b = record { goes = b.goes; begun = λ k p asked at useful. b.begun k p (omega (arith, asked, h)) at useful }

    -- what is closed over no pair
    pub begun_closed : (old new : Table S) (pairs : List (Pair S)) (nodes : List Node) → Begins sum_of composed whole ps start count taken old new (λ (k : ℕ). k < length ps) → IsClosed sum_of composed (IsReached new) ps start pairs nodes 0
    begun_closed old new pairs nodes b =
        record {
          empties = λ left c useful. let p = placed ps _ c in b.begun p.0 (record { left = left; right = Empty }) p.1 p.2 useful;
          ones = λ left a s l c useful has. let p = placed ps _ c in b.begun p.0 (record { left = left; right = One a }) p.1 p.2 useful s l (without pairs nodes [] [] a s l has);
          twos = λ left a c' s t l m c useful has has'.
              let p = placed ps _ c in
              b.begun p.0 (record { left = left; right = Two a c' }) p.1 p.2 useful s t l m (without pairs nodes [] [] a s l has) (without pairs nodes [] [] c' t m has');
        }
