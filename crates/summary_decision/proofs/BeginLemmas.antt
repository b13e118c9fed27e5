-- The pairs that letters make.
use Rattle.std.proofs.Common.{◌≡◌, ℕ, ◌+◌, ◌<◌, ◌≤◌, ◌⊎◌, inl, inr, Bool, List, [], length, Contains, sym, ◌∙◌, ap, subst, arith, None, Some, slice_get, Result, Ok, Err, OnOk}
use Rattle.std.proofs.lemmas.Option.{same_Some}
use Rattle.std.proofs.lemmas.Bool.{cases_lt}
use Rattle.text_base.specs.declared.page_token.PageToken.{PageToken}
use Rattle.text_base.specs.declared.numbers.Nt as nt
use Rattle.cfg_grammar.specs.declared.symbol.Symbol.{Symbol}
use Rattle.cfg_grammar.specs.declared.symbol.Symbol.TheVariants.{Range, Token, Nt}
use Rattle.cfg_grammar.specs.declared.production.Right.{Right}
use Rattle.cfg_grammar.specs.declared.production.Right.TheVariants.{Empty, One, Two}
use Rattle.cfg_grammar.specs.declared.production.Production.{Production}
use Rattle.derivations.specs.declared.node.Parts.{Parts}
use Rattle.derivations.specs.declared.node.Parts.TheVariants as parts
use Rattle.numbered_sets.specs.Numbers.{Keeps}
use Rattle.useful_nonterminals.specs.Useful.{IsUseful}
use Rattle.summary_decision.specs.declared.letters.Piece.{Piece}
use Rattle.summary_decision.specs.declared.table.Table.{Table}
use Rattle.summary_decision.specs.Closed.{Pair, HasSum, IsClosed}
use Rattle.summary_decision.specs.Tables.{known, IsTable, GoesOn, MakesAt, Adds}
use Rattle.summary_decision.specs.Joints.{IsLetterOf}
use Rattle.summary_decision.proofs.ClosedLemmas.{placed}
use Rattle.summary_decision.proofs.KnownLemmas.{keeps_member}
use Rattle.summary_decision.proofs.JointLemmas.{letter_supports, letter_is, goes_none, goes_both}
use Rattle.summary_decision.specs.Beginning.{IsBegun, AreMadeOf, IsMadeOf, StandsAt, Begins}

module _ {S : Type 0} (sum_of : List PageToken → S) (composed : S → S → S) (whole : S → Bool) (ps : List Production) (start : nt.Nt) where
  pub no_letter : (b : Symbol) → IsLetterOf sum_of b None → (s : S) → HasSum sum_of composed [] 0 b s → ⊥
  no_letter (Range range) is s has = is
  no_letter (Token token) is s has = is
  no_letter (Nt a) is s has = absurd (omega (arith, has.1))

  begun_on : (pairs more : List (Pair S)) (left : ℕ) (r : Right) → Keeps pairs more → IsBegun sum_of composed pairs left r → IsBegun sum_of composed more left r
  begun_on pairs more left Empty keeps h = keeps_member pairs more (left, sum_of []) keeps h
  begun_on pairs more left (One a) keeps h = λ s k. keeps_member pairs more (left, s) keeps (h s k)
  begun_on pairs more left (Two a b) keeps h = λ s t k l. keeps_member pairs more (left, composed s t) keeps (h s t k l)

  -- what letters make
  pub made_empty : (s : S) → s ≡ sum_of [] → IsMadeOf sum_of composed whole ps start Empty (Some (parts.Empty, s))
  made_empty s e = record { makes = λ nodes height. sym e; alone = λ pairs left has. subst (λ (x : S). Contains pairs (left, x)) e has }

  pub made_one : (a : Symbol) (x : Piece S) → IsLetterOf sum_of a (Some x) → IsMadeOf sum_of composed whole ps start (One a) (Some (parts.One x.part, x.sum))
  made_one a x is = record {
    makes = λ nodes height. letter_supports sum_of composed whole ps start nodes height a x is;
    alone = λ pairs left has s is_sum. subst (λ (z : S). Contains pairs (left, z)) (letter_is sum_of composed whole ps start [] 0 a x s is is_sum) has;
  }

  pub made_two : (a b : Symbol) (x y : Piece S) (s : S) → s ≡ composed x.sum y.sum → IsLetterOf sum_of a (Some x) → IsLetterOf sum_of b (Some y) → IsMadeOf sum_of composed whole ps start (Two a b) (Some (parts.Two x.part y.part, s))
  made_two a b x y s e is is' = record {
    makes = λ nodes height. (x.sum, y.sum, letter_supports sum_of composed whole ps start nodes height a x is, letter_supports sum_of composed whole ps start nodes height b y is', sym e);
    alone = λ pairs left has t u is_first is_second.
        let same : s ≡ composed t u = e ∙ (ap (λ (z : S). composed z y.sum) (letter_is sum_of composed whole ps start [] 0 a x t is is_first) ∙ ap (composed t) (letter_is sum_of composed whole ps start [] 0 b y u is' is_second)) in
        subst (λ (z : S). Contains pairs (left, z)) same has;
  }

  pub none_of_one : (a : Symbol) → IsLetterOf sum_of a None → IsMadeOf sum_of composed whole ps start (One a) None
  none_of_one a is pairs left s has = absurd (no_letter a is s has)

  pub none_of_two : (a b : Symbol) → IsLetterOf sum_of a None ⊎ IsLetterOf sum_of b None → IsMadeOf sum_of composed whole ps start (Two a b) None
  none_of_two a b is pairs left s t has has' = elim is [
    | inl h ↦ absurd (no_letter a h s has)
    | inr h ↦ absurd (no_letter b h t has')
  ]

  -- what makes the pair
  pub made_at : (t : Table S) (place : ℕ) (r : Right) (made : Parts × S) → AreMadeOf sum_of composed whole ps start r made → StandsAt ps start place r → MakesAt sum_of composed whole ps start t place made.0 made.1
  made_at t place r made are stands =
      record { production = record { left = stands.left; right = r }; at = stands.at; useful = stands.useful; makes = are.makes t.nodes.nodes.items t.height }

  module _ (count : ℕ) where
    begins_with : (old new : Table S) (place : ℕ) (r : Right) → StandsAt ps start place r → GoesOn sum_of composed whole ps start count old new → ((left : ℕ) → ((p : Production) → slice_get ps place ≡ Some p → p.left.0 ≡ left) → IsBegun sum_of composed (known new) left r) → Begins sum_of composed whole ps start count old new (λ (k : ℕ). k ≡ place)
    begins_with old new place r stands goes f =
        record {
          goes = goes;
          begun = λ k p same at useful.
              let one : ◌≡◌ {A = Production} (record { left = stands.left; right = r }) p = same_Some _ p (sym stands.at ∙ (ap (slice_get ps) (sym same) ∙ at)) in
              subst (λ (q : Production). IsBegun sum_of composed (known new) q.left.0 q.right) one
              (f stands.left.0 (λ q e. ap (λ (z : Production). z.left.0) (same_Some q _ (sym e ∙ stands.at))));
        }

    pub begins_made : {E : Type 0} (result : Result (Unit {0}) E) (old new : Table S) (place : ℕ) (r : Right) (made : Parts × S) → AreMadeOf sum_of composed whole ps start r made → StandsAt ps start place r → OnOk result (Adds sum_of composed whole ps start count old new place made.1) → OnOk result (Begins sum_of composed whole ps start count old new (λ (k : ℕ). k ≡ place))
    begins_made (Err e) old new place r made are stands adds = tt
    begins_made (Ok e) old new place r made are stands adds =
        begins_with old new place r stands adds.goes (λ left f. subst (λ (n : ℕ). IsBegun sum_of composed (known new) n r) (f _ stands.at) (are.alone (known new) stands.left.0 (adds.has _ stands.at)))

    pub begins_unmade : (t : Table S) (place : ℕ) (r : Right) → IsTable sum_of composed whole ps start count t → IsMadeOf sum_of composed whole ps start r None → StandsAt ps start place r → Begins sum_of composed whole ps start count t t (λ (k : ℕ). k ≡ place)
    begins_unmade t place r table is stands = begins_with t t place r stands (goes_none sum_of composed whole ps start count t table) (λ left f. is (known t) left)

    pub begins_useless : (t : Table S) (place : ℕ) (p : Production) → IsTable sum_of composed whole ps start count t → slice_get ps place ≡ Some p → (IsUseful ps start p.left → ⊥) → Begins sum_of composed whole ps start count t t (λ (k : ℕ). k ≡ place)
    begins_useless t place p table at useless =
        record {
          goes = goes_none sum_of composed whole ps start count t table;
          begun = λ k r same at' useful.
              let one : r ≡ p = same_Some r p (sym at' ∙ (ap (slice_get ps) same ∙ at)) in
              absurd (useless (subst (λ (z : Production). IsUseful ps start z.left) one useful));
        }

    -- productions one by one
    pub begins_none : (t : Table S) → IsTable sum_of composed whole ps start count t → Begins sum_of composed whole ps start count t t (λ (k : ℕ). k < 0)
    begins_none t table = record { goes = goes_none sum_of composed whole ps start count t table; begun = λ k p asked at useful. absurd (omega (arith, asked)) }

    pub begins_more : (old mid new : Table S) (n : ℕ) → Begins sum_of composed whole ps start count old mid (λ (k : ℕ). k < n) → Begins sum_of composed whole ps start count mid new (λ (k : ℕ). k ≡ n) → Begins sum_of composed whole ps start count old new (λ (k : ℕ). k < n + 1)
    begins_more old mid new n p q =
        record {
          goes = goes_both sum_of composed whole ps start count old mid new p.goes q.goes;
          begun = λ k r asked at useful. elim (cases_lt k n) [
            | inl below ↦ begun_on (known mid) (known new) r.left.0 r.right q.goes.keeps (p.begun k r below at useful)
            | inr above ↦ q.begun k r (omega (arith, asked, above)) at useful
          ];
        }

    pub begins_along : (old new : Table S) (n m : ℕ) → m ≤ n → Begins sum_of composed whole ps start count old new (λ (k : ℕ). k < n) → Begins sum_of composed whole ps start count old new (λ (k : ℕ). k < m)
    begins_along old new n m h b = record { goes = b.goes; begun = λ k p asked at useful. b.begun k p (omega (arith, asked, h)) at useful }

    -- what is closed over no pair
    pub begun_closed : (old new : Table S) → Begins sum_of composed whole ps start count old new (λ (k : ℕ). k < length ps) → IsClosed sum_of composed ps start (known new) 0
    begun_closed old new b =
        record {
          empties = λ left c useful. let p = placed ps _ c in b.begun p.0 (record { left = left; right = Empty }) p.1 p.2 useful;
          ones = λ left a s c useful has. let p = placed ps _ c in b.begun p.0 (record { left = left; right = One a }) p.1 p.2 useful s (without (known new) a s has);
          twos = λ left a c' s t c useful has has'. let p = placed ps _ c in b.begun p.0 (record { left = left; right = Two a c' }) p.1 p.2 useful s t (without (known new) a s has) (without (known new) c' t has');
        }
      where
        without : (pairs : List (Pair S)) (a : Symbol) (s : S) → HasSum sum_of composed pairs 0 a s → HasSum sum_of composed [] 0 a s
        without pairs (Range range) s h = h
        without pairs (Token token) s h = h
        without pairs (Nt a) s h = absurd (omega (arith, h.1))
