-- A draft of no sets.
use Rattle.std.proofs.Common.{◌≡◌, inl, inr, ℕ, zero, suc, ◌+◌, ◌<◌, ◌&&◌, nat_lt, Bool, true, List, [], ◌∷◌, ◌++◌, Some, length, refl, sym, ◌∙◌, ap, subst, arith, length-append}
use Rattle.std.specs.Prelude.{Contains, slice_get}
use Rattle.std.specs.List.{list_all}
use Rattle.std.proofs.lemmas.Bool.{ltb-true, and_parts}
use Rattle.std.proofs.lemmas.Option.{same_Some, slice_get_within}
use Rattle.std.proofs.lemmas.List.Elements.{All-contains}
use Rattle.std.proofs.lemmas.List.Sums.{AllPass-from_list_all}
use Rattle.string_functions.proofs.Members.{Contains-nil}
use Rattle.numbered_sets.proofs.NumberLemmas.{at_front}
use Rattle.text_base.specs.declared.byte_range.ByteRange.{ByteRange}
use Rattle.text_base.specs.declared.numbers.Nt as nt
use Rattle.cfg_grammar.specs.declared.symbol.Symbol.{Symbol}
use Rattle.cfg_grammar.specs.declared.symbol.Symbol.TheVariants.{Range, Token, Nt}
use Rattle.cfg_grammar.specs.declared.production.Right.{Right}
use Rattle.cfg_grammar.specs.declared.production.Right.TheVariants.{Empty, One, Two}
use Rattle.cfg_grammar.specs.declared.production.Production.{Production}
use Rattle.cfg_grammar.specs.Below.{AreBelow, symbol_below, symbols_of, production_below}
use Rattle.cfg_grammar.specs.Tokens.{HaveNoToken, is_no_token, production_without_token}
use Rattle.op_system.specs.declared.op.Op.{Op}
use Rattle.least_sets.specs.Forms.{Form, text_form, same_form, join_form, apply_form}
use Rattle.given_texts.specs.Closed.{Closed}
use Rattle.system_writing.specs.declared.drafts.Draft.{Draft}
use Rattle.system_writing.specs.Parts.{Part, start_part, set_part, end_part, range_part, closed_part, symbol_part, is_set, PartRow}
use Rattle.system_writing.specs.Written.{Denotes, IsRight, IsWritten}
use Rattle.system_writing.specs.Steps.{IsBegun}
use Rattle.system_writing.specs.Drafts.{IsAt, settled, AreSaid, AreWaiting, IsDraft}
use Rattle.system_writing.proofs.Growing.{push_cases, at_end}
use Rattle.system_writing.proofs.EndLaws.{moved}

module _ (N : Type 0) (closed : Closed) (count : ℕ) (below : AreBelow count closed.productions) (plain : HaveNoToken closed.productions) where
  -- the closed parts by their numbers
  parts_from : ℕ → ℕ → List (Part N)
  parts_from from zero = []
  parts_from from (suc n) = closed_part from ∷ parts_from (suc from) n

  long : (from n : ℕ) → length (parts_from from n) ≡ n
  unfolding parts_from
  long from zero = refl
  long from (suc n) = ap suc (long (suc from) n)

  read : (from n k : ℕ) → k < n → slice_get (parts_from from n) k ≡ Some (closed_part (from + k))
  unfolding parts_from
  read from zero k h = absurd (omega (arith, h))
  read from (suc n) zero h = ap (λ z. Some (closed_part z)) (omega arith)
  read from (suc n) (suc k) h = read (suc from) n k (omega (arith, h)) ∙ ap (λ z. Some (closed_part z)) (omega arith)

  abbrev closed_parts : List (Part N)
  closed_parts = parts_from 0 count

  abbrev parts : List (Part N)
  parts = closed_parts ++ start_part ∷ []

  first : (k : ℕ) → k < count → slice_get parts k ≡ Some (closed_part k)
  first k h = at_front closed_parts start_part k (closed_part k) (read 0 count k h ∙ ap (λ z. Some (closed_part z)) (omega arith))

  last : slice_get parts count ≡ Some start_part
  last = subst (λ z. slice_get parts z ≡ Some start_part) (long 0 count) (at_end closed_parts start_part)

  -- what stands at a number
  data Stands : ℕ → Part N → Type 0 where
    closed_one : (k : ℕ) → k < count → Stands k (closed_part k)
    the_start : Stands count start_part

  stands : (k : ℕ) (p : Part N) → slice_get parts k ≡ Some p → Stands k p
  stands k p h =
      elim (push_cases closed_parts start_part k p h) [
        | inl there ↦
            let less : k < count = subst (λ z. k < z) (long 0 count) (slice_get_within closed_parts k p there) in
            subst (λ z. Stands k z) (same_Some (closed_part k) p (sym (first k less) ∙ h)) (Stands.closed_one k less)
        | inr here ↦ subst (λ z. Stands k z) here.1 (subst (λ z. Stands z start_part) (sym (here.0 ∙ long 0 count)) Stands.the_start)
      ]

  abbrev P : Part N → Form (Part N) → Type 0
  P = PartRow (settled []) (Contains []) (λ n. ⊥) closed

  abbrev ps : List Production
  ps = closed.productions

  production_is_below : (p : Production) → Contains ps p → production_below count p ≡ true
  production_is_below p h = All-contains (λ z. production_below count z ≡ true) ps p (AllPass-from_list_all (production_below count) ps below) h

  production_is_plain : (p : Production) → Contains ps p → production_without_token p ≡ true
  production_is_plain p h = All-contains (λ z. production_without_token z ≡ true) ps p (AllPass-from_list_all production_without_token ps plain) h

  denotes : (s : Symbol) → symbol_below count s ≡ true → is_no_token s ≡ true → Denotes parts (symbol_part s) s
  unfolding symbol_part
  denotes (Range r) b t = Denotes.range r
  denotes (Token k) b t = cc
  denotes (Nt a) b t = Denotes.listed (closed_part a.0) a (first a.0 (ltb-true a.0 count b))

  first_of : (f : Symbol → Bool) (a : Symbol) → list_all f (a ∷ []) ≡ true → f a ≡ true
  first_of f a h = (and_parts (f a) true h).0

  left_at : (l : nt.Nt) (r : Right) → Contains ps (record { left = l; right = r }) → slice_get parts l.0 ≡ Some (closed_part l.0)
  left_at l r h = first l.0 (ltb-true l.0 count (and_parts (nat_lt l.0 count) (list_all (symbol_below count) (symbols_of r)) (production_is_below (record { left = l; right = r }) h)).0)

  symbols_below : (l : nt.Nt) (r : Right) → Contains ps (record { left = l; right = r }) → list_all (symbol_below count) (symbols_of r) ≡ true
  symbols_below l r h = (and_parts (nat_lt l.0 count) (list_all (symbol_below count) (symbols_of r)) (production_is_below (record { left = l; right = r }) h)).1

  one_denotes : (l : nt.Nt) (a : Symbol) → Contains ps (record { left = l; right = One a }) → Denotes parts (symbol_part a) a
  one_denotes l a h = denotes a (first_of (symbol_below count) a (symbols_below l (One a) h)) (first_of is_no_token a (production_is_plain (record { left = l; right = One a }) h))

  first_denotes : (l : nt.Nt) (a c : Symbol) → Contains ps (record { left = l; right = Two a c }) → Denotes parts (symbol_part a) a
  first_denotes l a c h =
      denotes a (and_parts (symbol_below count a) (symbol_below count c && true) (symbols_below l (Two a c) h)).0 (and_parts (is_no_token a) (is_no_token c && true) (production_is_plain (record { left = l; right = Two a c }) h)).0

  second_denotes : (l : nt.Nt) (a c : Symbol) → Contains ps (record { left = l; right = Two a c }) → Denotes parts (symbol_part c) c
  second_denotes l a c h =
      denotes c (first_of (symbol_below count) c (and_parts (symbol_below count a) (symbol_below count c && true) (symbols_below l (Two a c) h)).1)
      (first_of is_no_token c (and_parts (is_no_token a) (is_no_token c && true) (production_is_plain (record { left = l; right = Two a c }) h)).1)

  abbrev StandsFor : nt.Nt → Right → Type 0
  StandsFor left right = (p : Part N) × (f : Form (Part N)) × (slice_get parts left.0 ≡ Some p) × P p f × IsRight parts f right

  each : (l : nt.Nt) (r : Right) → Contains ps (record { left = l; right = r }) → StandsFor l r
  each l Empty h = (closed_part l.0, text_form [], left_at l Empty h, PartRow.closed_empty l h, IsRight.empty)
  each l (One a) h = (closed_part l.0, same_form (symbol_part a), left_at l (One a) h, PartRow.closed_one l a h, IsRight.one (symbol_part a) a (one_denotes l a h))
  each l (Two a c) h =
      (closed_part l.0, join_form (symbol_part a) (symbol_part c), left_at l (Two a c) h, PartRow.closed_two l a c h, IsRight.two (symbol_part a) (symbol_part c) a c (first_denotes l a c h) (second_denotes l a c h))

  -- rows of what stands at a number
  number_is : (n l : nt.Nt) → slice_get parts n.0 ≡ Some (closed_part l.0) → l ≡ n
  number_is n l h = ap (λ z. record { 0 = z }) (by n.0 (closed_part l.0) (stands n.0 (closed_part l.0) h) l.0 refl)
    where
      by : (k : ℕ) (p : Part N) → Stands k p → (j : ℕ) → p ≡ closed_part j → j ≡ k
      by _ _ (Stands.closed_one k less) j e = cc
      by _ _ Stands.the_start j e = cc

  has_line : (n l : nt.Nt) (r : Right) → slice_get parts n.0 ≡ Some (closed_part l.0) → Contains ps (record { left = l; right = r }) → Contains ps (record { left = n; right = r })
  has_line n l r h c = subst (λ z. Contains ps (record { left = z; right = r })) (number_is n l h) c

  no_end : (n : ℕ) (w : List ℕ) → slice_get parts n ≡ Some (end_part w) → ⊥
  no_end n w h = by n (end_part w) (stands n (end_part w) h) refl
    where
      by : (k : ℕ) (p : Part N) → Stands k p → p ≡ end_part w → ⊥
      by _ _ (Stands.closed_one k less) e = cc
      by _ _ Stands.the_start e = cc

  no_range : (r : ByteRange) (n : ℕ) → slice_get parts n ≡ Some (range_part r) → ⊥
  no_range r n h = by n (range_part r) (stands n (range_part r) h) refl
    where
      by : (k : ℕ) (p : Part N) → Stands k p → p ≡ range_part r → ⊥
      by _ _ (Stands.closed_one k less) e = cc
      by _ _ Stands.the_start e = cc

  no_set : (m : N) (n : ℕ) → slice_get parts n ≡ Some (set_part m) → ⊥
  no_set m n h = by n (set_part m) (stands n (set_part m) h) refl
    where
      by : (k : ℕ) (p : Part N) → Stands k p → p ≡ set_part m → ⊥
      by _ _ (Stands.closed_one k less) e = cc
      by _ _ Stands.the_start e = cc

  no_name : (n : N) → Contains [] n → ⊥
  no_name n c = Contains-nil n c

  no_row : (n : N) (f : Form N) → settled [] n f → ⊥
  no_row n f c = Contains-nil (n, f) c.0

  all_e : (p : Part N) (n : nt.Nt) → slice_get parts n.0 ≡ Some p → P p (text_form []) → Contains ps (record { left = n; right = Empty })
  all_e _ n h (PartRow.nothing k c) = absurd (no_row k _ c)
  all_e _ n h (PartRow.where_nothing k j c s) = absurd s
  all_e _ n h (PartRow.closed_empty left has) = has_line n left Empty h has

  all_s : (p q : Part N) (n : nt.Nt) → slice_get parts n.0 ≡ Some p → P p (same_form q) → (s : Symbol) × Denotes parts q s × Contains ps (record { left = n; right = One s })
  all_s _ _ n h (PartRow.start k c) = absurd (no_name k c)
  all_s _ _ n h (PartRow.text k b w c) = absurd (no_row k _ c)
  all_s _ _ n h (PartRow.same k j c) = absurd (no_row k _ c)
  all_s _ _ n h (PartRow.before_nothing k j c) = absurd (no_row k _ c)
  all_s _ _ n h (PartRow.asked k c) = absurd (no_row k _ c)
  all_s _ _ n h (PartRow.integer k c) = absurd (no_row k _ c)
  all_s _ _ n h (PartRow.where_yes k b j w c s) = absurd s
  all_s _ _ n h (PartRow.closed_one left a has) = (a, one_denotes left a has, has_line n left (One a) h has)

  all_j : (p q o : Part N) (n : nt.Nt) → slice_get parts n.0 ≡ Some p → P p (join_form q o) → (s : Symbol) × (t : Symbol) × Denotes parts q s × Denotes parts o t × Contains ps (record { left = n; right = Two s t })
  all_j _ _ _ n h (PartRow.join k i j c) = absurd (no_row k _ c)
  all_j _ _ _ n h (PartRow.before k b j w c) = absurd (no_row k _ c)
  all_j _ _ _ n h (PartRow.first b c w) = absurd (no_end n.0 (b ∷ c ∷ w) h)
  all_j _ _ _ n h (PartRow.closed_two left a c has) = (a, c, first_denotes left a c has, second_denotes left a c has, has_line n left (Two a c) h has)

  no_apply : (p q : Part N) (op : Op) → P p (apply_form op q) → ⊥
  no_apply _ _ op (PartRow.apply k j _ c) = no_row k _ c

  once : (p : Part N) (n m : ℕ) → is_set p ≡ true → slice_get parts n ≡ Some p → slice_get parts m ≡ Some p → n ≡ m
  unfolding is_set
  once p n m set h g = by n p (stands n p h) m set (stands m p g)
    where
      by : (k : ℕ) (p : Part N) → Stands k p → (l : ℕ) → is_set p ≡ true → Stands l p → k ≡ l
      by _ _ (Stands.closed_one k less) l set other = cc
      by _ _ Stands.the_start _ set Stands.the_start = refl

  written : IsWritten P parts ps []
  written = record {
    once = once;
    each_production = each;
    each_rule = λ left operand op h. Contains-nil _ h;
    all_empty = all_e;
    all_same = all_s;
    all_join = all_j;
    all_apply = λ p q op n h row. absurd (no_apply p q op row);
    no_byte = λ b n h. no_end n (b ∷ []) h;
    no_range = no_range;
  }

  none_said : AreSaid {N = N} [] [] [] []
  none_said = record {
    each_yes = λ a h. Contains-nil _ h;
    each_same = λ a s h. Contains-nil _ h;
    no_two = λ a s t h. Contains-nil _ h;
    all_yes = λ n a at h. Contains-nil _ h;
    all_same = λ n c a m at other h. Contains-nil _ h;
  }

  none_waiting : AreWaiting {N = N} [] [] [] []
  none_waiting = record { each = λ x h. Contains-nil _ h; all = λ n c w h. Contains-nil _ h }

  pub begun : (d : Draft) → IsBegun closed count d → closed.request < count → closed.integer < count → IsDraft {N = N} [] [] [] [] closed d
  begun d is asked integer = record {
    parts = parts;
    all = length-append closed_parts (start_part ∷ []) ∙ ap (λ z. z + 1) (long 0 count) ∙ sym is.count_is;
    written = moved N P parts d.lines ps [] is.productions is.rules written;
    request = subst (λ z. slice_get parts z ≡ Some (closed_part closed.request)) (sym is.request) (first closed.request asked);
    integer = subst (λ z. slice_get parts z ≡ Some (closed_part closed.integer)) (sym is.integer) (first closed.integer integer);
    start = subst (λ z. slice_get parts z ≡ Some start_part) (sym is.start) last;
    long = refl;
    named = λ n k h. absurd (no_number n k h);
    sets = λ n k h. absurd (no_set n k h);
    rows_named = λ n f h. Contains-nil _ h;
    forms_named = λ n c f h i. Contains-nil _ h;
    said = subst (λ z. AreSaid {N = N} [] [] [] z) (sym is.said) none_said;
    waiting = subst (λ z. AreWaiting {N = N} [] [] [] z) (sym is.waiting) none_waiting;
  }
    where
      no_number : (n : N) (k : ℕ) → IsAt {N = N} [] [] n k → ⊥
      no_number n k h = let at = h.name in cc
