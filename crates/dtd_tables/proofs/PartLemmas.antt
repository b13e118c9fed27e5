-- What declarations say, one after another, and where one goes wrong.
use Rattle.std.proofs.Common.{◌≡◌, ◌≢◌, ◌∙◌, ℕ, ◌+◌, ◌<◌, ◌≤◌, inl, inr, true, List, [], ◌∷◌, ◌++◌, length, take, drop, get_or, map, Contains, refl, sym, ap, subst, arith}
use Rattle.std.proofs.lemmas.List.Elements.{Contains-push_cases}
use Rattle.dtd_model.specs.Lawful.{is_distinct, element_limit}
use Rattle.dtd_model.specs.Table.{Rule, rule_of}
use Rattle.dtd_texts.specs.Reading.{Written}
use Rattle.dtd_texts.specs.Went.{Went, leads, refused, left_out, too_deep, undeclared}
use Rattle.dtd_texts.specs.Tables.{Said, element, attributes, said, element_names, rules_of, attributes_for, with_others}
use Rattle.dtd_declarations.specs.Views.{WentWrong}
use Rattle.dtd_declarations.specs.declared.fault.Fault.{Fault}
use Rattle.dtd_declarations.specs.declared.fault.Fault.TheVariants as fault
use Rattle.dtd_tables.specs.declared.parts.Parts.{Parts}
use Rattle.dtd_tables.specs.declared.refusal.TableRefusal.{TableRefusal}
use Rattle.dtd_tables.specs.Causes.{IsTableCause, GoesWrong, StandsTwice, FirstRefused, NoneRefused}
use Rattle.dtd_tables.specs.Updates.{lists_in}
use Rattle.dtd_tables.specs.Views.{list_said, AddsSaid, AreParts, FaultCause}
use Rattle.dtd_entities.specs.Positions.{written_of}
use Rattle.dtd_entities.specs.declared.state.Written.{Written as CodeWritten}
use Rattle.dtd_tables.proofs.Lists.{map_more, take_item, take_all, split_item, map_contains}

rules_more : (xs says more : List Said) → rules_of xs (says ++ more) ≡ rules_of xs says ++ rules_of xs more
rules_more xs [] more = refl
rules_more xs (element n h ∷ says) more = ap (λ (rs : List Rule). record { name = n; holding = h; attributes = with_others [] (attributes_for n xs) } ∷ rs) (rules_more xs says more)
rules_more xs (attributes n ds ∷ says) more = rules_more xs says more

lists_more : (says more : List Said) → lists_in (says ++ more) ≡ lists_in says ++ lists_in more
lists_more [] more = refl
lists_more (element n h ∷ says) more = lists_more says more
lists_more (attributes n ds ∷ says) more = ap (λ (rs : List Said). attributes n ds ∷ rs) (lists_more says more)

pub parts_go_on : (names : List (List ℕ)) (ws : List Written) (w : Written) (old new : Parts) (s : Said) → AreParts names ws old → said names w.text ≡ leads s → AddsSaid old new s → AreParts names (ws ++ w ∷ []) new
parts_go_on names ws w old new s are e adds = record {
  says = are.says ++ s ∷ [];
  each = map_more (λ (w : Written). said names w.text) ws (w ∷ []) ∙ ap (λ (xs : List (Went Said)). xs ++ said names w.text ∷ []) are.each ∙ ap (λ (x : Went Said). map leads are.says ++ x ∷ []) e ∙ sym (map_more leads are.says (s ∷ []));
  elements = adds.0 ∙ ap (λ (rs : List Rule). rs ++ rules_of [] (s ∷ [])) are.elements ∙ sym (rules_more [] are.says (s ∷ []));
  lists = adds.1 ∙ ap (λ (xs : List Said). xs ++ lists_in (s ∷ [])) are.lists ∙ sym (lists_more are.says (s ∷ []));
}

pub no_parts : (names : List (List ℕ)) (parts : Parts) → parts.elements.items ≡ [] → parts.lists.items ≡ [] → AreParts names [] parts
no_parts names parts e f = record { says = []; each = refl; elements = ap (map rule_of) e; lists = ap (map list_said) f }

-- the declarations before, and what they say
pub record Before (ws : List Written) (w : Written) : Type 0 where
  pub front : List Written
  pub behind : List Written
  pub is : ws ≡ front ++ w ∷ behind
  pub fine : List Said
  pub before : map (λ (x : Written). said (element_names ws) x.text) front ≡ map leads fine

wrong : (ws : List Written) (w : Written) (how : Went Said) → Contains ws w → is_distinct (element_names ws) ≡ true → said (element_names ws) w.text ≡ how → Before ws w → GoesWrong ws w.at how
wrong ws w how among once says b = record { one = w; among = among; once = once; says = says; there = refl; front = b.front; behind = b.behind; is = b.is; fine = b.fine; before = b.before }

pub goes_wrong : (ws : List Written) (w : Written) (f : Fault) (r : TableRefusal) → Contains ws w → is_distinct (element_names ws) ≡ true → Before ws w → WentWrong f (said (element_names ws) w.text) → FaultCause f w.at r → IsTableCause ws r
goes_wrong ws w fault.Refused r among once b went is = subst (IsTableCause ws) (sym is) (wrong ws w refused among once went b)
goes_wrong ws w fault.LeftOut r among once b went is = subst (IsTableCause ws) (sym is) (wrong ws w left_out among once went b)
goes_wrong ws w fault.TooDeep r among once b went is = subst (IsTableCause ws) (sym is) (inr (inl (refl, (w.at, wrong ws w too_deep among once went b))))
goes_wrong ws w (fault.Undeclared name) r among once b went is = subst (IsTableCause ws) (sym is) (w.at, wrong ws w (undeclared name) among once went b)
goes_wrong ws w fault.Memory r among once b went is = subst (IsTableCause ws) (sym is) tt

-- the parts of one declaration more, by its place
pub parts_at : (names : List (List ℕ)) (items : List CodeWritten) (i : ℕ) (w : CodeWritten) (old new : Parts) (s : Said) → i < length items → w ≡ get_or items i w → AreParts names (map written_of (take i items)) old
    → said names (written_of w).text ≡ leads s → AddsSaid old new s → AreParts names (map written_of (take (i + 1) items)) new
parts_at names items i w old new s less is are e adds =
    let more : map written_of (take (i + 1) items) ≡ map written_of (take i items) ++ written_of w ∷ [] =
    ap (map written_of) (take_item items i w less is) ∙ map_more written_of (take i items) (w ∷ []) in
    subst (λ ws. AreParts names ws new) (sym more) (parts_go_on names (map written_of (take i items)) (written_of w) old new s are e adds)

pub all_parts : (names : List (List ℕ)) (items : List CodeWritten) (i : ℕ) (parts : Parts) → length items ≤ i → AreParts names (map written_of (take i items)) parts → AreParts names (map written_of items) parts
all_parts names items i parts h are = subst (λ (xs : List CodeWritten). AreParts names (map written_of xs) parts) (take_all items i h) are

-- the declarations before one, by its place
split_written : (items : List CodeWritten) (i : ℕ) (w : CodeWritten) → i < length items → w ≡ get_or items i w → map written_of items ≡ map written_of (take i items) ++ written_of w ∷ map written_of (drop (i + 1) items)
split_written items i w less is = ap (map written_of) (split_item items i w less is) ∙ map_more written_of (take i items) (w ∷ drop (i + 1) items)

pub wrong_at : (names : List (List ℕ)) (items : List CodeWritten) (i : ℕ) (w : CodeWritten) (f : Fault) (r : TableRefusal) (parts : Parts) → i < length items → w ≡ get_or items i w → names ≡ element_names (map written_of items)
    → is_distinct (element_names (map written_of items)) ≡ true → AreParts names (map written_of (take i items)) parts → WentWrong f (said names (written_of w).text) → FaultCause f w.at r → IsTableCause (map written_of items) r
wrong_at names items i w f r parts less is e once are went cause =
    goes_wrong (map written_of items) (written_of w) f r (subst (λ (x : CodeWritten). Contains (map written_of items) (written_of x)) (sym is) (map_contains written_of items i w less)) once
    (record {
      front = map written_of (take i items);
      behind = map written_of (drop (i + 1) items);
      is = split_written items i w less is;
      fine = are.says;
      before = subst (λ ns. map (λ (x : Written). said ns x.text) (map written_of (take i items)) ≡ map leads are.says) e are.each;
    })
    (subst (λ ns. WentWrong f (said ns (written_of w).text)) e went) cause

-- none of these declarations is none
abbrev pub NoneSo : List (List ℕ) → List Written → Type 0
NoneSo names ws = (w : Written) → Contains ws w → said names w.text ≢ refused

pub none_yet : (names : List (List ℕ)) → NoneSo names []
none_yet names w (i, within, is) = absurd (omega (arith, within))

pub none_more : (names : List (List ℕ)) (items : List CodeWritten) (i : ℕ) (w : CodeWritten) → i < length items → w ≡ get_or items i w → NoneSo names (map written_of (take i items)) → said names (written_of w).text ≢ refused → NoneSo names (map written_of (take (i + 1) items))
none_more names items i w less is none other =
    let more : map written_of (take (i + 1) items) ≡ map written_of (take i items) ++ written_of w ∷ [] =
    ap (map written_of) (take_item items i w less is) ∙ map_more written_of (take i items) (w ∷ []) in
    subst (NoneSo names) (sym more) (λ x has. elim (Contains-push_cases (map written_of (take i items)) (written_of w) x has) [
      | inl before ↦ none x before
      | inr last ↦ subst (λ (y : Written). said names y.text ≢ refused) last other
    ])

pub none_in_all : (names : List (List ℕ)) (items : List CodeWritten) (i : ℕ) → length items ≤ i → names ≡ element_names (map written_of items) → NoneSo names (map written_of (take i items)) → NoneRefused (map written_of items)
none_in_all names items i past e none = λ once few.
    subst (λ ns. NoneSo ns (map written_of items)) e (subst (λ (xs : List CodeWritten). NoneSo names (map written_of xs)) (take_all items i past) none)

pub first_is : (names : List (List ℕ)) (items : List CodeWritten) (i : ℕ) (w : CodeWritten) → i < length items → w ≡ get_or items i w → names ≡ element_names (map written_of items) → NoneSo names (map written_of (take i items)) → said names (written_of w).text ≡ refused
    → FirstRefused (map written_of items) w.at
first_is names items i w less is e none says = record {
  one = written_of w;
  front = map written_of (take i items);
  behind = map written_of (drop (i + 1) items);
  is = split_written items i w less is;
  there = refl;
  says = subst (λ ns. said ns (written_of w).text ≡ refused) e says;
  before = subst (λ ns. NoneSo ns (map written_of (take i items))) e none;
}

-- where the names of the elements are refused, nothing is said
pub none_for_twice : (all : List Written) (name : List ℕ) → StandsTwice (element_names all) name → NoneRefused all
none_for_twice all name why = λ once few. absurd (once name why)

pub none_for_many : (all : List Written) (count : ℕ) → (element_limit < count) × (count ≤ length (element_names all)) → NoneRefused all
none_for_many all count why = λ once few. absurd (let over = why.0 in let many = why.1 in omega (arith, over, many, few))
