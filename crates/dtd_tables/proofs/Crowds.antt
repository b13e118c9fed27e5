-- Where an element gets too many attributes, so many are declared for it.
use Rattle.std.proofs.Common.{rules, ◌≡◌, ◌∙◌, ℕ, zero, suc, ◌<◌, ◌≤◌, inr, Bool, true, if◌then◌else◌, List, [], ◌∷◌, ◌++◌, length, get_or, map, Contains, refl, sym, ap, subst, arith}
use Rattle.dtd_model.specs.Lawful.{attribute_limit}
use Rattle.dtd_model.specs.Table.{Declared, declared_of, Rule}
use Rattle.dtd_texts.specs.Heads.{same}
use Rattle.dtd_texts.specs.Reading.{Written}
use Rattle.dtd_texts.specs.Spells.{Says}
use Rattle.dtd_texts.specs.Tables.{Said, element, attributes, attributes_for, with_others, rules_of}
use Rattle.dtd_tables.specs.declared.parts.List.{List as CodeList}
use Rattle.dtd_tables.specs.declared.refusal.TableRefusal.{TableRefusal}
use Rattle.dtd_tables.specs.declared.refusal.TableRefusal.TheVariants.{Twice, Undeclared, Refused, LeftOut, Limit, Memory}
use Rattle.dtd_tables.specs.Causes.{IsTableCause}
use Rattle.dtd_tables.specs.Updates.{lists_in}
use Rattle.dtd_tables.specs.Views.{list_said, updated_by, CrowdsRule, AtList, AreListCauses, IsListCause}
use Rattle.dtd_tables.proofs.Lists.{append_same, map_more}
use Rattle.dtd_tables.proofs.Updates.{others_more, others_longer, for_more, for_lists, updated_by_is}

rule_at : (xs says : List Said) (r : Rule) (k : ℕ) → k < length (rules_of xs says) → get_or (rules_of xs says) k r ≡ r → r.attributes ≡ with_others [] (attributes_for r.name xs)
rule_at xs [] r k less is = absurd (omega (arith, less))
rule_at xs (element n h ∷ says) r zero less is = subst (λ (x : Rule). x.attributes ≡ with_others [] (attributes_for x.name xs)) is refl
rule_at xs (element n h ∷ says) r (suc k) less is = rule_at xs says r k (omega (arith, less)) is
rule_at xs (attributes n ds ∷ says) r k less is = rule_at xs says r k less is

same_is : (a b : List ℕ) → same a b ≡ true → a ≡ b
same_is a b e = search (rules, arith, e)

same_self : (a : List ℕ) → same a a ≡ true
same_self a = search (rules, arith)

-- what is declared for a name in three parts
three_parts : (n : List ℕ) (ds : List Declared) (xs ys : List Said) → attributes_for n (xs ++ attributes n ds ∷ ys) ≡ (attributes_for n xs ++ ds) ++ attributes_for n ys
three_parts n ds xs ys =
    for_more n xs (attributes n ds ∷ ys)
    ∙ ap (λ (b : Bool). attributes_for n xs ++ (if b then ds ++ attributes_for n ys else attributes_for n ys)) (same_self n)
    ∙ sym (append_same (attributes_for n xs) ds (attributes_for n ys))

long_enough : (n : List ℕ) (ds : List Declared) (xs ys says : List Said) (count : ℕ) (had : List Declared) → had ≡ with_others [] (attributes_for n xs) → lists_in says ≡ xs ++ attributes n ds ∷ ys
    → count ≤ length (with_others had ds) → count ≤ length (with_others [] (attributes_for n says))
long_enough n ds xs ys says count had e is few =
    let all : attributes_for n says ≡ (attributes_for n xs ++ ds) ++ attributes_for n ys = sym (for_lists n says) ∙ ap (attributes_for n) is ∙ three_parts n ds xs ys in
    let some : with_others had ds ≡ with_others [] (attributes_for n xs ++ ds) = ap (λ hs. with_others hs ds) e ∙ sym (others_more [] (attributes_for n xs) ds) in
    let longer = others_longer (with_others [] (attributes_for n xs ++ ds)) (attributes_for n ys) in
    let whole : with_others [] (attributes_for n says) ≡ with_others (with_others [] (attributes_for n xs ++ ds)) (attributes_for n ys) = ap (with_others []) all ∙ others_more [] (attributes_for n xs ++ ds) (attributes_for n ys) in
    let a = ap (λ (zs : List Declared). length zs) some in
    let b = ap (λ (zs : List Declared). length zs) whole in
    omega (arith, few, longer, a, b)

crowds_all : (says : List Said) (lists : List CodeList) (rs : List Rule) (count : ℕ) → rs ≡ rules_of [] says → map list_said lists ≡ lists_in says → AtList rs lists count
    → (attribute_limit < count) × ((name : List ℕ) × (count ≤ length (with_others [] (attributes_for name says))))
crowds_all says lists rs count e f at =
    let xs = map list_said at.before in
    let ds = map declared_of at.one.rules.items in
    let ys = map list_said at.behind in
    let crowds = at.crowds in
    let among = subst (λ ts. Contains ts crowds.rule) (ap (updated_by xs) e ∙ updated_by_is xs [] says) crowds.among in
    let had : crowds.rule.attributes ≡ with_others [] (attributes_for at.one.name xs) =
    rule_at xs says crowds.rule among.0 among.1 among.2 ∙ ap (λ m. with_others [] (attributes_for m xs)) (sym (same_is at.one.name crowds.rule.name crowds.there)) in
    let is : lists_in says ≡ xs ++ attributes at.one.name ds ∷ ys = sym f ∙ ap (map list_said) at.is ∙ map_more list_said at.before (at.one ∷ at.behind) in
    (crowds.crowded.0, (at.one.name, long_enough at.one.name ds xs ys says count crowds.rule.attributes had is crowds.crowded.1))

pub lists_crowd : (written : List Written) (says : List Said) (lists : List CodeList) (rs : List Rule) (r : TableRefusal) → Says written says → rs ≡ rules_of [] says → map list_said lists ≡ lists_in says → AreListCauses rs lists r
    → IsTableCause written r
lists_crowd written says lists rs (Twice name) said e f why = absurd why
lists_crowd written says lists rs (Undeclared name) said e f why = absurd why
lists_crowd written says lists rs (Refused at) said e f why = absurd why
lists_crowd written says lists rs (LeftOut at) said e f why = absurd why
lists_crowd written says lists rs (Limit count) said e f why = let all = crowds_all says lists rs count e f why in inr (inr (all.0, record { says = says; said = said; name = all.1.0; many = all.1.1 }))
lists_crowd written says lists rs Memory said e f why = tt

-- the refusal of one list is that of all
pub at_list : (rs now : List Rule) (lists before : List CodeList) (one : CodeList) (behind : List CodeList) (r : TableRefusal) → lists ≡ before ++ one ∷ behind → now ≡ updated_by (map list_said before) rs
    → IsListCause now one r → AreListCauses rs lists r
at_list rs now lists before one behind (Twice name) e f why = why
at_list rs now lists before one behind (Undeclared name) e f why = why
at_list rs now lists before one behind (Refused at) e f why = why
at_list rs now lists before one behind (LeftOut at) e f why = why
at_list rs now lists before one behind (Limit count) e f why =
    record { before = before; one = one; behind = behind; is = e; crowds = subst (λ xs. CrowdsRule xs one.name (map declared_of one.rules.items) (Limit count)) f why }
at_list rs now lists before one behind Memory e f why = tt
