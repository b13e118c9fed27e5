-- The table of all that declarations say.
use Rattle.std.proofs.Common.{◌≡◌, ◌∙◌, ℕ, ◌≤◌, true, List, [], length, map, sym, ap, subst}
use Rattle.dtd_model.specs.Lawful.{element_limit, is_distinct, are_names, is_lawful}
use Rattle.dtd_model.specs.Table.{Rule, rule_of, Table}
use Rattle.dtd_model.specs.declared.dtd.DoctypeRule.TheVariants.{Free}
use Rattle.dtd_texts.specs.Reading.{Written}
use Rattle.dtd_texts.specs.Went.{leads}
use Rattle.dtd_texts.specs.Tables.{said, element_names, rules_of}
use Rattle.dtd_texts.specs.Spells.{Says}
use Rattle.dtd_tables.specs.declared.parts.Parts.{Parts}
use Rattle.dtd_tables.specs.declared.refusal.TableRefusal.{TableRefusal}
use Rattle.dtd_tables.specs.Causes.{IsTableCause}
use Rattle.dtd_tables.specs.Spelled.{IsTable}
use Rattle.dtd_tables.specs.Updates.{lists_in, rule_names, HaveFew}
use Rattle.dtd_tables.specs.Views.{list_said, updated_by, AreParts, AreNamed, AreListCauses}
use Rattle.dtd_tables.proofs.Crowds.{lists_crowd}
use Rattle.dtd_tables.proofs.Lawful.{names_are, lists_are_named, few_at_first, table_lawful}
use Rattle.dtd_tables.proofs.Updates.{all_updated}

pub lists_of : (names : List (List ℕ)) (ws : List Written) (parts : Parts) → AreParts names ws parts → AreNamed parts.lists.items
lists_of names ws parts are = lists_are_named names ws are.says parts.lists.items are.each are.lists

pub names_of : (names : List (List ℕ)) (ws : List Written) (parts : Parts) → names ≡ element_names ws → AreParts names ws parts → rule_names (map rule_of parts.elements.items) ≡ names
names_of names ws parts e are = ap rule_names are.elements ∙ sym (names_are names ws [] are.says are.each) ∙ sym e

pub few_of : (names : List (List ℕ)) (ws : List Written) (parts : Parts) → AreParts names ws parts → HaveFew (map rule_of parts.elements.items)
few_of names ws parts are = subst HaveFew (sym are.elements) (few_at_first are.says)

says_of : (names : List (List ℕ)) (ws : List Written) (parts : Parts) → names ≡ element_names ws → is_distinct (element_names ws) ≡ true → (are : AreParts names ws parts) → Says ws are.says
says_of names ws parts e once are = record { once = once; each = subst (λ ns. map (λ (w : Written). said ns w.text) ws ≡ map leads are.says) e are.each }

pub crowd_of : (names : List (List ℕ)) (ws : List Written) (parts : Parts) (r : TableRefusal) → names ≡ element_names ws → is_distinct (element_names ws) ≡ true → AreParts names ws parts
    → AreListCauses (map rule_of parts.elements.items) parts.lists.items r → IsTableCause ws r
crowd_of names ws parts r e once are why = lists_crowd ws are.says parts.lists.items (map rule_of parts.elements.items) r (says_of names ws parts e once are) are.elements are.lists why

rules_are : (names : List (List ℕ)) (ws : List Written) (parts : Parts) (new : List Rule) (are : AreParts names ws parts) → new ≡ updated_by (map list_said parts.lists.items) (map rule_of parts.elements.items) → new ≡ rules_of are.says are.says
rules_are names ws parts new are f = f ∙ ap (λ ls. updated_by ls (map rule_of parts.elements.items)) are.lists ∙ ap (updated_by (lists_in are.says)) are.elements ∙ all_updated are.says

pub lawful_of : (names : List (List ℕ)) (ws : List Written) (parts : Parts) (new : List Rule) (entities generals : List (List ℕ)) → names ≡ element_names ws → is_distinct (element_names ws) ≡ true
    → length (element_names ws) ≤ element_limit → AreParts names ws parts → new ≡ updated_by (map list_said parts.lists.items) (map rule_of parts.elements.items) → HaveFew new → entities ≡ generals → are_names generals ≡ true
    → is_lawful new entities ≡ true
lawful_of names ws parts new entities generals e once few are f each g lawful =
    let is = rules_are names ws parts new are f in
    let said = says_of names ws parts e once are in
    ap (λ rs. is_lawful rs entities) is ∙ ap (is_lawful (rules_of are.says are.says)) g ∙ table_lawful ws are.says generals once few said.each (subst HaveFew is each) lawful

pub table_is : (names : List (List ℕ)) (ws : List Written) (parts : Parts) (new : List Rule) (entities generals : List (List ℕ)) (table : Table) → names ≡ element_names ws → is_distinct (element_names ws) ≡ true → AreParts names ws parts
    → new ≡ updated_by (map list_said parts.lists.items) (map rule_of parts.elements.items) → entities ≡ generals → table.elements ≡ new → table.entities ≡ entities → table.doctype ≡ Free → IsTable ws generals table
table_is names ws parts new entities generals table e once are f g te tn td = record {
  says = are.says;
  said = says_of names ws parts e once are;
  elements = te ∙ rules_are names ws parts new are f;
  entities = tn ∙ g;
  doctype = td;
}
