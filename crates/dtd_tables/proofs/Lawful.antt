-- The rules that declarations make are lawful.
use Rattle.std.proofs.Common.{◌≡◌, ◌∙◌, ℕ, ◌≤◌, Bool, true, false, ◌&&◌, ◌||◌, if◌then◌else◌, List, [], ◌∷◌, ◌++◌, length, map, refl, sym, ap, subst, arith}
use Rattle.std.specs.Prelude.{bytes_eq, nat_le}
use Rattle.std.specs.List.{list_all}
use Rattle.std.proofs.lemmas.List.Folds.{list_all-append}
use Rattle.xml_text.specs.Names.{is_name}
use Rattle.dtd_model.specs.Lawful.{element_limit, attribute_limit, is_distinct, are_names, is_lawful_kind, are_lawful_attributes, is_lawful_rule, is_lawful}
use Rattle.dtd_model.specs.Table.{Declared, Rule}
use Rattle.dtd_texts.specs.Heads.{same}
use Rattle.dtd_texts.specs.Reading.{Written, is_among}
use Rattle.dtd_texts.specs.Went.{leads}
use Rattle.dtd_texts.specs.Tables.{Said, element, attributes, said, element_names, attributes_for, is_declared, with_others, rules_of}
use Rattle.dtd_texts.specs.Lawful.{are_lawful, IsLawfulSaid}
use Rattle.dtd_texts.proofs.Declarations.{said_lawful}
use Rattle.dtd_texts.proofs.Entities.{distinct_more}
use Rattle.dtd_texts.proofs.Holdings.{both, first_of_both, second_of_both}
use Rattle.dtd_tables.specs.declared.parts.List.{List as CodeList}
use Rattle.dtd_tables.specs.Updates.{with_one, lists_in, rule_names, HaveFew}
use Rattle.dtd_tables.specs.Views.{list_said, AreNamed}
use Rattle.dtd_tables.proofs.Lists.{map_more}

-- what each declaration says is lawful
abbrev pub AllLawful : List (List ℕ) → List Written → List Said → Type 0
AllLawful names [] [] = Unit {0}
AllLawful names [] (s ∷ says) = ⊥
AllLawful names (w ∷ written) [] = ⊥
AllLawful names (w ∷ written) (s ∷ says) = IsLawfulSaid names w.text s × AllLawful names written says

cons_first : {X : Type 0} {x y : X} {xs ys : List X} → x ∷ xs ≡ y ∷ ys → x ≡ y
cons_first e = cc

cons_rest : {X : Type 0} {x y : X} {xs ys : List X} → x ∷ xs ≡ y ∷ ys → xs ≡ ys
cons_rest e = cc

no_cons : {X : Type 0} {x : X} {xs : List X} → [] ≡ x ∷ xs → ⊥
no_cons e = grind arith

cons_no : {X : Type 0} {x : X} {xs : List X} → x ∷ xs ≡ [] → ⊥
cons_no e = grind arith

all_lawful : (names : List (List ℕ)) (written : List Written) (says : List Said) → map (λ (w : Written). said names w.text) written ≡ map leads says → AllLawful names written says
all_lawful names [] [] e = tt
all_lawful names [] (s ∷ says) e = no_cons e
all_lawful names (w ∷ written) [] e = cons_no e
all_lawful names (w ∷ written) (s ∷ says) e = (said_lawful names w.text s (cons_first e), all_lawful names written says (cons_rest e))

-- the names of the rules are those of the declared elements
rules_named : (names : List (List ℕ)) (written : List Written) (all says : List Said) → AllLawful names written says → element_names written ≡ rule_names (rules_of all says)
rules_named names [] all [] h = refl
rules_named names [] all (s ∷ says) h = absurd h
rules_named names (w ∷ written) all [] h = absurd h
rules_named names (w ∷ written) all (element n holding ∷ says) h = rw h.0.0 (ap (λ ns. n ∷ ns) (rules_named names written all says h.1))
rules_named names (w ∷ written) all (attributes n ds ∷ says) h = rw h.0.0 (rules_named names written all says h.1)

pub names_are : (names : List (List ℕ)) (written : List Written) (all says : List Said) → map (λ (w : Written). said names w.text) written ≡ map leads says → element_names written ≡ rule_names (rules_of all says)
names_are names written all says e = rules_named names written all says (all_lawful names written says e)

names_lawful : (names : List (List ℕ)) (written : List Written) (all says : List Said) → AllLawful names written says → list_all is_name (rule_names (rules_of all says)) ≡ true
names_lawful names [] all [] h = refl
names_lawful names [] all (s ∷ says) h = absurd h
names_lawful names (w ∷ written) all [] h = absurd h
names_lawful names (w ∷ written) all (element n holding ∷ says) h = both h.0.1 (names_lawful names written all says h.1)
names_lawful names (w ∷ written) all (attributes n ds ∷ says) h = names_lawful names written all says h.1

-- the attributes for a name
append_lawful : (ds es : List Declared) → are_lawful ds → are_lawful es → are_lawful (ds ++ es)
append_lawful ds es h k = list_all-append (λ (d : Declared). is_name d.name && is_lawful_kind d.kind) ds es ∙ both h k

attributes_lawful : (names : List (List ℕ)) (written : List Written) (m : List ℕ) (says : List Said) → AllLawful names written says → are_lawful (attributes_for m says)
attributes_lawful names [] m [] h = refl
attributes_lawful names [] m (s ∷ says) h = absurd h
attributes_lawful names (w ∷ written) m [] h = absurd h
attributes_lawful names (w ∷ written) m (element n holding ∷ says) h = attributes_lawful names written m says h.1
attributes_lawful names (w ∷ written) m (attributes n ds ∷ says) h = by (same n m) (attributes_lawful names written m says h.1)
  where
    by : (b : Bool) → are_lawful (attributes_for m says) → are_lawful (if b then ds ++ attributes_for m says else attributes_for m says)
    by true k = append_lawful ds (attributes_for m says) h.0.2 k
    by false k = k

-- attributes of which none stands twice
record AreSound (ds : List Declared) : Type 0 where
  lawful : are_lawful ds
  once : is_distinct (map (λ (d : Declared). d.name) ds) ≡ true

any_name : (ds : List Declared) (name : List ℕ) → is_among (map (λ (d : Declared). d.name) ds) name ≡ is_declared ds name
any_name [] name = refl
any_name (d ∷ ds) name = ap (λ b. bytes_eq name d.name || b) (any_name ds name)

one_sound : (ds : List Declared) (d : Declared) → AreSound ds → (is_name d.name && is_lawful_kind d.kind) ≡ true → AreSound (with_one ds d)
one_sound ds d sound h = by (is_declared ds d.name) refl
  where
    by : (b : Bool) → is_declared ds d.name ≡ b → AreSound (if b then ds else ds ++ d ∷ [])
    by true e = sound
    by false e = record {
      lawful = append_lawful ds (d ∷ []) sound.lawful (both h refl);
      once = ap is_distinct (map_more (λ (d : Declared). d.name) ds (d ∷ [])) ∙ distinct_more (map (λ (d : Declared). d.name) ds) d.name sound.once (any_name ds d.name ∙ e);
    }

others_sound : (ds more : List Declared) → AreSound ds → are_lawful more → AreSound (with_others ds more)
unfolding with_others
others_sound ds [] sound h = sound
others_sound ds (d ∷ more) sound h =
    others_sound (with_one ds d) more (one_sound ds d sound (first_of_both (is_name d.name && is_lawful_kind d.kind) (list_all (λ (d : Declared). is_name d.name && is_lawful_kind d.kind) more) h))
    (second_of_both (is_name d.name && is_lawful_kind d.kind) (list_all (λ (d : Declared). is_name d.name && is_lawful_kind d.kind) more) h)

apart : (ds : List Declared) → are_lawful ds → (list_all is_name (map (λ (d : Declared). d.name) ds) ≡ true) × (list_all (λ (d : Declared). is_lawful_kind d.kind) ds ≡ true)
apart [] h = (refl, refl)
apart (d ∷ ds) h =
    let one = first_of_both (is_name d.name && is_lawful_kind d.kind) (list_all (λ (d : Declared). is_name d.name && is_lawful_kind d.kind) ds) h in
    let more = apart ds (second_of_both (is_name d.name && is_lawful_kind d.kind) (list_all (λ (d : Declared). is_name d.name && is_lawful_kind d.kind) ds) h) in
    (both (first_of_both (is_name d.name) (is_lawful_kind d.kind) one) more.0, both (second_of_both (is_name d.name) (is_lawful_kind d.kind) one) more.1)

few_test : (n m : ℕ) → n ≤ m → nat_le n m ≡ true
few_test n m h = grind (arith, h)

sound_attributes : (ds : List Declared) → AreSound ds → length ds ≤ attribute_limit → are_lawful_attributes ds ≡ true
sound_attributes ds sound few = let parts = apart ds sound.lawful in both (both (few_test (length ds) attribute_limit few) (both sound.once parts.0)) parts.1

rules_lawful : (names : List (List ℕ)) (written more : List Written) (all says : List Said) → AllLawful names written all → AllLawful names more says → HaveFew (rules_of all says) → list_all (is_lawful_rule (length names)) (rules_of all says) ≡ true
rules_lawful names written [] all [] h k few = refl
rules_lawful names written [] all (s ∷ says) h k few = absurd k
rules_lawful names written (w ∷ more) all [] h k few = absurd k
rules_lawful names written (w ∷ more) all (element n holding ∷ says) h k few =
    both (both k.0.2 (sound_attributes (with_others [] (attributes_for n all)) (others_sound [] (attributes_for n all) (record { lawful = refl; once = refl }) (attributes_lawful names written n all h)) few.0))
    (rules_lawful names written more all says h k.1 few.1)
rules_lawful names written (w ∷ more) all (attributes n ds ∷ says) h k few = rules_lawful names written more all says h k.1 few

count_same : (rules : List Rule) → length (rule_names rules) ≡ length rules
count_same [] = refl
count_same (r ∷ rules) = let h = count_same rules in omega (arith, h)

pub table_lawful : (written : List Written) (says : List Said) (entities : List (List ℕ)) → is_distinct (element_names written) ≡ true → length (element_names written) ≤ element_limit
    → map (λ (w : Written). said (element_names written) w.text) written ≡ map leads says → HaveFew (rules_of says says) → are_names entities ≡ true → is_lawful (rules_of says says) entities ≡ true
unfolding is_lawful
table_lawful written says entities once few each all names =
    let lawful = all_lawful (element_names written) written says each in
    let is = rules_named (element_names written) written says says lawful in
    let count : length (element_names written) ≡ length (rules_of says says) = ap (λ (ns : List (List ℕ)). length ns) is ∙ count_same (rules_of says says) in
    both (both (both (few_test (length (rules_of says says)) element_limit (omega (arith, few, count))) (both (subst (λ ns. is_distinct ns ≡ true) is once) (names_lawful (element_names written) written says says lawful)))
    (subst (λ n. list_all (is_lawful_rule n) (rules_of says says) ≡ true) count (rules_lawful (element_names written) written written says says lawful lawful all))) names

-- attribute lists have names
abbrev SaidNamed : Said → Type 0
SaidNamed (element n h) = Unit {0}
SaidNamed (attributes n ds) = is_name n ≡ true

pub lists_named : (names : List (List ℕ)) (written : List Written) (says : List Said) (lists : List CodeList) → AllLawful names written says → map list_said lists ≡ lists_in says → AreNamed lists
lists_named names [] [] [] h e = tt
lists_named names [] [] (l ∷ lists) h e = absurd (cons_no e)
lists_named names [] (s ∷ says) lists h e = absurd h
lists_named names (w ∷ written) [] lists h e = absurd h
lists_named names (w ∷ written) (element n holding ∷ says) lists h e = lists_named names written says lists h.1 e
lists_named names (w ∷ written) (attributes n ds ∷ says) [] h e = tt
lists_named names (w ∷ written) (attributes n ds ∷ says) (l ∷ lists) h e = (subst (λ s. SaidNamed s) (sym (cons_first e)) h.0.1, lists_named names written says lists h.1 (cons_rest e))

pub lists_are_named : (names : List (List ℕ)) (written : List Written) (says : List Said) (lists : List CodeList) → map (λ (w : Written). said names w.text) written ≡ map leads says → map list_said lists ≡ lists_in says → AreNamed lists
lists_are_named names written says lists each e = lists_named names written says lists (all_lawful names written says each) e

no_attributes : (says : List Said) → HaveFew (rules_of [] says)
unfolding with_others
no_attributes [] = tt
no_attributes (element n h ∷ says) = (omega arith, no_attributes says)
no_attributes (attributes n ds ∷ says) = no_attributes says

pub few_at_first : (says : List Said) → HaveFew (rules_of [] says)
few_at_first says = no_attributes says
