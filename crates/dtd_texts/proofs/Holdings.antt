-- The content models that declarations say are lawful, where so many elements are declared.
use Rattle.std.proofs.Common.{◌≡◌, ◌∙◌, ℕ, suc, ◌+◌, ◌*◌, ◌≤◌, Bool, true, false, ◌&&◌, nat_lt, nat_le, max, if◌then◌else◌, List, [], ◌∷◌, ◌++◌, length, Some, None, codes, refl, arith, cond}
use Rattle.std.specs.Prelude.{bytes_eq}
use Rattle.std.specs.List.{list_all, position_or_len}
use Rattle.std.proofs.lemmas.List.Folds.{list_all-append}
use Rattle.xml_text.specs.Names.{is_name}
use Rattle.dtd_model.specs.Table.{Model, one, optional, any_number, at_least_one, Holding, children}
use Rattle.dtd_model.specs.Lawful.{height_limit, height, highest, is_within, are_within, is_nonempty, has_matches, all_have_matches, is_lawful_holding}
use Rattle.dtd_texts.specs.Heads.{same}
use Rattle.dtd_texts.specs.Tokens.{Token, gap, word, literal, opening, closing, bar, comma, question, star, plus, hash, percent, equals, other}
use Rattle.dtd_texts.specs.Went.{Went, leads, refused, left_out, too_deep, undeclared, all_steps, then_go}
use Rattle.dtd_texts.specs.ContentModels as spec
use Rattle.dtd_texts.specs.ContentModels.{Stage, behind_name, at_content, at_first, at_text, behind_text, at_element, behind_mixed, at_particle, on_particle, behind_particle, behind_group, done, Group, Separator, unknown, by_bar, by_comma, bracket_limit, all_models, group_model}

-- what holds of that which is led to
abbrev pub Leads : {S : Type 0} → (S → Type 0) → Went S → Type 0
Leads P (leads s) = P s
Leads P refused = Unit {0}
Leads P left_out = Unit {0}
Leads P too_deep = Unit {0}
Leads P (undeclared name) = Unit {0}

pub record WentTo {S : Type 0} (P : S → Type 0) (w : Went S) : Type 0 where
  pub is : Leads P w

pub went_on : {S T : Type 0} (P : S → Type 0) (Q : T → Type 0) (w : Went S) (f : S → Went T) → WentTo P w → ((s : S) → P s → WentTo Q (f s)) → WentTo Q (then_go w f)
went_on P Q (leads s) f h go = go s h.is
went_on P Q refused f h go = record { is = tt }
went_on P Q left_out f h go = record { is = tt }
went_on P Q too_deep f h go = record { is = tt }
went_on P Q (undeclared name) f h go = record { is = tt }

pub went_if : {S : Type 0} (P : S → Type 0) (b : Bool) (x y : Went S) → WentTo P x → WentTo P y → WentTo P (if b then x else y)
went_if P true x y h k = h
went_if P false x y h k = k

-- each token is so
abbrev pub AreAll : (Token → Type 0) → List Token → Type 0
AreAll Q [] = Unit {0}
AreAll Q (t ∷ ts) = Q t × AreAll Q ts

-- steps keep what each of them keeps
pub steps_keep : {S : Type 0} (P : S → Type 0) (Q : Token → Type 0) (step : S → Token → Went S) → ((s : S) (t : Token) → P s → Q t → WentTo P (step s t))
    → (s : S) (ts : List Token) → P s → AreAll Q ts → WentTo P (all_steps step s ts)
unfolding all_steps
steps_keep P Q step keeps s [] h all = record { is = h }
steps_keep P Q step keeps s (t ∷ ts) h all = went_on P P (step s t) (λ next. all_steps step next ts) (keeps s t h all.0) (λ next k. steps_keep P Q step keeps next ts k all.1)

-- A particle of a group, where so many brackets are open.
record IsPart (n depth : ℕ) (m : Model) : Type 0 where
  low : 2 * depth + height m ≤ 402
  within : is_within n m ≡ true
  matches : has_matches m ≡ true

-- one with no sign behind it, which may get one
abbrev IsBare : ℕ → ℕ → Model → Type 0
IsBare n depth m = IsPart n depth (optional m)

record AreParts (n depth : ℕ) (parts : List Model) : Type 0 where
  low : 2 * depth + highest (all_models parts) ≤ 402
  within : are_within n (all_models parts) ≡ true
  matches : all_have_matches (all_models parts) ≡ true

abbrev GroupsAre : ℕ → List Group → Type 0
GroupsAre n [] = Unit {0}
GroupsAre n (g ∷ groups) = (suc (length groups) ≤ 200) × AreParts n (suc (length groups)) g.parts × GroupsAre n groups

abbrev HasPart : List Group → Type 0
HasPart [] = Unit {0}
HasPart (g ∷ groups) = is_nonempty (all_models g.parts) ≡ true

abbrev AllBelow : ℕ → List ℕ → Type 0
AllBelow n es = list_all (λ e. nat_lt e n) es ≡ true

abbrev StageIs : ℕ → Stage → Type 0
StageIs n behind_name = Unit {0}
StageIs n at_content = Unit {0}
StageIs n at_first = Unit {0}
StageIs n at_text = Unit {0}
StageIs n (behind_text es) = AllBelow n es
StageIs n (at_element es) = AllBelow n es
StageIs n (behind_mixed es) = AllBelow n es
StageIs n (at_particle groups) = GroupsAre n groups
StageIs n (on_particle groups m) = GroupsAre n groups × IsBare n (length groups) m
StageIs n (behind_particle groups) = GroupsAre n groups × HasPart groups
StageIs n (behind_group m) = IsBare n 0 m
StageIs n (done h) = is_lawful_holding n h ≡ true

pub both : {a b : Bool} → a ≡ true → b ≡ true → (a && b) ≡ true
both e f = grind arith

pub first_of_both : (a b : Bool) → (a && b) ≡ true → a ≡ true
first_of_both a b e = grind arith

pub second_of_both : (a b : Bool) → (a && b) ≡ true → b ≡ true
second_of_both a b e = grind arith

-- The number of an element is below their count.

numbered_below : (names : List (List ℕ)) (w : List ℕ) → WentTo (λ k. nat_lt k (length names) ≡ true) (spec.numbered (spec.number_of names w) w)
numbered_below names w = by (nat_lt (position_or_len (bytes_eq w) names) (length names)) refl
  where
    by : (x : Bool) → nat_lt (position_or_len (bytes_eq w) names) (length names) ≡ x → WentTo (λ k. nat_lt k (length names) ≡ true) (spec.numbered (cond x (Some (position_or_len (bytes_eq w) names)) None) w)
    by true e = record { is = e }
    by false e = record { is = tt }

element_below : (names : List (List ℕ)) (w : List ℕ) → WentTo (λ k. nat_lt k (length names) ≡ true) (spec.element_named names w)
element_below names w = went_if _ (is_name w) _ _ (numbered_below names w) (record { is = tt })

-- Groups with one part more, and the model of a group.

one_is : (n depth k : ℕ) → depth ≤ 200 → nat_lt k n ≡ true → IsBare n depth (one k)
unfolding height is_within has_matches
one_is n depth k few e = record { low = omega (arith, few); within = e; matches = refl }

bare_is : (n depth : ℕ) (m : Model) → IsBare n depth m → IsPart n depth m
unfolding height is_within has_matches
bare_is n depth m b = record { low = let low = b.low in omega (arith, low); within = b.within; matches = b.matches }

star_is : (n depth : ℕ) (m : Model) → IsBare n depth m → IsPart n depth (any_number m)
unfolding height is_within has_matches
star_is n depth m b = record { low = b.low; within = b.within; matches = b.matches }

plus_is : (n depth : ℕ) (m : Model) → IsBare n depth m → IsPart n depth (at_least_one m)
unfolding height is_within has_matches
plus_is n depth m b = record { low = b.low; within = b.within; matches = b.matches }

highest_more : (parts : List Model) (m : Model) → highest (all_models (parts ++ m ∷ [])) ≤ max (highest (all_models parts)) (height m)
unfolding height
highest_more [] m = omega arith
highest_more (p ∷ ps) m = let h = highest_more ps m in omega (arith, h)

within_more : (n : ℕ) (parts : List Model) (m : Model) → are_within n (all_models parts) ≡ true → is_within n m ≡ true → are_within n (all_models (parts ++ m ∷ [])) ≡ true
unfolding is_within
within_more n [] m e f = both f refl
within_more n (p ∷ ps) m e f = both (first_of_both (is_within n p) (are_within n (all_models ps)) e) (within_more n ps m (second_of_both (is_within n p) (are_within n (all_models ps)) e) f)

matches_more : (parts : List Model) (m : Model) → all_have_matches (all_models parts) ≡ true → has_matches m ≡ true → all_have_matches (all_models (parts ++ m ∷ [])) ≡ true
unfolding has_matches
matches_more [] m e f = both f refl
matches_more (p ∷ ps) m e f = both (first_of_both (has_matches p) (all_have_matches (all_models ps)) e) (matches_more ps m (second_of_both (has_matches p) (all_have_matches (all_models ps)) e) f)

parts_more : (n depth : ℕ) (parts : List Model) (m : Model) → AreParts n depth parts → IsPart n depth m → AreParts n depth (parts ++ m ∷ [])
parts_more n depth parts m a p = record {
  low = let h = highest_more parts m in let low = a.low in let low' = p.low in omega (arith, h, low, low');
  within = within_more n parts m a.within p.within;
  matches = matches_more parts m a.matches p.matches;
}

nonempty_more : (parts : List Model) (m : Model) → is_nonempty (all_models (parts ++ m ∷ [])) ≡ true
nonempty_more [] m = refl
nonempty_more (p ∷ ps) m = refl

put_is : (n : ℕ) (m : Model) (groups : List Group) → GroupsAre n groups → IsPart n (length groups) m → GroupsAre n (spec.put m groups)
put_is n m [] h p = tt
put_is n m (g ∷ groups) h p = (h.0, parts_more n (suc (length groups)) g.parts m h.1 p, h.2)

put_has : (m : Model) (groups : List Group) → HasPart (spec.put m groups)
put_has m [] = tt
put_has m (g ∷ groups) = nonempty_more g.parts m

no_parts : (n depth : ℕ) → depth ≤ 200 → AreParts n depth []
unfolding height is_within has_matches
no_parts n depth few = record { low = omega (arith, few); within = refl; matches = refl }

new_is : (n : ℕ) (groups : List Group) → GroupsAre n groups → suc (length groups) ≤ 200 → GroupsAre n (spec.new_group ∷ groups)
new_is n groups h few = (few, no_parts n (suc (length groups)) few, h)

model_is : (n depth : ℕ) (sep : Separator) (parts : List Model) → AreParts n (suc depth) parts → is_nonempty (all_models parts) ≡ true → IsBare n depth (group_model sep (all_models parts))
unfolding height is_within has_matches
model_is n depth unknown parts a e = record { low = let low = a.low in omega (arith, low); within = a.within; matches = a.matches }
model_is n depth by_bar parts a e = record { low = let low = a.low in omega (arith, low); within = a.within; matches = both e a.matches }
model_is n depth by_comma parts a e = record { low = let low = a.low in omega (arith, low); within = a.within; matches = a.matches }

close_is : (n : ℕ) (m : Model) (groups : List Group) → GroupsAre n groups → IsBare n (length groups) m → StageIs n (spec.close m groups)
close_is n m [] h b = b
close_is n m (g ∷ groups) h b = (h, b)

-- The steps, stage by stage.

few_of : (a : ℕ) → nat_lt a 200 ≡ true → suc a ≤ 200
few_of a e = grind arith

deeper : (n : ℕ) (groups : List Group) → GroupsAre n groups → WentTo (StageIs n) (if nat_lt (length groups) bracket_limit then leads (at_particle (spec.new_group ∷ groups)) else too_deep)
deeper n groups h = by (nat_lt (length groups) bracket_limit) refl
  where
    by : (b : Bool) → nat_lt (length groups) bracket_limit ≡ b → WentTo (StageIs n) (if b then leads (at_particle (spec.new_group ∷ groups)) else too_deep)
    by true e = record { is = new_is n groups h (few_of (length groups) e) }
    by false e = record { is = tt }

depth_few : (n : ℕ) (groups : List Group) → GroupsAre n groups → length groups ≤ 200
depth_few n [] h = omega arith
depth_few n (g ∷ groups) h = h.0

content_keeps : (n : ℕ) (t : Token) → WentTo (StageIs n) (spec.content_step t)
content_keeps n gap = record { is = tt }
content_keeps n (word w) = went_if _ (same w (codes "EMPTY")) _ _ (record { is = refl }) (went_if _ (same w (codes "ANY")) _ _ (record { is = refl }) (record { is = tt }))
content_keeps n (literal v) = record { is = tt }
content_keeps n opening = record { is = tt }
content_keeps n closing = record { is = tt }
content_keeps n bar = record { is = tt }
content_keeps n comma = record { is = tt }
content_keeps n question = record { is = tt }
content_keeps n star = record { is = tt }
content_keeps n plus = record { is = tt }
content_keeps n hash = record { is = tt }
content_keeps n percent = record { is = tt }
content_keeps n equals = record { is = tt }
content_keeps n other = record { is = tt }

particle_keeps : (names : List (List ℕ)) (groups : List Group) (t : Token) → GroupsAre (length names) groups → WentTo (StageIs (length names)) (spec.particle_step names groups t)
particle_keeps names groups gap h = record { is = h }
particle_keeps names groups (word w) h = went_on _ (StageIs (length names)) (spec.element_named names w) _ (element_below names w) (λ k e. record { is = (h, one_is (length names) (length groups) k (depth_few (length names) groups h) e) })
particle_keeps names groups (literal v) h = record { is = tt }
particle_keeps names groups opening h = deeper (length names) groups h
particle_keeps names groups closing h = record { is = tt }
particle_keeps names groups bar h = record { is = tt }
particle_keeps names groups comma h = record { is = tt }
particle_keeps names groups question h = record { is = tt }
particle_keeps names groups star h = record { is = tt }
particle_keeps names groups plus h = record { is = tt }
particle_keeps names groups hash h = record { is = tt }
particle_keeps names groups percent h = record { is = tt }
particle_keeps names groups equals h = record { is = tt }
particle_keeps names groups other h = record { is = tt }

with_bar_keeps : (n : ℕ) (g : Group) (groups : List Group) (sep : Separator) → GroupsAre n (g ∷ groups) → WentTo (StageIs n) (spec.with_bar g groups sep)
with_bar_keeps n g groups unknown h = record { is = h }
with_bar_keeps n g groups by_bar h = record { is = h }
with_bar_keeps n g groups by_comma h = record { is = tt }

with_comma_keeps : (n : ℕ) (g : Group) (groups : List Group) (sep : Separator) → GroupsAre n (g ∷ groups) → WentTo (StageIs n) (spec.with_comma g groups sep)
with_comma_keeps n g groups unknown h = record { is = h }
with_comma_keeps n g groups by_bar h = record { is = tt }
with_comma_keeps n g groups by_comma h = record { is = h }

behind_keeps : (n : ℕ) (groups : List Group) (t : Token) → GroupsAre n groups → HasPart groups → WentTo (StageIs n) (spec.behind_step groups t)
behind_keeps n [] gap h e = record { is = tt }
behind_keeps n [] (word w) h e = record { is = tt }
behind_keeps n [] (literal v) h e = record { is = tt }
behind_keeps n [] opening h e = record { is = tt }
behind_keeps n [] closing h e = record { is = tt }
behind_keeps n [] bar h e = record { is = tt }
behind_keeps n [] comma h e = record { is = tt }
behind_keeps n [] question h e = record { is = tt }
behind_keeps n [] star h e = record { is = tt }
behind_keeps n [] plus h e = record { is = tt }
behind_keeps n [] hash h e = record { is = tt }
behind_keeps n [] percent h e = record { is = tt }
behind_keeps n [] equals h e = record { is = tt }
behind_keeps n [] other h e = record { is = tt }
behind_keeps n (g ∷ groups) gap h e = record { is = (h, e) }
behind_keeps n (g ∷ groups) (word w) h e = record { is = tt }
behind_keeps n (g ∷ groups) (literal v) h e = record { is = tt }
behind_keeps n (g ∷ groups) opening h e = record { is = tt }
behind_keeps n (g ∷ groups) closing h e = record { is = close_is n _ groups h.2 (model_is n (length groups) g.separator g.parts h.1 e) }
behind_keeps n (g ∷ groups) bar h e = with_bar_keeps n g groups g.separator h
behind_keeps n (g ∷ groups) comma h e = with_comma_keeps n g groups g.separator h
behind_keeps n (g ∷ groups) question h e = record { is = tt }
behind_keeps n (g ∷ groups) star h e = record { is = tt }
behind_keeps n (g ∷ groups) plus h e = record { is = tt }
behind_keeps n (g ∷ groups) hash h e = record { is = tt }
behind_keeps n (g ∷ groups) percent h e = record { is = tt }
behind_keeps n (g ∷ groups) equals h e = record { is = tt }
behind_keeps n (g ∷ groups) other h e = record { is = tt }

on_keeps : (n : ℕ) (groups : List Group) (m : Model) (t : Token) → GroupsAre n groups × IsBare n (length groups) m → WentTo (StageIs n) (spec.on_step groups m t)
on_keeps n groups m gap h = behind_keeps n (spec.put m groups) gap (put_is n m groups h.0 (bare_is n (length groups) m h.1)) (put_has m groups)
on_keeps n groups m (word w) h = behind_keeps n (spec.put m groups) (word w) (put_is n m groups h.0 (bare_is n (length groups) m h.1)) (put_has m groups)
on_keeps n groups m (literal v) h = behind_keeps n (spec.put m groups) (literal v) (put_is n m groups h.0 (bare_is n (length groups) m h.1)) (put_has m groups)
on_keeps n groups m opening h = behind_keeps n (spec.put m groups) opening (put_is n m groups h.0 (bare_is n (length groups) m h.1)) (put_has m groups)
on_keeps n groups m closing h = behind_keeps n (spec.put m groups) closing (put_is n m groups h.0 (bare_is n (length groups) m h.1)) (put_has m groups)
on_keeps n groups m bar h = behind_keeps n (spec.put m groups) bar (put_is n m groups h.0 (bare_is n (length groups) m h.1)) (put_has m groups)
on_keeps n groups m comma h = behind_keeps n (spec.put m groups) comma (put_is n m groups h.0 (bare_is n (length groups) m h.1)) (put_has m groups)
on_keeps n groups m question h = record { is = (put_is n (optional m) groups h.0 h.1, put_has (optional m) groups) }
on_keeps n groups m star h = record { is = (put_is n (any_number m) groups h.0 (star_is n (length groups) m h.1), put_has (any_number m) groups) }
on_keeps n groups m plus h = record { is = (put_is n (at_least_one m) groups h.0 (plus_is n (length groups) m h.1), put_has (at_least_one m) groups) }
on_keeps n groups m hash h = behind_keeps n (spec.put m groups) hash (put_is n m groups h.0 (bare_is n (length groups) m h.1)) (put_has m groups)
on_keeps n groups m percent h = behind_keeps n (spec.put m groups) percent (put_is n m groups h.0 (bare_is n (length groups) m h.1)) (put_has m groups)
on_keeps n groups m equals h = behind_keeps n (spec.put m groups) equals (put_is n m groups h.0 (bare_is n (length groups) m h.1)) (put_has m groups)
on_keeps n groups m other h = behind_keeps n (spec.put m groups) other (put_is n m groups h.0 (bare_is n (length groups) m h.1)) (put_has m groups)

children_are : (n : ℕ) (m : Model) → IsPart n 0 m → is_lawful_holding n (children m) ≡ true
children_are n m p = both (both (low_is (height m) p.low) p.within) p.matches
  where
    low_is : (k : ℕ) → 2 * 0 + k ≤ 402 → nat_le k height_limit ≡ true
    low_is k low = grind (arith, low)

group_keeps : (n : ℕ) (m : Model) (t : Token) → IsBare n 0 m → WentTo (StageIs n) (spec.group_step m t)
group_keeps n m gap h = record { is = children_are n m (bare_is n 0 m h) }
group_keeps n m (word w) h = record { is = tt }
group_keeps n m (literal v) h = record { is = tt }
group_keeps n m opening h = record { is = tt }
group_keeps n m closing h = record { is = tt }
group_keeps n m bar h = record { is = tt }
group_keeps n m comma h = record { is = tt }
group_keeps n m question h = record { is = children_are n (optional m) h }
group_keeps n m star h = record { is = children_are n (any_number m) (star_is n 0 m h) }
group_keeps n m plus h = record { is = children_are n (at_least_one m) (plus_is n 0 m h) }
group_keeps n m hash h = record { is = tt }
group_keeps n m percent h = record { is = tt }
group_keeps n m equals h = record { is = tt }
group_keeps n m other h = record { is = tt }

first_keeps : (names : List (List ℕ)) (t : Token) → WentTo (StageIs (length names)) (spec.first_step names t)
first_keeps names gap = record { is = tt }
first_keeps names (word w) = particle_keeps names (spec.new_group ∷ []) (word w) (new_is (length names) [] tt (omega arith))
first_keeps names (literal v) = particle_keeps names (spec.new_group ∷ []) (literal v) (new_is (length names) [] tt (omega arith))
first_keeps names opening = particle_keeps names (spec.new_group ∷ []) opening (new_is (length names) [] tt (omega arith))
first_keeps names closing = particle_keeps names (spec.new_group ∷ []) closing (new_is (length names) [] tt (omega arith))
first_keeps names bar = particle_keeps names (spec.new_group ∷ []) bar (new_is (length names) [] tt (omega arith))
first_keeps names comma = particle_keeps names (spec.new_group ∷ []) comma (new_is (length names) [] tt (omega arith))
first_keeps names question = particle_keeps names (spec.new_group ∷ []) question (new_is (length names) [] tt (omega arith))
first_keeps names star = particle_keeps names (spec.new_group ∷ []) star (new_is (length names) [] tt (omega arith))
first_keeps names plus = particle_keeps names (spec.new_group ∷ []) plus (new_is (length names) [] tt (omega arith))
first_keeps names hash = record { is = tt }
first_keeps names percent = particle_keeps names (spec.new_group ∷ []) percent (new_is (length names) [] tt (omega arith))
first_keeps names equals = particle_keeps names (spec.new_group ∷ []) equals (new_is (length names) [] tt (omega arith))
first_keeps names other = particle_keeps names (spec.new_group ∷ []) other (new_is (length names) [] tt (omega arith))

text_keeps : (n : ℕ) (t : Token) → WentTo (StageIs n) (spec.text_step t)
text_keeps n gap = record { is = tt }
text_keeps n (word w) = went_if _ (same w (codes "PCDATA")) _ _ (record { is = refl }) (record { is = tt })
text_keeps n (literal v) = record { is = tt }
text_keeps n opening = record { is = tt }
text_keeps n closing = record { is = tt }
text_keeps n bar = record { is = tt }
text_keeps n comma = record { is = tt }
text_keeps n question = record { is = tt }
text_keeps n star = record { is = tt }
text_keeps n plus = record { is = tt }
text_keeps n hash = record { is = tt }
text_keeps n percent = record { is = tt }
text_keeps n equals = record { is = tt }
text_keeps n other = record { is = tt }

behind_text_keeps : (n : ℕ) (es : List ℕ) (t : Token) → AllBelow n es → WentTo (StageIs n) (spec.behind_text_step es t)
behind_text_keeps n es gap h = record { is = h }
behind_text_keeps n es (word w) h = record { is = tt }
behind_text_keeps n es (literal v) h = record { is = tt }
behind_text_keeps n es opening h = record { is = tt }
behind_text_keeps n es closing h = record { is = h }
behind_text_keeps n es bar h = record { is = h }
behind_text_keeps n es comma h = record { is = tt }
behind_text_keeps n es question h = record { is = tt }
behind_text_keeps n es star h = record { is = tt }
behind_text_keeps n es plus h = record { is = tt }
behind_text_keeps n es hash h = record { is = tt }
behind_text_keeps n es percent h = record { is = tt }
behind_text_keeps n es equals h = record { is = tt }
behind_text_keeps n es other h = record { is = tt }

below_more : (n : ℕ) (es : List ℕ) (k : ℕ) → AllBelow n es → nat_lt k n ≡ true → AllBelow n (es ++ k ∷ [])
below_more n es k h e = list_all-append (λ e. nat_lt e n) es (k ∷ []) ∙ both h (both e refl)

element_keeps : (names : List (List ℕ)) (es : List ℕ) (t : Token) → AllBelow (length names) es → WentTo (StageIs (length names)) (spec.element_step names es t)
element_keeps names es gap h = record { is = h }
element_keeps names es (word w) h = went_on _ (StageIs (length names)) (spec.element_named names w) _ (element_below names w) (λ k e. record { is = below_more (length names) es k h e })
element_keeps names es (literal v) h = record { is = tt }
element_keeps names es opening h = record { is = tt }
element_keeps names es closing h = record { is = tt }
element_keeps names es bar h = record { is = tt }
element_keeps names es comma h = record { is = tt }
element_keeps names es question h = record { is = tt }
element_keeps names es star h = record { is = tt }
element_keeps names es plus h = record { is = tt }
element_keeps names es hash h = record { is = tt }
element_keeps names es percent h = record { is = tt }
element_keeps names es equals h = record { is = tt }
element_keeps names es other h = record { is = tt }

mixed_keeps : (n : ℕ) (es : List ℕ) (t : Token) → AllBelow n es → WentTo (StageIs n) (spec.mixed_step es t)
mixed_keeps n [] gap h = record { is = refl }
mixed_keeps n [] (word w) h = record { is = tt }
mixed_keeps n [] (literal v) h = record { is = tt }
mixed_keeps n [] opening h = record { is = tt }
mixed_keeps n [] closing h = record { is = tt }
mixed_keeps n [] bar h = record { is = tt }
mixed_keeps n [] comma h = record { is = tt }
mixed_keeps n [] question h = record { is = tt }
mixed_keeps n [] star h = record { is = h }
mixed_keeps n [] plus h = record { is = tt }
mixed_keeps n [] hash h = record { is = tt }
mixed_keeps n [] percent h = record { is = tt }
mixed_keeps n [] equals h = record { is = tt }
mixed_keeps n [] other h = record { is = tt }
mixed_keeps n (e ∷ es) gap h = record { is = tt }
mixed_keeps n (e ∷ es) (word w) h = record { is = tt }
mixed_keeps n (e ∷ es) (literal v) h = record { is = tt }
mixed_keeps n (e ∷ es) opening h = record { is = tt }
mixed_keeps n (e ∷ es) closing h = record { is = tt }
mixed_keeps n (e ∷ es) bar h = record { is = tt }
mixed_keeps n (e ∷ es) comma h = record { is = tt }
mixed_keeps n (e ∷ es) question h = record { is = tt }
mixed_keeps n (e ∷ es) star h = record { is = h }
mixed_keeps n (e ∷ es) plus h = record { is = tt }
mixed_keeps n (e ∷ es) hash h = record { is = tt }
mixed_keeps n (e ∷ es) percent h = record { is = tt }
mixed_keeps n (e ∷ es) equals h = record { is = tt }
mixed_keeps n (e ∷ es) other h = record { is = tt }

name_keeps : (n : ℕ) (t : Token) → WentTo (StageIs n) (spec.name_step t)
name_keeps n gap = record { is = tt }
name_keeps n (word w) = record { is = tt }
name_keeps n (literal v) = record { is = tt }
name_keeps n opening = record { is = tt }
name_keeps n closing = record { is = tt }
name_keeps n bar = record { is = tt }
name_keeps n comma = record { is = tt }
name_keeps n question = record { is = tt }
name_keeps n star = record { is = tt }
name_keeps n plus = record { is = tt }
name_keeps n hash = record { is = tt }
name_keeps n percent = record { is = tt }
name_keeps n equals = record { is = tt }
name_keeps n other = record { is = tt }

done_keeps : (n : ℕ) (holding : Holding) (t : Token) → is_lawful_holding n holding ≡ true → WentTo (StageIs n) (spec.done_step holding t)
done_keeps n holding gap h = record { is = h }
done_keeps n holding (word w) h = record { is = tt }
done_keeps n holding (literal v) h = record { is = tt }
done_keeps n holding opening h = record { is = tt }
done_keeps n holding closing h = record { is = tt }
done_keeps n holding bar h = record { is = tt }
done_keeps n holding comma h = record { is = tt }
done_keeps n holding question h = record { is = tt }
done_keeps n holding star h = record { is = tt }
done_keeps n holding plus h = record { is = tt }
done_keeps n holding hash h = record { is = tt }
done_keeps n holding percent h = record { is = tt }
done_keeps n holding equals h = record { is = tt }
done_keeps n holding other h = record { is = tt }

stage_keeps : (names : List (List ℕ)) (stage : Stage) (t : Token) → StageIs (length names) stage → Unit {0} → WentTo (StageIs (length names)) (spec.stage_step names stage t)
stage_keeps names behind_name t h u = name_keeps (length names) t
stage_keeps names at_content t h u = content_keeps (length names) t
stage_keeps names at_first t h u = first_keeps names t
stage_keeps names at_text t h u = text_keeps (length names) t
stage_keeps names (behind_text es) t h u = behind_text_keeps (length names) es t h
stage_keeps names (at_element es) t h u = element_keeps names es t h
stage_keeps names (behind_mixed es) t h u = mixed_keeps (length names) es t h
stage_keeps names (at_particle groups) t h u = particle_keeps names groups t h
stage_keeps names (on_particle groups m) t h u = on_keeps (length names) groups m t h
stage_keeps names (behind_particle groups) t h u = behind_keeps (length names) groups t h.0 h.1
stage_keeps names (behind_group m) t h u = group_keeps (length names) m t h
stage_keeps names (done holding) t h u = done_keeps (length names) holding t h

stage_ends : (n : ℕ) (stage : Stage) → StageIs n stage → WentTo (λ h. is_lawful_holding n h ≡ true) (spec.stage_end stage)
stage_ends n behind_name h = record { is = tt }
stage_ends n at_content h = record { is = tt }
stage_ends n at_first h = record { is = tt }
stage_ends n at_text h = record { is = tt }
stage_ends n (behind_text es) h = record { is = tt }
stage_ends n (at_element es) h = record { is = tt }
stage_ends n (behind_mixed []) h = record { is = refl }
stage_ends n (behind_mixed (e ∷ es)) h = record { is = tt }
stage_ends n (at_particle groups) h = record { is = tt }
stage_ends n (on_particle groups m) h = record { is = tt }
stage_ends n (behind_particle groups) h = record { is = tt }
stage_ends n (behind_group m) h = record { is = children_are n m (bare_is n 0 m h) }
stage_ends n (done holding) h = record { is = h }

all_any : (ts : List Token) → AreAll (λ t. Unit {0}) ts
all_any [] = tt
all_any (t ∷ ts) = (tt, all_any ts)

pub content_lawful : (names : List (List ℕ)) (ts : List Token) → WentTo (λ h. is_lawful_holding (length names) h ≡ true) (spec.content_of names ts)
content_lawful names ts =
    went_on (StageIs (length names)) _ (all_steps (spec.stage_step names) behind_name ts) spec.stage_end (steps_keep (StageIs (length names)) (λ t. Unit {0}) (spec.stage_step names) (stage_keeps names) behind_name ts tt (all_any ts))
    (stage_ends (length names))
