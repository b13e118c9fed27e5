-- The laws of nesting.
use Rattle.std.proofs.Common.{◌≡◌, ◌↔◌, ℕ, Bool, true, false, List, [], ◌∷◌, ◌++◌, refl, sym, ◌∙◌, ap, append-nil}
use Rattle.std.specs.Prelude.{if◌then◌else◌, nat_eq}
use Rattle.std.specs.Cmp.{unsigned_Decides}
use Rattle.text_base.specs.declared.page_token.PageToken.{PageToken}
use Rattle.text_base.specs.declared.page_token.PageToken.TheVariants.{Doctype, Start, End, Blank, Text, Misc, Bad}
use Rattle.tag_sums.specs.Trees.{Nodes, start_tag, end_tag, tokens_of, no_nodes, mark, element}
use Rattle.tag_sums.specs.Labels.{Mark, blank, text, misc, doctype, token_of as mark_token}
use Rattle.tag_sums.specs.Nesting.{Nest, match_tags, join, nest_token, nest_of, IsNested, torn, nest}
use Rattle.tag_sums.proofs.Associativity.{joins}

abbrev before : List ℕ → Nest → Nest
before xs torn = torn
before xs (nest c o) = nest (xs ++ c) o

before_if : (xs : List ℕ) (b : Bool) (t : Nest) → (if b then before xs t else torn) ≡ before xs (if b then t else torn)
before_if xs true t = refl
before_if xs false t = refl

match_before : (xs ca oa cb ob : List ℕ) → match_tags (xs ++ ca) oa cb ob ≡ before xs (match_tags ca oa cb ob)
match_before xs ca [] cb ob = ap (λ l. nest l ob) (joins xs ca cb)
match_before xs ca (q ∷ oa) [] ob = refl
match_before xs ca (q ∷ oa) (s ∷ cb) ob =
    ap (λ t. if nat_eq s q then t else torn) (match_before xs ca oa cb ob) ∙ before_if xs (nat_eq s q) (match_tags ca oa cb ob)

if_join : (b : Bool) (s t : Nest) → join (if b then s else torn) t ≡ (if b then join s t else torn)
if_join true s t = refl
if_join false s t = refl

join_if : (b : Bool) (s t : Nest) → join s torn ≡ torn → join s (if b then t else torn) ≡ (if b then join s t else torn)
join_if true s t e = refl
join_if false s t e = e

if_torn : (b : Bool) → (if b then torn else torn) ≡ torn
if_torn true = refl
if_torn false = refl

under : (ca oa : List ℕ) (q s : ℕ) (t : Nest) → join (nest ca (q ∷ oa)) (before (s ∷ []) t) ≡ (if nat_eq s q then join (nest ca oa) t else torn)
under ca oa q s torn = sym (if_torn (nat_eq s q))
under ca oa q s (nest c o) = refl

-- both second and third over openers of the first
at_opener : (ca oa : List ℕ) (q : ℕ) (ob cs oc : List ℕ) → match_tags ca (ob ++ q ∷ oa) cs oc ≡ join (nest ca (q ∷ oa)) (match_tags [] ob cs oc)
at_opener ca oa q [] [] oc = refl
at_opener ca oa q [] (d ∷ ds) oc = refl
at_opener ca oa q (p ∷ ps) [] oc = ap (nest ca) (sym (joins oc (p ∷ ps) (q ∷ oa)))
at_opener ca oa q (p ∷ ps) (d ∷ ds) oc =
    ap (λ t. if nat_eq d p then t else torn) (at_opener ca oa q ps ds oc) ∙ sym (join_if (nat_eq d p) (nest ca (q ∷ oa)) (match_tags [] ps ds oc) refl)

at_base : (ca t : List ℕ) (n : Nest) → join (nest ca []) (before t n) ≡ before (ca ++ t) n
at_base ca t torn = refl
at_base ca t (nest c o) = ap (λ l. nest l o) (sym (joins ca t c))

assoc_nest : (ca oa cb ob cs oc : List ℕ) → join (match_tags ca oa cb ob) (nest cs oc) ≡ join (nest ca oa) (match_tags cb ob cs oc)
assoc_nest ca [] cb ob cs oc =
    ap (λ l. match_tags l ob cs oc) (sym (append-nil (ca ++ cb)))
    ∙ match_before (ca ++ cb) [] ob cs oc
    ∙ sym (at_base ca cb (match_tags [] ob cs oc))
    ∙ ap (join (nest ca [])) (sym (match_before cb [] ob cs oc) ∙ ap (λ l. match_tags l ob cs oc) (append-nil cb))
assoc_nest ca (q ∷ oa) [] ob cs oc = at_opener ca oa q ob cs oc
assoc_nest ca (q ∷ oa) (s ∷ cb) ob cs oc =
    if_join (nat_eq s q) (match_tags ca oa cb ob) (nest cs oc)
    ∙ ap (λ t. if nat_eq s q then t else torn) (assoc_nest ca oa cb ob cs oc)
    ∙ sym (under ca oa q s (match_tags cb ob cs oc))
    ∙ ap (join (nest ca (q ∷ oa))) (sym (match_before (s ∷ []) cb ob cs oc))

join_torn : (a : Nest) → join a torn ≡ torn
join_torn torn = refl
join_torn (nest c o) = refl

pub assoc : (a b c : Nest) → join (join a b) c ≡ join a (join b c)
assoc torn b c = refl
assoc (nest ca oa) torn c = refl
assoc (nest ca oa) (nest cb ob) torn = join_torn (match_tags ca oa cb ob)
assoc (nest ca oa) (nest cb ob) (nest cs oc) = assoc_nest ca oa cb ob cs oc

unit_first : (a : Nest) → join (nest [] []) a ≡ a
unit_first torn = refl
unit_first (nest c o) = refl

unit_last : (a : Nest) → join a (nest [] []) ≡ a
unit_last torn = refl
unit_last (nest c []) = ap (λ l. nest l []) (append-nil c)
unit_last (nest c (q ∷ o)) = refl

pub nests_compose : (u v : List PageToken) → nest_of (u ++ v) ≡ join (nest_of u) (nest_of v)
nests_compose [] v = sym (unit_first (nest_of v))
nests_compose (t ∷ u) v = ap (join (nest_token t)) (nests_compose u v) ∙ sym (assoc (nest_token t) (nest_of u) (nest_of v))

-- what closes open elements one by one
abbrev Closes : List ℕ → List PageToken → Type 0
Closes [] ts = IsNested ts
Closes (e ∷ es) ts = (f : Nodes) × (rest : List PageToken) × (tokens_of f ++ end_tag e ∷ rest ≡ ts) × Closes es rest

mark_more : (m : Mark) (es : List ℕ) (ts : List PageToken) → Closes es ts → Closes es (mark_token m ∷ ts)
mark_more m [] ts k = (mark m k.0, ap (λ l. mark_token m ∷ l) k.1)
mark_more m (e ∷ es) ts k = (mark m k.0, k.1, ap (λ l. mark_token m ∷ l) k.2, k.3)

element_more : (e : ℕ) (es : List ℕ) (ts : List PageToken) → Closes (e ∷ es) ts → Closes es (start_tag e ∷ ts)
element_more e [] ts k = (element e k.0 k.3.0, ap (λ l. start_tag e ∷ (tokens_of k.0 ++ end_tag e ∷ l)) k.3.1 ∙ ap (λ l. start_tag e ∷ l) k.2)
element_more e (d ∷ es) ts k = (
  element e k.0 k.3.0,
  k.3.1,
  ap (λ l. start_tag e ∷ l) (joins (tokens_of k.0) (end_tag e ∷ tokens_of k.3.0) (end_tag d ∷ k.3.1))
      ∙ ap (λ l. start_tag e ∷ (tokens_of k.0 ++ end_tag e ∷ l)) k.3.2 ∙ ap (λ l. start_tag e ∷ l) k.2,
  k.3.3,
)

never : (s : ℕ) (c o : List ℕ) (t : Nest) → join (nest (s ∷ c) o) t ≡ nest [] [] → ⊥
never s c o torn e = cc
never s c o (nest d p) e = at (match_tags c o d p) (sym (match_before (s ∷ []) c o d p) ∙ e)
  where
    at : (t : Nest) → before (s ∷ []) t ≡ nest [] [] → ⊥
    at torn e = cc
    at (nest d p) e = cc

end_case : (e q : ℕ) (qs : List ℕ) (ts : List PageToken) (b : Bool) → nat_eq e q ≡ b → join (if b then nest [] qs else torn) (nest_of ts) ≡ nest [] [] → (join (nest [] qs) (nest_of ts) ≡ nest [] [] → Closes qs ts) → Closes (q ∷ qs) (end_tag e ∷ ts)
end_case e q qs ts true f k ih = (no_nodes, ts, ap (λ (x : ℕ). end_tag x ∷ ts) (sym ((unsigned_Decides e q).0 f)), ih k)
end_case e q qs ts false f k ih = cc

popped : (e q : ℕ) (qs : List ℕ) → join (nest [] (q ∷ qs)) (nest (e ∷ []) []) ≡ (if nat_eq e q then nest [] qs else torn)
popped e q [] = refl
popped e q (p ∷ qs) = refl

skip : (qs : List ℕ) (ts : List PageToken) → join (nest [] qs) (join (nest [] []) (nest_of ts)) ≡ nest [] [] → join (nest [] qs) (nest_of ts) ≡ nest [] []
skip qs ts k = ap (λ s. join s (nest_of ts)) (sym (unit_last (nest [] qs))) ∙ assoc (nest [] qs) (nest [] []) (nest_of ts) ∙ k

mark_neutral : (m : Mark) → nest_token (mark_token m) ≡ nest [] []
mark_neutral blank = refl
mark_neutral text = refl
mark_neutral misc = refl
mark_neutral doctype = refl

closed_by_tree : (ts : List PageToken) (qs : List ℕ) → join (nest [] qs) (nest_of ts) ≡ nest [] [] → Closes qs ts
closed_by_tree [] [] k = (no_nodes, refl)
closed_by_tree [] (q ∷ qs) k = cc
closed_by_tree (Start e ∷ ts) [] k = element_more e.0 [] ts (closed_by_tree ts (e.0 ∷ []) (assoc (nest [] []) (nest [] (e.0 ∷ [])) (nest_of ts) ∙ k))
closed_by_tree (Start e ∷ ts) (q ∷ qs) k = element_more e.0 (q ∷ qs) ts (closed_by_tree ts (e.0 ∷ q ∷ qs) (assoc (nest [] (q ∷ qs)) (nest [] (e.0 ∷ [])) (nest_of ts) ∙ k))
closed_by_tree (End e ∷ ts) [] k = absurd (never e.0 [] [] (nest_of ts) (assoc (nest [] []) (nest (e.0 ∷ []) []) (nest_of ts) ∙ k))
closed_by_tree (End e ∷ ts) (q ∷ qs) k =
    end_case e.0 q qs ts (nat_eq e.0 q) refl
    (ap (λ s. join s (nest_of ts)) (sym (popped e.0 q qs)) ∙ assoc (nest [] (q ∷ qs)) (nest (e.0 ∷ []) []) (nest_of ts) ∙ k)
    (closed_by_tree ts qs)
closed_by_tree (Doctype ∷ ts) qs k = mark_more doctype qs ts (closed_by_tree ts qs (skip qs ts k))
closed_by_tree (Blank ∷ ts) qs k = mark_more blank qs ts (closed_by_tree ts qs (skip qs ts k))
closed_by_tree (Text ∷ ts) qs k = mark_more text qs ts (closed_by_tree ts qs (skip qs ts k))
closed_by_tree (Misc ∷ ts) qs k = mark_more misc qs ts (closed_by_tree ts qs (skip qs ts k))
closed_by_tree (Bad ∷ ts) qs k = cc

-- a tree is neutral
tree_neutral : (f : Nodes) (ts : List PageToken) → nest_of (tokens_of f ++ ts) ≡ nest_of ts
tree_neutral no_nodes ts = refl
tree_neutral (mark m rest) ts = ap (λ s. join s (nest_of (tokens_of rest ++ ts))) (mark_neutral m) ∙ unit_first (nest_of (tokens_of rest ++ ts)) ∙ tree_neutral rest ts
tree_neutral (element e kids rest) ts =
    ap (λ l. join (nest [] (e ∷ [])) (nest_of l)) (joins (tokens_of kids) (end_tag e ∷ tokens_of rest) ts)
    ∙ ap (join (nest [] (e ∷ []))) (tree_neutral kids (end_tag e ∷ (tokens_of rest ++ ts)))
    ∙ sym (assoc (nest [] (e ∷ [])) (nest (e ∷ []) []) (nest_of (tokens_of rest ++ ts)))
    ∙ ap (λ s. join s (nest_of (tokens_of rest ++ ts))) (ap (λ (b : Bool). if b then nest [] [] else torn) ((unsigned_Decides e e).1 refl))
    ∙ unit_first (nest_of (tokens_of rest ++ ts))
    ∙ tree_neutral rest ts

pub whole_nested : (ts : List PageToken) → (nest_of ts ≡ nest [] []) ↔ IsNested ts
whole_nested ts = (
  λ e. closed_by_tree ts [] (unit_first (nest_of ts) ∙ e),
  λ t. ap nest_of (sym t.1 ∙ sym (append-nil (tokens_of t.0))) ∙ tree_neutral t.0 [],
)
