-- What is kept, one behind the other.
use Rattle.std.proofs.Common.{◌≡◌, ℕ, List, [], ◌∷◌, ◌++◌, ◌∙◌, ap, codes, append_assoc}
use Rattle.dtd_model.specs.Table.{Rule, Table}
use Rattle.derivatives.specs.Expressions.{Expr}
use Rattle.derivatives.specs.Derivatives.{chain_of}
use Rattle.page_forms.specs.Simple.{end_tag_form}
use Rattle.page_forms.specs.Tags.{any_order, attribute_members, tag_form, start_tag_form, empty_tag_form}
use Rattle.page_forms.specs.Words.{word, blanks}
use Rattle.form_maker.specs.Kept.{HasShared, shared, simple_forms, tag_forms, all_forms, keeping, element_forms}
use Rattle.form_maker.specs.Making.{Making, pushed, joined, moved}
use Rattle.form_maker.proofs.Attributes.{still_shared, kept_more}

-- the first one that is kept, and one more
pub kept_first : {e : Expr} {mid next : Making} (old : Making) → mid ≡ pushed e old → next ≡ moved mid → next ≡ keeping (e ∷ []) old
kept_first old first second = second ∙ ap moved first

pub kept_both : (es fs : List Expr) (old now next : Making) → now ≡ keeping es old → next ≡ keeping fs now → next ≡ keeping (es ++ fs) old
kept_both es fs old now next first second =
    second ∙ ap (keeping fs) first ∙ ap (λ (k : List Expr). let m : Making = record { stack = old.stack; kept = k } in m) (append_assoc old.kept es fs)

pub kept_next : (es : List Expr) {e : Expr} {now mid next : Making} (old : Making) → now ≡ keeping es old → mid ≡ pushed e now → next ≡ moved mid → next ≡ keeping (es ++ e ∷ []) old
kept_next es {e = e} {now = now} {mid = mid} {next = next} old so first second = kept_both es (e ∷ []) old now next so (kept_first now first second)

-- a tag, from its parts
pub tag_made : (closer : List ℕ) (entities : List (List ℕ)) (rule : Rule) (name : List ℕ) {m1 m2 m3 m4 m5 m6 m7 m8 m9 : Making} (m0 : Making) → name ≡ rule.name → HasShared entities m0 → m1 ≡ pushed (word (codes "<")) m0
    → m2 ≡ pushed (word name) m1 → (HasShared entities m2 → m3 ≡ pushed (any_order (attribute_members entities name rule.attributes)) m2) → m4 ≡ pushed blanks m3 → m5 ≡ pushed (word closer) m4 → m6 ≡ joined chain_of m5
    → m7 ≡ joined chain_of m6 → m8 ≡ joined chain_of m7 → m9 ≡ joined chain_of m8 → m9 ≡ pushed (tag_form closer entities rule) m0
tag_made closer entities rule name {m1 = m1} {m2 = m2} m0 same h e1 e2 e3 e4 e5 e6 e7 e8 e9 =
    let named = e2 ∙ ap (pushed (word name)) e1 in
    let both : HasShared entities m2 = still_shared entities m1 m2 (word name) e2 (still_shared entities m0 m1 (word (codes "<")) e1 h) in
    let parts = e5 ∙ ap (pushed (word closer)) (e4 ∙ ap (pushed blanks) (e3 both ∙ ap (pushed (any_order (attribute_members entities name rule.attributes))) named)) in
    e9 ∙ ap (joined chain_of) (e8 ∙ ap (joined chain_of) (e7 ∙ ap (joined chain_of) (e6 ∙ ap (joined chain_of) parts)))
    ∙ ap (λ (n : List ℕ). pushed (chain_of (word (codes "<")) (chain_of (word n) (chain_of (any_order (attribute_members entities n rule.attributes)) (chain_of blanks (word closer))))) m0) same

-- the tags of an element
pub element_made : (entities : List (List ℕ)) (rule : Rule) (name : List ℕ) {m1 m2 m3 m4 m5 m6 : Making} (m0 : Making) → name ≡ rule.name → HasShared entities m0
    → (HasShared entities m0 → m1 ≡ pushed (tag_form (codes ">") entities rule) m0) → m2 ≡ moved m1 → (HasShared entities m2 → m3 ≡ pushed (tag_form (codes "/>") entities rule) m2) → m4 ≡ moved m3
    → m5 ≡ pushed (end_tag_form name) m4 → m6 ≡ moved m5 → m6 ≡ keeping (element_forms entities rule []) m0
unfolding start_tag_form empty_tag_form
element_made entities rule name {m2 = m2} {m4 = m4} m0 same h e1 e2 e3 e4 e5 e6 =
    let first : m2 ≡ keeping (tag_form (codes ">") entities rule ∷ []) m0 = kept_first m0 (e1 h) e2 in
    let shares : HasShared entities m2 = kept_more entities (tag_form (codes ">") entities rule ∷ []) m0 m2 first h in
    kept_next (tag_form (codes ">") entities rule ∷ tag_form (codes "/>") entities rule ∷ []) m0
    (kept_next (tag_form (codes ">") entities rule ∷ []) m0 first (e3 shares) e4) (e5 ∙ ap (λ (n : List ℕ). pushed (end_tag_form n) m4) same) e6

-- all that is kept
pub all_made : (table : Table) (entities : List (List ℕ)) {m1 m2 m3 : Making} (m0 : Making) → entities ≡ table.entities → m0.kept ≡ [] → m1 ≡ keeping (shared entities) m0 → m2 ≡ keeping (simple_forms table.doctype) m1
    → (HasShared table.entities m2 → m3 ≡ keeping (tag_forms table.entities table.elements) m2) → m3.kept ≡ all_forms table
all_made table entities {m1 = m1} {m2 = m2} {m3 = m3} m0 same none e1 e2 e3 =
    let start : m1.kept ≡ shared table.entities = ap (λ (m : Making). m.kept) e1 ∙ ap (λ (k : List Expr). k ++ shared entities) none ∙ ap shared same in
    let then_simple : m2.kept ≡ shared table.entities ++ simple_forms table.doctype = ap (λ (m : Making). m.kept) e2 ∙ ap (λ (k : List Expr). k ++ simple_forms table.doctype) start in
    ap (λ (m : Making). m.kept) (e3 (simple_forms table.doctype, then_simple)) ∙ ap (λ (k : List Expr). k ++ tag_forms table.entities table.elements) then_simple
    ∙ append_assoc (shared table.entities) (simple_forms table.doctype) (tag_forms table.entities table.elements)
