-- The forms of references and of tags are kept one behind the other.
use Rattle.std.proofs.Common.{◌≡◌, ℕ, List, [], ◌∷◌, ◌++◌, ◌∙◌, ap, append_assoc}
use Rattle.dtd_model.specs.Table.{Table}
use Rattle.derivatives.specs.Expressions.{Expr}
use Rattle.form_maker.specs.Kept.{keeping}
use Rattle.form_maker.specs.Making.{Making, pushed, moved}
use Rattle.broken_forms.specs.LooseForms.{names_of, loose_reference_form, loose_tag_form, end_form}
use Rattle.broken_readers.specs.Kept.{tag_forms}

-- one that is made and kept
kept_first : {e : Expr} {mid next : Making} (old : Making) → mid ≡ pushed e old → next ≡ moved mid → next ≡ keeping (e ∷ []) old
kept_first old first second = second ∙ ap moved first

-- and one more
kept_next : (es : List Expr) (e : Expr) {now mid next : Making} (old : Making) → now ≡ keeping es old → mid ≡ pushed e now → next ≡ moved mid → next ≡ keeping (es ++ e ∷ []) old
kept_next es e {now = now} old so first second =
    kept_first now first second ∙ ap (keeping (e ∷ [])) so ∙ ap (λ (k : List Expr). let m : Making = record { stack = old.stack; kept = k } in m) (append_assoc old.kept es (e ∷ []))

pub tags_kept : (table : Table) (entities starts ends : List (List ℕ)) {m1 m2 m3 m4 m5 m6 : Making} (m0 : Making) → entities ≡ table.entities → starts ≡ names_of table → ends ≡ names_of table
    → m1 ≡ pushed (loose_reference_form entities) m0 → m2 ≡ moved m1 → m3 ≡ pushed (loose_tag_form starts) m2 → m4 ≡ moved m3 → m5 ≡ pushed (end_form ends) m4 → m6 ≡ moved m5
    → m6 ≡ keeping (tag_forms table) m0
tags_kept table entities starts ends {m1 = m1} {m2 = m2} {m3 = m3} {m4 = m4} {m5 = m5} m0 es ss fs e1 e2 e3 e4 e5 e6 =
    let reference : Expr = loose_reference_form table.entities in
    let tag : Expr = loose_tag_form (names_of table) in
    let end_tag : Expr = end_form (names_of table) in
    let first : m1 ≡ pushed reference m0 = e1 ∙ ap (λ (x : List (List ℕ)). pushed (loose_reference_form x) m0) es in
    let second : m3 ≡ pushed tag m2 = e3 ∙ ap (λ (x : List (List ℕ)). pushed (loose_tag_form x) m2) ss in
    let third : m5 ≡ pushed end_tag m4 = e5 ∙ ap (λ (x : List (List ℕ)). pushed (end_form x) m4) fs in
    let one : m2 ≡ keeping (reference ∷ []) m0 = kept_first m0 first e2 in
    let two : m4 ≡ keeping (reference ∷ tag ∷ []) m0 = kept_next (reference ∷ []) tag m0 one second e4 in
    kept_next (reference ∷ tag ∷ []) end_tag m0 two third e6
