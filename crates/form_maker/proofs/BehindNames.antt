-- What stands behind the name of an attribute, by its type, of what was kept first.
use Rattle.std.proofs.Common.{◌≡◌, ℕ, Bool, true, false, List, get_or, refl, sym, ◌∙◌, ap, Result, Ok, Err}
use Rattle.std.specs.Result.{OnOk}
use Rattle.xml_text.specs.Names.{is_name}
use Rattle.derivatives.specs.Expressions.{Expr, nothing}
use Rattle.derivatives.specs.Derivatives.{either_of, when}
use Rattle.dtd_model.specs.Table.{Declared, Kind, cdata, id, idref, idrefs, nmtoken, nmtokens, Presence, implied, required, with_default, fixed}
use Rattle.page_forms.specs.Quotes.{attribute_of}
use Rattle.page_forms.specs.Tags.{attribute_form, value_form}
use Rattle.form_maker.specs.Kept.{HasShared, shared, behind_equals, value_behind, fixed_form, declared_behind}
use Rattle.form_maker.specs.Making.{Making, pushed, changed, joined}
use Rattle.form_maker.specs.Quotes.{behind_name}

pub on_ok : {T F : Type 0} (r : Result T F) (P Q : Type 0) → (P → Q) → OnOk r P → OnOk r Q
on_ok (Ok t) P Q f p = f p
on_ok (Err e) P Q f p = tt

-- what is kept at a place for this type
pub kind_made : (entities : List (List ℕ)) (kind type : Kind) (place : ℕ) (old new : Making) → kind ≡ type → get_or old.kept place nothing ≡ value_behind entities type → new ≡ pushed (get_or old.kept place nothing) old
    → new ≡ pushed (value_behind entities kind) old
kind_made entities kind type place old new is at made =
    made ∙ ap (λ (x : Expr). pushed x old) at ∙ ap (λ (k : Kind). pushed (value_behind entities k) old) (sym is)

pub cdata_kept : (entities : List (List ℕ)) (old : Making) → HasShared entities old → get_or old.kept 1 nothing ≡ value_behind entities cdata
unfolding shared
cdata_kept entities old h = ap (λ (es : List Expr). get_or es 1 nothing) h.1

pub id_kept : (entities : List (List ℕ)) (old : Making) → HasShared entities old → get_or old.kept 2 nothing ≡ value_behind entities id
unfolding shared
id_kept entities old h = ap (λ (es : List Expr). get_or es 2 nothing) h.1

pub idref_kept : (entities : List (List ℕ)) (old : Making) → HasShared entities old → get_or old.kept 2 nothing ≡ value_behind entities idref
unfolding shared
idref_kept entities old h = ap (λ (es : List Expr). get_or es 2 nothing) h.1

pub idrefs_kept : (entities : List (List ℕ)) (old : Making) → HasShared entities old → get_or old.kept 3 nothing ≡ value_behind entities idrefs
unfolding shared
idrefs_kept entities old h = ap (λ (es : List Expr). get_or es 3 nothing) h.1

pub token_kept : (entities : List (List ℕ)) (old : Making) → HasShared entities old → get_or old.kept 4 nothing ≡ value_behind entities nmtoken
unfolding shared
token_kept entities old h = ap (λ (es : List Expr). get_or es 4 nothing) h.1

pub tokens_kept : (entities : List (List ℕ)) (old : Making) → HasShared entities old → get_or old.kept 5 nothing ≡ value_behind entities nmtokens
unfolding shared
tokens_kept entities old h = ap (λ (es : List Expr). get_or es 5 nothing) h.1

-- an attribute whose name is none is nothing
named : (entities : List (List ℕ)) (d : Declared) → is_name d.name ≡ true → behind_name d.name (declared_behind entities d) ≡ attribute_form entities d
unfolding attribute_form
named entities d h = sym (ap (λ (b : Bool). when b (attribute_of d.name (value_form entities d))) h)

unnamed : (entities : List (List ℕ)) (d : Declared) → is_name d.name ≡ false → nothing ≡ attribute_form entities d
unfolding attribute_form
unnamed entities d h = sym (ap (λ (b : Bool). when b (attribute_of d.name (value_form entities d))) h)

pub with_name : (entities : List (List ℕ)) (d : Declared) (name : List ℕ) (old mid new : Making) → name ≡ d.name → is_name name ≡ true → mid ≡ pushed (declared_behind entities d) old → new ≡ changed (behind_name name) mid
    → new ≡ pushed (attribute_form entities d) old
with_name entities d name old mid new same h first second =
    second ∙ ap (changed (behind_name name)) first ∙ ap (λ (n : List ℕ). pushed (behind_name n (declared_behind entities d)) old) same
    ∙ ap (λ (e : Expr). pushed e old) (named entities d (sym (ap is_name same) ∙ h))

pub without_name : (entities : List (List ℕ)) (d : Declared) (name : List ℕ) (old new : Making) → name ≡ d.name → is_name name ≡ false → new ≡ pushed nothing old → new ≡ pushed (attribute_form entities d) old
without_name entities d name old new same h is = is ∙ ap (λ (e : Expr). pushed e old) (unnamed entities d (sym (ap is_name same) ∙ h))

-- a value that is not fixed is one of its type
abbrev pub IsPlain : Presence → Type 0
IsPlain implied = Unit {0}
IsPlain required = Unit {0}
IsPlain with_default = Unit {0}
IsPlain (fixed wanted) = ⊥

pub unfixed : (entities : List (List ℕ)) (name : List ℕ) (kind : Kind) (p : Presence) → IsPlain p
    → (let d : Declared = record { name = name; kind = kind; presence = p } in value_behind entities kind ≡ declared_behind entities d)
unfolding value_form
unfixed entities name kind implied h = refl
unfixed entities name kind required h = refl
unfixed entities name kind with_default h = refl
unfixed entities name kind (fixed wanted) h = absurd h

pub plain_made : (entities : List (List ℕ)) (name : List ℕ) (kind : Kind) (p : Presence) (old new : Making) → IsPlain p → new ≡ pushed (value_behind entities kind) old
    → (let d : Declared = record { name = name; kind = kind; presence = p } in new ≡ pushed (declared_behind entities d) old)
plain_made entities name kind p old new h is = is ∙ ap (λ (e : Expr). pushed e old) (unfixed entities name kind p h)

-- a fixed value in either quote
pub fixed_made : (entities : List (List ℕ)) (name : List ℕ) (kind : Kind) (wanted : List ℕ) (p : Presence) (old one two three new : Making) → p ≡ fixed wanted → one ≡ pushed (fixed_form entities kind wanted 34) old
    → two ≡ pushed (fixed_form entities kind wanted 39) one → three ≡ joined either_of two → new ≡ changed behind_equals three
    → (let d : Declared = record { name = name; kind = kind; presence = p } in new ≡ pushed (declared_behind entities d) old)
unfolding value_form
fixed_made entities name kind wanted p old one two three new h e1 e2 e3 e4 =
    e4 ∙ ap (changed behind_equals) (e3 ∙ ap (joined either_of) (e2 ∙ ap (pushed (fixed_form entities kind wanted 39)) e1))
    ∙ sym (ap (λ (x : Presence). let d : Declared = record { name = name; kind = kind; presence = x } in pushed (declared_behind entities d) old) h)
