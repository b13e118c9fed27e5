-- The attributes of a tag, from the last one on, and tags in their order.
use Rattle.std.proofs.Common.{◌≡◌, ℕ, Bool, true, false, List, [], ◌∷◌, ◌++◌, Option, Some, None, refl, sym, ◌∙◌, ap, append-nil, append_assoc}
use Rattle.derivatives.specs.Expressions.{Expr, nothing, empty, Members, none, member}
use Rattle.dtd_model.specs.Table.{Declared, Rule}
use Rattle.page_model.specs.Attributes.{must_stand}
use Rattle.page_forms.specs.Tags.{attribute_form, attribute_members, any_order, with_member}
use Rattle.form_maker.specs.Kept.{HasShared, shared, keeping, element_forms, tag_forms}
use Rattle.form_maker.specs.Making.{Making, pushed, joined, with_one}
use Rattle.form_maker.specs.Words.{members_before}

one_of_all : (must : Bool) (ms : Option Members) (e : Expr) → with_one must (any_order ms) e ≡ any_order (with_member e must ms)
one_of_all true None nothing = refl
one_of_all true None e = refl
one_of_all true (Some none) nothing = refl
one_of_all true (Some none) e = refl
one_of_all true (Some (member x q ms)) nothing = refl
one_of_all true (Some (member x q ms)) e = refl
one_of_all false None nothing = refl
one_of_all false None e = refl
one_of_all false (Some none) nothing = refl
one_of_all false (Some none) e = refl
one_of_all false (Some (member x q ms)) nothing = refl
one_of_all false (Some (member x q ms)) e = refl

members_are : (entities : List (List ℕ)) (tag : List ℕ) (ds : List Declared) → members_before entities tag ds empty ≡ any_order (attribute_members entities tag ds)
members_are entities tag [] = refl
members_are entities tag (d ∷ ds) =
    ap (λ (e : Expr). with_one (must_stand tag d) e (attribute_form entities d)) (members_are entities tag ds)
    ∙ one_of_all (must_stand tag d) (attribute_members entities tag ds) (attribute_form entities d)

members_end : (entities : List (List ℕ)) (tag : List ℕ) (ds : List Declared) (d : Declared) (e : Expr)
    → members_before entities tag (ds ++ d ∷ []) e ≡ members_before entities tag ds (with_one (must_stand tag d) e (attribute_form entities d))
members_end entities tag [] d e = refl
members_end entities tag (c ∷ ds) d e = ap (λ (x : Expr). with_one (must_stand tag c) x (attribute_form entities c)) (members_end entities tag ds d e)

-- with the attributes that are left it is all of them
pub record HasMembers (entities : List (List ℕ)) (tag : List ℕ) (all left : List Declared) (old now : Making) : Type 0 where
  pub made : Expr
  pub is : now ≡ pushed made old
  pub on : members_before entities tag left made ≡ any_order (attribute_members entities tag all)

pub no_member : (entities : List (List ℕ)) (tag : List ℕ) (all left : List Declared) (old now : Making) → left ≡ all → now ≡ pushed empty old → HasMembers entities tag all left old now
no_member entities tag all left old now same is = record { made = empty; is = is; on = ap (λ (ds : List Declared). members_before entities tag ds empty) same ∙ members_are entities tag all }

-- what is kept stays
pub still_shared : (entities : List (List ℕ)) (old now : Making) (e : Expr) → now ≡ pushed e old → HasShared entities old → HasShared entities now
still_shared entities old now e is h = (h.0, ap (λ (m : Making). m.kept) is ∙ h.1)

pub member_kept : (entities : List (List ℕ)) (tag : List ℕ) (all left : List Declared) (old now : Making) → HasMembers entities tag all left old now → HasShared entities old → HasShared entities now
member_kept entities tag all left old now so h = still_shared entities old now so.made so.is h

pub one_member : (entities : List (List ℕ)) (tag : List ℕ) (all left others : List Declared) (d : Declared) (must : Bool) (old now mid next : Making) → HasMembers entities tag all left old now → left ≡ others ++ d ∷ []
    → mid ≡ pushed (attribute_form entities d) now → must ≡ must_stand tag d → next ≡ joined (with_one must) mid → HasMembers entities tag all others old next
one_member entities tag all left others d must old now mid next so is first required second = record {
  made = with_one must so.made (attribute_form entities d);
  is = second ∙ ap (joined (with_one must)) (first ∙ ap (pushed (attribute_form entities d)) so.is);
  on = ap (λ (b : Bool). members_before entities tag others (with_one b so.made (attribute_form entities d))) required ∙ sym (members_end entities tag others d so.made)
      ∙ ap (λ (ds : List Declared). members_before entities tag ds so.made) (sym is) ∙ so.on;
}

pub all_members : (entities : List (List ℕ)) (tag : List ℕ) (all left : List Declared) (old now : Making) → HasMembers entities tag all left old now → left ≡ [] → now ≡ pushed (any_order (attribute_members entities tag all)) old
all_members entities tag all left old now so is =
    so.is ∙ ap (λ (e : Expr). pushed e old) (ap (λ (ds : List Declared). members_before entities tag ds so.made) (sym is) ∙ so.on)

-- with the elements that are left it is all of them
pub record HasTags (entities : List (List ℕ)) (rest all : List Rule) (old now : Making) : Type 0 where
  pub made : List Expr
  pub is : now ≡ keeping made old
  pub on : made ++ tag_forms entities rest ≡ tag_forms entities all

makings : (s k l : List Expr) → k ≡ l → (let m : Making = record { stack = s; kept = k } in m ≡ record { stack = s; kept = l })
makings s k l e = ap (λ (x : List Expr). let m : Making = record { stack = s; kept = x } in m) e

pub no_tags : (entities : List (List ℕ)) (all : List Rule) (m : Making) → HasTags entities all all m m
no_tags entities all m = record { made = []; is = makings m.stack m.kept (m.kept ++ []) (sym (append-nil m.kept)); on = refl }

pub kept_more : (entities : List (List ℕ)) (es : List Expr) (old now : Making) → now ≡ keeping es old → HasShared entities old → HasShared entities now
kept_more entities es old now is h = (h.0 ++ es, ap (λ (m : Making). m.kept) is ∙ ap (λ (xs : List Expr). xs ++ es) h.1 ∙ append_assoc (shared entities) h.0 es)

pub tags_kept : (entities : List (List ℕ)) (rest all : List Rule) (old now : Making) → HasTags entities rest all old now → HasShared entities old → HasShared entities now
tags_kept entities rest all old now so h = kept_more entities so.made old now so.is h

pub one_element : (entities : List (List ℕ)) (rest others all : List Rule) (rule : Rule) (old now next : Making) → HasTags entities rest all old now → rest ≡ rule ∷ others → next ≡ keeping (element_forms entities rule []) now
    → HasTags entities others all old next
one_element entities rest others all rule old now next so is made = record {
  made = so.made ++ element_forms entities rule [];
  is = made ∙ ap (keeping (element_forms entities rule [])) so.is
      ∙ makings old.stack ((old.kept ++ so.made) ++ element_forms entities rule []) (old.kept ++ (so.made ++ element_forms entities rule [])) (append_assoc old.kept so.made (element_forms entities rule []));
  on = append_assoc so.made (element_forms entities rule []) (tag_forms entities others) ∙ ap (λ (rs : List Rule). so.made ++ tag_forms entities rs) (sym is) ∙ so.on;
}

pub all_elements : (entities : List (List ℕ)) (rest all : List Rule) (old now : Making) → HasTags entities rest all old now → rest ≡ [] → now ≡ keeping (tag_forms entities all) old
all_elements entities rest all old now so is =
    so.is ∙ ap (λ (es : List Expr). keeping es old) (sym (append-nil so.made) ∙ ap (λ (rs : List Rule). so.made ++ tag_forms entities rs) (sym is) ∙ so.on)
