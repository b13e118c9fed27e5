-- The names of the declared elements.
use Rattle.std.proofs.Common.{◌≡◌, ◌∙◌, ℕ, ◌+◌, ◌<◌, true, List, [], ◌∷◌, ◌++◌, length, drop, get_or, map, Option, Some, None, refl, ap, subst, arith, length-append}
use Rattle.dtd_model.specs.Lawful.{is_distinct}
use Rattle.dtd_texts.specs.Reading.{Written}
use Rattle.dtd_texts.specs.Tables.{declared, element_names}
use Rattle.dtd_texts.proofs.Entities.{distinct_more}
use Rattle.dtd_tables.specs.Views.{IsNameCause, AddsName}
use Rattle.std.specs.Prelude.{Ok, Err}
use Rattle.dtd_tables.specs.declared.refusal.TableRefusal.{TableRefusal}
use Rattle.dtd_tables.specs.declared.refusal.TableRefusal.TheVariants.{Twice, Undeclared, Refused, LeftOut, Limit, Memory}
use Rattle.dtd_entities.specs.Positions.{written_of}
use Rattle.dtd_entities.specs.declared.state.Written.{Written as CodeWritten}
use Rattle.dtd_tables.proofs.Lists.{append_same, drop_item}

-- so far these names, and the rest of the declarations
pub record AreNames (names : List (List ℕ)) (rest all : List Written) : Type 0 where
  pub is : names ++ element_names rest ≡ element_names all
  pub once : is_distinct names ≡ true

pub names_go_on : (old new : List (List ℕ)) (w : Written) (rest all : List Written) (d : Option (List ℕ)) → declared w.text ≡ d → AddsName old new d (Ok tt) → AreNames old (w ∷ rest) all → AreNames new rest all
names_go_on old new w rest all None e adds are = rw adds (record { is = rw e at are.is; once = are.once })
names_go_on old new w rest all (Some name) e adds are = rw adds.0 (record {
  is = append_same old (name ∷ []) (element_names rest) ∙ (rw e at are.is);
  once = distinct_more old name are.once adds.1;
})

cause_more : (names more : List (List ℕ)) (r : TableRefusal) → IsNameCause names r → IsNameCause (names ++ more) r
cause_more names more (Twice name) h = record {
  before = h.before;
  behind = h.behind ++ more;
  is = ap (λ ns. ns ++ more) h.is ∙ append_same h.before (name ∷ h.behind) more;
  among = h.among;
}
cause_more names more (Undeclared name) h = h
cause_more names more (Refused at) h = h
cause_more names more (LeftOut at) h = h
cause_more names more (Limit count) h = (h.0, let few = h.1 in let long = length-append names more in omega (arith, few, long))
cause_more names more Memory h = tt

pub names_refuse : (old new : List (List ℕ)) (w : Written) (rest all : List Written) (d : Option (List ℕ)) (r : TableRefusal) → declared w.text ≡ d → AddsName old new d (Err r) → AreNames old (w ∷ rest) all → IsNameCause (element_names all) r
names_refuse old new w rest all None r e adds are = rw adds tt
names_refuse old new w rest all (Some name) r e adds are =
    subst (λ ns. IsNameCause ns r) (append_same old (name ∷ []) (element_names rest) ∙ (rw e at are.is)) (cause_more (old ++ name ∷ []) (element_names rest) r adds)

pub names_at : (old new : List (List ℕ)) (items : List CodeWritten) (i : ℕ) (w : CodeWritten) → i < length items → w ≡ get_or items i w → AreNames old (map written_of (drop i items)) (map written_of items)
    → AddsName old new (declared (written_of w).text) (Ok tt) → AreNames new (map written_of (drop (i + 1) items)) (map written_of items)
names_at old new items i w less is are adds =
    names_go_on old new (written_of w) (map written_of (drop (i + 1) items)) (map written_of items) (declared (written_of w).text) refl adds
    (subst (λ (xs : List CodeWritten). AreNames old (map written_of xs) (map written_of items)) (drop_item items i w less is) are)

pub refused_at : (old new : List (List ℕ)) (items : List CodeWritten) (i : ℕ) (w : CodeWritten) (r : TableRefusal) → i < length items → w ≡ get_or items i w → AreNames old (map written_of (drop i items)) (map written_of items)
    → AddsName old new (declared (written_of w).text) (Err r) → IsNameCause (element_names (map written_of items)) r
refused_at old new items i w r less is are adds =
    names_refuse old new (written_of w) (map written_of (drop (i + 1) items)) (map written_of items) (declared (written_of w).text) r refl adds
    (subst (λ (xs : List CodeWritten). AreNames old (map written_of xs) (map written_of items)) (drop_item items i w less is) are)
