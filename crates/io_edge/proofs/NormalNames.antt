-- Laws of names: the normal form is its own normal form, and a name of one plain part is itself.
use Rattle.std.proofs.Common.{◌≡◌, ◌==◌, ◌++◌, ◌∙◌, ◌&&◌, not, ℕ, List, [], ◌∷◌, length, Bool, true, false, Some, None, bytes_eq, refl, ap, sym, subst, arith}
use Rattle.std.specs.Prelude.{⊤, T, suc, if◌then◌else◌}
use Rattle.std.proofs.Math.Facts.{eqb_yes}
use Rattle.std.specs.List.{filter, fold, join_with_byte, last_or, onto_first, slice_split}
use Rattle.std.specs.Path.{slash, cur_dir, parent_dir, is_name, has_no_slash}
use Rattle.std.proofs.lemmas.List.Splits.{slice_split-cons_yes, slice_split-cons_no}
use Rattle.std.proofs.lemmas.List.Sums.{fold-append}
use Rattle.io_edge.specs.Names.{parts_of, is_absolute, back_from, with_part, normal_parts, name_with, normal}
use Rattle.io_edge.proofs.NameLemmas.{last_of, back_plain, back_dots}

-- a part of a name: neither empty nor `.`, and without a slash
record IsPart (part : List ℕ) : Type 0 where
  named : is_name part ≡ true
  whole : has_no_slash part ≡ true

AreParts : List (List ℕ) → Type 0
AreParts [] = ⊤
AreParts (part ∷ parts) = IsPart part × AreParts parts

AreWhole : List (List ℕ) → Type 0
AreWhole [] = ⊤
AreWhole (part ∷ parts) = (has_no_slash part ≡ true) × AreWhole parts

-- the pieces between slashes have none
longer : (b : ℕ) (bs : List ℕ) → (b == slash) ≡ false → has_no_slash bs ≡ true → has_no_slash (b ∷ bs) ≡ true
longer b bs e whole = rw e whole

onto : (b : ℕ) (parts : List (List ℕ)) → (b == slash) ≡ false → AreWhole parts → AreWhole (onto_first b parts)
unfolding AreWhole
onto b [] e whole = (longer b [] e refl, tt)
onto b (part ∷ parts) e whole = (longer b part e whole.0, whole.1)

pieces_whole : (name : List ℕ) → AreWhole (slice_split (λ b. b == slash) name)
unfolding AreWhole
pieces_whole [] = (refl, tt)
pieces_whole (b ∷ name) = by (b == slash) refl (pieces_whole name)
  where
    by : (t : Bool) → (b == slash) ≡ t → AreWhole (slice_split (λ b. b == slash) name) → AreWhole (slice_split (λ b. b == slash) (b ∷ name))
    by true e rest = subst AreWhole (sym (slice_split-cons_yes (λ b. b == slash) b name e)) (refl, rest)
    by false e rest = subst AreWhole (sym (slice_split-cons_no (λ b. b == slash) b name e)) (onto b (slice_split (λ b. b == slash) name) e rest)

-- so those that are kept are parts
kept : (pieces : List (List ℕ)) → AreWhole pieces → AreParts (filter is_name pieces)
unfolding AreWhole AreParts
kept [] whole = tt
kept (piece ∷ pieces) whole = by (is_name piece) refl (kept pieces whole.1)
  where
    by : (t : Bool) → is_name piece ≡ t → AreParts (filter is_name pieces) → AreParts (filter is_name (piece ∷ pieces))
    by true e rest = rw e (record { named = e; whole = whole.0 }, rest)
    by false e rest = rw e rest

parts_are_parts : (name : List ℕ) → AreParts (parts_of name)
parts_are_parts name = kept (slice_split (λ b. b == slash) name) (pieces_whole name)

-- and parts are kept
all_kept : (parts : List (List ℕ)) → AreParts parts → filter is_name parts ≡ parts
unfolding AreParts
all_kept [] are = refl
all_kept (part ∷ parts) are = rw are.0.named (ap (λ (ps : List (List ℕ)). part ∷ ps) (all_kept parts are.1))

-- parts that are put together are cut as they were
is_other : (b : ℕ) (bs : List ℕ) → has_no_slash (b ∷ bs) ≡ true → (b == slash) ≡ false
is_other b bs whole = by (b == slash) refl whole
  where
    by : (t : Bool) → (b == slash) ≡ t → (not t && has_no_slash bs) ≡ true → (b == slash) ≡ false
    by true e none = cc
    by false e some = e

rest_whole : (b : ℕ) (bs : List ℕ) → has_no_slash (b ∷ bs) ≡ true → has_no_slash bs ≡ true
rest_whole b bs whole = by (b == slash) whole
  where
    by : (t : Bool) → (not t && has_no_slash bs) ≡ true → has_no_slash bs ≡ true
    by true none = cc
    by false some = some

one_piece : (part : List ℕ) → has_no_slash part ≡ true → slice_split (λ b. b == slash) part ≡ part ∷ []
one_piece [] whole = refl
one_piece (b ∷ part) whole =
    slice_split-cons_no (λ b. b == slash) b part (is_other b part whole) ∙ ap (onto_first b) (one_piece part (rest_whole b part whole))

first_piece : (part rest : List ℕ) → has_no_slash part ≡ true → slice_split (λ b. b == slash) (part ++ slash ∷ rest) ≡ part ∷ slice_split (λ b. b == slash) rest
first_piece [] rest whole = refl
first_piece (b ∷ part) rest whole =
    slice_split-cons_no (λ b. b == slash) b (part ++ slash ∷ rest) (is_other b part whole) ∙ ap (onto_first b) (first_piece part rest (rest_whole b part whole))

cut_again : (part : List ℕ) (parts : List (List ℕ)) → AreParts (part ∷ parts) → slice_split (λ b. b == slash) (join_with_byte slash (part ∷ parts)) ≡ part ∷ parts
unfolding AreParts
cut_again part [] are = one_piece part are.0.whole
cut_again part (other ∷ parts) are =
    first_piece part (join_with_byte slash (other ∷ parts)) are.0.whole ∙ ap (λ (ps : List (List ℕ)). part ∷ ps) (cut_again other parts are.1)

nonzero : (n : ℕ) → (suc n == 0) ≡ false
nonzero n = by (suc n == 0) refl
  where
    by : (t : Bool) → (suc n == 0) ≡ t → (suc n == 0) ≡ false
    by true e = absurd (let h : suc n ≡ 0 = eqb_yes (subst T (sym e) tt) in omega (arith, h))
    by false e = e

-- a relative name of some parts is those
some_parts : (part : List ℕ) (parts : List (List ℕ)) → name_with false (part ∷ parts) ≡ join_with_byte slash (part ∷ parts)
some_parts part parts = ap (λ (t : Bool). if t then cur_dir else join_with_byte slash (part ∷ parts)) (nonzero (length parts))

parts_again : (absolute : Bool) (parts : List (List ℕ)) → AreParts parts → parts_of (name_with absolute parts) ≡ parts
parts_again true [] are = refl
parts_again true (part ∷ parts) are = ap (filter is_name) (cut_again part parts are) ∙ all_kept (part ∷ parts) are
parts_again false [] are = refl
parts_again false (part ∷ parts) are = ap parts_of (some_parts part parts) ∙ ap (filter is_name) (cut_again part parts are) ∙ all_kept (part ∷ parts) are

first_byte : (b : ℕ) (part : List ℕ) (parts : List (List ℕ)) → (b == slash) ≡ false → is_absolute (join_with_byte slash ((b ∷ part) ∷ parts)) ≡ false
first_byte b part [] e = e
first_byte b part (other ∷ parts) e = e

absolute_again : (absolute : Bool) (parts : List (List ℕ)) → AreParts parts → is_absolute (name_with absolute parts) ≡ absolute
unfolding AreParts
absolute_again true parts are = refl
absolute_again false [] are = refl
absolute_again false ([] ∷ parts) are = let none : is_name [] ≡ true = are.0.named in cc
absolute_again false ((b ∷ part) ∷ parts) are = ap is_absolute (some_parts (b ∷ part) parts) ∙ first_byte b part parts (is_other b part are.0.whole)

-- the parts of a normal form, the last one told first: `..` stands before all others, and only in relative names
data AllDots : List (List ℕ) → Type 0 where
  none : AllDots []
  more : (parts : List (List ℕ)) → AllDots parts → AllDots (parts ++ parent_dir ∷ [])

data AreNormal (absolute : Bool) : List (List ℕ) → Type 0 where
  none : AreNormal absolute []
  dots : (parts : List (List ℕ)) → absolute ≡ false → AllDots parts → AreNormal absolute (parts ++ parent_dir ∷ [])
  plain : (parts : List (List ℕ)) (part : List ℕ) → AreNormal absolute parts → bytes_eq part parent_dir ≡ false → IsPart part
      → AreNormal absolute (parts ++ part ∷ [])

dots_go_on : (parts : List (List ℕ)) → AllDots parts → with_part false parts parent_dir ≡ parts ++ parent_dir ∷ []
dots_go_on _ none = refl
dots_go_on _ (more parts all) = sym (back_dots false (parts ++ parent_dir ∷ []) parts parent_dir refl refl)

plain_goes_on : (absolute : Bool) (parts : List (List ℕ)) (part : List ℕ) → bytes_eq part parent_dir ≡ false → with_part absolute parts part ≡ parts ++ part ∷ []
plain_goes_on absolute parts part e = rw e refl

-- one more part keeps that
stays_normal : (absolute : Bool) (parts : List (List ℕ)) (part : List ℕ) → AreNormal absolute parts → IsPart part → AreNormal absolute (with_part absolute parts part)
stays_normal absolute parts part are is = by (bytes_eq part parent_dir) refl
  where
    back : (b : Bool) (ps : List (List ℕ)) → AreNormal b ps → AreNormal b (back_from b ps (last_or None ps))
    back true _ none = none
    back false _ none = dots [] refl none
    back b _ (dots ps e all) = subst (AreNormal b) (back_dots b (ps ++ parent_dir ∷ []) ps parent_dir refl refl) (dots (ps ++ parent_dir ∷ []) e (more ps all))
    back b _ (plain ps p n other _) = subst (AreNormal b) (back_plain b (ps ++ p ∷ []) ps p refl other) n

    by : (t : Bool) → bytes_eq part parent_dir ≡ t → AreNormal absolute (with_part absolute parts part)
    by true e = rw e (back absolute parts are)
    by false e = subst (AreNormal absolute) (sym (plain_goes_on absolute parts part e)) (plain parts part are e is)

stay_normal : (absolute : Bool) (parts others : List (List ℕ)) → AreNormal absolute parts → AreParts others → AreNormal absolute (fold (with_part absolute) parts others)
unfolding AreParts
stay_normal absolute parts [] are all = are
stay_normal absolute parts (part ∷ others) are all = stay_normal absolute (with_part absolute parts part) others (stays_normal absolute parts part are all.0) all.1

-- such parts put behind none are the same
dots_again : (parts : List (List ℕ)) → AllDots parts → fold (with_part false) [] parts ≡ parts
dots_again _ none = refl
dots_again _ (more parts all) =
    fold-append (with_part false) [] parts (parent_dir ∷ []) ∙ ap (λ (ps : List (List ℕ)). with_part false ps parent_dir) (dots_again parts all) ∙ dots_go_on parts all

normal_stays : (absolute : Bool) (parts : List (List ℕ)) → AreNormal absolute parts → fold (with_part absolute) [] parts ≡ parts
normal_stays absolute _ none = refl
normal_stays absolute _ (dots parts e all) =
    subst (λ (b : Bool). fold (with_part b) [] (parts ++ parent_dir ∷ []) ≡ parts ++ parent_dir ∷ []) (sym e) (dots_again (parts ++ parent_dir ∷ []) (more parts all))
normal_stays absolute _ (plain parts part are other is) =
    fold-append (with_part absolute) [] parts (part ∷ []) ∙ ap (λ (ps : List (List ℕ)). with_part absolute ps part) (normal_stays absolute parts are) ∙ plain_goes_on absolute parts part other

with_last : (parts : List (List ℕ)) (part : List ℕ) → AreParts parts → IsPart part → AreParts (parts ++ part ∷ [])
unfolding AreParts
with_last [] part all is = (is, tt)
with_last (p ∷ parts) part all is = (all.0, with_last parts part all.1 is)

dots_are_parts : (parts : List (List ℕ)) → AllDots parts → AreParts parts
unfolding AreParts
dots_are_parts _ none = tt
dots_are_parts _ (more parts all) = with_last parts parent_dir (dots_are_parts parts all) (record { named = refl; whole = refl })

normal_are_parts : (absolute : Bool) (parts : List (List ℕ)) → AreNormal absolute parts → AreParts parts
unfolding AreParts
normal_are_parts absolute _ none = tt
normal_are_parts absolute _ (dots parts e all) = with_last parts parent_dir (dots_are_parts parts all) (record { named = refl; whole = refl })
normal_are_parts absolute _ (plain parts part are other is) = with_last parts part (normal_are_parts absolute parts are) is

-- a name of such parts is its own normal form
own_normal : (absolute : Bool) (parts : List (List ℕ)) → AreNormal absolute parts → normal (name_with absolute parts) ≡ name_with absolute parts
unfolding normal normal_parts
own_normal absolute parts are =
    let name = name_with absolute parts in
    let all = normal_are_parts absolute parts are in
    ap (λ (b : Bool). name_with b (fold (with_part b) [] (parts_of name))) (absolute_again absolute parts all)
    ∙ ap (λ (ps : List (List ℕ)). name_with absolute (fold (with_part absolute) [] ps)) (parts_again absolute parts all)
    ∙ ap (name_with absolute) (normal_stays absolute parts are)

-- the normal form is its own
pub normal_again : (name : List ℕ) → normal (normal name) ≡ normal name
unfolding normal normal_parts
normal_again name = own_normal (is_absolute name) (fold (with_part (is_absolute name)) [] (parts_of name)) (stay_normal (is_absolute name) [] (parts_of name) none (parts_are_parts name))

-- a name of one part that is no `..` is itself
pub plain_is_normal : (name : List ℕ) → parts_of name ≡ name ∷ [] → bytes_eq name parent_dir ≡ false → is_absolute name ≡ false → normal name ≡ name
unfolding normal normal_parts
plain_is_normal name one other relative =
    ap (λ (b : Bool). name_with b (fold (with_part b) [] (parts_of name))) relative
    ∙ ap (λ (ps : List (List ℕ)). name_with false (fold (with_part false) [] ps)) one
    ∙ ap (name_with false) (plain_goes_on false [] name other)
