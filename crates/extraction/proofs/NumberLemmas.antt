-- Names that are numbered as they are asked for.
use Rattle.std.proofs.Common.{◌≡◌, ◌<◌, ◌≤◌, ◌+◌, ◌⊎◌, inl, inr, ℕ, Bool, true, false, if◌then◌else◌, List, [], ◌∷◌, ◌++◌, Some, length, refl, sym, subst, ap, ◌∙◌, arith, slice_get, Contains, length-append}
use Rattle.op_system.specs.declared.op.Op.{Op}
use Rattle.least_sets.specs.Forms.{Form, text_form, same_form, join_form, before_form, request_form, integer_form, apply_form, yes_form, where_form}
use Rattle.least_sets.specs.Simulations.{Alike}
use Rattle.numbered_sets.specs.Numbers.{AreDifferent}
use Rattle.numbered_sets.proofs.NumberLemmas.{at_front}
use Rattle.loose_sets.specs.declared.name.SetName.{SetName}
use Rattle.point_listing.specs.declared.form.NamedForm.{NamedForm}
use Rattle.point_listing.specs.Forms.{form_seen}
use Rattle.given_texts.specs.Closed.{Closed}
use Rattle.system_writing.specs.Forms.{all_names, text_bytes}
use Rattle.system_writing.specs.Drafts.{IsDraft}
use Rattle.system_writing.specs.Steps.{AddsSet, Writes}
use Rattle.system_writing.specs.Sizes.{numbers_due, lines_due}
use Rattle.system_writing.proofs.Places.{at_contains}
use Rattle.system_writing.proofs.Growing.{at_end}
use Rattle.system_writing.proofs.Names.{at_name, set_added}
use Rattle.system_writing.proofs.RowLaws.{row_written}
use Rattle.system_writing.proofs.Sizes.{set_small, row_small}
use Rattle.extraction.specs.declared.work.Work.{Work}
use Rattle.extraction.specs.Steps.{IsPaired, HasNumber, Stands, Adds, Grows, IsNameNumbered, IsFormNumbered, IsRowWritten}
use Rattle.std.proofs.lemmas.List.Elements.{Contains-push_cases}
use Rattle.std.proofs.lemmas.Option.{slice_get_within}
use Rattle.extraction.proofs.PlaceLemmas.{keeps_itself, keeps_both, none_of, head_cases, at_head, at_later}

-- nothing was added
pub adds_none : (work : Work) (P : SetName → Type 0) → IsPaired work → Adds work work P
adds_none work P paired = record { names = keeps_itself work.names.keys; numbers = keeps_itself work.numbers.items; paired = paired; only = λ n c. inl c }

pub adds_both : (old mid new : Work) (P Q R : SetName → Type 0) → ((n : SetName) → P n → R n) → ((n : SetName) → Q n → R n) → Adds old mid P → Adds mid new Q → Adds old new R
adds_both old mid new P Q R first second a b = record {
  names = keeps_both old.names.keys mid.names.keys new.names.keys a.names b.names;
  numbers = keeps_both old.numbers.items mid.numbers.items new.numbers.items a.numbers b.numbers;
  paired = b.paired;
  only = λ n c. elim (b.only n c) [
    | inl m ↦ elim (a.only n m) [ inl o ↦ inl o | inr p ↦ inr (first n p) ]
    | inr q ↦ inr (second n q)
  ];
}

pub number_kept : (old new : Work) (P : SetName → Type 0) → Adds old new P → (n : SetName) (k : ℕ) → HasNumber old n k → HasNumber new n k
number_kept old new P adds n k h = record { place = h.place; name = adds.names h.place n h.name; number = adds.numbers h.place k h.number }

pub grows_both : (old mid new : Work) (n m i j : ℕ) → Grows old mid n m → Grows mid new i j → Grows old new (n + i) (m + j)
grows_both old mid new n m i j a b =
    let a0 = a.0 in
    let a1 = a.1 in
    let b0 = b.0 in
    let b1 = b.1 in
    (omega (arith, a0, b0), omega (arith, a1, b1))

-- what the count of the names tells of the one that was numbered
pub names_old : (old new : List SetName) (name : SetName) (b : Bool) → new ≡ (if b then old ++ name ∷ [] else old) → length new ≤ length old → new ≡ old
names_old old new name true is few = absurd (let l = ap (λ (ns : List SetName). length ns) is in let m = length-append old (name ∷ []) in omega (arith, l, m, few))
names_old old new name false is few = is

pub names_new : (old new : List SetName) (name : SetName) (b : Bool) → new ≡ (if b then old ++ name ∷ [] else old) → length old < length new → new ≡ old ++ name ∷ []
names_new old new name true is more = is
names_new old new name false is more = absurd (let l = ap (λ (ns : List SetName). length ns) is in omega (arith, l, more))

pub is_other : (old new : List SetName) (name : SetName) → AreDifferent new → new ≡ old ++ name ∷ [] → Contains old name → ⊥
is_other old new name different is c =
    let a = at_contains old name c in
    let first : slice_get new a.0 ≡ Some name = subst (λ (ns : List SetName). slice_get ns a.0 ≡ Some name) (sym is) (at_front old name a.0 name a.1) in
    let last : slice_get new (length old) ≡ Some name = subst (λ (ns : List SetName). slice_get ns (length old) ≡ Some name) (sym is) (at_end old name) in
    let same = different a.0 (length old) name first last in
    let within = slice_get_within old a.0 name a.1 in
    absurd (omega (arith, within, same))

-- a name that is there
pub old_name : (old new : Work) (name : SetName) (place k : ℕ) → new.names.keys ≡ old.names.keys → new.numbers.items ≡ old.numbers.items → new.draft ≡ old.draft → IsPaired old → slice_get new.names.keys place ≡ Some name → slice_get new.numbers.items place ≡ Some k
    → IsNameNumbered old new name k
old_name old new name place k names numbers draft paired at number = record {
  adds = record {
    names = λ n x h. subst (λ (ns : List SetName). slice_get ns n ≡ Some x) (sym names) h;
    numbers = λ n x h. subst (λ (ns : List ℕ). slice_get ns n ≡ Some x) (sym numbers) h;
    paired = ap (λ (ns : List ℕ). length ns) numbers ∙ paired ∙ ap (λ (ns : List SetName). length ns) (sym names);
    only = λ n c. inl (subst (λ (ns : List SetName). Contains ns n) names c);
  };
  at = record { place = place; name = at; number = number };
  stands = λ rows starts closed d. moved rows starts closed d;
  grows = (let a = ap numbers_due draft in let b = ap (λ (ns : List SetName). length ns) names in omega (arith, a, b), (let a = ap lines_due draft in omega (arith, a)));
}
  where
    moved : (rows : List (SetName × Form SetName)) (starts : List SetName) (closed : Closed) → Stands rows starts closed old → Stands rows starts closed new
    moved rows starts closed d =
        subst (λ (ns : List SetName). IsDraft rows starts ns new.numbers.items closed new.draft) (sym names)
        (subst (λ (ns : List ℕ). IsDraft rows starts old.names.keys ns closed new.draft) (sym numbers)
        (subst (λ z. IsDraft rows starts old.names.keys old.numbers.items closed z) (sym draft) d))

-- a new name
pub new_name : (old new : Work) (name : SetName) (k : ℕ) → new.names.keys ≡ old.names.keys ++ name ∷ [] → new.numbers.items ≡ old.numbers.items ++ k ∷ [] → AddsSet old.draft new.draft k → (Contains old.names.keys name → ⊥) → IsPaired old → IsNameNumbered old new name k
new_name old new name k names numbers adds is_new paired =
    let long : length new.names.keys ≡ length old.names.keys + 1 = ap (λ (ns : List SetName). length ns) names ∙ length-append old.names.keys (name ∷ []) in
    let longer : length new.numbers.items ≡ length old.numbers.items + 1 = ap (λ (ns : List ℕ). length ns) numbers ∙ length-append old.numbers.items (k ∷ []) in
    let small = set_small old.draft new.draft k adds in
    record {
      adds = record {
        names = λ n x h. subst (λ (ns : List SetName). slice_get ns n ≡ Some x) (sym names) (at_front old.names.keys name n x h);
        numbers = λ n x h. subst (λ (ns : List ℕ). slice_get ns n ≡ Some x) (sym numbers) (at_front old.numbers.items k n x h);
        paired = omega (arith, long, longer, paired);
        only = λ n c. pushed n (subst (λ (ns : List SetName). Contains ns n) names c);
      };
      at = record {
        place = length old.names.keys;
        name = subst (λ (ns : List SetName). slice_get ns (length old.names.keys) ≡ Some name) (sym names) (at_end old.names.keys name);
        number = subst (λ (ns : List ℕ). slice_get ns (length old.names.keys) ≡ Some k) (sym numbers) (subst (λ (n : ℕ). slice_get (old.numbers.items ++ k ∷ []) n ≡ Some k) paired (at_end old.numbers.items k));
      };
      stands = λ rows starts closed d.
          subst (λ (ns : List SetName). IsDraft rows starts ns new.numbers.items closed new.draft) (sym names)
          (subst (λ (ns : List ℕ). IsDraft rows starts (old.names.keys ++ name ∷ []) ns closed new.draft) (sym numbers)
          (set_added SetName starts old.names.keys old.numbers.items closed rows old.draft new.draft d name k is_new adds));
      grows = (let a = small.0 in omega (arith, a, long), (let b = small.1 in omega (arith, b)));
    }
  where
    pushed : (n : SetName) → Contains (old.names.keys ++ name ∷ []) n → Contains old.names.keys n ⊎ (n ≡ name)
    pushed n c = elim (Contains-push_cases old.names.keys name n c) [ inl o ↦ inl o | inr e ↦ inr (sym e) ]

-- numbers stay
alike_kept : (old new : Work) (P : SetName → Type 0) → Adds old new P → (f : Form SetName) (g : Form ℕ) → Alike (HasNumber old) f g → Alike (HasNumber new) f g
alike_kept old new P adds _ _ (Alike.text w) = Alike.text w
alike_kept old new P adds _ _ (Alike.same a b h) = Alike.same a b (number_kept old new P adds a b h)
alike_kept old new P adds _ _ (Alike.join a c b d h k) = Alike.join a c b d (number_kept old new P adds a b h) (number_kept old new P adds c d k)
alike_kept old new P adds _ _ (Alike.before w a b h) = Alike.before w a b (number_kept old new P adds a b h)
alike_kept old new P adds _ _ Alike.asked = Alike.asked
alike_kept old new P adds _ _ Alike.integer = Alike.integer
alike_kept old new P adds _ _ (Alike.apply op a b h) = Alike.apply op a b (number_kept old new P adds a b h)
alike_kept old new P adds _ _ Alike.yes = Alike.yes
alike_kept old new P adds _ _ (Alike.where_yes w a b h) = Alike.where_yes w a b (number_kept old new P adds a b h)

-- a form without names
plain : (old : Work) (f : Form SetName) (g : Form ℕ) → IsPaired old → Alike (HasNumber old) f g → IsFormNumbered old old f g
plain old f g paired alike = record {
  adds = adds_none old (Contains (all_names f)) paired;
  alike = alike;
  stands = λ rows starts closed d. d;
  grows = (omega arith, omega arith);
}

-- a form with one name
alone : (old new : Work) (a : SetName) (f : Form SetName) (g : Form ℕ) (k : ℕ) → IsNameNumbered old new a k → Contains (all_names f) a → Alike (HasNumber new) f g → IsFormNumbered old new f g
alone old new a f g k one has alike = record {
  adds = record {
    names = one.adds.names;
    numbers = one.adds.numbers;
    paired = one.adds.paired;
    only = λ n c. elim (one.adds.only n c) [ inl o ↦ inl o | inr e ↦ inr (subst (λ (z : SetName). Contains (all_names f) z) (sym e) has) ];
  };
  alike = alike;
  stands = one.stands;
  grows = one.grows;
}

-- the same for what stands in memory
pub for_form : (old new : Work) (x y : NamedForm) (g : Form ℕ) → x ≡ y → IsFormNumbered old new (form_seen y) g → IsFormNumbered old new (form_seen x) g
for_form old new x y g is so = subst (λ (z : NamedForm). IsFormNumbered old new (form_seen z) g) (sym is) so

pub text_numbered : (old : Work) (w : List ℕ) → IsPaired old → IsFormNumbered old old (text_form w) (text_form w)
text_numbered old w paired = plain old (text_form w) (text_form w) paired (Alike.text w)

pub request_numbered : (old : Work) → IsPaired old → IsFormNumbered old old request_form request_form
request_numbered old paired = plain old request_form request_form paired Alike.asked

pub integer_numbered : (old : Work) → IsPaired old → IsFormNumbered old old integer_form integer_form
integer_numbered old paired = plain old integer_form integer_form paired Alike.integer

pub yes_numbered : (old : Work) → IsPaired old → IsFormNumbered old old yes_form yes_form
yes_numbered old paired = plain old yes_form yes_form paired Alike.yes

pub same_numbered : (old new : Work) (a : SetName) (k : ℕ) → IsNameNumbered old new a k → IsFormNumbered old new (same_form a) (same_form k)
same_numbered old new a k one = alone old new a (same_form a) (same_form k) k one (at_head a []) (Alike.same a k one.at)

pub before_numbered : (old new : Work) (w : List ℕ) (a : SetName) (k : ℕ) → IsNameNumbered old new a k → IsFormNumbered old new (before_form w a) (before_form w k)
before_numbered old new w a k one = alone old new a (before_form w a) (before_form w k) k one (at_head a []) (Alike.before w a k one.at)

pub apply_numbered : (old new : Work) (op : Op) (a : SetName) (k : ℕ) → IsNameNumbered old new a k → IsFormNumbered old new (apply_form op a) (apply_form op k)
apply_numbered old new op a k one = alone old new a (apply_form op a) (apply_form op k) k one (at_head a []) (Alike.apply op a k one.at)

pub where_numbered : (old new : Work) (w : List ℕ) (a : SetName) (k : ℕ) → IsNameNumbered old new a k → IsFormNumbered old new (where_form w a) (where_form w k)
where_numbered old new w a k one = alone old new a (where_form w a) (where_form w k) k one (at_head a []) (Alike.where_yes w a k one.at)

pub join_numbered : (old mid new : Work) (a b : SetName) (k j : ℕ) → IsNameNumbered old mid a k → IsNameNumbered mid new b j → IsFormNumbered old new (join_form a b) (join_form k j)
join_numbered old mid new a b k j one two = record {
  adds = adds_both old mid new (λ m. m ≡ a) (λ m. m ≡ b) (Contains (a ∷ b ∷ [])) (λ n e. subst (λ (z : SetName). Contains (a ∷ b ∷ []) z) (sym e) (at_head a (b ∷ [])))
      (λ n e. subst (λ (z : SetName). Contains (a ∷ b ∷ []) z) (sym e) (at_later a (b ∷ []) b (at_head b []))) one.adds two.adds;
  alike = Alike.join a b k j (number_kept mid new (λ m. m ≡ b) two.adds a k one.at) two.at;
  stands = λ rows starts closed d. two.stands rows starts closed (one.stands rows starts closed d);
  grows = grows_both old mid new 0 0 0 0 one.grows two.grows;
}

-- a row that is written for a form
same_bytes : (work : Work) (f : Form SetName) (g : Form ℕ) → Alike (HasNumber work) f g → text_bytes g ≡ text_bytes f
same_bytes work _ _ (Alike.text w) = refl
same_bytes work _ _ (Alike.same a b h) = refl
same_bytes work _ _ (Alike.join a c b d h k) = refl
same_bytes work _ _ (Alike.before w a b h) = refl
same_bytes work _ _ Alike.asked = refl
same_bytes work _ _ Alike.integer = refl
same_bytes work _ _ (Alike.apply op a b h) = refl
same_bytes work _ _ Alike.yes = refl
same_bytes work _ _ (Alike.where_yes w a b h) = refl

one_name : (work : Work) (a : SetName) (b : ℕ) → HasNumber work a b → (c : SetName) → Contains (a ∷ []) c → Contains work.names.keys c
one_name work a b at c h = elim (head_cases a [] c h) [
  | inl is ↦ subst (λ (z : SetName). Contains work.names.keys z) is (at_name work.names.keys work.numbers.items a b at)
  | inr none ↦ absurd (none_of c none)
]

named_of : (work : Work) (f : Form SetName) (g : Form ℕ) → Alike (HasNumber work) f g → (c : SetName) → Contains (all_names f) c → Contains work.names.keys c
named_of work _ _ (Alike.text w) c h = absurd (none_of c h)
named_of work _ _ (Alike.same a b at) c h = one_name work a b at c h
named_of work _ _ (Alike.join a d b e at there) c h = elim (head_cases a (d ∷ []) c h) [
  | inl is ↦ subst (λ (z : SetName). Contains work.names.keys z) is (at_name work.names.keys work.numbers.items a b at)
  | inr later ↦ one_name work d e there c later
]
named_of work _ _ (Alike.before w a b at) c h = one_name work a b at c h
named_of work _ _ Alike.asked c h = absurd (none_of c h)
named_of work _ _ Alike.integer c h = absurd (none_of c h)
named_of work _ _ (Alike.apply op a b at) c h = one_name work a b at c h
named_of work _ _ Alike.yes c h = absurd (none_of c h)
named_of work _ _ (Alike.where_yes w a b at) c h = one_name work a b at c h

pub row_of_form : (old mid new : Work) (set : ℕ) (f : Form SetName) (g : Form ℕ) → IsFormNumbered old mid f g → new.names.keys ≡ mid.names.keys → new.numbers.items ≡ mid.numbers.items → Writes mid.draft new.draft set g → IsRowWritten old new set f
row_of_form old mid new set f g one names numbers writes =
    let small = row_small mid.draft new.draft set g writes in
    let bytes = same_bytes mid f g one.alike in
    let long = ap (λ (ns : List SetName). length ns) names in
    let before = one.grows in
    record {
      adds = record {
        names = λ n x h. subst (λ (ns : List SetName). slice_get ns n ≡ Some x) (sym names) (one.adds.names n x h);
        numbers = λ n x h. subst (λ (ns : List ℕ). slice_get ns n ≡ Some x) (sym numbers) (one.adds.numbers n x h);
        paired = ap (λ (ns : List ℕ). length ns) numbers ∙ one.adds.paired ∙ ap (λ (ns : List SetName). length ns) (sym names);
        only = λ n c. one.adds.only n (subst (λ (ns : List SetName). Contains ns n) names c);
      };
      stands = λ rows starts closed n at d.
          subst (λ (ns : List SetName). IsDraft (rows ++ (n, f) ∷ []) starts ns new.numbers.items closed new.draft) (sym names)
          (subst (λ (ns : List ℕ). IsDraft (rows ++ (n, f) ∷ []) starts mid.names.keys ns closed new.draft) (sym numbers)
          (row_written SetName starts mid.names.keys mid.numbers.items closed rows mid.draft new.draft (one.stands rows starts closed d) n set (number_kept old mid (Contains (all_names f)) one.adds n set at) f g (named_of mid f g one.alike) one.alike writes));
      grows = (
        (let a = small.0 in let b = before.0 in omega (arith, a, b, bytes, long)),
        (let a = small.1 in let b = before.1 in omega (arith, a, b, bytes)),
      );
    }
