-- Texts that end at the first mark.
use Rattle.std.proofs.Common.{◌≡◌, ◌⊎◌, inl, inr, ℕ, zero, suc, ◌<◌, ◌≤◌, Bool, true, false, List, [], ◌∷◌, ◌++◌, refl, sym, ◌∙◌, ap, subst, append-nil, append_assoc, arith}
use Rattle.std.specs.Prelude.{nat_eq, nat_lt, not, ◌==◌, ◌&&◌, ◌||◌}
use Rattle.std.specs.List.{list_all, starts_with}
use Rattle.std.proofs.lemmas.Bool.{and_parts, and_from, and_right, or_parts, or_from, or_right, or_left, eqb-true, eq-eqb, ne_eqb, eqb-false, not-true, not_from_false, cases_eq}
use Rattle.std.proofs.lemmas.List.Folds.{list_all-append}
use Rattle.xml_text.specs.Characters.{is_character}
use Rattle.xml_text.specs.Texts.{holds}
use Rattle.derivatives.specs.Expressions.{range, star}
use Rattle.page_forms.specs.Words.{character_of, other_than, word}
use Rattle.page_forms.specs.Remarks.{run_then, times, text_up_to}
use Rattle.page_forms.proofs.Spelling.{Spells, One, Chained, Runs, over, further, spells_chain, spells_either, spells_star, spells_word, spells_as}
use Rattle.page_forms.proofs.OneCharacter.{spells_other, spells_character, Other, IsCharacterOf}

pub times_more : (c k : ℕ) (xs : List ℕ) → times c k ++ c ∷ xs ≡ c ∷ (times c k ++ xs)
times_more c zero xs = refl
times_more c (suc k) xs = ap (λ (z : List ℕ). c ∷ z) (times_more c k xs)

pub times_turned : (c j k : ℕ) (xs : List ℕ) → times c j ++ (times c k ++ xs) ≡ times c k ++ (times c j ++ xs)
times_turned c zero k xs = refl
times_turned c (suc j) k xs = ap (λ (z : List ℕ). c ∷ z) (times_turned c j k xs) ∙ sym (times_more c k (times c j ++ xs))

-- the same byte so many times
pub record Same (c : ℕ) (cs : List ℕ) : Type 0 where
  pub count : ℕ
  pub is : times c count ≡ cs

same_runs : (c : ℕ) {cs : List ℕ} → Runs (λ ds. c ∷ [] ≡ ds) cs → Same c cs
same_runs c over = record { count = 0; is = refl }
same_runs c (further {more = more} e r) = let p = same_runs c r in record { count = suc p.count; is = ap (λ (z : List ℕ). c ∷ z) p.is ∙ ap (λ (z : List ℕ). z ++ more) e }

runs_same : (c k : ℕ) → Runs (λ ds. c ∷ [] ≡ ds) (times c k)
runs_same c zero = over
runs_same c (suc k) = further {first = c ∷ []} refl (runs_same c k)

pub spells_same : (c : ℕ) → list_all (λ c. nat_lt c 128) (c ∷ []) ≡ true → Spells (star (range c c)) (Same c)
spells_same c h = spells_as (spells_star (spells_word (c ∷ []) h)) (λ cs r. same_runs c r) (λ cs s. subst (λ (z : List ℕ). Runs (λ ds. c ∷ [] ≡ ds) z) s.is (runs_same c s.count))

-- the same character so many times, and another; from so many on, that one is no `>`
pub record RunOf (c n : ℕ) (cs : List ℕ) : Type 0 where
  pub count : ℕ
  pub last : ℕ
  pub is : times c count ++ last ∷ [] ≡ cs
  pub character : is_character last ≡ true
  pub other : nat_eq c last ≡ false
  pub no_end : n ≤ count → nat_eq 62 last ≡ false

abbrev NotBoth : ℕ → List ℕ → Type 0
NotBoth c = IsCharacterOf (λ d. not (d == c || d == 62))

turned : (b c : ℕ) → (c == b) ≡ false → nat_eq b c ≡ false
turned b c h = ne_eqb b c (λ q. eqb-false c b h (sym q))

neither : (c d : ℕ) → not (d == c || d == 62) ≡ true → (nat_eq c d ≡ false) × (nat_eq 62 d ≡ false)
neither c d h = let p = or_parts (d == c) (d == 62) (not-true (d == c || d == 62) h) in (turned c d p.0, turned 62 d p.1)

zero_into : (c : ℕ) (cs : List ℕ) → Chained (Same c) (NotBoth c) cs → RunOf c zero cs
zero_into c cs k =
    let s = k.begins in
    let o = k.goes_on in
    let p = and_parts (is_character o.character) (not (o.character == c || o.character == 62)) o.passes in
    let q = neither c o.character p.1 in
    record {
      count = s.count;
      last = o.character;
      is = ap (λ (z : List ℕ). z ++ o.character ∷ []) s.is ∙ ap (λ (z : List ℕ). k.first ++ z) o.is ∙ k.is;
      character = p.0;
      other = q.0;
      no_end = λ l. q.1;
    }

zero_from : (c : ℕ) (cs : List ℕ) → RunOf c zero cs → Chained (Same c) (NotBoth c) cs
zero_from c cs r = record {
  first = times c r.count;
  second = r.last ∷ [];
  begins = record { count = r.count; is = refl };
  goes_on = record {
    character = r.last;
    passes = and_from (is_character r.last) (not (r.last == c || r.last == 62)) r.character
        (not_from_false (r.last == c || r.last == 62) (or_from (r.last == c) (r.last == 62) (turned r.last c r.other) (turned r.last 62 (r.no_end (omega arith)))));
    is = refl;
  };
  is = r.is;
}

abbrev Further : ℕ → ℕ → List ℕ → Type 0
Further c n cs = Other c cs ⊎ Chained (λ ds. c ∷ [] ≡ ds) (RunOf c n) cs

suc_into : (c n : ℕ) (cs : List ℕ) → Further c n cs → RunOf c (suc n) cs
suc_into c n cs (inl o) =
    let p = and_parts (is_character o.character) (not (o.character == c)) o.passes in
    record {
      count = 0;
      last = o.character;
      is = o.is;
      character = p.0;
      other = turned c o.character (not-true (o.character == c) p.1);
      no_end = λ l. absurd (omega (arith, l));
    }
suc_into c n cs (inr k) =
    let r = k.goes_on in
    record {
      count = suc r.count;
      last = r.last;
      is = ap (λ (z : List ℕ). c ∷ z) r.is ∙ ap (λ (z : List ℕ). z ++ k.second) k.begins ∙ k.is;
      character = r.character;
      other = r.other;
      no_end = λ l. r.no_end (omega (arith, l));
    }

suc_from : (c n : ℕ) (cs : List ℕ) → RunOf c (suc n) cs → Further c n cs
suc_from c n cs r = at r.count r.is r.no_end
  where
    at : (k : ℕ) → times c k ++ r.last ∷ [] ≡ cs → (suc n ≤ k → nat_eq 62 r.last ≡ false) → Further c n cs
    at zero e h = inl (record { character = r.last; passes = and_from (is_character r.last) (not (r.last == c)) r.character (not_from_false (r.last == c) (turned r.last c r.other)); is = e })
    at (suc k) e h = inr (record {
      first = c ∷ [];
      second = times c k ++ r.last ∷ [];
      begins = refl;
      goes_on = record { count = k; last = r.last; is = refl; character = r.character; other = r.other; no_end = λ l. h (omega (arith, l)) };
      is = e;
    })

-- `x` and `>` are of ASCII, and not one
pub record IsMark (c : ℕ) : Type 0 where
  pub small : c < 128
  pub ascii : list_all (λ c. nat_lt c 128) (c ∷ []) ≡ true
  pub character : is_character c ≡ true
  pub other : nat_eq 62 c ≡ false

pub spells_run : (c : ℕ) → IsMark c → (n : ℕ) → Spells (run_then c n) (RunOf c n)
spells_run c m zero = spells_as (spells_chain (spells_same c m.ascii) (spells_character (λ d. not (d == c || d == 62)) beyond)) (zero_into c) (zero_from c)
  where
    beyond : (d : ℕ) → 128 ≤ d → not (d == c || d == 62) ≡ true
    beyond d l = not_from_false (d == c || d == 62) (or_from (d == c) (d == 62) (ne_eqb d c (λ e. absurd (omega (arith, e, l, m.small)))) (ne_eqb d 62 (λ e. absurd (omega (arith, e, l)))))
spells_run c m (suc n) = spells_as (spells_either (spells_other c m.small) (spells_chain (spells_word (c ∷ []) m.ascii) (spells_run c m n))) (suc_into c n) (suc_from c n)

-- the mark: so many times the same, and `>`
abbrev pub mark_of : ℕ → ℕ → List ℕ
mark_of c n = times c n ++ 62 ∷ []

-- Where the mark does not begin.

starts_run : (c : ℕ) → nat_eq 62 c ≡ false → (n k d : ℕ) (t : List ℕ) → nat_eq c d ≡ false → (n ≤ k → nat_eq 62 d ≡ false) → starts_with nat_eq (times c k ++ d ∷ t) (mark_of c n) ≡ false
starts_run c o zero zero d t e h = ap (λ (b : Bool). b && true) (h (omega arith))
starts_run c o zero (suc k) d t e h = ap (λ (b : Bool). b && true) o
starts_run c o (suc n) zero d t e h = ap (λ (b : Bool). b && starts_with nat_eq t (mark_of c n)) e
starts_run c o (suc n) (suc k) d t e h = and_right (nat_eq c c) (starts_with nat_eq (times c k ++ d ∷ t) (mark_of c n)) (starts_run c o n k d t e (λ l. h (omega (arith, l))))

starts_same : (c : ℕ) → nat_eq 62 c ≡ false → (n j : ℕ) → starts_with nat_eq (times c j) (mark_of c n) ≡ false
starts_same c o zero zero = refl
starts_same c o zero (suc j) = ap (λ (b : Bool). b && true) o
starts_same c o (suc n) zero = refl
starts_same c o (suc n) (suc j) = and_right (nat_eq c c) (starts_with nat_eq (times c j) (mark_of c n)) (starts_same c o n j)

no_mark_in_run : (c : ℕ) → nat_eq 62 c ≡ false → (n k d : ℕ) (t : List ℕ) → nat_eq c d ≡ false → (n ≤ k → nat_eq 62 d ≡ false) → holds (mark_of c n) t ≡ false → holds (mark_of c n) (times c k ++ d ∷ t) ≡ false
no_mark_in_run c o n zero d t e h f = or_from (starts_with nat_eq (d ∷ t) (mark_of c n)) (holds (mark_of c n) t) (starts_run c o n zero d t e h) f
no_mark_in_run c o n (suc k) d t e h f =
    or_from (starts_with nat_eq (c ∷ (times c k ++ d ∷ t)) (mark_of c n)) (holds (mark_of c n) (times c k ++ d ∷ t)) (starts_run c o n (suc k) d t e h)
    (no_mark_in_run c o n k d t e (λ l. h (omega (arith, l))) f)

no_mark_in_same : (c : ℕ) → nat_eq 62 c ≡ false → (n j : ℕ) → holds (mark_of c n) (times c j) ≡ false
no_mark_in_same c o n zero = refl
no_mark_in_same c o n (suc j) = or_from (starts_with nat_eq (times c (suc j)) (mark_of c n)) (holds (mark_of c n) (times c j)) (starts_same c o n (suc j)) (no_mark_in_same c o n j)

no_mark_in_runs : (c : ℕ) → nat_eq 62 c ≡ false → (n : ℕ) {cs : List ℕ} → Runs (RunOf c n) cs → (t : List ℕ) → holds (mark_of c n) t ≡ false → holds (mark_of c n) (cs ++ t) ≡ false
no_mark_in_runs c o n over t f = f
no_mark_in_runs c o n (further {first = first} {more = more} r rs) t f =
    let e : times c r.count ++ r.last ∷ (more ++ t) ≡ (first ++ more) ++ t =
    sym (append_assoc (times c r.count) (r.last ∷ []) (more ++ t)) ∙ ap (λ (z : List ℕ). z ++ (more ++ t)) r.is ∙ sym (append_assoc first more t) in
    subst (λ (z : List ℕ). holds (mark_of c n) z ≡ false) e (no_mark_in_run c o n r.count r.last (more ++ t) r.other r.no_end (no_mark_in_runs c o n rs t f))

all_same : (c : ℕ) → is_character c ≡ true → (k : ℕ) → list_all is_character (times c k) ≡ true
all_same c h zero = refl
all_same c h (suc k) = and_from (is_character c) (list_all is_character (times c k)) h (all_same c h k)

all_both : (xs ys : List ℕ) → list_all is_character xs ≡ true → list_all is_character ys ≡ true → list_all is_character (xs ++ ys) ≡ true
all_both xs ys p q = list_all-append is_character xs ys ∙ and_from (list_all is_character xs) (list_all is_character ys) p q

all_runs : (c : ℕ) → is_character c ≡ true → (n : ℕ) {cs : List ℕ} → Runs (RunOf c n) cs → list_all is_character cs ≡ true
all_runs c h n over = refl
all_runs c h n (further {first = first} {more = more} r rs) =
    all_both first more (subst (λ (z : List ℕ). list_all is_character z ≡ true) r.is (all_both (times c r.count) (r.last ∷ []) (all_same c h r.count) (and_from (is_character r.last) true r.character refl))) (all_runs c h n rs)

-- Where it does.

starts_own : (c n : ℕ) (t : List ℕ) → starts_with nat_eq (times c n ++ 62 ∷ t) (mark_of c n) ≡ true
starts_own c zero t = refl
starts_own c (suc n) t = and_from (nat_eq c c) (starts_with nat_eq (times c n ++ 62 ∷ t) (mark_of c n)) (eq-eqb c c refl) (starts_own c n t)

ends_mark : (c n k d : ℕ) (t : List ℕ) → holds (mark_of c (suc n)) (times c k ++ d ∷ t) ≡ false → suc n ≤ k → nat_eq 62 d ≡ false
ends_mark c n zero d t h l = absurd (omega (arith, l))
ends_mark c n (suc k) d t h l = at (nat_eq 62 d) refl (cases_eq k n) (λ q. ends_mark c n k d t p.1 q)
  where
    p : (starts_with nat_eq (times c (suc k) ++ d ∷ t) (mark_of c (suc n)) ≡ false) × (holds (mark_of c (suc n)) (times c k ++ d ∷ t) ≡ false)
    p = or_parts (starts_with nat_eq (times c (suc k) ++ d ∷ t) (mark_of c (suc n))) (holds (mark_of c (suc n)) (times c k ++ d ∷ t)) h

    both : (b : Bool) → b ≡ true → b ≡ false → ⊥
    both b t f = cc

    at : (b : Bool) → nat_eq 62 d ≡ b → (k ≡ n) ⊎ (k ≡ n → ⊥) → (suc n ≤ k → nat_eq 62 d ≡ false) → nat_eq 62 d ≡ false
    at false e s f = e
    at true e (inl q) f =
        let z : starts_with nat_eq (times c (suc k) ++ d ∷ t) (mark_of c (suc n)) ≡ true =
        ap (λ (x : ℕ). starts_with nat_eq (times c (suc x) ++ d ∷ t) (mark_of c (suc n))) q
        ∙ ap (λ (x : ℕ). starts_with nat_eq (times c (suc n) ++ x ∷ t) (mark_of c (suc n))) (sym (eqb-true 62 d e))
        ∙ starts_own c (suc n) t in
        absurd (both (starts_with nat_eq (times c (suc k) ++ d ∷ t) (mark_of c (suc n))) z p.0)
    at true e (inr q) f = f (omega (arith, l, q))

holds_behind : (w xs ys : List ℕ) → holds w (xs ++ ys) ≡ false → holds w ys ≡ false
holds_behind w [] ys h = h
holds_behind w (x ∷ xs) ys h = holds_behind w xs ys (or_parts (starts_with nat_eq (x ∷ (xs ++ ys)) w) (holds w (xs ++ ys)) h).1

-- runs, and the same character so many times
record Cut (c n : ℕ) (cs : List ℕ) : Type 0 where
  runs : List ℕ
  count : ℕ
  are : Runs (RunOf c n) runs
  is : runs ++ times c count ≡ cs

cut : (c n k : ℕ) (cs : List ℕ) → list_all is_character cs ≡ true → holds (mark_of c (suc n)) (times c k ++ cs) ≡ false → Cut c (suc n) (times c k ++ cs)
cut c n k [] a h = record { runs = []; count = k; are = over; is = sym (append-nil (times c k)) }
cut c n k (d ∷ cs) a h = at (nat_eq c d) refl (λ e. cut c n (suc k) cs p.1 e) (λ e. cut c n zero cs p.1 e)
  where
    p : (is_character d ≡ true) × (list_all is_character cs ≡ true)
    p = and_parts (is_character d) (list_all is_character cs) a

    same : c ≡ d → times c (suc k) ++ cs ≡ times c k ++ d ∷ cs
    same q = sym (times_more c k cs) ∙ ap (λ (x : ℕ). times c k ++ x ∷ cs) q

    first : RunOf c (suc n) (times c k ++ d ∷ []) → Cut c (suc n) cs → Cut c (suc n) (times c k ++ d ∷ cs)
    first r s = record {
      runs = (times c k ++ d ∷ []) ++ s.runs;
      count = s.count;
      are = further r s.are;
      is = append_assoc (times c k ++ d ∷ []) s.runs (times c s.count) ∙ ap (λ (z : List ℕ). (times c k ++ d ∷ []) ++ z) s.is ∙ append_assoc (times c k) (d ∷ []) cs;
    }

    at : (b : Bool) → nat_eq c d ≡ b → (holds (mark_of c (suc n)) (times c (suc k) ++ cs) ≡ false → Cut c (suc n) (times c (suc k) ++ cs)) → (holds (mark_of c (suc n)) cs ≡ false → Cut c (suc n) cs)
        → Cut c (suc n) (times c k ++ d ∷ cs)
    at true e f g =
        let q = same (eqb-true c d e) in
        subst (λ (z : List ℕ). Cut c (suc n) z) q (f (ap (holds (mark_of c (suc n))) q ∙ h))
    at false e f g =
        first (record { count = k; last = d; is = refl; character = p.0; other = e; no_end = λ l. ends_mark c n k d cs h l })
        (g (holds_behind (mark_of c (suc n)) (d ∷ []) cs (holds_behind (mark_of c (suc n)) (times c k) (d ∷ cs) h)))

-- characters up to the first mark, and the mark
pub record UpTo (c n : ℕ) (cs : List ℕ) : Type 0 where
  pub text : List ℕ
  pub characters : list_all is_character text ≡ true
  pub no_end : holds (mark_of c n) text ≡ false
  pub is : text ++ mark_of c n ≡ cs

abbrev Parts : ℕ → ℕ → List ℕ → Type 0
Parts c n = Chained (Runs (RunOf c n)) (Chained (λ cs. times c n ≡ cs) (Chained (Same c) (λ cs. 62 ∷ [] ≡ cs)))

moved : (c n j : ℕ) (xs : List ℕ) → (xs ++ times c j) ++ mark_of c n ≡ xs ++ (times c n ++ (times c j ++ 62 ∷ []))
moved c n j xs = append_assoc xs (times c j) (mark_of c n) ∙ ap (λ (z : List ℕ). xs ++ z) (times_turned c j n (62 ∷ []))

parts_into : (c : ℕ) → IsMark c → (n : ℕ) (cs : List ℕ) → Parts c n cs → UpTo c n cs
parts_into c m n cs k =
    let a = k.goes_on in
    let b = a.goes_on in
    let s = b.begins in
    record {
      text = k.first ++ times c s.count;
      characters = all_both k.first (times c s.count) (all_runs c m.character n k.begins) (all_same c m.character s.count);
      no_end = no_mark_in_runs c m.other n k.begins (times c s.count) (no_mark_in_same c m.other n s.count);
      is = moved c n s.count k.first
          ∙ ap (λ (z : List ℕ). k.first ++ z)
          (ap (λ (z : List ℕ). z ++ (times c s.count ++ 62 ∷ [])) a.begins
          ∙ ap (λ (z : List ℕ). a.first ++ z) (ap (λ (z : List ℕ). z ++ 62 ∷ []) s.is ∙ ap (λ (z : List ℕ). b.first ++ z) b.goes_on ∙ b.is) ∙ a.is)
          ∙ k.is;
    }

parts_from : (c n : ℕ) (cs : List ℕ) → UpTo c (suc n) cs → Parts c (suc n) cs
parts_from c n cs u = at (cut c n zero u.text u.characters u.no_end)
  where
    at : Cut c (suc n) u.text → Parts c (suc n) cs
    at s = record {
      first = s.runs;
      second = times c (suc n) ++ (times c s.count ++ 62 ∷ []);
      begins = s.are;
      goes_on = record {
        first = times c (suc n);
        second = times c s.count ++ 62 ∷ [];
        begins = refl;
        goes_on = record { first = times c s.count; second = 62 ∷ []; begins = record { count = s.count; is = refl }; goes_on = refl; is = refl };
        is = refl;
      };
      is = sym (moved c (suc n) s.count s.runs) ∙ ap (λ (z : List ℕ). z ++ mark_of c (suc n)) s.is ∙ u.is;
    }

pub spells_up_to : (c n : ℕ) → IsMark c → list_all (λ c. nat_lt c 128) (times c (suc n)) ≡ true → Spells (text_up_to c (suc n)) (UpTo c (suc n))
spells_up_to c n m h =
    spells_as (spells_chain (spells_star (spells_run c m (suc n))) (spells_chain (spells_word (times c (suc n)) h) (spells_chain (spells_same c m.ascii) (spells_word (62 ∷ []) refl)))) (parts_into c m (suc n)) (parts_from c n)
