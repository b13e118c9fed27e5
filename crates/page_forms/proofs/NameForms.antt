-- Classes of characters that lie in ASCII, white space and names.
use Rattle.std.proofs.Common.{◌≡◌, ◌⊎◌, inl, inr, ℕ, ◌<◌, Bool, true, false, List, [], ◌∷◌, ◌++◌, refl, sym, ◌∙◌, ap, subst, arith}
use Rattle.std.specs.Prelude.{nat_lt, ◌&&◌}
use Rattle.std.specs.List.{list_all}
use Rattle.std.specs.Str.{encode_utf8_all}
use Rattle.std.proofs.lemmas.Bool.{and_parts, and_from, lt-ltb}
use Rattle.std.proofs.lemmas.Bool.Decides.{nat_tests}
use Rattle.xml_text.specs.Characters.{is_blank}
use Rattle.xml_text.specs.Names.{begins_name, in_name, is_name}
use Rattle.derivatives.specs.Expressions.{Expr, empty, star, Matches, is_empty}
use Rattle.derivatives.specs.Derivatives.{chain_of}
use Rattle.page_model.specs.Prolog.{IsSpace}
use Rattle.page_forms.specs.Words.{ascii, blanks, gap, name_form}
use Rattle.page_forms.proofs.Classes.{spells_ascii}
use Rattle.page_forms.proofs.Spelling.{Spells, Spelled, One, Chained, spells_chain, spells_all, spells_as}

pub spells_class : (test : ℕ → Bool) → ((c : ℕ) → test c ≡ true → c < 128) → Spells (ascii test) (One test)
spells_class test small = spells_as (spells_ascii test) into from
  where
    into : (cs : List ℕ) → One (λ c. nat_lt c 128 && test c) cs → One test cs
    into cs o = record { character = o.character; passes = (and_parts (nat_lt o.character 128) (test o.character) o.passes).1; is = o.is }

    from : (cs : List ℕ) → One test cs → One (λ c. nat_lt c 128 && test c) cs
    from cs o = record { character = o.character; passes = and_from (nat_lt o.character 128) (test o.character) (lt-ltb o.character 128 (small o.character o.passes)) o.passes; is = o.is }

pub name_small : (c : ℕ) → in_name c ≡ true → c < 128
name_small c h = grind (arith, nat_tests)

pub begins_small : (c : ℕ) → begins_name c ≡ true → c < 128
begins_small c h = grind (arith, nat_tests)

pub blank_small : (c : ℕ) → is_blank c ≡ true → c < 128
blank_small c h = grind (arith, nat_tests)

pub spells_in_name : Spells (ascii in_name) (One in_name)
spells_in_name = spells_class in_name name_small

pub spells_begins : Spells (ascii begins_name) (One begins_name)
spells_begins = spells_class begins_name begins_small

pub spells_blank : Spells (ascii is_blank) (One is_blank)
spells_blank = spells_class is_blank blank_small

pub spells_empty : Spells empty (λ cs. [] ≡ cs)
spells_empty = record { shown = λ w d. shown_at d; made = λ cs e. subst (λ (z : List ℕ). Matches empty (encode_utf8_all z)) e is_empty }
  where
    shown_at : {w : List ℕ} → Matches empty w → Spelled (λ cs. [] ≡ cs) w
    shown_at is_empty = record { characters = []; are = refl; is = refl }

-- a character that passes, and any number of others that pass the second test
pub record FirstAnd (first second : ℕ → Bool) (cs : List ℕ) : Type 0 where
  pub head : ℕ
  pub tail : List ℕ
  pub head_passes : first head ≡ true
  pub tail_passes : list_all second tail ≡ true
  pub is : head ∷ tail ≡ cs

pub spells_first_and : {x y : Expr} {first second : ℕ → Bool} → Spells x (One first) → Spells y (One second) → Spells (chain_of x (star y)) (FirstAnd first second)
spells_first_and {first = first} {second = second} s t = spells_as (spells_chain s (spells_all t)) into from
  where
    into : (cs : List ℕ) → Chained (One first) (λ ds. list_all second ds ≡ true) cs → FirstAnd first second cs
    into cs k = let o = k.begins in record { head = o.character; tail = k.second; head_passes = o.passes; tail_passes = k.goes_on; is = ap (λ (z : List ℕ). z ++ k.second) o.is ∙ k.is }

    from : (cs : List ℕ) → FirstAnd first second cs → Chained (One first) (λ ds. list_all second ds ≡ true) cs
    from cs f = record { first = f.head ∷ []; second = f.tail; begins = record { character = f.head; passes = f.head_passes; is = refl }; goes_on = f.tail_passes; is = f.is }

pub begins_in : (c : ℕ) → begins_name c ≡ true → in_name c ≡ true
begins_in c p = grind (arith, nat_tests)

-- white space, and some white space
pub spells_blanks : Spells blanks (λ cs. list_all is_blank cs ≡ true)
spells_blanks = spells_all spells_blank

pub spells_gap : Spells gap IsSpace
spells_gap = spells_as (spells_first_and spells_blank spells_blank) into from
  where
    some : (c : ℕ) (cs : List ℕ) → c ∷ cs ≡ [] → ⊥
    some c cs e = cc

    into : (cs : List ℕ) → FirstAnd is_blank is_blank cs → IsSpace cs
    into cs f = subst IsSpace f.is (record { some = some f.head f.tail; blank = and_from (is_blank f.head) (list_all is_blank f.tail) f.head_passes f.tail_passes })

    from : (cs : List ℕ) → IsSpace cs → FirstAnd is_blank is_blank cs
    from [] g = absurd (g.some refl)
    from (c ∷ cs) g = let p = and_parts (is_blank c) (list_all is_blank cs) g.blank in record { head = c; tail = cs; head_passes = p.0; tail_passes = p.1; is = refl }

pub spells_name : Spells name_form (λ cs. is_name cs ≡ true)
spells_name = spells_as (spells_first_and spells_begins spells_in_name) into from
  where
    no : false ≡ true → ⊥
    no e = cc

    into : (cs : List ℕ) → FirstAnd begins_name in_name cs → is_name cs ≡ true
    into cs f = subst (λ (z : List ℕ). is_name z ≡ true) f.is (and_from (begins_name f.head) (list_all in_name f.tail) f.head_passes f.tail_passes)

    from : (cs : List ℕ) → is_name cs ≡ true → FirstAnd begins_name in_name cs
    from [] h = absurd (no h)
    from (c ∷ cs) h = let p = and_parts (begins_name c) (list_all in_name cs) h in record { head = c; tail = cs; head_passes = p.0; tail_passes = p.1; is = refl }
