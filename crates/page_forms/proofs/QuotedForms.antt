-- Texts in quotes, and attributes by what stands in their quotes.
use Rattle.std.proofs.Common.{◌≡◌, ◌⊎◌, inl, inr, ℕ, ◌<◌, Bool, true, false, List, [], ◌∷◌, ◌++◌, refl, sym, ◌∙◌, ap, subst, arith}
use Rattle.std.specs.Prelude.{◌==◌, ◌||◌, codes}
use Rattle.std.specs.List.{list_all}
use Rattle.std.proofs.lemmas.Bool.{or_cases, eqb-true}
use Rattle.std.proofs.lemmas.Bool.Decides.{nat_tests}
use Rattle.xml_text.specs.Characters.{is_blank}
use Rattle.xml_text.specs.Names.{is_name}
use Rattle.dtd_model.specs.References.{is_reference}
use Rattle.derivatives.specs.Expressions.{Expr}
use Rattle.page_model.specs.Parts.{Attribute, attribute_then, IsAttribute, is_quote, may_be_quoted, refers_by}
use Rattle.page_model.specs.Prolog.{IsSpace}
use Rattle.page_forms.specs.Quotes.{quoted, attribute_of}
use Rattle.page_forms.proofs.NameForms.{spells_blanks, spells_gap}
use Rattle.page_forms.proofs.Spelling.{Spells, Chained, put_together, spells_chain, spells_either, spells_word, spells_as}
use Rattle.page_forms.proofs.WordForms.{name_ascii}

-- Texts in quotes.

pub record Quoted (L : ℕ → List ℕ → Type 0) (cs : List ℕ) : Type 0 where
  pub quote : ℕ
  pub text : List ℕ
  pub quoted : is_quote quote ≡ true
  pub between : L quote text
  pub is : quote ∷ (text ++ quote ∷ []) ≡ cs

abbrev In : (ℕ → List ℕ → Type 0) → ℕ → List ℕ → Type 0
In L q = Chained (λ cs. q ∷ [] ≡ cs) (Chained (L q) (λ cs. q ∷ [] ≡ cs))

quoted_into : (L : ℕ → List ℕ → Type 0) (q : ℕ) → is_quote q ≡ true → (cs : List ℕ) → In L q cs → Quoted L cs
quoted_into L q h cs k = let c = k.goes_on in record { quote = q; text = c.first; quoted = h; between = c.begins; is = put_together k.begins (put_together refl c.goes_on c.is) k.is }

pub either_quote : (q : ℕ) → is_quote q ≡ true → (q ≡ 34) ⊎ (q ≡ 39)
either_quote q h = by (or_cases (q == 34) (q == 39) h)
  where
    by : ((q == 34) ≡ true) ⊎ ((q == 39) ≡ true) → (q ≡ 34) ⊎ (q ≡ 39)
    by (inl e) = inl (eqb-true q 34 e)
    by (inr e) = inr (eqb-true q 39 e)

in_quotes : (L : ℕ → List ℕ → Type 0) (q : ℕ) (text : List ℕ) → L q text → In L q (q ∷ (text ++ q ∷ []))
in_quotes L q text l = record { first = q ∷ []; second = text ++ q ∷ []; begins = refl; goes_on = record { first = text; second = q ∷ []; begins = l; goes_on = refl; is = refl }; is = refl }

quoted_from : (L : ℕ → List ℕ → Type 0) (cs : List ℕ) → Quoted L cs → In L 34 cs ⊎ In L 39 cs
quoted_from L cs k = subst (λ (z : List ℕ). In L 34 z ⊎ In L 39 z) k.is (by (either_quote k.quote k.quoted))
  where
    by : (k.quote ≡ 34) ⊎ (k.quote ≡ 39) → In L 34 (k.quote ∷ (k.text ++ k.quote ∷ [])) ⊎ In L 39 (k.quote ∷ (k.text ++ k.quote ∷ []))
    by (inl e) = inl (subst (λ (q : ℕ). In L q (k.quote ∷ (k.text ++ k.quote ∷ []))) e (in_quotes L k.quote k.text k.between))
    by (inr e) = inr (subst (λ (q : ℕ). In L q (k.quote ∷ (k.text ++ k.quote ∷ []))) e (in_quotes L k.quote k.text k.between))

pub spells_quoted : (between : ℕ → Expr) (L : ℕ → List ℕ → Type 0) → ((q : ℕ) → is_quote q ≡ true → Spells (between q) (L q)) → Spells (quoted between) (Quoted L)
spells_quoted between L s =
    spells_as
    (spells_either (spells_chain (spells_word (34 ∷ []) refl) (spells_chain (s 34 refl) (spells_word (34 ∷ []) refl)))
    (spells_chain (spells_word (39 ∷ []) refl) (spells_chain (s 39 refl) (spells_word (39 ∷ []) refl))))
    into (quoted_from L)
  where
    into : (cs : List ℕ) → In L 34 cs ⊎ In L 39 cs → Quoted L cs
    into cs (inl k) = quoted_into L 34 refl cs k
    into cs (inr k) = quoted_into L 39 refl cs k

pub quote_small : (q : ℕ) → is_quote q ≡ true → q < 128
quote_small q h = grind (arith, nat_tests)

-- Attributes.

-- an attribute of this name, with such a value
pub record IsAttributeOf (name : List ℕ) (L : ℕ → List ℕ → Type 0) (cs : List ℕ) : Type 0 where
  pub attribute : Attribute
  pub written : IsAttribute attribute
  pub named : name ≡ attribute.name
  pub value : L attribute.quote attribute.value
  pub is : attribute_then attribute [] ≡ cs

-- such values may stand in quotes
pub record MayStand (L : ℕ → List ℕ → Type 0) : Type 0 where
  pub quoted : (q : ℕ) (text : List ℕ) → is_quote q ≡ true → L q text → list_all (may_be_quoted q) text ≡ true
  pub refers : (q : ℕ) (text : List ℕ) → is_quote q ≡ true → L q text → refers_by is_reference text ≡ true

abbrev Blank : List ℕ → Type 0
Blank cs = list_all is_blank cs ≡ true

abbrev Parts : List ℕ → (ℕ → List ℕ → Type 0) → List ℕ → Type 0
Parts name L = Chained IsSpace (Chained (λ cs. name ≡ cs) (Chained Blank (Chained (λ cs. codes "=" ≡ cs) (Chained Blank (Quoted L)))))

attribute_into : (name : List ℕ) (L : ℕ → List ℕ → Type 0) → is_name name ≡ true → MayStand L → (cs : List ℕ) → Parts name L cs → IsAttributeOf name L cs
attribute_into name L h m cs a =
    let b = a.goes_on in
    let c = b.goes_on in
    let e = c.goes_on in
    let f = e.goes_on in
    let v = f.goes_on in
    let x : Attribute = record { space = a.first; name = name; before_equals = c.first; after_equals = f.first; quote = v.quote; value = v.text } in
    record {
      attribute = x;
      written = record {
        some_space = a.begins.some;
        blank_space = a.begins.blank;
        named = h;
        blank_before = c.begins;
        blank_after = f.begins;
        quoted = v.quoted;
        characters = m.quoted v.quote v.text v.quoted v.between;
        references = m.refers v.quote v.text v.quoted v.between;
      };
      named = refl;
      value = v.between;
      is = put_together refl (put_together b.begins (put_together refl (put_together e.begins (put_together refl v.is f.is) e.is) c.is) b.is) a.is;
    }

attribute_from : (name : List ℕ) (L : ℕ → List ℕ → Type 0) (cs : List ℕ) → IsAttributeOf name L cs → Parts name L cs
attribute_from name L cs k =
    let x = k.attribute in
    let w = k.written in
    record {
      first = x.space;
      second = x.name ++ (x.before_equals ++ 61 ∷ (x.after_equals ++ x.quote ∷ (x.value ++ x.quote ∷ [])));
      begins = record { some = w.some_space; blank = w.blank_space };
      goes_on = record {
        first = x.name;
        second = x.before_equals ++ 61 ∷ (x.after_equals ++ x.quote ∷ (x.value ++ x.quote ∷ []));
        begins = k.named;
        goes_on = record {
          first = x.before_equals;
          second = 61 ∷ (x.after_equals ++ x.quote ∷ (x.value ++ x.quote ∷ []));
          begins = w.blank_before;
          goes_on = record {
            first = codes "=";
            second = x.after_equals ++ x.quote ∷ (x.value ++ x.quote ∷ []);
            begins = refl;
            goes_on = record {
              first = x.after_equals;
              second = x.quote ∷ (x.value ++ x.quote ∷ []);
              begins = w.blank_after;
              goes_on = record { quote = x.quote; text = x.value; quoted = w.quoted; between = k.value; is = refl };
              is = refl;
            };
            is = refl;
          };
          is = refl;
        };
        is = refl;
      };
      is = k.is;
    }

pub spells_attribute_of : (name : List ℕ) → is_name name ≡ true → (between : ℕ → Expr) (L : ℕ → List ℕ → Type 0) → MayStand L → ((q : ℕ) → is_quote q ≡ true → Spells (between q) (L q)) → Spells (attribute_of name between) (IsAttributeOf name L)
spells_attribute_of name h between L m s =
    spells_as
    (spells_chain spells_gap
    (spells_chain (spells_word name (name_ascii name h)) (spells_chain spells_blanks (spells_chain (spells_word (codes "=") refl) (spells_chain spells_blanks (spells_quoted between L s))))))
    (attribute_into name L h m) (attribute_from name L)
