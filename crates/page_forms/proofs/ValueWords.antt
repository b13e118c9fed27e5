-- Words with white space round them.
use Rattle.std.proofs.Common.{◌≡◌, ◌⊎◌, inl, inr, ℕ, suc, Bool, true, false, List, [], ◌∷◌, ◌++◌, refl, sym, ◌∙◌, ap, subst, append_assoc, append-nil}
use Rattle.std.specs.Prelude.{◌&&◌, if◌then◌else◌}
use Rattle.std.specs.List.{list_all}
use Rattle.std.proofs.lemmas.Bool.{and_parts, and_from}
use Rattle.xml_text.specs.Characters.{is_blank}
use Rattle.derivatives.specs.Expressions.{Expr}
use Rattle.page_model.specs.Attributes.{put_before, words_of, is_one_word, are_words}
use Rattle.page_model.specs.Parts.{begins_blank}
use Rattle.page_model.specs.Prolog.{IsSpace}
use Rattle.page_forms.specs.Tags.{one_word, some_words}
use Rattle.page_forms.proofs.NameForms.{spells_blanks, spells_gap}
use Rattle.page_forms.proofs.Spelling.{Spells, Chained, Runs, over, further, put_together, spells_chain, spells_star, spells_as}

abbrev pub AllBlank : List ℕ → Type 0
AllBlank cs = list_all is_blank cs ≡ true

-- a character that is no white space
abbrev pub is_mark : ℕ → Bool
is_mark c = if is_blank c then false else true

pub no_blank : (c : ℕ) → is_mark c ≡ true → is_blank c ≡ false
no_blank c h = at (is_blank c) h
  where
    at : (x : Bool) → (if x then false else true) ≡ true → x ≡ false
    at true e = cc
    at false e = refl

marked : (c : ℕ) → is_blank c ≡ false → is_mark c ≡ true
marked c h = ap (λ (x : Bool). if x then false else true) h

-- white space before a text is passed over
blank_words : (b cs : List ℕ) → AllBlank b → words_of (b ++ cs) ≡ words_of cs
blank_words [] cs h = refl
blank_words (c ∷ b) cs h =
    let p = and_parts (is_blank c) (list_all is_blank b) h in
    ap (λ (x : Bool). if x then words_of (b ++ cs) else put_before c (begins_blank (b ++ cs)) (words_of (b ++ cs))) p.0 ∙ blank_words b cs p.1

-- a word before white space is the first one
word_first : (c : ℕ) (w rest : List ℕ) → list_all is_mark (c ∷ w) ≡ true → begins_blank rest ≡ true → words_of ((c ∷ w) ++ rest) ≡ (c ∷ w) ∷ words_of rest
word_first c [] rest h e =
    let p = and_parts (is_mark c) true h in
    ap (λ (x : Bool). if x then words_of rest else put_before c (begins_blank rest) (words_of rest)) (no_blank c p.0)
    ∙ ap (λ (x : Bool). put_before c x (words_of rest)) e
word_first c (d ∷ w) rest h e =
    let p = and_parts (is_mark c) (list_all is_mark (d ∷ w)) h in
    let q = and_parts (is_mark d) (list_all is_mark w) p.1 in
    ap (λ (x : Bool). if x then words_of ((d ∷ w) ++ rest) else put_before c (is_blank d) (words_of ((d ∷ w) ++ rest))) (no_blank c p.0)
    ∙ ap (λ (x : Bool). put_before c x (words_of ((d ∷ w) ++ rest))) (no_blank d q.0)
    ∙ ap (put_before c false) (word_first d w rest p.1 e)

-- A text is white space, or white space, a word and a rest that begins with white space.

record Headed (cs : List ℕ) : Type 0 where
  space : List ℕ
  first : ℕ
  more : List ℕ
  rest : List ℕ
  blank : AllBlank space
  marks : list_all is_mark (first ∷ more) ≡ true
  apart : begins_blank rest ≡ true
  is : space ++ ((first ∷ more) ++ rest) ≡ cs

-- what has been cut of a text whose first character is no white space
record Opened (c : ℕ) (cs : List ℕ) : Type 0 where
  more : List ℕ
  rest : List ℕ
  marks : list_all is_mark (c ∷ more) ≡ true
  apart : begins_blank rest ≡ true
  is : more ++ rest ≡ cs

opened : (c : ℕ) (cs : List ℕ) → is_blank c ≡ false → Opened c cs
opened c [] h = record { more = []; rest = []; marks = and_from (is_mark c) true (marked c h) refl; apart = refl; is = refl }
opened c (d ∷ cs) h = at (is_blank d) refl (λ e. opened d cs e)
  where
    at : (x : Bool) → is_blank d ≡ x → (is_blank d ≡ false → Opened d cs) → Opened c (d ∷ cs)
    at true e f = record { more = []; rest = d ∷ cs; marks = and_from (is_mark c) true (marked c h) refl; apart = e; is = refl }
    at false e f =
        let o = f e in
        record { more = d ∷ o.more; rest = o.rest; marks = and_from (is_mark c) (list_all is_mark (d ∷ o.more)) (marked c h) o.marks; apart = o.apart; is = ap (λ (z : List ℕ). d ∷ z) o.is }

headed : (cs : List ℕ) → AllBlank cs ⊎ Headed cs
headed [] = inl refl
headed (c ∷ cs) = at (is_blank c) refl (headed cs)
  where
    at : (x : Bool) → is_blank c ≡ x → AllBlank cs ⊎ Headed cs → AllBlank (c ∷ cs) ⊎ Headed (c ∷ cs)
    at true e (inl h) = inl (and_from (is_blank c) (list_all is_blank cs) e h)
    at true e (inr k) = inr (record {
      space = c ∷ k.space;
      first = k.first;
      more = k.more;
      rest = k.rest;
      blank = and_from (is_blank c) (list_all is_blank k.space) e k.blank;
      marks = k.marks;
      apart = k.apart;
      is = ap (λ (z : List ℕ). c ∷ z) k.is;
    })
    at false e s =
        let o = opened c cs e in
        inr (record { space = []; first = c; more = o.more; rest = o.rest; blank = refl; marks = o.marks; apart = o.apart; is = ap (λ (z : List ℕ). c ∷ z) o.is })

headed_words : (cs : List ℕ) (k : Headed cs) → words_of cs ≡ (k.first ∷ k.more) ∷ words_of k.rest
headed_words cs k = ap words_of (sym k.is) ∙ blank_words k.space ((k.first ∷ k.more) ++ k.rest) k.blank ∙ word_first k.first k.more k.rest k.marks k.apart

all_blank_words : (cs : List ℕ) → AllBlank cs → words_of cs ≡ []
all_blank_words cs h = ap words_of (sym (append-nil cs)) ∙ blank_words cs [] h

-- where there is no word, all is white space
no_words : (cs : List ℕ) → words_of cs ≡ [] → AllBlank cs
no_words cs e = at (headed cs)
  where
    at : AllBlank cs ⊎ Headed cs → AllBlank cs
    at (inl h) = h
    at (inr k) = let z : (k.first ∷ k.more) ∷ words_of k.rest ≡ [] = sym (headed_words cs k) ∙ e in cc

blank_begins : (cs : List ℕ) → AllBlank cs → begins_blank cs ≡ true
blank_begins [] h = refl
blank_begins (c ∷ cs) h = (and_parts (is_blank c) (list_all is_blank cs) h).0

-- a test that passes only words
pub record TellsWords (test : List ℕ → Bool) : Type 0 where
  pub some : test [] ≡ true → ⊥
  pub marks : (w : List ℕ) → test w ≡ true → list_all is_mark w ≡ true

-- white space, a word that passes, white space
pub record OneWord (test : List ℕ → Bool) (cs : List ℕ) : Type 0 where
  pub before : List ℕ
  pub between : List ℕ
  pub behind : List ℕ
  pub blank_before : AllBlank before
  pub passes : test between ≡ true
  pub blank_behind : AllBlank behind
  pub is : before ++ (between ++ behind) ≡ cs

one_word_is : (test : List ℕ → Bool) → TellsWords test → (cs : List ℕ) → OneWord test cs → is_one_word test (words_of cs) ≡ true
one_word_is test t cs o = at o.between o.passes o.is
  where
    at : (w : List ℕ) → test w ≡ true → o.before ++ (w ++ o.behind) ≡ cs → is_one_word test (words_of cs) ≡ true
    at [] h e = absurd (t.some h)
    at (c ∷ w) h e =
        let words : words_of cs ≡ (c ∷ w) ∷ [] =
        ap words_of (sym e) ∙ blank_words o.before ((c ∷ w) ++ o.behind) o.blank_before ∙ word_first c w o.behind (t.marks (c ∷ w) h) (blank_begins o.behind o.blank_behind)
        ∙ ap (λ (z : List (List ℕ)). (c ∷ w) ∷ z) (all_blank_words o.behind o.blank_behind) in
        ap (is_one_word test) words ∙ h

is_one_word_of : (test : List ℕ → Bool) (cs : List ℕ) → is_one_word test (words_of cs) ≡ true → OneWord test cs
is_one_word_of test cs h = at (headed cs)
  where
    no : false ≡ true → ⊥
    no e = cc

    put : (k : Headed cs) (ws : List (List ℕ)) → words_of k.rest ≡ ws → is_one_word test ((k.first ∷ k.more) ∷ ws) ≡ true → OneWord test cs
    put k [] e g = record { before = k.space; between = k.first ∷ k.more; behind = k.rest; blank_before = k.blank; passes = g; blank_behind = no_words k.rest e; is = k.is }
    put k (w ∷ ws) e g = absurd (no g)

    at : AllBlank cs ⊎ Headed cs → OneWord test cs
    at (inl b) = absurd (no (ap (is_one_word test) (sym (all_blank_words cs b)) ∙ h))
    at (inr k) = put k (words_of k.rest) refl (ap (is_one_word test) (sym (headed_words cs k)) ∙ h)

pub spells_one_word : {e : Expr} (test : List ℕ → Bool) → TellsWords test → Spells e (λ cs. test cs ≡ true) → Spells (one_word e) (λ cs. is_one_word test (words_of cs) ≡ true)
spells_one_word test t s = spells_as (spells_chain spells_blanks (spells_chain s spells_blanks)) into from
  where
    into : (cs : List ℕ) → Chained AllBlank (Chained (λ cs. test cs ≡ true) AllBlank) cs → is_one_word test (words_of cs) ≡ true
    into cs a =
        let b = a.goes_on in
        one_word_is test t cs (record { before = a.first; between = b.first; behind = b.second; blank_before = a.begins; passes = b.begins; blank_behind = b.goes_on; is = put_together refl b.is a.is })

    from : (cs : List ℕ) → is_one_word test (words_of cs) ≡ true → Chained AllBlank (Chained (λ cs. test cs ≡ true) AllBlank) cs
    from cs h =
        let o = is_one_word_of test cs h in
        record { first = o.before; second = o.between ++ o.behind; begins = o.blank_before; goes_on = record { first = o.between; second = o.behind; begins = o.passes; goes_on = o.blank_behind; is = refl }; is = o.is }

-- Some words.

-- words, each behind some white space
abbrev Later : (List ℕ → Bool) → List ℕ → Type 0
Later test = Chained IsSpace (λ cs. test cs ≡ true)

-- what stands behind a word: more of them, and white space
record MoreWords (test : List ℕ → Bool) (cs : List ℕ) : Type 0 where
  more : List ℕ
  space : List ℕ
  runs : Runs (Later test) more
  blank : AllBlank space
  is : more ++ space ≡ cs

-- the words of such a text
record PassBehind (test : List ℕ → Bool) (cs : List ℕ) : Type 0 where
  apart : begins_blank cs ≡ true
  pass : list_all test (words_of cs) ≡ true

space_begins : (s cs : List ℕ) → IsSpace s → begins_blank (s ++ cs) ≡ true
space_begins [] cs g = absurd (g.some refl)
space_begins (c ∷ s) cs g = (and_parts (is_blank c) (list_all is_blank s) g.blank).0

word_behind : (test : List ℕ → Bool) → TellsWords test → (s w rest : List ℕ) → IsSpace s → test w ≡ true → PassBehind test rest → PassBehind test (s ++ (w ++ rest))
word_behind test t s [] rest g h p = absurd (t.some h)
word_behind test t s (c ∷ w) rest g h p = record {
  apart = space_begins s ((c ∷ w) ++ rest) g;
  pass = ap (list_all test) (blank_words s ((c ∷ w) ++ rest) g.blank ∙ word_first c w rest (t.marks (c ∷ w) h) p.apart) ∙ and_from (test (c ∷ w)) (list_all test (words_of rest)) h p.pass;
}

runs_pass : (test : List ℕ → Bool) → TellsWords test → {more : List ℕ} → Runs (Later test) more → (space : List ℕ) → AllBlank space → PassBehind test (more ++ space)
runs_pass test t over space b = record { apart = blank_begins space b; pass = ap (list_all test) (all_blank_words space b) }
runs_pass test t (further {first = first} {more = more} k r) space b =
    subst (PassBehind test) (sym (append_assoc k.first k.second (more ++ space)) ∙ ap (λ (z : List ℕ). z ++ (more ++ space)) k.is ∙ sym (append_assoc first more space))
    (word_behind test t k.first k.second (more ++ space) k.begins k.goes_on (runs_pass test t r space b))

-- the white space before a word, where the text begins with some
headed_space : (cs : List ℕ) → begins_blank cs ≡ true → (k : Headed cs) → IsSpace k.space
headed_space cs h k = record { some = λ e. none e k.is; blank = k.blank }
  where
    both : (b : Bool) → b ≡ true → b ≡ false → ⊥
    both b t f = cc

    none : k.space ≡ [] → k.space ++ ((k.first ∷ k.more) ++ k.rest) ≡ cs → ⊥
    none e i =
        let p : k.first ∷ (k.more ++ k.rest) ≡ cs = ap (λ (z : List ℕ). z ++ ((k.first ∷ k.more) ++ k.rest)) (sym e) ∙ i in
        let q : is_blank k.first ≡ true = ap begins_blank p ∙ h in
        both (is_blank k.first) q (no_blank k.first (and_parts (is_mark k.first) (list_all is_mark k.more) k.marks).0)

tail_is : (v w : List ℕ) (vs ws : List (List ℕ)) → (let z : List (List ℕ) = v ∷ vs in z ≡ w ∷ ws) → vs ≡ ws
tail_is v w vs ws e = cc

pass_runs : (test : List ℕ → Bool) (ws : List (List ℕ)) (cs : List ℕ) → words_of cs ≡ ws → PassBehind test cs → MoreWords test cs
pass_runs test [] cs e p = record { more = []; space = cs; runs = over; blank = no_words cs e; is = refl }
pass_runs test (w ∷ ws) cs e p = at (headed cs) (λ xs g q. pass_runs test ws xs g q)
  where
    put : (k : Headed cs) → MoreWords test k.rest → MoreWords test cs
    put k m =
        let a : list_all test ((k.first ∷ k.more) ∷ words_of k.rest) ≡ true = ap (list_all test) (sym (headed_words cs k)) ∙ p.pass in
        record {
          more = (k.space ++ (k.first ∷ k.more)) ++ m.more;
          space = m.space;
          runs = further (record { first = k.space; second = k.first ∷ k.more; begins = headed_space cs p.apart k; goes_on = (and_parts (test (k.first ∷ k.more)) (list_all test (words_of k.rest)) a).0; is = refl }) m.runs;
          blank = m.blank;
          is = append_assoc (k.space ++ (k.first ∷ k.more)) m.more m.space ∙ ap (λ (z : List ℕ). (k.space ++ (k.first ∷ k.more)) ++ z) m.is
              ∙ append_assoc k.space (k.first ∷ k.more) k.rest ∙ k.is;
        }

    at : AllBlank cs ⊎ Headed cs → ((xs : List ℕ) → words_of xs ≡ ws → PassBehind test xs → MoreWords test xs) → MoreWords test cs
    at (inl b) f = let z : w ∷ ws ≡ [] = sym e ∙ all_blank_words cs b in cc
    at (inr k) f =
        let a : list_all test ((k.first ∷ k.more) ∷ words_of k.rest) ≡ true = ap (list_all test) (sym (headed_words cs k)) ∙ p.pass in
        put k (f k.rest (tail_is (k.first ∷ k.more) w (words_of k.rest) ws (sym (headed_words cs k) ∙ e))
        (record { apart = k.apart; pass = (and_parts (test (k.first ∷ k.more)) (list_all test (words_of k.rest)) a).1 }))

abbrev WordParts : (List ℕ → Bool) → List ℕ → Type 0
WordParts test = Chained AllBlank (Chained (λ cs. test cs ≡ true) (Chained (Runs (Later test)) AllBlank))

words_into : (test : List ℕ → Bool) → TellsWords test → (cs : List ℕ) → WordParts test cs → are_words test (words_of cs) ≡ true
words_into test t cs a = at b.first b.begins (put_together refl (put_together refl c.is b.is) a.is)
  where
    b : Chained (λ cs. test cs ≡ true) (Chained (Runs (Later test)) AllBlank) a.second
    b = a.goes_on

    c : Chained (Runs (Later test)) AllBlank b.second
    c = b.goes_on

    at : (w : List ℕ) → test w ≡ true → a.first ++ (w ++ (c.first ++ c.second)) ≡ cs → are_words test (words_of cs) ≡ true
    at [] h e = absurd (t.some h)
    at (d ∷ w) h e =
        let p = runs_pass test t c.begins c.second c.goes_on in
        ap (are_words test) (ap words_of (sym e) ∙ blank_words a.first ((d ∷ w) ++ (c.first ++ c.second)) a.begins ∙ word_first d w (c.first ++ c.second) (t.marks (d ∷ w) h) p.apart)
        ∙ and_from (test (d ∷ w)) (list_all test (words_of (c.first ++ c.second))) h p.pass

words_from : (test : List ℕ → Bool) (cs : List ℕ) → are_words test (words_of cs) ≡ true → WordParts test cs
words_from test cs h = at (headed cs)
  where
    no : false ≡ true → ⊥
    no e = cc

    at : AllBlank cs ⊎ Headed cs → WordParts test cs
    at (inl b) = absurd (no (ap (are_words test) (sym (all_blank_words cs b)) ∙ h))
    at (inr k) =
        let a : list_all test ((k.first ∷ k.more) ∷ words_of k.rest) ≡ true = ap (are_words test) (sym (headed_words cs k)) ∙ h in
        let p = and_parts (test (k.first ∷ k.more)) (list_all test (words_of k.rest)) a in
        let m = pass_runs test (words_of k.rest) k.rest refl (record { apart = k.apart; pass = p.1 }) in
        record {
          first = k.space;
          second = (k.first ∷ k.more) ++ k.rest;
          begins = k.blank;
          goes_on = record { first = k.first ∷ k.more; second = k.rest; begins = p.0; goes_on = record { first = m.more; second = m.space; begins = m.runs; goes_on = m.blank; is = m.is }; is = refl };
          is = k.is;
        }

pub spells_some_words : {e : Expr} (test : List ℕ → Bool) → TellsWords test → Spells e (λ cs. test cs ≡ true) → Spells (some_words e) (λ cs. are_words test (words_of cs) ≡ true)
spells_some_words test t s =
    spells_as (spells_chain spells_blanks (spells_chain s (spells_chain (spells_star (spells_chain spells_gap s)) spells_blanks))) (words_into test t) (words_from test)
