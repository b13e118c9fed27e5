-- Canonical words with options put in are canonical, and what they say.
use Rattle.std.proofs.Common.{◌≡◌, ◌∙◌, ◌++◌, ◌&&◌, ap, ℕ, Bool, true, false, not, List, [], ◌∷◌, Option, Some, None, refl, sym, subst, true≢false}
use Rattle.std.proofs.Math.Path.{fun_ext}
use Rattle.std.specs.Prelude.{if◌then◌else◌}
use Rattle.std.specs.Str.{bytes_eq}
use Rattle.command_words.specs.Asked.{Asked, asked_by}
use Rattle.command_words.specs.Program.{Row, commands}
use Rattle.command_words.specs.Canonical.{Part, place, joined, apart, flag, AreCanonical, AreParts, IsAmong, IsCanonical, IsPlain, canonical, all_words, given, is_among, name_of, part_value}
use Rattle.call_options.specs.Members.{Setting}
use Rattle.call_options.specs.Outcome.{gives, outcome}
use Rattle.call_options.specs.Words.{filled, first_said, is_one_of, option_word, say, set_by, with_option, with_options}
use Rattle.call_options.proofs.Names.{RowNames, among_more, one_of_is, or_false, row_names, same, turned}
use Rattle.call_options.proofs.Said.{names_in, say_is}
use Rattle.call_options.proofs.Plain.{ArePlain, file_plain}

-- parts behind one more, which they are not for
keep_parts : (row : Row) (name : List ℕ) → bytes_eq name row.place ≡ false → (ps : List Part) (last : Option (List ℕ)) (before : List (List ℕ))
    → is_among name (names_in row.place ps) ≡ false → AreParts row before ps last → AreParts row (before ++ name ∷ []) ps last
keep_parts row name other [] None before free fits = among_more row.place name before other ∙ fits
keep_parts row name other [] (Some v) before free fits = among_more row.place name before other ∙ fits
keep_parts row name other (place v ∷ ps) last before free fits =
    let p = or_false (bytes_eq row.place name) (is_among name (names_in row.place ps)) free in
    ((fits.0.0, among_more row.place name before other ∙ fits.0.1), keep_parts row name other ps last (row.place ∷ before) p.1 fits.1)
keep_parts row name other (joined n v ∷ ps) last before free fits =
    let p = or_false (bytes_eq n name) (is_among name (names_in row.place ps)) free in
    ((fits.0.0, fits.0.1, among_more n name before (turned name n ∙ p.0) ∙ fits.0.2), keep_parts row name other ps last (n ∷ before) p.1 fits.1)
keep_parts row name other (apart n v ∷ ps) last before free fits =
    let p = or_false (bytes_eq n name) (is_among name (names_in row.place ps)) free in
    ((fits.0.0, fits.0.1, among_more n name before (turned name n ∙ p.0) ∙ fits.0.2), keep_parts row name other ps last (n ∷ before) p.1 fits.1)
keep_parts row name other (flag n ∷ ps) last before free fits =
    let p = or_false (bytes_eq n name) (is_among name (names_in row.place ps)) free in
    ((fits.0.0, among_more n name before (turned name n ∙ p.0) ∙ fits.0.1), keep_parts row name other ps last (n ∷ before) p.1 fits.1)

-- of an argument that they are not for they say nothing
not_given : (at name : List ℕ) → bytes_eq at name ≡ false → (ps : List Part) (last : Option (List ℕ)) → is_among name (names_in at ps) ≡ false → given at ps last name ≡ None
not_given at name other [] None free = refl
not_given at name other [] (Some v) free = rw other refl
not_given at name other (part ∷ ps) last free =
    let p = or_false (bytes_eq (name_of at part) name) (is_among name (names_in at ps)) free in
    rw p.0 (not_given at name other ps last p.1)

-- of one that they are for they say something
is_given : (at name : List ℕ) (ps : List Part) (last : Option (List ℕ)) → is_among name (names_in at ps) ≡ true → given at ps last name ≡ None → ⊥
is_given at name [] last among none = true≢false (sym among)
is_given at name (part ∷ ps) last among none = by (bytes_eq (name_of at part) name) refl (is_given at name ps last)
  where
    by : (t : Bool) → bytes_eq (name_of at part) name ≡ t → (is_among name (names_in at ps) ≡ true → given at ps last name ≡ None → ⊥) → ⊥
    by true t rec = let some : Some (part_value part) ≡ None = rw t at none in cc
    by false t rec = rec (rw t at among) (rw t at none)

said_alone : (o : Option (List ℕ)) → o ≡ first_said o None
said_alone None = refl
said_alone (Some v) = refl

-- an option that the command takes and the parts are not for, as a part of its own
filled_put : (at : List ℕ) (ps : List Part) (last : Option (List ℕ)) (options : List (List ℕ)) (name value : List ℕ) (settings : List Setting)
    → is_one_of name options ≡ true → bytes_eq at name ≡ false → is_among name (names_in at ps) ≡ false → (n : List ℕ)
    → filled options settings (given at (joined name value ∷ ps) last) n ≡ filled options ((name, value) ∷ settings) (given at ps last) n
filled_put at ps last options name value settings taken other free n = by (bytes_eq name n) refl
  where
    by : (t : Bool) → bytes_eq name n ≡ t
        → filled options settings (given at (joined name value ∷ ps) last) n ≡ filled options ((name, value) ∷ settings) (given at ps last) n
    by true t =
        let none : given at ps last n ≡ None = subst (λ (m : List ℕ). given at ps last m ≡ None) (same name n t) (not_given at name other ps last free) in
        rw (t, taken, none) refl
    by false t = rw (t, taken) refl

-- one that the parts are for
filled_said : (at : List ℕ) (ps : List Part) (last : Option (List ℕ)) (options : List (List ℕ)) (name value : List ℕ) (settings : List Setting)
    → is_among name (names_in at ps) ≡ true → (n : List ℕ)
    → filled options settings (given at ps last) n ≡ filled options ((name, value) ∷ settings) (given at ps last) n
filled_said at ps last options name value settings among n = by (given at ps last n) refl (bytes_eq name n) refl
  where
    by : (o : Option (List ℕ)) → given at ps last n ≡ o → (t : Bool) → bytes_eq name n ≡ t
        → first_said o (set_by options settings n) ≡ first_said o (set_by options ((name, value) ∷ settings) n)
    by (Some v) e t is = refl
    by None e true t = absurd (is_given at name ps last among (subst (λ (m : List ℕ). given at ps last m ≡ None) (sym (same name n t)) e))
    by None e false t = skip (is_one_of name options) t
      where
        skip : (u : Bool) → bytes_eq name n ≡ false → set_by options settings n ≡ (if u && bytes_eq name n then Some value else set_by options settings n)
        skip true t = rw t refl
        skip false t = refl

-- one that the command does not take
filled_other : (values : List ℕ → Option (List ℕ)) (options : List (List ℕ)) (name value : List ℕ) (settings : List Setting)
    → is_one_of name options ≡ false → (n : List ℕ) → filled options settings values n ≡ filled options ((name, value) ∷ settings) values n
filled_other values options name value settings e n = rw e refl

-- an option put into words of a command
with_is : (row : Row) → RowNames row → (ws : List (List ℕ)) (name value : List ℕ) (t u : Bool) → is_one_of name row.options ≡ t → say ws name ≡ u
    → with_option (row.word ∷ ws) (name, value) ≡ (if t && not u then row.word ∷ option_word (name, value) ∷ ws else row.word ∷ ws)
with_is row k ws name value t u p q =
    ap (λ (b : Bool). if b && not (say ws name) then row.word ∷ option_word (name, value) ∷ ws else row.word ∷ ws) (ap (is_one_of name) k.taken ∙ p)
    ∙ ap (λ (b : Bool). if t && not b then row.word ∷ option_word (name, value) ∷ ws else row.word ∷ ws) q

-- words with options put in have these parts
record Put (row : Row) (settings : List Setting) (ps : List Part) (last : Option (List ℕ)) : Type 0 where
  parts : List Part
  is : with_options (row.word ∷ all_words ps last) settings ≡ row.word ∷ all_words parts last
  fits : AreCanonical row parts last
  says : (n : List ℕ) → given row.place parts last n ≡ filled row.options settings (given row.place ps last) n

abbrev Puts : Row → List Setting → Type 0
Puts row settings = (ps : List Part) (last : Option (List ℕ)) → AreCanonical row ps last → Put row settings ps last

put_one : (row : Row) → RowNames row → (name value : List ℕ) (settings : List Setting) → IsPlain value → Puts row settings → Puts row ((name, value) ∷ settings)
put_one row k name value settings plain rec ps last fits = by (is_one_of name row.options) (say (all_words ps last) name) refl refl
  where
    said : IsAmong name row.options → say (all_words ps last) name ≡ is_among name (names_in row.place ps)
    said among = say_is row k name (k.options name among) (k.places name among) ps last [] fits

    by : (t u : Bool) → is_one_of name row.options ≡ t → say (all_words ps last) name ≡ u → Put row ((name, value) ∷ settings) ps last
    by true false t u =
        let among = one_of_is name row.options t in
        let free : is_among name (names_in row.place ps) ≡ false = sym (said among) ∙ u in
        let other = k.places name among in
        let more = rec (joined name value ∷ ps) last ((plain, among, refl), keep_parts row name (turned name row.place ∙ other) ps last [] free fits) in
        record {
          parts = more.parts;
          is = ap (λ (ws : List (List ℕ)). with_options ws settings) (with_is row k (all_words ps last) name value true false t u) ∙ more.is;
          fits = more.fits;
          says = λ n. more.says n ∙ filled_put row.place ps last row.options name value settings t other free n;
        }
    by true true t u =
        let among : is_among name (names_in row.place ps) ≡ true = sym (said (one_of_is name row.options t)) ∙ u in
        let more = rec ps last fits in
        record {
          parts = more.parts;
          is = ap (λ (ws : List (List ℕ)). with_options ws settings) (with_is row k (all_words ps last) name value true true t u) ∙ more.is;
          fits = more.fits;
          says = λ n. more.says n ∙ filled_said row.place ps last row.options name value settings among n;
        }
    by false u t v =
        let more = rec ps last fits in
        record {
          parts = more.parts;
          is = ap (λ (ws : List (List ℕ)). with_options ws settings) (with_is row k (all_words ps last) name value false u t v) ∙ more.is;
          fits = more.fits;
          says = λ n. more.says n ∙ filled_other (given row.place ps last) row.options name value settings t n;
        }

put : (row : Row) → RowNames row → (settings : List Setting) → ArePlain settings → Puts row settings
put row k [] plain ps last fits = record { parts = ps; is = refl; fits = fits; says = λ n. said_alone (given row.place ps last n) }
put row k (setting ∷ settings) plain ps last fits = put_one row k setting.0 setting.1 settings plain.0 (put row k settings plain.1) ps last fits

-- canonical words with the options of a file
pub options_put : (row : Row) (parts : List Part) (last : Option (List ℕ)) (file : List ℕ) (settings : List Setting) (for : Asked) → IsAmong row commands
    → AreCanonical row parts last → outcome file ≡ gives settings → asked_by row.word (filled row.options settings (given row.place parts last)) ≡ Some for
    → IsCanonical (with_options (row.word ∷ all_words parts last) settings) for
options_put row parts last file settings for is fits given_is asks =
    let p = put row (row_names row is) settings (file_plain file settings given_is) parts last fits in
    canonical row p.parts last is p.fits p.is (ap (asked_by row.word) (fun_ext p.says) ∙ asks)
