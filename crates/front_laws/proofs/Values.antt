-- Values, by how their attribute is declared, and in the XML declaration.
use Rattle.std.proofs.Common.{◌≡◌, ℕ, Bool, true, false, List, [], ◌∷◌, ◌++◌, Option, Some, None, refl, sym, ap, subst, append_assoc, append-nil}
use Rattle.std.specs.Prelude.{if◌then◌else◌}
use Rattle.dtd_model.specs.Table.{Kind, cdata, id, idref, idrefs, nmtoken, nmtokens, one_of, Presence, implied, required, with_default, fixed, Declared}
use Rattle.page_model.specs.Fronts.{find_declared, DeclaredStands, WordStands}
use Rattle.page_model.specs.OpenValues.{OpenValue, in_fixed, in_choice, in_words, KindStands, ValueStands}
use Rattle.page_steps.specs.TagSteps.{start_of, step_of, word_step}
use Rattle.page_steps.specs.ValueSteps.{kind_start, start_by, value_start, value_step, kept_step, may_stand}
use Rattle.front_laws.proofs.Folds.{Folds, here, on, nowhere, somewhere, either, Led, Embeds, embedded, any_symbol, all_any}
use Rattle.front_laws.proofs.Texts.{texts}
use Rattle.front_laws.proofs.Words.{words, choice}

kinds : (entities : List (List ℕ)) (kind : Kind) (v : OpenValue) (cs : List ℕ) → KindStands kind v cs → Folds (kept_step entities kind) (kind_start kind) cs v
kinds entities cdata v cs h = texts entities cdata v cs h
kinds entities (one_of tokens) v cs h = subst (λ (w : OpenValue). Folds (kept_step entities (one_of tokens)) (in_choice [] false) cs w) (sym h) (choice entities (one_of tokens) cs)
kinds entities id v cs h = subst (λ (w : OpenValue). Folds (kept_step entities id) (in_words false false) cs w) (sym h) (words entities id cs)
kinds entities idref v cs h = subst (λ (w : OpenValue). Folds (kept_step entities idref) (in_words false false) cs w) (sym h) (words entities idref cs)
kinds entities idrefs v cs h = subst (λ (w : OpenValue). Folds (kept_step entities idrefs) (in_words false false) cs w) (sym h) (words entities idrefs cs)
kinds entities nmtoken v cs h = subst (λ (w : OpenValue). Folds (kept_step entities nmtoken) (in_words false false) cs w) (sym h) (words entities nmtoken cs)
kinds entities nmtokens v cs h = subst (λ (w : OpenValue). Folds (kept_step entities nmtokens) (in_words false false) cs w) (sym h) (words entities nmtokens cs)

fixed_from : (entities : List (List ℕ)) (kind : Kind) (cs value : List ℕ) → Folds (kept_step entities kind) (in_fixed value) cs (in_fixed (value ++ cs))
fixed_from entities kind [] value = here (ap in_fixed (sym (append-nil value)))
fixed_from entities kind (c ∷ cs) value =
    on (somewhere (subst (λ (w : List ℕ). Folds (kept_step entities kind) (in_fixed (value ++ c ∷ [])) cs (in_fixed w)) (append_assoc value (c ∷ []) cs) (fixed_from entities kind cs (value ++ c ∷ []))))

-- what may not stand stops it
stand_embeds : (entities : List (List ℕ)) (d : Declared) → Embeds (kept_step entities d.kind) (value_step entities d) (λ v. v) any_symbol
stand_embeds entities d v c z h e = at (may_stand c) e
  where
    at : (b : Bool) → (if b then kept_step entities d.kind v c else None) ≡ Some z → Led (kept_step entities d.kind) (λ v. v) v c z
    at true e = record { g = z; led = e; is = refl }
    at false e = cc

by_presence : (entities : List (List ℕ)) (d : Declared) (v : OpenValue) (cs : List ℕ) (p : Presence) → ValueStands (record { name = d.name; kind = d.kind; presence = p }) v cs → Folds (kept_step entities d.kind) (start_by d.kind p) cs v
by_presence entities d v cs (fixed wanted) h = subst (λ (w : OpenValue). Folds (kept_step entities d.kind) (in_fixed []) cs w) (sym h) (fixed_from entities d.kind cs [])
by_presence entities d v cs implied h = kinds entities d.kind v cs h
by_presence entities d v cs required h = kinds entities d.kind v cs h
by_presence entities d v cs with_default h = kinds entities d.kind v cs h

pub values : (entities : List (List ℕ)) (d : Declared) (v : OpenValue) (cs : List ℕ) → ValueStands d v cs → Folds (value_step entities d) (value_start d) cs v
values entities d v cs h = embedded (λ v. v) any_symbol (stand_embeds entities d) (all_any cs) (by_presence entities d v cs d.presence h)

-- Where the attribute is declared.
pub declared_values : (entities : List (List ℕ)) (rules : List Declared) (name : List ℕ) (v : OpenValue) (value : List ℕ) → DeclaredStands rules name v value
    → Folds (λ v c. step_of entities (find_declared rules name) v c) (start_of (find_declared rules name)) value v
declared_values entities rules name v value (d, found, h) =
    subst (λ (o : Option Declared). Folds (λ v c. step_of entities o v c) (start_of o) value v) (sym found) (values entities d v value h)

-- In the XML declaration.
words_from : (cs value : List ℕ) → Folds (λ v c. word_step v c) (in_fixed value) cs (in_fixed (value ++ cs))
words_from [] value = here (ap in_fixed (sym (append-nil value)))
words_from (c ∷ cs) value =
    on (either (may_stand c) (Some (in_fixed (value ++ c ∷ []))) None
    (λ h. somewhere (subst (λ (w : List ℕ). Folds (λ v c. word_step v c) (in_fixed (value ++ c ∷ [])) cs (in_fixed w)) (append_assoc value (c ∷ []) cs) (words_from cs (value ++ c ∷ []))))
    (λ h. nowhere))

pub word_values : (name : List ℕ) (v : OpenValue) (value : List ℕ) → WordStands name v value → Folds (λ v c. word_step v c) (in_fixed []) value v
word_values name v value h = subst (λ (w : OpenValue). Folds (λ v c. word_step v c) (in_fixed []) value w) (sym h) (words_from value [])
