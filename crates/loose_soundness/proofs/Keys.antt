-- The keys that written keys come to.
use Rattle.std.proofs.Common.{◌≡◌, ℕ, ℤ, pos, true, false, not, List, [], ◌∷◌, Option, Some, None, Result, Ok, refl, sym, ap, subst, ◌∙◌}
use Rattle.std.specs.Prelude.{⊤}
use Rattle.std.specs.Fmt.{signed_decimal}
use Rattle.plain_values.specs.Plain.{Plain, PlainKey, int_key, text_key, null, flag, int, text, array}
use Rattle.plain_values.specs.Keys.{canonical_integer, canonical_key, key_of, same_key}
use Rattle.plain_values.specs.Numeric.{is_in_range}
use Rattle.plain_values.specs.Text.{text_of}
use Rattle.plain_values.specs.Walks.{value_of_key}
use Rattle.plain_values.specs.declared.fault.Fault.{Fault}
use Rattle.flow_code.specs.Points.{PlainFlow, PlainKeyRef, int_ref, text_ref, read_ref}
use Rattle.flow_code.specs.Runs.{Slots, key_value}
use Rattle.least_sets.specs.Forms.{Form}
use Rattle.least_sets.specs.Sets.{In}
use Rattle.loose_sets.specs.Reaching.{at_point}
use Rattle.loose_sets.specs.Keys.{literal_key, is_among, may_be, may_be_other, is_exactly}
use Rattle.loose_sets.specs.declared.name.Aspect.TheVariants.{Own, Keys}
use Rattle.loose_sets.specs.declared.name.Half.TheVariants as half
use Rattle.loose_sets.specs.declared.name.SetName.{SetName}
use Rattle.loose_soundness.proofs.Names.{set_of, use_of}
use Rattle.loose_sets.specs.Table.{Row}
use Rattle.loose_soundness.proofs.SourceRows.{IsKeyText, of_integer, of_text, of_value, of_false, of_next}
use Rattle.plain_values.proofs.CanonicalLemmas.{spelled}
use Rattle.plain_values.proofs.SameKeys.{same_itself, same_back}
use Rattle.loose_soundness.proofs.Decimals.{integer_is, decimal_none, decimal_one}
use Rattle.loose_soundness.proofs.Lying.{Def, UseLies, same_in}

-- a written key comes to a key: by its value, or as the key that comes next
pub data Resolved (f : Slots) : Option PlainKeyRef → PlainKey → Type 0 where
  by_key : (k : PlainKeyRef) (c : PlainKey) → key_of (key_value f k) ≡ Ok c → Resolved f (Some k) c
  by_next : (z : ℤ) → is_in_range z ≡ true → Resolved f None (int_key z)

same_result : (r : Result PlainKey Fault) (c d : PlainKey) → r ≡ Ok c → r ≡ Ok d → c ≡ d
same_result r c d e h = cc

-- a literal comes to its Own key
pub literal_comes : (f : Slots) (k : PlainKeyRef) (c d : PlainKey) → literal_key k ≡ Some d → key_of (key_value f k) ≡ Ok c → c ≡ d
unfolding literal_key key_value
literal_comes f (int_ref z) c d l e = let is : d ≡ int_key z = cc in same_result (key_of (int z)) c (int_key z) e refl ∙ sym is
literal_comes f (text_ref t) c d l e =
    let is : d ≡ canonical_key t (canonical_integer t) = cc in
    same_result (key_of (text t)) c (canonical_key t (canonical_integer t)) e refl ∙ sym is
literal_comes f (read_ref x) c d l e = cc

pub may_be_it : (f : Slots) (k : Option PlainKeyRef) (c : PlainKey) → Resolved f k c → may_be k c ≡ true
unfolding may_be literal_key
may_be_it f (Some (int_ref z)) _ (by_key _ c e) = ap (same_key (int_key z)) (literal_comes f (int_ref z) c (int_key z) refl e) ∙ same_itself (int_key z)
may_be_it f (Some (text_ref t)) _ (by_key _ c e) =
    let d = canonical_key t (canonical_integer t) in
    ap (same_key d) (literal_comes f (text_ref t) c d refl e) ∙ same_itself d
may_be_it f (Some (read_ref x)) _ (by_key _ c e) = refl
may_be_it f None _ (by_next z h) = refl

pub may_be_none : (f : Slots) (k : Option PlainKeyRef) (c : PlainKey) (told : List PlainKey) → Resolved f k c → is_among c told ≡ false → may_be_other k told ≡ true
unfolding may_be_other literal_key
may_be_none f (Some (int_ref z)) _ told (by_key _ c e) h = ap not (ap (λ c. is_among c told) (sym (literal_comes f (int_ref z) c (int_key z) refl e)) ∙ h)
may_be_none f (Some (text_ref t)) _ told (by_key _ c e) h = ap not (ap (λ c. is_among c told) (sym (literal_comes f (text_ref t) c (canonical_key t (canonical_integer t)) refl e)) ∙ h)
may_be_none f (Some (read_ref x)) _ told (by_key _ c e) h = refl
may_be_none f None _ told (by_next z i) h = refl

pub not_exactly : (f : Slots) (k : Option PlainKeyRef) (c j : PlainKey) → Resolved f k c → same_key j c ≡ false → is_exactly k j ≡ false
unfolding is_exactly literal_key
not_exactly f (Some (int_ref z)) _ j (by_key _ c e) h = ap (λ c. same_key c j) (sym (literal_comes f (int_ref z) c (int_key z) refl e)) ∙ same_back c j ∙ h
not_exactly f (Some (text_ref t)) _ j (by_key _ c e) h =
    ap (λ c. same_key c j) (sym (literal_comes f (text_ref t) c (canonical_key t (canonical_integer t)) refl e)) ∙ same_back c j ∙ h
not_exactly f (Some (read_ref x)) _ j (by_key _ c e) h = refl
not_exactly f None _ j (by_next z i) h = refl

-- a canonical text is the decimal form of its integer
pub canonical_text : (t : List ℕ) → text_of (value_of_key (canonical_key t (canonical_integer t))) ≡ t
canonical_text t = by (canonical_integer t) refl
  where
    by : (o : Option ℤ) → canonical_integer t ≡ o → text_of (value_of_key (canonical_key t o)) ≡ t
    by None e = refl
    by (Some z) e = spelled t z e

-- its text is one of the texts that a key may have
module _ (flow : PlainFlow) (p : ℕ) where
  abbrev Rows : Option PlainKeyRef → Type 0
  Rows k = (g : Form SetName) → IsKeyText p k g → Row flow (set_of Keys (at_point p)) g

  value_text : (f : Slots) (y : ℕ) (v : Plain) (c : PlainKey) → Rows (Some (read_ref y)) → UseLies flow y p v → key_of v ≡ Ok c → Def flow (at_point p) Keys (text_of (value_of_key c))
  value_text f y null c rows h e =
      let is : c ≡ text_key [] = sym (same_result (key_of null) (text_key []) c refl e) in
      subst (λ c. Def flow (at_point p) Keys (text_of (value_of_key c))) (sym is) (same_in flow _ (use_of (Own half.Text) y p) [] (rows _ (of_value y)) h.covers)
  value_text f y (flag false) c rows h e =
      let is : c ≡ int_key (pos 0) = sym (same_result (key_of (flag false)) (int_key (pos 0)) c refl e) in
      subst (λ c. Def flow (at_point p) Keys (text_of (value_of_key c))) (sym is)
      (subst (λ w. Def flow (at_point p) Keys w) (sym decimal_none) (In.text (set_of Keys (at_point p)) (48 ∷ []) (rows _ (of_false y))))
  value_text f y (flag true) c rows h e =
      let is : c ≡ int_key (pos 1) = sym (same_result (key_of (flag true)) (int_key (pos 1)) c refl e) in
      subst (λ c. Def flow (at_point p) Keys (text_of (value_of_key c))) (sym is)
      (subst (λ w. Def flow (at_point p) Keys w) (sym decimal_one) (same_in flow _ (use_of (Own half.Text) y p) (49 ∷ []) (rows _ (of_value y)) h.covers))
  value_text f y (int z) c rows h e =
      let is : c ≡ int_key z = sym (same_result (key_of (int z)) (int_key z) c refl e) in
      subst (λ c. Def flow (at_point p) Keys (text_of (value_of_key c))) (sym is) (same_in flow _ (use_of (Own half.Text) y p) (signed_decimal z) (rows _ (of_value y)) h.covers)
  value_text f y (text t) c rows h e =
      let is : c ≡ canonical_key t (canonical_integer t) = sym (same_result (key_of (text t)) (canonical_key t (canonical_integer t)) c refl e) in
      subst (λ c. Def flow (at_point p) Keys (text_of (value_of_key c))) (sym is)
      (subst (λ w. Def flow (at_point p) Keys w) (sym (canonical_text t)) (same_in flow _ (use_of (Own half.Text) y p) t (rows _ (of_value y)) h.covers))
  value_text f y (array ps) c rows h e = cc

  -- what a run holds in the slot of a key
  abbrev pub KeyLies : Slots → Option PlainKeyRef → Type 0
  KeyLies f (Some (read_ref y)) = UseLies flow y p (f y)
  KeyLies f k = ⊤

  pub key_text : (f : Slots) (k : Option PlainKeyRef) (c : PlainKey) → Rows k → KeyLies f k → Resolved f k c → Def flow (at_point p) Keys (text_of (value_of_key c))
  unfolding key_value literal_key
  key_text f (Some (int_ref z)) _ rows h (by_key _ c e) =
      subst (λ c. Def flow (at_point p) Keys (text_of (value_of_key c))) (sym (literal_comes f (int_ref z) c (int_key z) refl e)) (In.text (set_of Keys (at_point p)) (signed_decimal z) (rows _ (of_integer z)))
  key_text f (Some (text_ref t)) _ rows h (by_key _ c e) =
      subst (λ c. Def flow (at_point p) Keys (text_of (value_of_key c))) (sym (literal_comes f (text_ref t) c (canonical_key t (canonical_integer t)) refl e))
      (subst (λ w. Def flow (at_point p) Keys w) (sym (canonical_text t)) (In.text (set_of Keys (at_point p)) t (rows _ (of_text t))))
  key_text f (Some (read_ref y)) _ rows h (by_key _ c e) = value_text f y (f y) c rows h e
  key_text f None _ rows h (by_next z i) = In.integer (set_of Keys (at_point p)) (signed_decimal z) (rows _ of_next) (integer_is z i)
