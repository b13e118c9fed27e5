-- Rows of parts, where the table has a row more, or the same ones.
use Rattle.std.proofs.Common.{◌≡◌, ◌⊎◌, inl, inr, ℕ, List, [], ◌∷◌, Option, Some, None, refl, subst, ap}
use Rattle.std.specs.Prelude.{⊤}
use Rattle.least_sets.specs.Forms.{Form, text_form, same_form, join_form, before_form, request_form, integer_form, apply_form, yes_form, where_form}
use Rattle.given_texts.specs.Closed.{Closed}
use Rattle.system_writing.specs.Parts.{Part, set_part, end_part, closed_part, PartRow}

-- a text: nothing, or what stands at its end
unfoldable pub text_row : {N : Type 0} → List ℕ → Form (Part N)
text_row [] = text_form []
text_row (b ∷ w) = same_form (end_part (b ∷ w))

-- a text before a set
unfoldable pub before_row : {N : Type 0} → List ℕ → N → Form (Part N)
before_row [] j = same_form (set_part j)
before_row (b ∷ w) j = join_form (end_part (b ∷ w)) (set_part j)

-- the row of parts of a form; none for one that only says yes
unfoldable pub row_of : {N : Type 0} → Closed → Form N → Option (Form (Part N))
unfolding text_row before_row
row_of closed (text_form w) = Some (text_row w)
row_of closed (same_form j) = Some (same_form (set_part j))
row_of closed (join_form i j) = Some (join_form (set_part i) (set_part j))
row_of closed (before_form w j) = Some (before_row w j)
row_of closed request_form = Some (same_form (closed_part closed.request))
row_of closed integer_form = Some (same_form (closed_part closed.integer))
row_of closed (apply_form op j) = Some (apply_form op (set_part j))
row_of closed yes_form = None
row_of closed (where_form w j) = Some (text_row w)

-- what the form asks of other sets
unfoldable pub Asks : {N : Type 0} → (N → Type 0) → Form N → Type 0
Asks says (where_form w j) = says j
Asks says _ = ⊤

some_same : {A : Type 0} {a b : A} → Some a ≡ Some b → a ≡ b
some_same e = cc

-- the rows of another table, other starts and other sets that say yes
module _ (N : Type 0) (t u : N → Form N → Type 0) (starts more_starts says more_says : N → Type 0) (closed : Closed)
    (rows : (n : N) (f : Form N) → t n f → u n f) (begins : (n : N) → starts n → more_starts n) (asks : (n c : N) (w : List ℕ) → t n (where_form w c) → says c → more_says c) where
  pub stays : (p : Part N) (g : Form (Part N)) → PartRow t starts says closed p g → PartRow u more_starts more_says closed p g
  stays _ _ (PartRow.start k h) = PartRow.start k (begins k h)
  stays _ _ (PartRow.nothing j c) = PartRow.nothing j (rows j (text_form []) c)
  stays _ _ (PartRow.text j b w c) = PartRow.text j b w (rows j (text_form (b ∷ w)) c)
  stays _ _ (PartRow.same j i c) = PartRow.same j i (rows j (same_form i) c)
  stays _ _ (PartRow.join j a b c) = PartRow.join j a b (rows j (join_form a b) c)
  stays _ _ (PartRow.before_nothing j i c) = PartRow.before_nothing j i (rows j (before_form [] i) c)
  stays _ _ (PartRow.before j b i w c) = PartRow.before j b i w (rows j (before_form (b ∷ w) i) c)
  stays _ _ (PartRow.asked j c) = PartRow.asked j (rows j request_form c)
  stays _ _ (PartRow.integer j c) = PartRow.integer j (rows j integer_form c)
  stays _ _ (PartRow.apply j i op c) = PartRow.apply j i op (rows j (apply_form op i) c)
  stays _ _ (PartRow.where_nothing j i c said) = PartRow.where_nothing j i (rows j (where_form [] i) c) (asks j i [] c said)
  stays _ _ (PartRow.where_yes j b i w c said) = PartRow.where_yes j b i w (rows j (where_form (b ∷ w) i) c) (asks j i (b ∷ w) c said)
  stays _ _ (PartRow.last b) = PartRow.last b
  stays _ _ (PartRow.first b c w) = PartRow.first b c w
  stays _ _ (PartRow.range r b within) = PartRow.range r b within
  stays _ _ (PartRow.closed_empty left has) = PartRow.closed_empty left has
  stays _ _ (PartRow.closed_one left a has) = PartRow.closed_one left a has
  stays _ _ (PartRow.closed_two left a b has) = PartRow.closed_two left a b has

-- a table with a row more
module _ (N : Type 0) (t u : N → Form N → Type 0) (starts says : N → Type 0) (closed : Closed) (k : N) (f : Form N) (split : (n : N) (g : Form N) → u n g → t n g ⊎ ((n ≡ k) × (g ≡ f))) where
  abbrev P : Part N → Form (Part N) → Type 0
  P = PartRow t starts says closed

  abbrev Q : Part N → Form (Part N) → Type 0
  Q = PartRow u starts says closed

  -- the new row
  abbrev pub IsNew : Part N → Form (Part N) → Type 0
  IsNew p g = (p ≡ set_part k) × (row_of closed f ≡ Some g) × Asks says f

  new_row : (j : N) (h : Form N) (g : Form (Part N)) → row_of closed h ≡ Some g → Asks says h → (j ≡ k) × (h ≡ f) → IsNew (set_part j) g
  new_row j h g e asks is = (ap (λ z. set_part z) is.0, subst (λ z. row_of closed z ≡ Some g) is.1 e, subst (λ z. Asks says z) is.1 asks)

  pub old_or_new : (p : Part N) (g : Form (Part N)) → Q p g → P p g ⊎ IsNew p g
  unfolding row_of text_row before_row Asks
  old_or_new _ _ (PartRow.start j h) = inl (PartRow.start j h)
  old_or_new _ _ (PartRow.nothing j c) =
      elim (split j (text_form []) c) [
        | inl old ↦ inl (PartRow.nothing j old)
        | inr is ↦ inr (new_row j (text_form []) (text_form []) refl tt is)
      ]
  old_or_new _ _ (PartRow.text j b w c) =
      elim (split j (text_form (b ∷ w)) c) [
        | inl old ↦ inl (PartRow.text j b w old)
        | inr is ↦ inr (new_row j (text_form (b ∷ w)) (same_form (end_part (b ∷ w))) refl tt is)
      ]
  old_or_new _ _ (PartRow.same j i c) =
      elim (split j (same_form i) c) [
        | inl old ↦ inl (PartRow.same j i old)
        | inr is ↦ inr (new_row j (same_form i) (same_form (set_part i)) refl tt is)
      ]
  old_or_new _ _ (PartRow.join j a b c) =
      elim (split j (join_form a b) c) [
        | inl old ↦ inl (PartRow.join j a b old)
        | inr is ↦ inr (new_row j (join_form a b) (join_form (set_part a) (set_part b)) refl tt is)
      ]
  old_or_new _ _ (PartRow.before_nothing j i c) =
      elim (split j (before_form [] i) c) [
        | inl old ↦ inl (PartRow.before_nothing j i old)
        | inr is ↦ inr (new_row j (before_form [] i) (same_form (set_part i)) refl tt is)
      ]
  old_or_new _ _ (PartRow.before j b i w c) =
      elim (split j (before_form (b ∷ w) i) c) [
        | inl old ↦ inl (PartRow.before j b i w old)
        | inr is ↦ inr (new_row j (before_form (b ∷ w) i) (join_form (end_part (b ∷ w)) (set_part i)) refl tt is)
      ]
  old_or_new _ _ (PartRow.asked j c) =
      elim (split j request_form c) [
        | inl old ↦ inl (PartRow.asked j old)
        | inr is ↦ inr (new_row j request_form (same_form (closed_part closed.request)) refl tt is)
      ]
  old_or_new _ _ (PartRow.integer j c) =
      elim (split j integer_form c) [
        | inl old ↦ inl (PartRow.integer j old)
        | inr is ↦ inr (new_row j integer_form (same_form (closed_part closed.integer)) refl tt is)
      ]
  old_or_new _ _ (PartRow.apply j i op c) =
      elim (split j (apply_form op i) c) [
        | inl old ↦ inl (PartRow.apply j i op old)
        | inr is ↦ inr (new_row j (apply_form op i) (apply_form op (set_part i)) refl tt is)
      ]
  old_or_new _ _ (PartRow.where_nothing j i c said) =
      elim (split j (where_form [] i) c) [
        | inl old ↦ inl (PartRow.where_nothing j i old said)
        | inr is ↦ inr (new_row j (where_form [] i) (text_form []) refl said is)
      ]
  old_or_new _ _ (PartRow.where_yes j b i w c said) =
      elim (split j (where_form (b ∷ w) i) c) [
        | inl old ↦ inl (PartRow.where_yes j b i w old said)
        | inr is ↦ inr (new_row j (where_form (b ∷ w) i) (same_form (end_part (b ∷ w))) refl said is)
      ]
  old_or_new _ _ (PartRow.last b) = inl (PartRow.last b)
  old_or_new _ _ (PartRow.first b c w) = inl (PartRow.first b c w)
  old_or_new _ _ (PartRow.range r b within) = inl (PartRow.range r b within)
  old_or_new _ _ (PartRow.closed_empty left has) = inl (PartRow.closed_empty left has)
  old_or_new _ _ (PartRow.closed_one left a has) = inl (PartRow.closed_one left a has)
  old_or_new _ _ (PartRow.closed_two left a b has) = inl (PartRow.closed_two left a b has)

-- the row of parts of a row of the table
pub is_row : {N : Type 0} (u : N → Form N → Type 0) (starts says : N → Type 0) (closed : Closed) (k : N) (f : Form N) (g : Form (Part N)) → u k f → row_of closed f ≡ Some g → Asks says f → PartRow u starts says closed (set_part k) g
unfolding row_of text_row before_row Asks
is_row u starts says closed k (text_form []) g c e asks = subst (λ z. PartRow u starts says closed (set_part k) z) (some_same e) (PartRow.nothing k c)
is_row u starts says closed k (text_form (b ∷ w)) g c e asks = subst (λ z. PartRow u starts says closed (set_part k) z) (some_same e) (PartRow.text k b w c)
is_row u starts says closed k (same_form j) g c e asks = subst (λ z. PartRow u starts says closed (set_part k) z) (some_same e) (PartRow.same k j c)
is_row u starts says closed k (join_form i j) g c e asks = subst (λ z. PartRow u starts says closed (set_part k) z) (some_same e) (PartRow.join k i j c)
is_row u starts says closed k (before_form [] j) g c e asks = subst (λ z. PartRow u starts says closed (set_part k) z) (some_same e) (PartRow.before_nothing k j c)
is_row u starts says closed k (before_form (b ∷ w) j) g c e asks = subst (λ z. PartRow u starts says closed (set_part k) z) (some_same e) (PartRow.before k b j w c)
is_row u starts says closed k request_form g c e asks = subst (λ z. PartRow u starts says closed (set_part k) z) (some_same e) (PartRow.asked k c)
is_row u starts says closed k integer_form g c e asks = subst (λ z. PartRow u starts says closed (set_part k) z) (some_same e) (PartRow.integer k c)
is_row u starts says closed k (apply_form op j) g c e asks = subst (λ z. PartRow u starts says closed (set_part k) z) (some_same e) (PartRow.apply k j op c)
is_row u starts says closed k yes_form g c e asks = cc
is_row u starts says closed k (where_form [] j) g c e asks = subst (λ z. PartRow u starts says closed (set_part k) z) (some_same e) (PartRow.where_nothing k j c asks)
is_row u starts says closed k (where_form (b ∷ w) j) g c e asks = subst (λ z. PartRow u starts says closed (set_part k) z) (some_same e) (PartRow.where_yes k b j w c asks)
