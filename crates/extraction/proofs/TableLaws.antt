-- The table of the names that are listed has the sets of the table of versions, and the same operations in cycles.
use Rattle.std.proofs.Common.{◌≡◌, ◌↔◌, ℕ, List, [], ◌∷◌, refl, sym, subst, Contains}
use Rattle.std.specs.Prelude.{⊤}
use Rattle.op_system.specs.declared.op.Op.{Op}
use Rattle.flow_code.specs.Points.{PlainFlow}
use Rattle.least_sets.specs.Forms.{Form, text_form, same_form, join_form, before_form, request_form, integer_form, apply_form, yes_form, where_form}
use Rattle.least_sets.specs.Sets.{In, IsCircular}
use Rattle.least_sets.specs.Simulations.{TakesOver, Holds, Alike, Simulates, IsMonotone}
use Rattle.least_sets.proofs.Simulated as simulated
use Rattle.loose_sets.specs.Versions.{Linked}
use Rattle.loose_sets.specs.Uses.{At}
use Rattle.loose_sets.specs.Exact.{AreExact, by_version, IsRead}
use Rattle.loose_sets.specs.Table.{RowBy, Row}
use Rattle.loose_sets.specs.declared.name.SetName.{SetName}
use Rattle.loose_sets.proofs.OfVersions as of_versions
use Rattle.system_writing.specs.Forms.{all_names}
use Rattle.extraction.specs.Listers.{IsFlowLister}
use Rattle.extraction.specs.Numbered.{Lists, table_of, AreWhole}
use Rattle.extraction.proofs.PlaceLemmas.{at_head, at_later}

-- a name that has the property stands for itself
record IsItself {N : Type 0} (Has : N → Type 0) (n m : N) : Type 0 where
  same : n ≡ m
  has : Has n

-- a table with all rows that another one has for such names does what that one does
module _ (N : Type 0) (R S : N → Form N → Type 0) (Has : N → Type 0) (rows : (n : N) (f : Form N) → Has n → R n f → S n f) (whole : (n c : N) (f : Form N) → Has n → R n f → Contains (all_names f) c → Has c) where
  abbrev E : N → N → Type 0
  E n m = IsItself Has n m

  held : (c : N) → Has c → Holds S E c c
  held c h = record { within = c; takes = TakesOver.itself c; stands = record { same = refl; has = h } }

  alike : (f : Form N) → ((c : N) → Contains (all_names f) c → Has c) → Alike (Holds S E) f f
  alike (text_form w) h = Alike.text w
  alike (same_form a) h = Alike.same a a (held a (h a (at_head a [])))
  alike (join_form a b) h = Alike.join a b a b (held a (h a (at_head a (b ∷ [])))) (held b (h b (at_later a (b ∷ []) b (at_head b []))))
  alike (before_form w a) h = Alike.before w a a (held a (h a (at_head a [])))
  alike request_form h = Alike.asked
  alike integer_form h = Alike.integer
  alike (apply_form op a) h = Alike.apply op a a (held a (h a (at_head a [])))
  alike yes_form h = Alike.yes
  alike (where_form w a) h = Alike.where_yes w a a (held a (h a (at_head a [])))

  does : Simulates R S E
  does = record {
    same = λ a c b e row.
        let there : S b (same_form c) = subst (λ (z : N). S z (same_form c)) e.same (rows a (same_form c) e.has row) in
        let has = whole a c (same_form c) e.has row (at_head c []) in
        record { within = c; takes = TakesOver.through b c c there (TakesOver.itself c); stands = record { same = refl; has = has } };
    other = λ a f b e row isnt. record {
      form = f;
      row = subst (λ (z : N). S z f) e.same (rows a f e.has row);
      alike = alike f (λ c named. whole a c f e.has row named);
    };
    one = λ a c op b d row e h. let x = sym e.same in let y = h.same in subst (λ (z : N). b ≡ z) y x;
  }

  pub texts : (outputs : Op → List ℕ → List ℕ → Type 0) (request : List ℕ → Type 0) (circle : (ℕ → Type 0) → List ℕ → Type 0) → IsMonotone circle → (n : N) → Has n → (w : List ℕ) → In R outputs request circle n w → In S outputs request circle n w
  texts outputs request circle more n has w i = simulated.texts N N R S E does outputs request circle more n n (held n has) w i

  pub cycles : (n c : N) (op : Op) → Has n → R n (apply_form op c) → IsCircular R n op c → IsCircular S n op c
  cycles n c op has row i = simulated.circular N N R S E does n c op n c row (record { same = refl; has = has }) (held c (whole n c (apply_form op c) has row (at_head c []))) i

module _ (flow : PlainFlow) (linked : Linked) (at : At) (asks : SetName → Type 0) (lists : Lists) (is : IsFlowLister flow linked at asks lists) (names : List SetName) (asked : (n : SetName) → Contains names n → asks n) (whole : AreWhole lists names) where
  abbrev T : SetName → Form SetName → Type 0
  T = table_of lists names

  abbrev V : SetName → Form SetName → Type 0
  V = RowBy at linked flow

  abbrev Any : SetName → Type 0
  Any n = ⊤

  abbrev Named : SetName → Type 0
  Named n = Contains names n

  version_row : (n : SetName) (f : Form SetName) → Any n → T n f → V n f
  version_row n f any row = (is.exact n (asked n row.0) f).0 row.1

  any_whole : (n c : SetName) (f : Form SetName) → Any n → T n f → Contains (all_names f) c → Any c
  any_whole n c f any row named = tt

  listed_row : (n : SetName) (f : Form SetName) → Named n → V n f → T n f
  listed_row n f named row = (named, (is.exact n (asked n named) f).1 row)

  named_whole : (n c : SetName) (f : Form SetName) → Named n → V n f → Contains (all_names f) c → Named c
  named_whole n c f named row in_form = whole n c f named ((is.exact n (asked n named) f).1 row) in_form

  module _ (outputs : Op → List ℕ → List ℕ → Type 0) (request : List ℕ → Type 0) (circle : (ℕ → Type 0) → List ℕ → Type 0) (more : IsMonotone circle) where
    -- where versions are exact, the texts are those of the loose sets
    pub loose_texts : AreExact flow linked at → (n : SetName) → IsRead flow n → Contains names (by_version at n) → (w : List ℕ) → In (Row flow) outputs request circle n w ↔ In T outputs request circle (by_version at n) w
    loose_texts exact n read named w =
        let versions = of_versions.same_sets flow linked at exact outputs request circle more n read w in (
          λ i. texts SetName V T Named listed_row named_whole outputs request circle more (by_version at n) named w (versions.0 i),
          λ i. versions.1 (texts SetName T V Any version_row any_whole outputs request circle more (by_version at n) tt w i),
        )

  -- an operation is in a cycle there exactly where it is in one by versions
  pub same_cycles : (n c : SetName) (op : Op) → T n (apply_form op c) → IsCircular T n op c ↔ IsCircular V n op c
  same_cycles n c op row = (
    λ i. cycles SetName T V Any version_row any_whole n c op tt row i,
    λ i. cycles SetName V T Named listed_row named_whole n c op row.0 (version_row n (apply_form op c) tt row) i,
  )
