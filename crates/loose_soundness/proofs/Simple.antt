-- Literals, copies, arrays of the request, and members.
use Rattle.std.proofs.Common.{◌≡◌, ℕ, ℤ, List, [], Result, Ok, Err, refl, sym, subst}
use Rattle.std.specs.Prelude.{⊤}
use Rattle.xml_text.specs.Texts.{IsText}
use Rattle.php_syntax.specs.declared.tree.SuperName.{SuperName}
use Rattle.php_syntax.specs.declared.tree.SuperName.TheVariants.{Get, Post, Cookie, Request, Server}
use Rattle.plain_values.specs.Plain.{Plain, PlainKey, Pairs, int_key, text_key, null, flag, int, text, array, empty, pair}
use Rattle.plain_values.specs.Keys.{canonical_integer, canonical_key, key_of}
use Rattle.plain_values.specs.Members.{get}
use Rattle.plain_values.specs.Members as members
use Rattle.plain_values.specs.Outcome.{go_on}
use Rattle.plain_values.specs.Paths.{subscript_of}
use Rattle.plain_values.specs.Lawful.{IsValue, HasValues, PairsHaveValues}
use Rattle.plain_values.specs.declared.fault.Fault.{Fault}
use Rattle.script_meaning.specs.Requests.{PlainRequest, request_array, IsMember, AreMembers, IsAdmitted, Admitted}
use Rattle.flow_code.specs.Points.{PlainFlow, PlainKeyRef, int_ref, text_ref, read_ref, PlainSource, literal_source, copy_source, super_source, member_source}
use Rattle.flow_code.specs.Lawful.{IsLiteral}
use Rattle.flow_code.specs.Runs.{Slots, key_value}
use Rattle.least_sets.specs.Forms.{text_form, same_form, request_form, yes_form}
use Rattle.least_sets.specs.Sets.{In, Says}
use Rattle.loose_sets.specs.Reaching.{at_point}
use Rattle.loose_sets.specs.Keys.{literal_key, told_keys}
use Rattle.loose_sets.specs.declared.name.Aspect.{Aspect}
use Rattle.loose_sets.specs.declared.name.Aspect.TheVariants.{Own, Member, Others, Keys}
use Rattle.loose_sets.specs.declared.name.Half.{Half}
use Rattle.loose_sets.specs.declared.name.Half.TheVariants as half
use Rattle.loose_sets.specs.declared.name.SetName.{SetName}
use Rattle.loose_soundness.proofs.Names.{set_of, use_of, all_of, member_at}
use Rattle.loose_sets.specs.Table.{SetsTo, Row}
use Rattle.loose_sets.specs.Uses.{member_name}
use Rattle.loose_soundness.proofs.SourceRows as sources
use Rattle.loose_soundness.proofs.SourceRows.{IsSourceRow}
use Rattle.loose_soundness.proofs.Rows as rows
use Rattle.function_laws.proofs.Arrays.{subscript_value}
use Rattle.function_laws.proofs.Texts.{null_value}
use Rattle.loose_soundness.proofs.Decimals.{integer_text}
use Rattle.loose_soundness.proofs.Covers.{OwnIn, InsideIn, AllIn, KeysIn, KeysInAll, place, covers_wider, covers_deep, keys_wider, all_members, member_own, member_inside, member_keys}
use Rattle.loose_soundness.proofs.Lying.{HasIn, SaysIn, Def, DefYes, Use, UseYes, Lies, UseLies, same_in, same_yes, by_place, of_source}

module _ (flow : PlainFlow) (p : ℕ) where
  -- a text that a source has by itself
  pub text_in : (s : PlainSource) (a : Aspect) (w : List ℕ) → SetsTo flow p s → IsSourceRow flow p s a (text_form w) → Def flow (at_point p) a w
  text_in s a w st row = In.text (set_of a (at_point p)) w (of_source flow p s a (text_form w) st row)

  pub yes_in : (s : PlainSource) (a : Aspect) → SetsTo flow p s → IsSourceRow flow p s a yes_form → DefYes flow (at_point p) a
  yes_in s a st row = Says.yes (set_of a (at_point p)) (of_source flow p s a yes_form st row)

  pub from_in : (s : PlainSource) (a : Aspect) (b : SetName) → SetsTo flow p s → IsSourceRow flow p s a (same_form b) → (w : List ℕ) → HasIn flow b w → Def flow (at_point p) a w
  from_in s a b st row w h = same_in flow (set_of a (at_point p)) b w (of_source flow p s a (same_form b) st row) h

  pub from_yes : (s : PlainSource) (a : Aspect) (b : SetName) → SetsTo flow p s → IsSourceRow flow p s a (same_form b) → SaysIn flow b → DefYes flow (at_point p) a
  from_yes s a b st row h = same_yes flow (set_of a (at_point p)) b (of_source flow p s a (same_form b) st row) h

  pub literal_lies : (v : Plain) → SetsTo flow p (literal_source v) → IsLiteral v → Lies flow (at_point p) v
  literal_lies null st h = record { covers = text_in (literal_source null) (Own half.Text) _ st (sources.literal null); value = h }
  literal_lies (flag b) st h = record { covers = text_in (literal_source (flag b)) (Own half.Text) _ st (sources.literal (flag b)); value = h }
  literal_lies (int z) st h = record { covers = text_in (literal_source (int z)) (Own half.Text) _ st (sources.literal (int z)); value = h }
  literal_lies (text t) st h = record { covers = text_in (literal_source (text t)) (Own half.Text) _ st (sources.literal (text t)); value = h }
  literal_lies (array ps) st h = absurd h

  pub copy_lies : (x : ℕ) (v : Plain) → SetsTo flow p (copy_source x) → UseLies flow x p v → Lies flow (at_point p) v
  copy_lies x v st h = record {
    covers = covers_wider (told_keys flow) _ _ _ _
        (λ a w i. from_in (copy_source x) a (use_of a x p) st (sources.copy x a) w i)
        (λ a i. from_yes (copy_source x) a (use_of a x p) st (sources.copy x a) i) v h.covers;
    value = h.value;
  }

  -- a text of the request
  asked_in : (name : SuperName) (a : Aspect) (w : List ℕ) → SetsTo flow p (super_source name) → IsSourceRow flow p (super_source name) a request_form → IsText w → Def flow (at_point p) a w
  asked_in name a w st row h = In.asked (set_of a (at_point p)) w (of_source flow p (super_source name) a request_form st row) h

  own_asked : (v : Plain) → IsMember v → OwnIn IsText ⊤ v
  unfolding IsMember
  own_asked null h = absurd h
  own_asked (flag b) h = absurd h
  own_asked (int z) h = absurd h
  own_asked (text t) h = h
  own_asked (array ps) h = tt

  mutual
    unfolding IsMember

    inside_asked : (v : Plain) → IsMember v → InsideIn IsText ⊤ v
    inside_asked null h = absurd h
    inside_asked (flag b) h = absurd h
    inside_asked (int z) h = absurd h
    inside_asked (text t) h = tt
    inside_asked (array ps) h = all_asked ps h

    all_asked : (ps : Pairs) → AreMembers ps → AllIn IsText ⊤ ps
    all_asked empty h = tt
    all_asked (pair (int_key z) v ps) h = (own_asked v h.0, inside_asked v h.0, all_asked ps h.1)
    all_asked (pair (text_key t) v ps) h = (own_asked v h.1, inside_asked v h.1, all_asked ps h.2)

  module _ (name : SuperName) (st : SetsTo flow p (super_source name)) where
    other_text : (w : List ℕ) → IsText w → Def flow (at_point p) (Others half.Text) w
    other_text w h = asked_in name (Others half.Text) w st (sources.super_other_text name) h

    other_yes : DefYes flow (at_point p) (Others half.Array)
    other_yes = yes_in (super_source name) (Others half.Array) st (sources.super_other_array name)

    place_text : (k : PlainKey) (w : List ℕ) → IsText w → Def flow (at_point p) (place (told_keys flow) k half.Text) w
    place_text k w h = by_place flow k half.Text (λ a. Def flow (at_point p) a w) (λ i t. asked_in name (Member i half.Text) w st (sources.super_member_text name i) h) (other_text w h)

    place_yes : (k : PlainKey) → DefYes flow (at_point p) (place (told_keys flow) k half.Array)
    place_yes k = by_place flow k half.Array (λ a. DefYes flow (at_point p) a) (λ i t. yes_in (super_source name) (Member i half.Array) st (sources.super_member_array name i)) other_yes

    mutual
      unfolding IsMember

      keys_asked : (v : Plain) → IsMember v → HasValues v → KeysIn (Def flow (at_point p) Keys) v
      keys_asked null h i = absurd h
      keys_asked (flag b) h i = absurd h
      keys_asked (int z) h i = absurd h
      keys_asked (text t) h i = tt
      keys_asked (array ps) h i = all_keys_asked ps h i.1

      all_keys_asked : (ps : Pairs) → AreMembers ps → PairsHaveValues ps → KeysInAll (Def flow (at_point p) Keys) ps
      all_keys_asked empty h i = tt
      all_keys_asked (pair (int_key z) v ps) h i = (asked_in name Keys _ st (sources.super_key name) (integer_text z i.0), keys_asked v h.0 i.1, all_keys_asked ps h.1 i.2)
      all_keys_asked (pair (text_key t) v ps) h i = (asked_in name Keys t st (sources.super_key name) h.0, keys_asked v h.1 i.1, all_keys_asked ps h.2 i.2)

    request_lies : (ps : Pairs) → IsAdmitted ps → Lies flow (at_point p) (array ps)
    request_lies ps h = record {
      covers = (
        yes_in (super_source name) (Own half.Array) st (sources.super_array name),
        all_members (told_keys flow) (Def flow (at_point p)) (DefYes flow (at_point p)) IsText ⊤
            place_text (λ k i. place_yes k) other_text (λ i. other_yes) ps (all_asked ps h.members_are),
        all_keys_asked ps h.members_are (h.value.parts).1,
      );
      value = h.value;
    }

  module _ (r : PlainRequest) (admitted : Admitted r) where
    pub super_lies : (name : SuperName) → SetsTo flow p (super_source name) → Lies flow (at_point p) (array (request_array r name))
    unfolding request_array
    super_lies Get st = request_lies Get st r.get_of admitted.get
    super_lies Post st = request_lies Post st r.post_of admitted.post
    super_lies Cookie st = request_lies Cookie st r.cookie_of admitted.cookie
    super_lies Request st = request_lies Request st r.request_of admitted.request
    super_lies Server st = request_lies Server st r.server_of admitted.server

  -- a member: which of the members it is
  integer_at : (h : Half) (z : ℤ) (x : ℕ) → member_at flow h (int_ref z) x p ≡ use_of (place (told_keys flow) (int_key z) h) x p
  unfolding member_name literal_key
  integer_at h z x = refl

  text_at : (h : Half) (t : List ℕ) (x : ℕ) → member_at flow h (text_ref t) x p ≡ use_of (place (told_keys flow) (canonical_key t (canonical_integer t)) h) x p
  unfolding member_name literal_key
  text_at h t x = refl

  module _ (x : ℕ) (k : PlainKeyRef) (st : SetsTo flow p (member_source x k)) where
    abbrev s : PlainSource
    s = member_source x k

    null_member : Lies flow (at_point p) null
    null_member = record { covers = text_in s (Own half.Text) [] st (sources.member_null x k); value = null_value }

    deep_text : (c : PlainKey) (w : List ℕ) → Use flow x p (Others half.Text) w → Def flow (at_point p) (place (told_keys flow) c half.Text) w
    deep_text c w i = by_place flow c half.Text (λ a. Def flow (at_point p) a w)
        (λ n t. from_in s (Member n half.Text) (use_of (Others half.Text) x p) st (sources.member_deep x k (Member n half.Text) (Others half.Text) refl) w i)
        (from_in s (Others half.Text) (use_of (Others half.Text) x p) st (sources.member_deep x k (Others half.Text) (Others half.Text) refl) w i)

    deep_yes : (c : PlainKey) → UseYes flow x p (Others half.Array) → DefYes flow (at_point p) (place (told_keys flow) c half.Array)
    deep_yes c i = by_place flow c half.Array (λ a. DefYes flow (at_point p) a)
        (λ n t. from_yes s (Member n half.Array) (use_of (Others half.Array) x p) st (sources.member_deep x k (Member n half.Array) (Others half.Array) refl) i)
        (from_yes s (Others half.Array) (use_of (Others half.Array) x p) st (sources.member_deep x k (Others half.Array) (Others half.Array) refl) i)

    other_deep : (w : List ℕ) → Use flow x p (Others half.Text) w → Def flow (at_point p) (Others half.Text) w
    other_deep w i = from_in s (Others half.Text) (use_of (Others half.Text) x p) st (sources.member_deep x k (Others half.Text) (Others half.Text) refl) w i

    other_deep_yes : UseYes flow x p (Others half.Array) → DefYes flow (at_point p) (Others half.Array)
    other_deep_yes i = from_yes s (Others half.Array) (use_of (Others half.Array) x p) st (sources.member_deep x k (Others half.Array) (Others half.Array) refl) i

    key_deep : (w : List ℕ) → Use flow x p Keys w → Def flow (at_point p) Keys w
    key_deep w i = from_in s Keys (use_of Keys x p) st (sources.member_deep x k Keys Keys refl) w i

    -- under a key that the text and the yes of a set stand for
    found : (c : PlainKey) (ps : Pairs) → UseLies flow x p (array ps)
        → ((w : List ℕ) → Use flow x p (place (told_keys flow) c half.Text) w → Def flow (at_point p) (Own half.Text) w)
        → (UseYes flow x p (place (told_keys flow) c half.Array) → DefYes flow (at_point p) (Own half.Array))
        → IsValue (members.member ps c) → Lies flow (at_point p) (members.member ps c)
    found c ps h t a v = record {
      covers = covers_deep (told_keys flow) (Def flow (at_point p)) (DefYes flow (at_point p)) (Use flow x p (Others half.Text)) (UseYes flow x p (Others half.Array))
          deep_text deep_yes other_deep other_deep_yes (members.member ps c)
          (member_own (told_keys flow) (Use flow x p) (UseYes flow x p) (Def flow (at_point p) (Own half.Text)) (DefYes flow (at_point p) (Own half.Array)) c
          (text_in s (Own half.Text) [] st (sources.member_null x k)) t a ps h.covers.1)
          (member_inside (told_keys flow) (Use flow x p) (UseYes flow x p) c ps h.covers.1)
          (keys_wider (Use flow x p Keys) (Def flow (at_point p) Keys) key_deep (members.member ps c) (member_keys (Use flow x p Keys) c ps h.covers.2));
      value = v;
    }

    got : (c : PlainKey) (v u : Plain) → UseLies flow x p v
        → ((w : List ℕ) → Use flow x p (place (told_keys flow) c half.Text) w → Def flow (at_point p) (Own half.Text) w)
        → (UseYes flow x p (place (told_keys flow) c half.Array) → DefYes flow (at_point p) (Own half.Array))
        → IsValue u → get v c ≡ Ok u → Lies flow (at_point p) u
    got c null u h t a i e = let is : u ≡ null = cc in subst (Lies flow (at_point p)) (sym is) null_member
    got c (flag b) u h t a i e = let is : u ≡ null = cc in subst (Lies flow (at_point p)) (sym is) null_member
    got c (int z) u h t a i e = let is : u ≡ null = cc in subst (Lies flow (at_point p)) (sym is) null_member
    got c (text w) u h t a i e = cc
    got c (array ps) u h t a i e = let is : u ≡ members.member ps c = cc in subst (Lies flow (at_point p)) (sym is) (found c ps h t a (subst IsValue is i))

    own_row : (h : Half) → Row flow (set_of (Own h) (at_point p)) (same_form (member_at flow h k x p))
    own_row h = of_source flow p s (Own h) (same_form (member_at flow h k x p)) st (sources.member_own x k h)

  named_text : (x : ℕ) (k : PlainKeyRef) (c : PlainKey) (st : SetsTo flow p (member_source x k)) → member_at flow half.Text k x p ≡ use_of (place (told_keys flow) c half.Text) x p
      → (w : List ℕ) → Use flow x p (place (told_keys flow) c half.Text) w → Def flow (at_point p) (Own half.Text) w
  named_text x k c st e w h = same_in flow (set_of (Own half.Text) (at_point p)) (member_at flow half.Text k x p) w (own_row x k st half.Text) (subst (λ n. HasIn flow n w) (sym e) h)

  named_yes : (x : ℕ) (k : PlainKeyRef) (c : PlainKey) (st : SetsTo flow p (member_source x k)) → member_at flow half.Array k x p ≡ use_of (place (told_keys flow) c half.Array) x p
      → UseYes flow x p (place (told_keys flow) c half.Array) → DefYes flow (at_point p) (Own half.Array)
  named_yes x k c st e h = same_yes flow (set_of (Own half.Array) (at_point p)) (member_at flow half.Array k x p) (own_row x k st half.Array) (subst (SaysIn flow) (sym e) h)

  read_text : (x y : ℕ) (c : PlainKey) (st : SetsTo flow p (member_source x (read_ref y))) → (w : List ℕ) → Use flow x p (place (told_keys flow) c half.Text) w → Def flow (at_point p) (Own half.Text) w
  unfolding member_name literal_key
  read_text x y c st w h = same_in flow (set_of (Own half.Text) (at_point p)) (all_of half.Text x p) w (own_row x (read_ref y) st half.Text)
      (by_place flow c half.Text (λ a. Use flow x p a w → HasIn flow (all_of half.Text x p) w)
      (λ n t i. same_in flow _ _ w (rows.all_told half.Text x p n t) i) (λ i. same_in flow _ _ w (rows.all_others half.Text x p) i) h)

  read_yes : (x y : ℕ) (c : PlainKey) (st : SetsTo flow p (member_source x (read_ref y))) → UseYes flow x p (place (told_keys flow) c half.Array) → DefYes flow (at_point p) (Own half.Array)
  unfolding member_name literal_key
  read_yes x y c st h = same_yes flow (set_of (Own half.Array) (at_point p)) (all_of half.Array x p) (own_row x (read_ref y) st half.Array)
      (by_place flow c half.Array (λ a. UseYes flow x p a → SaysIn flow (all_of half.Array x p))
      (λ n t i. same_yes flow _ _ (rows.all_told half.Array x p n t) i) (λ i. same_yes flow _ _ (rows.all_others half.Array x p) i) h)

  pub member_lies : (f : Slots) (x : ℕ) (k : PlainKeyRef) (u : Plain) → SetsTo flow p (member_source x k) → UseLies flow x p (f x) → subscript_of (f x) (key_value f k) ≡ Ok u → Lies flow (at_point p) u
  unfolding key_value
  member_lies f x (int_ref z) u st h e =
      got x (int_ref z) st (int_key z) (f x) u h (named_text x (int_ref z) (int_key z) st (integer_at half.Text z x)) (named_yes x (int_ref z) (int_key z) st (integer_at half.Array z x)) (subscript_value (f x) (int z) u h.value e) e
  member_lies f x (text_ref t) u st h e =
      let c = canonical_key t (canonical_integer t) in
      got x (text_ref t) st c (f x) u h (named_text x (text_ref t) c st (text_at half.Text t x)) (named_yes x (text_ref t) c st (text_at half.Array t x)) (subscript_value (f x) (text t) u h.value e) e
  member_lies f x (read_ref y) u st h e = by (key_of (f y)) e
    where
      by : (r : Result PlainKey Fault) → go_on r (get (f x)) ≡ Ok u → Lies flow (at_point p) u
      by (Err fault) g = cc
      by (Ok c) g = got x (read_ref y) st c (f x) u h (read_text x y c st) (read_yes x y c st) (subscript_value (f x) (f y) u h.value e) g
