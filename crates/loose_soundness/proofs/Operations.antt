-- Operations on texts: their outputs lie in their sets, and the bytes of a set's texts in its bytes.
use Rattle.std.proofs.Common.{◌≡◌, ◌⊎◌, inl, inr, ℕ, ◌+◌, ℤ, pos, Bool, true, false, if◌then◌else◌, List, [], ◌∷◌, Option, Some, None, Result, Ok, Err, refl, sym, subst}
use Rattle.std.specs.Prelude.{All, Contains, map}
use Rattle.std.specs.Str.{is_utf8}
use Rattle.std.proofs.lemmas.Str.{IsUtf8-from_is_utf8}
use Rattle.std.proofs.lemmas.List.Elements.{All-nil, All-cons, All-contains, Contains-append_cases}
use Rattle.string_functions.proofs.Members.{Contains-head, Contains-later}
use Rattle.string_functions.specs.Html.{html_of}
use Rattle.string_functions.specs.Pieces.{pieces_of, replaced_text}
use Rattle.string_functions.specs.Cut.{part_of}
use Rattle.string_functions.specs.Case.{lower_of, upper_of, first_upper_of}
use Rattle.string_functions.specs.Trim.{trim_of}
use Rattle.string_functions.specs.Breaks.{breaks_of}
use Rattle.string_functions.specs.Url.{url_of, raw_url_of}
use Rattle.string_functions.specs.Slashes.{slashes_of}
use Rattle.string_functions.proofs.EndsLaws.{IsFactor-part_of}
use Rattle.string_functions.proofs.JoinLaws.{IsFactor-pieces_of, Contains-replaced_text}
use Rattle.xml_text.specs.Texts.{IsText}
use Rattle.plain_values.specs.Plain.{Plain, int_key, null, text, array}
use Rattle.plain_values.specs.Members.{within_length}
use Rattle.plain_values.specs.Outcome.{go_on}
use Rattle.plain_values.specs.Arithmetic.{number_of}
use Rattle.plain_values.specs.Lawful.{IsValue, PairsHaveValues}
use Rattle.plain_values.specs.declared.fault.Fault.{Fault}
use Rattle.plain_values.specs.declared.fault.Fault.TheVariants.{NotUtf8}
use Rattle.builtin_meaning.specs.declared.builtin.Builtin.{Builtin}
use Rattle.builtin_meaning.specs.declared.builtin.Builtin.TheVariants as builtin
use Rattle.builtin_meaning.specs.Arguments.{as_text, as_optional_number}
use Rattle.builtin_meaning.specs.Values.{escaped, replaced, cut, pieces_at, numbered_from, builtin_value}
use Rattle.op_system.specs.declared.op.Op.{Op}
use Rattle.op_system.specs.declared.op.Op.TheVariants as op
use Rattle.op_system.specs.Rel.{Rel}
use Rattle.least_sets.proofs.OutputBytes.{output_byte}
use Rattle.flow_code.specs.Points.{PlainFlow, PlainSource, apply_source, explode_source}
use Rattle.flow_code.specs.Lawful.{IsOperationOf, IsSplittingOf}
use Rattle.flow_code.specs.Lawful as lawful
use Rattle.flow_code.specs.Runs.{Slots, given}
use Rattle.least_sets.specs.Forms.{same_form, integer_form}
use Rattle.least_sets.specs.Bytes.{Turns}
use Rattle.least_sets.specs.Sets.{In, Byte, IsCircular}
use Rattle.loose_sets.specs.Reaching.{at_point}
use Rattle.loose_sets.specs.Keys.{told_keys}
use Rattle.loose_sets.specs.declared.name.Aspect.TheVariants.{Own, Member, Others, Keys}
use Rattle.loose_sets.specs.declared.name.Half.TheVariants as half
use Rattle.loose_sets.specs.declared.name.SetName.{SetName}
use Rattle.loose_sets.specs.declared.name.SetName.TheVariants.{Output, Input}
use Rattle.loose_soundness.proofs.Names.{set_of, use_of}
use Rattle.loose_sets.specs.Table.{SetsTo, Row}
use Rattle.loose_soundness.proofs.SourceRows as sources
use Rattle.loose_soundness.proofs.SourceRows.{IsSourceRow}
use Rattle.loose_soundness.proofs.Rows.{Reads}
use Rattle.loose_soundness.proofs.Rows as rows
use Rattle.function_laws.proofs.Texts.{within, within_value}
use Rattle.loose_soundness.proofs.Covers.{MembersIn, KeysInAll, place}
use Rattle.loose_soundness.proofs.Decimals.{integer_is}
use Rattle.loose_soundness.proofs.Lying.{HasIn, Def, DefYes, Use, Lies, UseLies, same_in, by_place, of_source}
use Rattle.loose_soundness.proofs.Simple.{yes_in, from_in}
use Rattle.loose_soundness.proofs.Texts.{own_text_in, text_lies}

-- the bytes of a set's texts
pub bytes_in : (flow : PlainFlow) (a : SetName) (w : List ℕ) → HasIn flow a w → (b : ℕ) → Contains w b → Byte (Row flow) IsText a b
bytes_in flow _ _ (In.text a w row) b h = Byte.text a w b row h
bytes_in flow _ _ (In.same a c w row i) b h = Byte.same a c b row (bytes_in flow c w i b h)
bytes_in flow _ _ (In.join a c d u v row i j) b h =
    elim (Contains-append_cases u v b h) [
      | inl here ↦ Byte.first a c d b row (bytes_in flow c u i b here)
      | inr there ↦ Byte.second a c d b row (bytes_in flow d v j b there)
    ]
bytes_in flow _ _ (In.before a c u v row i) b h =
    elim (Contains-append_cases u v b h) [
      | inl here ↦ Byte.prefix a c u b row here
      | inr there ↦ Byte.behind a c u b row (bytes_in flow c v i b there)
    ]
bytes_in flow _ _ (In.asked a w row i) b h = Byte.asked a w b row i h
bytes_in flow _ _ (In.integer a w row i) b h = Byte.integer a w b row i h
bytes_in flow _ _ (In.where_yes a c w row i) b h = Byte.where_yes a c w b row i h
bytes_in flow _ _ (In.apply a c o u w row i r) b h =
    elim (output_byte o u w r b h) [
      | inl adds ↦ Byte.added a c o b row adds
      | inr comes ↦ Byte.turned a c o comes.0 b row (bytes_in flow c u i comes.0 comes.1) comes.2
    ]
bytes_in flow _ _ (In.over_bytes a c o w row i all) b h = All-contains (Byte (Row flow) IsText a) w b all h

module _ (flow : PlainFlow) (p : ℕ) (f : Slots) where
  -- an output of an operation on the text in a slot
  module _ (o : Op) (from : ℕ) (g : Builtin) (args : List ℕ) (st : SetsTo flow p (apply_source o from g args)) where
    abbrev s : PlainSource
    s = apply_source o from g args

    result_lies : (u : Plain) (out : List ℕ) → u ≡ text out → IsValue u → HasIn flow (Output p) out → Lies flow (at_point p) u
    result_lies u out is h i = text_lies flow p u out is h (from_in flow p s (Own half.Text) (Output p) st (sources.apply o from g args) out i)

    related_lies : (u : Plain) (t out : List ℕ) → UseLies flow from p (f from) → as_text (f from) ≡ Ok t → Rel o t out → u ≡ text out → IsValue u → Lies flow (at_point p) u
    related_lies u t out h e r is v =
        result_lies u out is v (In.apply (Output p) (Input p) o t out (rows.applied_output p from o g args st)
        (same_in flow (Input p) (use_of (Own half.Text) from p) t (rows.applied_input p from from o g args st (Reads.subject o from args)) (own_text_in flow from p (f from) t h e)) r)

    -- where the text of the slot is changed by a function
    by_text : (go : List ℕ → List ℕ) → ((t : List ℕ) → Rel o t (go t)) → (u : Plain) → UseLies flow from p (f from) → go_on (as_text (f from)) (λ t. within_length (go t)) ≡ Ok u → Lies flow (at_point p) u
    by_text go rel u h e = by (as_text (f from)) refl e
      where
        by : (r : Result (List ℕ) Fault) → as_text (f from) ≡ r → go_on r (λ t. within_length (go t)) ≡ Ok u → Lies flow (at_point p) u
        by (Err fault) i g' = cc
        by (Ok t) i g' = let w = within (go t) u g' in related_lies u t (go t) h i (rel t) w.0 (within_value (go t) u g')

  html_lies : (x : ℕ) (st : SetsTo flow p (apply_source op.Html x builtin.Htmlspecialchars (x ∷ []))) (u : Plain) → UseLies flow x p (f x) → escaped (f x) ≡ Ok u → Lies flow (at_point p) u
  html_lies x st u h e = by (as_text (f x)) refl e
    where
      by_utf8 : (t : List ℕ) → as_text (f x) ≡ Ok t → (b : Bool) → is_utf8 t ≡ b → (if b then within_length (html_of t) else Err NotUtf8) ≡ Ok u → Lies flow (at_point p) u
      by_utf8 t i true j g = let w = within (html_of t) u g in related_lies op.Html x builtin.Htmlspecialchars (x ∷ []) st u t (html_of t) h i (IsUtf8-from_is_utf8 t j, refl) w.0 (within_value (html_of t) u g)
      by_utf8 t i false j g = cc

      by : (r : Result (List ℕ) Fault) → as_text (f x) ≡ r → go_on r (λ t. if is_utf8 t then within_length (html_of t) else Err NotUtf8) ≡ Ok u → Lies flow (at_point p) u
      by (Err fault) i g = cc
      by (Ok t) i g = by_utf8 t i (is_utf8 t) refl g

  -- `substr` by any numbers
  part_lies : (x : ℕ) (g : Builtin) (args : List ℕ) (st : SetsTo flow p (apply_source op.Factor x g args)) (b c u : Plain) → UseLies flow x p (f x) → cut (f x) b c ≡ Ok u → Lies flow (at_point p) u
  part_lies x g args st b c u h e = by (as_text (f x)) refl e
    where
      by_length : (t : List ℕ) → as_text (f x) ≡ Ok t → (start : ℤ) → (r : Result (Option ℤ) Fault) → go_on r (λ n. within_length (part_of t start n)) ≡ Ok u → Lies flow (at_point p) u
      by_length t i start (Err fault) k = cc
      by_length t i start (Ok n) k = let w = within (part_of t start n) u k in related_lies op.Factor x g args st u t (part_of t start n) h i (IsFactor-part_of t start n) w.0 (within_value (part_of t start n) u k)

      by_start : (t : List ℕ) → as_text (f x) ≡ Ok t → (r : Result ℤ Fault) → go_on r (λ start. go_on (as_optional_number c) (λ n. within_length (part_of t start n))) ≡ Ok u → Lies flow (at_point p) u
      by_start t i (Err fault) k = cc
      by_start t i (Ok start) k = by_length t i start (as_optional_number c) k

      by : (r : Result (List ℕ) Fault) → as_text (f x) ≡ r → go_on r (λ t. go_on (number_of b) (λ start. go_on (as_optional_number c) (λ n. within_length (part_of t start n)))) ≡ Ok u → Lies flow (at_point p) u
      by (Err fault) i k = cc
      by (Ok t) i k = by_start t i (number_of b) k

  -- `str_replace` with an empty search
  same_lies : (a b x : ℕ) (st : SetsTo flow p (apply_source op.Same x builtin.StrReplace (a ∷ b ∷ x ∷ []))) (u : Plain) → UseLies flow x p (f x) → replaced (text []) (f b) (f x) ≡ Ok u → Lies flow (at_point p) u
  same_lies a b x st u h e = by (as_text (f b)) e
    where
      by : (r : Result (List ℕ) Fault) → go_on r (λ new. go_on (as_text (f x)) (λ t. within_length (replaced_text [] new t))) ≡ Ok u → Lies flow (at_point p) u
      by (Err fault) g = cc
      by (Ok new) g = by_text op.Same x builtin.StrReplace (a ∷ b ∷ x ∷ []) st (λ t. t) (λ t. refl) u h g

  -- `str_replace` of any texts
  any_lies : (a b x : ℕ) (st : SetsTo flow p (apply_source op.Any x builtin.StrReplace (a ∷ b ∷ x ∷ []))) (u : Plain) → UseLies flow b p (f b) → UseLies flow x p (f x) → replaced (f a) (f b) (f x) ≡ Ok u → Lies flow (at_point p) u
  unfolding Turns
  any_lies a b x st u hb hx e = by (as_text (f a)) e
    where
      byte_in : (y : ℕ) (t : List ℕ) → Row flow (Input p) (same_form (use_of (Own half.Text) y p)) → Use flow y p (Own half.Text) t → (c : ℕ) → Contains t c → Byte (Row flow) IsText (Input p) c
      byte_in y t row h c i = Byte.same (Input p) (use_of (Own half.Text) y p) c row (bytes_in flow (use_of (Own half.Text) y p) t h c i)

      all_of : (P : ℕ → Type 0) (bs : List ℕ) → ((c : ℕ) → Contains bs c → P c) → All P bs
      all_of P [] h = All-nil P
      all_of P (b' ∷ bs) h = All-cons P b' bs (h b' (Contains-head b' bs)) (all_of P bs (λ c i. h c (Contains-later b' bs c i)))

      each : (new t out : List ℕ) → as_text (f b) ≡ Ok new → as_text (f x) ≡ Ok t → ((c : ℕ) → Contains out c → Contains t c ⊎ Contains new c) → (c : ℕ) → Contains out c → Byte (Row flow) IsText (Output p) c
      each new t out i j from c has =
          Byte.turned (Output p) (Input p) op.Any c c (rows.applied_output p x op.Any builtin.StrReplace (a ∷ b ∷ x ∷ []) st)
          (elim (from c has) [
            | inl k ↦ byte_in x t (rows.applied_input p x x op.Any builtin.StrReplace (a ∷ b ∷ x ∷ []) st (Reads.subject op.Any x (a ∷ b ∷ x ∷ []))) (own_text_in flow x p (f x) t hx j) c k
            | inr k ↦ byte_in b new (rows.applied_input p x b op.Any builtin.StrReplace (a ∷ b ∷ x ∷ []) st (Reads.replacement x a b x)) (own_text_in flow b p (f b) new hb i) c k
          ]) refl

      made : (old new t : List ℕ) → as_text (f b) ≡ Ok new → as_text (f x) ≡ Ok t → within_length (replaced_text old new t) ≡ Ok u → Lies flow (at_point p) u
      made old new t i j g =
          let w = within (replaced_text old new t) u g in
          let out = replaced_text old new t in
          result_lies op.Any x builtin.StrReplace (a ∷ b ∷ x ∷ []) st u out w.0 (within_value out u g)
          (In.over_bytes (Output p) (Input p) op.Any out (rows.applied_output p x op.Any builtin.StrReplace (a ∷ b ∷ x ∷ []) st) (IsCircular.any (Output p) (Input p))
          (all_of (Byte (Row flow) IsText (Output p)) out (each new t out i j (Contains-replaced_text old new t))))

      by_text' : (old new : List ℕ) → as_text (f b) ≡ Ok new → (r : Result (List ℕ) Fault) → as_text (f x) ≡ r → go_on r (λ t. within_length (replaced_text old new t)) ≡ Ok u → Lies flow (at_point p) u
      by_text' old new i (Err fault) j g = cc
      by_text' old new i (Ok t) j g = made old new t i j g

      by_new : (old : List ℕ) → (r : Result (List ℕ) Fault) → as_text (f b) ≡ r → go_on r (λ new. go_on (as_text (f x)) (λ t. within_length (replaced_text old new t))) ≡ Ok u → Lies flow (at_point p) u
      by_new old (Err fault) i g = cc
      by_new old (Ok new) i g = by_text' old new i (as_text (f x)) refl g

      by : (r : Result (List ℕ) Fault) → go_on r (λ old. go_on (as_text (f b)) (λ new. go_on (as_text (f x)) (λ t. within_length (replaced_text old new t)))) ≡ Ok u → Lies flow (at_point p) u
      by (Err fault) g = cc
      by (Ok old) g = by_new old (as_text (f b)) refl g

  pub apply_lies : (o : Op) (from : ℕ) (g : Builtin) (args : List ℕ) (u : Plain) → SetsTo flow p (apply_source o from g args) → IsOperationOf o from g args → ((x : ℕ) → Contains (from ∷ args) x → UseLies flow x p (f x))
      → builtin_value g (given o (map f args)) ≡ Ok u → Lies flow (at_point p) u
  unfolding given
  apply_lies _ _ _ _ u st (lawful.html x) h e = html_lies x st u (h x (Contains-head x (x ∷ []))) e
  apply_lies _ _ _ _ u st (lawful.replace search with a b x) h e =
      by_text (op.Replace search with) x builtin.StrReplace (a ∷ b ∷ x ∷ []) st (λ t. replaced_text search with t) (λ t. refl) u (h x (Contains-head x (a ∷ b ∷ x ∷ []))) e
  apply_lies _ _ _ _ u st (lawful.same a b x) h e = same_lies a b x st u (h x (Contains-head x (a ∷ b ∷ x ∷ []))) e
  apply_lies _ _ _ _ u st (lawful.any a b x) h e =
      any_lies a b x st u (h b (Contains-later x (a ∷ b ∷ x ∷ []) b (Contains-later a (b ∷ x ∷ []) b (Contains-head b (x ∷ []))))) (h x (Contains-head x (a ∷ b ∷ x ∷ []))) e
  apply_lies _ _ _ _ u st (lawful.cut_from start x b) h e =
      by_text (op.Cut start None) x builtin.Substr (x ∷ b ∷ []) st (λ t. part_of t start None) (λ t. refl) u (h x (Contains-head x (x ∷ b ∷ []))) e
  apply_lies _ _ _ _ u st (lawful.cut_out start len x b c) h e =
      by_text (op.Cut start (Some len)) x builtin.Substr (x ∷ b ∷ c ∷ []) st (λ t. part_of t start (Some len)) (λ t. refl) u (h x (Contains-head x (x ∷ b ∷ c ∷ []))) e
  apply_lies _ _ _ _ u st (lawful.part_from x b) h e = part_lies x builtin.Substr (x ∷ b ∷ []) st (f b) null u (h x (Contains-head x (x ∷ b ∷ []))) e
  apply_lies _ _ _ _ u st (lawful.part_out x b c) h e = part_lies x builtin.Substr (x ∷ b ∷ c ∷ []) st (f b) (f c) u (h x (Contains-head x (x ∷ b ∷ c ∷ []))) e
  apply_lies _ _ _ _ u st (lawful.lower x) h e = by_text op.Lower x builtin.Strtolower (x ∷ []) st lower_of (λ t. refl) u (h x (Contains-head x (x ∷ []))) e
  apply_lies _ _ _ _ u st (lawful.upper x) h e = by_text op.Upper x builtin.Strtoupper (x ∷ []) st upper_of (λ t. refl) u (h x (Contains-head x (x ∷ []))) e
  apply_lies _ _ _ _ u st (lawful.first x) h e = by_text op.First x builtin.Ucfirst (x ∷ []) st first_upper_of (λ t. refl) u (h x (Contains-head x (x ∷ []))) e
  apply_lies _ _ _ _ u st (lawful.trim x) h e = by_text (op.Trim true true) x builtin.Trim (x ∷ []) st (trim_of true true) (λ t. refl) u (h x (Contains-head x (x ∷ []))) e
  apply_lies _ _ _ _ u st (lawful.trim_left x) h e = by_text (op.Trim true false) x builtin.Ltrim (x ∷ []) st (trim_of true false) (λ t. refl) u (h x (Contains-head x (x ∷ []))) e
  apply_lies _ _ _ _ u st (lawful.trim_right x) h e = by_text (op.Trim false true) x builtin.Rtrim (x ∷ []) st (trim_of false true) (λ t. refl) u (h x (Contains-head x (x ∷ []))) e
  apply_lies _ _ _ _ u st (lawful.breaks x) h e = by_text op.Breaks x builtin.Nl2br (x ∷ []) st breaks_of (λ t. refl) u (h x (Contains-head x (x ∷ []))) e
  apply_lies _ _ _ _ u st (lawful.url x) h e = by_text op.Url x builtin.Urlencode (x ∷ []) st url_of (λ t. refl) u (h x (Contains-head x (x ∷ []))) e
  apply_lies _ _ _ _ u st (lawful.raw_url x) h e = by_text op.RawUrl x builtin.Rawurlencode (x ∷ []) st raw_url_of (λ t. refl) u (h x (Contains-head x (x ∷ []))) e
  apply_lies _ _ _ _ u st (lawful.slashes x) h e = by_text op.Slashes x builtin.Addslashes (x ∷ []) st slashes_of (λ t. refl) u (h x (Contains-head x (x ∷ []))) e

  -- the pieces of a text
  module _ (o : Op) (from : ℕ) (g : Builtin) (args : List ℕ) (st : SetsTo flow p (explode_source o from g args)) where
    abbrev split : PlainSource
    split = explode_source o from g args

    piece_place : (n : ℕ) (t : List ℕ) → HasIn flow (Output p) t → Def flow (at_point p) (place (told_keys flow) (int_key (pos n)) half.Text) t
    piece_place n t h = by_place flow (int_key (pos n)) half.Text (λ a. Def flow (at_point p) a t)
        (λ i c. from_in flow p split (Member i half.Text) (Output p) st (sources.explode_member o from g args i c refl) t h)
        (from_in flow p split (Others half.Text) (Output p) st (sources.explode_other o from g args) t h)

    pieces_in : (n : ℕ) (ts : List (List ℕ)) → ((t : List ℕ) → Contains ts t → HasIn flow (Output p) t) → MembersIn (told_keys flow) (Def flow (at_point p)) (DefYes flow (at_point p)) (numbered_from n ts)
    pieces_in n [] h = tt
    pieces_in n (t ∷ ts) h = (piece_place n t (h t (Contains-head t ts)), tt, pieces_in (n + 1) ts (λ u i. h u (Contains-later t ts u i)))

    piece_keys : (n : ℕ) (ts : List (List ℕ)) → PairsHaveValues (numbered_from n ts) → KeysInAll (Def flow (at_point p) Keys) (numbered_from n ts)
    piece_keys n [] h = tt
    piece_keys n (t ∷ ts) h =
        (In.integer (set_of Keys (at_point p)) _ (of_source flow p split Keys integer_form st (sources.explode_key o from g args)) (integer_is (pos n) h.0), tt, piece_keys (n + 1) ts h.2)

    split_lies : (sep t : List ℕ) (u : Plain) → ((piece : List ℕ) → Contains (pieces_of sep t) piece → Rel o t piece) → Use flow from p (Own half.Text) t → IsValue u → pieces_at sep t ≡ Ok u → Lies flow (at_point p) u
    split_lies [] t u rel h v e = cc
    split_lies (b ∷ sep) t u rel h v e =
        let ts = pieces_of (b ∷ sep) t in
        let is : u ≡ array (numbered_from 0 ts) = cc in
        let v' : IsValue (array (numbered_from 0 ts)) = subst IsValue is v in
        subst (Lies flow (at_point p)) (sym is) (record {
          covers = (
            yes_in flow p split (Own half.Array) st (sources.explode_array o from g args),
            pieces_in 0 ts (λ piece i. In.apply (Output p) (Input p) o t piece (rows.split_output p from o g args st) (same_in flow (Input p) (use_of (Own half.Text) from p) t (rows.split_input p from o g args st) h) (rel piece i)),
            piece_keys 0 ts (v'.parts).1,
          );
          value = v';
        })

  pub explode_lies : (o : Op) (from : ℕ) (g : Builtin) (args : List ℕ) (u : Plain) → SetsTo flow p (explode_source o from g args) → IsSplittingOf o from g args → ((x : ℕ) → Contains (from ∷ args) x → UseLies flow x p (f x)) → IsValue u
      → builtin_value g (given o (map f args)) ≡ Ok u → Lies flow (at_point p) u
  unfolding given
  explode_lies _ _ _ _ u st (lawful.piece sep a x) h v e = by (as_text (f x)) refl e
    where
      by : (r : Result (List ℕ) Fault) → as_text (f x) ≡ r → go_on r (pieces_at sep) ≡ Ok u → Lies flow (at_point p) u
      by (Err fault) i k = cc
      by (Ok t) i k = split_lies (op.Piece sep) x builtin.Explode (a ∷ x ∷ []) st sep t u (λ piece c. c) (own_text_in flow x p (f x) t (h x (Contains-head x (a ∷ x ∷ []))) i) v k
  explode_lies _ _ _ _ u st (lawful.part a x) h v e = by (as_text (f a)) e
    where
      by_text'' : (sep : List ℕ) (r : Result (List ℕ) Fault) → as_text (f x) ≡ r → go_on r (pieces_at sep) ≡ Ok u → Lies flow (at_point p) u
      by_text'' sep (Err fault) i k = cc
      by_text'' sep (Ok t) i k = split_lies op.Factor x builtin.Explode (a ∷ x ∷ []) st sep t u (λ piece c. IsFactor-pieces_of sep t piece c) (own_text_in flow x p (f x) t (h x (Contains-head x (a ∷ x ∷ []))) i) v k

      by : (r : Result (List ℕ) Fault) → go_on r (λ sep. go_on (as_text (f x)) (pieces_at sep)) ≡ Ok u → Lies flow (at_point p) u
      by (Err fault) k = cc
      by (Ok sep) k = by_text'' sep (as_text (f x)) refl k
