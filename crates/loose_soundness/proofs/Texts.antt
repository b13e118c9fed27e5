-- Texts that are joined, numbers, and truth values.
use Rattle.std.proofs.Common.{◌≡◌, ℕ, zero, suc, ◌+◌, ℤ, pos, negsuc, Bool, true, false, not, List, [], ◌∷◌, ◌++◌, length, Result, Ok, Err, refl, sym, ap, subst, ◌∙◌, arith, append_assoc}
use Rattle.std.proofs.lemmas.List.{append-nil}
use Rattle.std.specs.Prelude.{All, map, flat_map, codes, slice_get, int_div, int_rem, neg_ℤ, ◌+ℤ◌, ◌-ℤ◌, ◌*ℤ◌}
use Rattle.std.specs.List.{list_all}
use Rattle.std.specs.Fmt.{signed_decimal}
use Rattle.std.proofs.lemmas.List.Elements.{All-head, All-tail, All-nil, All-cons}
use Rattle.string_functions.specs.Pieces.{join_of}
use Rattle.string_functions.specs.Copies.{copies_of}
use Rattle.plain_values.specs.Plain.{Plain, Pairs, null, flag, int, text, array, empty, pair, keys}
use Rattle.plain_values.specs.Members.{within_length}
use Rattle.plain_values.specs.Outcome.{go_on}
use Rattle.plain_values.specs.Text.{text_of, truth}
use Rattle.plain_values.specs.Walks.{is_null, is_array, is_text, count_of}
use Rattle.php_syntax.specs.declared.tree.ArithSign.{ArithSign}
use Rattle.php_syntax.specs.declared.tree.ArithSign.TheVariants as sign
use Rattle.plain_values.specs.Arithmetic.{number_of, in_64_bits, integer, of_numbers, unless_zero, negation_of}
use Rattle.plain_values.specs.Intval.{integer_of, text_integer}
use Rattle.plain_values.specs.Lawful.{IsValue, HasValues}
use Rattle.plain_values.specs.declared.fault.Fault.{Fault}
use Rattle.builtin_meaning.specs.declared.builtin.Builtin.{Builtin}
use Rattle.builtin_meaning.specs.declared.builtin.Builtin.TheVariants as builtin
use Rattle.builtin_meaning.specs.Arguments.{as_text, as_array}
use Rattle.builtin_meaning.specs.Values.{member_texts, copies_at, length_of, builtin_value}
use Rattle.script_meaning.specs.Expressions.{arithmetic, comparison, stepped}
use Rattle.flow_code.specs.Points.{PlainFlow, concat_source, repeat_source, implode_source, number_source, truth_source}
use Rattle.flow_code.specs.Lawful.{GivesNumber, GivesTruth}
use Rattle.flow_code.specs.Lawful as lawful
use Rattle.flow_code.specs.Runs.{Slots, concatenated, worked}
use Rattle.flow_code.specs.declared.source.Work.{Work}
use Rattle.flow_code.specs.declared.source.Work.TheVariants as work
use Rattle.least_sets.specs.Forms.{join_form, integer_form}
use Rattle.least_sets.specs.Sets.{In}
use Rattle.loose_sets.specs.Reaching.{at_point}
use Rattle.loose_sets.specs.Keys.{told_keys}
use Rattle.loose_sets.specs.declared.name.Aspect.TheVariants.{Own}
use Rattle.loose_sets.specs.declared.name.Half.TheVariants as half
use Rattle.loose_sets.specs.declared.name.SetName.TheVariants.{Joined, Piece, FurtherPiece, FurtherPieces}
use Rattle.loose_soundness.proofs.Names.{set_of, use_of, all_of, shown_at}
use Rattle.loose_sets.specs.Table.{SetsTo}
use Rattle.loose_soundness.proofs.SourceRows as sources
use Rattle.loose_soundness.proofs.SourceRows.{IsSourceRow}
use Rattle.loose_soundness.proofs.Rows as rows
use Rattle.function_laws.proofs.Texts.{text_value, flag_value, text_short, within, within_value}
use Rattle.function_laws.proofs.Functions.{function_value}
use Rattle.function_laws.proofs.Numbers.{sum_value, difference_value, product_value, remainder_value, negation_value, increment_value, decrement_value}
use Rattle.loose_soundness.proofs.Covers.{OwnIn, AllIn, Covers}
use Rattle.loose_soundness.proofs.Decimals.{integer_is}
use Rattle.loose_soundness.proofs.Lying.{HasIn, SaysIn, Def, DefYes, Use, Lies, UseLies, same_in, all_lies, of_source}
use Rattle.loose_soundness.proofs.Simple.{text_in, from_in}

-- what is shown of a value
pub shown_in : (flow : PlainFlow) (x p : ℕ) (v : Plain) → UseLies flow x p v → HasIn flow (shown_at x p) (text_of v)
shown_in flow x p null h = same_in flow (shown_at x p) (use_of (Own half.Text) x p) [] (rows.shown_text x p) h.covers
shown_in flow x p (flag b) h = same_in flow (shown_at x p) (use_of (Own half.Text) x p) (text_of (flag b)) (rows.shown_text x p) h.covers
shown_in flow x p (int z) h = same_in flow (shown_at x p) (use_of (Own half.Text) x p) (signed_decimal z) (rows.shown_text x p) h.covers
shown_in flow x p (text t) h = same_in flow (shown_at x p) (use_of (Own half.Text) x p) t (rows.shown_text x p) h.covers
shown_in flow x p (array ps) h = In.where_yes (shown_at x p) (use_of (Own half.Array) x p) (codes "Array") (rows.shown_array x p) h.covers.0

-- the text of a value that is taken as a text
pub own_text_in : (flow : PlainFlow) (x p : ℕ) (v : Plain) (t : List ℕ) → UseLies flow x p v → as_text v ≡ Ok t → Use flow x p (Own half.Text) t
own_text_in flow x p null t h e = let is : t ≡ [] = cc in subst (Use flow x p (Own half.Text)) (sym is) h.covers
own_text_in flow x p (flag b) t h e = let is : t ≡ text_of (flag b) = cc in subst (Use flow x p (Own half.Text)) (sym is) h.covers
own_text_in flow x p (int z) t h e = let is : t ≡ text_of (int z) = cc in subst (Use flow x p (Own half.Text)) (sym is) h.covers
own_text_in flow x p (text s) t h e = let is : t ≡ s = cc in subst (Use flow x p (Own half.Text)) (sym is) h.covers
own_text_in flow x p (array ps) t h e = cc

module _ (flow : PlainFlow) (p : ℕ) where
  -- a text that its set has
  pub text_lies : (v : Plain) (t : List ℕ) → v ≡ text t → IsValue v → Def flow (at_point p) (Own half.Text) t → Lies flow (at_point p) v
  text_lies v t is h i = record { covers = subst (Covers (told_keys flow) (Def flow (at_point p)) (DefYes flow (at_point p))) (sym is) i; value = h }

  -- joined values, from the i-th on
  joined_in : (f : Slots) (xs all : List ℕ) (i : ℕ) → SetsTo flow p (concat_source all) → ((j : ℕ) → slice_get xs j ≡ slice_get all (i + j)) → length all ≡ i + length xs → All (λ x. UseLies flow x p (f x)) xs
      → HasIn flow (Joined p i) (flat_map text_of (map f xs))
  joined_in f [] all i st at len h = subst (λ n. HasIn flow (Joined p n) []) (omega (arith, len)) (In.text (Joined p (length all)) [] (rows.joined_end p all st))
  joined_in f (x ∷ xs) all i st at len h =
      In.join (Joined p i) (shown_at x p) (Joined p (suc i)) (text_of (f x)) (flat_map text_of (map f xs)) (rows.joined_more p i x all st (ap (slice_get all) (omega arith) ∙ sym (at 0)))
      (shown_in flow x p (f x) (All-head (λ x. UseLies flow x p (f x)) x xs h))
      (joined_in f xs all (suc i) st (λ j. at (suc j) ∙ ap (slice_get all) (omega arith)) (omega (arith, len)) (All-tail (λ x. UseLies flow x p (f x)) x xs h))

  all_joined : (f : Slots) (xs : List ℕ) → SetsTo flow p (concat_source xs) → All (λ x. UseLies flow x p (f x)) xs → Def flow (at_point p) (Own half.Text) (flat_map text_of (map f xs))
  all_joined f xs st h = from_in flow p (concat_source xs) (Own half.Text) (Joined p 0) st (sources.concat xs) (flat_map text_of (map f xs)) (joined_in f xs xs 0 st (λ j. ap (slice_get xs) (omega arith)) (omega arith) h)

  pub concat_lies : (f : Slots) (xs : List ℕ) (u : Plain) → SetsTo flow p (concat_source xs) → All (λ x. UseLies flow x p (f x)) xs → concatenated (map f xs) ≡ Ok u → Lies flow (at_point p) u
  unfolding concatenated
  concat_lies f [] u st h e = let w = within [] u e in text_lies u [] w.0 (within_value [] u e) (all_joined f [] st h)
  concat_lies f (x ∷ []) u st h e =
      let is : u ≡ text (text_of (f x)) = cc in
      let one = All-head (λ x. UseLies flow x p (f x)) x [] h in
      text_lies u (text_of (f x)) is (subst IsValue (sym is) (text_value (text_of (f x)) (text_short (f x) (one.value).parts)))
      (subst (Def flow (at_point p) (Own half.Text)) (append-nil (text_of (f x))) (all_joined f (x ∷ []) st h))
  concat_lies f (x ∷ y ∷ xs) u st h e =
      let w = within (flat_map text_of (map f (x ∷ y ∷ xs))) u e in
      text_lies u (flat_map text_of (map f (x ∷ y ∷ xs))) w.0 (within_value (flat_map text_of (map f (x ∷ y ∷ xs))) u e) (all_joined f (x ∷ y ∷ xs) st h)

  -- copies
  copies_in : (from : ℕ) (g : Builtin) (args : List ℕ) (t : List ℕ) (n : ℕ) → SetsTo flow p (repeat_source from g args) → Use flow from p (Own half.Text) t → Def flow (at_point p) (Own half.Text) (copies_of n t)
  copies_in from g args t zero st h = text_in flow p (repeat_source from g args) (Own half.Text) [] st (sources.repeat_none from g args)
  copies_in from g args t (suc n) st h =
      In.join (set_of (Own half.Text) (at_point p)) (use_of (Own half.Text) from p) (set_of (Own half.Text) (at_point p)) t (copies_of n t)
      (of_source flow p (repeat_source from g args) (Own half.Text) (join_form (use_of (Own half.Text) from p) (set_of (Own half.Text) (at_point p))) st (sources.repeat_more from g args)) h (copies_in from g args t n st h)

  pub repeat_lies : (f : Slots) (from n : ℕ) (u : Plain) → SetsTo flow p (repeat_source from builtin.StrRepeat (from ∷ n ∷ [])) → UseLies flow from p (f from) → builtin_value builtin.StrRepeat (f from ∷ f n ∷ []) ≡ Ok u → Lies flow (at_point p) u
  repeat_lies f from n u st h e = by (as_text (f from)) refl e
    where
      by_count : (t : List ℕ) → as_text (f from) ≡ Ok t → (z : ℤ) → copies_at t z ≡ Ok u → Lies flow (at_point p) u
      by_count t i (pos m) g =
          let w = within (copies_of m t) u g in
          text_lies u (copies_of m t) w.0 (within_value (copies_of m t) u g) (copies_in from builtin.StrRepeat (from ∷ n ∷ []) t m st (own_text_in flow from p (f from) t h i))
      by_count t i (negsuc m) g = cc

      by_number : (t : List ℕ) → as_text (f from) ≡ Ok t → (r : Result ℤ Fault) → go_on r (copies_at t) ≡ Ok u → Lies flow (at_point p) u
      by_number t i (Err fault) g = cc
      by_number t i (Ok z) g = by_count t i z g

      by : (r : Result (List ℕ) Fault) → as_text (f from) ≡ r → go_on r (λ t. go_on (number_of (f n)) (copies_at t)) ≡ Ok u → Lies flow (at_point p) u
      by (Err fault) i g = cc
      by (Ok t) i g = by_number t i (number_of (f n)) g

  -- members of an array, joined
  piece_in : (sep from : ℕ) (g : Builtin) (args : List ℕ) → SetsTo flow p (implode_source sep from g args) → (v : Plain) → OwnIn (HasIn flow (all_of half.Text from p)) (SaysIn flow (all_of half.Array from p)) v → HasIn flow (Piece p) (text_of v)
  piece_in sep from g args st null h = same_in flow (Piece p) (all_of half.Text from p) [] (rows.piece_text p sep from g args st) h
  piece_in sep from g args st (flag b) h = same_in flow (Piece p) (all_of half.Text from p) (text_of (flag b)) (rows.piece_text p sep from g args st) h
  piece_in sep from g args st (int z) h = same_in flow (Piece p) (all_of half.Text from p) (signed_decimal z) (rows.piece_text p sep from g args st) h
  piece_in sep from g args st (text t) h = same_in flow (Piece p) (all_of half.Text from p) t (rows.piece_text p sep from g args st) h
  piece_in sep from g args st (array ps) h = In.where_yes (Piece p) (all_of half.Array from p) (codes "Array") (rows.piece_array p sep from g args st) h

  -- what stands behind a first piece
  behind_first : List ℕ → List (List ℕ) → List ℕ
  behind_first sep [] = []
  behind_first sep (t ∷ ts) = sep ++ (t ++ behind_first sep ts)

  join_first : (sep t : List ℕ) (ts : List (List ℕ)) → join_of sep (t ∷ ts) ≡ t ++ behind_first sep ts
  unfolding behind_first
  join_first sep t [] = sym (append-nil t)
  join_first sep t (u ∷ ts) = ap (λ w. t ++ (sep ++ w)) (join_first sep u ts)

  module _ (sep from : ℕ) (g : Builtin) (args : List ℕ) (st : SetsTo flow p (implode_source sep from g args)) (t : List ℕ) (ht : Use flow sep p (Own half.Text) t) where
    further_in : (ps : Pairs) → AllIn (HasIn flow (all_of half.Text from p)) (SaysIn flow (all_of half.Array from p)) ps → HasIn flow (FurtherPieces p) (behind_first t (member_texts ps))
    unfolding behind_first
    further_in empty h = In.text (FurtherPieces p) [] (rows.further_none p sep from g args st)
    further_in (pair k v ps) h =
        subst (HasIn flow (FurtherPieces p)) (append_assoc t (text_of v) (behind_first t (member_texts ps)))
        (In.join (FurtherPieces p) (FurtherPiece p) (FurtherPieces p) (t ++ text_of v) (behind_first t (member_texts ps)) (rows.further_more p sep from g args st)
        (In.join (FurtherPiece p) (use_of (Own half.Text) sep p) (Piece p) t (text_of v) (rows.further_piece p sep from g args st) ht (piece_in sep from g args st v h.0))
        (further_in ps h.2))

    pub imploded_in : (ps : Pairs) → AllIn (HasIn flow (all_of half.Text from p)) (SaysIn flow (all_of half.Array from p)) ps → Def flow (at_point p) (Own half.Text) (join_of t (member_texts ps))
    imploded_in empty h = text_in flow p (implode_source sep from g args) (Own half.Text) [] st (sources.implode_none sep from g args)
    imploded_in (pair k v ps) h =
        subst (Def flow (at_point p) (Own half.Text)) (sym (join_first t (text_of v) (member_texts ps)))
        (In.join (set_of (Own half.Text) (at_point p)) (Piece p) (FurtherPieces p) (text_of v) (behind_first t (member_texts ps))
        (of_source flow p (implode_source sep from g args) (Own half.Text) (join_form (Piece p) (FurtherPieces p)) st (sources.implode_more sep from g args))
        (piece_in sep from g args st v h.0) (further_in ps h.2))

  pub implode_lies : (f : Slots) (sep from : ℕ) (u : Plain) → SetsTo flow p (implode_source sep from builtin.Implode (sep ∷ from ∷ [])) → UseLies flow sep p (f sep) → UseLies flow from p (f from)
      → builtin_value builtin.Implode (f sep ∷ f from ∷ []) ≡ Ok u → Lies flow (at_point p) u
  implode_lies f sep from u st hs hf e = by (as_text (f sep)) refl e
    where
      by_array : (t : List ℕ) → as_text (f sep) ≡ Ok t → (v : Plain) → UseLies flow from p v → go_on (as_array v) (λ ps. within_length (join_of t (member_texts ps))) ≡ Ok u → Lies flow (at_point p) u
      by_array t i null h g = cc
      by_array t i (flag b) h g = cc
      by_array t i (int z) h g = cc
      by_array t i (text s) h g = cc
      by_array t i (array ps) h g =
          let w = within (join_of t (member_texts ps)) u g in
          text_lies u (join_of t (member_texts ps)) w.0 (within_value (join_of t (member_texts ps)) u g)
          (imploded_in sep from builtin.Implode (sep ∷ from ∷ []) st t (own_text_in flow sep p (f sep) t hs i) ps (all_lies flow from p ps h.covers.1))

      by : (r : Result (List ℕ) Fault) → as_text (f sep) ≡ r → go_on r (λ t. go_on (as_array (f from)) (λ ps. within_length (join_of t (member_texts ps)))) ≡ Ok u → Lies flow (at_point p) u
      by (Err fault) i g = cc
      by (Ok t) i g = by_array t i (f from) hf g

  values : (f : Slots) (xs : List ℕ) → All (λ x. UseLies flow x p (f x)) xs → All IsValue (map f xs)
  values f [] h = All-nil IsValue
  values f (x ∷ xs) h = All-cons IsValue (f x) (map f xs) (All-head (λ x. UseLies flow x p (f x)) x xs h).value (values f xs (All-tail (λ x. UseLies flow x p (f x)) x xs h))

  -- an integer
  integer_lies : (sign : Work) (args : List ℕ) (u : Plain) → SetsTo flow p (number_source sign args) → ((z : ℤ) × (u ≡ int z)) → IsValue u → Lies flow (at_point p) u
  integer_lies sign args u st z h =
      let i : IsValue (int z.0) = subst IsValue z.1 h in
      record {
        covers = subst (Covers (told_keys flow) (Def flow (at_point p)) (DefYes flow (at_point p))) (sym z.1)
            (In.integer (set_of (Own half.Text) (at_point p)) (signed_decimal z.0) (of_source flow p (number_source sign args) (Own half.Text) integer_form st (sources.number sign args)) (integer_is z.0 i.parts));
        value = h;
      }

  integer_of_result : (r : Result ℤ Fault) (u : Plain) → integer r ≡ Ok u → (z : ℤ) × (u ≡ int z)
  integer_of_result (Err fault) u e = cc
  integer_of_result (Ok z) u e = (z, cc)

  two_numbers : (op : ℤ → ℤ → Result ℤ Fault) (a b u : Plain) → of_numbers op a b ≡ Ok u → (z : ℤ) × (u ≡ int z)
  two_numbers op a b u e = by_first (number_of a) e
    where
      by_second : (x : ℤ) (r : Result ℤ Fault) → go_on r (λ y. integer (op x y)) ≡ Ok u → (z : ℤ) × (u ≡ int z)
      by_second x (Err fault) g = cc
      by_second x (Ok y) g = integer_of_result (op x y) u g

      by_first : (r : Result ℤ Fault) → go_on r (λ x. go_on (number_of b) (λ y. integer (op x y))) ≡ Ok u → (z : ℤ) × (u ≡ int z)
      by_first (Err fault) g = cc
      by_first (Ok x) g = by_second x (number_of b) g

  negated_number : (a u : Plain) → negation_of a ≡ Ok u → (z : ℤ) × (u ≡ int z)
  negated_number a u e = by (number_of a) e
    where
      by : (r : Result ℤ Fault) → go_on r (λ x. integer (in_64_bits (neg_ℤ x))) ≡ Ok u → (z : ℤ) × (u ≡ int z)
      by (Err fault) g = cc
      by (Ok x) g = integer_of_result (in_64_bits (neg_ℤ x)) u g

  stepped_number : (up : Bool) (a u : Plain) → stepped up a ≡ Ok u → ((z : ℤ) × (u ≡ int z)) × IsValue u
  unfolding stepped
  stepped_number true null u e = cc
  stepped_number true (flag b) u e = cc
  stepped_number true (int z) u e = (integer_of_result (in_64_bits (z +ℤ pos 1)) u e, increment_value (int z) u e)
  stepped_number true (text t) u e = cc
  stepped_number true (array ps) u e = cc
  stepped_number false null u e = cc
  stepped_number false (flag b) u e = cc
  stepped_number false (int z) u e = (integer_of_result (in_64_bits (z -ℤ pos 1)) u e, decrement_value (int z) u e)
  stepped_number false (text t) u e = cc
  stepped_number false (array ps) u e = cc

  arithmetic_number : (sign : ArithSign) (a b u : Plain) → HasValues b → arithmetic sign a b ≡ Ok u → ((z : ℤ) × (u ≡ int z)) × IsValue u
  unfolding arithmetic
  arithmetic_number sign.Add a b u h e = (two_numbers (λ x y. in_64_bits (x +ℤ y)) a b u e, sum_value a b u e)
  arithmetic_number sign.Sub a b u h e = (two_numbers (λ x y. in_64_bits (x -ℤ y)) a b u e, difference_value a b u e)
  arithmetic_number sign.Mul a b u h e = (two_numbers (λ x y. in_64_bits (x *ℤ y)) a b u e, product_value a b u e)
  arithmetic_number sign.Rem a b u h e = (two_numbers (λ x y. unless_zero y (Ok (int_rem x y))) a b u e, remainder_value a b u h e)

  counted_number : (a u : Plain) → count_of a ≡ Ok u → (z : ℤ) × (u ≡ int z)
  counted_number null u e = cc
  counted_number (flag b) u e = cc
  counted_number (int z) u e = cc
  counted_number (text t) u e = cc
  counted_number (array ps) u e = integer_of_result (in_64_bits (pos (length (keys ps)))) u e

  length_number : (a u : Plain) → length_of a ≡ Ok u → (z : ℤ) × (u ≡ int z)
  length_number a u e = by (as_text a) e
    where
      by : (r : Result (List ℕ) Fault) → go_on r (λ t. integer (in_64_bits (pos (length t)))) ≡ Ok u → (z : ℤ) × (u ≡ int z)
      by (Err fault) g = cc
      by (Ok t) g = integer_of_result (in_64_bits (pos (length t))) u g

  intval_number : (a u : Plain) → integer_of a ≡ Ok u → (z : ℤ) × (u ≡ int z)
  intval_number null u e = (pos 0, cc)
  intval_number (flag false) u e = (pos 0, cc)
  intval_number (flag true) u e = (pos 1, cc)
  intval_number (int z) u e = (z, cc)
  intval_number (text t) u e = integer_of_result (text_integer t) u e
  intval_number (array ps) u e = cc

  pub number_lies : (f : Slots) (sign : Work) (args : List ℕ) (u : Plain) → SetsTo flow p (number_source sign args) → GivesNumber sign args → All (λ x. UseLies flow x p (f x)) args → worked sign (map f args) ≡ Ok u → Lies flow (at_point p) u
  unfolding worked
  number_lies f _ _ u st (lawful.arithmetic sign a b) h e =
      let hb = All-head (λ x. UseLies flow x p (f x)) b [] (All-tail (λ x. UseLies flow x p (f x)) a (b ∷ []) h) in
      let n = arithmetic_number sign (f a) (f b) u (hb.value).parts e in
      integer_lies (work.Arith sign) (a ∷ b ∷ []) u st n.0 n.1
  number_lies f _ _ u st (lawful.GivesNumber.negation a) h e = integer_lies work.Neg (a ∷ []) u st (negated_number (f a) u e) (negation_value (f a) u e)
  number_lies f _ _ u st (lawful.up a) h e = let n = stepped_number true (f a) u e in integer_lies work.Up (a ∷ []) u st n.0 n.1
  number_lies f _ _ u st (lawful.down a) h e = let n = stepped_number false (f a) u e in integer_lies work.Down (a ∷ []) u st n.0 n.1
  number_lies f _ _ u st (lawful.strlen a) h e = integer_lies (work.Builtin builtin.Strlen) (a ∷ []) u st (length_number (f a) u e) (function_value builtin.Strlen (f a ∷ []) u (values f (a ∷ []) h) e)
  number_lies f _ _ u st (lawful.count a) h e = integer_lies (work.Builtin builtin.Count) (a ∷ []) u st (counted_number (f a) u e) (function_value builtin.Count (f a ∷ []) u (values f (a ∷ []) h) e)
  number_lies f _ _ u st (lawful.intval a) h e = integer_lies (work.Builtin builtin.Intval) (a ∷ []) u st (intval_number (f a) u e) (function_value builtin.Intval (f a ∷ []) u (values f (a ∷ []) h) e)
  number_lies f _ _ u st (lawful.intdiv a b) h e =
      integer_lies (work.Builtin builtin.Intdiv) (a ∷ b ∷ []) u st (two_numbers (λ x y. unless_zero y (in_64_bits (int_div x y))) (f a) (f b) u e) (function_value builtin.Intdiv (f a ∷ f b ∷ []) u (values f (a ∷ b ∷ []) h) e)

  -- a truth value
  flag_lies : (sign : Work) (args : List ℕ) (b : Bool) (u : Plain) → SetsTo flow p (truth_source sign args) → u ≡ flag b → Lies flow (at_point p) u
  flag_lies sign args true u st is =
      text_or u st is (subst (Covers (told_keys flow) (Def flow (at_point p)) (DefYes flow (at_point p))) (sym is) (text_in flow p (truth_source sign args) (Own half.Text) (codes "1") st (sources.truth_true sign args)))
    where
      text_or : (u : Plain) → SetsTo flow p (truth_source sign args) → u ≡ flag true → Covers (told_keys flow) (Def flow (at_point p)) (DefYes flow (at_point p)) u → Lies flow (at_point p) u
      text_or u st is c = record { covers = c; value = subst IsValue (sym is) (flag_value true) }
  flag_lies sign args false u st is = record {
    covers = subst (Covers (told_keys flow) (Def flow (at_point p)) (DefYes flow (at_point p))) (sym is) (text_in flow p (truth_source sign args) (Own half.Text) [] st (sources.truth_false sign args));
    value = subst IsValue (sym is) (flag_value false);
  }

  compared : (r : Result Bool Fault) (u : Plain) → go_on r (λ answer. Ok (flag answer)) ≡ Ok u → (b : Bool) × (u ≡ flag b)
  compared (Err fault) u e = cc
  compared (Ok b) u e = (b, cc)

  flag_is : (b : Bool) (u : Plain) (r : Result Plain Fault) → r ≡ Ok (flag b) → r ≡ Ok u → u ≡ flag b
  flag_is b u r h e = cc

  pub truth_lies : (f : Slots) (sign : Work) (args : List ℕ) (u : Plain) → SetsTo flow p (truth_source sign args) → GivesTruth sign args → worked sign (map f args) ≡ Ok u → Lies flow (at_point p) u
  unfolding worked
  truth_lies f _ _ u st (lawful.comparison sign a b) e = let c = compared (comparison sign (f a) (f b)) u e in flag_lies (work.Compare sign) (a ∷ b ∷ []) c.0 u st c.1
  truth_lies f _ _ u st (lawful.GivesTruth.negation a) e = flag_lies work.Not (a ∷ []) (not (truth (f a))) u st (flag_is (not (truth (f a))) u (Ok (flag (not (truth (f a))))) refl e)
  truth_lies f _ _ u st (lawful.isset args) e =
      flag_lies work.Isset args (list_all (λ v. not (is_null v)) (map f args)) u st (flag_is (list_all (λ v. not (is_null v)) (map f args)) u (Ok (flag (list_all (λ v. not (is_null v)) (map f args)))) refl e)
  truth_lies f _ _ u st (lawful.GivesTruth.empty a) e = flag_lies work.Empty (a ∷ []) (not (truth (f a))) u st (flag_is (not (truth (f a))) u (Ok (flag (not (truth (f a))))) refl e)
  truth_lies f _ _ u st (lawful.not_null a) e = flag_lies work.NotNull (a ∷ []) (not (is_null (f a))) u st (flag_is (not (is_null (f a))) u (Ok (flag (not (is_null (f a))))) refl e)
  truth_lies f _ _ u st (lawful.as_truth a) e = flag_lies work.AsTruth (a ∷ []) (truth (f a)) u st (flag_is (truth (f a)) u (Ok (flag (truth (f a)))) refl e)
  truth_lies f _ _ u st (lawful.is_array a) e = flag_lies (work.Builtin builtin.IsArray) (a ∷ []) (is_array (f a)) u st (flag_is (is_array (f a)) u (Ok (flag (is_array (f a)))) refl e)
  truth_lies f _ _ u st (lawful.is_string a) e = flag_lies (work.Builtin builtin.IsString) (a ∷ []) (is_text (f a)) u st (flag_is (is_text (f a)) u (Ok (flag (is_text (f a)))) refl e)
