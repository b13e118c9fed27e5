-- The marks of a spellable tree can be written.
use Rattle.std.proofs.Common.{◌≡◌, ℕ, ◌≤◌, pos, negsuc, Bool, true, false, ◌&&◌, if◌then◌else◌, List, [], ◌∷◌, refl, arith}
use Rattle.std.specs.Prelude.{ℤ, nat_le, nat_lt}
use Rattle.std.proofs.lemmas.Bool.Decides.{nat_tests}
use Rattle.php_syntax.specs.declared.token.Sign.TheVariants as signs
use Rattle.php_syntax.specs.declared.tree.SuperName.{SuperName}
use Rattle.php_syntax.specs.declared.tree.SuperName.TheVariants as request
use Rattle.php_syntax.specs.Tokens.{PlainKey}
use Rattle.lexical_grammar.specs.Characters.{largest}
use Rattle.php_syntax.specs.Trees.{PlainExpr, null_expr, flag_expr, int_expr, text_expr, var_expr, super_expr, member_expr, array_expr, join_expr, neg_expr, not_expr, arith_expr, compare_expr, and_expr, or_expr, coalesce_expr, choice_expr, isset_expr, empty_expr, assign_expr, update_expr, step_expr, call_expr, MaybeExpr, no_expr, some_expr, PlainExprs, no_exprs, more_exprs, PlainItems, no_items, more_items, PlainPath, no_keys, more_keys}
use Rattle.lexical_grammar.specs.Spelled.{IsName}
use Rattle.spellable.specs.Marks.{Mark, sign}
use Rattle.spellable.specs.Spellable.{is_name, is_call_name, is_integer, is_unsigned, is_part_key, is_read, are_parts, is_some_exprs, expr_spellable, maybe_spellable, exprs_spellable, items_spellable, path_spellable}
use Rattle.script_grammar.specs.Reserved.{request_name}
use Rattle.php_writer.specs.Written.{looseness, within, int_mark, read_name, part_key, read_keys, arith_looseness, arith_side, compare_side, arith_sign, compare_sign, sign_of_update, expr_marks, maybe_marks, join_marks, dotted_marks, list_marks, more_marks, items_marks, more_items_marks, key_marks, path_marks}
use Rattle.spellable.proofs.Halves.{halves, name_is, own_name_is, call_name_is, IsCallName}
use Rattle.spellable.proofs.CutRead.{IsKey, AreKeys}
use Rattle.php_writer.proofs.NoCasts.{AllWritable}

-- marks that can be written, before those that can
abbrev pub Keeps : (List Mark → List Mark) → Type 0
Keeps m = (r : List Mark) → AllWritable r → AllWritable (m r)

within_by : (loose : Bool) (m : List Mark → List Mark) → Keeps m → Keeps (λ r. if loose then sign signs.OpenParen ∷ m (sign signs.CloseParen ∷ r) else m r)
within_by true m keeps r all = keeps (sign signs.CloseParen ∷ r) all
within_by false m keeps r all = keeps r all

within_keeps : (place : ℕ) (e : PlainExpr) → Keeps (expr_marks e) → Keeps (within place (looseness e) (expr_marks e))
within_keeps place e keeps r all = within_by (nat_lt place (looseness e)) (expr_marks e) keeps r all

in_range : (n : ℕ) → nat_le n largest ≡ true → n ≤ largest
in_range n h = grind (arith, nat_tests)

int_keeps : (z : ℤ) → is_integer z ≡ true → Keeps (λ r. int_mark z ∷ r)
unfolding int_mark
int_keeps (pos n) h r all = (in_range n h, all)
int_keeps (negsuc n) h r all = all

pub integer_keeps : (z : ℤ) → is_unsigned z ≡ true → Keeps (λ r. int_mark z ∷ r)
unfolding int_mark
integer_keeps (pos n) h r all = (in_range n h, all)
integer_keeps (negsuc n) h r all = absurd (cc)

pub request_is_name : (s : SuperName) → IsName (request_name s)
request_is_name request.Get = (refl, refl)
request_is_name request.Post = (refl, refl)
request_is_name request.Cookie = (refl, refl)
request_is_name request.Request = (refl, refl)
request_is_name request.Server = (refl, refl)

read_is_name : (e : PlainExpr) → is_read e ≡ true → IsName (read_name e)
unfolding read_name
read_is_name (var_expr x) h = own_name_is x h
read_is_name (super_expr s) h = request_is_name s
read_is_name (member_expr a k) h = read_is_name a (halves (is_read a) (is_part_key k) h).0
read_is_name _ h = absurd (cc)

unsigned_key : (z : ℤ) → is_unsigned z ≡ true → IsKey (part_key (int_expr z))
unfolding part_key
unsigned_key (pos n) h = in_range n h
unsigned_key (negsuc n) h = absurd (cc)

key_is : (k : PlainExpr) → is_part_key k ≡ true → IsKey (part_key k)
unfolding part_key
key_is (text_expr t) h = tt
key_is (int_expr z) h = unsigned_key z h
key_is (var_expr x) h = own_name_is x h
key_is (super_expr s) h = request_is_name s
key_is _ h = absurd (cc)

keys_are : (e : PlainExpr) (ks : List PlainKey) → is_read e ≡ true → AreKeys ks → AreKeys (read_keys e ks)
unfolding read_keys
keys_are (var_expr x) ks h are = are
keys_are (super_expr s) ks h are = are
keys_are (member_expr a k) ks h are = let both = halves (is_read a) (is_part_key k) h in keys_are a (part_key k ∷ ks) both.0 (key_is k both.1, are)
keys_are _ ks h are = absurd (cc)

read_keeps : (e : PlainExpr) → is_read e ≡ true → Keeps (join_marks (more_exprs e no_exprs))
unfolding expr_marks
read_keeps e h r all = (read_is_name e h, keys_are e [] h tt, all)

step_keeps : (x : List ℕ) (up before : Bool) → is_name x ≡ true → Keeps (expr_marks (step_expr x up before))
unfolding expr_marks
step_keeps x up true h r all = (name_is x h, all)
step_keeps x up false h r all = (name_is x h, all)

call_keeps : (f : List ℕ) (es : PlainExprs) → IsCallName f → Keeps (list_marks es) → Keeps (expr_marks (call_expr f es))
unfolding expr_marks
call_keeps f es is keeps r all = (is.is_name, is.no_keyword, (list_marks es (sign signs.CloseParen ∷ r), refl), keeps (sign signs.CloseParen ∷ r) all)

join_keeps : (es : PlainExprs) → are_parts es ≡ true → Keeps (dotted_marks es) → Keeps (join_marks es)
unfolding expr_marks
join_keeps no_exprs h keeps r all = all
join_keeps (more_exprs e no_exprs) h keeps r all = read_keeps e h r all
join_keeps (more_exprs e (more_exprs f es)) h keeps r all = keeps r all

mutual
  unfolding expr_marks expr_spellable

  pub expr_keeps : (e : PlainExpr) → expr_spellable e ≡ true → Keeps (expr_marks e)
  expr_keeps null_expr h r all = all
  expr_keeps (flag_expr b) h r all = all
  expr_keeps (int_expr z) h r all = int_keeps z h r all
  expr_keeps (text_expr t) h r all = all
  expr_keeps (var_expr x) h r all = (own_name_is x h, all)
  expr_keeps (super_expr s) h r all = (request_is_name s, all)
  expr_keeps (member_expr a k) h r all = let both = halves (expr_spellable a) (expr_spellable k) h in within_keeps 0 a (expr_keeps a both.0) (sign signs.OpenBracket ∷ expr_marks k (sign signs.CloseBracket ∷ r)) (expr_keeps k both.1 (sign signs.CloseBracket ∷ r) all)
  expr_keeps (array_expr is) h r all = items_keep is h (sign signs.CloseBracket ∷ r) all
  expr_keeps (join_expr es) h r all = let both = halves (are_parts es) (exprs_spellable es) h in join_keeps es both.0 (dotted_keeps es both.1) r all
  expr_keeps (neg_expr a) h r all = within_keeps 2 a (expr_keeps a h) r all
  expr_keeps (not_expr a) h r all = within_keeps 2 a (expr_keeps a h) r all
  expr_keeps (arith_expr s a b) h r all =
      let both = halves (expr_spellable a) (expr_spellable b) h
      in within_keeps (arith_looseness s) a (expr_keeps a both.0) (sign (arith_sign s) ∷ within (arith_side s) (looseness b) (expr_marks b) r) (within_keeps (arith_side s) b (expr_keeps b both.1) r all)
  expr_keeps (compare_expr s a b) h r all =
      let both = halves (expr_spellable a) (expr_spellable b) h
      in within_keeps (compare_side s) a (expr_keeps a both.0) (sign (compare_sign s) ∷ within (compare_side s) (looseness b) (expr_marks b) r) (within_keeps (compare_side s) b (expr_keeps b both.1) r all)
  expr_keeps (and_expr a b) h r all =
      let both = halves (expr_spellable a) (expr_spellable b) h
      in within_keeps 8 a (expr_keeps a both.0) (sign signs.And ∷ within 7 (looseness b) (expr_marks b) r) (within_keeps 7 b (expr_keeps b both.1) r all)
  expr_keeps (or_expr a b) h r all =
      let both = halves (expr_spellable a) (expr_spellable b) h
      in within_keeps 9 a (expr_keeps a both.0) (sign signs.Or ∷ within 8 (looseness b) (expr_marks b) r) (within_keeps 8 b (expr_keeps b both.1) r all)
  expr_keeps (coalesce_expr a b) h r all =
      let both = halves (expr_spellable a) (expr_spellable b) h
      in within_keeps 9 a (expr_keeps a both.0) (sign signs.Coalesce ∷ within 10 (looseness b) (expr_marks b) r) (within_keeps 10 b (expr_keeps b both.1) r all)
  expr_keeps (choice_expr a m b) h r all =
      let one = halves (expr_spellable a) (maybe_spellable m && expr_spellable b) h
      in let two = halves (maybe_spellable m) (expr_spellable b) one.1
      in within_keeps 10 a (expr_keeps a one.0) (sign signs.Question ∷ maybe_marks m (sign signs.Colon ∷ within 10 (looseness b) (expr_marks b) r))
      (maybe_keeps m two.0 (sign signs.Colon ∷ within 10 (looseness b) (expr_marks b) r) (within_keeps 10 b (expr_keeps b two.1) r all))
  expr_keeps (isset_expr es) h r all = list_keeps es (halves (is_some_exprs es) (exprs_spellable es) h).1 (sign signs.CloseParen ∷ r) all
  expr_keeps (empty_expr a) h r all = expr_keeps a h (sign signs.CloseParen ∷ r) all
  expr_keeps (assign_expr x ks e) h r all =
      let one = halves (is_name x) (path_spellable ks && expr_spellable e) h
      in let two = halves (path_spellable ks) (expr_spellable e) one.1
      in (name_is x one.0, path_keeps ks two.0 (sign signs.Assign ∷ expr_marks e r) (expr_keeps e two.1 r all))
  expr_keeps (update_expr s x ks e) h r all =
      let one = halves (is_name x) (path_spellable ks && expr_spellable e) h
      in let two = halves (path_spellable ks) (expr_spellable e) one.1
      in (name_is x one.0, path_keeps ks two.0 (sign (sign_of_update s) ∷ expr_marks e r) (expr_keeps e two.1 r all))
  expr_keeps (step_expr x up before) h r all = step_keeps x up before h r all
  expr_keeps (call_expr f es) h r all = let both = halves (is_call_name f) (exprs_spellable es) h in call_keeps f es (call_name_is f both.0) (list_keeps es both.1) r all

  pub maybe_keeps : (m : MaybeExpr) → maybe_spellable m ≡ true → Keeps (maybe_marks m)
  maybe_keeps no_expr h r all = all
  maybe_keeps (some_expr e) h r all = expr_keeps e h r all

  dotted_keeps : (es : PlainExprs) → exprs_spellable es ≡ true → Keeps (dotted_marks es)
  dotted_keeps no_exprs h r all = all
  dotted_keeps (more_exprs e es) h r all = let both = halves (expr_spellable e) (exprs_spellable es) h in within_keeps 4 e (expr_keeps e both.0) (dotted_marks es r) (dotted_keeps es both.1 r all)

  pub list_keeps : (es : PlainExprs) → exprs_spellable es ≡ true → Keeps (list_marks es)
  list_keeps no_exprs h r all = all
  list_keeps (more_exprs e es) h r all = let both = halves (expr_spellable e) (exprs_spellable es) h in expr_keeps e both.0 (more_marks es r) (more_keeps es both.1 r all)

  pub more_keeps : (es : PlainExprs) → exprs_spellable es ≡ true → Keeps (more_marks es)
  more_keeps no_exprs h r all = all
  more_keeps (more_exprs e es) h r all = let both = halves (expr_spellable e) (exprs_spellable es) h in expr_keeps e both.0 (more_marks es r) (more_keeps es both.1 r all)

  items_keep : (is : PlainItems) → items_spellable is ≡ true → Keeps (items_marks is)
  items_keep no_items h r all = all
  items_keep (more_items k e is) h r all =
      let one = halves (maybe_spellable k) (expr_spellable e && items_spellable is) h
      in let two = halves (expr_spellable e) (items_spellable is) one.1
      in key_keeps k one.0 (expr_marks e (more_items_marks is r)) (expr_keeps e two.0 (more_items_marks is r) (more_items_keep is two.1 r all))

  more_items_keep : (is : PlainItems) → items_spellable is ≡ true → Keeps (more_items_marks is)
  more_items_keep no_items h r all = all
  more_items_keep (more_items k e is) h r all =
      let one = halves (maybe_spellable k) (expr_spellable e && items_spellable is) h
      in let two = halves (expr_spellable e) (items_spellable is) one.1
      in key_keeps k one.0 (expr_marks e (more_items_marks is r)) (expr_keeps e two.0 (more_items_marks is r) (more_items_keep is two.1 r all))

  key_keeps : (k : MaybeExpr) → maybe_spellable k ≡ true → Keeps (key_marks k)
  key_keeps no_expr h r all = all
  key_keeps (some_expr e) h r all = expr_keeps e h (sign signs.DoubleArrow ∷ r) all

  path_keeps : (ks : PlainPath) → path_spellable ks ≡ true → Keeps (path_marks ks)
  path_keeps no_keys h r all = all
  path_keeps (more_keys k ks) h r all = let both = halves (maybe_spellable k) (path_spellable ks) h in maybe_keeps k both.0 (sign signs.CloseBracket ∷ path_marks ks r) (path_keeps ks both.1 r all)
