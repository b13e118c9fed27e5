-- What the types of grammars and systems keep: each number is below the count, and no page token stands there.
use Rattle.std.proofs.Common.{◌≡◌, ℕ, ◌<◌, ◌≤◌, ◌&&◌, nat_lt, Bool, true, List, [], ◌∷◌, ◌++◌, Option, Some, refl, sym, ◌∙◌, subst, arith}
use Rattle.std.specs.Prelude.{Contains, slice_get, slice_index_or}
use Rattle.std.specs.List.{list_all}
use Rattle.std.proofs.lemmas.Bool.{lt-ltb, ltb-true, and_parts, and_from}
use Rattle.std.proofs.lemmas.Option.{slice_get_within}
use Rattle.std.proofs.lemmas.List.Folds.{list_all-append}
use Rattle.std.proofs.lemmas.List.Elements.{All-contains_itself, Contains-append_left, Contains-append_right}
use Rattle.std.proofs.lemmas.List.Sums.{list_all-from_AllPass}
use Rattle.string_functions.proofs.Members.{Contains-head}
use Rattle.text_base.specs.declared.numbers.Nt as nt
use Rattle.cfg_grammar.specs.declared.symbol.Symbol.{Symbol}
use Rattle.cfg_grammar.specs.declared.symbol.Symbol.TheVariants.{Range}
use Rattle.cfg_grammar.specs.declared.production.Right.{Right}
use Rattle.cfg_grammar.specs.declared.production.Right.TheVariants.{Empty, One, Two}
use Rattle.cfg_grammar.specs.declared.production.Production.{Production}
use Rattle.cfg_grammar.specs.Below.{AreBelow, symbol_below, symbols_of, production_below}
use Rattle.cfg_grammar.specs.Tokens.{HaveNoToken, is_no_token, production_without_token}
use Rattle.op_system.specs.declared.system.OpRule.{OpRule}
use Rattle.op_system.specs.Rules.{RulesAreBelow, rule_below}
use Rattle.least_sets.specs.Forms.{Form}
use Rattle.given_texts.specs.Closed.{Closed}
use Rattle.given_texts.proofs.Sizes.{wider, symbol_wider}
use Rattle.system_writing.specs.declared.lines.Lines.{Lines}
use Rattle.system_writing.specs.declared.waiting.Waiting.{Waiting}
use Rattle.system_writing.specs.declared.drafts.Draft.{Draft}
use Rattle.system_writing.specs.Rights.{text_right}
use Rattle.system_writing.specs.Parts.{Part, set_part}
use Rattle.system_writing.specs.Written.{Denotes, IsRight}
use Rattle.system_writing.specs.Steps.{PutsByte, PutsBytes, PutsText, WritesText, WritesWhere, WritesWaiting, IsBelow}
use Rattle.system_writing.specs.Drafts.{IsAt, IsDraft}

all_from : {X : Type 0} (f : X → Bool) (xs : List X) → ((x : X) → Contains xs x → f x ≡ true) → list_all f xs ≡ true
all_from f xs h = list_all-from_AllPass f xs (λ k d below. h (slice_index_or xs k d) (All-contains_itself xs k d below))

module _ (N : Type 0) (starts names : List N) (numbers : List ℕ) (closed : Closed) (rows : List (N × Form N)) (draft : Draft) (d : IsDraft rows starts names numbers closed draft) where
  abbrev count : ℕ
  count = draft.lines.count

  number_below : (n : ℕ) (p : Part N) → slice_get d.parts n ≡ Some p → nat_lt n count ≡ true
  number_below n p h = lt-ltb n count (subst (λ z. n < z) d.all (slice_get_within d.parts n p h))

  name_below : (n : N) (k : ℕ) → IsAt names numbers n k → nat_lt k count ≡ true
  name_below n k h = number_below k (set_part n) (d.named n k h)

  symbol_is_below : (p : Part N) (s : Symbol) → Denotes d.parts p s → symbol_below count s ≡ true
  symbol_is_below _ _ (Denotes.listed p n h) = number_below n.0 p h
  symbol_is_below _ _ (Denotes.range r) = refl
  symbol_is_below _ _ (Denotes.byte b r lo hi) = refl

  symbol_is_plain : (p : Part N) (s : Symbol) → Denotes d.parts p s → is_no_token s ≡ true
  symbol_is_plain _ _ (Denotes.listed p n h) = refl
  symbol_is_plain _ _ (Denotes.range r) = refl
  symbol_is_plain _ _ (Denotes.byte b r lo hi) = refl

  right_is_below : (f : Form (Part N)) (r : Right) → IsRight d.parts f r → list_all (symbol_below count) (symbols_of r) ≡ true
  right_is_below _ _ IsRight.empty = refl
  right_is_below _ _ (IsRight.one p s e) = and_from (symbol_below count s) true (symbol_is_below p s e) refl
  right_is_below _ _ (IsRight.two p q s t e g) = and_from (symbol_below count s) (symbol_below count t && true) (symbol_is_below p s e) (and_from (symbol_below count t) true (symbol_is_below q t g) refl)

  right_is_plain : (f : Form (Part N)) (r : Right) → IsRight d.parts f r → list_all is_no_token (symbols_of r) ≡ true
  right_is_plain _ _ IsRight.empty = refl
  right_is_plain _ _ (IsRight.one p s e) = and_from (is_no_token s) true (symbol_is_plain p s e) refl
  right_is_plain _ _ (IsRight.two p q s t e g) = and_from (is_no_token s) (is_no_token t && true) (symbol_is_plain p s e) (and_from (is_no_token t) true (symbol_is_plain q t g) refl)

  said_below : (a : nt.Nt) (r : Right) → Contains draft.said.items (record { left = a; right = r }) → production_below count (record { left = a; right = r }) ≡ true
  said_below a Empty h = let m = d.said.each_yes a h in and_from (nat_lt a.0 count) true (name_below m.0 a.0 m.1) refl
  said_below a (One s) h =
      let m = d.said.each_same a s h in
      and_from (nat_lt a.0 count) (symbol_below count s && true) (name_below m.0 a.0 m.4)
      (and_from (symbol_below count s) true (subst (λ z. symbol_below count z ≡ true) (sym m.3) (name_below m.1 m.2.0 m.5)) refl)
  said_below a (Two s t) h = absurd (d.said.no_two a s t h)

  pub draft_below : IsBelow draft
  draft_below = record {
    start = subst (λ z. draft.start < z) d.all (slice_get_within d.parts draft.start _ d.start);
    productions = all_from (production_below count) draft.lines.productions.items (λ p h.
        let w = d.written.each_production p.left p.right h in
        and_from (nat_lt p.left.0 count) (list_all (symbol_below count) (symbols_of p.right)) (number_below p.left.0 w.0 w.2) (right_is_below w.1 p.right w.4));
    rules = all_from (rule_below count) draft.lines.rules.items (λ r h.
        let w = d.written.each_rule r.left r.operand r.op h in
        and_from (nat_lt r.left.0 count) (nat_lt r.operand.0 count) (number_below r.left.0 w.0 w.2) (number_below r.operand.0 w.1 w.3));
    tokens = all_from production_without_token draft.lines.productions.items (λ p h. let w = d.written.each_production p.left p.right h in right_is_plain w.1 p.right w.4);
    said = all_from (production_below count) draft.said.items (λ p h. said_below p.left p.right h);
    waiting = λ x h. let w = d.waiting.each x h in subst (λ z. x.set < z) d.all (slice_get_within d.parts x.set _ (d.named w.0 x.set w.2.set));
  }

-- lines whose numbers are below their count, and which have no page token
pub record AreFine (lines : Lines) : Type 0 where
  pub productions : AreBelow lines.count lines.productions.items
  pub rules : RulesAreBelow lines.count lines.rules.items
  pub tokens : HaveNoToken lines.productions.items

-- a right side of such a production
abbrev IsFine : ℕ → Right → Type 0
IsFine count right = (list_all (symbol_below count) (symbols_of right) ≡ true) × (list_all is_no_token (symbols_of right) ≡ true)

-- so is a symbol
abbrev SymbolFine : ℕ → Symbol → Type 0
SymbolFine count s = (symbol_below count s ≡ true) × (is_no_token s ≡ true)

list_more : {X : Type 0} (f : X → Bool) (xs : List X) (x : X) → list_all f xs ≡ true → f x ≡ true → list_all f (xs ++ x ∷ []) ≡ true
list_more f xs x h e = list_all-append f xs (x ∷ []) ∙ and_from (list_all f xs) (f x && true) h (and_from (f x) true e refl)

rules_wider : (n m : ℕ) → n ≤ m → (rs : List OpRule) → list_all (rule_below n) rs ≡ true → list_all (rule_below m) rs ≡ true
rules_wider n m le [] h = refl
rules_wider n m le (r ∷ rs) h =
    let two = and_parts (rule_below n r) (list_all (rule_below n) rs) h in
    let one = and_parts (nat_lt r.left.0 n) (nat_lt r.operand.0 n) two.0 in
    let a = ltb-true r.left.0 n one.0 in
    let b = ltb-true r.operand.0 n one.1 in
    and_from (rule_below m r) (list_all (rule_below m) rs) (and_from (nat_lt r.left.0 m) (nat_lt r.operand.0 m) (lt-ltb r.left.0 m (omega (arith, a, le))) (lt-ltb r.operand.0 m (omega (arith, b, le)))) (rules_wider n m le rs two.1)

-- one production more, over more nonterminals
module _ (old new : Lines) (k : ℕ) (right : Right) (items : new.productions.items ≡ old.productions.items ++ (record { left = record { 0 = k }; right = right }) ∷ []) (rules : new.rules.items ≡ old.rules.items) (more : old.count ≤ new.count) (less : k < new.count) (fine : IsFine new.count right) (are : AreFine old) where
  one_more : AreFine new
  one_more = record {
    productions = subst (λ (ps : List Production). list_all (production_below new.count) ps ≡ true) (sym items)
        (list_more (production_below new.count) old.productions.items (record { left = record { 0 = k }; right = right }) (wider old.count new.count more old.productions.items are.productions)
        (and_from (nat_lt k new.count) (list_all (symbol_below new.count) (symbols_of right)) (lt-ltb k new.count less) fine.0));
    rules = subst (λ (rs : List OpRule). list_all (rule_below new.count) rs ≡ true) (sym rules) (rules_wider old.count new.count more old.rules.items are.rules);
    tokens = subst (λ (ps : List Production). list_all production_without_token ps ≡ true) (sym items)
        (list_more production_without_token old.productions.items (record { left = record { 0 = k }; right = right }) are.tokens fine.1);
  }

symbol_more : (n m : ℕ) → n ≤ m → (s : Symbol) → SymbolFine n s → SymbolFine m s
symbol_more n m le s h = (symbol_wider n m le s h.0, h.1)

byte_fine : (old new : Lines) (b : ℕ) (behind s : Symbol) → PutsByte old new b behind s → SymbolFine old.count behind → AreFine old → AreFine new × SymbolFine new.count s
byte_fine old new b behind s puts fine are =
    let c = puts.count in
    let le : old.count ≤ new.count = omega (arith, c) in
    let less : old.count < new.count = omega (arith, c) in
    let later = symbol_more old.count new.count le behind fine in (
      one_more old new old.count (Two (Range puts.byte) behind) puts.productions puts.rules le less (and_from (symbol_below new.count behind) true later.0 refl, and_from (is_no_token behind) true later.1 refl) are,
      subst (λ (z : Symbol). SymbolFine new.count z) (sym puts.symbol) (lt-ltb old.count new.count less, refl),
    )

bytes_fine : (old new : Lines) (w : List ℕ) (behind s : Symbol) → PutsBytes old new w behind s → SymbolFine old.count behind → AreFine old → AreFine new × SymbolFine new.count s × (old.count ≤ new.count)
bytes_fine _ _ _ _ _ (PutsBytes.none lines s) fine are = (are, fine, omega arith)
bytes_fine _ _ _ _ _ (PutsBytes.more old mid new b w behind s t puts last) fine are =
    let a = bytes_fine old mid w behind s puts fine are in
    let c = byte_fine mid new b s t last a.1 a.0 in
    let n = last.count in
    let l = a.2 in
    (c.0, c.1, omega (arith, n, l))

text_fine : (old new : Lines) (w : List ℕ) (s : Option Symbol) → PutsText old new w s → AreFine old → AreFine new × IsFine new.count (text_right s) × (old.count ≤ new.count)
text_fine _ _ _ _ (PutsText.nothing lines) are = (are, (refl, refl), omega arith)
text_fine _ _ _ _ (PutsText.something old new before b byte s is puts) are =
    let fine : SymbolFine old.count byte = subst (λ (z : Symbol). SymbolFine old.count z) (sym is.1) (refl, refl) in
    let a = bytes_fine old new before byte s puts fine are in
    (a.0, (and_from (symbol_below new.count s) true a.1.0 refl, and_from (is_no_token s) true a.1.1 refl), a.2)

writes_fine : (old new : Lines) (k : ℕ) (w : List ℕ) → WritesText old new k w → k < old.count → AreFine old → AreFine new × (old.count ≤ new.count)
writes_fine old new k w writes less are =
    let t = text_fine old writes.between w writes.symbol writes.puts are in
    let same = writes.adds.0 in
    let le = t.2 in (
      one_more writes.between new k (text_right writes.symbol) writes.adds.1 writes.adds.2 (omega (arith, same)) (omega (arith, same, le, less)) (subst (λ z. IsFine z (text_right writes.symbol)) (sym same) t.1) t.0,
      omega (arith, same, le),
    )

pub waiting_fine : (marks : List Bool) (old new : Lines) (xs : List Waiting) → WritesWaiting marks old new xs → ((x : Waiting) → Contains xs x → x.set < old.count) → AreFine old → AreFine new × (old.count ≤ new.count)
waiting_fine marks _ _ _ (WritesWaiting.none lines) below are = (are, omega arith)
waiting_fine marks _ _ _ (WritesWaiting.more old mid new xs x writes last) below are =
    let a = waiting_fine marks old mid xs writes (λ y h. below y (Contains-append_left xs (x ∷ []) y h)) are in
    let less = below x (Contains-append_right xs (x ∷ []) x (Contains-head x [])) in
    let le = a.1 in
    one mid new x last (omega (arith, less, le)) a.0 le
  where
    one : (mid new : Lines) (x : Waiting) → WritesWhere marks mid new x → x.set < mid.count → AreFine mid → old.count ≤ mid.count → AreFine new × (old.count ≤ new.count)
    one _ _ _ (WritesWhere.marked mid new x is writes) less fine le = let t = writes_fine mid new x.set x.text writes less fine in let more = t.1 in (t.0, omega (arith, le, more))
    one _ _ _ (WritesWhere.unmarked lines x is) less fine le = (fine, le)

-- a draft whose texts that wait are written
pub finished_fine : (d : Draft) → IsBelow d → (marks : List Bool) (new : Lines) → WritesWaiting marks d.lines new d.waiting.items → AreFine new × (d.start < new.count)
finished_fine d is marks new writes =
    let a = waiting_fine marks d.lines new d.waiting.items writes is.waiting (record { productions = is.productions; rules = is.rules; tokens = is.tokens }) in
    let less = is.start in
    let le = a.1 in
    (a.0, omega (arith, less, le))
