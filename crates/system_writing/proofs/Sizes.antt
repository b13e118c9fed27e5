-- How much is written.
use Rattle.std.proofs.Common.{◌≡◌, ◌≤◌, ℕ, ◌+◌, List, [], ◌∷◌, ◌++◌, length, ◌∙◌, ap, arith, length-append}
use Rattle.std.proofs.lemmas.List.Sums.{sum_by_push}
use Rattle.cfg_grammar.specs.declared.symbol.Symbol.{Symbol}
use Rattle.cfg_grammar.specs.declared.production.Right.{Right}
use Rattle.cfg_grammar.specs.declared.production.Production.{Production}
use Rattle.op_system.specs.declared.op.Op.{Op}
use Rattle.op_system.specs.declared.system.OpRule.{OpRule}
use Rattle.op_system.specs.declared.system.OpSystem.{OpSystem}
use Rattle.least_sets.specs.Forms.{Form, text_form, same_form, join_form, before_form, request_form, integer_form, apply_form, yes_form, where_form}
use Rattle.system_writing.specs.declared.lines.Lines.{Lines}
use Rattle.system_writing.specs.declared.waiting.Waiting.{Waiting}
use Rattle.system_writing.specs.declared.drafts.Draft.{Draft}
use Rattle.system_writing.specs.Forms.{text_bytes}
use Rattle.system_writing.specs.Steps.{AddsProduction, AddsRule, PutsByte, PutsBytes, PutsText, WritesText, WritesBefore, Writes, WritesWhere, WritesWaiting, AddsSet, AddsStart, Finishes}
use Rattle.system_writing.specs.Sizes.{waiting_bytes, numbers_due, lines_due}

-- so many nonterminals, and so many productions and rules more at most
record Grows (old new : Lines) (n m : ℕ) : Type 0 where
  count : new.count ≤ old.count + n
  lines : length new.productions.items + length new.rules.items ≤ length old.productions.items + length old.rules.items + m

one_production : (old new : Lines) (k : ℕ) (right : Right) → AddsProduction old new k right → Grows old new 0 1
one_production old new k right adds =
    let a = adds.0 in
    let b : length new.productions.items ≡ length old.productions.items + 1 = ap (λ (ps : List Production). length ps) adds.1 ∙ length-append old.productions.items _ in
    let c : length new.rules.items ≡ length old.rules.items = ap (λ (rs : List OpRule). length rs) adds.2 in
    record { count = omega (arith, a); lines = omega (arith, b, c) }

one_rule : (old new : Lines) (k : ℕ) (op : Op) (j : ℕ) → AddsRule old new k op j → Grows old new 0 1
one_rule old new k op j adds =
    let a = adds.0 in
    let b : length new.productions.items ≡ length old.productions.items = ap (λ (ps : List Production). length ps) adds.1 in
    let c : length new.rules.items ≡ length old.rules.items + 1 = ap (λ (rs : List OpRule). length rs) adds.2 ∙ length-append old.rules.items _ in
    record { count = omega (arith, a); lines = omega (arith, b, c) }

one_byte : (old new : Lines) (b : ℕ) (behind s : Symbol) → PutsByte old new b behind s → Grows old new 1 1
one_byte old new b behind s puts =
    let a = puts.count in
    let p : length new.productions.items ≡ length old.productions.items + 1 = ap (λ (ps : List Production). length ps) puts.productions ∙ length-append old.productions.items _ in
    let c : length new.rules.items ≡ length old.rules.items = ap (λ (rs : List OpRule). length rs) puts.rules in
    record { count = omega (arith, a); lines = omega (arith, p, c) }

bytes_grow : (old new : Lines) (w : List ℕ) (behind s : Symbol) → PutsBytes old new w behind s → Grows old new (length w) (length w)
bytes_grow _ _ _ _ _ (PutsBytes.none lines s) = record { count = omega arith; lines = omega arith }
bytes_grow _ _ _ _ _ (PutsBytes.more old mid new b w behind s t puts last) =
    let a = bytes_grow old mid w behind s puts in
    let c = one_byte mid new b s t last in
    let a1 = a.count in
    let a2 = a.lines in
    let c1 = c.count in
    let c2 = c.lines in
    record { count = omega (arith, a1, c1); lines = omega (arith, a2, c2) }

text_grows : (old new : Lines) (w : List ℕ) (s : _) → PutsText old new w s → Grows old new (length w) (length w)
text_grows _ _ _ _ (PutsText.nothing lines) = record { count = omega arith; lines = omega arith }
text_grows _ _ _ _ (PutsText.something old new before b byte s is puts) =
    let a = bytes_grow old new before byte s puts in
    let a1 = a.count in
    let a2 = a.lines in
    let l = length-append before (b ∷ []) in
    record { count = omega (arith, a1, l); lines = omega (arith, a2, l) }

pub written_text : (old new : Lines) (k : ℕ) (w : List ℕ) → WritesText old new k w → (new.count ≤ old.count + length w)
    × (length new.productions.items + length new.rules.items ≤ length old.productions.items + length old.rules.items + (length w + 1))
written_text old new k w writes =
    let a = text_grows old writes.between w writes.symbol writes.puts in
    let c = one_production writes.between new k _ writes.adds in
    let a1 = a.count in
    let a2 = a.lines in
    let c1 = c.count in
    let c2 = c.lines in
    (omega (arith, a1, c1), omega (arith, a2, c2))

before_grows : (old new : Lines) (k : ℕ) (w : List ℕ) (j : ℕ) → WritesBefore old new k w j → Grows old new (length w) (length w + 1)
before_grows old new k w j writes =
    let a = text_grows old writes.between w writes.symbol writes.puts in
    let c = one_production writes.between new k _ writes.adds in
    let a1 = a.count in
    let a2 = a.lines in
    let c1 = c.count in
    let c2 = c.lines in
    record { count = omega (arith, a1, c1); lines = omega (arith, a2, c2) }

-- a row: at most so many nonterminals as its text has bytes, and one line more
abbrev pub IsSmall : Draft → Draft → ℕ → Type 0
IsSmall old new bytes = (numbers_due new ≤ numbers_due old + bytes) × (lines_due new ≤ lines_due old + bytes + 1)

beside : (old new : Draft) (n m : ℕ) → Grows old.lines new.lines n m → new.waiting.items ≡ old.waiting.items → n ≤ m → m ≤ n + 1 → IsSmall old new n
beside old new n m grows same less most =
    let a = grows.count in
    let b = grows.lines in
    let c : length new.waiting.items ≡ length old.waiting.items = ap (λ (xs : List Waiting). length xs) same in
    let d : waiting_bytes new.waiting.items ≡ waiting_bytes old.waiting.items = ap waiting_bytes same in
    (omega (arith, a, d), omega (arith, b, c, d, most))

pub row_small : (old new : Draft) (k : ℕ) (g : Form ℕ) → Writes old new k g → IsSmall old new (text_bytes g)
row_small old new k (text_form w) writes =
    let t = written_text old.lines new.lines k w writes.0 in
    beside old new (length w) (length w + 1) (record { count = t.0; lines = t.1 }) writes.1.1 (omega arith) (omega arith)
row_small old new k (same_form a) writes = beside old new 0 1 (one_production old.lines new.lines k _ writes.0) writes.1.1 (omega arith) (omega arith)
row_small old new k (join_form a b) writes = beside old new 0 1 (one_production old.lines new.lines k _ writes.0) writes.1.1 (omega arith) (omega arith)
row_small old new k (before_form w a) writes = beside old new (length w) (length w + 1) (before_grows old.lines new.lines k w a writes.0) writes.1.1 (omega arith) (omega arith)
row_small old new k request_form writes = beside old new 0 1 (one_production old.lines new.lines k _ writes.0) writes.1.1 (omega arith) (omega arith)
row_small old new k integer_form writes = beside old new 0 1 (one_production old.lines new.lines k _ writes.0) writes.1.1 (omega arith) (omega arith)
row_small old new k (apply_form op a) writes = beside old new 0 1 (one_rule old.lines new.lines k op a writes.0) writes.1.1 (omega arith) (omega arith)
row_small old new k yes_form writes =
    let a = writes.0.0 in
    let b : length new.lines.productions.items ≡ length old.lines.productions.items = ap (λ (ps : List Production). length ps) writes.0.1 in
    let c : length new.lines.rules.items ≡ length old.lines.rules.items = ap (λ (rs : List OpRule). length rs) writes.0.2 in
    beside old new 0 0 (record { count = omega (arith, a); lines = omega (arith, b, c) }) writes.1.1 (omega arith) (omega arith)
row_small old new k (where_form w j) writes =
    let a = writes.0.0 in
    let b : length new.lines.productions.items ≡ length old.lines.productions.items = ap (λ (ps : List Production). length ps) writes.0.1 in
    let c : length new.lines.rules.items ≡ length old.lines.rules.items = ap (λ (rs : List OpRule). length rs) writes.0.2 in
    let x : Waiting = record { set = k; text = w; other = j } in
    let d : length new.waiting.items ≡ length old.waiting.items + 1 = ap (λ (xs : List Waiting). length xs) writes.1.0 ∙ length-append old.waiting.items _ in
    let e : waiting_bytes new.waiting.items ≡ waiting_bytes old.waiting.items + length w = ap waiting_bytes writes.1.0 ∙ sum_by_push (λ (x : Waiting). length x.text) old.waiting.items x in
    (omega (arith, a, e), omega (arith, b, c, d, e))

-- one set more
pub set_small : (old new : Draft) (k : ℕ) → AddsSet old new k → (numbers_due new ≡ numbers_due old + 1) × (lines_due new ≡ lines_due old)
set_small old new k adds =
    let a = adds.count in
    let b : length new.lines.productions.items ≡ length old.lines.productions.items = ap (λ (ps : List Production). length ps) adds.productions in
    let c : length new.lines.rules.items ≡ length old.lines.rules.items = ap (λ (rs : List OpRule). length rs) adds.rules in
    let d : length new.waiting.items ≡ length old.waiting.items = ap (λ (xs : List Waiting). length xs) adds.beside.1 in
    let e : waiting_bytes new.waiting.items ≡ waiting_bytes old.waiting.items = ap waiting_bytes adds.beside.1 in
    (omega (arith, a, e), omega (arith, b, c, d, e))

-- one more to begin with
pub start_small : (old new : Draft) (k : ℕ) → AddsStart old new k → IsSmall old new 0
start_small old new k adds = beside old new 0 1 (one_production old.lines new.lines old.start _ adds.0) adds.1.1 (omega arith) (omega arith)

-- all texts that waited
waiting_grow : (marks : _) (old new : Lines) (xs : List Waiting) → WritesWaiting marks old new xs → Grows old new (waiting_bytes xs) (length xs + waiting_bytes xs)
waiting_grow marks _ _ _ (WritesWaiting.none lines) = record { count = omega arith; lines = omega arith }
waiting_grow marks _ _ _ (WritesWaiting.more old mid new xs x writes last) =
    let a = waiting_grow marks old mid xs writes in
    let b = one mid new x last in
    let a1 = a.count in
    let a2 = a.lines in
    let b1 = b.count in
    let b2 = b.lines in
    let c = length-append xs (x ∷ []) in
    let d : waiting_bytes (xs ++ x ∷ []) ≡ waiting_bytes xs + length x.text = sum_by_push (λ (y : Waiting). length y.text) xs x in
    record { count = omega (arith, a1, b1, d); lines = omega (arith, a2, b2, c, d) }
  where
    one : (mid new : Lines) (x : Waiting) → WritesWhere marks mid new x → Grows mid new (length x.text) (length x.text + 1)
    one _ _ _ (WritesWhere.marked mid new x is writes) = let t = written_text mid new x.set x.text writes in record { count = t.0; lines = t.1 }
    one _ _ _ (WritesWhere.unmarked lines x is) = record { count = omega arith; lines = omega arith }

pub finished_small : (d : Draft) (s : OpSystem) → Finishes d s → (s.grammar.count ≤ numbers_due d) × (length s.grammar.productions.items + length s.ops.items ≤ lines_due d)
finished_small d s is =
    let g = waiting_grow is.marks d.lines is.lines d.waiting.items is.written in
    let a = g.count in
    let b = g.lines in
    let c = is.count in
    let p : length s.grammar.productions.items ≡ length is.lines.productions.items = ap (λ (ps : List Production). length ps) is.productions in
    let r : length s.ops.items ≡ length is.lines.rules.items = ap (λ (rs : List OpRule). length rs) is.rules in
    (omega (arith, a, c), omega (arith, b, p, r))
