-- Equality of symbols is exact.
use Rattle.std.specs.Prelude.{◌≡◌, ℕ, true, ◌&&◌, nat_eq}
use Rattle.std.proofs.Common.{rules, ap, ◌∙◌, subst, ◌≤◌}
use Rattle.std.proofs.Math.Bridge.{le_prop}
use Rattle.std.specs.Cmp.{first_so, second_so}
use Rattle.std.proofs.lemmas.Map.Views.{exact_unsigned_eq}
use Rattle.text_base.specs.Exactness.{IsExact}
use Rattle.text_base.specs.declared.byte_range.ByteRange.{ByteRange}
use Rattle.text_base.specs.declared.page_token.PageToken.{PageToken}
use Rattle.text_base.specs.declared.numbers.Nt as nt
use Rattle.text_base.specs.contracts.byte_range.ByteRangePartialEq.TheImpl as ranges
use Rattle.text_base.specs.contracts.page_token.PageTokenPartialEq.TheImpl as tokens
use Rattle.text_base.specs.contracts.numbers.NtPartialEq.TheImpl as nts
use Rattle.cfg_grammar.specs.declared.symbol.Symbol.{Symbol}
use Rattle.cfg_grammar.specs.declared.symbol.Symbol.TheVariants.{Range, Token, Nt}
use Rattle.grammar_chart.specs.declared.keys.Entry.{Entry}
use Rattle.grammar_chart.specs.declared.keys.Passage.{Passage}
use Rattle.cfg_grammar.specs.contracts.symbol.SymbolPartialEq.TheImpl as symbols

same_range : (lo hi a b : ℕ) (o : lo ≤ hi) → lo ≡ a → hi ≡ b → (p : a ≤ b)
    → ◌≡◌ {A = ByteRange} (record { lo = lo; hi = hi; ordered = o }) (record { lo = a; hi = b; ordered = p })
same_range lo hi a b o e f =
    subst (λ (x : ℕ). (p : x ≤ b) → ◌≡◌ {A = ByteRange} (record { lo = lo; hi = hi; ordered = o })
    (record { lo = x; hi = b; ordered = p })) e
    (subst (λ (y : ℕ). (p : lo ≤ y)
    → ◌≡◌ {A = ByteRange} (record { lo = lo; hi = hi; ordered = o }) (record { lo = lo; hi = y; ordered = p })) f
    (λ p. ap (λ (q : lo ≤ hi). let r : ByteRange = record { lo = lo; hi = hi; ordered = q } in r) (le_prop o p)))

exact_range : (r q : ByteRange) → (ranges.ghosts).eq r q ≡ true → r ≡ q
exact_range r q h =
    let t : (nat_eq r.lo q.lo && nat_eq r.hi q.hi) ≡ true = h in
    same_range r.lo r.hi q.lo q.hi r.ordered (exact_unsigned_eq r.lo q.lo (first_so (nat_eq r.lo q.lo) (nat_eq r.hi q.hi) t))
    (exact_unsigned_eq r.hi q.hi (second_so (nat_eq r.lo q.lo) (nat_eq r.hi q.hi) t)) q.ordered

exact_token : IsExact (tokens.ghosts).eq
exact_token = search rules

exact_nt : IsExact (nts.ghosts).eq
exact_nt = search rules

-- symbols that are found equal are one
pub exact_symbol : (a b : Symbol) → (symbols.ghosts).eq a b ≡ true → a ≡ b
exact_symbol (Range r) (Range q) h = ap (λ (x : ByteRange). Range x) (exact_range r q h)
exact_symbol (Range r) (Token q) h = cc
exact_symbol (Range r) (Nt q) h = cc
exact_symbol (Token r) (Range q) h = cc
exact_symbol (Token r) (Token q) h = ap (λ (x : PageToken). Token x) (exact_token r q h)
exact_symbol (Token r) (Nt q) h = cc
exact_symbol (Nt r) (Range q) h = cc
exact_symbol (Nt r) (Token q) h = cc
exact_symbol (Nt r) (Nt q) h = ap (λ (x : nt.Nt). Nt x) (exact_nt r q h)

-- entries with the same symbol and the same state are one
pub exact_entry : (a b : Entry) → ((symbols.ghosts).eq a.symbol b.symbol && nat_eq a.state b.state) ≡ true → a ≡ b
exact_entry a b h =
    let e : a.symbol ≡ b.symbol = exact_symbol a.symbol b.symbol (first_so ((symbols.ghosts).eq a.symbol b.symbol)
    (nat_eq a.state b.state) h) in
    let f : a.state ≡ b.state = exact_unsigned_eq a.state b.state (second_so ((symbols.ghosts).eq a.symbol b.symbol)
    (nat_eq a.state b.state) h) in
    ap (λ (x : Symbol). let y : Entry = record { symbol = x; state = a.state } in y) e ∙ ap
    (λ (n : ℕ). let y : Entry = record { symbol = b.symbol; state = n } in y) f

-- passages of the same symbol from and to the same states are one
pub exact_passage : (a b : Passage) → ((symbols.ghosts).eq a.symbol b.symbol && (nat_eq a.from b.from && nat_eq a.to b.to)) ≡ true → a ≡ b
exact_passage a b h =
    let rest = second_so ((symbols.ghosts).eq a.symbol b.symbol) (nat_eq a.from b.from && nat_eq a.to b.to) h in
    let e : a.symbol ≡ b.symbol = exact_symbol a.symbol b.symbol (first_so ((symbols.ghosts).eq a.symbol b.symbol)
    (nat_eq a.from b.from && nat_eq a.to b.to) h) in
    let f : a.from ≡ b.from = exact_unsigned_eq a.from b.from (first_so (nat_eq a.from b.from) (nat_eq a.to b.to) rest) in
    let g : a.to ≡ b.to = exact_unsigned_eq a.to b.to (second_so (nat_eq a.from b.from) (nat_eq a.to b.to) rest) in
    ap (λ (x : Symbol). let y : Passage = record { symbol = x; from = a.from; to = a.to } in y) e
    ∙ (ap (λ (n : ℕ). let y : Passage = record { symbol = b.symbol; from = n; to = a.to } in y) f
    ∙ ap (λ (n : ℕ). let y : Passage = record { symbol = b.symbol; from = b.from; to = n } in y) g)
