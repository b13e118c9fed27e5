-- Equality of symbols is exact.
use Rattle.std.specs.Prelude.{◌≡◌, ℕ, true, ◌&&◌, nat_eq}
use Rattle.std.proofs.Common.{ap, ◌∙◌}
use Rattle.grammar_chart.specs.Exactness.{exact_symbol}
use Rattle.std.specs.Cmp.{first_so, second_so}
use Rattle.std.proofs.lemmas.Map.Views.{exact_unsigned_eq}
use Rattle.text_base.specs.declared.numbers.Nt as nt
use Rattle.text_base.specs.contracts.byte_range.ByteRangePartialEq.TheImpl as ranges
use Rattle.text_base.specs.contracts.page_token.PageTokenPartialEq.TheImpl as tokens
use Rattle.text_base.specs.contracts.numbers.NtPartialEq.TheImpl as nts
use Rattle.cfg_grammar.specs.declared.symbol.Symbol.{Symbol}
use Rattle.chart_grammar.specs.declared.fronts.Front.{Front}
use Rattle.cfg_grammar.specs.contracts.symbol.SymbolPartialEq.TheImpl as symbols

-- fronts of the same number before them and the same last symbol are one
pub exact_front : (a b : Front) → (nat_eq a.before b.before && (symbols.ghosts).eq a.last b.last) ≡ true → a ≡ b
exact_front a b h =
    let e : a.before ≡ b.before = exact_unsigned_eq a.before b.before (first_so (nat_eq a.before b.before)
    ((symbols.ghosts).eq a.last b.last) h) in
    let f : a.last ≡ b.last = exact_symbol a.last b.last (second_so (nat_eq a.before b.before) ((symbols.ghosts).eq a.last b.last) h) in
    ap (λ (n : ℕ). let y : Front = record { before = n; last = a.last } in y) e ∙ ap
    (λ (x : Symbol). let y : Front = record { before = b.before; last = x } in y) f
