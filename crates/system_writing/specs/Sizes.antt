-- How many nonterminals, and how many productions and rules, a draft has, with those of the texts that wait.
use Rattle.std.specs.Prelude.{ℕ, ◌+◌, List, length}
use Rattle.std.specs.List.{sum_by}
use Rattle.system_writing.specs.declared.waiting.Waiting.{Waiting}
use Rattle.system_writing.specs.declared.drafts.Draft.{Draft}

-- how many bytes wait
abbrev pub waiting_bytes : List Waiting → ℕ
waiting_bytes xs = sum_by (λ (x : Waiting). length x.text) xs

-- nonterminals: at most one for each byte that waits
abbrev pub numbers_due : Draft → ℕ
numbers_due d = d.lines.count + waiting_bytes d.waiting.items

-- productions and rules: at most one for each byte that waits, and one for each text
abbrev pub lines_due : Draft → ℕ
lines_due d = length d.lines.productions.items + length d.lines.rules.items + length d.waiting.items + waiting_bytes d.waiting.items
