-- The check of tables for the place of an error: whatever is on the stack behind a token can be completed to a sentence.
use Rattle.std.specs.Prelude.{ℕ, zero, suc, Bool, true, false, ◌&&◌, ◌||◌, List, [], ◌∷◌, ◌++◌, Option, Some, None, slice_get, slice_index_or, nat_lt, nat_le, nat_eq, if◌then◌else◌}
use Rattle.lr_tables.specs.declared.step.Step.{Step}
use Rattle.lr_tables.specs.declared.step.Step.TheVariants.{Fail, Go, Reduce, Accept}
use Rattle.lr_tables.specs.Machine.{Tables}
use Rattle.lr_tables.specs.Certificates.{State, no_state, Certificate, not_true, sides, side_at, behind}
use Rattle.lr_tables.specs.Checks.{tables_ok}

-- every rule stands before this token, since its power to the left is 0
abbrev pub is_free : List ℕ → ℕ → Bool
is_free lefts k = nat_eq (slice_index_or lefts k 0) 0

-- the tokens begin with such a one, or there are none
abbrev pub begins_free : List ℕ → List ℕ → Bool
begins_free lefts [] = true
begins_free lefts (k ∷ ks) = is_free lefts k

-- the tokens, if there are some, and these behind them
abbrev pub joined : Option (List ℕ) → List ℕ → Option (List ℕ)
joined None ks = None
joined (Some js) ks = Some (js ++ ks)

-- there are some tokens
abbrev pub is_some : Option (List ℕ) → Bool
is_some None = false
is_some (Some ks) = true

-- the sample of a nonterminal, if it has one
abbrev pub sample_of : List (ℕ × ℕ × List ℕ) → ℕ → Option (List ℕ)
sample_of [] x = None
sample_of (m ∷ samples) x = if nat_eq m.0 x then Some m.2 else sample_of samples x

module _ (terminals : ℕ) (lefts : List ℕ) where
  -- tokens of a symbol before these: a token is its own sample, and a nonterminal has one where a free token follows
  abbrev pub one_sampled : List (ℕ × ℕ × List ℕ) → ℕ → Option (List ℕ) → Option (List ℕ)
  one_sampled samples x None = None
  one_sampled samples x (Some ks) = if nat_lt x terminals then Some (x ∷ ks) else (if begins_free lefts ks then joined (sample_of samples x) ks else None)

  -- tokens that the symbols derive where a free token follows
  abbrev pub sampled : List (ℕ × ℕ × List ℕ) → List ℕ → Option (List ℕ)
  sampled samples [] = Some []
  sampled samples (x ∷ xs) = one_sampled samples x (sampled samples xs)

-- both are one list
abbrev pub same_list : List ℕ → List ℕ → Bool
same_list [] [] = true
same_list [] (y ∷ ys) = false
same_list (x ∷ xs) [] = false
same_list (x ∷ xs) (y ∷ ys) = nat_eq x y && same_list xs ys

-- the first are there, and are these
abbrev pub is_sampled : Option (List ℕ) → List ℕ → Bool
is_sampled None ks = false
is_sampled (Some js) ks = same_list js ks

-- the rule stands behind every symbol
abbrev pub stands_behind_all : List ℕ → ℕ → Bool
stands_behind_all [] at = true
stands_behind_all (power ∷ rights) at = nat_le power at && stands_behind_all rights at

-- a rule of the nonterminal derives the tokens of its sample
abbrev pub is_sample : ℕ → List ℕ → List ℕ → List (ℕ × ℕ × List ℕ) → ℕ × ℕ × List ℕ → Option (ℕ × List ℕ × ℕ × ℕ) → Bool
is_sample terminals lefts rights samples m None = false
is_sample terminals lefts rights samples m (Some r) = nat_eq r.0 m.0 && (is_sampled (sampled terminals lefts samples r.1) m.2 && stands_behind_all rights r.3)

-- the same of each sample, by those behind it in the list
abbrev pub are_samples : ℕ → List ℕ → List ℕ → List (ℕ × List ℕ × ℕ × ℕ) → List (ℕ × ℕ × List ℕ) → Bool
are_samples terminals lefts rights rules [] = true
are_samples terminals lefts rights rules (m ∷ samples) = is_sample terminals lefts rights samples m (slice_get rules m.1) && are_samples terminals lefts rights rules samples

-- the nonterminal is among those that begin
abbrev pub is_begun : List (ℕ × ℕ × ℕ × ℕ) → ℕ → Bool
is_begun [] x = false
is_begun (c ∷ closed) x = nat_eq c.0 x || is_begun closed x

-- the item is in the kernel
abbrev pub is_item : List (ℕ × ℕ × ℕ) → ℕ → ℕ → Bool
is_item [] p d = false
is_item (i ∷ items) p d = (nat_eq i.0 p && nat_eq i.1 d) || is_item items p d

-- the kernel has no item
abbrev pub has_none : List (ℕ × ℕ × ℕ) → Bool
has_none [] = true
has_none (i ∷ items) = false

-- the symbols begin with this one
abbrev pub starts_with : List ℕ → ℕ → Bool
starts_with [] x = false
starts_with (y ∷ ys) x = nat_eq y x

-- the rule's left side is among those that begin, and the rule stands behind what led here
abbrev pub may_begin : List ℕ → ℕ → List (ℕ × ℕ × ℕ × ℕ) → Option (ℕ × List ℕ × ℕ × ℕ) → Bool
may_begin rights prev closed None = false
may_begin rights prev closed (Some r) = is_begun closed r.0 && not_true (nat_lt r.3 (slice_index_or rights prev 0))

-- there are some tokens, which begin with a free one or are none
abbrev pub may_begin_free : List ℕ → Option (List ℕ) → Bool
may_begin_free lefts None = false
may_begin_free lefts (Some ks) = begins_free lefts ks

module _ (terminals : ℕ) (lefts rights : List ℕ) (rules : List (ℕ × List ℕ × ℕ × ℕ)) (samples : List (ℕ × ℕ × List ℕ)) where
  -- the item stands in a state: a rule at its beginning, or one of the kernel
  abbrev pub is_known : ℕ → List (ℕ × ℕ × ℕ) → List (ℕ × ℕ × ℕ × ℕ) → ℕ → ℕ → Bool
  is_known prev kernel closed p zero = may_begin rights prev closed (slice_get rules p)
  is_known prev kernel closed p (suc d) = is_item kernel p (suc d)

  -- what is behind the first of these symbols can be made to begin with a free token, or to be empty
  abbrev pub frees : ℕ → List ℕ → Bool
  frees x [] = false
  frees x (y ∷ ys) = nat_eq y x && may_begin_free lefts (sampled terminals lefts samples ys)

  -- the nonterminal stands at a place of an item, and a free token may follow; or it is the start
  abbrev pub is_opened : Bool → ℕ → ℕ → List (ℕ × ℕ × ℕ) → List (ℕ × ℕ × ℕ × ℕ) → ℕ × ℕ × ℕ × ℕ → Bool
  is_opened first start prev kernel closed c = (first && nat_eq c.0 start) || (is_known prev kernel closed c.2 c.3 && frees c.0 (behind c.3 (side_at rules c.2)))

  abbrev pub are_opened : Bool → ℕ → ℕ → List (ℕ × ℕ × ℕ) → List (ℕ × ℕ × ℕ × ℕ) → Bool
  are_opened first start prev kernel [] = true
  are_opened first start prev kernel (c ∷ closed) = is_opened first start prev kernel closed c && are_opened first start prev kernel closed

  -- each item of the kernel is behind the symbol that leads to the state
  abbrev pub is_led : ℕ → ℕ → ℕ → Bool
  is_led x p zero = false
  is_led x p (suc d) = starts_with (behind d (side_at rules p)) x

  abbrev pub are_led : ℕ → List (ℕ × ℕ × ℕ) → Bool
  are_led x [] = true
  are_led x (i ∷ items) = is_led x i.0 i.1 && are_led x items

  -- what is left of the first item can be completed
  abbrev pub is_completed : List (ℕ × ℕ × ℕ) → Bool
  is_completed [] = false
  is_completed (i ∷ items) = is_some (sampled terminals lefts samples (behind i.1 (side_at rules i.0)))

  -- behind a token there is an item that can be completed
  abbrev pub state_front : Bool → ℕ → ℕ → State → Bool
  state_front first start x state = are_opened first start x state.kernel state.closed
      && (are_led x state.kernel && (first || (not_true (nat_lt x terminals) || is_completed state.kernel)))

  abbrev pub states_front : Bool → ℕ → List ℕ → List State → Bool
  states_front first start accesses [] = true
  states_front first start accesses (state ∷ states) = state_front first start (slice_index_or accesses 0 0) state && states_front false start (behind 1 accesses) states

  -- each item of a kernel is, one symbol before, in the state that leads there
  abbrev pub is_entered : ℕ → List (ℕ × ℕ × ℕ) → List (ℕ × ℕ × ℕ × ℕ) → ℕ → ℕ → Bool
  is_entered prev kernel closed p zero = false
  is_entered prev kernel closed p (suc d) = is_known prev kernel closed p d

  abbrev pub are_entered : ℕ → List (ℕ × ℕ × ℕ) → List (ℕ × ℕ × ℕ × ℕ) → List (ℕ × ℕ × ℕ) → Bool
  are_entered prev kernel closed [] = true
  are_entered prev kernel closed (i ∷ items) = is_entered prev kernel closed i.0 i.1 && are_entered prev kernel closed items

  -- no step is at the end of the input, and each leads to a state whose items come from here, and which has some behind a token
  abbrev pub step_enters : List State → ℕ → State → ℕ → Step → Bool
  step_enters states prev state x Fail = true
  step_enters states prev state x (Go s) = not_true (nat_eq x 0)
      && ((if nat_lt x terminals then not_true (has_none (slice_index_or states s no_state).kernel) else true)
      && are_entered prev state.kernel state.closed (slice_index_or states s no_state).kernel)
  step_enters states prev state x (Reduce p) = true
  step_enters states prev state x Accept = true

  abbrev pub row_enters : List State → ℕ → State → ℕ → List Step → Bool
  row_enters states prev state x [] = true
  row_enters states prev state x (e ∷ row) = step_enters states prev state x e && row_enters states prev state (suc x) row

  abbrev pub rows_enter : List State → List ℕ → List State → List (List Step) → Bool
  rows_enter all accesses states [] = true
  rows_enter all accesses [] (row ∷ rows) = false
  rows_enter all accesses (state ∷ states) (row ∷ rows) = row_enters all (slice_index_or accesses 0 0) state 0 row && rows_enter all (behind 1 accesses) states rows

-- what the place of an error asks for
abbrev pub fronts_ok : Tables → List (ℕ × ℕ × List ℕ) → List State → Bool
fronts_ok t samples states = is_free t.grammar.lefts 0
    && (is_some (sample_of samples t.grammar.start)
    && (has_none (slice_index_or states 0 no_state).kernel
    && (are_samples t.grammar.terminals t.grammar.lefts t.grammar.rights (sides t.grammar.rules) samples
    && (states_front t.grammar.terminals t.grammar.lefts t.grammar.rights (sides t.grammar.rules) samples true t.grammar.start t.accesses states
    && rows_enter t.grammar.terminals t.grammar.lefts t.grammar.rights (sides t.grammar.rules) samples states t.accesses states t.rows))))

-- all of it
abbrev pub is_certified : Tables → Certificate → Bool
is_certified t c = tables_ok t c.most c.facts c.states && fronts_ok t c.samples c.states
