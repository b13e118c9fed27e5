-- Edges that are added.
use Rattle.std.proofs.Common.{◌≡◌, ◌<◌, ◌≤◌, ◌+◌, ◌⊎◌, ◌↔◌, ℕ, Bool, true, false, zero, suc, List, [], ◌∷◌, ◌++◌, length, set, get_or, Some, slice_get, Contains, inl, inr, refl, sym, ◌∙◌, ap, subst, arith}
use Rattle.std.specs.List.{All, list_all}
use Rattle.smallvec.specs.SmallVec.{SmallVec}
use Rattle.std.proofs.lemmas.Bool.{cases_eq, ltb-true}
use Rattle.std.specs.Prelude.{nat_lt, ◌&&◌}
use Rattle.std.proofs.lemmas.List.Elements.{Contains-push_cases, Contains-append_left, Contains-push, All-contains}
use Rattle.std.proofs.lemmas.Option.{slice_get_read, slice_get_within, slice_get-get_or, get_or_from_slice_get, same_Some}
use Rattle.text_base.specs.declared.numbers.Nt as nt
use Rattle.strong_components.specs.Edges.{HasEdge, AreWithin}
use Rattle.numbered_sets.proofs.PlaceLemmas.{slice_get-set_other, slice_get-set_same}
use Rattle.cfg_grammar.specs.declared.symbol.Symbol.{Symbol}
use Rattle.cfg_grammar.specs.declared.symbol.Symbol.TheVariants.{Range, Token, Nt}
use Rattle.cfg_grammar.specs.declared.production.Right.{Right}
use Rattle.cfg_grammar.specs.declared.production.Right.TheVariants.{Empty, One, Two}
use Rattle.cfg_grammar.specs.declared.production.Production.{Production}
use Rattle.cfg_grammar.specs.Below.{symbols_of, symbol_below, production_below}
use Rattle.op_system.specs.declared.system.OpRule.{OpRule}
use Rattle.op_system.specs.Rules.{rule_below}
use Rattle.op_bytes.specs.Steps.{AddsEdges, IsFirstStep, IsFirstRule, IsStep}

pub placed : {X : Type 0} (xs : List X) (x : X) → Contains xs x → (n : ℕ) × (slice_get xs n ≡ Some x)
placed xs x c = (c.0, slice_get-get_or xs c.0 x c.1 ∙ ap Some c.2)

pub contained : {X : Type 0} (xs : List X) (n : ℕ) (x : X) → slice_get xs n ≡ Some x → Contains xs x
contained xs n x e = (n, slice_get_within xs n x e, get_or_from_slice_get xs n x x e)

none_in : {X : Type 0} {A : Type 0} (x : X) → Contains [] x → A
none_in x c = absurd (omega (arith, c.1))

pub adds_none : (edges : List (SmallVec ℕ)) (P : ℕ → ℕ → Type 0) → ((a b : ℕ) → P a b → ⊥) → AddsEdges edges edges P
adds_none edges P never a b = (λ e. inl e, λ e. elim e [ inl old ↦ old | inr new ↦ absurd (never a b new) ])

pub adds_two : (old mid new : List (SmallVec ℕ)) (P Q R : ℕ → ℕ → Type 0) → ((a b : ℕ) → R a b ↔ (P a b ⊎ Q a b)) → AddsEdges old mid P → AddsEdges mid new Q → AddsEdges old new R
adds_two old mid new P Q R is p q a b = (
  λ e. elim ((q a b).0 e) [ inl m ↦ elim ((p a b).0 m) [ inl o ↦ inl o | inr x ↦ inr ((is a b).1 (inl x)) ] | inr x ↦ inr ((is a b).1 (inr x)) ],
  λ e. elim e [ inl o ↦ (q a b).1 (inl ((p a b).1 (inl o))) | inr x ↦ elim ((is a b).0 x) [ inl y ↦ (q a b).1 (inl ((p a b).1 (inr y))) | inr y ↦ (q a b).1 (inr y) ] ],
)

-- an edge is put behind those of its node
pub adds_edge : (old : List (SmallVec ℕ)) (from to : ℕ) (was now : SmallVec ℕ) → from < length old → was ≡ get_or old from was → now.items ≡ was.items ++ to ∷ [] → AddsEdges old (set old from now) (λ a b. (a ≡ from) × (b ≡ to))
adds_edge old from to was now lt is e a b = elim (cases_eq a from) [
  | inl same ↦ (
    λ h.
        let own : h.targets ≡ now = same_Some h.targets now (sym h.are ∙ (ap (slice_get (set old from now)) same ∙ slice_get-set_same old from now lt)) in
        elim (Contains-push_cases was.items to b (subst (λ (xs : List ℕ). Contains xs b) (ap (λ (v : SmallVec ℕ). v.items) own ∙ e) h.among)) [
          | inl before ↦ inl (record { targets = was; are = ap (slice_get old) same ∙ here; among = before })
          | inr new ↦ inr (same, sym new)
        ],
    λ h. subst (λ (x : ℕ). HasEdge (set old from now) x b) (sym same) (record {
      targets = now;
      are = slice_get-set_same old from now lt;
      among = subst (λ (xs : List ℕ). Contains xs b) (sym e) (elim h [
        | inl o ↦ Contains-append_left was.items (to ∷ []) b (subst (λ (v : SmallVec ℕ). Contains v.items b) (same_Some o.targets was (sym o.are ∙ (ap (slice_get old) same ∙ here))) o.among)
        | inr n ↦ subst (Contains (was.items ++ to ∷ [])) (sym n.1) (Contains-push was.items to)
      ]);
    }),
  )
  | inr other ↦ (
    λ h. inl (record { targets = h.targets; are = sym (slice_get-set_other old from a now other) ∙ h.are; among = h.among }),
    λ h. elim h [
      | inl o ↦ record { targets = o.targets; are = slice_get-set_other old from a now other ∙ o.are; among = o.among }
      | inr n ↦ absurd (other n.0)
    ],
  )
]
  where
    here : slice_get old from ≡ Some was
    here = slice_get_read old (length old) from was refl lt is

-- a symbol that is no nonterminal
pub range_adds : (edges : List (SmallVec ℕ)) (from : ℕ) (symbol : Symbol) → ((b : nt.Nt) → symbol ≡ Nt b → ⊥) → AddsEdges edges edges (λ a b. (a ≡ from) × (symbol ≡ Nt (record { 0 = b })))
range_adds edges from symbol never = adds_none edges (λ a b. (a ≡ from) × (symbol ≡ Nt (record { 0 = b }))) (λ a b h. never (record { 0 = b }) h.1)

pub range_no : (symbol : Symbol) (r : Rattle.text_base.specs.declared.byte_range.ByteRange.ByteRange) → symbol ≡ Range r → (b : nt.Nt) → symbol ≡ Nt b → ⊥
range_no symbol r e b f = cc

pub token_no : (symbol : Symbol) (t : Rattle.text_base.specs.declared.page_token.PageToken.PageToken) → symbol ≡ Token t → (b : nt.Nt) → symbol ≡ Nt b → ⊥
token_no symbol t e b f = cc

nt_number : (a b : nt.Nt) → Nt a ≡ Nt b → a ≡ b
nt_number a b e = cc

pub nt_adds : (old new : List (SmallVec ℕ)) (from : ℕ) (symbol : Symbol) (to : nt.Nt) → symbol ≡ Nt to → AddsEdges old new (λ a b. (a ≡ from) × (b ≡ to.0)) → AddsEdges old new (λ a b. (a ≡ from) × (symbol ≡ Nt (record { 0 = b })))
nt_adds old new from symbol to is h a b = (
  λ e. elim ((h a b).0 e) [ inl o ↦ inl o | inr n ↦ inr (n.0, is ∙ ap (λ (x : ℕ). Nt (record { 0 = x })) (sym n.1)) ],
  λ e. (h a b).1 (elim e [ inl o ↦ inl o | inr n ↦ inr (n.0, sym (ap (λ (x : nt.Nt). x.0) (nt_number to (record { 0 = b }) (sym is ∙ n.1)))) ]),
)

one_of : {X : Type 0} (x : X) (xs : List X) (c : X) → Contains (x ∷ xs) c → (x ≡ c) ⊎ Contains xs c
one_of x xs c (zero, below, is) = inl is
one_of x xs c (suc k, below, is) = inr (k, omega (arith, below), is)

-- right sides
abbrev pub ByRight : ℕ → Right → ℕ → ℕ → Type 0
ByRight from right a b = (a ≡ from) × Contains (symbols_of right) (Nt (record { 0 = b }))

pub empty_adds : (edges : List (SmallVec ℕ)) (from : ℕ) (right : Right) → right ≡ Empty → AddsEdges edges edges (ByRight from right)
empty_adds edges from right is = adds_none edges (ByRight from right) (λ a b h. none_in (Nt (record { 0 = b })) (subst (λ (r : Right). Contains (symbols_of r) (Nt (record { 0 = b }))) is h.1))

pub one_adds : (old new : List (SmallVec ℕ)) (from : ℕ) (right : Right) (s : Symbol) → right ≡ One s → AddsEdges old new (λ a b. (a ≡ from) × (s ≡ Nt (record { 0 = b }))) → AddsEdges old new (ByRight from right)
one_adds old new from right s is h a b = subst (λ (r : Right). HasEdge new a b ↔ (HasEdge old a b ⊎ ByRight from r a b)) (sym is) (
  λ e. elim ((h a b).0 e) [ inl o ↦ inl o | inr n ↦ inr (n.0, (0, omega arith, n.1)) ],
  λ e. (h a b).1 (elim e [ inl o ↦ inl o | inr n ↦ inr (n.0, only s (Nt (record { 0 = b })) n.1) ]),
)
  where
    only : (x c : Symbol) → Contains (x ∷ []) c → x ≡ c
    only x c h = elim (one_of x [] c h) [ inl same ↦ same | inr none ↦ none_in c none ]

pub two_adds : (old mid new : List (SmallVec ℕ)) (from : ℕ) (right : Right) (s t : Symbol) → right ≡ Two s t → AddsEdges old mid (λ a b. (a ≡ from) × (s ≡ Nt (record { 0 = b }))) → AddsEdges mid new (λ a b. (a ≡ from) × (t ≡ Nt (record { 0 = b }))) → AddsEdges old new (ByRight from right)
two_adds old mid new from right s t is h g =
    subst (λ (r : Right). AddsEdges old new (ByRight from r)) (sym is)
    (adds_two old mid new (λ a b. (a ≡ from) × (s ≡ Nt (record { 0 = b }))) (λ a b. (a ≡ from) × (t ≡ Nt (record { 0 = b }))) (ByRight from (Two s t)) split h g)
  where
    split : (a b : ℕ) → ByRight from (Two s t) a b ↔ (((a ≡ from) × (s ≡ Nt (record { 0 = b }))) ⊎ ((a ≡ from) × (t ≡ Nt (record { 0 = b }))))
    split a b = (
      λ e. elim (one_of s (t ∷ []) (Nt (record { 0 = b })) e.1) [
        | inl same ↦ inl (e.0, same)
        | inr more ↦ elim (one_of t [] (Nt (record { 0 = b })) more) [ inl same ↦ inr (e.0, same) | inr none ↦ none_in (Nt (record { 0 = b })) none ]
      ],
      λ e. elim e [ inl x ↦ (x.0, (0, omega arith, x.1)) | inr x ↦ (x.0, (1, omega arith, x.1)) ],
    )

-- one production more
pub productions_more : (old mid new : List (SmallVec ℕ)) (ps : List Production) (n : ℕ) (p : Production) → slice_get ps n ≡ Some p → AddsEdges old mid (IsFirstStep ps n) → AddsEdges mid new (ByRight p.left.0 p.right) → AddsEdges old new (IsFirstStep ps (n + 1))
productions_more old mid new ps n p at h g = adds_two old mid new (IsFirstStep ps n) (ByRight p.left.0 p.right) (IsFirstStep ps (n + 1)) split h g
  where
    split : (a b : ℕ) → IsFirstStep ps (n + 1) a b ↔ (IsFirstStep ps n a b ⊎ ByRight p.left.0 p.right a b)
    split a b = (
      λ s. elim (cases_eq s.place n) [
        | inl same ↦
            let own : s.production ≡ p = same_Some s.production p (sym s.at ∙ (ap (slice_get ps) same ∙ at)) in
            inr (sym s.left ∙ ap (λ (x : Production). x.left.0) own, subst (λ (x : Production). Contains (symbols_of x.right) (Nt (record { 0 = b }))) own s.right)
        | inr other ↦ inl (record { place = s.place; production = s.production; before = (let l = s.before in omega arith); at = s.at; left = s.left; right = s.right })
      ],
      λ s. elim s [
        | inl x ↦ record { place = x.place; production = x.production; before = (let l = x.before in omega arith); at = x.at; left = x.left; right = x.right }
        | inr x ↦ record { place = n; production = p; before = omega arith; at = at; left = sym x.0; right = x.1 }
      ],
    )

pub rules_more : (old mid new : List (SmallVec ℕ)) (rs : List OpRule) (n : ℕ) (r : OpRule) → slice_get rs n ≡ Some r → AddsEdges old mid (IsFirstRule rs n) → AddsEdges mid new (λ a b. (a ≡ r.left.0) × (b ≡ r.operand.0)) → AddsEdges old new (IsFirstRule rs (n + 1))
rules_more old mid new rs n r at h g = adds_two old mid new (IsFirstRule rs n) (λ a b. (a ≡ r.left.0) × (b ≡ r.operand.0)) (IsFirstRule rs (n + 1)) split h g
  where
    split : (a b : ℕ) → IsFirstRule rs (n + 1) a b ↔ (IsFirstRule rs n a b ⊎ ((a ≡ r.left.0) × (b ≡ r.operand.0)))
    split a b = (
      λ s. elim (cases_eq s.place n) [
        | inl same ↦
            let own : s.rule ≡ r = same_Some s.rule r (sym s.at ∙ (ap (slice_get rs) same ∙ at)) in
            inr (sym s.left ∙ ap (λ (x : OpRule). x.left.0) own, sym s.operand ∙ ap (λ (x : OpRule). x.operand.0) own)
        | inr other ↦ inl (record { place = s.place; rule = s.rule; before = (let l = s.before in omega arith); at = s.at; left = s.left; operand = s.operand })
      ],
      λ s. elim s [
        | inl x ↦ record { place = x.place; rule = x.rule; before = (let l = x.before in omega arith); at = x.at; left = x.left; operand = x.operand }
        | inr x ↦ record { place = n; rule = r; before = omega arith; at = at; left = sym x.0; operand = sym x.1 }
      ],
    )

-- none so far
pub first_none : (edges : List (SmallVec ℕ)) (ps : List Production) → AddsEdges edges edges (IsFirstStep ps 0)
first_none edges ps = adds_none edges (IsFirstStep ps 0) (λ a b h. let l = h.before in omega arith)

pub first_no_rule : (edges : List (SmallVec ℕ)) (rs : List OpRule) → AddsEdges edges edges (IsFirstRule rs 0)
first_no_rule edges rs = adds_none edges (IsFirstRule rs 0) (λ a b h. let l = h.before in omega arith)

-- all
adds_same : (old new : List (SmallVec ℕ)) (P Q : ℕ → ℕ → Type 0) → ((a b : ℕ) → P a b → Q a b) → ((a b : ℕ) → Q a b → P a b) → AddsEdges old new P → AddsEdges old new Q
adds_same old new P Q f g h a b = (λ e. elim ((h a b).0 e) [ inl o ↦ inl o | inr n ↦ inr (f a b n) ], λ e. (h a b).1 (elim e [ inl o ↦ inl o | inr n ↦ inr (g a b n) ]))

pub first_all : (old new : List (SmallVec ℕ)) (ps : List Production) (n : ℕ) → length ps ≤ n → AddsEdges old new (IsFirstStep ps n) → AddsEdges old new (IsFirstStep ps (length ps))
first_all old new ps n le h = adds_same old new (IsFirstStep ps n) (IsFirstStep ps (length ps))
    (λ a b s. record { place = s.place; production = s.production; before = slice_get_within ps s.place s.production s.at; at = s.at; left = s.left; right = s.right })
    (λ a b s. record { place = s.place; production = s.production; before = (let l = s.before in omega arith); at = s.at; left = s.left; right = s.right }) h

pub first_all_rules : (old new : List (SmallVec ℕ)) (rs : List OpRule) (n : ℕ) → length rs ≤ n → AddsEdges old new (IsFirstRule rs n) → AddsEdges old new (IsFirstRule rs (length rs))
first_all_rules old new rs n le h = adds_same old new (IsFirstRule rs n) (IsFirstRule rs (length rs))
    (λ a b s. record { place = s.place; rule = s.rule; before = slice_get_within rs s.place s.rule s.at; at = s.at; left = s.left; operand = s.operand })
    (λ a b s. record { place = s.place; rule = s.rule; before = (let l = s.before in omega arith); at = s.at; left = s.left; operand = s.operand }) h

-- the whole graph
pub all_steps : (none mid edges : List (SmallVec ℕ)) (ps : List Production) (rs : List OpRule) → All (λ (v : SmallVec ℕ). v.items ≡ []) none
    → AddsEdges none mid (IsFirstStep ps (length ps)) → AddsEdges mid edges (IsFirstRule rs (length rs)) → (a b : ℕ) → HasEdge edges a b ↔ IsStep ps rs a b
all_steps none mid edges ps rs empty h g a b = (
  λ e. elim ((g a b).0 e) [
    | inl m ↦ elim ((h a b).0 m) [
      | inl o ↦ none_in b (subst (λ (xs : List ℕ). Contains xs b) (All-contains (λ (v : SmallVec ℕ). v.items ≡ []) none o.targets empty (contained none a o.targets o.are)) o.among)
      | inr s ↦ IsStep.by_production s.production (contained ps s.place s.production s.at) s.left s.right
    ]
    | inr s ↦ IsStep.by_rule s.rule (contained rs s.place s.rule s.at) s.left s.operand
  ],
  back,
)
  where
    back : IsStep ps rs a b → HasEdge edges a b
    back (IsStep.by_production p has left right) = let at = placed ps p has in (g a b).1 (inl ((h a b).1 (inr (record { place = at.0; production = p; before = slice_get_within ps at.0 p at.1; at = at.1; left = left; right = right }))))
    back (IsStep.by_rule r has left operand) = let at = placed rs r has in (g a b).1 (inr (record { place = at.0; rule = r; before = slice_get_within rs at.0 r at.1; at = at.1; left = left; operand = operand }))

-- what is below the count
first_so : (a b : Bool) → (a && b) ≡ true → a ≡ true
first_so true b h = refl
first_so false b h = absurd (cc)

second_so : (a b : Bool) → (a && b) ≡ true → b ≡ true
second_so true b h = h
second_so false b h = absurd (cc)

all_at : {X : Type 0} (test : X → Bool) (xs : List X) (x : X) → list_all test xs ≡ true → Contains xs x → test x ≡ true
all_at test [] x h c = none_in x c
all_at test (y ∷ ys) x h c = elim (one_of y ys x c) [
  | inl same ↦ subst (λ z. test z ≡ true) same (first_so (test y) (list_all test ys) h)
  | inr there ↦ all_at test ys x (second_so (test y) (list_all test ys) h) there
]

pub left_below : (count : ℕ) (ps : List Production) (p : Production) → list_all (production_below count) ps ≡ true → Contains ps p → p.left.0 < count
left_below count ps p h c = ltb-true p.left.0 count (first_so _ (list_all (symbol_below count) (symbols_of p.right)) (all_at (production_below count) ps p h c))

pub right_below : (count : ℕ) (ps : List Production) (p : Production) (b : ℕ) → list_all (production_below count) ps ≡ true → Contains ps p → Contains (symbols_of p.right) (Nt (record { 0 = b })) → b < count
right_below count ps p b h c s = ltb-true b count (all_at (symbol_below count) (symbols_of p.right) (Nt (record { 0 = b })) (second_so (nat_lt p.left.0 count) (list_all (symbol_below count) (symbols_of p.right)) (all_at (production_below count) ps p h c)) s)

pub rule_left_below : (count : ℕ) (rs : List OpRule) (r : OpRule) → list_all (rule_below count) rs ≡ true → Contains rs r → r.left.0 < count
rule_left_below count rs r h c = ltb-true r.left.0 count (first_so (nat_lt r.left.0 count) (nat_lt r.operand.0 count) (all_at (rule_below count) rs r h c))

pub operand_below : (count : ℕ) (rs : List OpRule) (r : OpRule) → list_all (rule_below count) rs ≡ true → Contains rs r → r.operand.0 < count
operand_below count rs r h c = ltb-true r.operand.0 count (second_so (nat_lt r.left.0 count) (nat_lt r.operand.0 count) (all_at (rule_below count) rs r h c))

pub steps_within : (edges : List (SmallVec ℕ)) (count : ℕ) (ps : List Production) (rs : List OpRule) → length edges ≡ count → list_all (production_below count) ps ≡ true → list_all (rule_below count) rs ≡ true
    → ((a b : ℕ) → HasEdge edges a b ↔ IsStep ps rs a b) → AreWithin edges
steps_within edges count ps rs len pb rb is a b e = so ((is a b).0 e)
  where
    so : IsStep ps rs a b → b < length edges
    so (IsStep.by_production p has left right) = let l = right_below count ps p b pb has right in omega arith
    so (IsStep.by_rule r has left operand) = let l = operand_below count rs r rb has in omega arith
