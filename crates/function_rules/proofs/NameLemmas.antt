-- Names that are defined twice, and functions found by their names, where a function is put behind others.
use Rattle.std.proofs.Common.{◌≡◌, ◌∙◌, ℕ, Bool, true, false, nat_eq, List, [], ◌∷◌, ◌++◌, Option, Some, None, if◌then◌else◌, inl, inr, refl, sym, ap, true≢false}
use Rattle.std.specs.Prelude.{◌⊎◌, ◌||◌, ◌&&◌, not, bytes_eq}
use Rattle.std.specs.List.{list_any}
use Rattle.std.specs.Cmp.Lexicographic.{pointwise, bytes_decides}
use Rattle.std.proofs.lemmas.List.Folds.{list_any-append}
use Rattle.php_syntax.specs.Trees.{PlainFunction}
use Rattle.builtin_meaning.specs.Names.{builtin_named}
use Rattle.script_meaning.specs.Programs.{function_named}
use Rattle.program_rules.specs.Rules.{is_there, is_double, DefinesTwice}

-- a function behind others is found where none before it has the name
pub push_new : (fs : List PlainFunction) (f : PlainFunction) (q : List ℕ) → function_named fs q ≡ None → pointwise nat_eq f.name_of q ≡ true → function_named (fs ++ f ∷ []) q ≡ Some f
unfolding function_named
push_new [] f q none e = ap (λ (b : Bool). if b then Some f else None) e
push_new (g ∷ fs) f q none e = by (pointwise nat_eq g.name_of q) none (λ h. push_new fs f q h e)
  where
    by : (b : Bool) → (if b then Some g else function_named fs q) ≡ None → (function_named fs q ≡ None → function_named (fs ++ f ∷ []) q ≡ Some f) → (if b then Some g else function_named (fs ++ f ∷ []) q) ≡ Some f
    by true n rest = absurd (cc)
    by false n rest = rest n

-- and changes nothing for other names
pub push_other : (fs : List PlainFunction) (f : PlainFunction) (q : List ℕ) → pointwise nat_eq f.name_of q ≡ false → function_named (fs ++ f ∷ []) q ≡ function_named fs q
unfolding function_named
push_other [] f q e = ap (λ (b : Bool). if b then Some f else None) e
push_other (g ∷ fs) f q e = ap (λ (o : Option PlainFunction). if pointwise nat_eq g.name_of q then Some g else o) (push_other fs f q e)

or_false : (b : Bool) → (b || false) ≡ true → b ≡ true
or_false true e = refl
or_false false e = e

split_or : (a l m : Bool) → (a || (l || (m || false))) ≡ true → ((a || l) ≡ true) ⊎ (m ≡ true)
split_or true l m e = inl refl
split_or false true m e = inl refl
split_or false false m e = inr (or_false m e)

first_there : (g : PlainFunction) (fs : List PlainFunction) (name : List ℕ) → g.name_of ≡ name → is_there (function_named (g ∷ fs) name) ≡ true
unfolding function_named
first_there g fs name same = ap (λ (b : Bool). is_there (if b then Some g else function_named fs name)) ((bytes_decides g.name_of name).1 same)

later_there : (g : PlainFunction) (fs : List PlainFunction) (name : List ℕ) → is_there (function_named fs name) ≡ true → is_there (function_named (g ∷ fs) name) ≡ true
unfolding function_named
later_there g fs name there = by (pointwise nat_eq g.name_of name)
  where
    by : (b : Bool) → is_there (if b then Some g else function_named fs name) ≡ true
    by true = refl
    by false = there

-- a name that is defined twice with one more function was so before, or is that of the function and stood before it
twice_push : (fs : List PlainFunction) (f : PlainFunction) (name : List ℕ) → DefinesTwice (fs ++ f ∷ []) name
    → DefinesTwice fs name ⊎ ((f.name_of ≡ name) × ((is_there (builtin_named name) ≡ true) ⊎ (is_there (function_named fs name) ≡ true)))
unfolding DefinesTwice
twice_push [] f name (inl (same, double)) = inr (same, inl (or_false (is_there (builtin_named name)) double))
twice_push [] f name (inr none) = absurd none
twice_push (g ∷ fs) f name (inl (same, double)) =
    let p : PlainFunction → Bool = λ h. bytes_eq h.name_of name in
    let e : (is_there (builtin_named name) || (list_any p fs || (bytes_eq f.name_of name || false))) ≡ true = sym (ap (λ (b : Bool). is_there (builtin_named name) || b) (list_any-append p fs (f ∷ []))) ∙ double in
    elim (split_or (is_there (builtin_named name)) (list_any p fs) (bytes_eq f.name_of name) e) [
      | inl before ↦ inl (inl (same, before))
      | inr last ↦ inr ((bytes_decides f.name_of name).0 last, inr (first_there g fs name same))
    ]
twice_push (g ∷ fs) f name (inr later) = elim (twice_push fs f name later) [
  | inl old ↦ inl (inr old)
  | inr new ↦ inr (new.0, elim new.1 [ inl of_php ↦ inl of_php | inr there ↦ inr (later_there g fs name there) ])
]

-- with a function whose name is new, no name is defined twice
pub once_push : (fs : List PlainFunction) (f : PlainFunction) → ((name : List ℕ) → DefinesTwice fs name → ⊥) → builtin_named f.name_of ≡ None → function_named fs f.name_of ≡ None
    → (name : List ℕ) → DefinesTwice (fs ++ f ∷ []) name → ⊥
once_push fs f once own none name twice = elim (twice_push fs f name twice) [
  | inl old ↦ once name old
  | inr new ↦ elim new.1 [
    | inl of_php ↦ true≢false (sym of_php ∙ ap (λ (n : List ℕ). is_there (builtin_named n)) (sym new.0) ∙ ap (λ o. is_there o) own)
    | inr there ↦ true≢false (sym there ∙ ap (λ (n : List ℕ). is_there (function_named fs n)) (sym new.0) ∙ ap (λ (o : Option PlainFunction). is_there o) none)
  ]
]

-- a function of the name of one of PHP's is a double
pub builtin_twice : (done rest : List PlainFunction) (f : PlainFunction) → is_there (builtin_named f.name_of) ≡ true → DefinesTwice (done ++ f ∷ rest) f.name_of
unfolding DefinesTwice
builtin_twice [] rest f e = inl (refl, ap (λ (b : Bool). b || list_any (λ (h : PlainFunction). bytes_eq h.name_of f.name_of) rest) e)
builtin_twice (g ∷ done) rest f e = inr (builtin_twice done rest f e)

or_last : (a l r : Bool) → (a || (l || (true || r))) ≡ true
or_last true l r = refl
or_last false true r = refl
or_last false false r = refl

-- as is one that stands behind another of its name
pub again_twice : (done rest : List PlainFunction) (f : PlainFunction) → is_there (function_named done f.name_of) ≡ true → DefinesTwice (done ++ f ∷ rest) f.name_of
unfolding DefinesTwice function_named
again_twice [] rest f e = absurd (true≢false (sym e))
again_twice (g ∷ done) rest f e = by (pointwise nat_eq g.name_of f.name_of) refl e (λ k. again_twice done rest f k)
  where
    by : (b : Bool) → pointwise nat_eq g.name_of f.name_of ≡ b → is_there (if b then Some g else function_named done f.name_of) ≡ true
        → (is_there (function_named done f.name_of) ≡ true → DefinesTwice (done ++ f ∷ rest) f.name_of)
        → ((g.name_of ≡ f.name_of) × (is_double f.name_of (done ++ f ∷ rest) ≡ true)) ⊎ DefinesTwice (done ++ f ∷ rest) f.name_of
    by true same h later =
        let p : PlainFunction → Bool = λ k. bytes_eq k.name_of f.name_of in
        let last : list_any p (done ++ f ∷ rest) ≡ (list_any p done || (true || list_any p rest)) =
        list_any-append p done (f ∷ rest) ∙ ap (λ (b : Bool). list_any p done || (b || list_any p rest)) ((bytes_decides f.name_of f.name_of).1 refl) in
        inl ((bytes_decides g.name_of f.name_of).0 same, ap (λ (b : Bool). is_there (builtin_named f.name_of) || b) last ∙ or_last (is_there (builtin_named f.name_of)) (list_any p done) (list_any p rest))
    by false other h later = inr (later h)

or_kept : (a l r : Bool) → (a || l) ≡ true → (a || (l || r)) ≡ true
or_kept true l r e = refl
or_kept false true r e = refl
or_kept false false r e = absurd (true≢false (sym e))

-- and what is defined twice is, with more functions behind
pub twice_later : (own more : List PlainFunction) (name : List ℕ) → DefinesTwice own name → DefinesTwice (own ++ more) name
unfolding DefinesTwice
twice_later [] more name twice = absurd twice
twice_later (f ∷ fs) more name (inl (same, double)) =
    let p : PlainFunction → Bool = λ h. bytes_eq h.name_of name in
    inl (same, ap (λ (b : Bool). is_there (builtin_named name) || b) (list_any-append p fs more) ∙ or_kept (is_there (builtin_named name)) (list_any p fs) (list_any p more) double)
twice_later (f ∷ fs) more name (inr later) = inr (twice_later fs more name later)

named_any : (own : List PlainFunction) (name : List ℕ) → is_there (function_named own name) ≡ list_any (λ (f : PlainFunction). bytes_eq f.name_of name) own
unfolding function_named
named_any [] name = refl
named_any (f ∷ fs) name = by (pointwise nat_eq f.name_of name) (named_any fs name)
  where
    by : (b : Bool) → is_there (function_named fs name) ≡ list_any (λ (g : PlainFunction). bytes_eq g.name_of name) fs
        → is_there (if b then Some f else function_named fs name) ≡ (b || list_any (λ (g : PlainFunction). bytes_eq g.name_of name) fs)
    by true rest = refl
    by false rest = rest

-- a name is that of no function, nor of one of PHP's, by what is found of it
pub is_new : (own : List PlainFunction) (name : List ℕ) → not (is_there (builtin_named name)) && not (is_there (function_named own name)) ≡ not (is_double name own)
is_new own name = both (is_there (builtin_named name)) (is_there (function_named own name)) (list_any (λ (f : PlainFunction). bytes_eq f.name_of name) own) (named_any own name)
  where
    both : (a b d : Bool) → b ≡ d → (not a && not b) ≡ not (a || d)
    both true b d e = refl
    both false b d e = ap not e
