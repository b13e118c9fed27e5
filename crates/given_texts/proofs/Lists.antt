-- What the grammar's type keeps of its productions.
use Rattle.std.proofs.Common.{◌≡◌, inl, inr, ℕ, ◌&&◌, nat_lt, Bool, true, List, [], ◌∷◌, ◌++◌, Option, Some, None, map, refl, sym, subst}
use Rattle.std.specs.Prelude.{Contains, slice_index_or}
use Rattle.std.specs.List.{list_all}
use Rattle.std.proofs.lemmas.Bool.{and_parts, and_from}
use Rattle.std.proofs.lemmas.List.Sums.{AllPass-from_list_all, list_all-from_AllPass}
use Rattle.std.proofs.lemmas.List.Elements.{All-contains, All-contains_itself, Contains-append_left, Contains-append_right, Contains-append_cases}
use Rattle.string_functions.proofs.Members.{Contains-nil, Contains-cons_cases, Contains-head, Contains-later}
use Rattle.text_base.specs.declared.byte_range.ByteRange.{ByteRange}
use Rattle.cfg_grammar.specs.declared.production.Production.{Production}
use Rattle.cfg_grammar.specs.Below.{symbol_below, symbols_of, production_below}
use Rattle.cfg_grammar.specs.Tokens.{is_no_token, production_without_token}
use Rattle.given_texts.specs.declared.text_rows.TheConstants.{ROWS, ENDS}
use Rattle.given_texts.specs.Rows.{Row, right_with, AreFor, end_production, more_characters, IsOne, AreAll}

pub all_from : {X : Type 0} (f : X → Bool) (xs : List X) → ((x : X) → Contains xs x → f x ≡ true) → list_all f xs ≡ true
all_from f xs h = list_all-from_AllPass f xs (λ k d below. h (slice_index_or xs k d) (All-contains_itself xs k d below))

member : {X : Type 0} (f : X → Bool) (xs : List X) → list_all f xs ≡ true → (x : X) → Contains xs x → f x ≡ true
member f xs all x c = All-contains (λ z. f z ≡ true) xs x (AllPass-from_list_all f xs all) c

next_below : Option ℕ → Bool
next_below None = true
next_below (Some n) = nat_lt n 32

row_below : Row → Bool
row_below row = nat_lt row.0 32 && next_below row.3

rows_below : list_all row_below ROWS ≡ true
unfolding row_below next_below
rows_below = refl

end_below : ℕ → Bool
end_below n = nat_lt n 32

ends_below : list_all end_below ENDS ≡ true
unfolding end_below
ends_below = refl

right_below : (next : Option ℕ) (r : ByteRange) → next_below next ≡ true → list_all (symbol_below 32) (symbols_of (right_with r next)) ≡ true
unfolding next_below
right_below None r h = refl
right_below (Some n) r h = and_from (nat_lt n 32) true h refl

right_plain : (next : Option ℕ) (r : ByteRange) → list_all is_no_token (symbols_of (right_with r next)) ≡ true
right_plain None r = refl
right_plain (Some n) r = refl

pub one_below : (p : Production) → IsOne p → production_below 32 p ≡ true
unfolding row_below end_below
one_below _ (IsOne.an_end n h) = and_from (nat_lt n 32) true (member end_below ENDS ends_below n h) refl
one_below _ IsOne.more = refl
one_below p (IsOne.a_row row _ h is) =
    let parts = and_parts (nat_lt row.0 32) (next_below row.3) (member row_below ROWS rows_below row h) in
    and_from (nat_lt p.left.0 32) (list_all (symbol_below 32) (symbols_of p.right)) (subst (λ z. nat_lt z 32 ≡ true) (sym is.0) parts.0)
    (subst (λ z. list_all (symbol_below 32) (symbols_of z) ≡ true) (sym is.4) (right_below row.3 is.1 parts.1))

pub one_plain : (p : Production) → IsOne p → production_without_token p ≡ true
one_plain _ (IsOne.an_end n h) = refl
one_plain _ IsOne.more = refl
one_plain p (IsOne.a_row row _ h is) = subst (λ z. list_all is_no_token (symbols_of z) ≡ true) (sym is.4) (right_plain row.3 is.1)

-- the productions together
map_has : (ns : List ℕ) (n : ℕ) → Contains ns n → Contains (map end_production ns) (end_production n)
map_has [] n h = Contains-nil n h
map_has (m ∷ ns) n h =
    elim (Contains-cons_cases m ns n h) [
      | inl e ↦ subst (λ z. Contains (map end_production (m ∷ ns)) (end_production z)) e (Contains-head (end_production m) (map end_production ns))
      | inr later ↦ Contains-later (end_production m) (map end_production ns) (end_production n) (map_has ns n later)
    ]

map_from : (ns : List ℕ) (p : Production) → Contains (map end_production ns) p → (n : ℕ) × Contains ns n × (end_production n ≡ p)
map_from [] p h = Contains-nil p h
map_from (m ∷ ns) p h =
    elim (Contains-cons_cases (end_production m) (map end_production ns) p h) [
      | inl e ↦ (m, Contains-head m ns, e)
      | inr later ↦ let r = map_from ns p later in (r.0, Contains-later m ns r.0 r.1, r.2)
    ]

pub together : (ps : List Production) → AreFor ROWS ps → AreAll (ps ++ more_characters ∷ map end_production ENDS)
together ps are = record {
  each = λ p h. elim (Contains-append_cases ps (more_characters ∷ map end_production ENDS) p h) [
    | inl row ↦ let r = are.each p row in IsOne.a_row r.0 p r.1 r.2
    | inr rest ↦ elim (Contains-cons_cases more_characters (map end_production ENDS) p rest) [
      | inl e ↦ subst IsOne e IsOne.more
      | inr later ↦ let r = map_from ENDS p later in subst IsOne r.2 (IsOne.an_end r.0 r.1)
    ]
  ];
  ends = λ n h. Contains-append_right ps (more_characters ∷ map end_production ENDS) (end_production n) (Contains-later more_characters (map end_production ENDS) (end_production n) (map_has ENDS n h));
  more = Contains-append_right ps (more_characters ∷ map end_production ENDS) more_characters (Contains-head more_characters (map end_production ENDS));
  rows = λ row h. let p = are.all row h in (p.0, Contains-append_left ps (more_characters ∷ map end_production ENDS) p.0 p.1, p.2);
}
