-- Rows in one list: one row more, a look at one, and rows without what comes twice.
use Rattle.std.proofs.Common.{◌≡◌, ◌<◌, ◌+◌, inl, inr, ℕ, zero, suc, List, [], ◌∷◌, ◌++◌, length, take, drop, get_or, Option, Some, None, refl, sym, subst, ◌∙◌, ap, arith, slice_get, Contains, append_assoc}
use Rattle.std.proofs.Math.Seq.{drop-append_seam, take-length}
use Rattle.std.proofs.lemmas.List.{take-append-le, append-nil, map-append, length-append, length-map}
use Rattle.std.proofs.lemmas.Option.{same_Some}
use Rattle.std.proofs.lemmas.List.Elements.{Contains-append_left, Contains-append_right, Contains-append_cases}
use Rattle.flow_code.specs.Points.{PlainFlowFunction}
use Rattle.flow_graph.specs.declared.arrivals.Arrival.{Arrival}
use Rattle.loose_sets.specs.Versions.{PlainVersion, join_at}
use Rattle.ssa_form.specs.declared.version.Version.{Version}
use Rattle.ssa_form.specs.Views.{version_seen, versions_seen}
use Rattle.ssa_form.specs.Rows.{IsRow}
use Rattle.ssa_form.specs.Joins.{AsksFor}
use Rattle.ssa_form.specs.JoinRows.{rows_cut, ends_before, AreEnds, IsRowOf, PutsOne}
use Rattle.ssa_form.proofs.ReadLemmas.{in_one}
use Rattle.ssa_form.proofs.RowLemmas.{seen_longer}

-- one row more
pub rows_push : (vs row : List Version) (from n : ℕ) (ends : List ℕ) → AreEnds (length vs) from ends → n ≡ length (vs ++ row) → rows_cut (vs ++ row) from (ends ++ n ∷ []) ≡ rows_cut vs from ends ++ row ∷ []
rows_push vs row from n [] are long =
    let all : take n (vs ++ row) ≡ vs ++ row = ap (λ (k : ℕ). take k (vs ++ row)) long ∙ take-length (vs ++ row) in
    ap (λ (r : List Version). r ∷ []) (ap (λ (k : ℕ). drop k (take n (vs ++ row))) are ∙ ap (λ (us : List Version). drop (length vs) us) all ∙ drop-append_seam vs row)
rows_push vs row from n (end ∷ ends) are long =
    let front : take end (vs ++ row) ≡ take end vs = take-append-le end vs row are.0 in
    ap (λ (r : List Version). r ∷ rows_cut (vs ++ row) end (ends ++ n ∷ [])) (ap (λ (us : List Version). drop from us) front)
    ∙ ap (λ (rs : List (List Version)). drop from (take end vs) ∷ rs) (rows_push vs row end n ends are.1 long)

pub ends_push : (vs row : List Version) (from n : ℕ) (ends : List ℕ) → AreEnds (length vs) from ends → n ≡ length (vs ++ row) → AreEnds (length (vs ++ row)) from (ends ++ n ∷ [])
ends_push vs row from n [] are long = (omega arith, long)
ends_push vs row from n (end ∷ ends) are long = (let a = are.0 in let l = length-append vs row in omega arith, ends_push vs row end n ends are.1 long)

pub rows_count : (vs : List Version) (from : ℕ) (ends : List ℕ) → length (rows_cut vs from ends) ≡ length ends
rows_count vs from [] = refl
rows_count vs from (end ∷ ends) = ap suc (rows_count vs end ends)

-- a look at a row
pub row_at : (vs : List Version) (from : ℕ) (ends : List ℕ) (n end : ℕ) → slice_get ends n ≡ Some end → slice_get (rows_cut vs from ends) n ≡ Some (drop (ends_before from ends n) (take end vs))
row_at vs from [] n end e = absurd (cc)
row_at vs from (last ∷ ends) zero end e = ap (λ (k : ℕ). Some (drop from (take k vs))) (same_Some last end e)
row_at vs from (last ∷ ends) (suc zero) end e = row_at vs last ends zero end e
row_at vs from (last ∷ ends) (suc (suc n)) end e = row_at vs last ends (suc n) end e

pub row_past : (vs : List Version) (from : ℕ) (ends : List ℕ) (n : ℕ) → slice_get ends n ≡ None → slice_get (rows_cut vs from ends) n ≡ None
row_past vs from [] n e = refl
row_past vs from (last ∷ ends) zero e = absurd (cc)
row_past vs from (last ∷ ends) (suc n) e = row_past vs last ends n e

-- versions that are put behind others so far, the last one of which stands there
pub record PutSoFar (old new : List Version) (vs : List PlainVersion) (before : Option Version) : Type 0 where
  pub row : List Version
  pub is : new ≡ old ++ row
  pub of : IsRowOf row vs
  pub last : (v : Version) → before ≡ Some v → Contains vs (version_seen v)

none_of : {X : Type 0} (x : X) → Contains [] x → ⊥
none_of x c = let h = c.1 in omega arith

one_of : {X : Type 0} (x : X) → Contains (x ∷ []) x
one_of x = (zero, omega arith, refl)

pub put_none : (old : List Version) → PutSoFar old old [] None
put_none old = record {
  row = [];
  is = sym (append-nil old);
  of = record { same = λ v. (λ c. c, λ c. c); few = omega arith };
  last = λ v e. absurd (cc);
}

pub put_more : (old mid new versions : List Version) (i : ℕ) (d : Version) (before : Option Version) → i < length versions → PutSoFar old mid (versions_seen (take i versions)) before → PutsOne mid new before (get_or versions i d)
    → PutSoFar old new (versions_seen (take (i + 1) versions)) (Some (get_or versions i d))
put_more old mid new versions i d before within so puts =
    subst (λ (us : List PlainVersion). PutSoFar old new us (Some v)) (sym (seen_longer versions i d within)) (elim puts [
      | inl e ↦ record {
        row = so.row ++ v ∷ [];
        is = e ∙ ap (λ (us : List Version). us ++ v ∷ []) so.is ∙ append_assoc old so.row (v ∷ []);
        of = record {
          same = λ u. (
            λ c. elim (Contains-append_cases (versions_seen so.row) (version_seen v ∷ []) u (subst (λ (us : List PlainVersion). Contains us u) (map-append version_seen so.row (v ∷ [])) c)) [
              | inl k ↦ Contains-append_left firsts (version_seen v ∷ []) u ((so.of.same u).0 k)
              | inr k ↦ Contains-append_right firsts (version_seen v ∷ []) u k
            ],
            λ c. subst (λ (us : List PlainVersion). Contains us u) (sym (map-append version_seen so.row (v ∷ []))) (elim (Contains-append_cases firsts (version_seen v ∷ []) u c) [
              | inl k ↦ Contains-append_left (versions_seen so.row) (version_seen v ∷ []) u ((so.of.same u).1 k)
              | inr k ↦ Contains-append_right (versions_seen so.row) (version_seen v ∷ []) u k
            ]),
          );
          few = (let a = so.of.few in let b = length-append so.row (v ∷ []) in let c = length-append firsts (version_seen v ∷ []) in omega (arith, a, b, c));
        };
        last = last;
      }
      | inr e ↦ record {
        row = so.row;
        is = e.0 ∙ so.is;
        of = record {
          same = λ u. (
            λ c. Contains-append_left firsts (version_seen v ∷ []) u ((so.of.same u).0 c),
            λ c. (so.of.same u).1 (elim (Contains-append_cases firsts (version_seen v ∷ []) u c) [
              | inl k ↦ k
              | inr k ↦ subst (λ (w : PlainVersion). Contains firsts w) (in_one (version_seen v) u k) (so.last v e.1)
            ]),
          );
          few = (let a = so.of.few in let c = length-append firsts (version_seen v ∷ []) in omega (arith, a, c));
        };
        last = last;
      }
    ])
  where
    v : Version
    v = get_or versions i d

    firsts : List PlainVersion
    firsts = versions_seen (take i versions)

    last : (u : Version) → Some v ≡ Some u → Contains (firsts ++ version_seen v ∷ []) (version_seen u)
    last u e = Contains-append_right firsts (version_seen v ∷ []) (version_seen u) (subst (λ (w : Version). Contains (version_seen v ∷ []) (version_seen w)) (same_Some v u e) (one_of (version_seen v)))

-- a row of the same versions asks for the same joins, and joins the same
pub asks_row : (old new : List (ℕ × ℕ)) (row : List Version) (vs : List PlainVersion) → IsRowOf row vs → AsksFor old new vs → AsksFor old new (versions_seen row)
asks_row old new row vs is asks = record {
  kept = λ v c. asks.kept v ((is.same v).0 c);
  keeps = asks.keeps;
  adds = λ k c. elim (asks.adds k c) [ inl o ↦ inl o | inr u ↦ inr ((is.same (join_at k.0 k.1)).1 u) ];
}

pub row_row : (fs : List PlainFlowFunction) (heads : List ℕ) (behind : ℕ → ℕ → PlainVersion) (all : List (ℕ × Arrival)) (p x : ℕ) (row : List Version) (vs : List PlainVersion) → IsRowOf row vs → IsRow fs heads behind all p x vs
    → IsRow fs heads behind all p x (versions_seen row)
row_row fs heads behind all p x row vs is joins = record {
  each = λ v c. joins.each v ((is.same v).0 c);
  all_are = λ a v c k. (is.same v).1 (joins.all_are a v c k);
  few = (let a = joins.few in let b = is.few in let c = length-map row version_seen in omega (arith, a, b, c));
}
