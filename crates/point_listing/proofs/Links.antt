-- What is listed of a join is what it joins.
use Rattle.std.proofs.Common.{◌≡◌, ◌↔◌, ℕ, List, [], ◌∷◌, Option, Some, None, refl, sym, subst, ap, ◌∙◌, Contains, map}
use Rattle.numbered_sets.specs.Numbers.{AreDifferent}
use Rattle.flow_graph.specs.Found.{number_in}
use Rattle.flow_graph.proofs.FoundLemmas.{found, contains_at, number_is}
use Rattle.loose_sets.specs.Versions.{PlainVersion, linked_in}
use Rattle.ssa_form.specs.declared.version.Version.{Version}
use Rattle.ssa_form.specs.declared.versions.Versions.{Versions}
use Rattle.ssa_form.specs.Versions.{asks_of, rows_of, joins_in, joins_of, row_of, joined_by, AreOnce}
use Rattle.ssa_form.proofs.ExactLemmas.{linked_row, none_linked}
use Rattle.loose_sets.specs.Uses.{version_seen, versions_seen, version_back}
use Rattle.loose_sets.proofs.OfVersions.{seen_back}
use Rattle.point_listing.specs.Links.{links_seen}

backs : (vs : List PlainVersion) → versions_seen (map version_back vs) ≡ vs
backs [] = refl
backs (v ∷ vs) = ap (λ (u : PlainVersion). u ∷ versions_seen (map version_back vs)) (seen_back v) ∙ ap (λ (us : List PlainVersion). v ∷ us) (backs vs)

-- the row of a number, where no key stands twice
row_law : (ks : List (ℕ × ℕ)) (rs : List (List Version)) (p x : ℕ) → AreDifferent ks → (v : PlainVersion) → Contains (row_of rs (number_in ks p x)) v ↔ linked_in (joins_in ks rs) p x v
row_law ks rs p x different v = by (number_in ks p x) refl
  where
    absent : number_in ks p x ≡ None → Contains ks (p, x) → ⊥
    absent none c =
        let there = contains_at ks (p, x) c in
        let both : None ≡ Some there.0 = sym none ∙ found ks (p, x) there.0 different there.1 in
        cc

    by : (o : Option ℕ) → number_in ks p x ≡ o → Contains (row_of rs o) v ↔ linked_in (joins_in ks rs) p x v
    by None none = none_linked ks rs p x (absent none) v
    by (Some i) is = linked_row ks rs i p x different (number_is ks (p, x) i is) v

-- what is listed of a join is exactly what is linked to it
pub links_law : (versions : Versions) → AreOnce versions → (p x : ℕ) (v : PlainVersion) → Contains (versions_seen (links_seen versions p x)) v ↔ linked_in (joins_of versions) p x v
links_law versions once p x v =
    subst (λ (vs : List PlainVersion). Contains vs v ↔ linked_in (joins_of versions) p x v) (sym (backs (joined_by versions p x)))
    (row_law (asks_of versions) (rows_of versions) p x once v)
