-- Chains as they grow.
use Rattle.std.proofs.Common.{◌≡◌, ◌∙◌, ◌<◌, ◌≤◌, ◌+◌, ◌⊎◌, ℕ, inl, inr, zero, suc, List, [], ◌∷◌, ◌++◌, length, length-append, set, get_or, refl, sym, ap, subst, arith, Some, slice_get}
use Rattle.std.specs.List.{All}
use Rattle.std.proofs.lemmas.Bool.{cases_eq, cases_lt}
use Rattle.std.proofs.lemmas.List.Elements.{All-contains}
use Rattle.std.proofs.lemmas.Option.{slice_get_within, slice_get-get_or, get_or_from_slice_get, same_Some}
use Rattle.numbered_sets.proofs.NumberLemmas.{at_front}
use Rattle.numbered_sets.proofs.PlaceLemmas.{slice_get-set_other, slice_get-set_same}
use Rattle.numbered_sets.specs.Chains.{no_place, IsLast, AreBefore, AreLast, AreChains, Falls}

at_end : {X : Type 0} (xs : List X) (y : X) → slice_get (xs ++ y ∷ []) (length xs) ≡ Some y
at_end [] y = refl
at_end (x ∷ xs) y = at_end xs y

-- what stands before the end stood there
was_at : {X : Type 0} (xs : List X) (y : X) (k : ℕ) (x : X) → k < length xs → slice_get (xs ++ y ∷ []) k ≡ Some x → slice_get xs k ≡ Some x
was_at [] y k x below e = absurd (omega (arith, below))
was_at (z ∷ xs) y zero x below e = e
was_at (z ∷ xs) y (suc k) x below e = was_at xs y k x (omega (arith, below)) e

-- where a list is longer, or at its end
front_or_end : {X : Type 0} (xs : List X) (y : X) (k : ℕ) (x : X) → slice_get (xs ++ y ∷ []) k ≡ Some x → ((k < length xs) × (slice_get xs k ≡ Some x)) ⊎ ((k ≡ length xs) × (x ≡ y))
front_or_end xs y k x e =
    elim (cases_lt k (length xs)) [
      | inl below ↦ inl (below, was_at xs y k x below e)
      | inr above ↦
          let w = slice_get_within (xs ++ y ∷ []) k x e in
          let l = length-append xs (y ∷ []) in
          let here : k ≡ length xs = omega (arith, above, w, l) in
          inr (here, same_Some x y (sym e ∙ (ap (slice_get (xs ++ y ∷ [])) here ∙ at_end xs y)))
    ]

-- one number more behind the list
module _ (keys : List ℕ) (key : ℕ) where
  last_longer : (so_many number place : ℕ) → so_many ≤ length keys → IsLast keys so_many number place → IsLast (keys ++ key ∷ []) so_many number place
  last_longer so_many number place within is =
      record {
        stands = elim is.stands [ inl none ↦ inl none | inr h ↦ inr (h.0, at_front keys key place number h.1) ];
        last = λ k below e. is.last k below (was_at keys key k number (omega (arith, below, within)) e);
      }

  last_here : length keys < no_place → IsLast (keys ++ key ∷ []) (length keys + 1) key (length keys)
  last_here few =
      record {
        stands = inr (omega arith, at_end keys key);
        last = λ k below e. (omega (arith, below), λ same. absurd (omega (arith, same, few)));
      }

  last_other : (number place : ℕ) → (number ≡ key → ⊥) → IsLast keys (length keys) number place → IsLast (keys ++ key ∷ []) (length keys + 1) number place
  last_other number place other is =
      record {
        stands = elim is.stands [ inl none ↦ inl none | inr h ↦ inr (omega (arith, h.0), at_front keys key place number h.1) ];
        last = λ k below e. elim (front_or_end keys key k number e) [
          | inl h ↦ is.last k h.0 h.1
          | inr h ↦ absurd (other h.1)
        ];
      }

  longer : length (keys ++ key ∷ []) ≡ length keys + 1
  longer = length-append keys (key ∷ [])

  ends_more : (last : List ℕ) → length keys < no_place → key < length last → AreLast keys last → AreLast (keys ++ key ∷ []) (set last key (length keys))
  ends_more last few below was number place found =
      subst (λ (n : ℕ). IsLast (keys ++ key ∷ []) n number place) (sym longer) (elim (cases_eq number key) [
        | inl same ↦
            let here : slice_get (set last key (length keys)) number ≡ Some (length keys) = ap (slice_get (set last key (length keys))) same ∙ slice_get-set_same last key (length keys) below in
            let is : place ≡ length keys = same_Some place (length keys) (sym found ∙ here) in
            subst (λ (x : ℕ). IsLast (keys ++ key ∷ []) (length keys + 1) x place) (sym same)
            (subst (λ (x : ℕ). IsLast (keys ++ key ∷ []) (length keys + 1) key x) (sym is) (last_here few))
        | inr other ↦ last_other number place other (was number place (sym (slice_get-set_other last key number (length keys) other) ∙ found))
      ])

  links_more : (last before : List ℕ) (place : ℕ) → length keys + 1 < no_place → slice_get last key ≡ Some place → AreLast keys last → AreBefore keys before → AreBefore (keys ++ key ∷ []) (before ++ place ∷ [])
  links_more last before place few is ends was =
      record {
        long = length-append before (place ∷ []) ∙ (omega (arith, was.long) ∙ sym longer);
        few = omega (arith, few, longer);
        each = λ k number q stands found. elim (front_or_end before place k q found) [
          | inl h ↦
              let within : k < length keys = omega (arith, h.0, was.long) in
              last_longer k number q (omega (arith, within)) (was.each k number q (was_at keys key k number within stands) h.1)
          | inr h ↦
              let here : k ≡ length keys = h.0 ∙ was.long in
              let one : number ≡ key = same_Some number key (sym stands ∙ (ap (slice_get (keys ++ key ∷ [])) here ∙ at_end keys key)) in
              subst (λ (x : ℕ). IsLast (keys ++ key ∷ []) x number q) (sym here)
              (subst (λ (x : ℕ). IsLast (keys ++ key ∷ []) (length keys) x q) (sym one)
              (subst (IsLast (keys ++ key ∷ []) (length keys) key) (sym h.1) (last_longer (length keys) key place (omega arith) (ends key place is))))
        ];
      }

  pub chains_more : (last before : List ℕ) (place : ℕ) → length before + 1 < no_place → slice_get last key ≡ Some place → AreChains keys last before → AreChains (keys ++ key ∷ []) (set last key (length before)) (before ++ place ∷ [])
  chains_more last before place few is was =
      let l = was.links.long in
      record {
        ends = subst (λ (n : ℕ). AreLast (keys ++ key ∷ []) (set last key n)) (sym l) (ends_more last was.links.few (slice_get_within last key place is) was.ends);
        links = links_more last before place (omega (arith, few, l)) is was.ends was.links;
      }

-- a list of nothing
pub chains_none : AreChains [] [] []
chains_none =
    record {
      ends = λ number place found. absurd (let w = slice_get_within [] number place found in omega (arith, w));
      links = record {
        long = refl;
        few = omega arith;
        each = λ k number place stands found. absurd (let w = slice_get_within [] k place found in omega (arith, w));
      };
    }

-- one number more that may stand in the list, and stands nowhere
pub chains_wider : (keys last before : List ℕ) → All (λ k. k < length last) keys → AreChains keys last before → AreChains keys (last ++ no_place ∷ []) before
chains_wider keys last before below was =
    record {
      ends = λ number place found. elim (front_or_end last no_place number place found) [
        | inl h ↦ was.ends number place h.1
        | inr h ↦ record {
          stands = inl h.1;
          last = λ k within e.
              let d = All-contains (λ (n : ℕ). n < length last) keys number below (k, slice_get_within keys k number e, get_or_from_slice_get keys k number number e) in
              absurd (omega (arith, d, h.0));
        }
      ];
      links = was.links;
    }

pub all_below : (keys : List ℕ) (n m : ℕ) → n ≤ m → All (λ k. k < n) keys → All (λ k. k < m) keys
all_below keys n m within all k d l = let h = all k d l in omega (arith, h, within)

-- the places of chains fall, so a walk comes to an end
pub chains_fall : (keys last before : List ℕ) → AreChains keys last before → Falls before
chains_fall keys last before chains place next at below =
    let links = chains.links in
    let w = slice_get_within before place next at in
    let stands = slice_get-get_or keys place 0 (omega (arith, w, links.long)) in
    elim (links.each place (get_or keys place 0) next stands at).stands [
      | inl none ↦ absurd (omega (arith, none, below, links.long, links.few))
      | inr h ↦ h.0
    ]
