-- What a table offers as a machine.
use Rattle.std.proofs.Common.{◌≡◌, ℕ, ◌+◌, ◌<◌, ◌≤◌, ◌↔◌, inl, inr, IsTrue, zero, suc, List, [], ◌∷◌, ◌++◌, length, map, take, get_or, Contains, All, ltb, ◌&&◌, sym, ◌∙◌, ap, subst, arith}
use Rattle.std.proofs.lemmas.List.{take_more, take_all}
use Rattle.std.proofs.lemmas.List.Elements.{Contains-push_cases, Contains-append_left, Contains-push, All-push, All-nil}
use Rattle.std.proofs.lemmas.Bool.{ltb-true}
use Rattle.std.specs.Cmp.{first_so, second_so}
use Rattle.std.specs.List.{list_all}
use Rattle.std.specs.declared.vec.Vec.{Vec}
use Rattle.std.specs.declared.alloc.Global.{Global}
use Rattle.text_base.specs.declared.byte_range.ByteRange.{ByteRange}
use Rattle.text_base.specs.ByteRange.{InRange, InBoth}
use Rattle.text_base.specs.declared.letter.Letter.{Letter}
use Rattle.fst_core.specs.Letter.{letter_of}
use Rattle.fst_core.specs.Offers.{Offers, OffersLast, IsWithin, StepBy, StopOf, OffersMore, OffersLastMore}
use Rattle.fst_core.specs.Tables.{TableStep, TableStop}
use Rattle.fst_core.specs.Fits.{is_fixed, moves_fit, ends_fit}
use Rattle.fst_core.specs.declared.out.Out.{Out}
use Rattle.fst_core.specs.declared.machine.Move.{Move}
use Rattle.fst_core.specs.declared.moves.TableMove.{TableMove}
use Rattle.fst_core.specs.declared.moves.TableEnd.{TableEnd}

-- the move is none of the state by these bytes
pub offers_same : (old : List (Move ℕ)) (m : TableMove) (s : ℕ) (range : ByteRange) → ((byte : ℕ) → InRange range byte → m.from ≡ s → InRange m.range byte → ⊥) → OffersMore old old m s range
offers_same old m s range none =
    record {
      exact = λ byte h t letters. (λ o. inl o, λ o. elim o [ inl f ↦ f | inr f ↦ absurd (none byte h f.0 f.1) ]);
      within = λ a. a;
      given = λ n h a. a;
    }

-- the move is offered
pub offers_push : (old new : List (Move ℕ)) (m : TableMove) (s : ℕ) (range met : ByteRange) (x : Move ℕ) → m.from ≡ s → new ≡ old ++ x ∷ [] → x.range ≡ met → x.out.items ≡ m.out.items → x.to ≡ m.to → ((byte : ℕ) → InRange met byte ↔ InBoth m.range range byte) → OffersMore old new m s range
offers_push old new m s range met x from e r o t both =
    record {
      exact = λ byte h u letters. (
        λ f. elim (Contains-push_cases old x f.0 (subst (λ (y : List (Move ℕ)). Contains y f.0) e f.1)) [
          | inl d ↦ inl (f.0, d, f.2, f.3, f.4)
          | inr d ↦
              let z : x ≡ f.0 = d in
              let i : InRange met byte = subst (λ (y : ByteRange). InRange y byte) (ap (λ (y : Move ℕ). y.range) (sym z) ∙ r) f.2 in
              inr (
                from,
                ((both byte).0 i).0,
                sym t ∙ ap (λ (y : Move ℕ). y.to) z ∙ f.3,
                ap (λ (y : List Out). map (letter_of byte) y) (sym o ∙ ap (λ (y : Move ℕ). y.out.items) z) ∙ f.4,
              )
        ],
        λ f. elim f [
          | inl d ↦ (d.0, subst (λ (y : List (Move ℕ)). Contains y d.0) (sym e) (Contains-append_left old (x ∷ []) d.0 d.1), d.2, d.3, d.4)
          | inr d ↦
              let i : InRange x.range byte = subst (λ (y : ByteRange). InRange y byte) (sym r) ((both byte).1 (d.1, h)) in (
                x,
                subst (λ (y : List (Move ℕ)). Contains y x) (sym e) (Contains-push old x),
                i,
                t ∙ d.2,
                ap (λ (y : List Out). map (letter_of byte) y) o ∙ d.3,
              )
        ],
      );
      within = λ a.
          let lo = (both met.lo).0 (omega arith, met.ordered) in
          let hi = (both met.hi).0 (met.ordered, omega arith) in
          let w : IsWithin range x = subst (λ (y : ByteRange). (range.lo ≤ y.lo) × (y.hi ≤ range.hi)) (sym r) (lo.1.0, hi.1.1) in
          subst (λ (y : List (Move ℕ)). All (IsWithin range) y) (sym e) (All-push (IsWithin range) old x a w);
      given = λ n h a.
          let w : x.to < n = omega (arith, t) in
          subst (λ (y : List (Move ℕ)). All (λ (z : Move ℕ). z.to < n) y) (sym e) (All-push (λ (z : Move ℕ). z.to < n) old x a w);
    }

-- what the first moves of a table offer
pub record OffersFirst (moves : List TableMove) (i : ℕ) (offered : List (Move ℕ)) (s states : ℕ) (range : ByteRange) : Type 0 where
  pub exact : (byte : ℕ) → InRange range byte → (t : ℕ) (letters : List Letter) → Offers offered byte t letters ↔ TableStep (take i moves) s byte t letters
  pub within : All (IsWithin range) offered
  pub given : All (λ (x : Move ℕ). x.to < states) offered

pub offers_none : (moves : List TableMove) (s states : ℕ) (range : ByteRange) → OffersFirst moves 0 [] s states range
offers_none moves s states range =
    record {
      exact = λ byte h t letters. (λ o. absurd (omega (arith, o.1.1)), λ o. absurd (omega (arith, o.1.1)));
      within = All-nil (IsWithin range);
      given = All-nil (λ (x : Move ℕ). x.to < states);
    }

pub offers_more : (moves : List TableMove) (i : ℕ) (m : TableMove) (old new : List (Move ℕ)) (s states : ℕ) (range : ByteRange) → i < length moves → m ≡ get_or moves i m → m.to < states → OffersFirst moves i old s states range → OffersMore old new m s range → OffersFirst moves (i + 1) new s states range
offers_more moves i m old new s states range h is fits before more =
    let e : take (i + 1) moves ≡ take i moves ++ m ∷ [] = take_more moves i m h ∙ ap (λ (y : TableMove). take i moves ++ y ∷ []) (sym is) in
    record {
      exact = λ byte r t letters. (
        λ o. elim ((more.exact byte r t letters).0 o) [
          | inl f ↦
              let k = (before.exact byte r t letters).0 f in
              (k.0, subst (λ (y : List TableMove). Contains y k.0) (sym e) (Contains-append_left (take i moves) (m ∷ []) k.0 k.1), k.2, k.3, k.4, k.5)
          | inr f ↦ (m, subst (λ (y : List TableMove). Contains y m) (sym e) (Contains-push (take i moves) m), f.0, f.1, f.2, f.3)
        ],
        λ k. (more.exact byte r t letters).1 (elim (Contains-push_cases (take i moves) m k.0 (subst (λ (y : List TableMove). Contains y k.0) e k.1)) [
          | inl d ↦ inl ((before.exact byte r t letters).1 (k.0, d, k.2, k.3, k.4, k.5))
          | inr d ↦ inr (subst (λ (y : TableMove). StepBy y s byte t letters) (sym d) (k.2, k.3, k.4, k.5))
        ]),
      );
      within = more.within before.within;
      given = more.given states fits before.given;
    }

pub offers_all : (moves : List TableMove) (i : ℕ) (offered : List (Move ℕ)) (s states : ℕ) (range : ByteRange) → length moves ≤ i → OffersFirst moves i offered s states range → (byte : ℕ) → InRange range byte → (t : ℕ) (letters : List Letter) → Offers offered byte t letters ↔ TableStep moves s byte t letters
offers_all moves i offered s states range h before byte r t letters =
    subst (λ (y : List TableMove). Offers offered byte t letters ↔ TableStep y s byte t letters) (take_all i moves h) (before.exact byte r t letters)

-- the state that a move leads to is one of the table's
pub to_within : (states : ℕ) (moves : List TableMove) (i : ℕ) (d : TableMove) → IsTrue (moves_fit states moves) → i < length moves → (get_or moves i d).to < states
to_within states [] i d t h = absurd (omega arith)
to_within states (m ∷ moves) zero d t h = ltb-true m.to states (second_so (ltb m.from states) (ltb m.to states) (first_so (ltb m.from states && ltb m.to states) (moves_fit states moves) t))
to_within states (m ∷ moves) (suc i) d t h = to_within states moves i d (second_so (ltb m.from states && ltb m.to states) (moves_fit states moves) t) (omega arith)

-- what an end puts out depends on no byte
pub out_fixed : (states : ℕ) (ends : List TableEnd) (i : ℕ) (d : TableEnd) → IsTrue (ends_fit states ends) → i < length ends → IsTrue (list_all is_fixed (get_or ends i d).out.items)
out_fixed states [] i d t h = absurd (omega arith)
out_fixed states (e ∷ ends) zero d t h = second_so (ltb e.state states) (list_all is_fixed e.out.items) (first_so (ltb e.state states && list_all is_fixed e.out.items) (ends_fit states ends) t)
out_fixed states (e ∷ ends) (suc i) d t h = out_fixed states ends i d (second_so (ltb e.state states && list_all is_fixed e.out.items) (ends_fit states ends) t) (omega arith)

-- the end is none of the state
pub lasts_same : (old : List (Vec Out Global)) (e : TableEnd) (s : ℕ) → (e.state ≡ s → ⊥) → OffersLastMore old old e s
lasts_same old e s differs =
    record { exact = λ letters. (λ o. inl o, λ o. elim o [ inl f ↦ f | inr f ↦ absurd (differs f.0) ]); fixed = λ f a. a }

-- the end is offered
pub lasts_push : (old new : List (Vec Out Global)) (e : TableEnd) (s : ℕ) (x : Vec Out Global) → e.state ≡ s → new ≡ old ++ x ∷ [] → x.items ≡ e.out.items → OffersLastMore old new e s
lasts_push old new e s x state eq o =
    record {
      exact = λ letters. (
        λ f. elim (Contains-push_cases old x f.0 (subst (λ (y : List (Vec Out Global)). Contains y f.0) eq f.1)) [
          | inl d ↦ inl (f.0, d, f.2)
          | inr d ↦ inr (state, ap (λ (y : List Out). map (letter_of 0) y) (sym o ∙ ap (λ (y : Vec Out Global). y.items) d) ∙ f.2)
        ],
        λ f. elim f [
          | inl d ↦ (d.0, subst (λ (y : List (Vec Out Global)). Contains y d.0) (sym eq) (Contains-append_left old (x ∷ []) d.0 d.1), d.2)
          | inr d ↦ (x, subst (λ (y : List (Vec Out Global)). Contains y x) (sym eq) (Contains-push old x), ap (λ (y : List Out). map (letter_of 0) y) o ∙ d.1)
        ],
      );
      fixed = λ f a.
          let w : IsTrue (list_all is_fixed x.items) = subst (λ (y : List Out). IsTrue (list_all is_fixed y)) (sym o) f in
          subst (λ (y : List (Vec Out Global)). All (λ (z : Vec Out Global). IsTrue (list_all is_fixed z.items)) y) (sym eq) (All-push (λ (z : Vec Out Global). IsTrue (list_all is_fixed z.items)) old x a w);
    }

-- what the first ends of a table offer
pub record LastsFirst (ends : List TableEnd) (i : ℕ) (lasts : List (Vec Out Global)) (s : ℕ) : Type 0 where
  pub exact : (letters : List Letter) → OffersLast lasts letters ↔ TableStop (take i ends) s letters
  pub fixed : All (λ (z : Vec Out Global). IsTrue (list_all is_fixed z.items)) lasts

pub lasts_none : (ends : List TableEnd) (s : ℕ) → LastsFirst ends 0 [] s
lasts_none ends s =
    record {
      exact = λ letters. (λ o. absurd (omega (arith, o.1.1)), λ o. absurd (omega (arith, o.1.1)));
      fixed = All-nil (λ (z : Vec Out Global). IsTrue (list_all is_fixed z.items));
    }

pub lasts_more : (ends : List TableEnd) (i : ℕ) (e : TableEnd) (old new : List (Vec Out Global)) (s : ℕ) → i < length ends → e ≡ get_or ends i e → IsTrue (list_all is_fixed e.out.items) → LastsFirst ends i old s → OffersLastMore old new e s → LastsFirst ends (i + 1) new s
lasts_more ends i e old new s h is fixed before more =
    let q : take (i + 1) ends ≡ take i ends ++ e ∷ [] = take_more ends i e h ∙ ap (λ (y : TableEnd). take i ends ++ y ∷ []) (sym is) in
    record {
      exact = λ letters. (
        λ o. elim ((more.exact letters).0 o) [
          | inl f ↦
              let k = (before.exact letters).0 f in
              (k.0, subst (λ (y : List TableEnd). Contains y k.0) (sym q) (Contains-append_left (take i ends) (e ∷ []) k.0 k.1), k.2, k.3)
          | inr f ↦ (e, subst (λ (y : List TableEnd). Contains y e) (sym q) (Contains-push (take i ends) e), f.0, f.1)
        ],
        λ k. (more.exact letters).1 (elim (Contains-push_cases (take i ends) e k.0 (subst (λ (y : List TableEnd). Contains y k.0) q k.1)) [
          | inl d ↦ inl ((before.exact letters).1 (k.0, d, k.2, k.3))
          | inr d ↦ inr (subst (λ (y : TableEnd). StopOf y s letters) (sym d) (k.2, k.3))
        ]),
      );
      fixed = more.fixed fixed before.fixed;
    }

pub lasts_all : (ends : List TableEnd) (i : ℕ) (lasts : List (Vec Out Global)) (s : ℕ) → length ends ≤ i → LastsFirst ends i lasts s → (letters : List Letter) → OffersLast lasts letters ↔ TableStop ends s letters
lasts_all ends i lasts s h before letters =
    subst (λ (y : List TableEnd). OffersLast lasts letters ↔ TableStop y s letters) (take_all i ends h) (before.exact letters)
