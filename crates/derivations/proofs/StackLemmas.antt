-- Pieces on a stack.
use Rattle.std.proofs.Common.{◌≡◌, ℕ, ◌+◌, ◌<◌, ◌≤◌, List, [], ◌∷◌, ◌++◌, length, Option, None, Some, refl, sym, ◌∙◌, ap, subst, arith, slice_get, append_assoc}
use Rattle.std.specs.Prelude.{option_to_list}
use Rattle.std.proofs.lemmas.List.{append-nil}
use Rattle.derivations.specs.declared.fork.Piece.{Piece}
use Rattle.derivations.specs.declared.fork.Piece.TheVariants.{Fork as AtFork}
use Rattle.derivations.specs.declared.fork.Fork.{Fork}
use Rattle.derivations.specs.Forks.{AreForks, bytes_at, maybe_bytes, rank, maybe_rank}
use Rattle.derivations.specs.Stacked.{pending, AreStacked}
use Rattle.derivations.proofs.ForkLemmas.{longer, at_fork}

pub pending_push : (forks : List Fork) (s : List Piece) (p : Piece) → pending forks (s ++ p ∷ []) ≡ bytes_at forks p ++ pending forks s
pending_push forks [] p = sym (append-nil (bytes_at forks p))
pending_push forks (q ∷ s) p = ap (λ (v : List ℕ). v ++ bytes_at forks q) (pending_push forks s p) ∙ append_assoc (bytes_at forks p) (pending forks s) (bytes_at forks q)

stacked_push : (n place : ℕ) (s : List Piece) (p : Piece) → AreStacked n place s → place + length s + rank p ≤ n → AreStacked n place (s ++ p ∷ [])
stacked_push n place [] p h k = (omega (arith, k), tt)
stacked_push n place (q ∷ s) p h k = (h.0, stacked_push n (place + 1) s p h.1 (omega (arith, k)))

stacked_front : (n place : ℕ) (s : List Piece) (p : Piece) → AreStacked n place (s ++ p ∷ []) → AreStacked n place s
stacked_front n place [] p h = tt
stacked_front n place (q ∷ s) p h = (h.0, stacked_front n (place + 1) s p h.1)

stacked_last : (n place : ℕ) (s : List Piece) (p : Piece) → AreStacked n place (s ++ p ∷ []) → place + length s + rank p ≤ n
stacked_last n place [] p h = let k = h.0 in omega (arith, k)
stacked_last n place (q ∷ s) p h = let k = stacked_last n (place + 1) s p h.1 in omega (arith, k)

-- a piece is taken off the stack, and what is before it is what is to be written
pub record Descends (forks : List Fork) (all : List ℕ) (stack : List Piece) (p : Piece) : Type 0 where
  pub made : bytes_at forks p ++ pending forks stack ≡ all
  pub stacked : AreStacked (length forks) 0 stack
  pub fits : length stack + rank p ≤ length forks

pub popped : (forks : List Fork) (old new : List Piece) (p : Piece) → AreStacked (length forks) 0 old → old ≡ new ++ option_to_list (Some p) → Descends forks (pending forks old) new p
popped forks old new p h is =
    let all = subst (AreStacked (length forks) 0) is h in
    record {
      made = sym (ap (pending forks) is ∙ pending_push forks new p);
      stacked = stacked_front (length forks) 0 new p all;
      fits = let k = stacked_last (length forks) 0 new p all in omega (arith, k);
    }

pub went_down : (forks : List Fork) (all : List ℕ) (old new : List Piece) (place : ℕ) (f : Fork) (p : Piece) → AreForks forks → Descends forks all old (AtFork place) → slice_get forks place ≡ Some f → p ≡ f.first → new ≡ old ++ f.second ∷ [] → Descends forks all new p
went_down forks all old new place f p lawful d at first is =
    let a = lawful.first place f at in
    let b = lawful.second place f at in
    let k = d.fits in
    let l = longer old f.second in
    let m = ap (λ (s : List Piece). length s) is in
    let low : rank p ≤ place = subst (λ (q : Piece). rank q ≤ place) (sym first) a in
    record {
      made = ap (λ (s : List Piece). bytes_at forks p ++ pending forks s) is
          ∙ ap (λ (v : List ℕ). bytes_at forks p ++ v) (pending_push forks old f.second)
          ∙ sym (append_assoc (bytes_at forks p) (bytes_at forks f.second) (pending forks old))
          ∙ ap (λ (q : Piece). (bytes_at forks q ++ bytes_at forks f.second) ++ pending forks old) first
          ∙ ap (λ (v : List ℕ). v ++ pending forks old) (sym (at_fork forks place f lawful at))
          ∙ d.made;
      stacked = subst (AreStacked (length forks) 0) (sym is) (stacked_push (length forks) 0 old f.second d.stacked (omega (arith, k, b)));
      fits = omega (arith, k, l, m, low);
    }

pub first_below : (forks : List Fork) (place : ℕ) (f : Fork) (p : Piece) → AreForks forks → slice_get forks place ≡ Some f → p ≡ f.first → rank p < place + 1
first_below forks place f p lawful at first =
    let a = lawful.first place f at in
    subst (λ (q : Piece). rank q < place + 1) (sym first) (omega (arith, a))

-- the root alone
pub root_stacked : (n : ℕ) (root : Option Piece) → maybe_rank root ≤ n → AreStacked n 0 (option_to_list root)
root_stacked n None h = tt
root_stacked n (Some p) h = (omega (arith, h), tt)

pub root_pending : (forks : List Fork) (root : Option Piece) → pending forks (option_to_list root) ≡ maybe_bytes forks root
root_pending forks None = refl
root_pending forks (Some p) = refl
