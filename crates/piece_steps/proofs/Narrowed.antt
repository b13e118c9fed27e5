-- A reader that fails sooner reads the same pieces, where it fails only at states from which no piece ends.
use Rattle.std.proofs.Common.{◌≡◌, ℕ, Bool, true, false, List, [], ◌∷◌, ◌++◌, refl, sym, ◌∙◌, ap}
use Rattle.std.specs.Prelude.{if◌then◌else◌}
use Rattle.piece_steps.specs.Languages.{Language}
use Rattle.piece_steps.specs.Readers.{Move, go, done, fail, Reader, whole, next, ends, kept, narrowed}
use Rattle.piece_steps.specs.Reads.{Reads}

-- each state behind a symbol from which a piece ends passes
abbrev pub AllPass : {P T S : Type 0} → (S → Bool) → Reader P T S → Type 0
AllPass {P} {T} {S} test r = (s g : S) (b : ℕ) (text rest : List ℕ) (behind : P) (tokens : List T) → r.step s b ≡ go g → ends r g text ≡ whole behind tokens rest → test g ≡ true

same_end : {P T S : Type 0} (test : S → Bool) (r : Reader P T S) → AllPass test r → (text : List ℕ) (s : S) (behind : P) (tokens : List T) (rest : List ℕ) → ends r s text ≡ whole behind tokens rest → ends (narrowed test r) s text ≡ whole behind tokens rest
same_end test r pass [] s behind tokens rest e = cc
same_end {P} {T} {S} test r pass (b ∷ bs) s behind tokens rest e = at (r.step s b) refl e (λ g q. same_end test r pass bs g behind tokens rest q)
  where
    by : (g : S) (x : Bool) → x ≡ true → ends (narrowed test r) g bs ≡ whole behind tokens rest → next (if x then go g else fail) (λ z. ends (narrowed test r) z bs) bs ≡ whole behind tokens rest
    by g true h e = e
    by g false h e = cc

    at : (m : Move P T S) → r.step s b ≡ m → next m (λ z. ends r z bs) bs ≡ whole behind tokens rest → ((g : S) → ends r g bs ≡ whole behind tokens rest → ends (narrowed test r) g bs ≡ whole behind tokens rest)
        → next (kept test m) (λ z. ends (narrowed test r) z bs) bs ≡ whole behind tokens rest
    at (go g) q e ih = by g (test g) (pass s g b bs rest behind tokens q e) (ih g e)
    at (done place given) q e ih = e
    at fail q e ih = cc

back_end : {P T S : Type 0} (test : S → Bool) (r : Reader P T S) → (text : List ℕ) (s : S) (behind : P) (tokens : List T) (rest : List ℕ) → ends (narrowed test r) s text ≡ whole behind tokens rest → ends r s text ≡ whole behind tokens rest
back_end test r [] s behind tokens rest e = cc
back_end {P} {T} {S} test r (b ∷ bs) s behind tokens rest e = at (r.step s b) e (λ g q. back_end test r bs g behind tokens rest q)
  where
    by : (g : S) (x : Bool) → next (if x then go g else fail) (λ z. ends (narrowed test r) z bs) bs ≡ whole behind tokens rest → ends (narrowed test r) g bs ≡ whole behind tokens rest
    by g true e = e
    by g false e = cc

    at : (m : Move P T S) → next (kept test m) (λ z. ends (narrowed test r) z bs) bs ≡ whole behind tokens rest → ((g : S) → ends (narrowed test r) g bs ≡ whole behind tokens rest → ends r g bs ≡ whole behind tokens rest)
        → next m (λ z. ends r z bs) bs ≡ whole behind tokens rest
    at (go g) e ih = ih g (by g (test g) e)
    at (done place given) e ih = e
    at fail e ih = cc

pub narrowed_reads : {P Q T S : Type 0} (l : Language P Q T) (test : S → Bool) (r : Reader P T S) → Reads l r → AllPass test r → Reads l (narrowed test r)
narrowed_reads {P} {Q} {T} {S} l test r f pass = record {
  closed = f.closed;
  opens = λ s g b e. opens s g b (r.step s b) refl e;
  complete = λ place p rest h. same_end test r pass (l.spell p ++ rest) (r.first place) (l.after place p) (l.tokens p) rest (f.complete place p rest h);
  sound = λ place behind tokens text rest e. f.sound place behind tokens text rest (back_end test r text (r.first place) behind tokens rest e);
}
  where
    same : (s g : S) → (let z : Move P T S = go s in z ≡ go g) → s ≡ g
    same s g e = cc

    by : (s h g : S) (b : ℕ) → r.step s b ≡ go h → (x : Bool) → (let z : Move P T S = if x then go h else fail in z ≡ go g) → r.is_open g ≡ true
    by s h g b q true e = ap r.is_open (sym (same h g e)) ∙ f.opens s h b q
    by s h g b q false e = cc

    opens : (s g : S) (b : ℕ) (m : Move P T S) → r.step s b ≡ m → kept test m ≡ go g → r.is_open g ≡ true
    opens s g b (go h) q e = by s h g b q (test h) e
    opens s g b (done place given) q e = cc
    opens s g b fail q e = cc
