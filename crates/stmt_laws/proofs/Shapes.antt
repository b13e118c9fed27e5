-- What can be read at the front, with its actions, what holds of it before what is left, and what is done with the rest.
use Rattle.std.proofs.Common.{◌≡◌, ◌∙◌, List, refl, sym, ap, subst}
use Rattle.script_grammar.specs.Terminals.{Terminal}
use Rattle.stmt_machine.specs.Actions.{StmtAction}

-- what may be said of the terminals left to read and the actions left to do
abbrev pub Rest : Type 1
Rest = List Terminal → List StmtAction → Type 0

pub record Read {X : Type 0} (t : X → List Terminal → List Terminal) (a : X → List StmtAction → List StmtAction) (p : X → List Terminal → Type 0) (k : X → List Terminal → List StmtAction → Type 0) (ts : List Terminal) (acts : List StmtAction) : Type 0 where
  pub form : X
  pub left : List Terminal
  pub later : List StmtAction
  pub reads : t form left ≡ ts
  pub does : a form later ≡ acts
  pub holds : p form left
  pub goes_on : k form left later

-- a form with its rest stands at the front
pub here : {X : Type 0} {t : X → List Terminal → List Terminal} {a : X → List StmtAction → List StmtAction} {p : X → List Terminal → Type 0} {k : X → Rest}
    (x : X) (r : List Terminal) (bs : List StmtAction) → p x r → k x r bs → Read t a p k (t x r) (a x bs)
here x r bs h g = record { form = x; left = r; later = bs; reads = refl; does = refl; holds = h; goes_on = g }

-- a form made of another one, behind other terminals and actions
pub extend : {X Y : Type 0} {t : X → List Terminal → List Terminal} {a : X → List StmtAction → List StmtAction} {p : X → List Terminal → Type 0}
    {t' : Y → List Terminal → List Terminal} {a' : Y → List StmtAction → List StmtAction} {p' : Y → List Terminal → Type 0}
    {k : Rest} {ts : List Terminal} {acts : List StmtAction}
    (f : X → Y) (g : List Terminal → List Terminal) (h : List StmtAction → List StmtAction)
    → ((x : X) (r : List Terminal) → t' (f x) r ≡ g (t x r)) → ((x : X) (bs : List StmtAction) → a' (f x) bs ≡ h (a x bs)) → ((x : X) (r : List Terminal) → p x r → p' (f x) r)
    → Read t a p (λ x. k) ts acts → Read t' a' p' (λ y. k) (g ts) (h acts)
extend f g h et ea ep q = record { form = f q.form; left = q.left; later = q.later; reads = et q.form q.left ∙ ap g q.reads; does = ea q.form q.later ∙ ap h q.does; holds = ep q.form q.left q.holds; goes_on = q.goes_on }

-- one form of two, the second one behind the first, all behind other terminals and actions
pub pair : {X Y Z : Type 0} {t : X → List Terminal → List Terminal} {a : X → List StmtAction → List StmtAction} {p : X → List Terminal → Type 0}
    {t' : X → Y → List Terminal → List Terminal} {a' : X → Y → List StmtAction → List StmtAction} {p' : X → Y → List Terminal → Type 0}
    {t'' : Z → List Terminal → List Terminal} {a'' : Z → List StmtAction → List StmtAction} {p'' : Z → List Terminal → Type 0}
    {k : Rest} {ts : List Terminal} {acts : List StmtAction}
    (f : X → Y → Z) (g : List Terminal → List Terminal) (h : List StmtAction → List StmtAction)
    → ((x : X) (y : Y) (r : List Terminal) → t'' (f x y) r ≡ g (t x (t' x y r))) → ((x : X) (y : Y) (bs : List StmtAction) → a'' (f x y) bs ≡ h (a x (a' x y bs)))
    → ((x : X) (y : Y) (r : List Terminal) → p x (t' x y r) → p' x y r → p'' (f x y) r)
    → Read t a p (λ x. Read (t' x) (a' x) (p' x) (λ y. k)) ts acts → Read t'' a'' p'' (λ z. k) (g ts) (h acts)
pair {t = t} {a = a} {p = p} f g h et ea ep q =
    let s = q.goes_on in
    record {
      form = f q.form s.form;
      left = s.left;
      later = s.later;
      reads = et q.form s.form s.left ∙ ap g (ap (t q.form) s.reads ∙ q.reads);
      does = ea q.form s.form s.later ∙ ap h (ap (a q.form) s.does ∙ q.does);
      holds = ep q.form s.form s.left (subst (p q.form) (sym s.reads) q.holds) s.holds;
      goes_on = s.goes_on;
    }

-- the same form before a rest of which something else is said
pub onward : {X : Type 0} {t : X → List Terminal → List Terminal} {a : X → List StmtAction → List StmtAction} {p : X → List Terminal → Type 0} {k k' : X → Rest} {ts : List Terminal} {acts : List StmtAction}
    → ((x : X) (r : List Terminal) (bs : List StmtAction) → k x r bs → k' x r bs) → Read t a p k ts acts → Read t a p k' ts acts
onward n q = record { form = q.form; left = q.left; later = q.later; reads = q.reads; does = q.does; holds = q.holds; goes_on = n q.form q.left q.later q.goes_on }
