-- The points of writes and of calls are of their form.
use Rattle.std.proofs.Common.{◌≡◌, ℕ, zero, suc, ◌+◌, ◌<◌, ◌≤◌, List, [], ◌∷◌, ◌++◌, length, Some, None, Option, sym, ap, ◌∙◌, arith, Bool, true, false, take, drop, flat_map, slice_get}
use Rattle.std.specs.List.{AllByRecursion}
use Rattle.std.proofs.lemmas.List.Elements.{All-from_recursion}
use Rattle.plain_values.specs.Plain.{null}
use Rattle.plain_values.specs.Lawful.{IsValue}
use Rattle.php_syntax.specs.declared.tree.UpdateSign.{UpdateSign}
use Rattle.php_syntax.specs.declared.tree.UpdateSign.TheVariants as update
use Rattle.php_syntax.specs.declared.tree.ArithSign.TheVariants.{Add, Sub, Mul, Rem}
use Rattle.flow_code.specs.Points.{PlainKeyRef, literal_source, number_source, call_point, PlainFlowFunction}
use Rattle.flow_code.specs.Variables.{Name}
use Rattle.flow_code.specs.Code.{Code, both}
use Rattle.flow_code.specs.Expressions.{Scope, variable, written, stored, member_at, members_along, old_value, updating, updated_at, filled, update_code, step_code, step_work, called}
use Rattle.flow_code.specs.Lawful.{maybe_key_slots, source_reads, reads, sets, nexts, IsOwnSlot, IsOwnPoint, IsMaybeKey, PointFits, arithmetic, up as step_up, down as step_down}
use Rattle.flow_runs.proofs.Frames.{free}
use Rattle.flow_runs.proofs.Names.{Has}
use Rattle.flow_runs.proofs.Writes.{Keys}
use Rattle.flow_runs.proofs.FitCodes.{AllOwn, AllFit, SourceIs, all_both, Lies, last_slot, last_point, CodeFits, own_temporary, own_variable, own_point, some_own, set_fits, branch_fits, copy_is, present_is, fits_both}

-- a key, and the keys of a path
abbrev pub KeyIs : PlainFlowFunction → Option PlainKeyRef → Type 0
KeyIs g k = AllOwn g (maybe_key_slots k) × IsMaybeKey k

abbrev pub KeysAre : PlainFlowFunction → Keys → Type 0
KeysAre g ks = AllOwn g (flat_map maybe_key_slots ks) × AllByRecursion IsMaybeKey ks

abbrev pub WriteIs : PlainFlowFunction → Keys × ℕ → Type 0
WriteIs g p = KeysAre g p.0 × IsOwnSlot g p.1

pub keys_more : (g : PlainFlowFunction) (k : Option PlainKeyRef) (ks : Keys) → KeyIs g k → KeysAre g ks → KeysAre g (k ∷ ks)
keys_more g k ks h hs = (all_both (IsOwnSlot g) (maybe_key_slots k) (flat_map maybe_key_slots ks) h.0 hs.0, (h.1, hs.1))

pub keys_one : (g : PlainFlowFunction) (xs ys : List ℕ) → AllOwn g (xs ++ ys) → AllOwn g xs
keys_one g [] ys h = tt
keys_one g (x ∷ xs) ys h = (h.0, keys_one g xs ys h.1)

pub keys_rest : (g : PlainFlowFunction) (xs ys : List ℕ) → AllOwn g (xs ++ ys) → AllOwn g ys
keys_rest g [] ys h = h
keys_rest g (x ∷ xs) ys h = keys_rest g xs ys h.1

split_keys : (g : PlainFlowFunction) (ks : Keys) → KeysAre g ks → AllByRecursion (KeyIs g) ks
split_keys g [] h = tt
split_keys g (k ∷ ks) h = ((keys_one g (maybe_key_slots k) (flat_map maybe_key_slots ks) h.0, (h.1).0), split_keys g ks (keys_rest g (maybe_key_slots k) (flat_map maybe_key_slots ks) h.0, (h.1).1))

cons_some : (k : Option PlainKeyRef) (ks : Keys) → (k ∷ ks) ≡ [] → ⊥
cons_some k ks e = cc

pub written_is : (g : PlainFlowFunction) (x v : ℕ) (ks : Keys) → KeysAre g ks → IsOwnSlot g x → IsOwnSlot g v → SourceIs g (written x ks v)
unfolding source_reads
written_is g x v [] hs hx hv = copy_is g v hv
written_is g x v (k ∷ ks) hs hx hv = (all_both (IsOwnSlot g) (x ∷ flat_map maybe_key_slots (k ∷ ks)) (v ∷ []) (hx, hs.0) (hv, tt), (cons_some k ks, All-from_recursion IsMaybeKey (k ∷ ks) hs.1))

null_value : IsValue null
null_value = record { parts = tt; shallow = omega arith }

pub null_is : (g : PlainFlowFunction) → SourceIs g (literal_source null)
unfolding source_reads
null_is g = (tt, null_value)

member_is : (g : PlainFlowFunction) (x : ℕ) (k : Option PlainKeyRef) → IsOwnSlot g x → KeyIs g k → SourceIs g (member_at x k)
unfolding source_reads
member_is g x None hx h = null_is g
member_is g x (Some k) hx h = ((hx, h.0), h.1)

updating_is : (g : PlainFlowFunction) (sign : UpdateSign) (x y : ℕ) → IsOwnSlot g x → IsOwnSlot g y → SourceIs g (updating sign x y)
unfolding updating source_reads
updating_is g update.Join x y hx hy = ((hx, (hy, tt)), tt)
updating_is g update.Add x y hx hy = ((hx, (hy, tt)), arithmetic Add x y)
updating_is g update.Sub x y hx hy = ((hx, (hy, tt)), arithmetic Sub x y)
updating_is g update.Mul x y hx hy = ((hx, (hy, tt)), arithmetic Mul x y)
updating_is g update.Rem x y hx hy = ((hx, (hy, tt)), arithmetic Rem x y)
updating_is g update.Coalesce x y hx hy = copy_is g y hy

step_is : (g : PlainFlowFunction) (up' : Bool) (x : ℕ) → IsOwnSlot g x → SourceIs g (number_source (step_work up') (x ∷ []))
unfolding source_reads
step_is g true x hx = ((hx, tt), step_up x)
step_is g false x hx = ((hx, tt), step_down x)

all_front : (g : PlainFlowFunction) (n : ℕ) (xs : List ℕ) → AllOwn g xs → AllOwn g (take n xs)
all_front g zero xs h = tt
all_front g (suc n) [] h = tt
all_front g (suc n) (x ∷ xs) h = (h.0, all_front g n xs h.1)

handed_long : {A : Type 0} (ps : List A) (xs ys : List ℕ) → length ys ≡ length (drop (length xs) ps) → length (take (length ps) xs ++ ys) ≡ length ps
handed_long [] [] ys e = e
handed_long [] (x ∷ xs) ys e = e
handed_long (p ∷ ps) [] ys e = e
handed_long (p ∷ ps) (x ∷ xs) ys e = let h = handed_long ps xs ys e in omega (arith, h)

-- slots of so many values
abbrev pub SlotsAre : PlainFlowFunction → ℕ → List ℕ → Type 0
SlotsAre g n xs = AllOwn g xs × (length xs ≡ n)

members_fit : (fs : List PlainFlowFunction) (g : PlainFlowFunction) (w : Scope) → Lies g w → (ks : Keys) (x p t : ℕ) → AllByRecursion (KeyIs g) ks → IsOwnSlot g x → g.first_point_of ≤ p → p + length ks < last_point g → free w ≤ t → t + length ks ≤ last_slot g → AllFit fs g (members_along x ks p t)
unfolding members_along
members_fit fs g w lies [] x p t hs hx lp up lt ut = tt
members_fit fs g w lies (k ∷ ks) x p t hs hx lp up lt ut =
    let own = own_temporary lies t lt (omega (arith, ut)) in (
      set_fits t (p + 1) (member_at x k) own (member_is g x k hx hs.0) (own_point (p + 1) (omega (arith, lp)) (omega (arith, up))),
      members_fit fs g w lies ks t (p + 1) (t + 1) hs.1 own (omega (arith, lp)) (omega (arith, up)) (omega (arith, lt)) (omega (arith, ut)),
    )

module _ {fs : List PlainFlowFunction} {g : PlainFlowFunction} where
  call_fits : (x n next : ℕ) (args : List ℕ) (h : PlainFlowFunction) → IsOwnSlot g x → AllOwn g args → IsOwnPoint g next → slice_get fs n ≡ Some h → length args ≡ length h.params_of → PointFits fs g (call_point x n args next)
  unfolding reads sets nexts
  call_fits x n next args h hx ha hn is long = record {
    reads_own = All-from_recursion (IsOwnSlot g) args ha;
    sets_own = λ y e. some_own g x y hx e;
    stays = All-from_recursion (IsOwnPoint g) (next ∷ []) (hn, tt);
    parts = (h, is, long);
  }

module _ {fs : List PlainFlowFunction} {g : PlainFlowFunction} {w : Scope} (lies : Lies g w) where
  pub fits_stored : {a : Code (Keys × ℕ)} (x : Name) → Has w.names x → CodeFits fs g w (Keys × ℕ) a (WriteIs g) → CodeFits fs g w ℕ (stored (variable w x) a) (IsOwnSlot g)
  fits_stored {a} x hx d = record {
    fits = λ p t lp up lt ut.
        let is = d.gives t lt ut in
        let own = own_variable w lies x hx in
        all_both (PointFits fs g) _ _ (d.fits p t lp (omega (arith, up)) lt ut) (set_fits (variable w x) (p + a.size + 1) _ own (written_is g (variable w x) (a.gives t).1 (a.gives t).0 is.0 own is.1) (own_point (p + a.size + 1) (omega (arith, lp)) (omega (arith, up))), tt);
    gives = λ t lt ut. (d.gives t lt ut).1;
  }

  pub fits_old : {path : Code Keys} (x : Name) (n : ℕ) → Has w.names x → ((t : ℕ) → length (path.gives t) ≡ n) → CodeFits fs g w Keys path (KeysAre g) → CodeFits fs g w (Keys × ℕ) (old_value (variable w x) n path) (WriteIs g)
  fits_old {path} x n hx count d = record {
    fits = λ p t lp up lt ut.
        let keys = d.gives t lt (omega (arith, ut)) in
        let y = t + path.slots in
        let c = count t in
        let own = own_temporary lies y (omega (arith, lt)) (omega (arith, ut)) in
        all_both (PointFits fs g) _ _ (d.fits p t lp (omega (arith, up)) lt (omega (arith, ut))) (
          set_fits y (p + path.size + 1) _ own (copy_is g _ (own_variable w lies x hx)) (own_point (p + path.size + 1) (omega (arith, lp)) (omega (arith, up))),
          members_fit fs g w lies (path.gives t) y (p + path.size + 1) (y + 1) (split_keys g (path.gives t) keys) own (omega (arith, lp)) (omega (arith, c, up)) (omega (arith, lt)) (omega (arith, c, ut)),
        );
    gives = λ t lt ut. (d.gives t lt (omega (arith, ut)), own_temporary lies (t + path.slots + n) (omega (arith, lt)) (omega (arith, ut)));
  }

  pub fits_updated : {old : Code (Keys × ℕ)} {right : Code ℕ} (sign : UpdateSign) (x : Name) → Has w.names x → CodeFits fs g w (Keys × ℕ) old (WriteIs g) → CodeFits fs g w ℕ right (IsOwnSlot g) → CodeFits fs g w ℕ (updated_at sign (variable w x) old right) (IsOwnSlot g)
  fits_updated {old} {right} sign x hx d e =
      let parts : Code ((Keys × ℕ) × ℕ) = both old right (λ a b. (a, b)) in
      let k : CodeFits fs g w ((Keys × ℕ) × ℕ) parts (λ p. WriteIs g p.0 × IsOwnSlot g p.1) = fits_both (λ (p : (Keys × ℕ) × ℕ). WriteIs g p.0 × IsOwnSlot g p.1) (λ a b. (a, b)) (λ a b ha hb. (ha, hb)) d e in
      fits_stored x hx (record {
        fits = λ p t lp up lt ut.
            let is = k.gives t lt (omega (arith, ut)) in
            let y = t + parts.slots in
            all_both (PointFits fs g) _ _ (k.fits p t lp (omega (arith, up)) lt (omega (arith, ut)))
            (set_fits y (p + parts.size + 1) _ (own_temporary lies y (omega (arith, lt)) (omega (arith, ut))) (updating_is g sign ((parts.gives t).0).1 (parts.gives t).1 (is.0).1 is.1) (own_point (p + parts.size + 1) (omega (arith, lp)) (omega (arith, up))), tt);
        gives = λ t lt ut. (((k.gives t lt (omega (arith, ut))).0).0, own_temporary lies (t + parts.slots) (omega (arith, lt)) (omega (arith, ut)));
      })

  pub fits_filled : {a : Code (Keys × ℕ)} {b : Code ℕ} (x : Name) → Has w.names x → CodeFits fs g w (Keys × ℕ) a (WriteIs g) → CodeFits fs g w ℕ b (IsOwnSlot g) → CodeFits fs g w ℕ (filled (variable w x) a b) (IsOwnSlot g)
  fits_filled {a} {b} x hx d e = record {
    fits = λ p t lp up lt ut.
        let test = t + a.slots in
        let left = p + a.size + 1 + 1 in
        let copied = left + 1 + b.size in
        let result = test + 1 + b.slots in
        let is = d.gives t lt (omega (arith, ut)) in
        let own_b = e.gives (test + 1) (omega (arith, lt)) (omega (arith, ut)) in
        let own_test = own_temporary lies test (omega (arith, lt)) (omega (arith, ut)) in
        let own_result = own_temporary lies result (omega (arith, lt)) (omega (arith, ut)) in
        let own = own_variable w lies x hx in
        let behind = own_point {g = g} (copied + 1 + 1) (omega (arith, lp)) (omega (arith, up)) in
        all_both (PointFits fs g) _ _ (d.fits p t lp (omega (arith, up)) lt (omega (arith, ut))) (
          set_fits test _ _ own_test (present_is g _ is.1) (own_point (p + a.size + 1) (omega (arith, lp)) (omega (arith, up))),
          (
            branch_fits test left (left + 1) own_test (own_point left (omega (arith, lp)) (omega (arith, up))) (own_point (left + 1) (omega (arith, lp)) (omega (arith, up))),
            (
              set_fits result _ _ own_result (copy_is g _ is.1) behind,
              all_both (PointFits fs g) _ _ (e.fits (left + 1) (test + 1) (omega (arith, lp)) (omega (arith, up)) (omega (arith, lt)) (omega (arith, ut))) (
                set_fits result (copied + 1) _ own_result (copy_is g _ own_b) (own_point (copied + 1) (omega (arith, lp)) (omega (arith, up))),
                (set_fits (variable w x) _ _ own (written_is g (variable w x) result (a.gives t).0 is.0 own own_result) behind, tt),
              ),
            ),
          ),
        );
    gives = λ t lt ut. own_temporary lies (t + a.slots + 1 + b.slots) (omega (arith, lt)) (omega (arith, ut));
  }

  pub fits_update : {path : Code Keys} {right : Code ℕ} (sign : UpdateSign) (x : Name) (n : ℕ) → Has w.names x → ((t : ℕ) → length (path.gives t) ≡ n) → CodeFits fs g w Keys path (KeysAre g) → CodeFits fs g w ℕ right (IsOwnSlot g) → CodeFits fs g w ℕ (update_code sign (variable w x) (old_value (variable w x) n path) right) (IsOwnSlot g)
  unfolding update_code
  fits_update update.Coalesce x n hx count d e = fits_filled x hx (fits_old x n hx count d) e
  fits_update update.Join x n hx count d e = fits_updated update.Join x hx (fits_old x n hx count d) e
  fits_update update.Add x n hx count d e = fits_updated update.Add x hx (fits_old x n hx count d) e
  fits_update update.Sub x n hx count d e = fits_updated update.Sub x hx (fits_old x n hx count d) e
  fits_update update.Mul x n hx count d e = fits_updated update.Mul x hx (fits_old x n hx count d) e
  fits_update update.Rem x n hx count d e = fits_updated update.Rem x hx (fits_old x n hx count d) e

  pub fits_step : (x : Name) (up' before : Bool) → Has w.names x → CodeFits fs g w ℕ (step_code (variable w x) up' before) (IsOwnSlot g)
  unfolding step_code
  fits_step x up' true hx = record {
    fits = λ p t lp up lt ut.
        let own = own_variable w lies x hx in
        let own_t = own_temporary lies t lt (omega (arith, ut)) in
        (set_fits (variable w x) (p + 1) _ own (step_is g up' _ own) (own_point (p + 1) (omega (arith, lp)) (omega (arith, up))), (set_fits t (p + 2) _ own_t (copy_is g _ own) (own_point (p + 2) (omega (arith, lp)) (omega (arith, up))), tt));
    gives = λ t lt ut. own_temporary lies t lt (omega (arith, ut));
  }
  fits_step x up' false hx = record {
    fits = λ p t lp up lt ut.
        let own = own_variable w lies x hx in
        let own_t = own_temporary lies t lt (omega (arith, ut)) in
        (set_fits t (p + 1) _ own_t (copy_is g _ own) (own_point (p + 1) (omega (arith, lp)) (omega (arith, up))), (set_fits (variable w x) (p + 2) _ own (step_is g up' _ own) (own_point (p + 2) (omega (arith, lp)) (omega (arith, up))), tt));
    gives = λ t lt ut. own_temporary lies t lt (omega (arith, ut));
  }

  pub fits_called : {A : Type 0} {args defaults : Code (List ℕ)} (n number : ℕ) (ps : List A) (h : PlainFlowFunction) → slice_get fs n ≡ Some h → length h.params_of ≡ length ps → CodeFits fs g w (List ℕ) args (SlotsAre g number) → CodeFits fs g w (List ℕ) defaults (SlotsAre g (length (drop number ps))) → CodeFits fs g w ℕ (called n (length ps) args defaults) (IsOwnSlot g)
  fits_called {A} {args} {defaults} n number ps h is long d e =
      let values : Code (List ℕ) = both args defaults (λ xs ys. take (length ps) xs ++ ys) in
      let k : CodeFits fs g w (List ℕ) values (λ xs. SlotsAre g (length ps) xs) = fits_both (λ xs. SlotsAre g (length ps) xs) (λ xs ys. take (length ps) xs ++ ys) (λ xs ys hx hy. (all_both (IsOwnSlot g) (take (length ps) xs) ys (all_front g (length ps) xs hx.0) hy.0, handed_long ps xs ys (hy.1 ∙ ap (λ n. length (drop n ps)) (sym hx.1)))) d e in
      record {
        fits = λ p t lp up lt ut.
            let args' = k.gives t lt (omega (arith, ut)) in
            all_both (PointFits fs g) _ _ (k.fits p t lp (omega (arith, up)) lt (omega (arith, ut)))
            (call_fits (t + values.slots) n (p + values.size + 1) (values.gives t) h (own_temporary lies (t + values.slots) (omega (arith, lt)) (omega (arith, ut))) args'.0 (own_point (p + values.size + 1) (omega (arith, lp)) (omega (arith, up))) is (args'.1 ∙ sym long), tt);
        gives = λ t lt ut. own_temporary lies (t + values.slots) (omega (arith, lt)) (omega (arith, ut));
      }
