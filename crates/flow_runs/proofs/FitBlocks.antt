-- The points of statements, and of whole functions and programs, are of their form.
use Rattle.std.proofs.Common.{◌≡◌, ℕ, ◌+◌, ◌<◌, ◌≤◌, List, [], ◌∷◌, ◌++◌, Some, None, Option, refl, ap, arith, Bool, true, false, ◌&&◌, ◌||◌}
use Rattle.std.proofs.lemmas.List.Elements.{All-from_recursion}
use Rattle.php_syntax.specs.Trees.{MaybeExpr, no_expr, some_expr, PlainExprs, no_exprs, more_exprs, PlainStmt, inline_stmt, echo_stmt, run_stmt, if_stmt, while_stmt, do_while_stmt, for_stmt, each_stmt, break_stmt, continue_stmt, return_stmt, include_stmt, quit_stmt, PlainStmts, no_stmts, more_stmts, PlainArms, no_arms, more_arms}
use Rattle.plain_values.specs.Plain.{null}
use Rattle.flow_code.specs.Points.{PlainPoint, print_point, echo_point, jump_point, begin_point, next_point, key_point, value_point, return_point, quit_point, PlainFlowFunction}
use Rattle.program_expressions.specs.Collected.{collected, collected_of}
use Rattle.flow_code.specs.Variables.{Name, own_names, names_in, maybe_names, names_in_all, key_names, names_of_stmt, names_of, names_of_arms}
use Rattle.flow_code.specs.Code.{Code, no_code, Targets, Block, no_block, ◌before◌, run_code, ending}
use Rattle.flow_code.specs.Expressions.{Scope, variable}
use Rattle.flow_code.specs.Completion.{completes, all_complete, one_completes, jumps_out, some_jump_out, one_jumps_out}
use Rattle.flow_code.specs.Statements.{either, guarding, arm, reached, Test, test_of, test_code, looping, repeating, pair_points, pair_size, walking, key_variable, echo_block, return_block, quit_block, stmt_block, block, arms_block}
use Rattle.flow_code.specs.Lawful.{reads, sets, nexts, IsOwnSlot, IsOwnPoint, PointFits}
use Rattle.flow_runs.specs.Fits.{ExprFits, MaybeFits, ExprsFit, StmtFits, StmtsFit, ArmsFit}
use Rattle.flow_runs.proofs.Frames.{free}
use Rattle.flow_runs.proofs.Names.{Has, HasAll, all_front, all_back}
use Rattle.flow_runs.proofs.Leaving.{no_way, no_end, both_hold, left_holds, right_holds}
use Rattle.flow_runs.proofs.FitCodes.{AllFit, all_both, Lies, last_slot, last_point, CodeFits, own_temporary, own_variable, own_point, some_own, branch_fits}
use Rattle.flow_runs.proofs.FitTrees.{Callees, fits_literal, null_literal, expr_fits, exprs_fit}

none_own : (g : PlainFlowFunction) (y : ℕ) → None ≡ Some y → IsOwnSlot g y
none_own g y e = absurd cc

module _ {fs : List PlainFlowFunction} {g : PlainFlowFunction} where
  print_fits : (bytes : List ℕ) (next : ℕ) → IsOwnPoint g next → PointFits fs g (print_point bytes next)
  unfolding reads sets nexts
  print_fits bytes next h = record { reads_own = All-from_recursion (IsOwnSlot g) [] tt; sets_own = none_own g; stays = All-from_recursion (IsOwnPoint g) (next ∷ []) (h, tt); parts = tt }

  echo_fits : (x next : ℕ) → IsOwnSlot g x → IsOwnPoint g next → PointFits fs g (echo_point x next)
  unfolding reads sets nexts
  echo_fits x next hx h = record { reads_own = All-from_recursion (IsOwnSlot g) (x ∷ []) (hx, tt); sets_own = none_own g; stays = All-from_recursion (IsOwnPoint g) (next ∷ []) (h, tt); parts = tt }

  pub jump_fits : (next : ℕ) → IsOwnPoint g next → PointFits fs g (jump_point next)
  unfolding reads sets nexts
  jump_fits next h = record { reads_own = All-from_recursion (IsOwnSlot g) [] tt; sets_own = none_own g; stays = All-from_recursion (IsOwnPoint g) (next ∷ []) (h, tt); parts = tt }

  begin_fits : (x from next : ℕ) → IsOwnSlot g x → IsOwnSlot g from → IsOwnPoint g next → PointFits fs g (begin_point x from next)
  unfolding reads sets nexts
  begin_fits x from next hx hf h = record { reads_own = All-from_recursion (IsOwnSlot g) (from ∷ []) (hf, tt); sets_own = λ y e. some_own g x y hx e; stays = All-from_recursion (IsOwnPoint g) (next ∷ []) (h, tt); parts = tt }

  next_fits : (x more done : ℕ) → IsOwnSlot g x → IsOwnPoint g more → IsOwnPoint g done → PointFits fs g (next_point x more done)
  unfolding reads sets nexts
  next_fits x more done hx hm hd = record { reads_own = All-from_recursion (IsOwnSlot g) (x ∷ []) (hx, tt); sets_own = none_own g; stays = All-from_recursion (IsOwnPoint g) (more ∷ done ∷ []) (hm, (hd, tt)); parts = tt }

  key_fits : (x from next : ℕ) → IsOwnSlot g x → IsOwnSlot g from → IsOwnPoint g next → PointFits fs g (key_point x from next)
  unfolding reads sets nexts
  key_fits x from next hx hf h = record { reads_own = All-from_recursion (IsOwnSlot g) (from ∷ []) (hf, tt); sets_own = λ y e. some_own g x y hx e; stays = All-from_recursion (IsOwnPoint g) (next ∷ []) (h, tt); parts = tt }

  value_fits : (x from next : ℕ) → IsOwnSlot g x → IsOwnSlot g from → IsOwnPoint g next → PointFits fs g (value_point x from next)
  unfolding reads sets nexts
  value_fits x from next hx hf h = record { reads_own = All-from_recursion (IsOwnSlot g) (from ∷ []) (hf, tt); sets_own = λ y e. some_own g x y hx e; stays = All-from_recursion (IsOwnPoint g) (next ∷ []) (h, tt); parts = tt }

  pub return_fits : (x : ℕ) → IsOwnSlot g x → PointFits fs g (return_point x)
  unfolding reads sets nexts
  return_fits x hx = record { reads_own = All-from_recursion (IsOwnSlot g) (x ∷ []) (hx, tt); sets_own = none_own g; stays = All-from_recursion (IsOwnPoint g) [] tt; parts = tt }

  quit_fits : PointFits fs g (quit_point None)
  unfolding reads sets nexts
  quit_fits = record { reads_own = All-from_recursion (IsOwnSlot g) [] tt; sets_own = none_own g; stays = All-from_recursion (IsOwnPoint g) [] tt; parts = tt }

  quit_with_fits : (x : ℕ) → IsOwnSlot g x → PointFits fs g (quit_point (Some x))
  unfolding reads sets nexts
  quit_with_fits x hx = record { reads_own = All-from_recursion (IsOwnSlot g) (x ∷ []) (hx, tt); sets_own = none_own g; stays = All-from_recursion (IsOwnPoint g) [] tt; parts = tt }

-- the points of a block are of their form: one that can be left at its end, or by a jump, wants a point there, and one that cannot be left at
-- its end has some point
pub record BlockFits (fs : List PlainFlowFunction) (g : PlainFlowFunction) (w : Scope) (on jumps : Bool) (b : Block) : Type 0 where
  pub some : on ≡ false → 1 ≤ b.size
  pub fits : (to : Targets) (p t : ℕ) → (jumps ≡ true → IsOwnPoint g to.stop) → (jumps ≡ true → IsOwnPoint g to.again) → g.first_point_of ≤ p → p + b.size ≤ last_point g → (on ≡ true → p + b.size < last_point g) → free w ≤ t → t + b.slots ≤ last_slot g → AllFit fs g (b.points to p t)

-- where a block that has some point or a point behind it stands, there is a point
pub there_is : (on : Bool) (p n last : ℕ) → (on ≡ false → 1 ≤ n) → p + n ≤ last → (on ≡ true → p + n < last) → p < last
there_is true p n last some le lt = let h = lt refl in omega (arith, h)
there_is false p n last some le lt = let h = some refl in omega (arith, h, le)

record TestFits (fs : List PlainFlowFunction) (g : PlainFlowFunction) (w : Scope) (b : Test) : Type 0 where
  fits : (stop p t : ℕ) → IsOwnPoint g stop → g.first_point_of ≤ p → p + b.size < last_point g → free w ≤ t → t + b.slots ≤ last_slot g → AllFit fs g (b.points stop p t)

pairs_fit : (fs : List PlainFlowFunction) (g : PlainFlowFunction) (w : Scope) → Lies g w → (key : Option Name) (x : Name) (walk p : ℕ) → HasAll w.names (key_names key) → Has w.names x → IsOwnSlot g walk → IsOwnPoint g (p + 1) → ((key' : Name) → key ≡ Some key' → IsOwnPoint g (p + 2)) → AllFit fs g (pair_points (key_variable w key) (variable w x) walk p)
unfolding own_names
pairs_fit fs g w lies None x walk p hk hx hw h1 h2 = (value_fits (variable w x) walk (p + 1) (own_variable w lies x hx) hw h1, tt)
pairs_fit fs g w lies (Some key) x walk p hk hx hw h1 h2 = (key_fits (variable w key) walk (p + 1) (own_variable w lies key hk.0) hw h1, (value_fits (variable w x) walk (p + 2) (own_variable w lies x hx) hw (h2 key refl), tt))

size_two : (w : Scope) (key : Option Name) (key' : Name) → key ≡ Some key' → pair_size (key_variable w key) ≡ 2
size_two w key key' e = ap (λ key. pair_size (key_variable w key)) e

some_size : (w : Scope) (key : Option Name) → 1 ≤ pair_size (key_variable w key)
some_size w None = omega arith
some_size w (Some key) = omega arith

module _ {fs : List PlainFlowFunction} {g : PlainFlowFunction} {w : Scope} where
  fits_nothing : BlockFits fs g w true false no_block
  fits_nothing = record { some = no_end; fits = λ to p t hs ha lp le up lt ut. tt }

  fits_before : {on jumps_a jumps_b : Bool} {a b : Block} → BlockFits fs g w true jumps_a a → BlockFits fs g w on jumps_b b → BlockFits fs g w on (jumps_a || jumps_b) (a before b)
  fits_before {on} {jumps_a} {jumps_b} {a} {b} d e = record {
    some = λ is. let h = e.some is in omega (arith, h);
    fits = λ to p t hs ha lp le up lt ut.
        let here = there_is on (p + a.size) b.size (last_point g) e.some (omega (arith, le)) (λ is. let h = up is in omega (arith, h)) in
        all_both (PointFits fs g) _ _
        (d.fits to p t (λ is. hs (left_holds jumps_a jumps_b is)) (λ is. ha (left_holds jumps_a jumps_b is)) lp (omega (arith, le)) (λ is. here) lt (omega (arith, ut)))
        (e.fits to (p + a.size) (t + a.slots) (λ is. hs (right_holds jumps_a jumps_b is)) (λ is. ha (right_holds jumps_a jumps_b is)) (omega (arith, lp)) (omega (arith, le)) (λ is. let h = up is in omega (arith, h)) (omega (arith, lt)) (omega (arith, ut)));
  }

  fits_ended : {jumps : Bool} {a : Block} → BlockFits fs g w false jumps a → BlockFits fs g w false (jumps || false) (a before no_block)
  fits_ended {jumps} {a} d = record {
    some = λ is. let h = d.some refl in omega (arith, h);
    fits = λ to p t hs ha lp le up lt ut. all_both (PointFits fs g) _ _ (d.fits to p t (λ is. hs (left_holds jumps false is)) (λ is. ha (left_holds jumps false is)) lp (omega (arith, le)) no_way lt (omega (arith, ut))) tt;
  }

  -- a statement and what stands behind it, by whether it can be left at its end
  fits_next : (on : Bool) {on_b jumps_a jumps_b : Bool} {a b : Block} → BlockFits fs g w on jumps_a a → BlockFits fs g w on_b jumps_b b → BlockFits fs g w (on && on_b) (jumps_a || (on && jumps_b)) (a before reached on b)
  fits_next true d e = fits_before d e
  fits_next false d e = fits_ended d

  fits_run : {A : Type 0} {a : Code A} {Fine : A → Type 0} → CodeFits fs g w A a Fine → BlockFits fs g w true false (run_code a)
  fits_run d = record { some = no_end; fits = λ to p t hs ha lp le up lt ut. d.fits p t lp (up refl) lt ut }

  fits_ending : {A : Type 0} {a : Code A} {Fine : A → Type 0} (point : A → Targets → ℕ → PlainPoint) → ((x : A) (to : Targets) (p : ℕ) → Fine x → IsOwnPoint g (p + 1) → PointFits fs g (point x to p)) → CodeFits fs g w A a Fine → BlockFits fs g w true false (ending a point)
  fits_ending {a = a} point h d = record {
    some = no_end;
    fits = λ to p t hs ha lp le up lt ut. (let up' = up refl in all_both (PointFits fs g) _ _ (d.fits p t lp (omega (arith, up')) lt ut) (h (a.gives t) to (p + a.size) (d.gives t lt ut) (own_point (p + a.size + 1) (omega (arith, lp)) (omega (arith, up'))), tt));
  }

  -- a point behind which no run goes on
  fits_leaving : {A : Type 0} {a : Code A} {Fine : A → Type 0} (jumps : Bool) (point : A → Targets → ℕ → PlainPoint) → ((x : A) (to : Targets) (p : ℕ) → Fine x → (jumps ≡ true → IsOwnPoint g to.stop) → (jumps ≡ true → IsOwnPoint g to.again) → PointFits fs g (point x to p)) → CodeFits fs g w A a Fine → BlockFits fs g w false jumps (ending a point)
  fits_leaving {a = a} jumps point h d = record {
    some = λ is. omega arith;
    fits = λ to p t hs ha lp le up lt ut. all_both (PointFits fs g) _ _ (d.fits p t lp (omega (arith, le)) lt ut) (h (a.gives t) to (p + a.size) (d.gives t lt ut) hs ha, tt);
  }

  no_code_fits : CodeFits fs g w ℕ no_code (λ x. Unit {0})
  no_code_fits = record { fits = λ p t lp up lt ut. tt; gives = λ t lt ut. tt }

  fits_either : {a : Code ℕ} {one other : Block} {on jumps_one jumps_other : Bool} → CodeFits fs g w ℕ a (IsOwnSlot g) → BlockFits fs g w true jumps_one one → BlockFits fs g w on jumps_other other → BlockFits fs g w true (jumps_one || jumps_other) (either a one other)
  fits_either {a} {one} {other} {on} {jumps_one} {jumps_other} d e k = record {
    some = no_end;
    fits = λ to p t hs ha lp le up lt ut.
        let up' = up refl in
        let first = p + a.size + 1 in
        let second = first + one.size + 1 in
        all_both (PointFits fs g) _ _ (d.fits p t lp (omega (arith, le)) lt (omega (arith, ut))) (
          branch_fits (a.gives t) first second (d.gives t lt (omega (arith, ut))) (own_point first (omega (arith, lp)) (omega (arith, up'))) (own_point second (omega (arith, lp)) (omega (arith, up'))),
          all_both (PointFits fs g) _ _ (e.fits to first (t + a.slots) (λ is. hs (left_holds jumps_one jumps_other is)) (λ is. ha (left_holds jumps_one jumps_other is)) (omega (arith, lp)) (omega (arith, le)) (λ is. omega (arith, le)) (omega (arith, lt)) (omega (arith, ut))) (
            jump_fits (second + other.size) (own_point (second + other.size) (omega (arith, lp)) (omega (arith, up'))),
            k.fits to second (t + a.slots + one.slots) (λ is. hs (right_holds jumps_one jumps_other is)) (λ is. ha (right_holds jumps_one jumps_other is)) (omega (arith, lp)) (omega (arith, le)) (λ is. omega (arith, up')) (omega (arith, lt)) (omega (arith, ut)),
          ),
        );
  }

  fits_guarding : {a : Code ℕ} {one other : Block} {on jumps_one jumps_other : Bool} → CodeFits fs g w ℕ a (IsOwnSlot g) → BlockFits fs g w false jumps_one one → BlockFits fs g w on jumps_other other → BlockFits fs g w on (jumps_one || jumps_other) (guarding a one other)
  fits_guarding {a} {one} {other} {on} {jumps_one} {jumps_other} d e k = record {
    some = λ is. omega arith;
    fits = λ to p t hs ha lp le up lt ut.
        let first = p + a.size + 1 in
        let second = first + one.size in
        let some = e.some refl in
        let up' : on ≡ true → second + other.size < last_point g = λ is. (let h = up is in omega (arith, h)) in
        let here = there_is on second other.size (last_point g) k.some (omega (arith, le)) up' in
        all_both (PointFits fs g) _ _ (d.fits p t lp (omega (arith, here)) lt (omega (arith, ut))) (
          branch_fits (a.gives t) first second (d.gives t lt (omega (arith, ut))) (own_point first (omega (arith, lp)) (omega (arith, here, some))) (own_point second (omega (arith, lp)) here),
          all_both (PointFits fs g) _ _ (e.fits to first (t + a.slots) (λ is. hs (left_holds jumps_one jumps_other is)) (λ is. ha (left_holds jumps_one jumps_other is)) (omega (arith, lp)) (omega (arith, le)) no_way (omega (arith, lt)) (omega (arith, ut)))
              (k.fits to second (t + a.slots + one.slots) (λ is. hs (right_holds jumps_one jumps_other is)) (λ is. ha (right_holds jumps_one jumps_other is)) (omega (arith, lp)) (omega (arith, le)) up' (omega (arith, lt)) (omega (arith, ut))),
        );
  }

  -- an arm of an `if`, by whether its body can be left at its end
  fits_arm : (on_one : Bool) {a : Code ℕ} {one other : Block} {on jumps_one jumps_other : Bool} → CodeFits fs g w ℕ a (IsOwnSlot g) → BlockFits fs g w on_one jumps_one one → BlockFits fs g w on jumps_other other → BlockFits fs g w (on_one || on) (jumps_one || jumps_other) (arm on_one a one other)
  fits_arm true d e k = fits_either d e k
  fits_arm false d e k = fits_guarding d e k

  fits_test : {a : Code ℕ} → CodeFits fs g w ℕ a (IsOwnSlot g) → TestFits fs g w (test_of a)
  fits_test {a} d = record {
    fits = λ stop p t hs lp up lt ut. all_both (PointFits fs g) _ _ (d.fits p t lp (omega (arith, up)) lt ut) (branch_fits (a.gives t) (p + a.size + 1) stop (d.gives t lt ut) (own_point (p + a.size + 1) (omega (arith, lp)) (omega (arith, up))) hs, tt);
  }

  fits_looping : {test : Test} {body behind : Block} {on jumps : Bool} → TestFits fs g w test → BlockFits fs g w on jumps body → BlockFits fs g w true false behind → BlockFits fs g w true false (looping test body behind)
  fits_looping {test} {body} {behind} d e k = record {
    some = no_end;
    fits = λ to p t hs ha lp le end lt ut.
        let up = end refl in
        let again = p + test.size + body.size in
        let stop = again + behind.size + 1 in
        let own_stop = own_point {g = g} stop (omega (arith, lp)) (omega (arith, up)) in
        let own_again = own_point {g = g} again (omega (arith, lp)) (omega (arith, up)) in
        all_both (PointFits fs g) _ _ (d.fits stop p t own_stop lp (omega (arith, up)) lt (omega (arith, ut)))
        (all_both (PointFits fs g) _ _ (e.fits (record { stop = stop; again = again }) (p + test.size) (t + test.slots) (λ is. own_stop) (λ is. own_again) (omega (arith, lp)) (omega (arith, up)) (λ is. omega (arith, up)) (omega (arith, lt)) (omega (arith, ut)))
        (all_both (PointFits fs g) _ _ (k.fits to again (t + test.slots + body.slots) no_way no_way (omega (arith, lp)) (omega (arith, up)) (λ is. omega (arith, up)) (omega (arith, lt)) (omega (arith, ut)))
        (jump_fits p (own_point p lp (omega (arith, up))), tt)));
  }

  fits_repeating : {body : Block} {a : Code ℕ} {on jumps : Bool} → BlockFits fs g w on jumps body → CodeFits fs g w ℕ a (IsOwnSlot g) → BlockFits fs g w true false (repeating body a)
  fits_repeating {body} {a} d e = record {
    some = no_end;
    fits = λ to p t hs ha lp le end lt ut.
        let up = end refl in
        let again = p + body.size in
        let stop = again + a.size + 1 in
        let own_stop = own_point {g = g} stop (omega (arith, lp)) (omega (arith, up)) in
        let own_again = own_point {g = g} again (omega (arith, lp)) (omega (arith, up)) in
        all_both (PointFits fs g) _ _ (d.fits (record { stop = stop; again = again }) p t (λ is. own_stop) (λ is. own_again) lp (omega (arith, up)) (λ is. omega (arith, up)) lt (omega (arith, ut)))
        (all_both (PointFits fs g) _ _ (e.fits again (t + body.slots) (omega (arith, lp)) (omega (arith, up)) (omega (arith, lt)) (omega (arith, ut)))
        (branch_fits (a.gives (t + body.slots)) p stop (e.gives (t + body.slots) (omega (arith, lt)) (omega (arith, ut))) (own_point p lp (omega (arith, up))) own_stop, tt));
  }

  module _ (lies : Lies g w) where
    fits_walking : {a : Code ℕ} {body : Block} {on jumps : Bool} (key : Option Name) (x : Name) → HasAll w.names (key_names key) → Has w.names x → CodeFits fs g w ℕ a (IsOwnSlot g) → BlockFits fs g w on jumps body → BlockFits fs g w true false (walking a (key_variable w key) (variable w x) body)
    fits_walking {a} {body} key x hk hx d e = record {
      some = no_end;
      fits = λ to p t hs ha lp le end lt ut.
          let up = end refl in
          let walk = t + a.slots in
          let again = p + a.size + 1 in
          let n = pair_size (key_variable w key) in
          let inside = again + 1 + n in
          let stop = inside + body.size + 1 in
          let some = some_size w key in
          let own_walk = own_temporary lies walk (omega (arith, lt)) (omega (arith, ut)) in
          let own_stop = own_point {g = g} stop (omega (arith, lp)) (omega (arith, up)) in
          let own_again = own_point {g = g} again (omega (arith, lp)) (omega (arith, up)) in
          all_both (PointFits fs g) _ _ (d.fits p t lp (omega (arith, up)) lt (omega (arith, ut))) (
            begin_fits walk (a.gives t) again own_walk (d.gives t lt (omega (arith, ut))) own_again,
            (
              next_fits walk (again + 1) stop own_walk (own_point (again + 1) (omega (arith, lp)) (omega (arith, up))) own_stop,
              all_both (PointFits fs g) _ _ (pairs_fit fs g w lies key x walk (again + 1) hk hx own_walk (own_point (again + 1 + 1) (omega (arith, lp)) (omega (arith, up, some))) (λ key' same. let two = size_two w key key' same in own_point (again + 1 + 2) (omega (arith, lp)) (omega (arith, up, two))))
                  (all_both (PointFits fs g) _ _ (e.fits (record { stop = stop; again = again }) inside (walk + 1) (λ is. own_stop) (λ is. own_again) (omega (arith, lp)) (omega (arith, up)) (λ is. omega (arith, up)) (omega (arith, lt)) (omega (arith, ut)))
                  (jump_fits again own_again, tt)),
            ),
          );
    }

    module _ (callees : Callees fs w.functions) where
      echo_all : (es : PlainExprs) → ExprsFit es → HasAll w.names (names_in_all es) → BlockFits fs g w true false (echo_block w es)
      unfolding echo_block ExprFits collected own_names
      echo_all no_exprs h n = fits_nothing
      echo_all (more_exprs e es) h n =
          fits_before (fits_ending (λ x to p. echo_point x (p + 1)) (λ x to p hx hn. echo_fits x (p + 1) hx hn) (expr_fits lies callees e h.0 (all_front w.names (names_in e) (names_in_all es) n)))
          (echo_all es h.1 (all_back w.names (names_in e) (names_in_all es) n))

      test_fits : (e : MaybeExpr) → MaybeFits e → HasAll w.names (maybe_names e) → TestFits fs g w (test_code w e)
      unfolding test_code ExprFits collected own_names
      test_fits no_expr h n = record { fits = λ stop p t hs lp up lt ut. tt }
      test_fits (some_expr e) h n = fits_test (expr_fits lies callees e h n)

      return_all : (e : MaybeExpr) → MaybeFits e → HasAll w.names (maybe_names e) → BlockFits fs g w false false (return_block w e)
      unfolding return_block ExprFits collected own_names
      return_all no_expr h n = fits_leaving false (λ x to p. return_point x) (λ x to p hx hs ha. return_fits x hx) (fits_literal lies null null_literal)
      return_all (some_expr e) h n = fits_leaving false (λ x to p. return_point x) (λ x to p hx hs ha. return_fits x hx) (expr_fits lies callees e h n)

      quit_all : (e : MaybeExpr) → MaybeFits e → HasAll w.names (maybe_names e) → BlockFits fs g w false false (quit_block w e)
      unfolding quit_block ExprFits collected own_names
      quit_all no_expr h n = fits_leaving false (λ none to p. quit_point None) (λ x to p hx hs ha. quit_fits) no_code_fits
      quit_all (some_expr e) h n = fits_leaving false (λ x to p. quit_point (Some x)) (λ x to p hx hs ha. quit_with_fits x hx) (expr_fits lies callees e h n)

      mutual
        unfolding stmt_block StmtFits collected_of own_names completes jumps_out

        pub stmt_fits : (st : PlainStmt) → StmtFits st → HasAll w.names (names_of_stmt st) → BlockFits fs g w (completes st) (jumps_out st) (stmt_block w st)
        stmt_fits (inline_stmt bytes) h n = fits_ending (λ none to p. print_point bytes (p + 1)) (λ x to p hx hn. print_fits bytes (p + 1) hn) no_code_fits
        stmt_fits (echo_stmt es) h n = echo_all es h n
        stmt_fits (run_stmt e) h n = fits_run (expr_fits lies callees e h n)
        stmt_fits (if_stmt arms otherwise) h n = arms_fit arms h.0 (all_front w.names (names_of_arms arms) (names_of otherwise) n) (block_fits otherwise h.1 (all_back w.names (names_of_arms arms) (names_of otherwise) n))
        stmt_fits (while_stmt e body) h n = fits_looping (fits_test (expr_fits lies callees e h.0 (all_front w.names (names_in e) (names_of body) n))) (block_fits body h.1 (all_back w.names (names_in e) (names_of body) n)) fits_nothing
        stmt_fits (do_while_stmt body e) h n = fits_repeating (block_fits body h.0 (all_front w.names (names_of body) (names_in e) n)) (expr_fits lies callees e h.1 (all_back w.names (names_of body) (names_in e) n))
        stmt_fits (for_stmt begin e next body) h n =
            let n1 = all_back w.names (names_in_all begin) (maybe_names e ++ (names_in_all next ++ names_of body)) n in
            let n2 = all_back w.names (maybe_names e) (names_in_all next ++ names_of body) n1 in
            fits_before (fits_run (exprs_fit lies callees begin h.0 (all_front w.names (names_in_all begin) (maybe_names e ++ (names_in_all next ++ names_of body)) n)))
            (fits_looping (test_fits e h.1 (all_front w.names (maybe_names e) (names_in_all next ++ names_of body) n1)) (block_fits body h.3 (all_back w.names (names_in_all next) (names_of body) n2)) (fits_run (exprs_fit lies callees next h.2 (all_front w.names (names_in_all next) (names_of body) n2))))
        stmt_fits (each_stmt e key x body) h n =
            let n1 = all_back w.names (names_in e) (key_names key ++ x ∷ names_of body) n in
            let n2 = all_back w.names (key_names key) (x ∷ names_of body) n1 in
            fits_walking key x (all_front w.names (key_names key) (x ∷ names_of body) n1) n2.0 (expr_fits lies callees e h.0 (all_front w.names (names_in e) (key_names key ++ x ∷ names_of body) n)) (block_fits body h.1 n2.1)
        stmt_fits break_stmt h n = fits_leaving true (λ none to p. jump_point to.stop) (λ x to p hx hs ha. jump_fits to.stop (hs refl)) no_code_fits
        stmt_fits continue_stmt h n = fits_leaving true (λ none to p. jump_point to.again) (λ x to p hx hs ha. jump_fits to.again (ha refl)) no_code_fits
        stmt_fits (return_stmt e) h n = return_all e h n
        stmt_fits (include_stmt path) h n = fits_nothing
        stmt_fits (quit_stmt e) h n = quit_all e h n

        pub block_fits : (ss : PlainStmts) → StmtsFit ss → HasAll w.names (names_of ss) → BlockFits fs g w (all_complete ss) (some_jump_out ss) (block w ss)
        block_fits no_stmts h n = fits_nothing
        block_fits (more_stmts st ss) h n = fits_next (completes st) (stmt_fits st h.0 (all_front w.names (names_of_stmt st) (names_of ss) n)) (block_fits ss h.1 (all_back w.names (names_of_stmt st) (names_of ss) n))

        pub arms_fit : (arms : PlainArms) → ArmsFit arms → HasAll w.names (names_of_arms arms) → {other : Block} {on jumps : Bool} → BlockFits fs g w on jumps other → BlockFits fs g w (one_completes arms on) (one_jumps_out arms jumps) (arms_block w arms other)
        arms_fit no_arms h n d = d
        arms_fit (more_arms e body arms) h n d =
            let n1 = all_back w.names (names_in e) (names_of body ++ names_of_arms arms) n in
            fits_arm (all_complete body) (expr_fits lies callees e h.0 (all_front w.names (names_in e) (names_of body ++ names_of_arms arms) n)) (block_fits body h.1 (all_front w.names (names_of body) (names_of_arms arms) n1)) (arms_fit arms h.2 (all_back w.names (names_of body) (names_of_arms arms) n1) d)
