-- Rows of operands of `echo`, of statements and of arms: what is put for the rest is put for all.
use Rattle.std.proofs.Common.{◌≡◌, ◌∙◌, ℕ, ◌+◌, ◌≤◌, ◌<◌, List, [], ◌∷◌, ◌++◌, length, drop, get_or, refl, sym, ap, subst, arith}
use Rattle.std.specs.Prelude.{Option, not, Bool, true, false, ◌&&◌, ◌||◌}
use Rattle.std.specs.declared.vec.Vec.{Vec}
use Rattle.std.specs.declared.alloc.Global.{Global}
use Rattle.std.proofs.lemmas.List.{length-set}
use Rattle.php_syntax.specs.declared.tree.Expr.{Expr}
use Rattle.php_syntax.specs.declared.tree.Stmt.{Stmt}
use Rattle.php_syntax.specs.Trees.{PlainStmt, MaybeExpr, plain_expr, plain_stmt, maybe_of, exprs_of, stmts_of, arms_of}
use Rattle.flow_code.specs.Points.{echo_point, branch_point, jump_point}
use Rattle.flow_code.specs.Code.{Code, Targets, Block, ◌before◌, run_code, ending}
use Rattle.flow_code.specs.Expressions.{Scope, code, codes, variable}
use Rattle.flow_code.specs.Completion.{completes, all_complete, one_completes, jumps_out, some_jump_out, one_jumps_out}
use Rattle.flow_code.specs.Statements.{arm, reached, looping, walking, test_code, key_variable, echo_block, return_block, quit_block, stmt_block, block, arms_block}
use Rattle.flow_code.specs.Variables.{Name}
use Rattle.flow_lowering.specs.Emits.{Progress, place, Puts, Emits, Reserves, Replaces}
use Rattle.flow_lowering.proofs.EmitLemmas.{puts_length}
use Rattle.flow_lowering.proofs.RowLemmas.{drop_here, drop_past}
use Rattle.flow_lowering.specs.declared.exits.Exit.{Exit}
use Rattle.flow_lowering.specs.declared.exits.Exit.TheVariants as exit
use Rattle.flow_lowering.specs.declared.heads.Head.{Head}
use Rattle.flow_lowering.specs.Drafts.{replaced, filled}
use Rattle.flow_lowering.specs.Blocks.{Lays, Drafts, Opens, PutsJump}
use Rattle.flow_lowering.proofs.FillLemmas.{filled_split}
use Rattle.flow_lowering.proofs.BlockLemmas.{lays_none, lays_before, drafts_none, drafts_before, drafts_either, drafts_guarding}
use Rattle.program_lowering.specs.Arms.{led, Armed}

-- an operand of `echo`
abbrev pub printing : Code ℕ → Block
printing a = ending a (λ x to p. echo_point x (p + 1))

pub echo_further : {s0 s1 start : Progress} (w : Scope) (es : List Expr) (i : ℕ) (e : Expr) → i < length es → e ≡ get_or es i e → Lays s0 s1 (printing (code w (plain_expr e)))
    → ((s : Progress) → Lays s0 s (echo_block w (exprs_of (drop i es))) → Lays start s (echo_block w (exprs_of es)))
    → (s : Progress) → Lays s1 s (echo_block w (exprs_of (drop (i + 1) es))) → Lays start s (echo_block w (exprs_of es))
unfolding echo_block
echo_further {s0} {s1} {start} w es i e lt is d go s k =
    let here : e ∷ drop (i + 1) es ≡ drop i es = sym (drop_here es i e lt is) in
    let one : Lays s0 s (echo_block w (exprs_of (e ∷ drop (i + 1) es))) = lays_before d k in
    go s (subst (λ (l : List Expr). Lays s0 s (echo_block w (exprs_of l))) here one)

pub echo_end : {s0 start : Progress} (w : Scope) (es : List Expr) (i : ℕ) → length es ≤ i
    → ((s : Progress) → Lays s0 s (echo_block w (exprs_of (drop i es))) → Lays start s (echo_block w (exprs_of es)))
    → Lays start s0 (echo_block w (exprs_of es))
unfolding echo_block
echo_end {s0} {start} w es i le go =
    let none : Lays s0 s0 (echo_block w (exprs_of [])) = lays_none s0 in
    go s0 (subst (λ (l : List Expr). Lays s0 s0 (echo_block w (exprs_of l))) (sym (drop_past es i le)) none)

-- where a run may go on behind a statement, what stands behind it is put
on_reached : {s0 s1 s2 : Progress} {e0 e1 e2 : List Exit} {a b : Block} (on : Bool) → on ≡ true → Drafts s0 s1 e0 e1 a → Drafts s1 s2 e1 e2 b → Drafts s0 s2 e0 e2 (a before reached on b)
on_reached {s0} {s1} {s2} {e0} {e1} {e2} {a} {b} on is d k = subst (λ (v : Bool). Drafts s0 s2 e0 e2 (a before reached v b)) (sym is) (drafts_before d k)

-- and where it may not, nothing is
off_reached : {s0 s1 : Progress} {e0 e1 : List Exit} {a : Block} (b : Block) (on : Bool) → on ≡ false → Drafts s0 s1 e0 e1 a → Drafts s0 s1 e0 e1 (a before reached on b)
off_reached {s0} {s1} {e0} {e1} {a} b on is d = subst (λ (v : Bool). Drafts s0 s1 e0 e1 (a before reached v b)) (sym is) (drafts_before d (drafts_none s1 e1))

pub stmts_further : {s0 s1 start : Progress} {e0 e1 first : List Exit} (w : Scope) (ss : List Stmt) (i : ℕ) (x : Stmt) → i < length ss → x ≡ get_or ss i x → completes (plain_stmt x) ≡ true → Drafts s0 s1 e0 e1 (stmt_block w (plain_stmt x))
    → ((s : Progress) (last : List Exit) → Drafts s0 s e0 last (block w (stmts_of (drop i ss))) → Drafts start s first last (block w (stmts_of ss)))
    → (s : Progress) (last : List Exit) → Drafts s1 s e1 last (block w (stmts_of (drop (i + 1) ss))) → Drafts start s first last (block w (stmts_of ss))
unfolding stmt_block
stmts_further {s0} {s1} {start} {e0} {e1} {first} w ss i x lt is on d go s last k =
    let here : x ∷ drop (i + 1) ss ≡ drop i ss = sym (drop_here ss i x lt is) in
    let one : Drafts s0 s e0 last (block w (stmts_of (x ∷ drop (i + 1) ss))) = on_reached (completes (plain_stmt x)) on d k in
    go s last (subst (λ (l : List Stmt). Drafts s0 s e0 last (block w (stmts_of l))) here one)

-- the statements up to one that cannot complete normally
pub stmts_cut : {s0 s1 start : Progress} {e0 e1 first : List Exit} (w : Scope) (ss : List Stmt) (i : ℕ) (x : Stmt) → i < length ss → x ≡ get_or ss i x → completes (plain_stmt x) ≡ false → Drafts s0 s1 e0 e1 (stmt_block w (plain_stmt x))
    → ((s : Progress) (last : List Exit) → Drafts s0 s e0 last (block w (stmts_of (drop i ss))) → Drafts start s first last (block w (stmts_of ss)))
    → Drafts start s1 first e1 (block w (stmts_of ss))
unfolding stmt_block
stmts_cut {s0} {s1} {start} {e0} {e1} {first} w ss i x lt is off d go =
    let here : x ∷ drop (i + 1) ss ≡ drop i ss = sym (drop_here ss i x lt is) in
    let one : Drafts s0 s1 e0 e1 (block w (stmts_of (x ∷ drop (i + 1) ss))) = off_reached (block w (stmts_of (drop (i + 1) ss))) (completes (plain_stmt x)) off d in
    go s1 e1 (subst (λ (l : List Stmt). Drafts s0 s1 e0 e1 (block w (stmts_of l))) here one)

pub puts_jump_long : (s0 s1 : Progress) (j0 j1 : List Exit) (on : Bool) → PutsJump on s0 s1 j0 j1 → length s0.points ≤ length s1.points
puts_jump_long s0 s1 j0 j1 true p = omega (arith, puts_length p.reserves.puts)
puts_jump_long s0 s1 j0 j1 false p = omega (arith, ap (λ (s : Progress). length s.points) p.0)

pub not_off : (b : Bool) → not b ≡ false → b ≡ true
not_off true e = refl
not_off false e = sym e

pub not_on : (b : Bool) → not b ≡ true → b ≡ false
not_on true e = sym e
not_on false e = refl

-- how statements may be left, from the first of those that are left to look at

pub and_true : (a b : Bool) → a ≡ true → (a && b) ≡ b
and_true a b is = ap (λ (v : Bool). v && b) is

pub and_false : (a b : Bool) → a ≡ false → (a && b) ≡ false
and_false a b is = ap (λ (v : Bool). v && b) is

or_none : (a : Bool) → (a || false) ≡ a
or_none true = refl
or_none false = refl

or_assoc : (a b c : Bool) → ((a || b) || c) ≡ (a || (b || c))
or_assoc true b c = refl
or_assoc false b c = refl

complete_here : (ss : List Stmt) (i : ℕ) (x : Stmt) → i < length ss → x ≡ get_or ss i x → (completes (plain_stmt x) && all_complete (stmts_of (drop (i + 1) ss))) ≡ all_complete (stmts_of (drop i ss))
unfolding completes
complete_here ss i x lt is = ap (λ (l : List Stmt). all_complete (stmts_of l)) (sym (drop_here ss i x lt is))

jumps_here : (ss : List Stmt) (i : ℕ) (x : Stmt) → i < length ss → x ≡ get_or ss i x → (jumps_out (plain_stmt x) || (completes (plain_stmt x) && some_jump_out (stmts_of (drop (i + 1) ss)))) ≡ some_jump_out (stmts_of (drop i ss))
unfolding completes jumps_out
jumps_here ss i x lt is = ap (λ (l : List Stmt). some_jump_out (stmts_of l)) (sym (drop_here ss i x lt is))

-- how the statements so far may be left, where they can be left at their end
pub record SoFar (jumps : Bool) (ss : List Stmt) (i : ℕ) : Type 0 where
  pub completes_are : all_complete (stmts_of (drop i ss)) ≡ all_complete (stmts_of ss)
  pub jumps_are : (jumps || some_jump_out (stmts_of (drop i ss))) ≡ some_jump_out (stmts_of ss)

pub so_far_further : {jumps on next_jumps : Bool} (ss : List Stmt) (i : ℕ) (x : Stmt) → i < length ss → x ≡ get_or ss i x → completes (plain_stmt x) ≡ true → on ≡ true → next_jumps ≡ (jumps || (on && jumps_out (plain_stmt x))) → SoFar jumps ss i → SoFar next_jumps ss (i + 1)
so_far_further {jumps} {on} {next_jumps} ss i x lt is x_on on_is jumps_is so =
    let rest = stmts_of (drop (i + 1) ss) in
    let here : some_jump_out (stmts_of (drop i ss)) ≡ (jumps_out (plain_stmt x) || some_jump_out rest) =
    sym (jumps_here ss i x lt is) ∙ ap (λ (v : Bool). jumps_out (plain_stmt x) || v) (and_true (completes (plain_stmt x)) (some_jump_out rest) x_on) in
    record {
      completes_are = sym (and_true (completes (plain_stmt x)) (all_complete rest) x_on) ∙ complete_here ss i x lt is ∙ so.completes_are;
      jumps_are = ap (λ (v : Bool). v || some_jump_out rest) (jumps_is ∙ ap (λ (v : Bool). jumps || v) (and_true on (jumps_out (plain_stmt x)) on_is))
          ∙ or_assoc jumps (jumps_out (plain_stmt x)) (some_jump_out rest) ∙ ap (λ (v : Bool). jumps || v) (sym here) ∙ so.jumps_are;
    }

pub so_far_cut : {jumps on next_jumps : Bool} (ss : List Stmt) (i : ℕ) (x : Stmt) → i < length ss → x ≡ get_or ss i x → completes (plain_stmt x) ≡ false → on ≡ true → next_jumps ≡ (jumps || (on && jumps_out (plain_stmt x))) → SoFar jumps ss i → (false ≡ all_complete (stmts_of ss)) × (next_jumps ≡ some_jump_out (stmts_of ss))
so_far_cut {jumps} {on} {next_jumps} ss i x lt is x_off on_is jumps_is so =
    let rest = stmts_of (drop (i + 1) ss) in
    let here : some_jump_out (stmts_of (drop i ss)) ≡ jumps_out (plain_stmt x) =
    sym (jumps_here ss i x lt is) ∙ ap (λ (v : Bool). jumps_out (plain_stmt x) || v) (and_false (completes (plain_stmt x)) (some_jump_out rest) x_off) ∙ or_none (jumps_out (plain_stmt x)) in (
      sym (and_false (completes (plain_stmt x)) (all_complete rest) x_off) ∙ complete_here ss i x lt is ∙ so.completes_are,
      jumps_is ∙ ap (λ (v : Bool). jumps || v) (and_true on (jumps_out (plain_stmt x)) on_is ∙ sym here) ∙ so.jumps_are,
    )

pub so_far_end : {jumps : Bool} (ss : List Stmt) (i : ℕ) → length ss ≤ i → SoFar jumps ss i → (true ≡ all_complete (stmts_of ss)) × (jumps ≡ some_jump_out (stmts_of ss))
unfolding completes jumps_out
so_far_end {jumps} ss i le so = (
  ap (λ (l : List Stmt). all_complete (stmts_of l)) (sym (drop_past ss i le)) ∙ so.completes_are,
  sym (or_none jumps) ∙ ap (λ (l : List Stmt). jumps || some_jump_out (stmts_of l)) (sym (drop_past ss i le)) ∙ so.jumps_are,
)

pub stmts_end : {s0 start : Progress} {e0 first : List Exit} (w : Scope) (ss : List Stmt) (i : ℕ) → length ss ≤ i
    → ((s : Progress) (last : List Exit) → Drafts s0 s e0 last (block w (stmts_of (drop i ss))) → Drafts start s first last (block w (stmts_of ss)))
    → Drafts start s0 first e0 (block w (stmts_of ss))
unfolding stmt_block
stmts_end {s0} {start} {e0} {first} w ss i le go =
    let none : Drafts s0 s0 e0 e0 (block w (stmts_of [])) = drafts_none s0 e0 in
    go s0 e0 (subst (λ (l : List Stmt). Drafts s0 s0 e0 e0 (block w (stmts_of l))) (sym (drop_past ss i le)) none)

led_split : (s : Progress) (old new : List Exit) (jump : ℕ) → new ≡ old ++ exit.Stop jump ∷ [] → led (replaced s jump (jump_point (place s))) old ≡ led s new
led_split s old new jump is =
    let r : Progress = replaced s jump (jump_point (place s)) in
    let long : place r ≡ place s = ap (λ (n : ℕ). s.first + n) (length-set s.points jump (jump_point (place s))) in
    let to : Targets = record { stop = place s; again = place s } in
    ap (λ (n : ℕ). filled (record { stop = n; again = n }) old r) long
    ∙ sym (filled_split to old (exit.Stop jump) s)
    ∙ ap (λ (l : List Exit). filled to l s) (sym is)

-- an arm, from its parts as they were put
pub arm_is : {s0 s1 s2 s3 s4 s5 s6 : Progress} {e0 e1 e2 j0 j1 : List Exit} {c : Code ℕ} {one rest : Block} {x branch first second : ℕ} (on : Bool)
    → Emits s0 s1 c x → Reserves s1 s2 branch first → Drafts s2 s3 e0 e1 one → PutsJump on s3 s4 j0 j1 → second ≡ place s4 → Replaces s4 s5 branch (branch_point x first second) → Drafts s5 s6 e1 e2 rest
    → Armed s0 s6 e0 e2 j0 j1 (arm on c one rest)
arm_is {s0} {s1} {s2} {s3} {s4} {s5} {s6} {e0} {e1} {e2} {j0} {j1} {c} {one} {rest} {x} {branch} {first} {second} true d r a p at q b =
    let known : Replaces s4 s5 branch (branch_point x first (place s4)) = subst (λ (n : ℕ). Replaces s4 s5 branch (branch_point x first n)) at q in
    record {
      so_far = replaced s6 p.index (jump_point (place s6));
      drafts = drafts_either d r a p.reserves known b;
      same = led_split s6 j0 j1 p.index p.exits;
    }
arm_is {s0} {s1} {s2} {s3} {s4} {s5} {s6} {e0} {e1} {e2} {j0} {j1} {c} {one} {rest} {x} {branch} {first} {second} false d r a p at q b =
    let known : Replaces s3 s5 branch (branch_point x first second) = subst (λ (s : Progress). Replaces s s5 branch (branch_point x first second)) p.0 q in
    record {
      so_far = s6;
      drafts = drafts_guarding d r a (at ∙ ap (λ (s : Progress). place s) p.0) known b;
      same = ap (λ (l : List Exit). led s6 l) (sym p.1);
    }

-- by what is known of the body
pub arm_by : {s0 s6 : Progress} {e0 e2 j0 j1 : List Exit} (c : Code ℕ) (one rest : Block) {on on' : Bool} → on ≡ on' → Armed s0 s6 e0 e2 j0 j1 (arm on c one rest) → Armed s0 s6 e0 e2 j0 j1 (arm on' c one rest)
arm_by {s0} {s6} {e0} {e2} {j0} {j1} c one rest is a = subst (λ (v : Bool). Armed s0 s6 e0 e2 j0 j1 (arm v c one rest)) is a

pub arms_further : {s0 s1 start : Progress} {e0 e1 first : List Exit} (w : Scope) (arms : List (Expr × Vec Stmt Global)) (other : Block) (i : ℕ) (one : Expr × Vec Stmt Global) (body : List Stmt) (old new : List Exit)
    → i < length arms → one ≡ get_or arms i one → body ≡ one.1.items
    → ((s : Progress) (last : List Exit) (rest : Block) → Drafts s1 s e1 last rest
    → Armed s0 s e0 last old new (arm (all_complete (stmts_of body)) (code w (plain_expr one.0)) (block w (stmts_of body)) rest))
    → ((s : Progress) (last : List Exit) → Drafts s0 s e0 last (arms_block w (arms_of (drop i arms)) other) → Drafts start (led s old) first last (arms_block w (arms_of arms) other))
    → (s : Progress) (last : List Exit) → Drafts s1 s e1 last (arms_block w (arms_of (drop (i + 1) arms)) other) → Drafts start (led s new) first last (arms_block w (arms_of arms) other)
unfolding stmt_block
arms_further {s0} {s1} {start} {e0} {e1} {first} w arms other i one body old new lt is same step go s last k =
    let here : one ∷ drop (i + 1) arms ≡ drop i arms = sym (drop_here arms i one lt is) in
    let rest : Block = arms_block w (arms_of (drop (i + 1) arms)) other in
    let armed : Armed s0 s e0 last old new (arm (all_complete (stmts_of body)) (code w (plain_expr one.0)) (block w (stmts_of body)) rest) = step s last rest k in
    let r : Progress = armed.so_far in
    let put : Drafts s0 r e0 last (arms_block w (arms_of (one ∷ drop (i + 1) arms)) other) =
    subst (λ (a : List Stmt). Drafts s0 r e0 last (arm (all_complete (stmts_of a)) (code w (plain_expr one.0)) (block w (stmts_of a)) rest)) same armed.drafts in
    let all : Drafts start (led r old) first last (arms_block w (arms_of arms) other) = go r last (subst (λ (l : List (Expr × Vec Stmt Global)). Drafts s0 r e0 last (arms_block w (arms_of l) other)) here put) in
    subst (λ (q : Progress). Drafts start q first last (arms_block w (arms_of arms) other)) armed.same all

-- how the arms so far may be left
pub record ArmsSoFar (on jumps : Bool) (arms : List (Expr × Vec Stmt Global)) (otherwise : List Stmt) (i : ℕ) : Type 0 where
  pub completes_are : (on || one_completes (arms_of (drop i arms)) (all_complete (stmts_of otherwise))) ≡ one_completes (arms_of arms) (all_complete (stmts_of otherwise))
  pub jumps_are : (jumps || one_jumps_out (arms_of (drop i arms)) (some_jump_out (stmts_of otherwise))) ≡ one_jumps_out (arms_of arms) (some_jump_out (stmts_of otherwise))

pub arms_so_far_further : {on jumps next_on next_jumps one_on one_jumps : Bool} (arms : List (Expr × Vec Stmt Global)) (otherwise : List Stmt) (i : ℕ) (one : Expr × Vec Stmt Global) (body : List Stmt)
    → i < length arms → one ≡ get_or arms i one → body ≡ one.1.items → one_on ≡ all_complete (stmts_of body) → one_jumps ≡ some_jump_out (stmts_of body)
    → next_on ≡ (on || one_on) → next_jumps ≡ (jumps || one_jumps) → ArmsSoFar on jumps arms otherwise i → ArmsSoFar next_on next_jumps arms otherwise (i + 1)
unfolding completes jumps_out
arms_so_far_further {on} {jumps} {next_on} {next_jumps} {one_on} {one_jumps} arms otherwise i one body lt is same on_is jumps_is next_on_is next_jumps_is so =
    let here : one ∷ drop (i + 1) arms ≡ drop i arms = sym (drop_here arms i one lt is) in
    let rest_on = one_completes (arms_of (drop (i + 1) arms)) (all_complete (stmts_of otherwise)) in
    let rest_jumps = one_jumps_out (arms_of (drop (i + 1) arms)) (some_jump_out (stmts_of otherwise)) in
    record {
      completes_are = ap (λ (v : Bool). v || rest_on) next_on_is ∙ or_assoc on one_on rest_on
          ∙ ap (λ (v : Bool). on || (v || rest_on)) (on_is ∙ ap (λ (l : List Stmt). all_complete (stmts_of l)) same)
          ∙ ap (λ (l : List (Expr × Vec Stmt Global)). on || one_completes (arms_of l) (all_complete (stmts_of otherwise))) here ∙ so.completes_are;
      jumps_are = ap (λ (v : Bool). v || rest_jumps) next_jumps_is ∙ or_assoc jumps one_jumps rest_jumps
          ∙ ap (λ (v : Bool). jumps || (v || rest_jumps)) (jumps_is ∙ ap (λ (l : List Stmt). some_jump_out (stmts_of l)) same)
          ∙ ap (λ (l : List (Expr × Vec Stmt Global)). jumps || one_jumps_out (arms_of l) (some_jump_out (stmts_of otherwise))) here ∙ so.jumps_are;
    }

pub arms_so_far_end : {on jumps on_last jumps_last : Bool} (arms : List (Expr × Vec Stmt Global)) (otherwise : List Stmt) (i : ℕ) → length arms ≤ i → on_last ≡ all_complete (stmts_of otherwise) → jumps_last ≡ some_jump_out (stmts_of otherwise) → ArmsSoFar on jumps arms otherwise i
    → ((on || on_last) ≡ one_completes (arms_of arms) (all_complete (stmts_of otherwise))) × ((jumps || jumps_last) ≡ one_jumps_out (arms_of arms) (some_jump_out (stmts_of otherwise)))
unfolding completes jumps_out
arms_so_far_end {on} {jumps} arms otherwise i le on_is jumps_is so = (
  ap (λ (v : Bool). on || v) on_is ∙ ap (λ (l : List (Expr × Vec Stmt Global)). on || one_completes (arms_of l) (all_complete (stmts_of otherwise))) (sym (drop_past arms i le)) ∙ so.completes_are,
  ap (λ (v : Bool). jumps || v) jumps_is ∙ ap (λ (l : List (Expr × Vec Stmt Global)). jumps || one_jumps_out (arms_of l) (some_jump_out (stmts_of otherwise))) (sym (drop_past arms i le)) ∙ so.jumps_are,
)

pub arms_end : {s0 s1 s2 start : Progress} {e0 e1 first : List Exit} (w : Scope) (arms : List (Expr × Vec Stmt Global)) (other : Block) (i : ℕ) (jumps : List Exit) (stop : ℕ) → length arms ≤ i
    → ((s : Progress) (last : List Exit) → Drafts s0 s e0 last (arms_block w (arms_of (drop i arms)) other) → Drafts start (led s jumps) first last (arms_block w (arms_of arms) other))
    → Drafts s0 s1 e0 e1 other → stop ≡ place s1 → s2 ≡ filled (record { stop = stop; again = stop }) jumps s1
    → Drafts start s2 first e1 (arms_block w (arms_of arms) other)
unfolding stmt_block
arms_end {s0} {s1} {s2} {start} {e0} {e1} {first} w arms other i jumps stop le go d at is =
    let none : Drafts s0 s1 e0 e1 (arms_block w (arms_of []) other) = d in
    let all : Drafts start (led s1 jumps) first e1 (arms_block w (arms_of arms) other) =
    go s1 e1 (subst (λ (l : List (Expr × Vec Stmt Global)). Drafts s0 s1 e0 e1 (arms_block w (arms_of l) other)) (sym (drop_past arms i le)) none) in
    let same : led s1 jumps ≡ s2 = sym (ap (λ (n : ℕ). filled (record { stop = n; again = n }) jumps s1) at) ∙ sym is in
    subst (λ (q : Progress). Drafts start q first e1 (arms_block w (arms_of arms) other)) same all

-- a body begins without exits
pub from_none : {s0 s1 : Progress} {none e1 : List Exit} {b : Block} → none ≡ [] → Drafts s0 s1 none e1 b → Drafts s0 s1 [] e1 b
from_none {s0} {s1} {none} {e1} {b} is d = subst (λ (l : List Exit). Drafts s0 s1 l e1 b) is d

-- .. and an `if` without jumps
pub led_none : {start s : Progress} {none first last : List Exit} {b : Block} → none ≡ [] → Drafts start s first last b → Drafts start (led s none) first last b
led_none {start} {s} {none} {first} {last} {b} is d = subst (λ (l : List Exit). Drafts start (led s l) first last b) (sym is) d

-- a statement by its plain form
pub by_stmt : {s0 s1 : Progress} {e0 e1 : List Exit} (w : Scope) (x y : PlainStmt) → x ≡ y → Drafts s0 s1 e0 e1 (stmt_block w y) → Drafts s0 s1 e0 e1 (stmt_block w x)
by_stmt {s0} {s1} {e0} {e1} w x y is d = subst (λ (z : PlainStmt). Drafts s0 s1 e0 e1 (stmt_block w z)) (sym is) d

-- a `for` by its parts as they are seen
pub for_of : {s0 s1 : Progress} {e0 e1 : List Exit} {begin begin' next next' : List Expr} {body body' : List Stmt} (w : Scope) (test : MaybeExpr) → begin ≡ begin' → next ≡ next' → body ≡ body'
    → Drafts s0 s1 e0 e1 (run_code (codes w (exprs_of begin)) before looping (test_code w test) (block w (stmts_of body)) (run_code (codes w (exprs_of next))))
    → Drafts s0 s1 e0 e1 (run_code (codes w (exprs_of begin')) before looping (test_code w test) (block w (stmts_of body')) (run_code (codes w (exprs_of next'))))
for_of {s0} {s1} {e0} {e1} {begin} {begin'} {next} {next'} {body} {body'} w test b n k d =
    let same : (run_code (codes w (exprs_of begin)) before looping (test_code w test) (block w (stmts_of body)) (run_code (codes w (exprs_of next))))
    ≡ (run_code (codes w (exprs_of begin')) before looping (test_code w test) (block w (stmts_of body')) (run_code (codes w (exprs_of next')))) =
    λ i. run_code (codes w (exprs_of (b i))) before looping (test_code w test) (block w (stmts_of (k i))) (run_code (codes w (exprs_of (n i)))) in
    subst (λ (c : Block). Drafts s0 s1 e0 e1 c) same d

-- a `foreach` by its variables
pub each_of : {s0 s1 : Progress} {k : Option ℕ} {v : ℕ} (w : Scope) (a : Code ℕ) (b : Block) (key : Option Name) (x : Name) → k ≡ key_variable w key → v ≡ variable w x
    → Lays s0 s1 (walking a k v b) → Lays s0 s1 (walking a (key_variable w key) (variable w x) b)
each_of {s0} {s1} {k} {v} w a b key x ks vs d =
    let same : walking a k v b ≡ walking a (key_variable w key) (variable w x) b = λ i. walking a (ks i) (vs i) b in
    subst (λ (c : Block). Lays s0 s1 c) same d

-- by what the code found
pub by_return : {s0 s1 : Progress} {v u : Option Expr} (w : Scope) → v ≡ u → Lays s0 s1 (return_block w (maybe_of u)) → Lays s0 s1 (return_block w (maybe_of v))
by_return {s0} {s1} {v} {u} w is d = subst (λ (e : Option Expr). Lays s0 s1 (return_block w (maybe_of e))) (sym is) d

pub by_quit : {s0 s1 : Progress} {v u : Option Expr} (w : Scope) → v ≡ u → Lays s0 s1 (quit_block w (maybe_of u)) → Lays s0 s1 (quit_block w (maybe_of v))
by_quit {s0} {s1} {v} {u} w is d = subst (λ (e : Option Expr). Lays s0 s1 (quit_block w (maybe_of e))) (sym is) d

pub by_test : {s0 s1 : Progress} {h : Head} {v u : Option Expr} (w : Scope) → v ≡ u → Opens s0 s1 h (test_code w (maybe_of u)) → Opens s0 s1 h (test_code w (maybe_of v))
by_test {s0} {s1} {h} {v} {u} w is d = subst (λ (e : Option Expr). Opens s0 s1 h (test_code w (maybe_of e))) (sym is) d

-- an `if` by its parts as they are seen
pub if_of : {s0 s1 : Progress} {e0 e1 : List Exit} {arms arms' : List (Expr × Vec Stmt Global)} {other other' : List Stmt} (w : Scope) → arms ≡ arms' → other ≡ other'
    → Drafts s0 s1 e0 e1 (arms_block w (arms_of arms) (block w (stmts_of other))) → Drafts s0 s1 e0 e1 (arms_block w (arms_of arms') (block w (stmts_of other')))
if_of {s0} {s1} {e0} {e1} {arms} {arms'} {other} {other'} w a b d =
    let same : arms_block w (arms_of arms) (block w (stmts_of other)) ≡ arms_block w (arms_of arms') (block w (stmts_of other')) = λ i. arms_block w (arms_of (a i)) (block w (stmts_of (b i))) in
    subst (λ (c : Block). Drafts s0 s1 e0 e1 c) same d
