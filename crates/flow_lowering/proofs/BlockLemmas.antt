-- Blocks of statements, from their parts as they were put.
use Rattle.std.proofs.Common.{◌≡◌, ◌∙◌, ℕ, ◌+◌, List, [], ◌∷◌, ◌++◌, length, map, refl, sym, ap, arith, append_assoc, length-append}
use Rattle.std.proofs.lemmas.List.{map-append, length-map}
use Rattle.flow_code.specs.Points.{PlainPoint, branch_point, jump_point}
use Rattle.flow_code.specs.Code.{Code, Targets, Block, no_block, ◌before◌, run_code, ending}
use Rattle.flow_code.specs.Statements.{either, guarding}
use Rattle.flow_lowering.specs.Emits.{Progress, place, Puts, Emits, Reserves, Replaces}
use Rattle.flow_lowering.proofs.EmitLemmas.{puts_none, puts_then, puts_same, puts_length, emits_place, emits_end}
use Rattle.flow_lowering.proofs.BranchLemmas.{replaces_between}
use Rattle.flow_lowering.specs.declared.exits.Exit.{Exit}
use Rattle.flow_lowering.specs.declared.exits.Exit.TheVariants as exit
use Rattle.flow_lowering.specs.Drafts.{Draft, settled, leaving, turning, unaimed, aimed, exits_from, replaced}
use Rattle.flow_lowering.specs.Blocks.{Lays, Drafts, stopping, continuing}
use Rattle.flow_lowering.proofs.ReplaceLemmas.{replaces_plain}
use Rattle.flow_lowering.proofs.FillLemmas.{unaimed_settled, aimed_settled, no_exits, exits_append}

append_none : {X : Type 0} (xs : List X) → xs ++ [] ≡ xs
append_none [] = refl
append_none {X} (x ∷ xs) = ap (λ (l : List X). x ∷ l) (append_none xs)

-- blocks without exits

pub lays_none : (s : Progress) → Lays s s no_block
lays_none s = record { there = []; puts = puts_none s; size = omega arith; same = λ to. refl }

pub lays_before : {s0 s1 s2 : Progress} {a b : Block} → Lays s0 s1 a → Lays s1 s2 b → Lays s0 s2 (a before b)
lays_before {s0} {s1} {s2} {a} {b} d e =
    let at : place s1 ≡ place s0 + a.size = omega (arith, d.size, d.puts.first) in
    let slot : s1.slot ≡ s0.slot + a.slots = d.puts.slot in
    record {
      there = d.there ++ e.there;
      puts = puts_then d.puts e.puts;
      size = omega (arith, d.size, e.size);
      same = λ to. (let behind : e.there ≡ b.points to (place s0 + a.size) (s0.slot + a.slots) = e.same to ∙ (λ i. b.points to (at i) (slot i)) in λ i. d.same to i ++ behind i);
    }

pub lays_run : {A : Type 0} {s0 s1 : Progress} {c : Code A} {x : A} → Emits s0 s1 c x → Lays s0 s1 (run_code c)
lays_run {A} {s0} {s1} {c} {x} d = record { there = c.points (place s0) s0.slot; puts = d.puts; size = d.size; same = λ to. refl }

-- one more point, behind code
pub lays_ending : {A : Type 0} {s0 s1 s2 : Progress} {c : Code A} {x : A} {q : PlainPoint} (point : A → Targets → ℕ → PlainPoint)
    → Emits s0 s1 c x → Puts s1 s2 (q ∷ []) 0 → ((to : Targets) → q ≡ point x to (place s1)) → Lays s0 s2 (ending c point)
lays_ending {A} {s0} {s1} {s2} {c} {x} {q} point d p h = record {
  there = c.points (place s0) s0.slot ++ q ∷ [];
  puts = puts_same refl (omega arith) (puts_then d.puts p);
  size = emits_end q d p;
  same = λ to. (let last : q ≡ point (c.gives s0.slot) to (place s0 + c.size) = h to ∙ (λ i. point (d.gives i) to (emits_place d i)) in λ i. c.points (place s0) s0.slot ++ last i ∷ []);
}

-- blocks with exits

pub drafts_of : {s0 s1 : Progress} {b : Block} (es : List Exit) → Lays s0 s1 b → Drafts s0 s1 es es b
drafts_of {s0} {s1} {b} es d = record {
  draft = map settled d.there;
  puts = puts_same (sym (unaimed_settled d.there)) refl d.puts;
  exits = sym (append_none es) ∙ ap (λ (l : List Exit). es ++ l) (sym (no_exits (length s0.points) d.there));
  size = omega (arith, length-map d.there settled, puts_length d.puts, d.size);
  aims = λ to. aimed_settled to d.there ∙ d.same to;
}

pub drafts_none : (s : Progress) (es : List Exit) → Drafts s s es es no_block
drafts_none s es = drafts_of es (lays_none s)

-- where the next block begins
drafts_end : {s0 s1 : Progress} {e0 e1 : List Exit} {a : Block} (d : Drafts s0 s1 e0 e1 a) → length s1.points ≡ length s0.points + length d.draft
drafts_end d = omega (arith, puts_length d.puts, length-map d.draft unaimed)

pub drafts_before : {s0 s1 s2 : Progress} {e0 e1 e2 : List Exit} {a b : Block} → Drafts s0 s1 e0 e1 a → Drafts s1 s2 e1 e2 b → Drafts s0 s2 e0 e2 (a before b)
drafts_before {s0} {s1} {s2} {e0} {e1} {e2} {a} {b} d e =
    let end : length s1.points ≡ length s0.points + length d.draft = drafts_end d in
    let at : place s1 ≡ place s0 + a.size = omega (arith, end, d.size, d.puts.first) in
    let slot : s1.slot ≡ s0.slot + a.slots = d.puts.slot in
    record {
      draft = d.draft ++ e.draft;
      puts = puts_same (sym (map-append unaimed d.draft e.draft)) refl (puts_then d.puts e.puts);
      exits = e.exits ∙ ap (λ (l : List Exit). l ++ exits_from (length s1.points) e.draft) d.exits
          ∙ append_assoc e0 (exits_from (length s0.points) d.draft) (exits_from (length s1.points) e.draft)
          ∙ ap (λ (n : ℕ). e0 ++ (exits_from (length s0.points) d.draft ++ exits_from n e.draft)) end
          ∙ ap (λ (l : List Exit). e0 ++ l) (sym (exits_append (length s0.points) d.draft e.draft));
      size = omega (arith, length-append d.draft e.draft, d.size, e.size);
      aims = λ to. (let behind : map (aimed to) e.draft ≡ b.points to (place s0 + a.size) (s0.slot + a.slots) = e.aims to ∙ (λ i. b.points to (at i) (slot i)) in
          map-append (aimed to) d.draft e.draft ∙ (λ i. d.aims to i ++ behind i));
    }

pub drafts_stop : {s0 s1 : Progress} {e0 e1 : List Exit} {index behind : ℕ} → Reserves s0 s1 index behind → e1 ≡ e0 ++ exit.Stop index ∷ [] → Drafts s0 s1 e0 e1 stopping
drafts_stop {s0} {s1} {e0} {e1} {index} {behind} r is = record {
  draft = leaving ∷ [];
  puts = r.puts;
  exits = is ∙ ap (λ (n : ℕ). e0 ++ exit.Stop n ∷ []) r.index_is;
  size = refl;
  aims = λ to. refl;
}

pub drafts_again : {s0 s1 : Progress} {e0 e1 : List Exit} {index behind : ℕ} → Reserves s0 s1 index behind → e1 ≡ e0 ++ exit.Again index ∷ [] → Drafts s0 s1 e0 e1 continuing
drafts_again {s0} {s1} {e0} {e1} {index} {behind} r is = record {
  draft = turning ∷ [];
  puts = r.puts;
  exits = is ∙ ap (λ (n : ℕ). e0 ++ exit.Again n ∷ []) r.index_is;
  size = refl;
  aims = λ to. refl;
}

-- the exits of two drafts between points that stay
exits_of_two : (n m k : ℕ) (xs : List PlainPoint) (x y : PlainPoint) (d e : List Draft) → m ≡ n + length xs + 1 → k ≡ m + length d + 1
    → exits_from n (map settled xs ++ (settled x ∷ (d ++ settled y ∷ e))) ≡ exits_from m d ++ exits_from k e
exits_of_two n m k xs x y d e first second =
    let at : n + length (map settled xs) + 1 ≡ m = omega (arith, first, length-map xs settled) in
    let past : m + length d + 1 ≡ k = omega (arith, second) in
    exits_append n (map settled xs) (settled x ∷ (d ++ settled y ∷ e))
    ∙ ap (λ (l : List Exit). l ++ exits_from (n + length (map settled xs) + 1) (d ++ settled y ∷ e)) (no_exits n xs)
    ∙ ap (λ (i : ℕ). exits_from i (d ++ settled y ∷ e)) at
    ∙ exits_append m d (settled y ∷ e)
    ∙ ap (λ (i : ℕ). exits_from m d ++ exits_from i e) past

-- a list that stays between lists of which something is made
two_mapped : (f : Draft → PlainPoint) (xs : List PlainPoint) (x y : PlainPoint) (d e : List Draft) → ((q : PlainPoint) → f (settled q) ≡ q) → map f (map settled xs) ≡ xs
    → map f (map settled xs ++ (settled x ∷ (d ++ settled y ∷ e))) ≡ xs ++ (x ∷ (map f d ++ (y ∷ map f e)))
two_mapped f xs x y d e same is =
    map-append f (map settled xs) (settled x ∷ (d ++ settled y ∷ e))
    ∙ ap (λ (l : List PlainPoint). l ++ (f (settled x) ∷ map f (d ++ settled y ∷ e))) is
    ∙ ap (λ (l : List PlainPoint). xs ++ (f (settled x) ∷ l)) (map-append f d (settled y ∷ e))
    ∙ (λ i. xs ++ (same x i ∷ (map f d ++ (same y i ∷ map f e))))

-- how long they are together
two_length : (xs : List PlainPoint) (x y : PlainPoint) (d e : List Draft) (a b c : ℕ) → length xs ≡ a → length d ≡ b → length e ≡ c
    → length (map settled xs ++ (settled x ∷ (d ++ settled y ∷ e))) ≡ a + 1 + b + 1 + c
two_length xs x y d e a b c ea eb ec =
    omega (arith, length-append (map settled xs) (settled x ∷ (d ++ settled y ∷ e)), length-map xs settled, length-append d (settled y ∷ e), ea, eb, ec)

-- a condition and two bodies; the jump over the second body is replaced last
pub drafts_either : {s0 s1 s2 s3 s4 s5 s6 : Progress} {e0 e1 e2 : List Exit} {c : Code ℕ} {one other : Block} {x branch first jump second : ℕ}
    → Emits s0 s1 c x → Reserves s1 s2 branch first → Drafts s2 s3 e0 e1 one → Reserves s3 s4 jump second → Replaces s4 s5 branch (branch_point x first second) → Drafts s5 s6 e1 e2 other
    → Drafts s0 (replaced s6 jump (jump_point (place s6))) e0 e2 (either c one other)
drafts_either {s0} {s1} {s2} {s3} {s4} {s5} {s6} {e0} {e1} {e2} {c} {one} {other} {x} {branch} {first} {jump} {second} d r1 a r2 q b =
    let test : List PlainPoint = c.points (place s0) s0.slot in
    let z : PlainPoint = jump_point 0 in
    let branches : PlainPoint = branch_point x first second in
    let over : PlainPoint = jump_point (place s6) in
    let d1 : List PlainPoint = map unaimed a.draft in
    let d2 : List PlainPoint = map unaimed b.draft in
    let long : length test ≡ c.size = omega (arith, puts_length d.puts, d.size) in
    let n2 : length s2.points ≡ length s0.points + length test + 1 = omega (arith, puts_length d.puts, puts_length r1.puts) in
    let n3 : length s3.points ≡ length s2.points + length a.draft = drafts_end a in
    let n5 : length s5.points ≡ length s2.points + length a.draft + 1 = omega (arith, q.size, puts_length r2.puts, n3) in
    let n6 : length s6.points ≡ length s5.points + length b.draft = drafts_end b in
    let p2 : place s2 ≡ place s0 + c.size + 1 = omega (arith, n2, long, r1.puts.first, d.puts.first) in
    let p5 : place s5 ≡ place s0 + c.size + 1 + one.size + 1 = omega (arith, n5, a.size, p2, q.first, r2.puts.first, a.puts.first) in
    let p6 : place s6 ≡ place s0 + c.size + 1 + one.size + 1 + other.size = omega (arith, n6, b.size, p5, b.puts.first) in
    let t2 : s2.slot ≡ s0.slot + c.slots = omega (arith, r1.puts.slot, d.puts.slot) in
    let t5 : s5.slot ≡ s0.slot + c.slots + one.slots = omega (arith, q.slot, r2.puts.slot, a.puts.slot, t2) in
    let f1 : first ≡ place s0 + c.size + 1 = omega (arith, r1.behind_is, emits_place d) in
    let f2 : second ≡ place s0 + c.size + 1 + one.size + 1 = omega (arith, r2.behind_is, n3, a.size, p2, a.puts.first) in
    let at1 : branch ≡ length s1.points + 0 = omega (arith, r1.index_is) in
    let at2 : jump ≡ length s1.points + length (branches ∷ d1) = omega (arith, r2.index_is, n3, puts_length r1.puts, length-map a.draft unaimed) in
    let mid : Puts s1 s4 (z ∷ (d1 ++ z ∷ [])) (0 + (one.slots + 0)) = puts_then r1.puts (puts_then a.puts r2.puts) in
    let known : Puts s1 s5 (branches ∷ (d1 ++ z ∷ [])) (0 + (one.slots + 0)) = replaces_between [] (d1 ++ z ∷ []) z branch branches mid at1 q in
    let whole : Puts s1 s6 ((branches ∷ d1) ++ z ∷ d2) (0 + (one.slots + 0) + other.slots) =
    puts_same (ap (λ (l : List PlainPoint). branches ∷ l) (append_assoc d1 (z ∷ []) d2)) refl (puts_then known b.puts) in
    let done : Puts s1 (replaced s6 jump over) ((branches ∷ d1) ++ over ∷ d2) (0 + (one.slots + 0) + other.slots) =
    replaces_between (branches ∷ d1) d2 z jump over whole at2 (replaces_plain s6 jump over) in
    let all : List Draft = map settled test ++ (settled branches ∷ (a.draft ++ settled over ∷ b.draft)) in
    record {
      draft = all;
      puts = puts_same (sym (two_mapped unaimed test branches over a.draft b.draft (λ y. refl) (unaimed_settled test))) (omega arith) (puts_then d.puts done);
      exits = b.exits ∙ ap (λ (l : List Exit). l ++ exits_from (length s5.points) b.draft) a.exits
          ∙ append_assoc e0 (exits_from (length s2.points) a.draft) (exits_from (length s5.points) b.draft)
          ∙ ap (λ (l : List Exit). e0 ++ l) (sym (exits_of_two (length s0.points) (length s2.points) (length s5.points) test branches over a.draft b.draft n2 n5));
      size = two_length test branches over a.draft b.draft c.size one.size other.size long a.size b.size;
      aims = λ to. (
          let first_body : map (aimed to) a.draft ≡ one.points to (place s0 + c.size + 1) (s0.slot + c.slots) = a.aims to ∙ (λ i. one.points to (p2 i) (t2 i)) in
          let second_body : map (aimed to) b.draft ≡ other.points to (place s0 + c.size + 1 + one.size + 1) (s0.slot + c.slots + one.slots) = b.aims to ∙ (λ i. other.points to (p5 i) (t5 i)) in
          two_mapped (aimed to) test branches over a.draft b.draft (λ y. refl) (aimed_settled to test)
          ∙ (λ i. test ++ (branch_point (d.gives i) (f1 i) (f2 i) ∷ (first_body i ++ (jump_point (p6 i) ∷ second_body i)))));
    }

-- the exits of a draft behind points that stay, and of one behind it
exits_of_guard : (n m k : ℕ) (xs : List PlainPoint) (x : PlainPoint) (d e : List Draft) → m ≡ n + length xs + 1 → k ≡ m + length d
    → exits_from n (map settled xs ++ (settled x ∷ (d ++ e))) ≡ exits_from m d ++ exits_from k e
exits_of_guard n m k xs x d e first second =
    let at : n + length (map settled xs) + 1 ≡ m = omega (arith, first, length-map xs settled) in
    exits_append n (map settled xs) (settled x ∷ (d ++ e))
    ∙ ap (λ (l : List Exit). l ++ exits_from (n + length (map settled xs) + 1) (d ++ e)) (no_exits n xs)
    ∙ ap (λ (i : ℕ). exits_from i (d ++ e)) at
    ∙ exits_append m d e
    ∙ ap (λ (i : ℕ). exits_from m d ++ exits_from i e) (sym second)

guard_mapped : (f : Draft → PlainPoint) (xs : List PlainPoint) (x : PlainPoint) (d e : List Draft) → ((q : PlainPoint) → f (settled q) ≡ q) → map f (map settled xs) ≡ xs
    → map f (map settled xs ++ (settled x ∷ (d ++ e))) ≡ xs ++ (x ∷ (map f d ++ map f e))
guard_mapped f xs x d e same is =
    map-append f (map settled xs) (settled x ∷ (d ++ e))
    ∙ ap (λ (l : List PlainPoint). l ++ (f (settled x) ∷ map f (d ++ e))) is
    ∙ ap (λ (l : List PlainPoint). xs ++ (f (settled x) ∷ l)) (map-append f d e)
    ∙ (λ i. xs ++ (same x i ∷ (map f d ++ map f e)))

guard_length : (xs : List PlainPoint) (x : PlainPoint) (d e : List Draft) (a b c : ℕ) → length xs ≡ a → length d ≡ b → length e ≡ c
    → length (map settled xs ++ (settled x ∷ (d ++ e))) ≡ a + 1 + b + c
guard_length xs x d e a b c ea eb ec =
    omega (arith, length-append (map settled xs) (settled x ∷ (d ++ e)), length-map xs settled, length-append d e, ea, eb, ec)

-- a condition, a body behind which no run goes on, and another body
pub drafts_guarding : {s0 s1 s2 s3 s5 s6 : Progress} {e0 e1 e2 : List Exit} {c : Code ℕ} {one other : Block} {x branch first second : ℕ}
    → Emits s0 s1 c x → Reserves s1 s2 branch first → Drafts s2 s3 e0 e1 one → second ≡ place s3 → Replaces s3 s5 branch (branch_point x first second) → Drafts s5 s6 e1 e2 other
    → Drafts s0 s6 e0 e2 (guarding c one other)
drafts_guarding {s0} {s1} {s2} {s3} {s5} {s6} {e0} {e1} {e2} {c} {one} {other} {x} {branch} {first} {second} d r1 a at_second q b =
    let test : List PlainPoint = c.points (place s0) s0.slot in
    let z : PlainPoint = jump_point 0 in
    let branches : PlainPoint = branch_point x first second in
    let d1 : List PlainPoint = map unaimed a.draft in
    let d2 : List PlainPoint = map unaimed b.draft in
    let long : length test ≡ c.size = omega (arith, puts_length d.puts, d.size) in
    let n2 : length s2.points ≡ length s0.points + length test + 1 = omega (arith, puts_length d.puts, puts_length r1.puts) in
    let n3 : length s3.points ≡ length s2.points + length a.draft = drafts_end a in
    let n5 : length s5.points ≡ length s2.points + length a.draft = omega (arith, q.size, n3) in
    let p2 : place s2 ≡ place s0 + c.size + 1 = omega (arith, n2, long, r1.puts.first, d.puts.first) in
    let p5 : place s5 ≡ place s0 + c.size + 1 + one.size = omega (arith, n5, a.size, p2, q.first, a.puts.first) in
    let t2 : s2.slot ≡ s0.slot + c.slots = omega (arith, r1.puts.slot, d.puts.slot) in
    let t5 : s5.slot ≡ s0.slot + c.slots + one.slots = omega (arith, q.slot, a.puts.slot, t2) in
    let f1 : first ≡ place s0 + c.size + 1 = omega (arith, r1.behind_is, emits_place d) in
    let f2 : second ≡ place s0 + c.size + 1 + one.size = omega (arith, at_second, n3, a.size, p2, a.puts.first) in
    let at1 : branch ≡ length s1.points + 0 = omega (arith, r1.index_is) in
    let mid : Puts s1 s3 (z ∷ d1) (0 + one.slots) = puts_then r1.puts a.puts in
    let fixed : Puts s1 s5 (branches ∷ d1) (0 + one.slots) = replaces_between [] d1 z branch branches mid at1 q in
    let whole : Puts s1 s6 ((branches ∷ d1) ++ d2) (0 + one.slots + other.slots) = puts_then fixed b.puts in
    let all : List Draft = map settled test ++ (settled branches ∷ (a.draft ++ b.draft)) in
    record {
      draft = all;
      puts = puts_same (sym (guard_mapped unaimed test branches a.draft b.draft (λ y. refl) (unaimed_settled test))) (omega arith) (puts_then d.puts whole);
      exits = b.exits ∙ ap (λ (l : List Exit). l ++ exits_from (length s5.points) b.draft) a.exits
          ∙ append_assoc e0 (exits_from (length s2.points) a.draft) (exits_from (length s5.points) b.draft)
          ∙ ap (λ (l : List Exit). e0 ++ l) (sym (exits_of_guard (length s0.points) (length s2.points) (length s5.points) test branches a.draft b.draft n2 n5));
      size = guard_length test branches a.draft b.draft c.size one.size other.size long a.size b.size;
      aims = λ to. (
          let first_body : map (aimed to) a.draft ≡ one.points to (place s0 + c.size + 1) (s0.slot + c.slots) = a.aims to ∙ (λ i. one.points to (p2 i) (t2 i)) in
          let second_body : map (aimed to) b.draft ≡ other.points to (place s0 + c.size + 1 + one.size) (s0.slot + c.slots + one.slots) = b.aims to ∙ (λ i. other.points to (p5 i) (t5 i)) in
          guard_mapped (aimed to) test branches a.draft b.draft (λ y. refl) (aimed_settled to test)
          ∙ (λ i. test ++ (branch_point (d.gives i) (f1 i) (f2 i) ∷ (first_body i ++ second_body i))));
    }
