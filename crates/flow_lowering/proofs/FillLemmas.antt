-- Exits that are replaced, one by one.
use Rattle.std.proofs.Common.{◌≡◌, ◌∙◌, ℕ, ◌+◌, List, [], ◌∷◌, ◌++◌, length, map, refl, sym, ap, arith, append_assoc, length-append}
use Rattle.std.specs.Prelude.{slice_set}
use Rattle.std.proofs.Math.Seq.{set-append_seam}
use Rattle.std.proofs.lemmas.List.{length-set}
use Rattle.flow_code.specs.Points.{PlainPoint, jump_point, branch_point, next_point}
use Rattle.flow_code.specs.Code.{Targets}
use Rattle.flow_lowering.specs.Emits.{Progress}
use Rattle.flow_lowering.specs.declared.exits.Exit.{Exit}
use Rattle.flow_lowering.specs.declared.exits.Exit.TheVariants as exit
use Rattle.flow_lowering.specs.declared.heads.Head.{Head}
use Rattle.flow_lowering.specs.declared.heads.Head.TheVariants as head
use Rattle.flow_lowering.specs.Drafts.{Draft, settled, leaving, turning, unaimed, aimed, exits_from, replaced, filled, closed}

-- points that stay as they are

pub unaimed_settled : (xs : List PlainPoint) → map unaimed (map settled xs) ≡ xs
unaimed_settled [] = refl
unaimed_settled (x ∷ xs) = ap (λ (l : List PlainPoint). x ∷ l) (unaimed_settled xs)

pub aimed_settled : (to : Targets) (xs : List PlainPoint) → map (aimed to) (map settled xs) ≡ xs
aimed_settled to [] = refl
aimed_settled to (x ∷ xs) = ap (λ (l : List PlainPoint). x ∷ l) (aimed_settled to xs)

pub no_exits : (n : ℕ) (xs : List PlainPoint) → exits_from n (map settled xs) ≡ []
no_exits n [] = refl
no_exits n (x ∷ xs) = no_exits (n + 1) xs

-- exits of one behind the other

exits_at : (d : List Draft) {m n : ℕ} → m ≡ n → exits_from m d ≡ exits_from n d
exits_at d e = ap (λ (k : ℕ). exits_from k d) e

pub exits_append : (n : ℕ) (d e : List Draft) → exits_from n (d ++ e) ≡ exits_from n d ++ exits_from (n + length d) e
exits_append n [] e = let at : n ≡ n + 0 = omega arith in exits_at e at
exits_append n (settled x ∷ d) e =
    let at : n + 1 + length d ≡ n + length (settled x ∷ d) = omega arith in
    exits_append (n + 1) d e ∙ ap (λ (l : List Exit). exits_from (n + 1) d ++ l) (exits_at e at)
exits_append n (leaving ∷ d) e =
    let at : n + 1 + length d ≡ n + length (leaving ∷ d) = omega arith in
    ap (λ (l : List Exit). exit.Stop n ∷ l) (exits_append (n + 1) d e ∙ ap (λ (l : List Exit). exits_from (n + 1) d ++ l) (exits_at e at))
exits_append n (turning ∷ d) e =
    let at : n + 1 + length d ≡ n + length (turning ∷ d) = omega arith in
    ap (λ (l : List Exit). exit.Again n ∷ l) (exits_append (n + 1) d e ∙ ap (λ (l : List Exit). exits_from (n + 1) d ++ l) (exits_at e at))

-- what replacing changes and what not

pub filled_first : (to : Targets) (es : List Exit) (s : Progress) → (filled to es s).first ≡ s.first
filled_first to [] s = refl
filled_first to (exit.Stop i ∷ es) s = filled_first to es s
filled_first to (exit.Again i ∷ es) s = filled_first to es s

pub filled_slot : (to : Targets) (es : List Exit) (s : Progress) → (filled to es s).slot ≡ s.slot
filled_slot to [] s = refl
filled_slot to (exit.Stop i ∷ es) s = filled_slot to es s
filled_slot to (exit.Again i ∷ es) s = filled_slot to es s

pub filled_length : (to : Targets) (es : List Exit) (s : Progress) → length (filled to es s).points ≡ length s.points
filled_length to [] s = refl
filled_length to (exit.Stop i ∷ es) s = length-set (filled to es s).points i (jump_point to.stop) ∙ filled_length to es s
filled_length to (exit.Again i ∷ es) s = length-set (filled to es s).points i (jump_point to.again) ∙ filled_length to es s

pub closed_length : (stop : ℕ) (h : Head) (s : Progress) → length (closed stop h s).points ≡ length s.points
closed_length stop (head.Test x point) s = length-set s.points point.index (branch_point x.0 point.behind.0 stop)
closed_length stop (head.Walk x point) s = length-set s.points point.index (next_point x.0 point.behind.0 stop)
closed_length stop head.Always s = refl

-- the last exit comes first
pub filled_split : (to : Targets) (es : List Exit) (e : Exit) (s : Progress) → filled to (es ++ e ∷ []) s ≡ filled to es (filled to (e ∷ []) s)
filled_split to [] e s = refl
filled_split to (exit.Stop i ∷ es) e s = ap (λ (q : Progress). replaced q i (jump_point to.stop)) (filled_split to es e s)
filled_split to (exit.Again i ∷ es) e s = ap (λ (q : Progress). replaced q i (jump_point to.again)) (filled_split to es e s)

-- where the points behind a front are a draft, replacing its exits aims it

one_further : (to : Targets) (d : List Draft) (front rest : List PlainPoint) (x : PlainPoint) (s : Progress)
    → (filled to (exits_from (length (front ++ x ∷ [])) d) s).points ≡ (front ++ x ∷ []) ++ (map (aimed to) d ++ rest)
    → (filled to (exits_from (length front + 1) d) s).points ≡ front ++ (x ∷ (map (aimed to) d ++ rest))
one_further to d front rest x s is =
    let at : length front + 1 ≡ length (front ++ x ∷ []) = omega (arith, length-append front (x ∷ [])) in
    ap (λ (n : ℕ). (filled to (exits_from n d) s).points) at ∙ is ∙ append_assoc front (x ∷ []) (map (aimed to) d ++ rest)

pub filled_draft : (to : Targets) (d : List Draft) (front rest : List PlainPoint) (s : Progress) → s.points ≡ front ++ (map unaimed d ++ rest)
    → (filled to (exits_from (length front) d) s).points ≡ front ++ (map (aimed to) d ++ rest)
filled_draft to [] front rest s is = is
filled_draft to (settled x ∷ d) front rest s is =
    one_further to d front rest x s (filled_draft to d (front ++ x ∷ []) rest s (is ∙ sym (append_assoc front (x ∷ []) (map unaimed d ++ rest))))
filled_draft to (leaving ∷ d) front rest s is =
    let x : PlainPoint = jump_point 0 in
    ap (λ (l : List PlainPoint). slice_set l (length front) (jump_point to.stop))
    (one_further to d front rest x s (filled_draft to d (front ++ x ∷ []) rest s (is ∙ sym (append_assoc front (x ∷ []) (map unaimed d ++ rest)))))
    ∙ set-append_seam front x (map (aimed to) d ++ rest) (jump_point to.stop)
filled_draft to (turning ∷ d) front rest s is =
    let x : PlainPoint = jump_point 0 in
    ap (λ (l : List PlainPoint). slice_set l (length front) (jump_point to.again))
    (one_further to d front rest x s (filled_draft to d (front ++ x ∷ []) rest s (is ∙ sym (append_assoc front (x ∷ []) (map unaimed d ++ rest)))))
    ∙ set-append_seam front x (map (aimed to) d ++ rest) (jump_point to.again)
