-- Steps of a search, and what it comes to.
use Rattle.std.proofs.Common.{◌≡◌, ◌<◌, ◌≤◌, ◌+◌, ℕ, zero, suc, List, [], ◌∷◌, ◌++◌, length, map, take, set, Some, None, slice_get, inl, inr, refl, sym, ◌∙◌, ap, subst, arith}
use Rattle.std.proofs.lemmas.List.{length-map}
use Rattle.std.specs.Prelude.{◌⊎◌}
use Rattle.std.specs.List.{Contains}
use Rattle.smallvec.specs.SmallVec.{SmallVec}
use Rattle.std.proofs.lemmas.Option.{same_Some, slice_get_within, slice_get-get_or, slice_get-map}
use Rattle.strong_components.specs.Edges.{HasEdge}
use Rattle.strong_components.proofs.OrderListLemmas.{set_at}
use Rattle.strong_components.specs.Components.{Reaches, AreComponents}
use Rattle.strong_components.specs.declared.marks.Mark.{Mark}
use Rattle.strong_components.specs.declared.marks.Mark.TheVariants.{New, Open, Done}
use Rattle.strong_components.specs.declared.marks.Waiting.{Waiting}
use Rattle.strong_components.specs.declared.search.Search.{Search}
use Rattle.strong_components.specs.Search.{AreNew, IsSorted, IsExplored, IsSearch, FewerNew, work_left, kept, number_in}
use Rattle.strong_components.specs.Opening.{Opens, Shuts, Keeps, KeepsBut, IsLast, AreBefore, work_of, GoesOn, IsMet}
use Rattle.strong_components.proofs.ListLemmas.{none_in, later_in, kept_fewer, of_map, new_open, new_done}
use Rattle.strong_components.proofs.ReachLemmas.{reach_edge}
use Rattle.strong_components.proofs.PassLemmas as pass
use Rattle.strong_components.proofs.OpenLemmas as opening
use Rattle.strong_components.proofs.CloseLemmas as closing

-- the same state by other names
moved : (edges : List (SmallVec ℕ)) (m n : List Mark) (p q s t : List ℕ) (w x : List Waiting) (f g : ℕ) → n ≡ m → q ≡ p → t ≡ s → x ≡ w → g ≡ f → IsSearch edges m p s w f → IsSearch edges n q t x g
moved edges m n p q s t w x f g em ep es ew ef h =
    subst (λ (z : ℕ). IsSearch edges n q t x z) (sym ef)
    (subst (λ (z : List Waiting). IsSearch edges n q t z f) (sym ew)
    (subst (λ (z : List ℕ). IsSearch edges n q z w f) (sym es)
    (subst (λ (z : List ℕ). IsSearch edges n z s w f) (sym ep)
    (subst (λ (z : List Mark). IsSearch edges z p s w f) (sym em) h))))

work_same : (m n : List Mark) (s t : List ℕ) (w x : List Waiting) → n ≡ m → t ≡ s → x ≡ w → work_left n t x ≡ work_left m s w
work_same m n s t w x em es ew = subst (λ (z : List Mark). work_left z t x ≡ work_left m s w) (sym em) (subst (λ (z : List ℕ). work_left m z x ≡ work_left m s w) (sym es) (ap (work_left m s) ew))

fewer_same : (m n k : List Mark) → n ≡ k → FewerNew m k → FewerNew m n
fewer_same m n k e h = subst (FewerNew m) (sym e) h

-- a node that is opened, whatever leads to it
opened_so : (edges : List (SmallVec ℕ)) (old new : Search) (before : List Waiting) (node degree : ℕ) → Opens edges node old new
    → IsSearch edges old.marks.items old.path.items old.starts before (length old.roots.items) → slice_get old.marks.items node ≡ Some (New degree)
    → ((p u : ℕ) → slice_get old.path.items p ≡ Some u → Reaches edges u node)
    → ((x : Waiting) → Contains old.waiting x → Contains before x) → IsSorted old.waiting
    → ((p u t : ℕ) → slice_get old.path.items p ≡ Some u → HasEdge edges u t → (t ≡ node) ⊎ IsExplored old.marks.items old.path.items old.starts old.waiting p t)
    → GoesOn edges old new × (work_of new < work_of old)
opened_so edges old new before node degree o s is lead some in_order left = (
  record {
    keeps = moved edges _ new.marks.items _ new.path.items _ new.starts _ new.waiting _ (length new.roots.items) o.marks o.path o.starts o.waiting (ap length o.roots)
        (opening.opens edges old.marks.items old.path.items old.starts before old.waiting (length old.roots.items) s node degree is o.targets o.are lead some in_order left);
    fewer = fewer_same old.marks.items new.marks.items _ o.marks
        (opening.fewer_new edges old.marks.items old.path.items old.starts before old.waiting (length old.roots.items) s node degree is o.targets o.are lead some in_order left);
    work = (let l = less in omega arith);
  },
  less,
)
  where
    less : work_of new < work_of old
    less =
        let w = opening.work_opened edges old.marks.items old.path.items old.starts before old.waiting (length old.roots.items) s node degree is o.targets o.are lead some in_order left in
        let e = work_same _ new.marks.items _ new.starts _ new.waiting o.marks o.starts o.waiting in
        omega arith

-- the first node of a path
pub first_opened : (edges : List (SmallVec ℕ)) (old new : Search) (node degree : ℕ) → Opens edges node old new → Keeps edges old → slice_get old.marks.items node ≡ Some (New degree) → old.starts ≡ []
    → GoesOn edges old new
first_opened edges old new node degree o s is none =
    (opened_so edges old new old.waiting node degree o s is (λ p u at. absurd (no_path p u at)) (λ x h. h) s.sorted (λ p u t at edge. absurd (no_path p u at))).0
  where
    no_path : (p u : ℕ) → slice_get old.path.items p ≡ Some u → ⊥
    no_path p u at = let g = s.grounded p (slice_get_within old.path.items p u at) in none_in g.start (subst (λ (xs : List ℕ). Contains xs g.start) none g.has)

-- an edge leads to a new node
pub next_opened : (edges : List (SmallVec ℕ)) (old new : Search) (edge : Waiting) (degree : ℕ) → Opens edges edge.to old new → KeepsBut edges old edge → IsLast old.starts edge.from → slice_get old.marks.items edge.to ≡ Some (New degree)
    → GoesOn edges old new
next_opened edges old new edge degree o s last is =
    (opened_so edges old new (edge ∷ old.waiting) edge.to degree o s is lead (λ x h. later_in edge old.waiting x h) s.sorted.1 left).0
  where
    lead : (p u : ℕ) → slice_get old.path.items p ≡ Some u → Reaches edges u edge.to
    lead p u at = let e = s.waiting_edge edge (0, omega arith, refl) in reach_edge edges u e.0 edge.to (s.joined p edge.from u e.0 at e.1 (λ t h le. last t h)) e.2

    left : (p u t : ℕ) → slice_get old.path.items p ≡ Some u → HasEdge edges u t → (t ≡ edge.to) ⊎ IsExplored old.marks.items old.path.items old.starts old.waiting p t
    left p u t at has = elim (pass.but_one edges old.marks.items old.path.items old.starts edge old.waiting (length old.roots.items) s p t (s.explored p u t at has)) [ inl this ↦ inl (sym this.1) | inr other ↦ inr other ]

-- an edge leads to a node that is done
pub passed : (edges : List (SmallVec ℕ)) (old : Search) (edge : Waiting) (n : ℕ) → KeepsBut edges old edge → slice_get old.marks.items edge.to ≡ Some (Done n) → GoesOn edges old old
passed edges old edge n s is = record {
  keeps = pass.passes edges old.marks.items old.path.items old.starts edge old.waiting (length old.roots.items) s n is;
  fewer = λ u d e. e;
  work = omega arith;
}

-- an edge leads to the path
pub merged : (edges : List (SmallVec ℕ)) (old new : Search) (edge : Waiting) (q : ℕ) → KeepsBut edges old edge → IsLast old.starts edge.from → slice_get old.marks.items edge.to ≡ Some (Open q)
    → new.marks.items ≡ old.marks.items → new.path.items ≡ old.path.items → new.starts ≡ kept q old.starts → new.waiting ≡ old.waiting → new.roots.items ≡ old.roots.items → GoesOn edges old new
merged edges old new edge q s last is marks path starts waiting roots = record {
  keeps = moved edges _ new.marks.items _ new.path.items _ new.starts _ new.waiting _ (length new.roots.items) marks path starts waiting (ap length roots)
      (pass.merges edges old.marks.items old.path.items old.starts edge old.waiting (length old.roots.items) s q (s.placed edge.to q is) last);
  fewer = fewer_same old.marks.items new.marks.items old.marks.items marks (λ u d e. e);
  work = let e = work_same _ new.marks.items _ new.starts _ new.waiting marks starts waiting in let f = kept_fewer q old.starts in omega arith;
}

-- the last group is closed
pub shut : (edges : List (SmallVec ℕ)) (old new : Search) (start : ℕ) → Keeps edges old → AreBefore old.waiting start → Shuts start old new → GoesOn edges old new × (work_of new < work_of old)
shut edges old new start s first x = (
  record {
    keeps = moved edges _ new.marks.items _ new.path.items _ new.starts _ new.waiting _ (length new.roots.items) refl x.path refl x.waiting x.roots
        (closing.closes edges old.marks.items old.path.items start new.starts old.waiting (length old.roots.items) before first new.marks.items x.marks);
    fewer = closing.fewer_new edges old.marks.items old.path.items start new.starts old.waiting (length old.roots.items) before first new.marks.items x.marks;
    work = (let l = less in omega arith);
  },
  less,
)
  where
    before : IsSearch edges old.marks.items old.path.items (start ∷ new.starts) old.waiting (length old.roots.items)
    before = subst (λ (z : List ℕ). IsSearch edges old.marks.items old.path.items z old.waiting (length old.roots.items)) x.starts s

    less : work_of new < work_of old
    less = let w = x.marks.weight in let e = ap length x.starts in let f = ap length x.waiting in omega arith

pub opened_met : (edges : List (SmallVec ℕ)) (old new : Search) (node : ℕ) → Opens edges node old new → node < length old.marks.items → IsMet new.marks.items node
opened_met edges old new node o lt degree e = new_open degree (length old.path.items) (same_Some (New degree) (Open (length old.path.items)) (sym e ∙ (ap (λ (ms : List Mark). slice_get ms node) o.marks ∙ set_at old.marks.items node (Open (length old.path.items)) lt)))

-- two steps
pub goes_further : (edges : List (SmallVec ℕ)) (a b c : Search) → GoesOn edges a b → GoesOn edges b c → GoesOn edges a c
goes_further edges a b c x y = record { keeps = y.keeps; fewer = λ u d e. x.fewer u d (y.fewer u d e); work = (let p = x.work in let q = y.work in omega arith) }

at : (xs : List (SmallVec ℕ)) (u : ℕ) → u < length xs → (v : SmallVec ℕ) × (slice_get xs u ≡ Some v)
at [] u lt = absurd (omega arith)
at (x ∷ xs) zero lt = (x, refl)
at (x ∷ xs) (suc u) lt = at xs u (omega arith)

-- before the search
searches : (edges : List (SmallVec ℕ)) (marks : List Mark) → AreNew edges marks → IsSearch edges marks [] [] [] 0
searches edges marks new = record {
  size = new.size;
  degrees = λ u d ts e is. degree d (length ts.items) (same_Some (New d) (New (length ts.items)) (sym e ∙ new.each u ts is));
  placed = λ u p e. absurd (all_new u (Open p) e (λ d is. new_open d p (sym is)));
  opened = λ p u e. absurd (no_place p u e);
  joined = λ p q u v e f b. absurd (no_place p u e);
  closed = λ u n v e has. absurd (all_new u (Done n) e (λ d is. new_done d n (sym is)));
  same = λ u v n e f. absurd (all_new u (Done n) e (λ d is. new_done d n (sym is)));
  below = λ u n e. absurd (all_new u (Done n) e (λ d is. new_done d n (sym is)));
  explored = λ p u v e has. absurd (no_place p u e);
  waiting_edge = λ w h. none_in w h;
  sorted = tt;
  starts_in = λ s h. none_in s h;
  rises = tt;
  grounded = λ p lt. absurd (omega arith);
}
  where
    degree : (d e : ℕ) → New d ≡ New e → d ≡ e
    degree d e is = cc

    no_place : (p u : ℕ) → slice_get {X = ℕ} [] p ≡ Some u → ⊥
    no_place p u e = let h = slice_get_within [] p u e in omega arith

    all_new : (u : ℕ) (m : Mark) → slice_get marks u ≡ Some m → ((d : ℕ) → m ≡ New d → ⊥) → ⊥
    all_new u m e other =
        let lt : u < length edges = let h = slice_get_within marks u m e in let l = new.size in omega arith in
        let p = at edges u lt in other (length p.0.items) (same_Some m (New (length p.0.items)) (sym e ∙ new.each u p.0 p.1))

-- a search that has met no node
pub first_search : (edges : List (SmallVec ℕ)) (s : Search) → AreNew edges s.marks.items → s.path.items ≡ [] → s.starts ≡ [] → s.waiting ≡ [] → s.roots.items ≡ [] → Keeps edges s
first_search edges s new path starts waiting roots =
    moved edges s.marks.items s.marks.items [] s.path.items [] s.starts [] s.waiting 0 (length s.roots.items) refl path starts waiting (ap (λ (rs : List ℕ). length rs) roots) (searches edges s.marks.items new)

-- behind the search
pub found_components : (edges : List (SmallVec ℕ)) (s : Search) → Keeps edges s → s.starts ≡ [] → ((u : ℕ) → u < length edges → IsMet s.marks.items u) → AreComponents edges (map number_in s.marks.items)
found_components edges s k none met = record {
  size = let e = length-map {A = Mark} {B = ℕ} s.marks.items number_in in let f = k.size in omega arith;
  falls = λ u v n m edge a b.
      let x = done u n a in let y = done v m b in
      let d = k.closed u n v x edge in
      let e = done_number d.number m (same_Some (Done d.number) (Done m) (sym d.is ∙ y)) in
      let l = d.below in
      omega arith;
  joined = λ a b n e f. k.same a b n (done a n e) (done b n f);
}
  where
    done_number : (d e : ℕ) → Done d ≡ Done e → d ≡ e
    done_number d e is = cc

    no_path : (p u : ℕ) → slice_get s.path.items p ≡ Some u → ⊥
    no_path p u at = let g = k.grounded p (slice_get_within s.path.items p u at) in none_in g.start (subst (λ (xs : List ℕ). Contains xs g.start) none g.has)

    by_mark : (u n : ℕ) (m : Mark) → slice_get s.marks.items u ≡ Some m → number_in m ≡ n → slice_get s.marks.items u ≡ Some (Done n)
    by_mark u n (New d) e is = absurd (met u (let h = slice_get_within s.marks.items u (New d) e in let l = k.size in omega arith) d e)
    by_mark u n (Open p) e is = absurd (no_path p u (k.placed u p e))
    by_mark u n (Done m) e is = e ∙ ap (λ x. Some (Done x)) is

    done : (u n : ℕ) → slice_get (map number_in s.marks.items) u ≡ Some n → slice_get s.marks.items u ≡ Some (Done n)
    done u n e = let m = of_map number_in s.marks.items u n e in by_mark u n m.0 m.1 m.2
