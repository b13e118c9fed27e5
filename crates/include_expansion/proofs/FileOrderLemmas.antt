-- An order of places is an order of names.
use Rattle.std.proofs.Common.{◌≡◌, ◌∙◌, ◌<◌, ℕ, zero, suc, true, List, [], ◌∷◌, length, take, Some, slice_get, inl, inr, refl, sym, ap, subst, arith}
use Rattle.std.specs.Prelude.{◌⊎◌}
use Rattle.std.specs.List.{Contains}
use Rattle.smallvec.specs.SmallVec.{SmallVec}
use Rattle.std.proofs.lemmas.List.{take-map}
use Rattle.std.proofs.lemmas.Option.{same_Some, slice_get_within}
use Rattle.strong_components.specs.Edges.{HasEdge, AreWithin, Leads, by_edge, onward, IsOrder}
use Rattle.php_syntax.specs.Trees.{PlainFile}
use Rattle.program_rules.specs.Files.{Held, HasTree}
use Rattle.program_rules.specs.Includes.{includes_of_file, LeadsTo, directly, through}
use Rattle.program_rules.specs.Programs.{ReadFile}
use Rattle.program_files.specs.declared.refusal.LoadRefusal.{LoadRefusal}
use Rattle.program_files.specs.declared.refusal.LoadRefusal.TheVariants.{IncludeCycle, Memory}
use Rattle.program_files.specs.Order.{is_read, place_of}
use Rattle.include_expansion.specs.Within.{tree_named, AreHeld}
use Rattle.include_expansion.specs.FileOrder.{AreWhole, name_or_none, names_at, IsFileOrder, IsOrderCause}
use Rattle.include_expansion.specs.FileEdges.{AreEdges}
use Rattle.include_expansion.proofs.PlaceLemmas.{place_there, file_there, place_within, tree_there, read_here}
use Rattle.include_expansion.proofs.EdgeLemmas.{among, named}

there : {X : Type 0} (xs : List X) (i : ℕ) → i < length xs → (x : X) × (slice_get xs i ≡ Some x)
there [] i lt = absurd (omega arith)
there (x ∷ xs) zero lt = (x, refl)
there (x ∷ xs) (suc i) lt = there xs i (omega arith)

at_place : {X : Type 0} (xs : List X) (i : ℕ) (x : X) → slice_get xs i ≡ Some x → Contains xs x
at_place [] i x e = absurd (cc)
at_place (y ∷ ys) zero x e = (0, omega arith, same_Some y x e)
at_place (y ∷ ys) (suc i) x e = let rest = at_place ys i x e in (suc rest.0, (let h = rest.1 in omega arith), rest.2)

-- the name at one of the places
name_among : (files : List ReadFile) (places : List ℕ) (place : ℕ) (file : ReadFile) → Contains places place → slice_get files place ≡ Some file → Contains (names_at files places) file.name
name_among files [] place file c e = absurd (let h = c.1 in omega arith)
name_among files (p ∷ ps) place file (zero, lt, is) e = (0, omega arith, ap name_or_none (ap (slice_get files) is ∙ e))
name_among files (p ∷ ps) place file (suc i, lt, is) e = let rest = name_among files ps place file (i, omega arith, is) e in (suc rest.0, (let h = rest.1 in omega arith), rest.2)

place_among : (files : List ReadFile) (places : List ℕ) (name : List ℕ) → Contains (names_at files places) name → (place : ℕ) × Contains places place × (name ≡ name_or_none (slice_get files place))
place_among files [] name c = absurd (let h = c.1 in omega arith)
place_among files (p ∷ ps) name (zero, lt, is) = (p, (0, omega arith, refl), sym is)
place_among files (p ∷ ps) name (suc i, lt, is) = let rest = place_among files ps name (i, omega arith, is) in (rest.0, (let c = rest.1 in (suc c.0, (let h = c.1 in omega arith), c.2)), rest.2)

name_get : (files : List ReadFile) (places : List ℕ) (k : ℕ) (name : List ℕ) → slice_get (names_at files places) k ≡ Some name → (place : ℕ) × (slice_get places k ≡ Some place) × (name ≡ name_or_none (slice_get files place))
name_get files [] k name e = absurd (cc)
name_get files (p ∷ ps) zero name e = (p, refl, sym (same_Some (name_or_none (slice_get files p)) name e))
name_get files (p ∷ ps) (suc k) name e = name_get files ps k name e

first_names : (files : List ReadFile) (k : ℕ) (places : List ℕ) → take k (names_at files places) ≡ names_at files (take k places)
first_names files k places = take-map (λ (place : ℕ). name_or_none (slice_get files place)) k places

-- a file is found by its name
own_place : (files : List ReadFile) (place : ℕ) (file : ReadFile) → AreWhole files → slice_get files place ≡ Some file → place_of files file.name ≡ Some place
own_place files place file whole at =
    let p = place_there files file.name (read_here files place file at) in
    let f = file_there files file.name p.0 p.1 in
    p.1 ∙ ap Some (whole.own p.0 place f.0 file f.1 at (sym f.2))

-- the tree under the name of a file is that of the file
own_tree : (files : List ReadFile) (place : ℕ) (file : ReadFile) → AreWhole files → slice_get files place ≡ Some file → tree_named files file.name ≡ file.tree
own_tree files place file whole at = tree_there files file.name place file (own_place files place file whole at) at

edge_to : (files : List ReadFile) (edges : List (SmallVec ℕ)) (from : ℕ) (file : ReadFile) (path : List ℕ) (to : ℕ) → AreEdges files edges → slice_get files from ≡ Some file → Contains (includes_of_file file.tree) path → place_of files path ≡ Some to → HasEdge edges from to
edge_to files edges from file path to is at own e =
    let less : from < length edges = (let h = slice_get_within files from file at in let s = is.size in omega arith) in
    let v = there edges from less in
    record { targets = v.0; are = v.1; among = subst (λ (xs : List ℕ). Contains xs to) (sym (is.each from file v.0 at v.1)) (among files (includes_of_file file.tree) path to own e) }

-- what an edge says
record Includes (files : List ReadFile) (from to : ℕ) : Type 0 where
  pub file : ReadFile
  pub at : slice_get files from ≡ Some file
  pub path : List ℕ
  pub own : Contains (includes_of_file file.tree) path
  pub place : place_of files path ≡ Some to

edge_says : (files : List ReadFile) (edges : List (SmallVec ℕ)) (from to : ℕ) → AreEdges files edges → HasEdge edges from to → Includes files from to
edge_says files edges from to is edge =
    let less : from < length files = (let h = slice_get_within edges from edge.targets edge.are in let s = is.size in omega arith) in
    let f = there files from less in
    let p = named files (includes_of_file f.0.tree) to (subst (λ (xs : List ℕ). Contains xs to) (is.each from f.0 edge.targets f.1 edge.are) edge.among) in
    record { file = f.0; at = f.1; path = p.0; own = p.1; place = p.2 }

pub edges_within : (files : List ReadFile) (edges : List (SmallVec ℕ)) → AreEdges files edges → AreWithin edges
edges_within files edges is from to edge =
    let i = edge_says files edges from to is edge in
    let h = place_within files i.path to i.place in
    let s = is.size in
    omega arith

pub order_is : (files : List ReadFile) (edges : List (SmallVec ℕ)) (places : List ℕ) → AreWhole files → AreEdges files edges → IsOrder edges places → IsFileOrder files places
order_is files edges places whole is sorted =
    let within : (place : ℕ) → Contains places place → place < length files = λ place c. (let h = sorted.within place c in let s = is.size in omega arith) in
    record {
      within = within;
      found = λ place file at. own_place files place file whole at;
      order = record {
        all = λ path read. (
            let p = place_there files path read in
            let f = file_there files path p.0 p.1 in
            let less : p.0 < length edges = (let h = place_within files path p.0 p.1 in let s = is.size in omega arith) in
            subst (λ (x : List ℕ). Contains (names_at files places) x) (sym f.2) (name_among files places p.0 f.0 (sorted.all p.0 less) f.1)
            );
        within = λ path c. (
            let p = place_among files places path c in
            let f = there files p.0 (within p.0 p.1) in
            subst (λ (x : List ℕ). is_read files x ≡ true) (sym (p.2 ∙ ap name_or_none f.1)) (read_here files p.0 f.0 f.1)
            );
        sorted = λ k name path at own. (
            let p = name_get files places k name at in
            let f = there files p.0 (within p.0 (at_place places k p.0 p.1)) in
            let same : name ≡ f.0.name = p.2 ∙ ap name_or_none f.1 in
            let tree : tree_named files name ≡ f.0.tree = ap (tree_named files) same ∙ own_tree files p.0 f.0 whole f.1 in
            let inner : Contains (includes_of_file f.0.tree) path = subst (λ (t : PlainFile). Contains (includes_of_file t) path) tree own in
            let target = place_there files path (whole.closed f.0 path (at_place files p.0 f.0 f.1) inner) in
            let file = file_there files path target.0 target.1 in
            let first = sorted.sorted k p.0 target.0 p.1 (edge_to files edges p.0 f.0 path target.0 is f.1 inner target.1) in
            subst (λ (xs : List (List ℕ)). Contains xs path) (sym (first_names files k places))
            (subst (λ (x : List ℕ). Contains (names_at files (take k places)) x) (sym file.2) (name_among files (take k places) target.0 file.0 first file.1))
            );
      };
    }

-- edges that lead from one file to another: the first includes the other, whatever held the files
leads : (files : List ReadFile) (edges : List (SmallVec ℕ)) → AreWhole files → AreEdges files edges → (held : Held) → AreHeld held files → (from to : ℕ) (one other : ReadFile) → Leads edges from to → slice_get files from ≡ Some one → slice_get files to ≡ Some other → LeadsTo held one.name other.name
leads files edges whole is held has from to one other (by_edge _ _ edge) at goal =
    let i = edge_says files edges from to is edge in
    let f = file_there files i.path to i.place in
    let same : i.file ≡ one = same_Some i.file one (sym i.at ∙ at) in
    let own : Contains (includes_of_file one.tree) i.path = subst (λ (g : ReadFile). Contains (includes_of_file g.tree) i.path) same i.own in
    let tree : HasTree held one.name one.tree = subst (λ (t : PlainFile). HasTree held one.name t) (own_tree files from one whole at) (has one.name (read_here files from one at)) in
    let name : i.path ≡ other.name = f.2 ∙ ap (λ (g : ReadFile). g.name) (same_Some f.0 other (sym f.1 ∙ goal)) in
    subst (LeadsTo held one.name) name (directly one.name i.path one.tree tree own)
leads files edges whole is held has from to one other (onward _ next _ edge rest) at goal =
    let i = edge_says files edges from next is edge in
    let f = file_there files i.path next i.place in
    let same : i.file ≡ one = same_Some i.file one (sym i.at ∙ at) in
    let own : Contains (includes_of_file one.tree) i.path = subst (λ (g : ReadFile). Contains (includes_of_file g.tree) i.path) same i.own in
    let tree : HasTree held one.name one.tree = subst (λ (t : PlainFile). HasTree held one.name t) (own_tree files from one whole at) (has one.name (read_here files from one at)) in
    let onward_from : LeadsTo held f.0.name other.name = leads files edges whole is held has next to f.0 other rest f.1 goal in
    through one.name i.path other.name one.tree tree own (subst (λ (x : List ℕ). LeadsTo held x other.name) (sym f.2) onward_from)

first_edge : (edges : List (SmallVec ℕ)) (from to : ℕ) → Leads edges from to → from < length edges
first_edge edges from to (by_edge _ _ edge) = slice_get_within edges from edge.targets edge.are
first_edge edges from to (onward _ next _ edge rest) = slice_get_within edges from edge.targets edge.are

pub circle_within : (files : List ReadFile) (edges : List (SmallVec ℕ)) (place : ℕ) → AreEdges files edges → Leads edges place place → place < length files
circle_within files edges place is circle = let h = first_edge edges place place circle in let s = is.size in omega arith

pub circle : (files : List ReadFile) (edges : List (SmallVec ℕ)) (place : ℕ) (file : ReadFile) → AreWhole files → AreEdges files edges → Leads edges place place → slice_get files place ≡ Some file
    → (is_read files file.name ≡ true) × ((held : Held) → AreHeld held files → LeadsTo held file.name file.name)
circle files edges place file whole is around at = (read_here files place file at, λ held has. leads files edges whole is held has place place file file around at at)

pub cause_is : (files : List ReadFile) (edges : List (SmallVec ℕ)) (place : ℕ) (refusal : LoadRefusal) → AreWhole files → AreEdges files edges → Leads edges place place
    → (refusal ≡ Memory) ⊎ ((file : ReadFile) × (slice_get files place ≡ Some file) × (refusal ≡ IncludeCycle file.name)) → IsOrderCause files refusal
cause_is files edges place refusal whole is around (inl e) = let P : LoadRefusal → Type 0 = λ r. IsOrderCause files r in subst P (sym e) tt
cause_is files edges place refusal whole is around (inr (file, at, e)) = let P : LoadRefusal → Type 0 = λ r. IsOrderCause files r in subst P (sym e) (circle files edges place file whole is around at)
