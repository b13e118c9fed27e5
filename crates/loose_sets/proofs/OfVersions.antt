-- The table by exact versions has the sets of the loose table.
use Rattle.std.proofs.Common.{◌≡◌, ◌↔◌, ℕ, false, List, Option, Some, None, refl, sym, subst, ◌∙◌}
use Rattle.std.specs.Prelude.{⊤, Contains}
use Rattle.op_system.specs.declared.op.Op.{Op}
use Rattle.flow_code.specs.Points.{PlainPoint, PlainFlow, point_at}
use Rattle.least_sets.specs.Forms.{Form, same_form, apply_form}
use Rattle.least_sets.specs.Sets.{In}
use Rattle.least_sets.specs.Simulations.{TakesOver, Holds, Alike, is_same, HasRow, Simulates, IsMonotone}
use Rattle.least_sets.proofs.Simulated as simulated
use Rattle.loose_sets.specs.Reaching.{Definition, at_point, at_entry, Reaches}
use Rattle.loose_sets.specs.Versions.{PlainVersion, of_definition, join_at, Linked, Behind}
use Rattle.loose_sets.specs.Keys.{told_keys}
use Rattle.loose_sets.specs.Exact.{ReadsSlot, AreExact, by_version, IsRead}
use Rattle.loose_sets.specs.Uses.{At, seen_at, version_seen, version_back}
use Rattle.loose_sets.specs.Arrays.{Forms}
use Rattle.loose_sets.specs.Members.{members_forms, shown_forms}
use Rattle.loose_sets.specs.Points.{source_at, operation_of, output_forms}
use Rattle.loose_sets.specs.Table.{point_of, forms_from, forms_there, forms_beside, forms, RowBy, each_use, reaching, Row}
use Rattle.loose_sets.specs.declared.name.Half.{Half}
use Rattle.loose_sets.specs.declared.name.Aspect.{Aspect}
use Rattle.loose_sets.specs.declared.name.Leaving.{Leaving}
use Rattle.loose_sets.specs.declared.name.SetVersion.{SetVersion}
use Rattle.loose_sets.specs.declared.name.SetVersion.TheVariants.{Point, Entry, Join}
use Rattle.loose_sets.specs.declared.name.SetName.{SetName}
use Rattle.loose_sets.specs.declared.name.SetName.TheVariants.{Value, Members, Shown, Result, Input, Output, Joined, Piece, FurtherPiece, FurtherPieces, Out}
use Rattle.loose_sets.proofs.Lists.{zip_first}
use Rattle.loose_sets.proofs.Returned.{none_in, only_one}
use Rattle.loose_sets.proofs.Carried as table
use Rattle.loose_sets.proofs.Carried.{is_applied, IsFixed, Knows, IsKnown, Carries}

-- a version by numbers is the version, both ways
pub seen_back : (v : PlainVersion) → version_seen (version_back v) ≡ v
seen_back (of_definition (at_point p)) = refl
seen_back (of_definition (at_entry f x)) = refl
seen_back (join_at p x) = refl

pub back_seen : (v : SetVersion) → version_back (version_seen v) ≡ v
back_seen (Point p) = refl
back_seen (Entry f x) = refl
back_seen (Join p x) = refl

-- any aspect
abbrev pub Every : Aspect → Type 0
Every b = ⊤

pub knows_every : (flow : PlainFlow) → Knows flow Every
knows_every flow = record { own = λ h. tt; member = λ i h c e. tt; others = λ h. tt; keys = tt }

-- the outputs at a point are on the inputs there, at any use
pub outputs : (flow : PlainFlow) (at other : At) (p : ℕ) (f : Form SetName) → Contains (forms at flow (Output p)) f → (op : Op) × (f ≡ apply_form op (Input p)) × Contains (forms other flow (Output p)) f
unfolding point_of forms_from output_forms
outputs flow at other p f has = by (point_at flow p) has
  where
    made : (o : Option (Op × List ℕ)) → Contains (output_forms p o) f → (op : Op) × (f ≡ apply_form op (Input p)) × Contains (output_forms p o) f
    made None c = absurd (none_in f c)
    made (Some w) c = (w.0, sym (only_one (apply_form w.0 (Input p)) f c), c)

    by : (o : Option PlainPoint) → Contains (forms_there (forms_from (told_keys flow) flow.functions_of at (Output p)) o) f
        → (op : Op) × (f ≡ apply_form op (Input p)) × Contains (forms_there (forms_from (told_keys flow) flow.functions_of other (Output p)) o) f
    by None c = absurd (none_in f c)
    by (Some k) c = made (operation_of (source_at k)) c

-- an operation makes the outputs at a point alone, of the inputs there
module _ (flow : PlainFlow) (at : At) where
  abbrev Always : SetName → SetName → Type 0
  Always a b = ⊤

  always : Carries flow Every at at Always
  always = record { used = λ b p x k r. tt; members = λ h p x r. tt; shown = λ p x r. tt; fixed = λ n is. tt }

  -- the operation makes this set of this other
  abbrev IsMade : SetName → SetName → Type 0
  IsMade n a = (p : ℕ) × (n ≡ Output p) × (a ≡ Input p)

  not_in : (xs : Forms) → table.AreAlike flow Every (knows_every flow) at at Always xs xs → (f : Form SetName) → Contains xs f → (op : Op) (a : SetName) → f ≡ apply_form op a → ⊥
  not_in xs alike f has op a e =
      let r = zip_first (table.A flow Every (knows_every flow) at at Always) xs xs alike f has in
      let no : is_applied (apply_form op a) ≡ false = subst (λ (z : Form SetName). is_applied z ≡ false) e r.2.1 in
      cc

  plain_not : (n : SetName) → table.IsPlain flow Every (knows_every flow) at at Always always n → IsKnown Every n → (f : Form SetName) → Contains (forms at flow n) f → (op : Op) (a : SetName) → f ≡ apply_form op a → ⊥
  plain_not n is known f has op a e = not_in (forms at flow n) (table.carried flow Every (knows_every flow) at at Always always n is known) f has op a e

  listed_applies : (n : SetName) (f : Form SetName) → Contains (forms at flow n) f → (op : Op) (a : SetName) → f ≡ apply_form op a → IsMade n a
  unfolding point_of forms_beside
  listed_applies (Value b (Point p)) f has op a e = absurd (plain_not (Value b (Point p)) tt tt f has op a e)
  listed_applies (Value b (Entry n y)) f has op a e = absurd (plain_not (Value b (Entry n y)) tt tt f has op a e)
  listed_applies (Value b (Join p x)) f has op a e = absurd (none_in f has)
  listed_applies (Members h v) f has op a e =
      absurd (not_in (members_forms (told_keys flow) h v) (table.members_list flow Every (knows_every flow) at at Always h v v (λ b k. tt)) f has op a e)
  listed_applies (Shown v) f has op a e = absurd (not_in (shown_forms v) (table.shown_list flow Every (knows_every flow) at at Always v v (λ b k. tt)) f has op a e)
  listed_applies (Result b n) f has op a e = absurd (plain_not (Result b n) tt tt f has op a e)
  listed_applies (Input p) f has op a e = absurd (plain_not (Input p) tt tt f has op a e)
  listed_applies (Output p) f has op a e =
      let r = outputs flow at at p f has in
      let same : apply_form op a ≡ apply_form r.0 (Input p) = sym e ∙ r.1 in
      (p, refl, (let it : a ≡ Input p = cc in it))
  listed_applies (Joined p i) f has op a e = absurd (plain_not (Joined p i) tt tt f has op a e)
  listed_applies (Piece p) f has op a e = absurd (plain_not (Piece p) tt tt f has op a e)
  listed_applies (FurtherPiece p) f has op a e = absurd (plain_not (FurtherPiece p) tt tt f has op a e)
  listed_applies (FurtherPieces p) f has op a e = absurd (plain_not (FurtherPieces p) tt tt f has op a e)
  listed_applies (Out q l) f has op a e = absurd (plain_not (Out q l) tt tt f has op a e)

  applies_by : (linked : Linked) (n : SetName) (f : Form SetName) → RowBy at linked flow n f → (op : Op) (a : SetName) → f ≡ apply_form op a → IsMade n a
  applies_by linked n f (RowBy.listed _ _ has) op a e = listed_applies n f has op a e
  applies_by linked _ _ (RowBy.joined b p x v k) op a e = absurd (cc)

  pub applies : (linked : Linked) (n : SetName) (op : Op) (a : SetName) → RowBy at linked flow n (apply_form op a) → IsMade n a
  applies linked n op a row = applies_by linked n (apply_form op a) row op a refl

-- what a table does for a form of another
record Does (S : SetName → Form SetName → Type 0) (E : SetName → SetName → Type 0) (f : Form SetName) (m : SetName) : Type 0 where
  same : (c : SetName) → f ≡ same_form c → Holds S E c m
  other : is_same f ≡ false → HasRow S E f m

module _ (S : SetName → Form SetName → Type 0) (E : SetName → SetName → Type 0) where
  taken : (c m : SetName) (g : Form SetName) → S m g → Alike (Holds S E) (same_form c) g → Holds S E c m
  taken c m _ row (Alike.same _ b h) = record { within = h.within; takes = TakesOver.through m b h.within row h.takes; stands = h.stands }

  from_like : (f g : Form SetName) (m : SetName) → S m g → Alike (Holds S E) f g → Does S E f m
  from_like f g m row alike = record {
    same = λ c e. taken c m g row (subst (λ (z : Form SetName). Alike (Holds S E) z g) e alike);
    other = λ e. record { form = g; row = row; alike = alike };
  }

  from_held : (a m : SetName) → Holds S E a m → Does S E (same_form a) m
  unfolding is_same
  from_held a m h = record { same = λ c e. (let is : a ≡ c = cc in subst (λ (z : SetName). Holds S E z m) is h); other = λ e. absurd (cc) }

module _ (flow : PlainFlow) (linked : Linked) (at : At) (exact : AreExact flow linked at) where
  abbrev pub L : SetName → Form SetName → Type 0
  L = Row flow

  abbrev pub V : SetName → Form SetName → Type 0
  V = RowBy at linked flow

  abbrev every : Knows flow Every
  every = knows_every flow

  -- a set that is read stands for itself by versions
  pub record Stands (n m : SetName) : Type 0 where
    pub is : m ≡ by_version at n
    pub read : IsRead flow n

  pub held : (n : SetName) → IsRead flow n → Holds V Stands n (by_version at n)
  held n read = record { within = by_version at n; takes = TakesOver.itself (by_version at n); stands = record { is = refl; read = read } }

  abbrev F : SetName → SetName → Type 0
  F = Holds V Stands

  fixed_held : (n : SetName) → IsFixed flow Every n → F n n
  unfolding by_version IsRead
  fixed_held (Value b (Point p)) is = held (Value b (Point p)) tt
  fixed_held (Value b (Entry f x)) is = absurd is
  fixed_held (Value b (Join p x)) is = absurd is
  fixed_held (Members h v) is = absurd is
  fixed_held (Shown v) is = absurd is
  fixed_held (Result b n) is = held (Result b n) tt
  fixed_held (Input p) is = held (Input p) tt
  fixed_held (Output p) is = held (Output p) tt
  fixed_held (Joined p i) is = held (Joined p i) tt
  fixed_held (Piece p) is = held (Piece p) tt
  fixed_held (FurtherPiece p) is = held (FurtherPiece p) tt
  fixed_held (FurtherPieces p) is = held (FurtherPieces p) tt
  fixed_held (Out q l) is = held (Out q l) tt

  value_held : (b : Aspect) (p x : ℕ) → ReadsSlot flow p x → F (Value b (Join p x)) (Value b (at p x))
  unfolding by_version IsRead
  value_held b p x r = held (Value b (Join p x)) r

  members_held : (h : Half) (p x : ℕ) → ReadsSlot flow p x → F (Members h (Join p x)) (Members h (at p x))
  unfolding by_version IsRead
  members_held h p x r = held (Members h (Join p x)) r

  shown_held : (p x : ℕ) → ReadsSlot flow p x → F (Shown (Join p x)) (Shown (at p x))
  unfolding by_version IsRead
  shown_held p x r = held (Shown (Join p x)) r

  forth : Carries flow Every each_use at F
  forth = record { used = λ b p x k r. value_held b p x r; members = members_held; shown = shown_held; fixed = fixed_held }

  plain_forth : (n : SetName) → table.IsPlain flow Every every each_use at F forth n → IsKnown Every n → (f : Form SetName) → Contains (forms each_use flow n) f → Does V Stands f n
  plain_forth n is known f has =
      let r = zip_first (table.A flow Every every each_use at F) (forms each_use flow n) (forms at flow n) (table.carried flow Every every each_use at F forth n is known) f has in
      from_like V Stands f r.0 n (RowBy.listed n r.0 r.1) r.2.0

  members_forth : (h : Half) (p x : ℕ) → ReadsSlot flow p x → (f : Form SetName) → Contains (members_forms (told_keys flow) h (Join p x)) f → Does V Stands f (Members h (at p x))
  unfolding point_of forms_beside
  members_forth h p x r f has =
      let q = zip_first (table.A flow Every every each_use at F) (members_forms (told_keys flow) h (Join p x)) (members_forms (told_keys flow) h (at p x))
      (table.members_list flow Every every each_use at F h (Join p x) (at p x) (λ b k. value_held b p x r)) f has in
      from_like V Stands f q.0 (Members h (at p x)) (RowBy.listed (Members h (at p x)) q.0 q.1) q.2.0

  shown_forth : (p x : ℕ) → ReadsSlot flow p x → (f : Form SetName) → Contains (shown_forms (Join p x)) f → Does V Stands f (Shown (at p x))
  unfolding point_of forms_beside
  shown_forth p x r f has =
      let q = zip_first (table.A flow Every every each_use at F) (shown_forms (Join p x)) (shown_forms (at p x))
      (table.shown_list flow Every every each_use at F (Join p x) (at p x) (λ b k. value_held b p x r)) f has in
      from_like V Stands f q.0 (Shown (at p x)) (RowBy.listed (Shown (at p x)) q.0 q.1) q.2.0

  output_forth : (p : ℕ) (f : Form SetName) → Contains (forms each_use flow (Output p)) f → Does V Stands f (Output p)
  unfolding IsRead by_version
  output_forth p f has =
      let r = outputs flow each_use at p f has in
      from_like V Stands f f (Output p) (RowBy.listed (Output p) f r.2) (subst (λ (z : Form SetName). Alike F z z) (sym r.1) (Alike.apply r.0 (Input p) (Input p) (held (Input p) tt)))

  listed_forth : (n : SetName) (f : Form SetName) → IsRead flow n → Contains (forms each_use flow n) f → Does V Stands f (by_version at n)
  unfolding by_version IsRead point_of forms_beside
  listed_forth (Value b (Point p)) f read has = plain_forth (Value b (Point p)) tt tt f has
  listed_forth (Value b (Entry n y)) f read has = plain_forth (Value b (Entry n y)) tt tt f has
  listed_forth (Value b (Join p x)) f read has = absurd (none_in f has)
  listed_forth (Members h (Point p)) f read has = absurd read
  listed_forth (Members h (Entry n y)) f read has = absurd read
  listed_forth (Members h (Join p x)) f read has = members_forth h p x read f has
  listed_forth (Shown (Point p)) f read has = absurd read
  listed_forth (Shown (Entry n y)) f read has = absurd read
  listed_forth (Shown (Join p x)) f read has = shown_forth p x read f has
  listed_forth (Result b n) f read has = plain_forth (Result b n) tt tt f has
  listed_forth (Input p) f read has = plain_forth (Input p) tt tt f has
  listed_forth (Output p) f read has = output_forth p f has
  listed_forth (Joined p i) f read has = plain_forth (Joined p i) tt tt f has
  listed_forth (Piece p) f read has = plain_forth (Piece p) tt tt f has
  listed_forth (FurtherPiece p) f read has = plain_forth (FurtherPiece p) tt tt f has
  listed_forth (FurtherPieces p) f read has = plain_forth (FurtherPieces p) tt tt f has
  listed_forth (Out q l) f read has = plain_forth (Out q l) tt tt f has

  -- a version takes over the definitions behind it
  behind_takes : (b : Aspect) (v : PlainVersion) (d : Definition) → Behind linked v d → TakesOver V (Value b (version_back v)) (Value b (version_back (of_definition d)))
  behind_takes b _ _ (Behind.itself d) = TakesOver.itself (Value b (version_back (of_definition d)))
  behind_takes b _ _ (Behind.joined p x v d k rest) =
      TakesOver.through (Value b (Join p x)) (Value b (version_back v)) (Value b (version_back (of_definition d))) (RowBy.joined b p x v k) (behind_takes b v d rest)

  definition_stands : (b : Aspect) (d : Definition) → Stands (Value b (version_back (of_definition d))) (Value b (version_back (of_definition d)))
  unfolding by_version IsRead
  definition_stands b (at_point p) = record { is = refl; read = tt }
  definition_stands b (at_entry f x) = record { is = refl; read = tt }

  joined_forth : (b : Aspect) (p x : ℕ) (v : PlainVersion) → reaching flow p x v → ReadsSlot flow p x → Does V Stands (same_form (Value b (version_back v))) (Value b (at p x))
  joined_forth b p x v k read =
      let behind : Behind linked (seen_at at p x) k.0 = (exact.behind p x read k.0).1 k.2 in
      let takes : TakesOver V (Value b (at p x)) (Value b (version_back (of_definition k.0))) =
      subst (λ (w : SetVersion). TakesOver V (Value b w) (Value b (version_back (of_definition k.0)))) (back_seen (at p x)) (behind_takes b (seen_at at p x) k.0 behind) in
      subst (λ (u : PlainVersion). Does V Stands (same_form (Value b (version_back u))) (Value b (at p x))) (sym k.1)
      (from_held V Stands (Value b (version_back (of_definition k.0))) (Value b (at p x)) (record { within = Value b (version_back (of_definition k.0)); takes = takes; stands = definition_stands b k.0 }))

  does_forth : (n : SetName) (f : Form SetName) → L n f → IsRead flow n → Does V Stands f (by_version at n)
  unfolding by_version IsRead
  does_forth n f (RowBy.listed _ _ has) read = listed_forth n f read has
  does_forth _ _ (RowBy.joined b p x v k) read = joined_forth b p x v k read

  pub versions_do : Simulates L V Stands
  versions_do = record {
    same = λ a c b e row. subst (λ z. Holds V Stands c z) (sym e.is) ((does_forth a (same_form c) row e.read).same c refl);
    other = λ a f b e row isnt. subst (λ z. HasRow V Stands f z) (sym e.is) ((does_forth a f row e.read).other isnt);
    one = λ a c op b d row e g. e.is ∙ sym g.is;
  }

  -- the definitions behind a version reach the point
  abbrev Come : PlainVersion → ℕ → ℕ → Type 0
  Come v x p = (d : Definition) → Behind linked v d → Reaches flow d x p

  -- what a set by versions stands for
  pub data Meant : SetName → SetName → Type 0 where
    of_point : (b : Aspect) (p : ℕ) → Meant (Value b (Point p)) (Value b (Point p))
    of_entry : (b : Aspect) (f x : ℕ) → Meant (Value b (Entry f x)) (Value b (Entry f x))
    of_join : (b : Aspect) (q y x p : ℕ) → Come (join_at q y) x p → Meant (Value b (Join q y)) (Value b (Join p x))
    of_all : (h : Half) (v : SetVersion) (x p : ℕ) → Come (version_seen v) x p → Meant (Members h v) (Members h (Join p x))
    of_shown : (v : SetVersion) (x p : ℕ) → Come (version_seen v) x p → Meant (Shown v) (Shown (Join p x))
    of_result : (b : Aspect) (n : ℕ) → Meant (Result b n) (Result b n)
    of_input : (p : ℕ) → Meant (Input p) (Input p)
    of_output : (p : ℕ) → Meant (Output p) (Output p)
    of_joined : (p i : ℕ) → Meant (Joined p i) (Joined p i)
    of_piece : (p : ℕ) → Meant (Piece p) (Piece p)
    of_further : (p : ℕ) → Meant (FurtherPiece p) (FurtherPiece p)
    of_any_further : (p : ℕ) → Meant (FurtherPieces p) (FurtherPieces p)
    of_out : (p : ℕ) (l : Leaving) → Meant (Out p l) (Out p l)

  abbrev B : SetName → SetName → Type 0
  B = Holds L Meant

  alone : (m n : SetName) → Meant m n → B m n
  alone m n h = record { within = n; takes = TakesOver.itself n; stands = h }

  takes_definition : (b : Aspect) (d : Definition) (x p : ℕ) → Reaches flow d x p → TakesOver L (Value b (Join p x)) (Value b (version_back (of_definition d)))
  takes_definition b d x p reach =
      TakesOver.through (Value b (Join p x)) (Value b (version_back (of_definition d))) (Value b (version_back (of_definition d))) (RowBy.joined b p x (of_definition d) (d, refl, reach)) (TakesOver.itself (Value b (version_back (of_definition d))))

  holds_version : (b : Aspect) (v : SetVersion) (x p : ℕ) → Come (version_seen v) x p → B (Value b v) (Value b (Join p x))
  holds_version b (Point q) x p come = record { within = Value b (Point q); takes = takes_definition b (at_point q) x p (come (at_point q) (Behind.itself (at_point q))); stands = Meant.of_point b q }
  holds_version b (Entry f y) x p come = record { within = Value b (Entry f y); takes = takes_definition b (at_entry f y) x p (come (at_entry f y) (Behind.itself (at_entry f y))); stands = Meant.of_entry b f y }
  holds_version b (Join q y) x p come = record { within = Value b (Join p x); takes = TakesOver.itself (Value b (Join p x)); stands = Meant.of_join b q y x p come }

  comes : (p x : ℕ) → ReadsSlot flow p x → Come (seen_at at p x) x p
  comes p x read d b = (exact.behind p x read d).0 b

  fixed_back : (n : SetName) → IsFixed flow Every n → B n n
  fixed_back (Value b (Point p)) is = alone (Value b (Point p)) (Value b (Point p)) (Meant.of_point b p)
  fixed_back (Value b (Entry f x)) is = absurd is
  fixed_back (Value b (Join p x)) is = absurd is
  fixed_back (Members h v) is = absurd is
  fixed_back (Shown v) is = absurd is
  fixed_back (Result b n) is = alone (Result b n) (Result b n) (Meant.of_result b n)
  fixed_back (Input p) is = alone (Input p) (Input p) (Meant.of_input p)
  fixed_back (Output p) is = alone (Output p) (Output p) (Meant.of_output p)
  fixed_back (Joined p i) is = alone (Joined p i) (Joined p i) (Meant.of_joined p i)
  fixed_back (Piece p) is = alone (Piece p) (Piece p) (Meant.of_piece p)
  fixed_back (FurtherPiece p) is = alone (FurtherPiece p) (FurtherPiece p) (Meant.of_further p)
  fixed_back (FurtherPieces p) is = alone (FurtherPieces p) (FurtherPieces p) (Meant.of_any_further p)
  fixed_back (Out q l) is = alone (Out q l) (Out q l) (Meant.of_out q l)

  backward : Carries flow Every at each_use B
  backward = record {
    used = λ b p x k r. holds_version b (at p x) x p (comes p x r);
    members = λ h p x r. alone (Members h (at p x)) (Members h (Join p x)) (Meant.of_all h (at p x) x p (comes p x r));
    shown = λ p x r. alone (Shown (at p x)) (Shown (Join p x)) (Meant.of_shown (at p x) x p (comes p x r));
    fixed = fixed_back;
  }

  plain_back : (n : SetName) → table.IsPlain flow Every every at each_use B backward n → IsKnown Every n → (f : Form SetName) → Contains (forms at flow n) f → Does L Meant f n
  plain_back n is known f has =
      let r = zip_first (table.A flow Every every at each_use B) (forms at flow n) (forms each_use flow n) (table.carried flow Every every at each_use B backward n is known) f has in
      from_like L Meant f r.0 n (RowBy.listed n r.0 r.1) r.2.0

  members_back : (h : Half) (v : SetVersion) (x p : ℕ) → Come (version_seen v) x p → (f : Form SetName) → Contains (members_forms (told_keys flow) h v) f → Does L Meant f (Members h (Join p x))
  unfolding point_of forms_beside
  members_back h v x p come f has =
      let q = zip_first (table.A flow Every every at each_use B) (members_forms (told_keys flow) h v) (members_forms (told_keys flow) h (Join p x))
      (table.members_list flow Every every at each_use B h v (Join p x) (λ b k. holds_version b v x p come)) f has in
      from_like L Meant f q.0 (Members h (Join p x)) (RowBy.listed (Members h (Join p x)) q.0 q.1) q.2.0

  shown_back : (v : SetVersion) (x p : ℕ) → Come (version_seen v) x p → (f : Form SetName) → Contains (shown_forms v) f → Does L Meant f (Shown (Join p x))
  unfolding point_of forms_beside
  shown_back v x p come f has =
      let q = zip_first (table.A flow Every every at each_use B) (shown_forms v) (shown_forms (Join p x))
      (table.shown_list flow Every every at each_use B v (Join p x) (λ b k. holds_version b v x p come)) f has in
      from_like L Meant f q.0 (Shown (Join p x)) (RowBy.listed (Shown (Join p x)) q.0 q.1) q.2.0

  output_back : (p : ℕ) (f : Form SetName) → Contains (forms at flow (Output p)) f → Does L Meant f (Output p)
  output_back p f has =
      let r = outputs flow at each_use p f has in
      from_like L Meant f f (Output p) (RowBy.listed (Output p) f r.2) (subst (λ (z : Form SetName). Alike B z z) (sym r.1) (Alike.apply r.0 (Input p) (Input p) (alone (Input p) (Input p) (Meant.of_input p))))

  listed_back : (m n : SetName) (f : Form SetName) → Meant m n → Contains (forms at flow m) f → Does L Meant f n
  unfolding point_of forms_beside
  listed_back _ _ f (Meant.of_point b p) has = plain_back (Value b (Point p)) tt tt f has
  listed_back _ _ f (Meant.of_entry b n y) has = plain_back (Value b (Entry n y)) tt tt f has
  listed_back _ _ f (Meant.of_join b q y x p come) has = absurd (none_in f has)
  listed_back _ _ f (Meant.of_all h v x p come) has = members_back h v x p come f has
  listed_back _ _ f (Meant.of_shown v x p come) has = shown_back v x p come f has
  listed_back _ _ f (Meant.of_result b n) has = plain_back (Result b n) tt tt f has
  listed_back _ _ f (Meant.of_input p) has = plain_back (Input p) tt tt f has
  listed_back _ _ f (Meant.of_output p) has = output_back p f has
  listed_back _ _ f (Meant.of_joined p i) has = plain_back (Joined p i) tt tt f has
  listed_back _ _ f (Meant.of_piece p) has = plain_back (Piece p) tt tt f has
  listed_back _ _ f (Meant.of_further p) has = plain_back (FurtherPiece p) tt tt f has
  listed_back _ _ f (Meant.of_any_further p) has = plain_back (FurtherPieces p) tt tt f has
  listed_back _ _ f (Meant.of_out q l) has = plain_back (Out q l) tt tt f has

  joined_back : (b : Aspect) (p y : ℕ) (v : PlainVersion) → linked p y v → (n : SetName) → Meant (Value b (Join p y)) n → Does L Meant (same_form (Value b (version_back v))) n
  joined_back b p y v k _ (Meant.of_join _ _ _ x q come) = from_held L Meant (Value b (version_back v)) (Value b (Join q x))
      (holds_version b (version_back v) x q (λ d i. come d (Behind.joined p y v d k (subst (λ (u : PlainVersion). Behind linked u d) (seen_back v) i))))

  does_back : (m : SetName) (f : Form SetName) → V m f → (n : SetName) → Meant m n → Does L Meant f n
  does_back m f (RowBy.listed _ _ has) n h = listed_back m n f h has
  does_back _ _ (RowBy.joined b p y v k) n h = joined_back b p y v k n h

  output_meant : (m n : SetName) (p : ℕ) → Meant m n → m ≡ Output p → n ≡ Output p
  output_meant _ _ p (Meant.of_point b q) e = absurd (cc)
  output_meant _ _ p (Meant.of_entry b f x) e = absurd (cc)
  output_meant _ _ p (Meant.of_join b q y x r come) e = absurd (cc)
  output_meant _ _ p (Meant.of_all h v x q come) e = absurd (cc)
  output_meant _ _ p (Meant.of_shown v x q come) e = absurd (cc)
  output_meant _ _ p (Meant.of_result b n) e = absurd (cc)
  output_meant _ _ p (Meant.of_input q) e = absurd (cc)
  output_meant _ _ p (Meant.of_output q) e = e
  output_meant _ _ p (Meant.of_joined q i) e = absurd (cc)
  output_meant _ _ p (Meant.of_piece q) e = absurd (cc)
  output_meant _ _ p (Meant.of_further q) e = absurd (cc)
  output_meant _ _ p (Meant.of_any_further q) e = absurd (cc)
  output_meant _ _ p (Meant.of_out q l) e = absurd (cc)

  pub table_does : Simulates V L Meant
  table_does = record {
    same = λ m c n h row. (does_back m (same_form c) row n h).same c refl;
    other = λ m f n h row isnt. (does_back m f row n h).other isnt;
    one = λ m c op n d row h k. (let o = applies flow at linked m op c row in output_meant m n o.0 h o.1 ∙ sym (output_meant m d o.0 k o.1));
  }

  pub back : (n : SetName) → IsRead flow n → B (by_version at n) n
  unfolding IsRead by_version
  back (Value b (Point p)) read = alone (Value b (Point p)) (Value b (Point p)) (Meant.of_point b p)
  back (Value b (Entry f x)) read = alone (Value b (Entry f x)) (Value b (Entry f x)) (Meant.of_entry b f x)
  back (Value b (Join p x)) read = holds_version b (at p x) x p (comes p x read)
  back (Members h (Point p)) read = absurd read
  back (Members h (Entry f x)) read = absurd read
  back (Members h (Join p x)) read = backward.members h p x read
  back (Shown (Point p)) read = absurd read
  back (Shown (Entry f x)) read = absurd read
  back (Shown (Join p x)) read = backward.shown p x read
  back (Result b n) read = alone (Result b n) (Result b n) (Meant.of_result b n)
  back (Input p) read = alone (Input p) (Input p) (Meant.of_input p)
  back (Output p) read = alone (Output p) (Output p) (Meant.of_output p)
  back (Joined p i) read = alone (Joined p i) (Joined p i) (Meant.of_joined p i)
  back (Piece p) read = alone (Piece p) (Piece p) (Meant.of_piece p)
  back (FurtherPiece p) read = alone (FurtherPiece p) (FurtherPiece p) (Meant.of_further p)
  back (FurtherPieces p) read = alone (FurtherPieces p) (FurtherPieces p) (Meant.of_any_further p)
  back (Out q l) read = alone (Out q l) (Out q l) (Meant.of_out q l)

  -- a set that is read has the same texts by versions
  pub same_sets : (outputs : Op → List ℕ → List ℕ → Type 0) (request : List ℕ → Type 0) (circle : (ℕ → Type 0) → List ℕ → Type 0) → IsMonotone circle
      → (n : SetName) → IsRead flow n → (w : List ℕ) → In L outputs request circle n w ↔ In V outputs request circle (by_version at n) w
  same_sets outputs request circle more n read w = (
    λ i. simulated.texts SetName SetName L V Stands versions_do outputs request circle more n (by_version at n) (held n read) w i,
    λ i. simulated.texts SetName SetName V L Meant table_does outputs request circle more (by_version at n) n (back n read) w i,
  )
