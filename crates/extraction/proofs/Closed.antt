-- What holds of what each row names, and that each name in a list is of a set that is used.
use Rattle.std.proofs.Common.{inl, inr, ℕ, [], ◌∷◌, refl, subst, Contains}
use Rattle.std.specs.Prelude.{⊤}
use Rattle.std.proofs.lemmas.List.Elements.{Contains-append_cases}
use Rattle.flow_code.specs.Points.{PlainFlow}
use Rattle.least_sets.specs.Forms.{Form}
use Rattle.least_sets.specs.Simulations.{Alike}
use Rattle.loose_sets.specs.Keys.{told_keys}
use Rattle.loose_sets.specs.Versions.{PlainVersion, Linked}
use Rattle.loose_sets.specs.Exact.{ReadsSlot}
use Rattle.loose_sets.specs.Uses.{At, version_back}
use Rattle.loose_sets.specs.Arrays.{Forms}
use Rattle.loose_sets.specs.Members.{members_forms, shown_forms}
use Rattle.loose_sets.specs.Table.{point_of, forms_beside, forms, RowBy}
use Rattle.loose_sets.specs.Used.{IsAspect, IsUsed}
use Rattle.loose_sets.specs.declared.name.Half.{Half}
use Rattle.loose_sets.specs.declared.name.Aspect.{Aspect}
use Rattle.loose_sets.specs.declared.name.SetVersion.{SetVersion}
use Rattle.loose_sets.specs.declared.name.SetVersion.TheVariants.{Point, Entry, Join}
use Rattle.loose_sets.specs.declared.name.SetName.{SetName}
use Rattle.loose_sets.specs.declared.name.SetName.TheVariants.{Value, Members, Shown, Result, Input, Output, Joined, Piece, FurtherPiece, FurtherPieces, Out}
use Rattle.loose_sets.proofs.Lists.{zip_first}
use Rattle.loose_sets.proofs.Carried as table
use Rattle.loose_sets.proofs.Carried.{IsFixed, Knows, IsKnown, Carries}
use Rattle.loose_sets.proofs.OfVersions.{outputs}
use Rattle.loose_sets.proofs.Returned.{none_in, only_one}
use Rattle.system_writing.specs.Forms.{all_names}

-- the aspects by keys that are told apart
pub knows_told : (flow : PlainFlow) → Knows flow (IsAspect (told_keys flow))
knows_told flow = record { own = λ h. tt; member = λ i h c e. (c, e); others = λ h. tt; keys = tt }

module _ (flow : PlainFlow) (Known : Aspect → Type 0) (knows : Knows flow Known) (at : At) (P : SetName → Type 0) where
  -- what is asked of the first of two names
  abbrev pub First : SetName → SetName → Type 0
  First a b = P a

  one : (b n : SetName) → P b → Contains (b ∷ []) n → P n
  one b n h c = subst (λ (z : SetName). P z) (only_one b n c) h

  alike_names : (f g : Form SetName) → Alike First f g → (n : SetName) → Contains (all_names f) n → P n
  alike_names _ _ (Alike.text w) n c = absurd (none_in n c)
  alike_names _ _ (Alike.same a b h) n c = one a n h c
  alike_names _ _ (Alike.join a d b e h i) n c = elim (Contains-append_cases (a ∷ []) (d ∷ []) n c) [ inl k ↦ one a n h k | inr k ↦ one d n i k ]
  alike_names _ _ (Alike.before w a b h) n c = one a n h c
  alike_names _ _ Alike.asked n c = absurd (none_in n c)
  alike_names _ _ Alike.integer n c = absurd (none_in n c)
  alike_names _ _ (Alike.apply op a b h) n c = one a n h c
  alike_names _ _ Alike.yes n c = absurd (none_in n c)
  alike_names _ _ (Alike.where_yes w a b h) n c = one a n h c

  in_list : (xs : Forms) → table.AreAlike flow Known knows at at First xs xs → (f : Form SetName) → Contains xs f → (n : SetName) → Contains (all_names f) n → P n
  in_list xs alike f has n named = let r = zip_first (table.A flow Known knows at at First) xs xs alike f has in alike_names f r.0 r.2.0 n named

  -- all members of a version, and what is printed of it, name its values
  abbrev pub HasValues : SetName → Type 0
  HasValues (Value b v) = ⊤
  HasValues (Members h v) = (b : Aspect) → Known b → P (Value b v)
  HasValues (Shown v) = (b : Aspect) → Known b → P (Value b v)
  HasValues (Result b n) = ⊤
  HasValues (Input p) = ⊤
  HasValues (Output p) = P (Input p)
  HasValues (Joined p i) = ⊤
  HasValues (Piece p) = ⊤
  HasValues (FurtherPiece p) = ⊤
  HasValues (FurtherPieces p) = ⊤
  HasValues (Out q l) = ⊤

  module _ (c : Carries flow Known at at First) where
    plain : (m : SetName) → table.IsPlain flow Known knows at at First c m → IsKnown Known m → (f : Form SetName) → Contains (forms at flow m) f → (n : SetName) → Contains (all_names f) n → P n
    plain m is known f has n named = in_list (forms at flow m) (table.carried flow Known knows at at First c m is known) f has n named

    pub keeps : (m : SetName) → IsKnown Known m → HasValues m → (f : Form SetName) → Contains (forms at flow m) f → (n : SetName) → Contains (all_names f) n → P n
    unfolding point_of forms_beside
    keeps (Value b (Point p)) known values f has n named = plain (Value b (Point p)) tt known f has n named
    keeps (Value b (Entry g y)) known values f has n named = plain (Value b (Entry g y)) tt known f has n named
    keeps (Value b (Join p x)) known values f has n named = absurd (none_in f has)
    keeps (Members h v) known values f has n named = in_list (members_forms (told_keys flow) h v) (table.members_list flow Known knows at at First h v v values) f has n named
    keeps (Shown v) known values f has n named = in_list (shown_forms v) (table.shown_list flow Known knows at at First v v values) f has n named
    keeps (Result b g) known values f has n named = plain (Result b g) tt known f has n named
    keeps (Input p) known values f has n named = plain (Input p) tt known f has n named
    keeps (Output p) known values f has n named =
        let r = outputs flow at at p f has in
        one (Input p) n values (subst (λ (z : Form SetName). Contains (all_names z) n) r.1 named)
    keeps (Joined p i) known values f has n named = plain (Joined p i) tt known f has n named
    keeps (Piece p) known values f has n named = plain (Piece p) tt known f has n named
    keeps (FurtherPiece p) known values f has n named = plain (FurtherPiece p) tt known f has n named
    keeps (FurtherPieces p) known values f has n named = plain (FurtherPieces p) tt known f has n named
    keeps (Out q l) known values f has n named = plain (Out q l) tt known f has n named

module _ (flow : PlainFlow) (at : At) where
  abbrev Known : Aspect → Type 0
  Known b = IsAspect (told_keys flow) b

  -- the aspect of a set that is used is known
  pub used_known : (n : SetName) → IsUsed flow at n → IsKnown Known n
  unfolding IsUsed
  used_known (Value b v) u = u
  used_known (Members h v) u = tt
  used_known (Shown v) u = tt
  used_known (Result b n) u = u
  used_known (Input p) u = tt
  used_known (Output p) u = tt
  used_known (Joined p i) u = tt
  used_known (Piece p) u = tt
  used_known (FurtherPiece p) u = tt
  used_known (FurtherPieces p) u = tt
  used_known (Out q l) u = tt

  value_used : (b : Aspect) (v : SetVersion) → Known b → IsUsed flow at (Value b v)
  unfolding IsUsed
  value_used b v k = k

  members_used : (h : Half) (p x : ℕ) → ReadsSlot flow p x → IsUsed flow at (Members h (at p x))
  unfolding IsUsed
  members_used h p x r = record { point = p; slot = x; read = r; it = refl }

  shown_used : (p x : ℕ) → ReadsSlot flow p x → IsUsed flow at (Shown (at p x))
  unfolding IsUsed
  shown_used p x r = record { point = p; slot = x; read = r; it = refl }

  fixed_used : (n : SetName) → IsFixed flow Known n → IsUsed flow at n
  unfolding IsUsed
  fixed_used (Value b (Point p)) is = is.0
  fixed_used (Value b (Entry f x)) is = absurd is
  fixed_used (Value b (Join p x)) is = absurd is
  fixed_used (Members h v) is = absurd is
  fixed_used (Shown v) is = absurd is
  fixed_used (Result b n) is = is.0
  fixed_used (Input p) is = tt
  fixed_used (Output p) is = tt
  fixed_used (Joined p i) is = tt
  fixed_used (Piece p) is = tt
  fixed_used (FurtherPiece p) is = tt
  fixed_used (FurtherPieces p) is = tt
  fixed_used (Out q l) is = tt

  uses : Carries flow Known at at (First flow Known (knows_told flow) at (λ n. IsUsed flow at n))
  uses = record { used = λ b p x k r. value_used b (at p x) k; members = members_used; shown = shown_used; fixed = fixed_used }

  values_used : (n : SetName) → HasValues flow Known (knows_told flow) at (λ m. IsUsed flow at m) n
  unfolding IsUsed
  values_used (Value b v) = tt
  values_used (Members h v) = λ b k. value_used b v k
  values_used (Shown v) = λ b k. value_used b v k
  values_used (Result b n) = tt
  values_used (Input p) = tt
  values_used (Output p) = tt
  values_used (Joined p i) = tt
  values_used (Piece p) = tt
  values_used (FurtherPiece p) = tt
  values_used (FurtherPieces p) = tt
  values_used (Out q l) = tt

  -- a join is used by its aspect, as what it joins
  joined_used : (b : Aspect) (p x : ℕ) (v : PlainVersion) → IsUsed flow at (Value b (Join p x)) → IsUsed flow at (Value b (version_back v))
  unfolding IsUsed
  joined_used b p x v u = u

  -- each set that a row of a used set names is used
  pub closed : (linked : Linked) (m : SetName) (f : Form SetName) → RowBy at linked flow m f → IsUsed flow at m → (n : SetName) → Contains (all_names f) n → IsUsed flow at n
  closed linked m f (RowBy.listed _ _ has) u n named = keeps flow Known (knows_told flow) at (λ k. IsUsed flow at k) uses m (used_known m u) (values_used m) f has n named
  closed linked _ _ (RowBy.joined b p x v k) u n named = subst (λ (z : SetName). IsUsed flow at z) (only_one (Value b (version_back v)) n named) (joined_used b p x v u)
