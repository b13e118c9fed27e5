-- Values in a row, as the code holds them: the last one first.
use Rattle.std.specs.Prelude.{◌≡◌, ℕ, Bool, List, Option, Some, None, reverse}
use Rattle.std.specs.declared.vec.Vec.{Vec}
use Rattle.std.specs.declared.alloc.Global.{Global}
use Rattle.php_syntax.specs.declared.tree.Expr.{Expr}
use Rattle.php_syntax.specs.Trees.{PlainExprs, PlainItems, PlainPath, exprs_of, items_of, path_of}
use Rattle.expr_machine.specs.Values.{PlainValue, gather_exprs, gather_items, gather_path, all_place_values, none_absent, none_absent_before_last}

-- expressions in a row and the height of the highest, as the code holds them, the last one first
abbrev pub exprs_shown : Option (Vec Expr Global × ℕ) → Option (PlainExprs × ℕ)
exprs_shown None = None
exprs_shown (Some row) = Some (exprs_of (reverse row.0.items), row.1)

-- items of an array and the height of the highest part, as the code holds them, the last one first
abbrev pub items_shown : Option (Vec (Option Expr × Expr) Global × ℕ) → Option (PlainItems × ℕ)
items_shown None = None
items_shown (Some row) = Some (items_of (reverse row.0.items), row.1)

-- keys of a path and the height of the highest, as the code holds them, the last one first
abbrev pub path_shown : Option (Vec (Option Expr) Global × ℕ) → Option (PlainPath × ℕ)
path_shown None = None
path_shown (Some row) = Some (path_of (reverse row.0.items), row.1)

-- the values that were taken make these trees, and so many are left
pub record IsRow (taken : Option (List PlainValue × List PlainValue)) (exprs : Option (PlainExprs × ℕ)) (places : Bool)
    (left : List PlainValue) : Type 0 where
  pub row : List PlainValue
  pub is_taken : taken ≡ Some (row, left)
  pub are : gather_exprs row ≡ exprs
  pub are_places : all_place_values row ≡ places

-- the values that were taken make these items, and so many are left
pub record IsItems (taken : Option (List PlainValue × List PlainValue)) (items : Option (PlainItems × ℕ)) (left : List PlainValue) :
    Type 0 where
  pub row : List PlainValue
  pub is_taken : taken ≡ Some (row, left)
  pub are : gather_items row ≡ items

-- the values that were taken make this path; whether no key is left out, and whether none but the last is; and so many are left
pub record IsPath (taken : Option (List PlainValue × List PlainValue)) (path : Option (PlainPath × ℕ)) (complete before_last : Bool)
    (left : List PlainValue) : Type 0 where
  pub row : List PlainValue
  pub is_taken : taken ≡ Some (row, left)
  pub are : gather_path row ≡ path
  pub are_complete : none_absent row ≡ complete
  pub are_before_last : none_absent_before_last row ≡ before_last
