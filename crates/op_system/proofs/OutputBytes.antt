-- The bytes of an operation's outputs.
use Rattle.std.proofs.Common.{◌≡◌, ℕ, ◌⊎◌, List, subst, sym, inl, inr}
use Rattle.std.specs.List.{Contains}
use Rattle.std.specs.Char.{to_ascii_lowercase, to_ascii_uppercase}
use Rattle.string_functions.specs.Html.{html_of_byte}
use Rattle.string_functions.specs.Url.{url_of_byte, raw_url_of_byte}
use Rattle.string_functions.specs.Slashes.{slashes_of_byte}
use Rattle.string_functions.specs.Cut.{part_of, IsFactor}
use Rattle.string_functions.specs.Trim.{trim_of}
use Rattle.string_functions.proofs.Members.{Contains-flat_map}
use Rattle.string_functions.proofs.JoinLaws.{Contains-IsFactor, IsFactor-pieces_of, Contains-replaced_text}
use Rattle.string_functions.proofs.BytewiseLaws.{Contains-map, Contains-first_upper_of}
use Rattle.string_functions.proofs.EndsLaws.{IsFactor-part_of, IsFactor-trim_of, Contains-breaks_of}
use Rattle.op_system.specs.declared.op.Op.{Op}
use Rattle.op_system.specs.declared.op.Op.TheVariants.{Same, Any, Html, Replace, Cut, Factor, Lower, Upper, First, Trim, Breaks, Url, RawUrl, Slashes, Piece}
use Rattle.op_system.specs.Rel.{Rel}
use Rattle.op_system.specs.OpBytes.{OutputByte}

-- a byte of an output comes of the bytes of the input
pub OutputByte-Rel : (op : Op) (input output : List ℕ) → Rel op input output → (c : ℕ) → Contains output c → OutputByte op (Contains input) c
OutputByte-Rel Same input output rel c h = subst (λ (text : List ℕ). Contains text c) rel h
OutputByte-Rel Any input output rel c h = absurd rel
OutputByte-Rel Html input output rel c h = Contains-flat_map html_of_byte input c (subst (λ (text : List ℕ). Contains text c) rel.1 h)
OutputByte-Rel (Replace search with) input output rel c h = Contains-replaced_text search with input c (subst (λ (text : List ℕ). Contains text c) rel h)
OutputByte-Rel (Cut start len) input output rel c h = Contains-IsFactor input (part_of input start len) c (IsFactor-part_of input start len) (subst (λ (text : List ℕ). Contains text c) rel h)
OutputByte-Rel Factor input output rel c h = Contains-IsFactor input output c rel h
OutputByte-Rel Lower input output rel c h = Contains-map to_ascii_lowercase input c (subst (λ (text : List ℕ). Contains text c) rel h)
OutputByte-Rel Upper input output rel c h = Contains-map to_ascii_uppercase input c (subst (λ (text : List ℕ). Contains text c) rel h)
OutputByte-Rel First input output rel c h = Contains-first_upper_of input c (subst (λ (text : List ℕ). Contains text c) rel h)
OutputByte-Rel (Trim left right) input output rel c h = Contains-IsFactor input (trim_of left right input) c (IsFactor-trim_of left right input) (subst (λ (text : List ℕ). Contains text c) rel h)
OutputByte-Rel Breaks input output rel c h = Contains-breaks_of input c (subst (λ (text : List ℕ). Contains text c) rel h)
OutputByte-Rel Url input output rel c h = Contains-flat_map url_of_byte input c (subst (λ (text : List ℕ). Contains text c) rel h)
OutputByte-Rel RawUrl input output rel c h = Contains-flat_map raw_url_of_byte input c (subst (λ (text : List ℕ). Contains text c) rel h)
OutputByte-Rel Slashes input output rel c h = Contains-flat_map slashes_of_byte input c (subst (λ (text : List ℕ). Contains text c) rel h)
OutputByte-Rel (Piece sep) input output rel c h = Contains-IsFactor input output c (IsFactor-pieces_of sep input output rel) h
