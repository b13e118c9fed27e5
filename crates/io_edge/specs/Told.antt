-- What a source of files tells of a name.
use Rattle.std.specs.Prelude.{◌≡◌, ◌≤◌, ◌⊎◌, ℕ, List, length, Option, None, Some, ⊤}

-- nothing so far; nothing, in whatever call; or that there is no such file, or that the file has these bytes
pub data Told : Type 0 where
  unasked : Told
  untold : Told
  known : (file : Option (List ℕ)) → Told

-- what a source tells of each name
abbrev pub Content : Type 0
Content = List ℕ → Told

-- a name was answered by this: where it is told, it is this
abbrev pub Tells : Told → Option (List ℕ) → Type 0
Tells unasked file = ⊥
Tells untold file = ⊤
Tells (known told) file = told ≡ file

-- nothing that is told speaks against this
abbrev pub Allows : Told → Option (List ℕ) → Type 0
Allows unasked file = ⊤
Allows untold file = ⊤
Allows (known told) file = told ≡ file

-- a name was answered by a file of this many bytes or more: where it is told, it has so many
abbrev pub HasAtLeast : Told → ℕ → Type 0
HasAtLeast unasked len = ⊥
HasAtLeast untold len = ⊤
HasAtLeast (known None) len = ⊥
HasAtLeast (known (Some bytes)) len = len ≤ length bytes

-- what was told of a name, and that nothing will be, stays so; of a name of which nothing was told so far anything may come
abbrev pub Stays : Content → Content → Type 0
Stays before now = (name : List ℕ) → (before name ≡ unasked) ⊎ (now name ≡ before name)
