-- The rows that are listed for names.
use Rattle.std.specs.Prelude.{◌≡◌, ◌<◌, ◌⊎◌, ℕ, List, Some, Contains, slice_get, length, map, flat_map}
use Rattle.std.specs.List.{sum_by}
use Rattle.least_sets.specs.Forms.{Form}
use Rattle.system_writing.specs.Forms.{all_names, text_bytes}
use Rattle.loose_sets.specs.declared.name.SetName.{SetName}

-- a list of forms for each name
abbrev pub Lists : Type 0
Lists = SetName → List (Form SetName)

-- the table of these names: for each of them what is listed
abbrev pub table_of : Lists → List SetName → SetName → Form SetName → Type 0
table_of lists names n f = Contains names n × Contains (lists n) f

-- the rows of one name
abbrev pub rows_of_name : SetName → List (Form SetName) → List (SetName × Form SetName)
rows_of_name n forms = map (λ f. (n, f)) forms

-- the rows of these names, in their order
abbrev pub rows_of : Lists → List SetName → List (SetName × Form SetName)
rows_of lists names = flat_map (λ n. rows_of_name n (lists n)) names

-- how many bytes stand in the texts of forms
abbrev pub bytes_of : List (Form SetName) → ℕ
bytes_of forms = sum_by (λ f. text_bytes f) forms

-- how many forms are listed for these names together
abbrev pub forms_in : Lists → List SetName → ℕ
forms_in lists names = sum_by (λ n. length (lists n)) names

-- how many bytes stand in these forms
abbrev pub bytes_in : Lists → List SetName → ℕ
bytes_in lists names = sum_by (λ n. bytes_of (lists n)) names

-- the name stands in one of the forms
abbrev pub NamedIn : List (Form SetName) → SetName → Type 0
NamedIn forms n = (f : Form SetName) × Contains forms f × Contains (all_names f) n

-- the name stands in a form that is listed for a name at a place before this one
pub record IsNamedBelow (lists : Lists) (names : List SetName) (k : ℕ) (n : SetName) : Type 0 where
  pub number : ℕ
  pub name : SetName
  pub below : number < k
  pub at : slice_get names number ≡ Some name
  pub named : NamedIn (lists name) n

-- each name is one of the first, or stands in a form that is listed for a name before it
abbrev pub AreReached : Lists → List SetName → List SetName → Type 0
AreReached lists firsts names = (k : ℕ) (n : SetName) → slice_get names k ≡ Some n → Contains firsts n ⊎ IsNamedBelow lists names k n

-- each name in a form that is listed for these names is one of them
abbrev pub AreWhole : Lists → List SetName → Type 0
AreWhole lists names = (n c : SetName) (f : Form SetName) → Contains names n → Contains (lists n) f → Contains (all_names f) c → Contains names c
