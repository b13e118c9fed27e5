-- The law of admission: which outcome a file has, in the words of an admitted request.
use Rattle.std.specs.Prelude.{◌≡◌, ◌↔◌, ℕ, true, List, Some}
use Rattle.script_meaning.specs.Requests.{PlainRequest, AreMembers}
use Rattle.serde_json.specs.Data.{Data}
use Rattle.request_reading.specs.RequestFile.{is_request, asked_request}
use Rattle.request_reading.specs.Outcome.{stands_for, not_admitted, parsed, outcome}

-- the members of the five arrays are those of an admitted request: texts of XML's characters and arrays of such members, under such names
pub record HasMembers (r : PlainRequest) : Type 0 where
  pub get : AreMembers r.get_of
  pub post : AreMembers r.post_of
  pub cookie : AreMembers r.cookie_of
  pub request : AreMembers r.request_of
  pub server : AreMembers r.server_of

-- the file has the form of a request, and these are its arrays, whatever their members are
pub record HasForm (file : List ℕ) (r : PlainRequest) : Type 0 where
  pub value : Data
  pub is_value : parsed file ≡ Some value
  pub form : is_request value ≡ true
  pub is : r ≡ asked_request value

-- a file stands for a request exactly where its members are so, and a path of a stray one is named exactly where they are not
pub record GoesByMembers : Type 0 where
  pub stands : (file : List ℕ) (r : PlainRequest) → (outcome file ≡ stands_for r) ↔ (HasForm file r × HasMembers r)
  pub strays : (file : List ℕ) → ((path : List ℕ) × (outcome file ≡ not_admitted path)) ↔
      ((r : PlainRequest) × HasForm file r × (HasMembers r → ⊥))
