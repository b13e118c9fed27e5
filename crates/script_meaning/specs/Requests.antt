-- What a run is asked with: the five arrays of a request (PHP manual, "Superglobals").
use Rattle.std.specs.Prelude.{⊤}
use Rattle.php_syntax.specs.declared.tree.SuperName.{SuperName}
use Rattle.php_syntax.specs.declared.tree.SuperName.TheVariants.{Get, Post, Cookie, Request, Server}
use Rattle.xml_text.specs.Texts.{IsText}
use Rattle.plain_values.specs.Lawful.{IsValue}
use Rattle.plain_values.specs.Plain.{Plain, Pairs, int_key, text_key, null, flag, int, text, array, empty, pair}

-- the members of each of the five arrays
pub record PlainRequest : Type 0 where
  pub get_of : Pairs
  pub post_of : Pairs
  pub cookie_of : Pairs
  pub request_of : Pairs
  pub server_of : Pairs

-- the array that a request variable names
unfoldable pub request_array : PlainRequest → SuperName → Pairs
request_array r Get = r.get_of
request_array r Post = r.post_of
request_array r Cookie = r.cookie_of
request_array r Request = r.request_of
request_array r Server = r.server_of

-- a text of XML's characters, or an array of such members under integers and such texts; null, truth values and integers are none
unfoldable mutual
  -- a text of XML's characters, or an array of members
  pub IsMember : Plain → Type 0
  IsMember null = ⊥
  IsMember (flag b) = ⊥
  IsMember (int z) = ⊥
  IsMember (text t) = IsText t
  IsMember (array ps) = AreMembers ps

  -- each value is a member, and each text that is a key is of XML's characters
  pub AreMembers : Pairs → Type 0
  AreMembers empty = ⊤
  AreMembers (pair (int_key z) v ps) = IsMember v × AreMembers ps
  AreMembers (pair (text_key t) v ps) = IsText t × IsMember v × AreMembers ps

-- one of the five arrays: a value of such members
pub record IsAdmitted (members : Pairs) : Type 0 where
  pub value : IsValue (array members)
  pub members_are : AreMembers members

-- a request that a run may be asked with: each text and each text key in it is of XML's characters in UTF-8
pub record Admitted (r : PlainRequest) : Type 0 where
  pub get : IsAdmitted r.get_of
  pub post : IsAdmitted r.post_of
  pub cookie : IsAdmitted r.cookie_of
  pub request : IsAdmitted r.request_of
  pub server : IsAdmitted r.server_of
