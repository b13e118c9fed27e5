-- The plain form of a token: lists for vectors, and nothing of where a value lies in memory.
use Rattle.std.specs.Prelude.{ℕ, ℤ, List, map}
use Rattle.php_syntax.specs.declared.token.Token.{Token}
use Rattle.php_syntax.specs.declared.token.TokenKind.{TokenKind}
use Rattle.php_syntax.specs.declared.token.TokenKind.TheVariants.{Inline, Var, Name, Int, Str, Template, Sign}
use Rattle.php_syntax.specs.declared.token.Part.{Part}
use Rattle.php_syntax.specs.declared.token.Part.TheVariants.{Plain, Read}
use Rattle.php_syntax.specs.declared.token.PartKey.{PartKey}
use Rattle.php_syntax.specs.declared.token.PartKey.TheVariants as keys
use Rattle.php_syntax.specs.declared.token.Sign as signs

-- a key in a template
pub data PlainKey : Type 0 where
  text_key : List ℕ → PlainKey
  int_key : ℤ → PlainKey
  var_key : List ℕ → PlainKey

-- a part of a template
pub data PlainPart : Type 0 where
  plain_part : List ℕ → PlainPart
  read_part : List ℕ → List PlainKey → PlainPart

-- what a token is
pub data PlainKind : Type 0 where
  inline : List ℕ → PlainKind
  variable : List ℕ → PlainKind
  name : List ℕ → PlainKind
  integer : ℤ → PlainKind
  text : List ℕ → PlainKind
  template : List PlainPart → PlainKind
  sign : signs.Sign → PlainKind

-- a token and its place
pub record PlainToken : Type 0 where
  pub kind : PlainKind
  pub at : ℕ

-- the plain form of a key in a template
abbrev pub plain_key : PartKey → PlainKey
plain_key (keys.Text t) = text_key t
plain_key (keys.Int z) = int_key z
plain_key (keys.Var x) = var_key x

-- the plain form of a part of a template
abbrev pub plain_part_of : Part → PlainPart
plain_part_of (Plain t) = plain_part t
plain_part_of (Read x ks) = read_part x (map plain_key ks.items)

-- the plain form of what a token is
abbrev pub plain_kind : TokenKind → PlainKind
plain_kind (Inline t) = inline t
plain_kind (Var x) = variable x
plain_kind (Name x) = name x
plain_kind (Int z) = integer z
plain_kind (Str t) = text t
plain_kind (Template ps) = template (map plain_part_of ps.items)
plain_kind (Sign s) = sign s

-- the plain form of a token
abbrev pub plain_token : Token → PlainToken
plain_token t = record { kind = plain_kind t.kind; at = t.at }

-- the tokens of a list in their plain form
abbrev pub plain_tokens : List Token → List PlainToken
plain_tokens ts = map plain_token ts
