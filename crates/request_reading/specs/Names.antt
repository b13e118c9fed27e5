-- The names under which a request file holds the five arrays.
use Rattle.std.specs.Prelude.{ℕ, Bool, ◌||◌, List, codes, nat_eq}
use Rattle.std.specs.Cmp.Lexicographic.{pointwise}

-- the name of the array `$_GET`
abbrev pub get_name : List ℕ
get_name = codes "get"

-- the name of the array `$_POST`
abbrev pub post_name : List ℕ
post_name = codes "post"

-- the name of the array `$_COOKIE`
abbrev pub cookie_name : List ℕ
cookie_name = codes "cookie"

-- the name of the array `$_REQUEST`
abbrev pub request_name : List ℕ
request_name = codes "request"

-- the name of the array `$_SERVER`
abbrev pub server_name : List ℕ
server_name = codes "server"

-- two names are equal, byte by byte
abbrev is_same : List ℕ → List ℕ → Bool
is_same a b = pointwise nat_eq a b

-- one of the five names
abbrev pub is_array_name : List ℕ → Bool
is_array_name name = is_same name get_name || is_same name post_name || is_same name cookie_name || is_same name request_name
    || is_same name server_name
