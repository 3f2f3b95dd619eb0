-- Objects of texts, numbers, flags and nulls as compact JSON.
use Rattle.std.specs.Prelude.{ℕ, Bool, true, false, List, [], ◌∷◌, ◌++◌, Option, Some, None, codes, decimal}
use Rattle.json.specs.Print.{quoted}

-- the value of a member
pub data Datum : Type 0 where
  null : Datum
  number : ℕ → Datum
  flag : Bool → Datum
  text : List ℕ → Datum

-- the members, each a name and its value
abbrev pub Object : Type 0
Object = List (List ℕ × Datum)

-- a value as it is written: a text has quotes around it, and a backslash before each quote or backslash in it
abbrev pub text_of : Datum → List ℕ
text_of null = codes "null"
text_of (number n) = decimal n
text_of (flag true) = codes "true"
text_of (flag false) = codes "false"
text_of (text t) = quoted t

-- a value, or null
abbrev pub or_null : {A : Type 0} → (A → Datum) → Option A → Datum
or_null f None = null
or_null f (Some x) = f x

-- a list's texts: `before` precedes the first, a comma each other, and `close` follows the last
abbrev pub listed : {A : Type 0} → (A → List ℕ) → List ℕ → List ℕ → List A → List ℕ
listed f before close [] = close
listed f before close (x ∷ rest) = before ++ (f x ++ listed f (codes ",") close rest)

-- a name in quotes, a colon and the value
abbrev pub member_text : List ℕ × Datum → List ℕ
member_text m = quoted m.0 ++ (codes ":" ++ text_of m.1)

-- an object of these members
abbrev pub object_text : Object → List ℕ
object_text members = 123 ∷ listed member_text [] (codes "}") members

-- an object with one member, a list of these objects
abbrev pub list_body : List ℕ → List Object → List ℕ
list_body name rows = codes "{" ++ (quoted name ++ (codes ":[" ++ listed object_text [] (codes "]}") rows))
