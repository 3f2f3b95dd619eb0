-- Objects as the values of `serde_json` that they are written from.
use Rattle.std.specs.Prelude.{[], ◌∷◌}
use Rattle.serde_json.specs.Data as values
use Rattle.exam_request.specs.Json.{Datum, Object, flag, null, number, text}

-- the value of a member
abbrev pub data_of : Datum → values.Data
data_of null = values.null
data_of (number n) = values.number (values.unsigned n)
data_of (flag b) = values.boolean b
data_of (text t) = values.string t

-- the members
abbrev pub members_data : Object → values.Members
members_data [] = values.no_members
members_data (m ∷ rest) = values.member m.0 (data_of m.1) (members_data rest)

-- the object
abbrev pub object_data : Object → values.Data
object_data members = values.object (members_data members)
