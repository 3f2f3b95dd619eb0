-- What the body of a posting lodges.
use Rattle.std.specs.Prelude.{◌==◌, ◌<◌, ℕ, suc, List, Bool, IsTrue, length, Option, Some, None, option_map}
use Rattle.std.specs.Prelude.{option_and_then, nat_le, codes, bytes_eq, if◌then◌else◌}
use Rattle.std.specs.Str.{is_utf8}
use Rattle.json.specs.Json as json
use Rattle.json.specs.Find as json_find
use Rattle.serde_json.specs.Data.{Data}
use Rattle.serde_json.specs.Find.{as_number, as_str, as_u64, get}
use Rattle.serde_json.specs.Read.{read}
use Rattle.exam_types.specs.Codes.{is_hall_code, is_paper_code, is_reference, is_session_code}
use Rattle.exam_types.specs.Features.{features_in}
use Rattle.exam_types.specs.Texts.{is_reason}
use Rattle.exam_rules.specs.declared.rows.Arrangement.{Arrangement}
use Rattle.exam_rules.specs.declared.rows.Subject.{Subject}
use Rattle.exam_rules.specs.declared.rows.Subject.TheVariants as subject
use Rattle.exam_request.specs.declared.posted.Posted.{Posted}

-- The members of an object.

-- how many members these are
abbrev pub count_of : json.Members → ℕ
count_of json.no_members = 0
count_of (json.member name value rest) = suc (count_of rest)

-- how many members the object has as it is written: a name that comes twice counts twice
abbrev pub members_written : List ℕ → Option ℕ
members_written text = option_map count_of (option_and_then json_find.as_object (json.document text))

-- the text that the member of that name is
abbrev pub text_at : List ℕ → Data → Option (List ℕ)
text_at name value = option_and_then as_str (get name value)

-- the text that the member of that name is, if it has the form of its value
abbrev pub value_at : (List ℕ → Bool) → List ℕ → Data → Option (List ℕ)
value_at is_value name value =
    option_and_then (λ text. if is_value text then Some text else None) (text_at name value)

-- The values of an appeal.

-- the reference that `ref` gives
abbrev pub reference_in : Data → Option (List ℕ)
reference_in = value_at is_reference (codes "ref")

-- the session
abbrev pub session_in : Data → Option (List ℕ)
session_in = value_at is_session_code (codes "session")

-- the reason
abbrev pub reason_in : Data → Option (List ℕ)
reason_in = value_at is_reason (codes "reason")

-- the hall that is not to be sat in
abbrev pub hall_in : Data → Option (List ℕ)
hall_in = value_at is_hall_code (codes "hall")

-- the paper that is to be sat
abbrev pub paper_in : Data → Option (List ℕ)
paper_in = value_at is_paper_code (codes "paper")

-- a number without sign, fraction or exponent, 0 to 100
abbrev pub extra_in : Data → Option ℕ
extra_in value =
    option_and_then (λ n. if nat_le n 100 then Some n else None)
    (option_and_then as_u64 (option_and_then as_number (get (codes "extra") value)))

-- the needs and the extra time
abbrev pub arrangement_in : Data → Option Arrangement
arrangement_in value =
    option_and_then (λ needs. option_map (λ extra. record { needs = needs; extra = extra }) (extra_in value))
    (option_and_then features_in (text_at (codes "needs") value))

-- what an appeal of that kind asks
abbrev pub subject_of_kind : List ℕ → Data → Option Subject
subject_of_kind kind value =
    if bytes_eq kind (codes "hall") then option_map subject.Hall (hall_in value)
    else (if bytes_eq kind (codes "clash") then option_map subject.Clash (paper_in value)
    else (if bytes_eq kind (codes "arrangement") then option_map subject.Arrangement (arrangement_in value)
    else None))

-- `kind`, `reason`, `ref`, `session` and the one or two members of the kind
abbrev pub members_of_kind : List ℕ → ℕ
members_of_kind kind = if bytes_eq kind (codes "arrangement") then 6 else 5

-- what the appeal asks, in an object of as many members as its kind has
abbrev pub subject_in : ℕ → Data → Option Subject
subject_in count value =
    option_and_then (λ kind. if count == members_of_kind kind then subject_of_kind kind value else None)
    (text_at (codes "kind") value)

-- the appeal that an object of so many members lodges
abbrev pub lodged_by : ℕ → Data → Option Posted
lodged_by count value =
    option_and_then (λ reference.
    option_and_then (λ session.
    option_and_then (λ subject.
    option_map (λ reason. record {
      reference = reference;
      session = session;
      subject = subject;
      reason = reason;
    })
    (reason_in value)) (subject_in count value)) (session_in value)) (reference_in value)

-- The appeal that a text lodges: an object with these members in any order, and with as many members as these are, so
-- no other member is there and none comes twice.
abbrev pub lodged_in : List ℕ → Option Posted
lodged_in text =
    option_and_then (λ count. option_and_then (lodged_by count) (read text)) (members_written text)

-- the appeal that a body lodges, which must be UTF-8
abbrev pub posted_of : List ℕ → Option Posted
posted_of body = if is_utf8 body then lodged_in body else None

-- the body is a text, and not empty; no other body takes memory
abbrev pub IsReadable : List ℕ → Type 0
IsReadable body = IsTrue (is_utf8 body) × (0 < length body)
