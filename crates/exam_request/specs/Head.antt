-- What the head of a request says.
use Rattle.std.specs.Prelude.{◌≡◌, ◌≢◌, ◌+◌, ◌≤◌, ◌⊎◌, ◌==◌, ◌&&◌, ℕ, List, [], ◌∷◌, length, map, slice_index, Bool}
use Rattle.std.specs.Prelude.{true, false, IfSome, Option, Some, None, option_map, Result, Ok, Err, nat_le, nat_lt}
use Rattle.std.specs.Prelude.{codes, if◌then◌else◌, IsUtf8}
use Rattle.std.specs.Char.{to_ascii_lowercase}
use Rattle.std.specs.List.{list_all}
use Rattle.std.specs.Str.{bytes_eq}
use Rattle.httparse.specs.Grammar.{ReadsRequest, RequestHead}
use Rattle.httparse.specs.Spans.{IsWithin, name_and_value, span_bytes}
use Rattle.httparse.specs.declared.spans.Span.{Span}
use Rattle.exam_types.specs.Digits.{digits_value, is_digit}
use Rattle.exam_request.specs.declared.fault.Fault.{Fault}
use Rattle.exam_request.specs.declared.fault.Fault.TheVariants.{Head, Host, Length, Size, TransferCoding}
use Rattle.exam_request.specs.declared.head.HeadSpans.{HeadSpans}
use Rattle.exam_request.specs.declared.lines.Lines.{Lines}
use Rattle.exam_request.specs.declared.lines.Lines.TheVariants.{Absent, One, Many}
use Rattle.exam_request.specs.Sizes.{most_body, most_lines}

-- The lines of a name.

-- without regard to ASCII case
abbrev pub same_name : List ℕ → List ℕ → Bool
same_name a b = bytes_eq (map to_ascii_lowercase a) (map to_ascii_lowercase b)

-- the values of the lines of a name, in their order
abbrev pub values_of : List ℕ → List (List ℕ × List ℕ) → List (List ℕ)
values_of name [] = []
values_of name (line ∷ lines) =
    if same_name line.0 name then line.1 ∷ values_of name lines else values_of name lines

-- whether a name has no line, one or several
pub data Found : Type 0 where
  absent : Found
  one : List ℕ → Found
  many : Found

-- which of these it is, by the values
abbrev pub found_in : List (List ℕ) → Found
found_in [] = absent
found_in (value ∷ []) = one value
found_in (value ∷ other ∷ more) = many

-- what the places of values in these bytes hold
abbrev pub shown : List ℕ → Lines → Found
shown bytes Absent = absent
shown bytes (One place) = one (span_bytes bytes place)
shown bytes Many = many

-- the place of the one value
abbrev pub only_place : Lines → Option Span
only_place Absent = None
only_place (One place) = Some place
only_place Many = None

-- the value of the one line, if there is one
abbrev pub only_value : Found → Option (List ℕ)
only_value absent = None
only_value (one value) = Some value
only_value many = None

-- What the lines say.

-- version 1.1 has exactly one host line, and 1.0 at most one
abbrev pub has_right_host : ℕ → Found → Bool
has_right_host minor absent = minor == 0
has_right_host minor (one value) = true
has_right_host minor many = false

-- whether the name has a line
abbrev pub has_line : Found → Bool
has_line absent = false
has_line (one value) = true
has_line many = true

-- 1 to 10 digits
abbrev pub is_length_text : List ℕ → Bool
is_length_text value = (nat_le 1 (length value) && nat_le (length value) 10) && list_all is_digit value

-- the length that one line gives
abbrev pub length_from : List ℕ → Result ℕ Fault
length_from value =
    if is_length_text value then
    (if nat_lt most_body (digits_value value) then Err Size else Ok (digits_value value))
    else Err Length

-- the length of the body, which is 0 if no line gives it
abbrev pub length_in : Found → Result ℕ Fault
length_in absent = Ok 0
length_in (one value) = length_from value
length_in many = Err Length

-- What a head says: its method, its target, the one access code and how long the body is.
pub record Said : Type 0 where
  pub method : List ℕ
  pub target : List ℕ
  pub code : Option (List ℕ)
  pub body_length : ℕ

-- the lines of a name in a head
abbrev pub lines_of : List ℕ → RequestHead → Found
lines_of name h = found_in (values_of name (map name_and_value h.fields))

-- what a head says, if the length of its body is one
abbrev pub with_length : RequestHead → Result ℕ Fault → Result Said Fault
with_length h (Err fault) = Err fault
with_length h (Ok n) = Ok (record {
  method = h.method;
  target = h.target;
  code = only_value (lines_of (codes "exam-code") h);
  body_length = n;
})

-- the first of these that fails is the fault: the host, a transfer coding, the length
abbrev pub said_by : RequestHead → Result Said Fault
said_by h =
    if has_right_host h.minor (lines_of (codes "host") h) then
    (if has_line (lines_of (codes "transfer-encoding") h) then Err TransferCoding
    else with_length h (length_in (lines_of (codes "content-length") h)))
    else Err Host

-- Whether bytes are a head.

-- each line feed after the first byte follows a carriage return
abbrev pub HasNoBareLineFeed : List ℕ → Type 0
HasNoBareLineFeed bytes = (k : ℕ) → slice_index bytes (k + 1) ≡ 10 → slice_index bytes k ≡ 13

-- the first byte is neither CR nor LF, and each LF follows a CR
pub record HasWholeLines (bytes : List ℕ) : Type 0 where
  pub no_cr_first : slice_index bytes 0 ≢ 13
  pub no_lf_first : slice_index bytes 0 ≢ 10
  pub no_bare_lf : HasNoBareLineFeed bytes

-- these bytes are the head h, with no more lines than a head may have
pub record IsHead (bytes : List ℕ) (h : RequestHead) : Type 0 where
  pub lines : HasWholeLines bytes
  pub reads : ReadsRequest bytes h []
  pub few : length h.fields ≤ most_lines

-- a head says what its lines say, and bytes that are no head have one fault
abbrev pub Judges : List ℕ → Result Said Fault → Type 0
Judges bytes answer = (((h : RequestHead) → IsHead bytes h → ⊥) × (answer ≡ Err Head))
    ⊎ ((h : RequestHead) × IsHead bytes h × (answer ≡ said_by h))

-- Where a head says it.

-- what the places in these bytes hold
abbrev pub said_at : List ℕ → HeadSpans → Said
said_at bytes s = record {
  method = span_bytes bytes s.method;
  target = span_bytes bytes s.target;
  code = option_map (span_bytes bytes) s.code;
  body_length = s.body_length;
}

-- what places in these bytes hold, or the fault
abbrev pub answer_at : List ℕ → Result HeadSpans Fault → Result Said Fault
answer_at bytes (Ok s) = Ok (said_at bytes s)
answer_at bytes (Err fault) = Err fault

-- the places lie in these bytes, the target is a text, and the body is not too long
pub record LiesIn (bytes : List ℕ) (s : HeadSpans) : Type 0 where
  pub method : IsWithin (length bytes) s.method
  pub target : IsWithin (length bytes) s.target
  pub text : IsUtf8 (span_bytes bytes s.target)
  pub code : IfSome s.code (IsWithin (length bytes))
  pub short : s.body_length ≤ most_body
