-- Where the head of a request ends in the bytes that come in, and how far they were read.
use Rattle.std.specs.Prelude.{◌≡◌, ◌≤◌, ℕ, suc, List, [], ◌∷◌, ◌++◌, length, take, drop, Bool, Option, Some, None}
use Rattle.std.specs.Prelude.{Result, Ok, Err, option_map, nat_lt, ⊤, if◌then◌else◌}
use Rattle.std.specs.Io.KnownBytes.{Consumes, IsAtEnd, Keeps}
use Rattle.std.specs.Str.{bytes_eq}
use Rattle.exam_send.specs.Given.{Gave}
use Rattle.exam_request.specs.declared.fault.Fault.{Fault}
use Rattle.exam_request.specs.declared.fault.Fault.TheVariants.{Head, Size}
use Rattle.exam_request.specs.declared.reading.Stop.{Stop}
use Rattle.exam_request.specs.declared.reading.Stop.TheVariants.{Failed, Faulty}
use Rattle.exam_request.specs.Sizes.{most_head}

-- CR LF CR LF
abbrev pub empty_line : List ℕ
empty_line = 13 ∷ 10 ∷ 13 ∷ 10 ∷ []

-- the bytes begin with it
abbrev pub begins : List ℕ → Bool
begins xs = bytes_eq empty_line (take 4 xs)

-- how many bytes end with the first CR LF CR LF
unfoldable pub head_len : List ℕ → Option ℕ
head_len [] = None
head_len (b ∷ rest) = if begins (b ∷ rest) then Some 4 else option_map suc (head_len rest)

-- the head of that length and the bytes after it; without one the input is cut off, or its head is too long
abbrev pub head_or_fault : List ℕ → Option ℕ → Result (List ℕ × List ℕ) Fault
head_or_fault input (Some n) = Ok (take n input, drop n input)
head_or_fault input None = Err (if nat_lt (length input) most_head then Head else Size)

-- the head that an input begins with, which its first bytes hold, as many as the longest head has, and the bytes after
-- it
abbrev pub head_of : List ℕ → Result (List ℕ × List ℕ) Fault
head_of input = head_or_fault input (head_len (take most_head input))

-- what a read of a head found: n of the bytes in hand are the head, whatever follows them
pub record HeadRead (old new : Option (List ℕ)) (bytes : List ℕ) (n : ℕ) : Type 0 where
  pub within : n ≤ length bytes
  pub consumed : Consumes old new bytes
  pub head : (rest : List ℕ) → head_of (bytes ++ rest) ≡ Ok (take n bytes, drop n bytes ++ rest)

-- the head's length and how many bytes are in hand, or the fault of the bytes that were given
abbrev pub ReadsHead : Option (List ℕ) → Option (List ℕ) → List ℕ → Result (ℕ × ℕ) Stop → Type 0
ReadsHead old new buffer (Ok r) = (r.1 ≤ most_head) × HeadRead old new (take r.1 buffer) r.0
ReadsHead old new buffer (Err Failed) = Gave most_head old new (λ input. ⊤)
ReadsHead old new buffer (Err (Faulty fault)) = Gave most_head old new (λ input. head_of input ≡ Err fault)

-- a read added to the bytes in hand, or met the end of the input
pub record More (old new : Option (List ℕ)) (had now : List ℕ) : Type 0 where
  pub got : List ℕ
  pub now_is : now ≡ had ++ got
  pub consumed : Consumes old new got
  pub at_end : got ≡ [] → IsAtEnd new

-- a read answers how many bytes are in hand now, and a failed one took none
abbrev pub ReadsMore :
    Option (List ℕ) → Option (List ℕ) → List ℕ → List ℕ → ℕ → ℕ → Result ℕ Stop → Type 0
ReadsMore old new before after filled end (Ok total) =
    (filled ≤ total) × (total ≤ end) × More old new (take filled before) (take total after)
ReadsMore old new before after filled end (Err stop) = (stop ≡ Failed) × Keeps old new
