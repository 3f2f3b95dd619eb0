-- How much a request may have.
use Rattle.std.specs.Prelude.{ℕ, ◌+◌}

-- the lines of a head
abbrev pub most_lines : ℕ
most_lines = 32

-- the bytes of a head
abbrev pub most_head : ℕ
most_head = 8192

-- the bytes of a body
abbrev pub most_body : ℕ
most_body = 4096

-- the bytes of both
abbrev pub most_request : ℕ
most_request = most_head + most_body
