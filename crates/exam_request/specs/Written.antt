-- The body of an answer, as the program has it.
use Rattle.std.specs.Prelude.{ℕ, List}
use Rattle.exam_request.specs.declared.answers.Body.{Body}
use Rattle.exam_request.specs.declared.answers.Body.TheVariants.{Short, Long}

-- its bytes, wherever they lie
abbrev pub body_bytes : Body → List ℕ
body_bytes (Short text) = text.items
body_bytes (Long text) = text.items
