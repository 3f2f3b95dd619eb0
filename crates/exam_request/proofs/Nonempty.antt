-- An empty text opens nothing and has no members, so no memory is taken for it.
use Rattle.std.proofs.Common.{◌≡◌, ◌<◌, ℕ, List, [], ◌∷◌, Some, IsTrue, length, arith}
use Rattle.json.specs.Json.{value}
use Rattle.json.specs.Lex.{lex, punctuate, tokens}
use Rattle.json.specs.Reads.{opens}
use Rattle.exam_request.specs.Posted.{members_written}

pub opening_text : (text : List ℕ) → IsTrue (opens (tokens text)) → 0 < length text
unfolding lex punctuate
opening_text [] h = cc h
opening_text (x ∷ xs) h = omega arith

pub counted_text : (text : List ℕ) (n : ℕ) → members_written text ≡ Some n → 0 < length text
unfolding lex punctuate value
counted_text [] n e = cc e
counted_text (x ∷ xs) n e = omega arith
