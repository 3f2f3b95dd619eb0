use Rattle.std.proofs.Common.{◌≡◌, drop}
use Rattle.exam_request.proofs.Secrets.{differing}
use Rattle.exam_request.proofs.secret.differences.Given as goal

abbrev pub invariant-loop-byte : goal.invariant-loop-byte
invariant-loop-byte l =
    (l.index ≡ l.byte-index)
    × (differing l.found l.index (drop l.byte-index l.given) l.secret ≡ differing 0 0 l.given l.secret)
