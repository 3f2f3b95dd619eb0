use Rattle.std.proofs.lemmas.Bool.Decides.{same_from_decides}
use Rattle.std.proofs.lemmas.Slice.Eq.{bytes_eq-Decides}
use Rattle.exam_request.proofs.Secrets.{decided}
use Rattle.exam_request.proofs.secret.is_secret.Goals as goal

pub returns-clause-decides : goal.returns-clause-decides
returns-clause-decides c = decided c.args.given.now c.args.secret.now _ c.differences-same_bytes.ensures

pub returns-clause-value : goal.returns-clause-value
returns-clause-value c =
    same_from_decides _ _ (decided c.args.given.now c.args.secret.now _ c.differences-same_bytes.ensures)
    (bytes_eq-Decides c.args.given.now c.args.secret.now)
