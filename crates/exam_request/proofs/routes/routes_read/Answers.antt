use Rattle.exam_request.proofs.FoundRoutes.{table_reads}
use Rattle.exam_request.proofs.routes.routes_read.Goals as goal

pub returns : goal.returns
returns c target h = table_reads target h
