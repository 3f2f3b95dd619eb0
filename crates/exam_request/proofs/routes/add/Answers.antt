use Rattle.matchit.specs.Route.{parse_route}
use Rattle.exam_request.proofs.Adding.{adds, fails_for_memory}
use Rattle.exam_request.proofs.routes.add.Goals as goal

pub returns-clause-rows : goal.returns-clause-rows
returns-clause-rows c = adds (parse_route c.args.pattern.now) _ _ _ _ c.requires c.insert.ensures

pub returns-clause-memory : goal.returns-clause-memory
returns-clause-memory c = fails_for_memory (parse_route c.args.pattern.now) _ _ _ _ c.requires c.insert.ensures
