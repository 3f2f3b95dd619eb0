use Rattle.std.proofs.Common.{◌≡◌, true, false}
use Rattle.exam_office.proofs.part.Part.new.Goals as goal

pub returns-clause-ready : goal.returns-clause-ready
returns-clause-ready c = λ done office good order agrees. record {
  office = office;
  good = good;
  order = order;
  agrees = agrees;
  kept = λ made. absurd (let differ : false ≡ true = made in cc);
}
