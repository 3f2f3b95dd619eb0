use Rattle.exam_request.specs.Asked.{request_of}
use Rattle.exam_http.proofs.Callers.{chosen_is, found, named_is, of_office, short}
use Rattle.exam_http.proofs.answering.answer_found.Goals as goal

pub done-requires : goal.done-requires
done-requires g c =
    let office = c.args.store.now.office in
    let request = request_of c.args.request.now in
    let named = named_is office request _ _ c.named_by-named.ensures c.requires in
    of_office office request c.in-Ok.choice
    (chosen_is office request c.in-Ok.choice c.named_by-named.result c.in-Ok.ensures.ok named)

pub returns-in-Ok : goal.returns-in-Ok
returns-in-Ok g c =
    let office = c.args.store.now.office in
    let request = request_of c.args.request.now in
    let named = named_is office request _ _ c.named_by-named.ensures c.requires in
    let chosen = chosen_is office request c.in-Ok.choice c.named_by-named.result c.in-Ok.ensures.ok named in
    found g.S.Store c.args.today c.args.store.now request c.in-Ok.choice _ _ chosen c.done.ensures

pub returns-in-Err : goal.returns-in-Err
returns-in-Err g c =
    let request = request_of c.args.request.now in
    let named = named_is c.args.store.now.office request _ _ c.named_by-named.ensures c.requires in
    short g.S.Store c.args.today c.args.store.now request _ _ _ named c.in-Err.ensures.memory c.refusal.ensures
