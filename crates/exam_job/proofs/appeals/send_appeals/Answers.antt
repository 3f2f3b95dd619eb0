-- A known session has as many appeals as the store counts, and the rows that it lends are those of its office. What
-- the source reads of the store is what the sending read.
use Rattle.std.proofs.Common.{rules, ◌≡◌, ◌<◌, Err, length, ap, sym, subst, ◌∙◌, arith}
use Rattle.std.specs.Prelude.{⊤, IfErr, OnErr}
use Rattle.exam_files.specs.Registers.{BreaksOff, Streams, register_text}
use Rattle.exam_store.specs.InTurn.{FailsToRead, rows_from}
use Rattle.exam_store.specs.OnlyRead.{OnlyIsRead, read_itself}
use Rattle.exam_job.proofs.Streaming.{none_missing}
use Rattle.exam_job.proofs.appeals.send_appeals.Goals as goal

pub returns-in-Ok-clause-sent : goal.returns-in-Ok-clause-sent
returns-in-Ok-clause-sent g c = λ known.
    let rows = c.in-Ok.rows in
    let long : length (rows_from rows.store.now.office rows.session rows.from) ≡ c.in-Ok.count =
    ap length c.in-Ok.ensures.rows ∙ sym c.in-Ok.ensures.count in
    subst (λ list. Streams g.O.Write.contents c.register_stream.result c.args.out.now c.register_stream.new.writer
    (register_text c.args.session.now list)) c.in-Ok.ensures.rows
    (c.register_stream.ensures.sheet tt long)

pub returns-in-Ok-clause-fault : goal.returns-in-Ok-clause-fault
returns-in-Ok-clause-fault g c = λ known.
    let rows = c.in-Ok.rows in
    let long : length (rows_from rows.store.now.office rows.session rows.from) ≡ c.in-Ok.count =
    ap length c.in-Ok.ensures.rows ∙ sym c.in-Ok.ensures.count in
    let new = c.register_stream.new.source.store.now in
    let refuses = FailsToRead g.S.Store rows.store.now new in
    let enough : (⊤ → length (rows_from rows.store.now.office rows.session rows.from) < c.in-Ok.count) → ⊥ =
    λ short. let few = short tt in omega (arith, few, long) in
    let fault : IfErr c.register_stream.result (BreaksOff (FailsToRead g.S.Store c.args.store.now new) ⊥) =
    subst (λ o. IfErr c.register_stream.result (BreaksOff (FailsToRead g.S.Store o new) ⊥)) c.in-Ok.ensures.same
    (none_missing refuses _ enough c.register_stream.result c.register_stream.ensures.fault) in
    search rules

pub returns-in-Ok-clause-read : goal.returns-in-Ok-clause-read
returns-in-Ok-clause-read g c =
    let new = c.register_stream.new.source.store.now in
    let read : OnlyIsRead g.S.Store c.args.store.now new =
    subst (λ o. OnlyIsRead g.S.Store o new) c.in-Ok.ensures.same c.register_stream.ensures.stays.1 in
    search rules

pub returns-in-Err-clause-read : goal.returns-in-Err-clause-read
returns-in-Err-clause-read g c =
    let old = c.args.store.now in
    let last = c.appeals.follows.lender-at-none in
    let is : c.appeals.result ≡ Err c.in-Err.refusal = search rules in
    let same : last ≡ old = subst (λ r. OnErr r (last ≡ old)) is c.appeals.follows.holds-at-none in
    let read : OnlyIsRead g.S.Store old last =
    subst (λ o. OnlyIsRead g.S.Store old o) (sym same) (read_itself g.S.Store old) in
    search rules
