-- Words that are no line change nothing and say so. Otherwise they are the line that they mean.
use Rattle.exam_theorem.proofs.Words.{job_shown, FollowsCommand, LineEnd, is_failure, command_of, of_line}
use Rattle.std.proofs.Common.{refl}
use Rattle.std.specs.Prelude.{Err, IsTrue, map, string_bytes}
use Rattle.exam_theorem.specs.Life.{LeadsTo}
use Rattle.exam_theorem.specs.declared.orders.LineStop.TheVariants as stop
use Rattle.exam_theorem.proofs.Reading.{followed, unread}
use Rattle.exam_theorem.proofs.SaidDays.{line_days}
use Rattle.exam_theorem.proofs.Settling.{settles_more, unchanged_settles}
use Rattle.exam_theorem.proofs.Sparing.{line_spares}
use Rattle.exam_theorem.proofs.orders.follow_words.Goals as goal

pub returns-in-Err-clause-follows : goal.returns-in-Err-clause-follows
returns-in-Err-clause-follows g c =
    unread (map string_bytes c.args.words.now) c.args.file.now c.in-Err.fault c.args.store.now.office c.in-Err.ensures

pub returns-in-Ok-clause-follows : goal.returns-in-Ok-clause-follows
returns-in-Ok-clause-follows g c =
    followed (map string_bytes c.args.words.now) c.args.file.now c.in-Ok.line c.args.store.now.office
    c.follow_line.new.store.office c.follow_line.result c.in-Ok.ensures c.follow_line.ensures.follows

pub returns-in-Err-clause-spares : goal.returns-in-Err-clause-spares
returns-in-Err-clause-spares g c =
    line_spares c.args.store.now.office c.args.store.now.office (map string_bytes c.args.words.now) c.args.file.now
    (Err (stop.NoLine c.in-Err.fault)) (returns-in-Err-clause-follows g c)

pub returns-in-Ok-clause-spares : goal.returns-in-Ok-clause-spares
returns-in-Ok-clause-spares g c =
    line_spares c.args.store.now.office c.follow_line.new.store.office
    (map string_bytes c.args.words.now) c.args.file.now c.follow_line.result (returns-in-Ok-clause-follows g c)

pub returns-in-Err-clause-settles : goal.returns-in-Err-clause-settles
returns-in-Err-clause-settles g c =
    unchanged_settles g.S.Store (λ h trees is may. g.met.S.Store.settled h.store trees is may)
    (IsTrue (is_failure (Err (stop.NoLine c.in-Err.fault))))
    (LeadsTo (of_line (map string_bytes c.args.words.now) c.args.file.now) c.args.store.now.office) c.args.store.now
    c.args.store.now refl

pub returns-in-Ok-clause-settles : goal.returns-in-Ok-clause-settles
returns-in-Ok-clause-settles g c =
    let words = map string_bytes c.args.words.now in
    settles_more g.S.Store (IsTrue (is_failure c.follow_line.result)) (IsTrue (is_failure c.follow_line.result))
    (λ at. (end : LineEnd)
    × FollowsCommand (command_of (job_shown c.in-Ok.line.job) c.args.file.now) c.in-Ok.line.today
    c.args.store.now.office end at)
    (LeadsTo (of_line words c.args.file.now) c.args.store.now.office)
    (λ fails. fails) (λ at led.
    (led.0, followed words c.args.file.now c.in-Ok.line c.args.store.now.office at led.0 c.in-Ok.ensures led.1))
    c.args.store.now c.follow_line.new.store
    (c.follow_line.ensures.settles (line_days words c.in-Ok.line c.in-Ok.ensures))

pub returns-in-Err-clause-own : goal.returns-in-Err-clause-own
returns-in-Err-clause-own g c = tt

pub returns-in-Ok-clause-own : goal.returns-in-Ok-clause-own
returns-in-Ok-clause-own g c = tt
