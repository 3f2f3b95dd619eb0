-- What was written so far is the heading and a line for each appeal that the source gave, and what the source still
-- has is the rest. A fault ends the text at that place, so a beginning of the sheet was written.
use Rattle.std.proofs.Common.{rules, ◌≡◌, ◌≤◌, ◌<◌, ◌+◌, Err, [], length, arith, ap, drop, refl, ◌∙◌}
use Rattle.exam_files.specs.Registers.{register_text}
use Rattle.exam_files.proofs.Streaming.{all_streamed, asked_on, breaks_on, cut_off, enough, fault_asked, fault_streams}
use Rattle.exam_files.proofs.Streaming.{few_asked, few_came, heading_cut, left_after, none_streamed, one_streamed}
use Rattle.exam_files.proofs.streams.register_stream.Goals as goal

pub returns-in_err-send_heading-clause-sheet : goal.returns-in_err-send_heading-clause-sheet
returns-in_err-send_heading-clause-sheet g c =
    let is : c.from_residual.result ≡ Err c.in_err-send_heading.field-0.0 = search rules in
    λ honest many.
    let all = g.A.AppealSource.coming c.args.source.now in
    fault_streams g.W.Write.contents c.from_residual.result c.in_err-send_heading.field-0.0 c.args.writer.now
    c.send_heading.new.writer (register_text c.args.session.now all) is
    (heading_cut c.args.session.now c.args.count all (g.W.Write.contents c.args.writer.now)
    (g.W.Write.contents c.send_heading.new.writer) many c.in_err-send_heading.ensures.sent)

pub returns-in_err-send_heading-clause-asked : goal.returns-in_err-send_heading-clause-asked
returns-in_err-send_heading-clause-asked g c =
    let is : c.from_residual.result ≡ Err c.in_err-send_heading.field-0.0 = search rules in
    λ honest.
    let all = g.A.AppealSource.coming c.args.source.now in
    let refuses = g.A.AppealSource.Refuses c.args.source.now c.args.source.now in
    fault_asked c.args.count refuses all all c.from_residual.result c.in_err-send_heading.field-0.0 is
    (few_asked c.args.count refuses all all c.in_err-send_heading.field-0.0 (0, omega arith, refl))

pub loop-place-init : goal.loop-place-init
loop-place-init g c = (
  g.met.A.AppealSource.stays_itself c.args.source.now,
  λ honest. honest,
  λ honest. none_streamed c.args.session.now c.args.count (g.A.AppealSource.coming c.args.source.now)
      (g.W.Write.contents c.args.writer.now)
      (g.W.Write.contents c.send_heading.new.writer) c.in_ok-send_heading.ensures.sent,
)

pub returns-in_err-send_next-clause-sheet : goal.returns-in_err-send_next-clause-sheet
returns-in_err-send_next-clause-sheet g c =
    let is : c.from_residual-in_err-send_next.result ≡ Err c.in_err-send_next.field-0.0 = search rules in
    λ honest many.
    let all = g.A.AppealSource.coming c.args.source.now in
    fault_streams g.W.Write.contents c.from_residual-in_err-send_next.result c.in_err-send_next.field-0.0
    c.args.writer.now c.send_next.new.writer (register_text c.args.session.now all) is
    (cut_off c.args.session.now c.args.count all (g.W.Write.contents c.args.writer.now) c.loop-place._place
    (g.A.AppealSource.coming c.loop-place.source) (g.A.AppealSource.coming c.send_next.new.source)
    (g.W.Write.contents c.loop-place.writer) (g.W.Write.contents c.send_next.new.writer) many
    (c.loop-place.invariant.2 (c.in_err-send_next.ensures.honest honest)) (c.in_err-send_next.ensures.err honest))

pub returns-in_err-send_next-clause-asked : goal.returns-in_err-send_next-clause-asked
returns-in_err-send_next-clause-asked g c =
    let is : c.from_residual-in_err-send_next.result ≡ Err c.in_err-send_next.field-0.0 = search rules in
    let room : c.loop-place._place + 1 ≤ c.args.count = omega (arith, c.loop-place-test.true) in
    λ honest.
    let all = g.A.AppealSource.coming c.args.source.now in
    let left = g.A.AppealSource.coming c.loop-place.source in
    let new = g.A.AppealSource.coming c.send_next.new.source in
    let refuses = g.A.AppealSource.Refuses c.args.source.now c.send_next.new.source in
    let fault = c.in_err-send_next.field-0.0 in
    let so_far = left_after c.args.session.now c.args.count all
    (g.W.Write.contents c.args.writer.now) c.loop-place._place left (g.W.Write.contents c.loop-place.writer)
    (c.loop-place.invariant.2 (c.in_err-send_next.ensures.honest honest)) in
    fault_asked c.args.count refuses all new c.from_residual-in_err-send_next.result fault is
    (asked_on c.args.count c.loop-place._place
    (g.A.AppealSource.Refuses c.loop-place.source c.send_next.new.source) refuses
    (λ e. g.met.A.AppealSource.refuses_then c.args.source.now c.loop-place.source c.send_next.new.source e
    c.loop-place.invariant.0)
    all left new fault room so_far (c.in_err-send_next.ensures.asked honest))

pub returns-in_err-send_next-clause-fault : goal.returns-in_err-send_next-clause-fault
returns-in_err-send_next-clause-fault g c =
    let is : c.from_residual-in_err-send_next.result ≡ Err c.in_err-send_next.field-0.0 = search rules in
    let room : c.loop-place._place + 1 ≤ c.args.count = omega (arith, c.loop-place-test.true) in
    rw is (breaks_on
    (g.A.AppealSource.Refuses c.loop-place.source c.send_next.new.source)
    (g.A.AppealSource.Refuses c.args.source.now c.send_next.new.source)
    (λ e. g.met.A.AppealSource.refuses_then c.args.source.now c.loop-place.source c.send_next.new.source e
    c.loop-place.invariant.0)
    (g.A.AppealSource.IsHonest c.send_next.new.source → g.A.AppealSource.coming c.loop-place.source ≡ [])
    (g.A.AppealSource.IsHonest c.send_next.new.source
    → length (g.A.AppealSource.coming c.args.source.now) < c.args.count)
    (λ ended honest. few_came c.args.session.now c.args.count (g.A.AppealSource.coming c.args.source.now)
    (g.W.Write.contents c.args.writer.now) c.loop-place._place (g.A.AppealSource.coming c.loop-place.source)
    (g.W.Write.contents c.loop-place.writer) room
    (c.loop-place.invariant.2 (c.in_err-send_next.ensures.honest honest)) (ended honest))
    c.in_err-send_next.field-0.0 c.in_err-send_next.ensures.fault)

pub loop-place-preserved : goal.loop-place-preserved
loop-place-preserved g c = (
  g.met.A.AppealSource.stays_then c.args.source.now c.loop-place.source c.send_next.new.source c.loop-place.invariant.0
      c.in_ok-send_next.ensures.stays,
  λ honest. c.loop-place.invariant.1 (c.in_ok-send_next.ensures.honest honest),
  λ honest. one_streamed c.args.session.now c.args.count (g.A.AppealSource.coming c.args.source.now)
      (g.W.Write.contents c.args.writer.now) c.loop-place._place
      (g.A.AppealSource.coming c.loop-place.source) (g.A.AppealSource.coming c.send_next.new.source)
      (g.W.Write.contents c.loop-place.writer) (g.W.Write.contents c.send_next.new.writer)
      (c.loop-place.invariant.2 (c.in_ok-send_next.ensures.honest honest)) (c.in_ok-send_next.ensures.ok honest),
)

pub returns-clause-sheet : goal.returns-clause-sheet
returns-clause-sheet g c = λ honest many.
    let end : c.args.count ≤ c.loop-place._place = omega (arith, c.loop-place-test.false) in
    all_streamed c.args.session.now c.args.count (g.A.AppealSource.coming c.args.source.now)
    (g.W.Write.contents c.args.writer.now) c.loop-place._place
    (g.A.AppealSource.coming c.loop-place.source) (g.W.Write.contents c.loop-place.writer) many end
    (c.loop-place.invariant.2 honest)

pub returns-clause-rest : goal.returns-clause-rest
returns-clause-rest g c = λ honest. (
  left_after c.args.session.now c.args.count (g.A.AppealSource.coming c.args.source.now)
      (g.W.Write.contents c.args.writer.now) c.loop-place._place
      (g.A.AppealSource.coming c.loop-place.source) (g.W.Write.contents c.loop-place.writer)
      (c.loop-place.invariant.2 honest)
      ∙ ap (λ n. drop n (g.A.AppealSource.coming c.args.source.now))
      (omega (arith, c.loop-place-test.false, c.loop-place.auto._place-end)),
  enough c.args.session.now c.args.count (g.A.AppealSource.coming c.args.source.now)
      (g.W.Write.contents c.args.writer.now) c.loop-place._place
      (g.A.AppealSource.coming c.loop-place.source) (g.W.Write.contents c.loop-place.writer)
      (omega (arith, c.loop-place-test.false)) (c.loop-place.invariant.2 honest),
)
