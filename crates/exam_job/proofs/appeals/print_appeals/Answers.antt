-- The register went out whole and was flushed, or it broke off as `send_appeals` says.
use Rattle.std.proofs.Common.{◌≡◌, ◌∙◌, Err, ap}
use Rattle.exam_job.specs.Printed.{fault_of}
use Rattle.exam_job.proofs.Streaming.{part, told, unknown_fault, whole}
use Rattle.exam_job.proofs.appeals.print_appeals.Goals as goal

pub returns : goal.returns
returns g c =
    let sent = c.in_ok-send_appeals.ensures in
    record {
      sheet = whole g.S.Store c.args.store.now c.send_appeals.new.store c.args.store.now.office c.args.session.now
          g.O.Write.contents c.args.out.now c.send_appeals.new.out c.flush.result c.flush.new.out
          sent.sent (λ none. cc (sent.unknown none).0) c.flush.ensures;
      unknown = λ none. absurd (cc (sent.unknown none).0);
      read = sent.read;
    }

pub returns-in_err-send_appeals : goal.returns-in_err-send_appeals
returns-in_err-send_appeals g c =
    let sent = c.in_err-send_appeals.ensures in
    let e = c.in_err-send_appeals.field-0.0 in
    let is : c.from_residual.result ≡ Err (fault_of e) =
    told c.from_residual.result (fault_of e) c.from_residual.ensures.1 in
    record {
      sheet = part g.S.Store c.args.store.now c.send_appeals.new.store c.args.store.now.office c.args.session.now
          g.O.Write.contents c.args.out.now e c.from_residual.result c.send_appeals.new.out is
          (λ known. (sent.fault known, sent.sent known))
          (λ none. (unknown_fault e (sent.unknown none).0, (sent.unknown none).2));
      unknown = λ none. (
        is ∙ ap (λ f. Err (fault_of f)) (unknown_fault e (sent.unknown none).0),
        (sent.unknown none).1,
        (sent.unknown none).2,
      );
      read = sent.read;
    }
