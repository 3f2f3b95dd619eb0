use Rattle.std.proofs.Common.{◌≡◌, ◌≢◌, ◌<◌, ◌∙◌, None, Some, rules, arith, sym, ap}
use Rattle.std.specs.Result.{result_ok}
use Rattle.std.specs.Fmt.{decimal}
use Rattle.exam_line.proofs.Ports.{none_is, ok_is, other_is, some_is}
use Rattle.exam_line.proofs.values.port_written.Goals as goal
use Rattle.exam_line.proofs.values.port_written.Goals.{else-port-gt0-via-then-port-gt0+else-eq}
use Rattle.exam_line.proofs.values.port_written.Goals.{else-port-gt0-via-else-port-gt0}

pub returns-in_err-port : goal.returns-in_err-port
returns-in_err-port c =
    none_is c.parse.result _ c.from_residual.result c.parse.ensures.value.0 (search rules)
    (λ n is low same. let e : c.ok.result ≡ Some n = c.ok.ensures.value ∙ ap result_ok is in
    let none : c.ok.result ≡ None = search rules in cc (e, none))

pub returns-then-eq : goal.returns-then-eq
returns-then-eq c =
    let is = ok_is c.parse.result c.in_ok-port.port (sym c.ok.ensures.value ∙ c.in_ok-port.was) in
    some_is c.parse.result _ c.in_ok-port.port c.parse.ensures.value.0 is (omega arith) (omega arith) (search rules)

pub returns-else-port-gt0 : goal.returns-else-port-gt0
returns-else-port-gt0 c =
    let is = ok_is c.parse.result c.in_ok-port.port (sym c.ok.ensures.value ∙ c.in_ok-port.was) in
    elim c.else-port-gt0.branch [
      | else-port-gt0-via-then-port-gt0+else-eq w ↦
          let differ : decimal c.in_ok-port.port ≢ c.args.text.now = search rules in
          other_is c.parse.result _ c.in_ok-port.port c.parse.ensures.value.0 is (λ low same. differ same)
      | else-port-gt0-via-else-port-gt0 w ↦
          let zero : c.in_ok-port.port < 1 = omega arith in
          other_is c.parse.result _ c.in_ok-port.port c.parse.ensures.value.0 is (λ low same. absurd (omega arith))
    ]
