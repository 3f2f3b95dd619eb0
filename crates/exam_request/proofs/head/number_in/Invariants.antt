use Rattle.std.proofs.Common.{◌≡◌, ◌<◌, ◌^◌, fold, drop, ◌+◌, ◌*◌, ◌-◌}
use Rattle.std.specs.List.{list_all}
use Rattle.exam_types.specs.Digits as spec
use Rattle.exam_request.proofs.head.number_in.Given as goal

abbrev pub invariant-loop-byte : goal.invariant-loop-byte
invariant-loop-byte l = record {
  bound : l.number < 10 ^ l.byte-index;
  digits : list_all spec.is_digit (drop l.byte-index l.value) ≡ list_all spec.is_digit l.value;
  number : fold (λ n b. n * 10 + (b - 48)) l.number (drop l.byte-index l.value) ≡ spec.digits_value l.value;
}
