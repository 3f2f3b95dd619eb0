use Rattle.std.proofs.Common.{◌∙◌, ◌+◌, ◌*◌, map, sym, ap, ap₂}
use Rattle.exam_types.specs.Features.{named_among, part, sum_among}
use Rattle.exam_types.proofs.FeatureFacts.{byte_is}
use Rattle.exam_types.proofs.features.+named_among.Goals as goal

pub returns-in-Some-clause-value : goal.returns-in-Some-clause-value
returns-in-Some-clause-value t c =
    let split = ap (λ names. map (λ name. name.now) names) c.in-Some.ensures.cases.0 in
    let low = c.from.ensures ∙ byte_is c.has_part.result ∙ ap (λ has. part has 1) c.has_part.ensures in
    ap₂ (λ low high. low + 2 * high) low c.named_among.ensures.value
    ∙ sym (ap (λ all. sum_among all (named_among all c.args.bytes.now)) split)
