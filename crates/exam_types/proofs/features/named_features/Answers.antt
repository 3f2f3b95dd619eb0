use Rattle.std.proofs.Common.{sym}
use Rattle.exam_types.specs.Features.{named_features}
use Rattle.exam_types.proofs.FeatureFacts.{set_of_sum}
use Rattle.exam_types.proofs.features.named_features.Goals as goal

pub returns : goal.returns
returns c = set_of_sum (named_features c.args.bytes.now) c.named_among.result (sym c.named_among.ensures.value)
