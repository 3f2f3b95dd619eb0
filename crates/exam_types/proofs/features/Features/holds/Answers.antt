use Rattle.std.proofs.Common.{sym, arith}
use Rattle.exam_types.specs.Features.{feature_names}
use Rattle.exam_types.proofs.FeatureFacts.{met_bits}
use Rattle.exam_types.proofs.features.Features.holds.Goals as goal

pub returns : goal.returns
returns c = rw (sym c.self.view_is, sym c.wanted.view_is)
    (sym (met_bits feature_names c.self.inside.mask c.wanted.inside.mask (omega (arith, c.self.invariant))
    (omega (arith, c.wanted.invariant))))
