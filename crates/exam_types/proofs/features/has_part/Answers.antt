use Rattle.std.proofs.Common.{rules, tests, ◌==◌, nat_eq}
use Rattle.std.proofs.lemmas.Iterator.Search.{any_from_yields_List}
use Rattle.std.proofs.lemmas.Iterator.Splits.{YieldsList-from_slice_split}
use Rattle.std.specs.Cmp.Lexicographic.{pointwise}
use Rattle.exam_types.proofs.features.has_part.Goals as goal

pub returns : goal.returns
returns c =
    any_from_yields_List (λ part. pointwise nat_eq part c.args.name.now) _ _ _ c.any.ensures.ran
    (YieldsList-from_slice_split _
    (λ b. b == 43) c.args.bytes.now c.split.ensures.rest c.split.ensures.done c.split.ensures.closure
    (λ x b q k. search rules))
    (λ x b q k. search (rules, tests))
