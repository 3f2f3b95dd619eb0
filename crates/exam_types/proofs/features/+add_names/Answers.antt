use Rattle.std.proofs.Common.{◌∙◌, ◌/◌, map, sym, ap}
use Rattle.exam_types.specs.Features.{add_names, summed_among}
use Rattle.exam_types.proofs.features.+add_names.Goals as goal

pub returns-in-Some : goal.returns-in-Some
returns-in-Some t c =
    let others = map (λ name. name.now) c.in-Some.others.now in
    let split = ap (λ names. map (λ name. name.now) names) c.in-Some.ensures.cases.0 in
    c.add_names.ensures ∙ ap
    (λ text. add_names others (summed_among others (c.args.mask / 2)) text) c.add_name.ensures.text
    ∙ sym (ap (λ all. add_names all (summed_among all c.args.mask) c.args.text.now.items) split)
