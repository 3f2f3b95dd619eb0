-- Each mask that was pushed is the one that was given, which names no hall beyond the last.
use Rattle.std.proofs.Common.{◌≡◌, ◌<◌, ◌^◌, ℕ, List, [], ◌∷◌, ◌++◌, length, ap, sym, ◌∙◌, subst, arith}
use Rattle.std.specs.Prelude.{All}
use Rattle.std.proofs.lemmas.List.{map-append}
use Rattle.std.proofs.lemmas.List.Elements.{All-push}
use Rattle.exam_plan.specs.HallSets.{set_of_mask, sets_of}
use Rattle.exam_plan.proofs.Steps.{length_push}
use Rattle.exam_base_tests.proofs.TinyProblems.{if_ok}
use Rattle.exam_base_tests.proofs.tests.plan.equal_problem.Goals as goal

one_more : (halls : ℕ) (masks : List (List ℕ)) (mask : List ℕ) → All (λ set. set < 2 ^ halls) (sets_of masks)
    → set_of_mask mask < 2 ^ halls → All (λ set. set < 2 ^ halls) (sets_of (masks ++ mask ∷ []))
one_more halls masks mask all fits =
    subst (All (λ set. set < 2 ^ halls)) (sym (map-append set_of_mask masks (mask ∷ [])))
    (All-push (λ set. set < 2 ^ halls) (sets_of masks) (set_of_mask mask) all fits)

pub filling-init : goal.filling-init
filling-init c = record {
  count = ap length c.in_ok-masks.ensures.items;
  exist = subst (λ (masks : List (List ℕ)). All (λ set. set < 2 ^ c.args.halls) (sets_of masks))
      (sym c.in_ok-masks.ensures.items) (λ i d l. absurd (omega arith));
}

pub filling-preserved : goal.filling-preserved
filling-preserved c = record {
  count = ap length c.in_ok-push.ensures.items
      ∙ length_push c.filling.masks.items c.args.mask c.filling.counter c.filling.invariant.count;
  exist = subst (λ (masks : List (List ℕ)). All (λ set. set < 2 ^ c.args.halls) (sets_of masks))
      (sym c.in_ok-push.ensures.items)
      (one_more c.args.halls c.filling.masks.items c.args.mask c.filling.invariant.exist c.requires.exist);
}

pub masked_problem-requires : goal.masked_problem-requires
masked_problem-requires c = record {
  few_halls = c.requires.few_halls;
  few = (let long : length c.as_slice.result.now ≡ length c.filling.masks.items =
      ap length c.as_slice.ensures.value in
      omega (arith, long, c.filling.invariant.count, c.filling.auto.counter-end, c.requires.few));
  exist = subst (λ (masks : List (List ℕ)). All (λ set. set < 2 ^ c.args.halls) (sets_of masks))
      (sym c.as_slice.ensures.value) c.filling.invariant.exist;
}

pub returns : goal.returns
returns c = record {
  count = (
      let long : length c.as_slice.result.now ≡ length c.filling.masks.items = ap length c.as_slice.ensures.value in
      let all : length c.as_slice.result.now ≡ c.args.candidates =
      omega (arith, long, c.filling.invariant.count, c.filling.auto.counter-end, c.filling-test.false) in
      if_ok c.masked_problem.result _ _ (λ p e. e ∙ all) c.masked_problem.ensures.count);
}
