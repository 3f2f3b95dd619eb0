-- Desks, rows and ranks have the lengths that a problem wants.
use Rattle.std.proofs.Common.{rules, ◌≡◌, ◌<◌, ◌^◌, ℕ, length, ap, sym, ◌∙◌, subst, arith}
use Rattle.std.specs.Prelude.{All}
use Rattle.std.proofs.lemmas.List.{length-map}
use Rattle.std.proofs.lemmas.List.FromFn.{length-range_with_len}
use Rattle.exam_plan.specs.HallSets.{halls_below, set_of_mask, sets_of}
use Rattle.exam_plan.proofs.HallRows.{within_masks}
use Rattle.exam_base_tests.proofs.TinyProblems.{ranks_distinct, if_ok}
use Rattle.exam_base_tests.proofs.tests.plan.masked_problem.Goals as goal

pub from_masks-requires : goal.from_masks-requires
from_masks-requires c =
    let opened : length c.in_ok-desks.desks.items ≡ c.args.halls = search rules in
    let rows : c.in_ok-rows.rows.items ≡ c.args.masks.now = search rules in
    record {
      few_halls = omega (arith, opened, c.requires.few_halls);
      few = omega (arith, ap length rows, c.requires.few);
      ranked = ap length c.in_ok-ranks.ensures ∙ length-range_with_len 0 (length c.args.masks.now)
          ∙ sym (ap length rows);
      distinct = ranks_distinct c.in_ok-ranks.ranks.items (length c.args.masks.now) c.in_ok-ranks.ensures;
      exist = within_masks (length c.in_ok-desks.desks.items) (sets_of c.in_ok-rows.rows.items)
          (subst (λ (n : ℕ). All (λ set. set < 2 ^ n) (sets_of c.in_ok-rows.rows.items)) (sym opened)
          (subst (All (λ set. set < 2 ^ c.args.halls)) (ap sets_of (sym rows)) c.requires.exist));
    }

pub returns : goal.returns
returns c =
    let rows : c.in_ok-rows.rows.items ≡ c.args.masks.now = search rules in
    record {
      count = if_ok c.from_masks.result _ _
          (λ p e. ap (λ q. length q.fit) e
          ∙ length-map (sets_of c.in_ok-rows.rows.items) (halls_below (length c.in_ok-desks.desks.items))
          ∙ length-map c.in_ok-rows.rows.items set_of_mask ∙ ap length rows) c.from_masks.ensures.problem;
    }
