use Rattle.exam_rules.proofs.Words.{Appeal, Code, is_row_of, relations_of, later_of}
use Rattle.std.proofs.Common.{◌≡◌, ◌&&◌, ap, filter, ℕ, List, ◌∙◌, None}
use Rattle.std.specs.Prelude.{fold, nat_le, filter_map}
use Rattle.exam_rules.specs.Sessions.{is_granted, is_marked, standing_grant, standing_grants_in}
use Rattle.exam_rules.proofs.Together.{filter_and}
use Rattle.exam_rules.proofs.standing.last_until.Goals as goal

pub loop-key-init : goal.loop-key-init
loop-key-init c =
    let start : c.into_iter-key-iterator.result
    ≡ (c.args.number, filter (is_row_of c.args.number) c.args.facts.now.appeals.entries) =
    c.into_iter-key-iterator.ensures.into_iter_gives ∙ c.appeals_of-key-items.ensures.rows in (
      tt,
      tt,
      ap (λ (a : ℕ × List ((ℕ × Code) × Appeal)). a.0) start,
      ap (λ (a : ℕ × List ((ℕ × Code) × Appeal)). fold later_of None
          (filter (λ grant. nat_le grant.day c.args.day)
          (standing_grants_in (relations_of c.args.facts.now) a.1 c.args.number))) start
          ∙ ap (λ rows. fold later_of None
          (filter (λ grant. nat_le grant.day c.args.day)
          (filter_map (λ (a : (ℕ × Code) × Appeal). standing_grant (relations_of c.args.facts.now) a.1) rows)))
          (filter_and (is_row_of c.args.number)
          (λ (a : (ℕ × Code) × Appeal). is_granted a.1.status && is_marked (relations_of c.args.facts.now) a.0)
          c.args.facts.now.appeals.entries),
    )
