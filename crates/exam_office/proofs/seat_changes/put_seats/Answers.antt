use Rattle.std.proofs.Common.{◌≡◌, ℕ, true, List, ◌∷◌, ap, subst, ◌∙◌}
use Rattle.exam_rules.specs.Relations.{Code, has_row, row_at, seat_cmp}
use Rattle.exam_commands.proofs.KeyedRows.{has_put, seats_exact, seats_total}
use Rattle.exam_commands.specs.Exchanges.{all_put}
use Rattle.exam_changes.proofs.Exchanges.{others_put, has_first, has_later}
use Rattle.exam_office.proofs.seat_changes.put_seats.Goals as goal

pub loop-key-preserved : goal.loop-key-preserved
loop-key-preserved c =
    let new = c.args.new.now.entries in
    let seat : (Code × ℕ) × Code = (c.in-Some.key.now, c.in-Some.hall.now) in
    let rest = c.next.new.self in
    let among : (k : Code × ℕ) → has_row seat_cmp (seat ∷ rest) k ≡ true → has_row seat_cmp new k ≡ true =
    λ k. subst (λ (es : List ((Code × ℕ) × Code)). has_row seat_cmp es k ≡ true → has_row seat_cmp new k ≡ true)
    c.in-Some.ensures.steps (c.loop-key.invariant.among k) in
    let here = among seat.0 (has_first seat_cmp seats_total seats_exact seat rest) in
    record {
      so_far =
          ap (λ (held : List ((Code × ℕ) × Code)). all_put seat_cmp held rest) c.in_ok-insert.ensures.entries
          ∙ subst (λ (es : List ((Code × ℕ) × Code)). all_put seat_cmp c.loop-key.seats.entries es
          ≡ all_put seat_cmp c.args.seats.now.entries new) c.in-Some.ensures.steps c.loop-key.invariant.so_far;
      among = λ k has. among k (has_later seat_cmp seats_total seats_exact seat rest k has);
      others = λ k away. ap
          (λ (held : List ((Code × ℕ) × Code)). row_at seat_cmp held k) c.in_ok-insert.ensures.entries
          ∙ others_put seat_cmp seats_total seats_exact new c.loop-key.seats.entries seat k here away
          ∙ c.loop-key.invariant.others k away;
      stays = λ k has. ap (λ (held : List ((Code × ℕ) × Code)). has_row seat_cmp held k) c.in_ok-insert.ensures.entries
          ∙ has_put seat_cmp seats_total c.loop-key.seats.entries seat.0 k seat.1 (c.loop-key.invariant.stays k has);
      rises = c.insert.ensures.ordered;
    }
