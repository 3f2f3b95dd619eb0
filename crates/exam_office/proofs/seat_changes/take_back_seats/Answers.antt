use Rattle.std.proofs.Common.{◌≡◌, ℕ, List, ap, subst, ◌∙◌}
use Rattle.exam_rules.specs.Relations.{Code, has_row, row_at, seat_cmp}
use Rattle.exam_commands.proofs.KeyedRows.{seats_exact, seats_total}
use Rattle.exam_commands.specs.Exchanges.{set_row, taken_back}
use Rattle.exam_changes.proofs.Exchanges.{set_keeps}
use Rattle.exam_office.proofs.seat_changes.take_back_seats.Goals as goal

pub loop-key-preserved : goal.loop-key-preserved
loop-key-preserved c =
    let old = c.args.old.now.entries in
    let rows = c.loop-key.seats.entries in
    let key : Code × ℕ = c.in-Some.key.now in
    let rest = c.next.new.self in
    let set : c.set.new.rows.entries ≡ set_row seat_cmp rows key (row_at seat_cmp old key) =
    c.set.ensures.set ∙ ap (set_row seat_cmp rows key) (c.copied.ensures ∙ c.get.ensures.value) in
    record {
      so_far =
          ap (λ (held : List ((Code × ℕ) × Code)). taken_back seat_cmp held old rest) set
          ∙ subst (λ (es : List ((Code × ℕ) × Code)). taken_back seat_cmp rows old es
          ≡ taken_back seat_cmp c.args.seats.now.entries old c.args.new.now.entries) c.in-Some.ensures.steps
          c.loop-key.invariant.so_far;
      there = λ k was. ap (λ (held : List ((Code × ℕ) × Code)). has_row seat_cmp held k) set
          ∙ set_keeps seat_cmp seats_total seats_exact old rows key k c.loop-key.invariant.rises was
          (c.loop-key.invariant.there k was);
      rises = c.set.ensures.rises;
    }
