-- The counts are those of the rows walked so far, each row once: a repeated one is not its key's first. None passes
-- the number of rows. A row that refers to what does not exist decides, since those before it do not.
use Rattle.std.proofs.Common.{◌≡◌, ◌∙◌, ◌+◌, ◌<◌, ◌≤◌, cond, drop, is_none, not, false, length, Option, Some, refl, ap}
use Rattle.std.proofs.Common.{sym, arith, rules}
use Rattle.std.proofs.Math.ListN.{drop_of_length-le}
use Rattle.std.specs.Option.{option_map_or, option_or}
use Rattle.exam_types.specs.declared.refusal.Refusal.{Refusal}
use Rattle.exam_rules.specs.Relations.{relations_of}
use Rattle.exam_commands.specs.Changes.{rows_refusal}
use Rattle.exam_changes.proofs.Counting.{counted_all, counted_fresh, counted_none, counted_repeated, first_here}
use Rattle.exam_changes.proofs.Counting.{refusal_here}
use Rattle.exam_changes.proofs.importing.count_rows.Goals as goal
use Rattle.exam_changes.proofs.importing.count_rows.Goals.{then-is_first, else-is_first}

pub loop-place-init : goal.loop-place-init
loop-place-init c = (counted_none (relations_of c.args.facts.now) c.args.import.now.rows, refl)

pub counted-counts-requires : goal.counted-counts-requires
counted-counts-requires c =
    let few = c.loop-place.invariant.0.few in
    let here = c.loop-place-test.true in
    let limit = c.rows-row-items.ensures.few in
    omega arith

pub loop-place-preserved : goal.loop-place-preserved
loop-place-preserved c =
    let r = relations_of c.args.facts.now in
    let rows = c.args.import.now.rows in
    let place = c.loop-place.place in
    let row = c.row-item.result in
    let all = c.rows-row-items.ensures.value in
    let here : place < length rows = rw (← all) c.loop-place-test.true in
    let is = rw all at c.row-item.is in
    let first = first_here place rows row here is in (
      elim c.if-is_first.branch [
        | then-is_first w ↦
            let fresh = sym first ∙ sym c.is_first.ensures ∙ w.if-is_first.true in
            rw w.counts-is
            (counted_fresh r rows place c.loop-place.counts row here is w.counted-counts.result fresh
            (w.counted-counts.ensures.added
            ∙ ap (λ o. c.loop-place.counts.added + cond (is_none o) 1 0) w.is_stored.ensures)
            (w.counted-counts.ensures.changed
            ∙ ap (λ o. c.loop-place.counts.changed + cond (option_map_or not o false) 1 0) w.is_stored.ensures)
            (w.counted-counts.ensures.same
            ∙ ap (λ o. c.loop-place.counts.same + cond (option_map_or (λ same. same) o false) 1 0)
            w.is_stored.ensures) c.loop-place.invariant.0)
        | else-is_first w ↦
            let repeated = sym first ∙ sym c.is_first.ensures ∙ w.if-is_first.false in
            rw w.counts-is
            (counted_repeated r rows place c.loop-place.counts row here is repeated c.loop-place.invariant.0)
      ],
      ap (λ (o : Option Refusal). option_or o (rows_refusal r (drop (place + 1) rows))) c.in_ok-check_row.ensures
          ∙ sym (refusal_here place rows row here is r) ∙ c.loop-place.invariant.1,
    )

pub returns-in_err-check_row-clause-checked : goal.returns-in_err-check_row-clause-checked
returns-in_err-check_row-clause-checked c =
    let r = relations_of c.args.facts.now in
    let rows = c.args.import.now.rows in
    let place = c.loop-place.place in
    let row = c.row-item.result in
    let all = c.rows-row-items.ensures.value in
    let here : place < length rows = rw (← all) c.loop-place-test.true in
    let is = rw all at c.row-item.is in
    let decides : Some c.in_err-check_row.field-0.0 ≡ rows_refusal r rows =
    ap (λ (o : Option Refusal). option_or o (rows_refusal r (drop (place + 1) rows))) c.in_err-check_row.ensures
    ∙ sym (refusal_here place rows row here is r) ∙ c.loop-place.invariant.1 in
    rw (← decides) (search rules)

pub returns-clause-checked : goal.returns-clause-checked
returns-clause-checked c =
    let r = relations_of c.args.facts.now in
    let rows = c.args.import.now.rows in
    let end : length rows ≤ c.loop-place.place = rw (← c.rows-row-items.ensures.value) c.loop-place-test.false in
    ap (rows_refusal r) (sym (drop_of_length-le rows end)) ∙ c.loop-place.invariant.1

pub returns-clause-counts : goal.returns-clause-counts
returns-clause-counts c =
    let end : length c.args.import.now.rows ≤ c.loop-place.place =
    rw (← c.rows-row-items.ensures.value) c.loop-place-test.false in
    counted_all (relations_of c.args.facts.now) c.args.import.now.rows c.loop-place.place c.loop-place.counts end
    c.loop-place.invariant.0
