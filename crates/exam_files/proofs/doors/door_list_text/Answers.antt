use Rattle.std.proofs.Common.{◌≡◌, ◌∙◌, ◌+◌, ◌-◌, ◌<◌, ◌++◌, List, ℕ, ap, sym, arith, append_assoc}
use Rattle.std.specs.List.{flat_map, range_with_len}
use Rattle.exam_files.specs.Doors.{line_at}
use Rattle.exam_files.proofs.Appending.{more_numbers}
use Rattle.exam_files.proofs.doors.door_list_text.Goals as goal

pub loop-desk-preserved : goal.loop-desk-preserved
loop-desk-preserved c =
    let f : ℕ → List ℕ = λ desk. flat_map (line_at c.args.hall.now desk) c.args.seats.now in
    let i = c.loop-desk.desk in
    let n = c.args.opening.now.desks in
    let t = c.loop-desk.text.items in
    let below : c.loop-desk.desk < c.args.opening.now.desks = omega arith in
    let next : c.loop-desk.desk + 1 ≡ 1 + c.loop-desk.desk = omega arith in
    let pushed : c.push_desk.new.text.items ≡ t ++ f (1 + c.loop-desk.desk) =
    c.in_ok-push_desk.ensures.ok ∙ ap (λ k. t ++ f k) next in
    let rest = flat_map f (range_with_len (1 + (i + 1)) (n - (i + 1))) in
    ap (λ x. x ++ rest) pushed ∙ append_assoc t (f (1 + i)) rest ∙ ap (λ x. t ++ x) (sym (more_numbers f 1 i n below))
    ∙ c.loop-desk.invariant
