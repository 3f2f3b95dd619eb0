use Rattle.std.proofs.Common.{subst}
use Rattle.std.specs.Cmp.Lexicographic.{pointwise}
use Rattle.std.specs.Prelude.{nat_eq}
use Rattle.exam_tables.proofs.Exact.{seats_exact}
use Rattle.exam_rules.specs.Relations.{seat_cmp}
use Rattle.exam_changes.specs.TablesBefore.{WerePlans}
use Rattle.exam_store.specs.Saves.{TurnsTable}
use Rattle.exam_store.proofs.PlansTurning.{seats_turn}
use Rattle.exam_store.proofs.saving.seats_since.Goals as goal

pub returns-in-Same : goal.returns-in-Same
returns-in-Same c old new old_up new_up were =
    let same = subst (λ b. WerePlans b old new) c.in-Same.is were in
    subst (λ rows. TurnsTable seat_cmp old rows c.no_difference.result) same (c.no_difference.ensures old)

pub returns-in-Plans : goal.returns-in-Plans
returns-in-Plans c old new old_up new_up were =
    let are = subst (λ b. WerePlans b old new) c.in-Plans.is were in
    seats_turn (pointwise nat_eq) c.in-Plans.old.now.entries c.in-Plans.new.now.entries old new old_up new_up are
    c.difference_of.result
    c.difference_of.ensures.differs (c.difference_of.ensures.turns seats_exact) c.difference_of.ensures.rise
