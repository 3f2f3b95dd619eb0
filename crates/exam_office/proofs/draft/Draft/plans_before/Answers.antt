use Rattle.std.proofs.Common.{Option, sym, subst}
use Rattle.exam_office.specs.Drafts.{AreMixed, DraftIn, MixesPlans, seats_after, seats_before}
use Rattle.exam_commands.specs.NextPlans.{Plans}
use Rattle.exam_commands.specs.State.{Seats}
use Rattle.exam_changes.specs.TablesBefore.{AreOf}
use Rattle.exam_office.proofs.WasBefore.{were_of}
use Rattle.exam_office.proofs.draft.Draft.plans_before.Goals as goal

pub returns-in-Some : goal.returns-in-Some
returns-in-Some c =
    let old : Seats = c.in-Some.old.entries in
    let new : Seats = c.self.inside.part.plans.entries in
    let seats : Seats = c.self.inside.seats.entries in
    let mixed : MixesPlans old new seats =
    subst (λ (o : Option Plans). AreMixed o new seats) c.in-Some.is c.self.invariant.mixed in
    subst (λ (d : DraftIn). AreOf old new d.before.seats d.after.seats) c.self.view_is
    (subst (λ (o : Option Plans). AreOf old new (seats_before o new seats) (seats_after o new seats))
    (sym c.in-Some.is) (were_of old new seats mixed c.len.ensures.ordered))
