-- The tallies of the hall fall where the leaver's halls are. A hall whose tally falls to nothing leaves the set, and
-- only such ones are taken out of the sets that go inward.
use Rattle.exam_plan.proofs.Words.{get_or-set_same, get_or_default, Tally, holds, one_if, tally_of, seating_of}
use Rattle.exam_plan.proofs.Words.{IsMarked, no_digits, tally_at}
use Rattle.std.proofs.Common.{◌≡◌, ◌+◌, ◌<◌, ◌↔◌, false, ℕ, length, get_or, refl, sym, ap, ◌∙◌, arith}
use Rattle.exam_plan.proofs.Steps.{beyond}
use Rattle.exam_plan.proofs.Tables.{left_out, changes_out}
use Rattle.exam_plan.proofs.onward.Onward.leave.Goals as goal

pub returns : goal.returns
returns c =
    let shaped = c.requires.shaped in
    let in_tallies : c.args.hall < length c.args.self.now.tallies.items =
    omega (arith, c.requires.hall, shaped.tallies) in
    let less : (k : ℕ) → tally_of c.discount.new.self k + one_if
    ((seating_of c.args.problem.now).fits c.args.candidate k)
    ≡ tally_at c.args.self.now.tallies.items c.args.hall k =
    λ k. ap (λ b. tally_of c.discount.new.self k + one_if b) (sym (c.fitting-fitting.ensures.fits k))
    ∙ c.discount.ensures.less k ∙ ap (λ (t : Tally). tally_of t k)
    (c.index_mut.ensures.value
    ∙ get_or_default c.args.self.now.tallies.items c.args.hall c.index_mut.result.now no_digits in_tallies) in
    let again : c.index.result.now ≡ c.discount.new.self =
    c.index.ensures ∙ get_or-set_same c.args.self.now.tallies.items c.args.hall c.discount.new.self
    c.index.result.now in_tallies in
    let counted : (k : ℕ) → IsMarked (holds c.counted-left.result) k ↔ 0 < tally_of c.discount.new.self k =
    rw again at c.counted-left.ensures in
    let lost : (k : ℕ) → tally_of c.discount.new.self k + one_if (holds c.fitting-fitting.result k)
    ≡ tally_at c.args.self.now.tallies.items c.args.hall k =
    λ k. c.discount.ensures.less k
    ∙ ap (λ (t : Tally). tally_of t k)
    (c.index_mut.ensures.value
    ∙ get_or_default c.args.self.now.tallies.items c.args.hall c.index_mut.result.now no_digits in_tallies) in
    left_out c.args.problem.now c.args.self.now _ c.args.hall c.discount.new.self c.counted-left.result shaped
    c.requires.hall refl refl c.discount.ensures.whole counted
    c.minus.result false c.put_each.ensures.long c.put_each.ensures.put
    (λ k l. changes_out (get_or c.args.self.now.sets.items c.args.hall 0) c.fitting-fitting.result c.minus.result
    c.counted-left.result (tally_at c.args.self.now.tallies.items c.args.hall)
    (tally_of c.discount.new.self) c.minus.ensures
    (λ j. shaped.counted c.args.hall j c.requires.hall) counted lost k)
    c.args.candidate less refl refl

pub put_each-requires : goal.put_each-requires
put_each-requires c = record {
  hall = omega (arith, c.requires.hall, c.fitting-fitting.ensures.few);
  exist = λ k t. (let parts =
      beyond c.fitting-fitting.result c.counted-left.result c.minus.result k (c.minus.ensures k) t in let below =
      c.fitting-fitting.ensures.exist k parts.0 in omega (arith, below, c.requires.shaped.inward));
}
