-- The tallies of the hall rise where the newcomer's halls are, so exactly these halls are added to its set, and the
-- hall to the sets that go inward.
use Rattle.exam_plan.proofs.Words.{get_or_default, Tally, holds, one_if, tally_of, no_digits, tally_at}
use Rattle.std.proofs.Common.{◌≡◌, ◌+◌, ◌<◌, ◌≤◌, ◌||◌, ◌&&◌, not, true, ℕ, length, get_or, refl, sym, ap, subst, ◌∙◌}
use Rattle.std.proofs.Common.{arith}
use Rattle.exam_plan.specs.Tallies.{IsWhole}
use Rattle.exam_plan.proofs.Steps.{beyond}
use Rattle.exam_plan.proofs.Tables.{entered, union_counted, changes_in}
use Rattle.exam_plan.proofs.onward.Onward.enter.Goals as goal

pub count-requires : goal.count-requires
count-requires c =
    let same = c.index_mut.ensures.value
    ∙ get_or_default c.args.self.now.tallies.items c.args.hall c.index_mut.result.now no_digits
    (omega (arith, c.requires.hall, c.requires.shaped.tallies)) in
    record {
      whole = subst IsWhole (sym same) (c.requires.shaped.digits c.args.hall c.requires.hall);
      room = λ h. (
          let is : tally_of c.index_mut.result.now h ≡ tally_at c.args.self.now.tallies.items c.args.hall h =
          ap (λ (t : Tally). tally_of t h) same in
          let few : length c.args.problem.now.fit ≤ 4096 = c.fitting-fitting.ensures.problem.few in
          let le = c.requires.room h in
          omega (arith, is, le, few));
    }

pub returns : goal.returns
returns c =
    let shaped = c.requires.shaped in
    let in_tallies : c.args.hall < length c.args.self.now.tallies.items =
    omega (arith, c.requires.hall, shaped.tallies) in
    let in_sets : c.args.hall < length c.args.self.now.sets.items = omega (arith, c.requires.hall, shaped.sets) in
    let in_firsts : c.args.hall < length c.args.self.now.firsts.items = omega (arith, c.requires.hall, shaped.firsts) in
    let more : (k : ℕ) → tally_of c.count.new.self k
    ≡ tally_at c.args.self.now.tallies.items c.args.hall k + one_if (holds c.fitting-fitting.result k) =
    λ k. c.count.ensures.more k ∙ ap (λ (t : Tally). tally_of t k + one_if (holds c.fitting-fitting.result k))
    (c.index_mut.ensures.value
    ∙ get_or_default c.args.self.now.tallies.items c.args.hall c.index_mut.result.now no_digits in_tallies) in
    let read : c.index-before.result.now ≡ get_or c.args.self.now.sets.items c.args.hall 0 =
    c.index-before.ensures
    ∙ get_or_default c.args.self.now.sets.items c.args.hall c.index-before.result.now 0 in_sets in
    let first : c.index.result.now ≡ get_or c.args.self.now.firsts.items c.args.hall 0 =
    c.index.ensures ∙ get_or_default c.args.self.now.firsts.items c.args.hall c.index.result.now 0 in_firsts in
    let union : (k : ℕ) → holds c.union.result k
    ≡ holds (get_or c.args.self.now.sets.items c.args.hall 0) k || holds c.fitting-fitting.result k =
    λ k. c.union.ensures k ∙ ap (λ s. holds s k || holds c.fitting-fitting.result k) read in
    let gained : (k : ℕ)
    → holds c.minus.result k ≡ holds c.fitting-fitting.result k
    && not (holds (get_or c.args.self.now.sets.items c.args.hall 0) k) =
    λ k. c.minus.ensures k ∙ ap (λ s. holds c.fitting-fitting.result k && not (holds s k)) read in
    entered c.args.problem.now c.args.self.now _ c.args.hall c.count.new.self c.union.result shaped c.requires.hall
    refl refl c.count.ensures.whole
    (union_counted (get_or c.args.self.now.sets.items c.args.hall 0) c.fitting-fitting.result c.union.result
    (tally_at c.args.self.now.tallies.items c.args.hall) (tally_of c.count.new.self)
    (λ k. shaped.counted c.args.hall k c.requires.hall) union more)
    c.minus.result true c.put_each.ensures.long c.put_each.ensures.put
    (λ k l. changes_in (get_or c.args.self.now.sets.items c.args.hall 0) c.fitting-fitting.result c.minus.result
    c.union.result gained union k)
    c.args.candidate c.min.result
    (λ k. more k ∙ ap (λ b. tally_at c.args.self.now.tallies.items c.args.hall k + one_if b)
    (c.fitting-fitting.ensures.fits k))
    refl (omega (arith, c.min.ensures, first)) (omega (arith, c.min.ensures)) refl

pub put_each-requires : goal.put_each-requires
put_each-requires c = record {
  hall = omega (arith, c.requires.hall, c.fitting-fitting.ensures.few);
  exist = λ k t. (let parts =
      beyond c.fitting-fitting.result c.index-before.result.now c.minus.result k (c.minus.ensures k) t in let below =
      c.fitting-fitting.ensures.exist k parts.0 in omega (arith, below, c.requires.shaped.inward));
}
