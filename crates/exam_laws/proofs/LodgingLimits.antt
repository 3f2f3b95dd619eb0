-- After a lodging the limits hold exactly if the candidate has not too many appeals.
use Rattle.exam_laws.proofs.Words.{list_all, keys_of, nat_cmp, fun_ext, and_parts, not-false, exact_unsigned_eq, Appeal}
use Rattle.exam_laws.proofs.Words.{Relations, has_row, appeal_count, Lodging, appeal_at, most_appeals, appeals_within}
use Rattle.exam_laws.proofs.Words.{candidates_within, halls_within, members_within, openings_within, papers_within}
use Rattle.exam_laws.proofs.Words.{sessions_within, within_limits, Seats, passed}
use Rattle.std.proofs.Common.{◌≡◌, ℕ, ◌&&◌, not, Bool, true, false, cond, Option, None, Some, refl, ap, sym, ◌∙◌}
use Rattle.std.specs.Prelude.{nat_eq, nat_le, is_none}
use Rattle.exam_types.specs.declared.refusal.Refusal.TheVariants as refusal
use Rattle.exam_commands.specs.Lodgings as lodgings
use Rattle.exam_laws.proofs.OwnFacts.{all_but_one}
use Rattle.exam_laws.proofs.OwnLodging.{own_more, within_told}

module _ (r : Relations) (within : within_limits r ≡ true) where
  own_appeals : appeals_within r ≡ true
  own_appeals =
      let last = members_within r && appeals_within r in
      let from_openings = openings_within r && (candidates_within r && last) in
      let papers = (and_parts (sessions_within r) (papers_within r && (halls_within r && from_openings)) within).1 in
      let halls = (and_parts (papers_within r) (halls_within r && from_openings) papers).1 in
      let openings = (and_parts (halls_within r) from_openings halls).1 in
      let candidates = (and_parts (openings_within r) (candidates_within r && last) openings).1 in
      let members = (and_parts (candidates_within r) last candidates).1 in
      (and_parts (members_within r) (appeals_within r) members).1

  -- a candidate has not too many
  few_appeals : (c : ℕ) → has_row nat_cmp r.candidates c ≡ true → nat_le (appeal_count r c) most_appeals ≡ true
  few_appeals c known =
      let p : ℕ → Bool = λ d. nat_le (appeal_count r d) most_appeals in
      sym (ap (λ b. cond b (p c) true) known)
      ∙ sym (all_but_one p (p c) c r.candidates own_appeals)
      ∙ ap (λ (q : ℕ → Bool). list_all q (keys_of r.candidates)) (fun_ext (λ d. at p d (nat_eq d c) refl))
      ∙ own_appeals
    where
      at : (p : ℕ → Bool) (d : ℕ) (b : Bool) → nat_eq d c ≡ b → cond b (p c) (p d) ≡ p d
      at p d true same = ap p (sym (exact_unsigned_eq d c same))
      at p d false other = refl

  module _ (seats : Seats) (today : ℕ) (l : Lodging)
      (ok : lodgings.lodging_refusal_but_limits r seats today l ≡ None) where
    known : has_row nat_cmp r.candidates l.number ≡ true
    known = not-false (has_row nat_cmp r.candidates l.number)
        (passed (not (has_row nat_cmp r.candidates l.number)) refusal.UnknownCandidate
        (lodgings.lodging_checks r seats today l (appeal_at r l.number l.reference)) ok).0

    pub lodging_within : within_limits (lodgings.with_lodging r today l)
        ≡ nat_le (appeal_count (lodgings.with_lodging r today l) l.number) most_appeals
    lodging_within = inner (appeal_at r l.number l.reference) refl
      where
        facts : Option Appeal → Relations
        facts o = cond (is_none o) (lodgings.with_appeal r today l) r

        by : (o : Option Appeal) → appeal_at r l.number l.reference ≡ o
            → within_limits (facts o) ≡ nat_le (appeal_count (facts o) l.number) most_appeals
        by None none = within_told r today l none within known
            ∙ ap (λ n. nat_le n most_appeals) (sym (own_more r today l none))
        by (Some a) at = within ∙ sym (few_appeals l.number known)

        inner : (o : Option Appeal) → appeal_at r l.number l.reference ≡ o
            → within_limits (facts (appeal_at r l.number l.reference))
            ≡ nat_le (appeal_count (facts (appeal_at r l.number l.reference)) l.number) most_appeals
        inner o is = ap (λ x. within_limits (facts x)) is ∙ by o is
            ∙ ap (λ x. nat_le (appeal_count (facts x) l.number) most_appeals) (sym is)
