-- The lists are those of the candidates walked so far. Numbers rise in the table, so each list is in order.
use Rattle.exam_rules.proofs.Words.{nat_cmp, IsStrictlySortedBy, keys_of, IsStrictlySortedBy-filter, relations_of}
use Rattle.exam_rules.proofs.Words.{has_live_entry, least_live_paper, listed}
use Rattle.std.proofs.Common.{◌≡◌, ◌++◌, ◌∷◌, [], List, ℕ, ap, sym, subst, ◌∙◌, append_assoc}
use Rattle.std.specs.Map.Iter.{deref_pair}
use Rattle.std.proofs.lemmas.Map.Iter.{rest_more}
use Rattle.exam_rules.proofs.Listed.{members_more}
use Rattle.exam_rules.proofs.listing.members_by_session.Goals as goal

pub loop-number-preserved : goal.loop-number-preserved
loop-number-preserved c =
    let done : List ℕ = c.loop-number.invariant.0 in
    let n : ℕ = c.in-Some.number.now in
    let rest = c.next.new.self in
    let turn : c.loop-number.number-iterator ≡ (n, c.in-Some.field-0-1.now) ∷ rest =
    rest_more deref_pair _ _ _ _ c.in-Some.is c.next.ensures.steps in
    let split : done ++ n ∷ keys_of rest ≡ keys_of c.args.facts.now.candidates.entries =
    ap (λ es. done ++ keys_of es) (sym turn) ∙ c.loop-number.invariant.1 in
    let up : IsStrictlySortedBy nat_cmp (done ++ n ∷ keys_of rest) =
    subst (IsStrictlySortedBy nat_cmp) (sym split) c.into_iter-number-iterator.ensures.into_iter_gives.5 in (
      done ++ n ∷ [],
      append_assoc done (n ∷ []) (keys_of rest) ∙ split,
      λ s. members_more (least_live_paper (relations_of c.args.facts.now) s) done (keys_of rest)
          (listed c.loop-number.members.entries s) (listed c.append_member.new.members.entries s) n up
          (c.loop-number.invariant.2 s) (c.in_ok-append_member.ensures.ok s),
    )

pub returns-clause-rising : goal.returns-clause-rising
returns-clause-rising c =
    λ s. IsStrictlySortedBy-filter nat_cmp (has_live_entry (relations_of c.args.facts.now) s)
    (keys_of c.args.facts.now.candidates.entries) c.into_iter-number-iterator.ensures.into_iter_gives.5
