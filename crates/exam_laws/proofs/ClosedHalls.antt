-- What the closing of a hall changes: no member and no reference, and it passes no limit.
use Rattle.exam_laws.proofs.Words.{keys_of, is_at, and_parts, length-map, Opening, Code, Relations, same_code}
use Rattle.exam_laws.proofs.Words.{opening_cmp, without_opening, within_limits, sessions_within, papers_within}
use Rattle.exam_laws.proofs.Words.{halls_within, openings_within, candidates_within, members_within, appeals_within}
use Rattle.std.proofs.Common.{◌≡◌, ◌≤◌, ◌&&◌, Bool, true, false, cond, List, [], ◌∷◌, filter, length, nat_le, ap, sym}
use Rattle.std.proofs.Common.{◌∙◌, arith}
use Rattle.std.specs.Map.{remove_entry}
use Rattle.std.proofs.lemmas.Bool.{le-leb, leb-true}
use Rattle.exam_plan.specs.HallSets.{most_halls}
use Rattle.exam_rules.specs.Relations.{remove_row}
use Rattle.exam_rules.specs.Seatings.{open_halls}
use Rattle.exam_commands.proofs.Referring.{all_more}

-- ---- a row that is removed

module _ {K X : Type 0} (test : K → Bool) (p : K × X → Bool) where
  removed_fewer : (rows : List (K × X)) → length (filter p (remove_entry test rows)) ≤ length (filter p rows)
  removed_fewer [] = omega arith
  removed_fewer (e ∷ es) = inner (test e.0) (removed_fewer es)
    where
      one_less : (b : Bool) → length (filter p es) ≤ length (cond b (e ∷ filter p es) (filter p es))
      one_less b = grind arith

      both : (b : Bool) → length (filter p (remove_entry test es)) ≤ length (filter p es)
          → length (cond b (e ∷ filter p (remove_entry test es)) (filter p (remove_entry test es))) ≤ length
          (cond b (e ∷ filter p es) (filter p es))
      both b rest = grind arith

      inner : (b : Bool) → length (filter p (remove_entry test es)) ≤ length (filter p es)
          → length (filter p (cond b es (e ∷ remove_entry test es))) ≤ length (filter p (e ∷ es))
      inner true rest = one_less (p e)
      inner false rest = both (p e) rest

module _ (r : Relations) (s : Code) (h : Code) where
  halls_fewer : (t : Code) → length (open_halls (without_opening r s h) t) ≤ length (open_halls r t)
  halls_fewer t =
      let of_session = λ (o : (Code × Code) × Opening). same_code o.0.0 t in
      let code = λ (o : (Code × Code) × Opening). o.0.1 in
      let less = removed_fewer (is_at (opening_cmp (s, h))) of_session r.openings in
      let new = length-map (filter of_session (remove_row opening_cmp r.openings (s, h))) code in
      let old = length-map (filter of_session r.openings) code in
      omega (arith, less, new, old)

  openings_still_within : openings_within r ≡ true → openings_within (without_opening r s h) ≡ true
  openings_still_within within =
      all_more (λ t. nat_le (length (open_halls r t)) most_halls)
      (λ t. nat_le (length (open_halls (without_opening r s h) t)) most_halls) (keys_of r.sessions)
      (λ t most. let few = leb-true (length (open_halls r t)) most_halls most in let fewer =
      halls_fewer t in le-leb (length (open_halls (without_opening r s h) t)) most_halls
      (omega (arith, few, fewer)))
      within

  -- it passes no limit
  pub closing_within : within_limits r ≡ true → within_limits (without_opening r s h) ≡ true
  closing_within within =
      let from_openings = openings_within r && (candidates_within r && (members_within r && appeals_within r)) in
      let past_papers = (and_parts (papers_within r) (halls_within r && from_openings)
      (and_parts (sessions_within r) (papers_within r && (halls_within r && from_openings)) within).1).1 in
      let few : openings_within r ≡ true =
      (and_parts (openings_within r) (candidates_within r && (members_within r && appeals_within r))
      (and_parts (halls_within r) from_openings past_papers).1).0 in
      ap (λ b. sessions_within r
      && (papers_within r &&
      (halls_within r && (b && (candidates_within r && (members_within r && appeals_within r))))))
      (openings_still_within few ∙ sym few) ∙ within
