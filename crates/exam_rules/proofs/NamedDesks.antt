-- Desk numbers by numbers and codes: everybody who sits in a hall has a desk of their own in it.
use Rattle.exam_rules.proofs.Words.{option_and_then, length-map, Plan, most_members, Code, Relations, members}
use Rattle.exam_rules.proofs.Words.{problem_of, desks, fits, open_halls, fitting_places, comes_before, naming}
use Rattle.exam_rules.proofs.Words.{ListsRise, number_at, index_of, hall_index, named_plan}
use Rattle.std.proofs.Common.{◌≡◌, ℕ, ◌<◌, ◌≤◌, IsTrue, length, Some, is_some, sym, ap, subst, ◌∙◌}
use Rattle.std.proofs.Math.Path.{fun_ext}
use Rattle.exam_plan.specs.Matching.{IsLawful, desk_number}
use Rattle.exam_plan.specs.Problems.{ranks_before}
use Rattle.exam_plan.proofs.NumberLaws.{number_fits, numbers_differ}
use Rattle.exam_plan.proofs.Renaming.{IsLawful-indexed}
use Rattle.exam_rules.specs.Seatings.{indexed_seating, seating}
use Rattle.exam_rules.specs.Names.{indexed_plan}
use Rattle.exam_rules.proofs.Naming.{renames, index_below, order_same}
use Rattle.exam_rules.proofs.Following.{follows}
use Rattle.exam_plan.proofs.Carrying.{member_index, desk_number-named}
use Rattle.exam_plan.proofs.KeptNames.{name_of_index, seat_index}
use Rattle.exam_plan.proofs.Small.{some_value, value_at}
use Rattle.exam_rules.proofs.Ranking.{is_problem}

module _ (r : Relations) (s : Code) (up : ListsRise r s) (q : Plan ℕ Code) (lawful : IsLawful (seating r s) q) where
  lawful_indexed : IsLawful (indexed_seating r s) (indexed_plan r s q)
  lawful_indexed = IsLawful-indexed (naming r s) (renames r s up) q lawful

  back : named_plan r s (indexed_plan r s q) ≡ q
  back = fun_ext (name_of_index (naming r s) (renames r s up) (follows r s up) q lawful)

  -- the indices of one who sits, and of their hall
  record Place (c : ℕ) (h : Code) : Type 0 where
    index : ℕ
    hall : ℕ
    is : index_of r s c ≡ Some index
    hall_is : hall_index r s h ≡ Some hall
    sits : indexed_plan r s q index ≡ Some hall

  place : (c : ℕ) (h : Code) → q c ≡ Some h → Place c h
  place c h e =
      let member = member_index (naming r s) (renames r s up) c (lawful.members c (ap is_some e)) in
      let fit : IsTrue (fits r s c h) = value_at (λ k. IsTrue (fits r s c k)) (q c) h e (lawful.fitting c) in
      let hall = some_value (hall_index r s h) ((renames r s up).known_fit c h fit) in
      record {
        index = member.0;
        hall = hall.0;
        is = member.1;
        hall_is = hall.1;
        sits = seat_index (naming r s) (renames r s up) (follows r s up) q c member.0 member.1
            ∙ ap (option_and_then (hall_index r s)) e ∙ hall.1;
      }

  number_is : (c : ℕ) (h : Code) (p : Place c h)
      → desk_number (seating r s) (comes_before r s) q c
      ≡ desk_number (indexed_seating r s) (ranks_before (problem_of r s)) (indexed_plan r s q) p.index
  number_is c h p =
      ap (λ (plan : Plan ℕ Code). desk_number (seating r s) (comes_before r s) plan c) (sym back)
      ∙ desk_number-named (naming r s) (renames r s up) (comes_before r s) (ranks_before (problem_of r s))
      (order_same r s) (indexed_plan r s q) lawful_indexed c p.index p.is

  -- the number is one of the hall's desks
  pub desk_within : (c n : ℕ) (h : Code) → q c ≡ Some h → desk_number (seating r s) (comes_before r s) q c ≡ Some n
      → n ≤ desks r s h
  desk_within c n h e number =
      let p = place c h e in
      subst (λ k. n ≤ k) (sym ((renames r s up).desks h p.hall p.hall_is))
      (number_fits (problem_of r s) (indexed_plan r s q) p.hall lawful_indexed p.index n p.sits
      (sym (number_is c h p) ∙ number))

  below : (c : ℕ) (h : Code) (p : Place c h) → p.index < length (problem_of r s).fit
  below c h p = rw (length-map (members r s) (λ d. fitting_places r s d (open_halls r s)))
      (index_below r s c p.index p.is)

  -- and nobody else of the hall has it
  pub desk_apart : length (members r s) ≤ most_members → (c d : ℕ) (h : Code) → q c ≡ Some h → q d ≡ Some h
      → desk_number (seating r s) (comes_before r s) q c ≡ desk_number (seating r s) (comes_before r s) q d → c ≡ d
  desk_apart few c d h ec ed same =
      let pc = place c h ec in
      let pd = place d h ed in
      let one : Some pc.hall ≡ Some pd.hall = sym pc.hall_is ∙ pd.hall_is in
      let hall : pc.hall ≡ pd.hall = cc in
      let index : pc.index ≡ pd.index =
      numbers_differ (problem_of r s) (indexed_plan r s q) pc.hall
      (is_problem r s up.numbers few) pc.index pd.index (below c h pc) (below d h pd) pc.sits
      (pd.sits ∙ sym one) (sym (number_is c h pc) ∙ same ∙ number_is d h pd) in
      sym ((renames r s up).named c pc.index pc.is).0 ∙ ap (number_at r s) index
      ∙ ((renames r s up).named d pd.index pd.is).0
