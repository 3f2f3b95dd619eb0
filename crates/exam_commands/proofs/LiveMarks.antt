-- What another live mark of an entry changes: nothing of other candidates, and a withdrawal makes no new member.
use Rattle.std.proofs.Common.{◌≡◌, ℕ, ◌≤◌, ◌&&◌, not, Bool, true, false, map, length, nat_eq, nat_le, Option, is_some}
use Rattle.std.proofs.Common.{refl, ap, sym, ◌∙◌, arith}
use Rattle.std.specs.List.{list_any}
use Rattle.std.specs.Map.{keys_of}
use Rattle.std.specs.Option.{option_map, option_map_or, option_and_then, option_or}
use Rattle.std.specs.BTreeMap.{is_at}
use Rattle.std.specs.Cmp.{Equal-is}
use Rattle.std.proofs.Math.Path.{fun_ext}
use Rattle.std.proofs.lemmas.Bool.{and_right, eq-eqb, le-leb, leb-true}
use Rattle.exam_plan.specs.Problems.{most_members}
use Rattle.exam_rules.specs.declared.rows.Entry.{Entry}
use Rattle.exam_rules.specs.declared.rows.Session.{Session}
use Rattle.exam_rules.specs.declared.rows.Paper.{Paper}
use Rattle.exam_rules.specs.Relations.{Code, Relations, code_cmp, same_code, entry_cmp, row_at}
use Rattle.exam_rules.specs.Sessions.{members, has_live_entry, is_live, is_live_entry, is_live_paper, is_paper_of}
use Rattle.exam_rules.specs.Sessions.{live_papers, granted_paper, head_of, option_filter, sitting, arrangement_in_force}
use Rattle.exam_rules.specs.Sessions.{barred_halls}
use Rattle.exam_rules.specs.Seatings.{fits, suits_opened, terms_of, opened_room}
use Rattle.exam_rules.proofs.Sitters.{members_sit}
use Rattle.exam_rules.proofs.Relisting.{entries_exact, put_filtered}
use Rattle.exam_commands.proofs.KeyedRows.{entries_total, put_elsewhere, put_none}
use Rattle.exam_commands.specs.Changes.{with_live}
use Rattle.exam_commands.specs.Limits.{within_limits, sessions_within, papers_within, halls_within, openings_within}
use Rattle.exam_commands.specs.Limits.{candidates_within, members_within, appeals_within}
use Rattle.exam_commands.proofs.Keeping.{no_more}
use Rattle.exam_commands.proofs.Referring.{all_more}
use Rattle.exam_commands.proofs.SameSeats.{within_members}

-- an entry of another candidate is another
apart : (d c : ℕ) (p q : Code) → nat_eq d c ≡ false → is_at (entry_cmp (c, q)) (d, p) ≡ false
apart d c p q other = inner (is_at (entry_cmp (c, q)) (d, p)) refl
  where
    inner : (b : Bool) → is_at (entry_cmp (c, q)) (d, p) ≡ b → b ≡ false
    inner true at =
        let same : (c, q) ≡ (d, p) = entries_exact (c, q) (d, p) ((Equal-is (entry_cmp (c, q) (d, p))).0 at) in
        absurd (let differ : true ≡ false = sym (eq-eqb d c (ap (λ (k : ℕ × Code). k.0) (sym same))) ∙ other in cc)
    inner false at = refl

-- ---- other candidates

module _ (r : Relations) (d : ℕ) (p : Code) (live : Bool) (s : Code) where
  module _ (c : ℕ) (other : nat_eq d c ≡ false) where
    live_same : (q : Code) → is_live (with_live r d p live) c q ≡ is_live r c q
    live_same q = ap (λ o. option_map_or (λ (entry : Entry). entry.live) o false)
        (put_elsewhere entry_cmp entries_total r.entries (d, p) (c, q) (record { live = live }) (apart d c p q other))

    papers_same : live_papers (with_live r d p live) s c ≡ live_papers r s c
    papers_same =
        ap (map (λ (e : (ℕ × Code) × Entry). e.0.1))
        (put_filtered entry_cmp entries_exact (is_live_entry r s c) r.entries (d, p) (record { live = live })
        (λ w. ap (λ b. b && (w.live && is_paper_of r s p)) other))

    sitting_same : sitting (with_live r d p live) s c ≡ sitting r s c
    sitting_same =
        let live_papers_same : (λ q. is_live (with_live r d p live) c q && is_paper_of r s q) ≡ is_live_paper r s c =
        fun_ext (λ q. ap (λ b. b && is_paper_of r s q) (live_same q)) in
        ap (λ f. option_or (option_filter f (granted_paper r s c)) (head_of (live_papers (with_live r d p live) s c)))
        live_papers_same
        ∙ ap (λ ps. option_or (option_filter (is_live_paper r s c) (granted_paper r s c)) (head_of ps)) papers_same

    member_same : has_live_entry (with_live r d p live) s c ≡ has_live_entry r s c
    member_same = sym (members_sit (with_live r d p live) s c) ∙ ap is_some sitting_same ∙ members_sit r s c

    -- whether a hall fits a member or not who sits this paper
    abbrev fits_with : Code → Bool → Option Code → Bool
    fits_with h member paper = member
        && (suits_opened (option_and_then
        (λ (session : Session). option_map (λ (row : Paper). terms_of session row (arrangement_in_force r s c))
        (option_and_then (row_at code_cmp r.papers) paper)) (row_at code_cmp r.sessions s)) (opened_room r s h)
        && not (list_any (same_code h) (barred_halls r s c)))

    pub fits_same : (h : Code) → fits (with_live r d p live) s c h ≡ fits r s c h
    fits_same h = ap (λ m. fits_with h m (sitting (with_live r d p live) s c)) member_same
        ∙ ap (fits_with h (has_live_entry r s c)) sitting_same

-- ---- a withdrawal

module _ (r : Relations) (d : ℕ) (p : Code) where
  member_before : (s : Code) (c : ℕ) → has_live_entry (with_live r d p false) s c ≡ true → has_live_entry r s c ≡ true
  member_before s c = put_none entry_cmp (is_live_entry r s c) r.entries (d, p) (record { live = false })
      (λ k. and_right (nat_eq k.0 c) (false && is_paper_of r s k.1) refl)

  members_fewer : (s : Code) → length (members (with_live r d p false) s) ≤ length (members r s)
  members_fewer s = no_more (has_live_entry (with_live r d p false) s) (has_live_entry r s) (member_before s)
      (keys_of r.candidates)

  members_still_within : members_within r ≡ true → members_within (with_live r d p false) ≡ true
  members_still_within within =
      all_more (λ s. nat_le (length (members r s)) most_members)
      (λ s. nat_le (length (members (with_live r d p false) s)) most_members) (keys_of r.sessions)
      (λ s most. let few = leb-true (length (members r s)) most_members most in let fewer =
      members_fewer s in le-leb (length (members (with_live r d p false) s)) most_members
      (omega (arith, few, fewer)))
      within

  -- it passes no limit
  pub withdrawal_within : within_limits r ≡ true → within_limits (with_live r d p false) ≡ true
  withdrawal_within within =
      let few : members_within r ≡ true = within_members r within in
      ap (λ b. sessions_within r
      && (papers_within r &&
      (halls_within r && (openings_within r && (candidates_within r && (b && appeals_within r))))))
      (members_still_within few ∙ sym few) ∙ within
