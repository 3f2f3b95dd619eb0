-- One turn of a loop that appends.
use Rattle.exam_rules.proofs.Words.{flat_map, Entry, Code, Relations, is_paper_of, live_papers_in, is_clash}
use Rattle.std.proofs.Common.{◌≡◌, ℕ, ◌+◌, ◌<◌, true, List, [], ◌∷◌, ◌++◌, length, map, filter, get_or, drop, drop-cons}
use Rattle.std.proofs.Common.{append_assoc, add-one, nat_eq, Option, sym, ap, ◌∙◌}

-- after the pieces of one more element have been appended
pub flat_step : {A Y : Type 0} (f : A → List Y) (xs : List A) (i : ℕ) (d : A) (before after whole : List Y)
    → i < length xs
    → after ≡ before ++ f (get_or xs i d) → before ++ flat_map f (drop i xs) ≡ whole
    → after ++ flat_map f (drop (i + 1) xs) ≡ whole
flat_step f xs i d before after whole below pushed so_far =
    rw (pushed, append_assoc, add-one) (ap (λ t. before ++ flat_map f t) (sym (drop-cons xs i d below)) ∙ so_far)

-- after one element has been appended
pub push_step : {Y : Type 0} (before after rest whole : List Y) (y : Y) → after ≡ before ++ y ∷ []
    → before ++ y ∷ rest ≡ whole → after ++ rest ≡ whole
push_step before after rest whole y pushed so_far = rw (pushed, append_assoc) so_far

module _ (r : Relations) (s : Code) (n : ℕ) (sat : Option Code) where
  abbrev pub clashes_left : List ((ℕ × Code) × Entry) → List (ℕ × Code)
  clashes_left rows = map (λ p. (n, p)) (filter (is_clash sat) (live_papers_in r rows s n))

  -- a row of the candidate that is a clash comes first
  pub clash_turn : (k : ℕ × Code) (e : Entry) (rows : List ((ℕ × Code) × Entry)) → nat_eq k.0 n ≡ true → e.live ≡ true
      → is_paper_of r s k.1 ≡ true → is_clash sat k.1 ≡ true
      → clashes_left ((k, e) ∷ rows) ≡ (n, k.1) ∷ clashes_left rows
  clash_turn k e rows own live of_session clash = simp (own, live, of_session, clash)
