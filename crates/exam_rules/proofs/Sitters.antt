-- A candidate sits a paper exactly if they are a member.
use Rattle.exam_rules.proofs.Words.{list_any, is_at, option_map_or, option_or, exact_bytes, exact_pairs, exact_unsigned}
use Rattle.exam_rules.proofs.Words.{exact_unsigned_eq, and_parts, keys_of, nat_cmp, Entry, Code, Relations, code_cmp}
use Rattle.exam_rules.proofs.Words.{entry_cmp, row_at, has_row, is_paper_of, is_live_entry, has_live_entry, members}
use Rattle.exam_rules.proofs.Words.{least_live_paper, sitting}
use Rattle.std.proofs.Common.{◌≡◌, ◌==◌, ◌↔◌, ◌∙◌, ℕ, ap, subst, Bool, true, false, cond, ◌&&◌, ◌||◌, is_some, nat_eq}
use Rattle.std.proofs.Common.{Contains, List, [], ◌∷◌, filter, Option, Some, None, refl, sym, eq-eqb}
use Rattle.std.proofs.lemmas.Map.Views.{tells_apart, Contains-from_any, Contains-keys_from_lookup}
use Rattle.std.proofs.lemmas.Map.Views.{IsSome-lookup_from_Contains}
use Rattle.std.proofs.lemmas.List.Elements.{All-contains, All-contains_itself, All-filter, filter_passes}
use Rattle.std.proofs.lemmas.Bool.{and_from, or_right}
use Rattle.std.proofs.lemmas.Cmp.{eq_by_cmp_equiv, nat_cmp_total}
use Rattle.exam_rules.specs.Sessions.{is_live, is_live_paper, is_member, granted_paper, option_filter}
use Rattle.exam_rules.proofs.Together.{any_is}
use Rattle.exam_plan.proofs.Rising.{listed_in}

same_key : (x y : ℕ × Code) → is_at (entry_cmp x) y ≡ true → x ≡ y
same_key = tells_apart (exact_pairs nat_cmp code_cmp exact_unsigned exact_bytes)

or_of : (a b c d : Bool) → a ≡ true → b ≡ true → c ≡ true → ((a && (b && c)) || d) ≡ true
or_of a b c d h i j = rw (h, i, j) refl

module _ (r : Relations) (s : Code) (c : ℕ) where
  -- a live entry at a key is among the entries
  live_listed : (p : Code) (es : List ((ℕ × Code) × Entry))
      → option_map_or (λ (entry : Entry). entry.live) (row_at entry_cmp es (c, p)) false ≡ true
      → is_paper_of r s p ≡ true
      → list_any (is_live_entry r s c) es ≡ true
  live_listed p [] live of = live
  live_listed p (e ∷ es) live of = inner (is_at (entry_cmp (c, p)) e.0) refl (λ l. live_listed p es l of) live
    where
      inner : (b : Bool) → is_at (entry_cmp (c, p)) e.0 ≡ b
          → (option_map_or (λ (entry : Entry). entry.live) (row_at entry_cmp es (c, p)) false ≡ true
          → list_any (is_live_entry r s c) es ≡ true)
          → option_map_or (λ (entry : Entry). entry.live) (cond b (Some e.1) (row_at entry_cmp es (c, p))) false ≡ true
          → (is_live_entry r s c e || list_any (is_live_entry r s c) es) ≡ true
      inner true at rest l =
          let k : (c, p) ≡ e.0 = same_key (c, p) e.0 at in
          subst (λ (x : ℕ × Code).
          (((x.0 == c) && (e.1.live && is_paper_of r s x.1)) || list_any (is_live_entry r s c) es) ≡ true) k
          (or_of (c == c) e.1.live (is_paper_of r s p) (list_any (is_live_entry r s c) es) (eq-eqb c c refl) l of)
      inner false at rest l = or_right (is_live_entry r s c e) _ (rest l)

  -- a live paper makes a member
  live_member : (p : Code) → is_live_paper r s c p ≡ true → has_live_entry r s c ≡ true
  live_member p h = inner (is_live r c p) refl (is_paper_of r s p) refl h
    where
      inner : (a : Bool) → is_live r c p ≡ a → (b : Bool) → is_paper_of r s p ≡ b → (a && b) ≡ true
          → has_live_entry r s c ≡ true
      inner true x true y e = live_listed p r.entries x y
      inner true x false y e = absurd (let f : false ≡ true = e in cc)
      inner false x b y e = absurd (let f : false ≡ true = e in cc)

  pub members_sit : is_some (sitting r s c) ≡ has_live_entry r s c
  members_sit = inner (granted_paper r s c)
    where
      passed : (p : Code) (b : Bool) → is_live_paper r s c p ≡ b
          → is_some (option_or (cond b (Some p) None) (least_live_paper r s c)) ≡ has_live_entry r s c
      passed p true e = sym (live_member p e)
      passed p false e = sym (any_is (is_live_entry r s c) (λ (e : (ℕ × Code) × Entry). e.0.1) r.entries)

      inner : (g : Option Code)
          → is_some (option_or (option_filter (is_live_paper r s c) g) (least_live_paper r s c)) ≡ has_live_entry r s c
      inner None = sym (any_is (is_live_entry r s c) (λ (e : (ℕ × Code) × Entry). e.0.1) r.entries)
      inner (Some p) = passed p (is_live_paper r s c p) refl

-- ---- members are listed

-- a filter keeps a number that passes
any_kept : (p : ℕ → Bool) (x : ℕ) (xs : List ℕ) → p x ≡ true → list_any (nat_eq x) xs ≡ true
    → list_any (nat_eq x) (filter p xs) ≡ true
any_kept p x [] t e = e
any_kept p x (y ∷ ys) t e = inner (nat_eq x y) refl e (p y) refl (any_kept p x ys t)
  where
    inner : (b : Bool) → nat_eq x y ≡ b → (b || list_any (nat_eq x) ys) ≡ true → (q : Bool) → p y ≡ q
        → (list_any (nat_eq x) ys ≡ true → list_any (nat_eq x) (filter p ys) ≡ true)
        → list_any (nat_eq x) (cond q (y ∷ filter p ys) (filter p ys)) ≡ true
    inner true same e true at rest = rw same refl
    inner true same e false at rest =
        absurd (let f : x ≡ y = exact_unsigned_eq x y same in let g : true ≡ false = sym t ∙ ap p f ∙ at in cc)
    inner false same e true at rest = rw same (rest e)
    inner false same e false at rest = rest e

module _ (r : Relations) (s : Code) (c : ℕ) where
  member_listed : is_member r s c ≡ true → Contains (members r s) c
  member_listed e =
      let known : Contains (keys_of r.candidates) c =
      Contains-keys_from_lookup (tells_apart exact_unsigned) c r.candidates
      (and_parts (has_row nat_cmp r.candidates c) (has_live_entry r s c) e).0 in
      let live : has_live_entry r s c ≡ true =
      (and_parts (has_row nat_cmp r.candidates c) (has_live_entry r s c) e).1 in
      let any : list_any (nat_eq c) (keys_of r.candidates) ≡ true = listed_in (keys_of r.candidates) c known in
      Contains-from_any exact_unsigned_eq c (members r s)
      (any_kept (has_live_entry r s) c (keys_of r.candidates) live any)

  listed_member : Contains (members r s) c → is_member r s c ≡ true
  listed_member m =
      let known : Contains (keys_of r.candidates) c =
      All-contains (Contains (keys_of r.candidates)) (members r s) c
      (All-filter (has_live_entry r s) (Contains (keys_of r.candidates)) (keys_of r.candidates)
      (All-contains_itself (keys_of r.candidates))) m in
      let live : has_live_entry r s c ≡ true =
      All-contains (λ n. has_live_entry r s n ≡ true) (members r s) c
      (filter_passes (has_live_entry r s) (keys_of r.candidates)) m in
      and_from _ _ (IsSome-lookup_from_Contains (eq_by_cmp_equiv nat_cmp_total) c r.candidates known) live

  -- a member is exactly a candidate in the list of members
  members_are : (b : Bool) → b ≡ is_member r s c → (b ≡ true) ↔ Contains (members r s) c
  members_are b is = (λ e. member_listed (sym is ∙ e), λ m. is ∙ listed_member m)

  -- of a candidate, the live entry decides
  pub known_listed : (a b : Bool) → a ≡ has_row nat_cmp r.candidates c → a ≡ true → b ≡ has_live_entry r s c
      → (b ≡ true) ↔ Contains (members r s) c
  known_listed a b known there live = members_are b (live ∙ ap (λ t. t && has_live_entry r s c) (sym there ∙ known))

  -- no other is listed
  pub unknown_listed : (a : Bool) → a ≡ has_row nat_cmp r.candidates c → a ≡ false
      → (a ≡ true) ↔ Contains (members r s) c
  unknown_listed a known away = members_are a (away ∙ ap (λ t. t && has_live_entry r s c) (sym away ∙ known))
