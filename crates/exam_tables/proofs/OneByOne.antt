-- The query for the key of an appeal that the table holds shows its row.
use Rattle.exam_tables.proofs.Words.{AllByRecursion, IsPermutation, IsStrictlySortedBy, keys_of, is_eq}
use Rattle.exam_tables.proofs.Words.{ordering_reverse, IsPermutation-sym, IsPermutation-trans, length_permutation, Null}
use Rattle.exam_tables.proofs.Words.{Row, IsPermutation-filter, Error, State, FailsToQuery, Shown, shown_unchanged}
use Rattle.exam_tables.proofs.Words.{Refusal, BadStore, NoMemory, Store, Appeal, KeysRise, Code, appeal_cmp, same_code}
use Rattle.exam_tables.proofs.Words.{KeyedAppeal, refusal_of, appeals_ours}
use Rattle.std.proofs.Common.{◌≡◌, ◌⊎◌, ℕ, Bool, true, false, cond, Result, Ok, Err, List, [], ◌∷◌, length, map, filter}
use Rattle.std.proofs.Common.{Ordering, Less, Equal, Greater, inl, inr, refl, sym, ap, subst, ◌∙◌, arith}
use Rattle.std.proofs.Common.{◌&&◌}
use Rattle.std.specs.Prelude.{IfErr, OnOk, nat_eq}
use Rattle.std.specs.Bool.{Decides}
use Rattle.std.specs.Cmp.{nat_cmp_total, then_total, on_total}
use Rattle.std.specs.Cmp.Lexicographic.{nat_list_cmp_total}
use Rattle.std.specs.List.{Contains as IsAmong}
use Rattle.std.proofs.lemmas.Bool.{and_parts, and_from, eq-eqb}
use Rattle.std.proofs.lemmas.Map.Views.{exact_unsigned_eq}
use Rattle.sqlite_trees.proofs.ListLemmas.{filter-map}
use Rattle.sqlite_rules.specs.Lists.{Has}
use Rattle.sqlite_rules.proofs.ListLemmas.{all_has, has_contained}
use Rattle.sqlite_rules.proofs.ProbeLemmas.{mapped_has}
use Rattle.exam_sql.specs.Texts.{find_appeal}
use Rattle.exam_sql.proofs.OneAppeal.{find_fails, find_is_query, has_key, shows_key}
use Rattle.exam_sql.proofs.Queries.{has_permuted}
use Rattle.exam_rules.specs.contracts.rows.AppealPartialEq.TheImpl as appeal_eq
use Rattle.exam_rules.specs.contracts.rows.AppealEq.TheImpl.Laws as laws
use Rattle.exam_rules.proofs.Naming.{same_code_exact, same_code_itself}
use Rattle.exam_tables.specs.Appeals.{FailsToConfirm, HasAppealRows, ShowsAppeal, appeal_key, same_appeal}
use Rattle.exam_tables.specs.Reading.{MayRead}
use Rattle.exam_tables.specs.Rows.{IsAppeal, appeal_row}
use Rattle.exam_tables.proofs.Exact.{appeals_exact}
use Rattle.exam_tables.proofs.Leaving.{bad_unchanged, not_bad_store}
use Rattle.exam_tables.proofs.OneTable.{appeal_tells}

appeals_mirrored : (j k : ℕ × Code) → appeal_cmp j k ≡ ordering_reverse (appeal_cmp k j)
appeals_mirrored = (then_total (on_total (λ (k : ℕ × Code). k.0) nat_cmp_total)
    (on_total (λ (k : ℕ × Code). k.1) nat_list_cmp_total)).antisymm

-- the stored row of an appeal
abbrev pub stored : KeyedAppeal → Row
stored a = appeal_row a.0 a.1

-- the only one of a list in any order
only : {X : Type 0} (x : X) (ys : List X) → IsPermutation (x ∷ []) ys → ys ≡ x ∷ []
only x [] same = absurd (let few = length_permutation _ _ same in omega (arith, few))
only x (y ∷ z ∷ ys) same = absurd (let few = length_permutation _ _ same in omega (arith, few))
only x (y ∷ []) same = it (has_permuted (x ∷ []) (y ∷ []) x same (inl refl))
  where
    it : (x ≡ y) ⊎ ⊥ → y ∷ [] ≡ x ∷ []
    it (inl is) = ap (λ v. v ∷ []) (sym is)
    it (inr none) = absurd none

tied : (o : Ordering) → o ≡ ordering_reverse o → is_eq o ≡ true
tied Less is = absurd cc
tied Equal is = refl
tied Greater is = absurd cc

module _ (key : ℕ × Code) (appeal : Appeal) where
  abbrev it : KeyedAppeal
  it = (key, appeal)

  abbrev has_it : KeyedAppeal → Bool
  has_it a = is_eq (appeal_cmp a.0 key)

  -- no later key is this one
  none_after : (more : List KeyedAppeal) → AllByRecursion (λ k. appeal_cmp key k ≡ Less) (keys_of more)
      → filter has_it more ≡ []
  none_after [] above = refl
  none_after (b ∷ more) above =
      let other : has_it b ≡ false = ap is_eq (appeals_mirrored b.0 key ∙ ap ordering_reverse above.0) in
      ap (λ c. cond c (b ∷ filter has_it more) (filter has_it more)) other ∙ none_after more above.1

  only_one : (appeals : List KeyedAppeal) → KeysRise appeal_cmp appeals → Has appeals it
      → filter has_it appeals ≡ it ∷ []
  unfolding IsStrictlySortedBy
  only_one [] rises has = absurd has
  only_one (a ∷ more) rises (inl is) =
      let here : has_it a ≡ true = ap (λ (b : KeyedAppeal). has_it b) (sym is) ∙ tied _ (appeals_mirrored key key) in
      let above : AllByRecursion (λ k. appeal_cmp key k ≡ Less) (keys_of more) =
      subst (λ (b : KeyedAppeal). AllByRecursion (λ k. appeal_cmp b.0 k ≡ Less) (keys_of more)) (sym is) rises.0 in
      ap (λ c. cond c (a ∷ filter has_it more) (filter has_it more)) here ∙ ap (λ l. a ∷ l) (none_after more above)
      ∙ ap (λ (b : KeyedAppeal). b ∷ []) (sym is)
  only_one (a ∷ more) rises (inr later) =
      let below : appeal_cmp a.0 key ≡ Less =
      all_has (λ k. appeal_cmp a.0 k ≡ Less) (keys_of more) key rises.0
      (mapped_has (λ (p : KeyedAppeal). p.0) more it later) in
      ap (λ c. cond c (a ∷ filter has_it more) (filter has_it more)) (ap is_eq below) ∙ only_one more rises.1 later

  module _ (old new : State) (appeals : List KeyedAppeal) (has : HasAppealRows old.now appeals)
      (among : IsAmong appeals it) where
    abbrev headed : KeyedAppeal → Row
    headed a = Null ∷ stored a

    -- SQL tells keys apart as the office does
    tested : filter (λ (a : KeyedAppeal). has_key (appeal_key key) (headed a)) appeals ≡ it ∷ []
    tested = ap (λ (p : KeyedAppeal → Bool). filter p appeals) (λ i a. appeals_ours.keys.rows a it i)
        ∙ only_one appeals has.rises (has_contained appeals it among)

    -- the query shows its row alone
    pub shows_it : (rows : List Row) → Shown find_appeal (appeal_key key) old new rows → rows ≡ stored it ∷ []
    shows_it rows shown =
        let found = shows_key (appeal_key key) old new rows has.all has.contains shown in
        let held = IsPermutation-filter (has_key (appeal_key key)) _ _ has.same in
        let chosen : filter (has_key (appeal_key key)) (map headed appeals) ≡ headed it ∷ [] =
        filter-map (has_key (appeal_key key)) headed appeals ∙ ap (map headed) tested in
        bare rows (only (headed it) _
        (IsPermutation-trans _ _ _
        (subst (λ l. IsPermutation l (filter (has_key (appeal_key key)) (has.all 13))) chosen
        (IsPermutation-sym _ _ held)) found))
      where
        bare : (rows : List Row) → map (λ (row : Row). Null ∷ row) rows ≡ headed it ∷ [] → rows ≡ stored it ∷ []
        bare [] is = absurd cc
        bare (row ∷ []) is = let same : row ≡ stored it = cc in ap (λ r. r ∷ []) same
        bare (row ∷ more ∷ rows) is = absurd cc

-- ---- what is read

-- they have the same key and are the same exactly if they are one
pub same_decides : (a b : KeyedAppeal) → Decides (same_appeal a b) (a ≡ b)
same_decides a b = (there, back)
  where
    keys : Bool
    keys = nat_eq a.0.0 b.0.0 && same_code a.0.1 b.0.1

    there : same_appeal a b ≡ true → a ≡ b
    there h =
        let parts = and_parts keys (appeal_eq.ghosts.eq a.1 b.1) h in
        let key = and_parts (nat_eq a.0.0 b.0.0) (same_code a.0.1 b.0.1) parts.0 in
        let number : a.0.0 ≡ b.0.0 = exact_unsigned_eq a.0.0 b.0.0 key.0 in
        let reference : a.0.1 ≡ b.0.1 = same_code_exact a.0.1 b.0.1 key.1 in
        let appeal : a.1 ≡ b.1 = appeals_exact.values a.1 b.1 parts.1 in
        λ i. ((number i, reference i), appeal i)

    itself : (k : KeyedAppeal) → same_appeal k k ≡ true
    itself k = and_from _ _ (and_from _ _ (eq-eqb k.0.0 k.0.0 refl) (same_code_itself k.0.1)) (laws.laws-law.refl k.1)

    back : a ≡ b → same_appeal a b ≡ true
    back is = subst (λ (k : KeyedAppeal). same_appeal a k ≡ true) is (itself a)

module _ (it : KeyedAppeal) (row : Row) where
  abbrev MayBe : Result KeyedAppeal Refusal → Type 0
  MayBe result = MayRead (λ (a : KeyedAppeal). IsAppeal a.0 a.1) stored row result

  pub row_is : (a : KeyedAppeal) → MayBe (Ok a) → same_appeal a it ≡ true → row ≡ stored it
  row_is a (inl short) same = absurd cc
  row_is a (inr (form, is)) same = is ∙ ap stored ((same_decides a it).0 same)

  pub same_read : (a : KeyedAppeal) → MayBe (Ok a) → IsAppeal it.0 it.1 → row ≡ stored it → same_appeal a it ≡ true
  same_read a (inl short) formed was = absurd cc
  same_read a (inr (form, is)) formed was = (same_decides a it).1 (appeal_tells a it form.6 formed.6 (sym is ∙ was))

  pub read_short : (e : Refusal) → MayBe (Err e) → IsAppeal it.0 it.1 → row ≡ stored it → e ≡ NoMemory
  read_short e (inl short) formed was = cc
  read_short e (inr (bad, none)) formed was = absurd (none it formed was)

-- ---- why it is not confirmed

one_row : {P : Row → Type 0} (rows : List Row) → length rows ≡ 1 → ((row : Row) → rows ≡ row ∷ [] → P row)
    → (row : Row) × (rows ≡ row ∷ []) × P row
one_row [] many each = absurd cc
one_row (row ∷ []) many each = (row, refl, each row refl)
one_row (row ∷ other ∷ rows) many each = absurd (omega (arith, many))

module _ (it : KeyedAppeal) (old new : State) where
  abbrev Fails : Refusal → Type 0
  Fails = FailsToConfirm it old new

  -- where the query showed rows, and they were compared with it
  pub not_confirmed : (rows : List Row) → Shown find_appeal (appeal_key it.0) old new rows
      → (result : Result (Unit {0}) Refusal)
      → (rows ≡ stored it ∷ [] → IfErr result (λ e. e ≡ NoMemory))
      → IfErr result (λ e. (e ≡ NoMemory) ⊎ (e ≡ BadStore)) → IfErr result Fails
  not_confirmed rows shown (Ok done) same why = tt
  not_confirmed rows shown (Err e) same why = record {
    told = no_store why;
    same = λ bad. shown_unchanged find_appeal find_is_query (appeal_key it.0) old new rows shown;
    none = λ bad appeals has among. let short = same (shows_it it.0 it.1 old new appeals has among rows shown) in
        let differ : NoMemory ≡ BadStore = sym short ∙ bad in absurd cc;
  }
    where
      no_store : {P : Type 0} → (e ≡ NoMemory) ⊎ (e ≡ BadStore) → e ≡ Store → P
      no_store (inl short) store = let differ : NoMemory ≡ Store = sym short ∙ store in absurd cc
      no_store (inr bad) store = let differ : BadStore ≡ Store = sym bad ∙ store in absurd cc

  -- where the query failed
  pub query_failed : (e : Refusal) (error : Error) → e ≡ refusal_of error
      → FailsToQuery find_appeal (appeal_key it.0) old new error → Fails e
  query_failed e error told fails = record {
    told = λ _. (error, told, fails);
    same = λ bad. bad_unchanged find_appeal (appeal_key it.0) old new error fails (sym told ∙ bad);
    none = λ bad appeals has among. not_bad_store e error told
        (find_fails (appeal_key it.0) old new has.contains.schema_is error fails) bad;
  }

  -- where the rows are its row alone
  pub shown_alone : (rows : List Row) → Shown find_appeal (appeal_key it.0) old new rows
      → (result : Result (Unit {0}) Refusal) → OnOk result (length rows ≡ 1)
      → ((row : Row) → rows ≡ row ∷ [] → OnOk result (row ≡ stored it)) → OnOk result (ShowsAppeal it old new)
  shown_alone rows shown (Err e) one is = tt
  shown_alone rows shown (Ok done) one is =
      let alone = one_row rows one is in
      subst (λ (list : List Row). Shown find_appeal (appeal_key it.0) old new list)
      (alone.1 ∙ ap (λ r. r ∷ []) alone.2) shown
