-- On the way of tables from some rows to others, by puts and then deletes, each row has what it refers to.
use Rattle.exam_sql.proofs.Words.{AllByRecursion, list_any, list_all, and_parts, cases_Bool, eqb-true, eq-eqb, Row}
use Rattle.exam_sql.proofs.Words.{plain, Trees, with_tree, agree, Has, all_has, all_from, some_from, some_has}
use Rattle.exam_sql.proofs.Words.{has_filtered, has_kept, put, delete, same_key}
use Rattle.std.proofs.Common.{◌≡◌, ◌⊎◌, ◌&&◌, ◌||◌, ◌==◌, inl, inr, ℕ, List, [], ◌∷◌, ◌++◌, map, Bool, true, false}
use Rattle.std.proofs.Common.{if◌then◌else◌, not, IsTrue, refl, sym, ap, subst, subst₂, ◌∙◌}
use Rattle.sqlite_rules.proofs.KeyLemmas.{agree_back, agree_chain}
use Rattle.exam_sql.specs.Changes.{put_all, delete_all}
use Rattle.exam_sql.proofs.References.{Link, links, AllRefer, LinkHolds, has_parent}
use Rattle.exam_sql.proofs.Changes.{set_here}

-- what is known of the rows of a table on its way
pub record Way : Type 0 where
  -- the rows from before may be there, and those from after
  pub old : Bool
  pub new : Bool
  -- each key from before is there, and each from after
  pub keeps : Bool
  pub has : Bool
  -- no row is put yet; all are put, and none is deleted yet
  pub untouched : Bool
  pub midway : Bool

abbrev pub at_rest : Way
at_rest = record { old = true; new = false; keeps = true; has = false; untouched = true; midway = false }

abbrev pub putting : Way
putting = record { old = true; new = true; keeps = true; has = false; untouched = false; midway = false }

abbrev pub all_there : Way
all_there = record { old = true; new = true; keeps = true; has = true; untouched = false; midway = true }

abbrev pub deleting : Way
deleting = record { old = true; new = true; keeps = false; has = true; untouched = false; midway = false }

abbrev pub arrived : Way
arrived = record { old = false; new = true; keeps = false; has = true; untouched = false; midway = false }

-- what refers to one of the one rows refers to one of the others
abbrev pub Covers : List ℕ → List Row → List Row → Type 0
Covers key wanted rows = (columns : List ℕ) (r : Row) → list_any (λ p. agree plain key p columns r) wanted ≡ true
    → list_any (λ p. agree plain key p columns r) rows ≡ true

pub record Between (key : List ℕ) (before mid after rows : List Row) (w : Way) : Type 0 where
  pub among : (r : Row) → Has rows r → (IsTrue w.old × Has before r) ⊎ (IsTrue w.new × Has after r)
  pub keeps : IsTrue w.keeps → Covers key before rows
  pub has : IsTrue w.has → Covers key after rows
  pub untouched : IsTrue w.untouched → rows ≡ before
  pub midway : IsTrue w.midway → rows ≡ mid

covers_more : (key : List ℕ) (wanted rows : List Row) → ((r : Row) → Has wanted r → Has rows r) → Covers key wanted rows
covers_more key wanted rows more columns r h =
    let p = some_has (λ p. agree plain key p columns r) wanted h in
    some_from (λ p. agree plain key p columns r) rows p.0 (more p.0 p.1) p.2

-- a put keeps each key
covers_put : (key : List ℕ) (new : Row) (wanted rows : List Row) → Covers key wanted rows
    → Covers key wanted (put key new rows)
covers_put key new wanted rows covers columns r h =
    let p = some_has (λ p. agree plain key p columns r) rows (covers columns r h) in
    elim (cases_Bool (same_key key p.0 new)) [
      | inl same ↦ some_from (λ p. agree plain key p columns r) (put key new rows) new (inl refl)
          (agree_chain plain key key columns new p.0 r (agree_back plain key key p.0 new same) p.2)
      | inr other ↦ some_from (λ p. agree plain key p columns r) (put key new rows) p.0
          (inr (has_kept (λ x. not (same_key key x new)) rows p.0 p.1 (ap not other))) p.2
    ]

-- what deletes leave was there
pub left_was : (key : List ℕ) (gone rows : List Row) (r : Row) → Has (delete_all key gone rows) r → Has rows r
left_was key [] rows r h = h
left_was key (k ∷ gone) rows r h =
    (has_filtered (λ x. not (same_key key x k)) rows r (left_was key gone (delete key k rows) r h)).0

module _ (key : List ℕ) (before mid after : List Row) where
  put_first : (rows : List Row) → Between key before mid after rows at_rest → Between key before mid after rows putting
  put_first rows was = record {
    among = λ r h. elim (was.among r h) [ inl old ↦ inl old | inr new ↦ absurd (let no = new.0 in cc) ];
    keeps = was.keeps;
    has = λ no. absurd cc;
    untouched = λ no. absurd cc;
    midway = λ no. absurd cc;
  }

  put_one : (new : Row) (rows : List Row) → Has after new → Between key before mid after rows putting
      → Between key before mid after (put key new rows) putting
  put_one new rows comes was = record {
    among = λ r h. elim h [
      | inl same ↦ inr (refl, subst (Has after) (sym same) comes)
      | inr later ↦ was.among r
          (has_filtered (λ x. not (same_key key x new)) rows r later).0
    ];
    keeps = λ yes. covers_put key new before rows (was.keeps yes);
    has = λ no. absurd cc;
    untouched = λ no. absurd cc;
    midway = λ no. absurd cc;
  }

  put_last : (rows : List Row) → rows ≡ mid → ((r : Row) → Has after r → Has mid r)
      → Between key before mid after rows putting → Between key before mid after rows all_there
  put_last rows is stay was = record {
    among = was.among;
    keeps = was.keeps;
    has = λ yes. covers_more key after rows (λ r h. subst (λ l. Has l r) (sym is) (stay r h));
    untouched = λ no. absurd cc;
    midway = λ yes. is;
  }

  delete_first : (rows : List Row) → Between key before mid after rows all_there
      → Between key before mid after rows deleting
  delete_first rows was =
      record {
        among = was.among;
        keeps = λ no. absurd cc;
        has = was.has;
        untouched = λ no. absurd cc;
        midway = λ no. absurd cc;
      }

  delete_one : (k : Row) (rows : List Row) → ((r : Row) → Has after r → Has (delete key k rows) r)
      → Between key before mid after rows deleting → Between key before mid after (delete key k rows) deleting
  delete_one k rows stay was = record {
    among = λ r h. was.among r (has_filtered (λ x. not (same_key key x k)) rows r h).0;
    keeps = λ no. absurd cc;
    has = λ yes. covers_more key after (delete key k rows) stay;
    untouched = λ no. absurd cc;
    midway = λ no. absurd cc;
  }

  delete_last : (rows : List Row) → rows ≡ after → Between key before mid after rows arrived
  delete_last rows is = record {
    among = λ r h. inr (refl, subst (λ l. Has l r) is h);
    keeps = λ no. absurd cc;
    has = λ yes. covers_more key after rows (λ r h. subst (λ l. Has l r) (sym is) h);
    untouched = λ no. absurd cc;
    midway = λ no. absurd cc;
  }

  at_start : Between key before mid after before at_rest
  at_start = record {
    among = λ r h. inl (refl, h);
    keeps = λ yes columns r h. h;
    has = λ no. absurd cc;
    untouched = λ yes. refl;
    midway = λ no. absurd cc;
  }

-- ---- all tables

set_elsewhere : (all : Trees) (tree u : ℕ) (rows : List Row) → (u == tree) ≡ false → with_tree all tree rows u ≡ all u
set_elsewhere all tree u rows other = rw other

-- one table is now so
abbrev pub now : (ℕ → Way) → ℕ → Way → ℕ → Way
now ways tree way u = if u == tree then way else ways u

now_here : (ways : ℕ → Way) (tree : ℕ) (way : Way) → now ways tree way tree ≡ way
now_here ways tree way = rw (eq-eqb tree tree refl)

now_elsewhere : (ways : ℕ → Way) (tree u : ℕ) (way : Way) → (u == tree) ≡ false → now ways tree way u ≡ ways u
now_elsewhere ways tree u way other = rw other

implied : (a b : Bool) → (not a || b) ≡ true → IsTrue a → IsTrue b
implied true b ok may = ok
implied false b ok may = absurd cc

-- rows that may be there refer to rows that are there
abbrev pub is_sound_at : (ℕ → Way) → Link → Bool
is_sound_at ways l =
    (not (ways l.child).old || (ways l.parent).keeps) && (not (ways l.child).new || (ways l.parent).has)

abbrev pub is_sound : (ℕ → Way) → Bool
is_sound ways = list_all (is_sound_at ways) links

module _ {X : Type 0} (change : X → Trees → Trees) where
  -- the rows after the changes in turn
  abbrev pub made : List X → Trees → Trees
  made [] all = all
  made (x ∷ xs) all = made xs (change x all)

  -- each row has what it refers to after each of the changes
  abbrev pub Along : List X → Trees → Type 0
  Along [] all = Unit {0}
  Along (x ∷ xs) all = AllRefer (change x all) × Along xs (change x all)

  along_both : (xs ys : List X) (all : Trees) → Along xs all → Along ys (made xs all) → Along (xs ++ ys) all
  along_both [] ys all first next = next
  along_both (x ∷ xs) ys all first next = (first.0, along_both xs ys (change x all) first.1 next)

  made_both : (xs ys : List X) (all : Trees) → made (xs ++ ys) all ≡ made ys (made xs all)
  made_both [] ys all = refl
  made_both (x ∷ xs) ys all = made_both xs ys (change x all)

  -- so it is after any one
  pub all_refer_at : (done : List X) (x : X) (rest : List X) (all : Trees) → Along (done ++ x ∷ rest) all
      → AllRefer (change x (made done all))
  all_refer_at [] x rest all along = along.0
  all_refer_at (d ∷ done) x rest all along = all_refer_at done x rest (change d all) along.1

  module _ (keys : ℕ → List ℕ) (before mid after : Trees) where
    -- what is known of each table
    pub record Known (ways : ℕ → Way) (all : Trees) : Type 0 where
      pub each : (u : ℕ) → Between (keys u) (before u) (mid u) (after u) (all u) (ways u)

    known_by : (ways more : ℕ → Way) (tree : ℕ) (all next : Trees) → Known ways all
        → ((u : ℕ) → (u == tree) ≡ false → (next u ≡ all u) × (more u ≡ ways u))
        → Between (keys tree) (before tree) (mid tree) (after tree) (next tree) (more tree) → Known more next
    known_by ways more tree all next known others here = record {
      each = λ u. elim (cases_Bool (u == tree)) [
        | inl is ↦ subst (λ x. Between (keys x) (before x) (mid x) (after x) (next x) (more x))
            (sym (eqb-true u tree is)) here
        | inr other ↦ subst₂ (λ l w. Between (keys u) (before u) (mid u) (after u) l w) (sym (others u other).0)
            (sym (others u other).1) (known.each u)
      ];
    }

    pub known_at_start : Known (λ u. at_rest) before
    known_at_start = record { each = λ u. at_start (keys u) (before u) (mid u) (after u) }

    module _ (fit : AllByRecursion (λ l. keys l.parent ≡ l.key) links) (referred : AllRefer before)
        (will_refer : AllRefer after) where
      link_holds : (ways : ℕ → Way) (all : Trees) → Known ways all → (l : Link) → keys l.parent ≡ l.key
          → LinkHolds before l → LinkHolds after l → is_sound_at ways l ≡ true → LinkHolds all l
      link_holds ways all known l fits was will sound = all_from _ (all l.child) (λ r h. of_row r (child.among r h))
        where
          child : Between (keys l.child) (before l.child) (mid l.child) (after l.child) (all l.child) (ways l.child)
          child = known.each l.child

          parent : Between l.key (before l.parent) (mid l.parent) (after l.parent) (all l.parent) (ways l.parent)
          parent = subst (λ k. Between k (before l.parent) (mid l.parent) (after l.parent) (all l.parent)
              (ways l.parent)) fits (known.each l.parent)

          of_row : (r : Row) → (IsTrue (ways l.child).old × Has (before l.child) r)
              ⊎ (IsTrue (ways l.child).new × Has (after l.child) r) → has_parent l (all l.parent) r ≡ true
          of_row r (inl (may, there)) =
              parent.keeps (implied _ _ (and_parts _ _ sound).0 may) l.columns r
              (all_has _ (before l.child) r was there)
          of_row r (inr (may, there)) =
              parent.has (implied _ _ (and_parts _ _ sound).1 may) l.columns r (all_has _ (after l.child) r will there)

      links_hold : (ways : ℕ → Way) (all : Trees) → Known ways all → (ls : List Link)
          → AllByRecursion (λ l. keys l.parent ≡ l.key) ls → AllByRecursion (LinkHolds before) ls
          → AllByRecursion (LinkHolds after) ls
          → list_all (is_sound_at ways) ls ≡ true → AllByRecursion (LinkHolds all) ls
      links_hold ways all known [] fits was will sound = tt
      links_hold ways all known (l ∷ ls) fits was will sound = (
        link_holds ways all known l fits.0 was.0 will.0 (and_parts _ _ sound).0,
        links_hold ways all known ls fits.1 was.1 will.1 (and_parts _ _ sound).1,
      )

      refers_all : (ways : ℕ → Way) (all : Trees) → is_sound ways ≡ true → Known ways all → AllRefer all
      refers_all ways all sound known = links_hold ways all known links fit referred will_refer sound

      -- changes along which each row has what it refers to, and what is known after them
      abbrev pub Goes : (ℕ → Way) → List X → (ℕ → Way) → Type 0
      Goes ways xs more = (all : Trees) → Known ways all → Along xs all × Known more (made xs all)

      pub goes_both : (first mid last : ℕ → Way) (xs ys : List X) → Goes first xs mid → Goes mid ys last
          → Goes first (xs ++ ys) last
      goes_both first mid last xs ys one two all known =
          let a = one all known in
          let b = two (made xs all) a.1 in
          (along_both xs ys all a.0 b.0, subst (Known last) (sym (made_both xs ys all)) b.1)

      module _ {Y : Type 0} (tree : ℕ) (g : Y → X) (row : Y → Row) where
        -- one change more, which leaves what is known of its table
        step : (ways : ℕ → Way) (way : Way) → is_sound ways ≡ true → ways tree ≡ way → (all next : Trees)
            (rows : List Row) → next ≡ with_tree all tree rows → Known ways all
            → (Between (keys tree) (before tree) (mid tree) (after tree) (all tree) way
            → Between (keys tree) (before tree) (mid tree) (after tree) rows way)
            → AllRefer next × Known ways next × (next tree ≡ rows)
        step ways way sound is all next rows does known one =
            let here : next tree ≡ rows = ap (λ (a : Trees). a tree) does ∙ set_here all tree rows in
            let known_next : Known ways next =
            known_by ways ways tree all next known
            (λ u other. (ap (λ (a : Trees). a u) does ∙ set_elsewhere all tree u rows other, refl))
            (subst₂ (Between (keys tree) (before tree) (mid tree) (after tree)) (sym here) (sym is)
            (one (subst (Between (keys tree) (before tree) (mid tree) (after tree) (all tree)) is (known.each tree))))
            in
            (refers_all ways next sound known_next, known_next, here)

        puts_go : (ways : ℕ → Way) → is_sound ways ≡ true → ways tree ≡ putting
            → ((y : Y) (all : Trees) → change (g y) all ≡ with_tree all tree (put (keys tree) (row y) (all tree)))
            → (ys : List Y) → ((r : Row) → Has (map row ys) r → Has (after tree) r) → (all : Trees) → Known ways all
            → Along (map g ys) all × Known ways (made (map g ys) all)
            × (made (map g ys) all tree ≡ put_all (keys tree) (map row ys) (all tree))
        puts_go ways sound is does [] come all known = (tt, known, refl)
        puts_go ways sound is does (y ∷ ys) come all known =
            let next = change (g y) all in
            let one = step ways putting sound is all next (put (keys tree) (row y) (all tree)) (does y all) known
            (put_one (keys tree) (before tree) (mid tree) (after tree) (row y) (all tree) (come (row y) (inl refl))) in
            let rest = puts_go ways sound is does ys (λ r h. come r (inr h)) next one.1 in
            ((one.0, rest.0), rest.1, rest.2 ∙ ap (put_all (keys tree) (map row ys)) one.2)

        deletes_go : (ways : ℕ → Way) → is_sound ways ≡ true → ways tree ≡ deleting
            → ((y : Y) (all : Trees) → change (g y) all ≡ with_tree all tree (delete (keys tree) (row y) (all tree)))
            → (ys : List Y) (all : Trees) → after tree ≡ delete_all (keys tree) (map row ys) (all tree) → Known ways all
            → Along (map g ys) all × Known ways (made (map g ys) all) × (made (map g ys) all tree ≡ after tree)
        deletes_go ways sound is does [] all ends known = (tt, known, sym ends)
        deletes_go ways sound is does (y ∷ ys) all ends known =
            let next = change (g y) all in
            let stay = λ (r : Row) (h : Has (after tree) r). left_was (keys tree) (map row ys)
            (delete (keys tree) (row y) (all tree)) r (subst (λ l. Has l r) ends h) in
            let one = step ways deleting sound is all next (delete (keys tree) (row y) (all tree)) (does y all) known
            (delete_one (keys tree) (before tree) (mid tree) (after tree) (row y) (all tree) stay) in
            let rest = deletes_go ways sound is does ys next
            (ends ∙ ap (delete_all (keys tree) (map row ys)) (sym one.2)) one.1 in
            ((one.0, rest.0), rest.1, rest.2)

        -- one table is only now so
        turn : (ways : ℕ → Way) (way : Way) (all : Trees) → Known ways all
            → Between (keys tree) (before tree) (mid tree) (after tree) (all tree) way → Known (now ways tree way) all
        turn ways way all known here =
            known_by ways (now ways tree way) tree all all known
            (λ u other. (refl, now_elsewhere ways tree u way other))
            (subst (Between (keys tree) (before tree) (mid tree) (after tree) (all tree))
            (sym (now_here ways tree way)) here)

        at_way : (ways : ℕ → Way) (way : Way) (all : Trees) → ways tree ≡ way → Known ways all
            → Between (keys tree) (before tree) (mid tree) (after tree) (all tree) way
        at_way ways way all is known =
            subst (Between (keys tree) (before tree) (mid tree) (after tree) (all tree)) is (known.each tree)

        -- The puts of one table.
        pub puts_part : (ways : ℕ → Way) → ways tree ≡ at_rest → is_sound (now ways tree putting) ≡ true
            → ((y : Y) (all : Trees) → change (g y) all ≡ with_tree all tree (put (keys tree) (row y) (all tree)))
            → (ys : List Y) → mid tree ≡ put_all (keys tree) (map row ys) (before tree)
            → ((r : Row) → Has (after tree) r → Has (mid tree) r)
            → ((r : Row) → Has (map row ys) r → Has (after tree) r)
            → Goes ways (map g ys) (now (now ways tree putting) tree all_there)
        puts_part ways is sound does ys ends stay come all known =
            let key = keys tree in
            let start = at_way ways at_rest all is known in
            let mid_ways = now ways tree putting in
            let go = puts_go mid_ways sound (now_here ways tree putting) does ys come all
            (turn ways putting all known (put_first key (before tree) (mid tree) (after tree) (all tree) start)) in
            let done = made (map g ys) all in
            let now_mid : done tree ≡ mid tree =
            go.2 ∙ ap (put_all key (map row ys)) (start.untouched refl) ∙ sym ends in (
              go.0,
              turn mid_ways all_there done go.1
                  (put_last key (before tree) (mid tree) (after tree) (done tree) now_mid stay
                  (at_way mid_ways putting done (now_here ways tree putting) go.1)),
            )

        -- The deletes of one table.
        pub deletes_part : (ways : ℕ → Way) → ways tree ≡ all_there → is_sound (now ways tree deleting) ≡ true
            → ((y : Y) (all : Trees) → change (g y) all ≡ with_tree all tree (delete (keys tree) (row y) (all tree)))
            → (ys : List Y) → after tree ≡ delete_all (keys tree) (map row ys) (mid tree)
            → Goes ways (map g ys) (now (now ways tree deleting) tree arrived)
        deletes_part ways is sound does ys ends all known =
            let key = keys tree in
            let start = at_way ways all_there all is known in
            let mid_ways = now ways tree deleting in
            let go = deletes_go mid_ways sound (now_here ways tree deleting) does ys all
            (ends ∙ ap (delete_all key (map row ys)) (sym (start.midway refl)))
            (turn ways deleting all known
            (delete_first key (before tree) (mid tree) (after tree) (all tree) start)) in
            let done = made (map g ys) all in (
              go.0,
              turn mid_ways arrived done go.1
                  (delete_last key (before tree) (mid tree) (after tree) (done tree) go.2),
            )
