-- The record and the column that the refusal of a file names.
use Rattle.std.proofs.Common.{◌≡◌, ◌↔◌, ◌∙◌, ◌+◌, ◌⊎◌, ◌==◌, ℕ, List, [], ◌∷◌, ◌++◌, length, map, Bool, true, false}
use Rattle.std.proofs.Common.{cond}
use Rattle.std.proofs.Common.{AllPairs, Option, Some, None, Result, Ok, Err, refl, sym, ap, subst, arith, append_assoc}
use Rattle.std.proofs.Common.{append-nil, inl, inr}
use Rattle.std.specs.Prelude.{is_some}
use Rattle.csv.specs.Reading.{default_config, records, strip_bom}
use Rattle.exam_rules.specs.declared.rows.Paper.{Paper}
use Rattle.exam_commands.specs.Imports.{conflicts}
use Rattle.exam_commands.specs.declared.import_row.Kind.{Kind}
use Rattle.exam_commands.specs.declared.import_row.Kind.TheVariants.{Sessions, Papers, Halls, Openings}
use Rattle.exam_commands.specs.declared.import_row.Kind.TheVariants.{Candidates, Entries, Arrangements}
use Rattle.exam_commands.specs.declared.import_row.Row.{Row}
use Rattle.exam_commands.specs.declared.import_row.Row.TheVariants.{OfSession, OfPaper, OfHall, OfOpening}
use Rattle.exam_commands.specs.declared.import_row.Row.TheVariants.{OfCandidate, OfEntry, OfArrangement}
use Rattle.exam_types.specs.Codes.{is_access_code, is_hall_code, is_paper_code, is_session_code}
use Rattle.exam_types.specs.Days.{session_day_in}
use Rattle.exam_types.specs.Features.{Features, features_in}
use Rattle.exam_types.specs.Numbers.{desks_in, extra_in, minutes_in, number_in, start_in, until_in}
use Rattle.exam_types.specs.Texts.{is_name}
use Rattle.exam_types.specs.declared.refusal.Refusal.{Refusal}
use Rattle.exam_types.specs.declared.refusal.Refusal.TheVariants.{BadHeader, BadRow, RowConflict, TooMany}
use Rattle.exam_files.specs.Accepted.{AgreeOnKey, denoted_from}
use Rattle.exam_files.specs.ImportFiles.{and_then, field, flag_in, header_of, import_of, is_header, is_too_long, row_of}
use Rattle.exam_files.specs.ImportFiles.{row_of_kind, rows_from, rows_of, value_at}
use Rattle.exam_files.specs.Refused.{IsFirstBad, IsFirstConflict, Reaches, columns_of, first_bad, first_bad_column}
use Rattle.exam_files.proofs.Accepting.{clear, one_more}
use Rattle.exam_files.proofs.OfficeSheets.{cons_parts}

-- ---- the columns of a record

-- a record is a row, or its first bad column is this one
abbrev Answers : ℕ → Result Row Refusal → Option ℕ → Type 0
Answers place r None = (row : Row) × (r ≡ Ok row)
Answers place r (Some column) = r ≡ Err (BadRow place column)

module _ (place : ℕ) where
  -- the value of a column, and what is next; of a text that is the value itself
  abbrev value : {X : Type 0} → ℕ → Option X → (X → Result Row Refusal) → Result Row Refusal
  value column found next = and_then (value_at place column found) next

  abbrev text : ℕ → Bool → List ℕ → (List ℕ → Result Row Refusal) → Result Row Refusal
  text column good bytes next = and_then (value_at place column (cond good (Some bytes) None)) next

  abbrev bad : ℕ → Bool → Option ℕ → Option ℕ
  bad column good rest = cond good rest (Some column)

  of_session : (code : List ℕ) (a : Bool) (b c : Option ℕ)
      → Answers place (text 1 a code
      (λ code. value 2 b (λ day. value 3 c (λ start. Ok (OfSession code (record { day = day; start = start }))))))
      (bad 1 a (bad 2 (is_some b) (bad 3 (is_some c) None)))
  of_session code false b c = refl
  of_session code true None c = refl
  of_session code true (Some day) None = refl
  of_session code true (Some day) (Some start) = (OfSession code (record { day = day; start = start }), refl)

  of_paper : (code title session : List ℕ) (a b c : Bool) (d : Option ℕ) (e : Option Features)
      → Answers place (text 1 a code
      (λ code. text 2 b title (λ title. text 3 c session (λ session. value 4 d (λ minutes. value 5 e (λ required.
      let paper : Paper = record { title = title; session = session; minutes = minutes; required = required } in
      Ok (OfPaper code paper)))))))
      (bad 1 a (bad 2 b (bad 3 c (bad 4 (is_some d) (bad 5 (is_some e) None)))))
  of_paper code title session false b c d e = refl
  of_paper code title session true false c d e = refl
  of_paper code title session true true false d e = refl
  of_paper code title session true true true None e = refl
  of_paper code title session true true true (Some minutes) None = refl
  of_paper code title session true true true (Some minutes) (Some required) =
      let paper : Paper = record { title = title; session = session; minutes = minutes; required = required } in
      (OfPaper code paper, refl)

  of_hall : (code title : List ℕ) (a b : Bool) (c : Option Features)
      → Answers place (text 1 a code
      (λ code. text 2 b title
      (λ title. value 3 c (λ features. Ok (OfHall code (record { title = title; features = features }))))))
      (bad 1 a (bad 2 b (bad 3 (is_some c) None)))
  of_hall code title false b c = refl
  of_hall code title true false c = refl
  of_hall code title true true None = refl
  of_hall code title true true (Some features) = (OfHall code (record { title = title; features = features }), refl)

  of_opening : (session hall : List ℕ) (a b : Bool) (c d : Option ℕ) (e : Option Bool)
      → Answers place (text 1 a session
      (λ session. text 2 b hall (λ hall. value 3 c (λ desks. value 4 d (λ until. value 5 e (λ reserved.
      Ok (OfOpening session hall (record { desks = desks; until = until; reserved = reserved }))))))))
      (bad 1 a (bad 2 b (bad 3 (is_some c) (bad 4 (is_some d) (bad 5 (is_some e) None)))))
  of_opening session hall false b c d e = refl
  of_opening session hall true false c d e = refl
  of_opening session hall true true None d e = refl
  of_opening session hall true true (Some desks) None e = refl
  of_opening session hall true true (Some desks) (Some until) None = refl
  of_opening session hall true true (Some desks) (Some until) (Some reserved) =
      (OfOpening session hall (record { desks = desks; until = until; reserved = reserved }), refl)

  of_candidate : (name code : List ℕ) (a : Option ℕ) (b c : Bool)
      → Answers place (value 1 a
      (λ number. text 2 b name
      (λ name. text 3 c code (λ code. Ok (OfCandidate number (record { name = name; code = code }))))))
      (bad 1 (is_some a) (bad 2 b (bad 3 c None)))
  of_candidate name code None b c = refl
  of_candidate name code (Some number) false c = refl
  of_candidate name code (Some number) true false = refl
  of_candidate name code (Some number) true true = (OfCandidate number (record { name = name; code = code }), refl)

  of_entry : (paper : List ℕ) (a : Option ℕ) (b : Bool)
      → Answers place (value 1 a (λ number. text 2 b paper (λ paper. Ok (OfEntry number paper))))
      (bad 1 (is_some a) (bad 2 b None))
  of_entry paper None b = refl
  of_entry paper (Some number) false = refl
  of_entry paper (Some number) true = (OfEntry number paper, refl)

  of_arrangement : (a : Option ℕ) (b : Option Features) (c : Option ℕ)
      → Answers place (value 1 a
      (λ number. value 2 b
      (λ needs. value 3 c (λ extra. Ok (OfArrangement number (record { needs = needs; extra = extra }))))))
      (bad 1 (is_some a) (bad 2 (is_some b) (bad 3 (is_some c) None)))
  of_arrangement None b c = refl
  of_arrangement (Some number) None c = refl
  of_arrangement (Some number) (Some needs) None = refl
  of_arrangement (Some number) (Some needs) (Some extra) =
      (OfArrangement number (record { needs = needs; extra = extra }), refl)

  module _ (fields : List (List ℕ)) where
    of_kind : (kind : Kind) → Answers place (row_of_kind kind place fields) (first_bad 0 (columns_of kind) fields)
    of_kind Sessions = of_session (field 0 fields) (is_session_code (field 0 fields)) (session_day_in (field 1 fields))
        (start_in (field 2 fields))
    of_kind Papers =
        of_paper (field 0 fields) (field 1 fields) (field 2 fields) (is_paper_code (field 0 fields))
        (is_name (field 1 fields)) (is_session_code (field 2 fields))
        (minutes_in (field 3 fields)) (features_in (field 4 fields))
    of_kind Halls = of_hall (field 0 fields) (field 1 fields) (is_hall_code (field 0 fields))
        (is_name (field 1 fields)) (features_in (field 2 fields))
    of_kind Openings =
        of_opening (field 0 fields) (field 1 fields) (is_session_code (field 0 fields)) (is_hall_code (field 1 fields))
        (desks_in (field 2 fields)) (until_in (field 3 fields))
        (flag_in (field 4 fields))
    of_kind Candidates =
        of_candidate (field 1 fields) (field 2 fields) (number_in (field 0 fields)) (is_name (field 1 fields))
        (is_access_code (field 2 fields))
    of_kind Entries = of_entry (field 1 fields) (number_in (field 0 fields)) (is_paper_code (field 1 fields))
    of_kind Arrangements =
        of_arrangement (number_in (field 0 fields)) (features_in (field 1 fields)) (extra_in (field 2 fields))

    answers : (kind : Kind) → Answers place (row_of kind place fields) (first_bad_column kind fields)
    unfolding row_of
    answers kind = by (length fields == length (header_of kind))
      where
        by : (b : Bool) → Answers place (cond b (row_of_kind kind place fields) (Err (BadRow place 0)))
            (cond b (first_bad 0 (columns_of kind) fields) (Some 0))
        by true = of_kind kind
        by false = refl

-- a record is refused as bad for its first bad column alone
names_column : (place number column : ℕ) (r : Result Row Refusal) (found : Option ℕ) → Answers place r found
    → r ≡ Err (BadRow number column) → found ≡ Some column
names_column place number column r None given e = absurd (let row : r ≡ Ok given.0 = given.1 in cc)
names_column place number column r (Some c) given e =
    let one : r ≡ Err (BadRow place c) = given in
    let same : c ≡ column = cc in ap (λ (n : ℕ). Some n) same

is_refused : (place column : ℕ) (r : Result Row Refusal) (found : Option ℕ) → Answers place r found
    → found ≡ Some column → r ≡ Err (BadRow place column)
is_refused place column r None given e = cc e
is_refused place column r (Some c) given e =
    let one : r ≡ Err (BadRow place c) = given in
    let same : c ≡ column = cc in one ∙ ap (λ (n : ℕ). Err (BadRow place n)) same

never_conflicts : {A : Type 0} (place number : ℕ) (r : Result Row Refusal) (found : Option ℕ) → Answers place r found
    → r ≡ Err (RowConflict number) → A
never_conflicts place number r None given e = absurd (let row : r ≡ Ok given.0 = given.1 in cc)
never_conflicts place number r (Some c) given e = absurd (let one : r ≡ Err (BadRow place c) = given in cc)

-- ---- the records

abbrev ok : Row → Result Row Refusal
ok row = Ok row

-- why the record is refused that comes behind these rows
abbrev Why : Kind → ℕ → List Row → List (List ℕ) → Refusal → Type 0
Why kind number rows fields e =
    (row_of kind number fields ≡ Err e)
    ⊎ ((row : Row) × (row_of kind number fields ≡ Ok row) × (conflicts row rows ≡ true) × (e ≡ RowConflict number))

-- the records behind those before stop at one that is refused
record Stops (kind : Kind) (first : ℕ) (before : List Row) (rest : List (List (List ℕ))) (e : Refusal) : Type 0 where
  after : List Row
  early : List (List (List ℕ))
  fields : List (List ℕ)
  late : List (List (List ℕ))
  rows : List Row
  number : ℕ
  are : rest ≡ early ++ fields ∷ late
  all : rows ≡ before ++ after
  denoted : map ok after ≡ denoted_from kind first early
  agree : AllPairs AgreeOnKey rows
  counted : number ≡ length early + first
  why : Why kind number rows fields e

stops : (kind : Kind) (first : ℕ) (before : List Row) (rest : List (List (List ℕ))) (e : Refusal)
    → rows_from kind first before rest ≡ Err e → AllPairs AgreeOnKey before
    → Stops kind first before rest e
unfolding rows_from
stops kind first before [] e h agree = cc h
stops kind first before (fields ∷ rest) e h agree =
    by_row (row_of kind first fields) refl h (λ row. stops kind (first + 1) (before ++ row ∷ []) rest e)
  where
    here : Why kind first before fields e → Stops kind first before (fields ∷ rest) e
    here why = record {
      after = [];
      early = [];
      fields = fields;
      late = rest;
      rows = before;
      number = first;
      are = refl;
      all = sym (append-nil before);
      denoted = refl;
      agree = agree;
      counted = omega arith;
      why = why;
    }

    more : (row : Row) → row_of kind first fields ≡ Ok row → Stops kind (first + 1) (before ++ row ∷ []) rest e
        → Stops kind first before (fields ∷ rest) e
    more row is w =
        let counted = w.counted in
        record {
          after = row ∷ w.after;
          early = fields ∷ w.early;
          fields = w.fields;
          late = w.late;
          rows = w.rows;
          number = w.number;
          are = ap (λ (rs : List (List (List ℕ))). fields ∷ rs) w.are;
          all = w.all ∙ append_assoc before (row ∷ []) w.after;
          denoted = ap (λ (r : Result Row Refusal). r ∷ map ok w.after) (sym is)
              ∙ ap (λ (rs : List (Result Row Refusal)). row_of kind first fields ∷ rs) w.denoted;
          agree = w.agree;
          counted = omega (arith, counted);
          why = w.why;
        }

    by_conflict : (row : Row) → row_of kind first fields ≡ Ok row → (b : Bool) → conflicts row before ≡ b
        → cond b (Err (RowConflict first)) (rows_from kind (first + 1) (before ++ row ∷ []) rest) ≡ Err e
        → (rows_from kind (first + 1) (before ++ row ∷ []) rest ≡ Err e → AllPairs AgreeOnKey (before ++ row ∷ [])
        → Stops kind (first + 1) (before ++ row ∷ []) rest e)
        → Stops kind first before (fields ∷ rest) e
    by_conflict row is true clash h next = here (inr (row, is, clash, (let same : e ≡ RowConflict first = cc in same)))
    by_conflict row is false none h next = more row is (next h (one_more row before none agree))

    by_row : (r : Result Row Refusal) → row_of kind first fields ≡ r
        → and_then r (λ row. cond (conflicts row before) (Err (RowConflict first))
        (rows_from kind (first + 1) (before ++ row ∷ []) rest)) ≡ Err e
        → ((row : Row) → rows_from kind (first + 1) (before ++ row ∷ []) rest ≡ Err e
        → AllPairs AgreeOnKey (before ++ row ∷ []) → Stops kind (first + 1) (before ++ row ∷ []) rest e)
        → Stops kind first before (fields ∷ rest) e
    by_row (Err x) is h next = here (inl (let same : x ≡ e = cc in is ∙ ap (λ (y : Refusal). Err y) same))
    by_row (Ok row) is h next = by_conflict row is (conflicts row before) refl h (next row)

-- and the other way round
stop_here : (kind : Kind) (first number : ℕ) (before rows : List Row) (fields : List (List ℕ))
    (late : List (List (List ℕ))) (e : Refusal) → number ≡ first → rows ≡ before
    → Why kind number rows fields e → rows_from kind first before (fields ∷ late) ≡ Err e
unfolding rows_from
stop_here kind first number before rows fields late e same all (inl h) =
    let bad : row_of kind first fields ≡ Err e = subst (λ (n : ℕ). row_of kind n fields ≡ Err e) same h in rw bad refl
stop_here kind first number before rows fields late e same all (inr (row, is, clash, names)) =
    let good : row_of kind first fields ≡ Ok row = subst (λ (n : ℕ). row_of kind n fields ≡ Ok row) same is in
    let wrong : conflicts row before ≡ true = subst (λ (rs : List Row). conflicts row rs ≡ true) all clash in
    rw (good, wrong) (ap (λ (y : Refusal). Err y) (sym (names ∙ ap RowConflict same)))

stop_later : (kind : Kind) (first number : ℕ) (before : List Row) (early : List (List (List ℕ)))
    (fields : List (List ℕ)) (late : List (List (List ℕ))) (after : List Row) (e : Refusal)
    → map ok after ≡ denoted_from kind first early → AllPairs AgreeOnKey (before ++ after)
    → number ≡ length early + first → Why kind number (before ++ after) fields e
    → rows_from kind first before (early ++ fields ∷ late) ≡ Err e
unfolding rows_from
stop_later kind first number before [] fields late [] e denoted agree counted why =
    stop_here kind first number before (before ++ []) fields late e (omega (arith, counted)) (append-nil before) why
stop_later kind first number before [] fields late (row ∷ after) e denoted agree counted why = cc denoted
stop_later kind first number before (f ∷ early) fields late [] e denoted agree counted why = cc denoted
stop_later kind first number before (f ∷ early) fields late (row ∷ after) e denoted agree counted why =
    let parts = cons_parts (ok row) (row_of kind first f) (map ok after)
    (denoted_from kind (first + 1) early) denoted in
    let same = append_assoc before (row ∷ []) after in
    rw (← parts.0, clear before row after agree)
    (stop_later kind (first + 1) number (before ++ row ∷ []) early fields late after e parts.1
    (subst (AllPairs AgreeOnKey) (sym same) agree) (omega (arith, counted))
    (subst (λ (rows : List Row). Why kind number rows fields e) (sym same) why))

-- ---- files

module _ (kind : Kind) (bytes : List ℕ) where
  no_pairs : AllPairs AgreeOnKey []
  no_pairs i j d low high = absurd (omega arith)

  -- a record of the file is refused so
  record IsRefused (e : Refusal) : Type 0 where
    number : ℕ
    rows : List Row
    fields : List (List ℕ)
    reaches : Reaches kind bytes number rows fields
    why : Why kind number rows fields e

  module _ (e : Refusal) (long : e ≡ TooMany → ⊥) (headless : e ≡ BadHeader → ⊥) where
    of_header : is_too_long bytes ≡ false → (header : List (List ℕ)) (rest : List (List (List ℕ)))
        → records default_config (strip_bom bytes) ≡ header ∷ rest
        → (b : Bool) → is_header kind header ≡ b → cond b (rows_from kind 1 [] rest) (Err BadHeader) ≡ Err e
        → IsRefused e
    of_header short header rest are false other h = absurd (headless (let same : e ≡ BadHeader = cc in same))
    of_header short header rest are true begins h =
        let w = stops kind 1 [] rest e h no_pairs in
        record {
          number = w.number;
          rows = w.rows;
          fields = w.fields;
          reaches = record {
            short = short;
            header = header;
            early = w.early;
            late = w.late;
            records = are ∙ ap (λ (rs : List (List (List ℕ))). header ∷ rs) w.are;
            begins = begins;
            denoted = ap (map ok) w.all ∙ w.denoted;
            agree = w.agree;
            counted = w.counted;
          };
          why = w.why;
        }

    of_records : is_too_long bytes ≡ false → (all : List (List (List ℕ)))
        → records default_config (strip_bom bytes) ≡ all → rows_of kind all ≡ Err e → IsRefused e
    of_records short [] are h = absurd (headless (let same : e ≡ BadHeader = cc in same))
    of_records short (header ∷ rest) are h = of_header short header rest are (is_header kind header) refl h

    of_file : (b : Bool) → is_too_long bytes ≡ b
        → cond b (Err TooMany) (rows_of kind (records default_config (strip_bom bytes))) ≡ Err e → IsRefused e
    of_file true is h = absurd (long (let same : e ≡ TooMany = cc in same))
    of_file false short h = of_records short (records default_config (strip_bom bytes)) refl h

  refuses : (e : Refusal) (number : ℕ) (rows : List Row) (fields : List (List ℕ))
      → Reaches kind bytes number rows fields → Why kind number rows fields e → import_of kind bytes ≡ Err e
  refuses e number rows fields w why =
      rw (w.short, w.records, w.begins)
      (stop_later kind 1 number [] w.early fields w.late rows e w.denoted w.agree w.counted why)

  module _ (number column : ℕ) where
    named : IsRefused (BadRow number column) → IsFirstBad kind bytes number column
    named w = by w.why
      where
        place_of : row_of kind w.number w.fields ≡ Err (BadRow number column) → (found : Option ℕ)
            → Answers w.number (row_of kind w.number w.fields) found → w.number ≡ number
        place_of h None found = absurd (let row : row_of kind w.number w.fields ≡ Ok found.0 = found.1 in cc)
        place_of h (Some c) found = let one : row_of kind w.number w.fields ≡ Err (BadRow w.number c) = found in cc

        by : Why kind w.number w.rows w.fields (BadRow number column) → IsFirstBad kind bytes number column
        by (inl h) =
            let found = answers w.number w.fields kind in
            let same : w.number ≡ number = place_of h (first_bad_column kind w.fields) found in (
              w.rows,
              w.fields,
              subst (λ (n : ℕ). Reaches kind bytes n w.rows w.fields) same w.reaches,
              names_column w.number number column (row_of kind w.number w.fields)
                  (first_bad_column kind w.fields) found h,
            )
        by (inr (row, is, clash, names)) =
            absurd (let other : BadRow number column ≡ RowConflict w.number = names in cc)

    pub bad_column : (import_of kind bytes ≡ Err (BadRow number column)) ↔ IsFirstBad kind bytes number column
    bad_column = (
      λ h. named (of_file (BadRow number column) (λ same. cc same) (λ same. cc same) (is_too_long bytes) refl h),
      λ bad. refuses (BadRow number column) number bad.0 bad.1 bad.2
          (inl (is_refused number column (row_of kind number bad.1) (first_bad_column kind bad.1)
          (answers number bad.1 kind) bad.3)),
    )

  module _ (number : ℕ) where
    clashes : IsRefused (RowConflict number) → IsFirstConflict kind bytes number
    clashes w = by w.why
      where
        by : Why kind w.number w.rows w.fields (RowConflict number) → IsFirstConflict kind bytes number
        by (inl h) = never_conflicts w.number number (row_of kind w.number w.fields) (first_bad_column kind w.fields)
            (answers w.number w.fields kind) h
        by (inr (row, is, clash, names)) =
            let same : w.number ≡ number = cc in (
              w.rows,
              w.fields,
              row,
              subst (λ (n : ℕ). Reaches kind bytes n w.rows w.fields) same w.reaches,
              subst (λ (n : ℕ). row_of kind n w.fields ≡ Ok row) same is,
              λ agree. absurd (let none : conflicts row w.rows ≡ false = clear w.rows row [] agree in cc),
            )

    clash_of : (rows : List Row) (row : Row) → AllPairs AgreeOnKey rows → (AllPairs AgreeOnKey (rows ++ row ∷ []) → ⊥)
        → (b : Bool) → conflicts row rows ≡ b → conflicts row rows ≡ true
    clash_of rows row agree apart true is = is
    clash_of rows row agree apart false is = absurd (apart (one_more row rows is agree))

    pub conflict : (import_of kind bytes ≡ Err (RowConflict number)) ↔ IsFirstConflict kind bytes number
    conflict = (
      λ h. clashes (of_file (RowConflict number) (λ same. cc same) (λ same. cc same) (is_too_long bytes) refl h),
      λ first. refuses (RowConflict number) number first.0 first.1 first.3
          (inr (
            first.2,
            first.4,
            clash_of first.0 first.2 first.3.agree first.5 (conflicts first.2 first.0) refl,
            refl,
          )),
    )
