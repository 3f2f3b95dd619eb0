-- What the texts that put and delete a row do, for each of the ten tables.
use Rattle.exam_sql.proofs.Words.{and_parts, cast, Int, Null, Text, Value, Row, rowid, Term, Trees, col}
use Rattle.exam_sql.proofs.Words.{Command, overlay, Abort, Replace, InsertOr, Values, everything, understood}
use Rattle.exam_sql.proofs.Words.{first_key, on_conflict, store_schema, without_row}
use Rattle.std.proofs.Common.{Bool, List, Option, None, Some, [], ap, ap₂, drop, false, length, lit≤, map, refl, true}
use Rattle.std.proofs.Common.{ℕ, ℤ, ◌+◌, ◌/◌, ◌∷◌, ◌≡◌}
use Rattle.std.specs.List.{range_with_len}
use Rattle.sqlite.specs.Effect.{value_rows}
use Rattle.sqlite.specs.Kind.{Kind}
use Rattle.sqlite.specs.Kind.TheVariants.{Integer, Text as KindText}
use Rattle.sqlite.specs.Values.{or_null}
use Rattle.sqlite_schema.specs.declared.schema.Column.{Column}
use Rattle.exam_sql.specs.Texts.{delete_opening, delete_seat}
use Rattle.exam_sql.proofs.Names.{Name, each, of, target, Candidate, Opening, Entry, Arrangement, Appeal, Seat}
use Rattle.exam_sql.proofs.Names.{Standing}
use Rattle.exam_sql.proofs.EachTable.{keyed, key_means}
use Rattle.exam_sql.proofs.Edits.{Edits, Means, PutsRow, removes, replaces, upserts}
use Rattle.exam_sql.proofs.Fits.{Fits, fits_chosen, fits_given}
use Rattle.exam_sql.proofs.Keys.{cast_int, cast_null, text_same}
use Rattle.exam_sql.proofs.Terms.{Finds, BecomesBy, changed_terms, found_terms, given_terms, key_terms}

-- what a column of this kind may have in a row that is put
abbrev pub Field : Kind → Bool → Type 0
Field Integer not_null = ℤ
Field kind true = List ℕ
Field kind false = Option (List ℕ)

abbrev value : (kind : Kind) (not_null : Bool) → Field kind not_null → Value
value Integer not_null n = Int n
value kind true t = Text t
value kind false t = or_null Text t

-- it holds of each row of these columns
abbrev pub OfEach : List Column → (Row → Type 0) → Type 0
OfEach [] P = P []
OfEach (c ∷ more) P = (v : Field c.kind c.not_null) → OfEach more (λ row. P (value c.kind c.not_null v ∷ row))

abbrev Fields : List Column → Type 0
Fields [] = Unit {0}
Fields (c ∷ more) = Field c.kind c.not_null × Fields more

abbrev row_of : (columns : List Column) → Fields columns → Row
row_of [] x = []
row_of (c ∷ more) x = value c.kind c.not_null x.0 ∷ row_of more x.1

of_each : (columns : List Column) (P : Row → Type 0) → ((x : Fields columns) → P (row_of columns x)) → OfEach columns P
of_each [] P all = all tt
of_each (c ∷ more) P all = λ v. of_each more (λ row. P (value c.kind c.not_null v ∷ row)) (λ x. all (v, x))

-- what is given for the rowid, and the row as it is kept after it
abbrev given : Option ℕ → Row → Value × Row
given None row = (Null, row)
given (Some at) [] = (Null, [])
given (Some at) (v ∷ more) = (v, Null ∷ more)

cast_maybe : (o : Option (List ℕ)) → cast KindText (or_null Text o) ≡ or_null Text o
cast_maybe None = refl
cast_maybe (Some t) = refl

-- The terms by which a row changes the one with its key, where it does not replace it. An appeal's number is written
-- too, since SQL takes 1 and 1.0 for equal.
abbrev changed : Name → Option (List Term)
changed Appeal = Some (col 1 0 ∷ col 1 0 ∷ col 0 13 ∷ col 1 2 ∷ map (col 0) (range_with_len 15 9))
changed Entry = None
changed Arrangement = None
changed Seat = None
changed Standing = None
changed n = Some (changed_terms (of n).table)

module _ (n : Name) where
  abbrev width : ℕ
  width = length (of n).table.columns + 1

  abbrev terms : List Term
  terms = given_terms (of n).table

  abbrev command : Option (List Term) → Command
  command None = InsertOr (of n).at Replace (Values terms width) []
  command (Some changed) =
      InsertOr (of n).at Abort (Values terms width)
      (on_conflict (target n) (of n).table.tree (found_terms (of n).table) changed ∷ [])

put_means : (n : Name) → Means store_schema (of n).put (command n (changed n)) (length (of n).table.columns)
unfolding understood everything store_schema
put_means = each (λ n. Means store_schema (of n).put (command n (changed n)) (length (of n).table.columns))
    (refl, (refl, refl), (lit≤ tt, refl)) (refl, (refl, refl), (lit≤ tt, refl))
    (refl, (refl, refl), (lit≤ tt, refl)) (refl, (refl, refl), (lit≤ tt, refl))
    (refl, (refl, refl), (lit≤ tt, refl)) (refl, (refl, refl), (lit≤ tt, refl))
    (refl, (refl, refl), (lit≤ tt, refl)) (refl, (refl, refl), (lit≤ tt, refl))
    (refl, (refl, refl), (lit≤ tt, refl)) (refl, (refl, refl), (lit≤ tt, refl))

module _ (n : Name) (x : Fields (of n).table.columns) where
  abbrev row : Row
  row = row_of (of n).table.columns x

  abbrev first : Value
  first = (given (of n).table.key row).0

  abbrev kept : Row
  kept = (given (of n).table.key row).1

fits : (n : Name) (x : Fields (of n).table.columns) → Fits (of n).table (of n).key (first n x) (kept n x) (row n x)
fits Candidate x =
    fits_given (of Candidate).table (of Candidate).key x.0 (kept Candidate x) (row Candidate x) refl
    (simp (cast_null)) refl (λ r. refl)
fits Arrangement x =
    fits_given (of Arrangement).table (of Arrangement).key x.0 (kept Arrangement x) (row Arrangement x) refl
    (simp (cast_null, cast_int)) refl (λ r. refl)
fits Appeal x =
    fits_chosen (of Appeal).table (of Appeal).key (row Appeal x) refl (simp (cast_int, cast_maybe)) (λ v. refl)
fits n x = fits_chosen (of n).table (of n).key (row n x) refl (simp (cast_int)) (λ v. refl)

module _ (n : Name) (x : Fields (of n).table.columns) where
  abbrev Puts : Type 0
  Puts = PutsRow (of n).table.tree (of n).key (of n).put (row n x)

  abbrev IsSource : Type 0
  IsSource = value_rows (row n x) (width n) (length (terms n) / width n) (terms n) ≡ (first n x ∷ kept n x) ∷ []

  abbrev MeansBy : Option (List Term) → Type 0
  MeansBy by = Means store_schema (of n).put (command n by) (length (row n x))

  replacing : IsSource → MeansBy None → Puts
  replacing = replaces (keyed n) (of n).put (terms n) (width n) (first n x) (kept n x) (row n x) (fits n x)

  changing : (by : List Term) → IsSource → MeansBy (Some by)
      → ((db : Trees) → overlay db [] (of n).table.tree ≡ db (of n).table.tree)
      → Finds (of n) (kept n x) (row n x) → BecomesBy by (of n) (kept n x) (row n x) → Puts
  changing by source =
      upserts (keyed n) (of n).put (terms n) (width n) (first n x) (kept n x) (row n x) (fits n x) source
      (found_terms (of n).table) by

puts_fields : (n : Name) (x : Fields (of n).table.columns) → Puts n x
unfolding first_key
puts_fields Entry x = replacing Entry x refl (put_means Entry)
puts_fields Arrangement x = replacing Arrangement x refl (put_means Arrangement)
puts_fields Seat x = replacing Seat x refl (put_means Seat)
puts_fields Standing x = replacing Standing x refl (put_means Standing)
puts_fields Appeal x =
    changing Appeal x _ refl (put_means Appeal) (λ db. refl) (λ t r id. refl)
    (λ t id same. ap (λ v. rowid t ∷ rowid t ∷ Int x.0 ∷ v ∷ row_of (drop 2 (of Appeal).table.columns) x.1.1)
    (text_same _ _ (and_parts _ _ (and_parts _ _ same).1).0))
puts_fields Candidate x =
    changing Candidate x _ refl (put_means Candidate) (λ db. refl) (λ t r id. refl) (λ t id same. refl)
puts_fields Opening x =
    changing Opening x _ refl (put_means Opening) (λ db. refl)
    (λ t r id. refl) (λ t id same. let both = and_parts _ _ same in
    ap₂ (λ v w. rowid t ∷ rowid t ∷ v ∷ w ∷ row_of (drop 2 (of Opening).table.columns) x.1.1) (text_same _ _ both.0)
    (text_same _ _ (and_parts _ _ both.1).0))
puts_fields n x =
    changing n x _ refl (put_means n) (λ db. refl) (λ t r id. refl)
    (λ t id same. ap (λ v. rowid t ∷ rowid t ∷ v ∷ row_of (drop 1 (of n).table.columns) x.1)
    (text_same _ _ (and_parts _ _ same).0))

-- The row replaces the one with its key.
pub puts : (n : Name) → OfEach (of n).table.columns (λ row. PutsRow (of n).table.tree (of n).key (of n).put row)
puts n = of_each (of n).table.columns (λ row. PutsRow (of n).table.tree (of n).key (of n).put row) (puts_fields n)

-- ---- the row with the key is taken away

abbrev opening_key : List ℕ → List ℕ → Row
opening_key session hall = Text session ∷ Text hall ∷ []

pub deletes_opening : (session hall : List ℕ)
    → Edits (without_row (of Opening).table.tree (of Opening).key (opening_key session hall)) delete_opening
    (opening_key session hall)
unfolding understood everything store_schema
deletes_opening session hall =
    removes (keyed Opening) delete_opening (key_terms (of Opening).table) (opening_key session hall)
    (refl, (refl, refl), (lit≤ tt, refl)) (λ db. refl) (key_means Opening (opening_key session hall))

abbrev seat_key : List ℕ → ℤ → Row
seat_key session number = Text session ∷ Int number ∷ []

pub deletes_seat : (session : List ℕ) (number : ℤ)
    → Edits (without_row (of Seat).table.tree (of Seat).key (seat_key session number)) delete_seat
    (seat_key session number)
unfolding understood everything store_schema
deletes_seat session number =
    removes (keyed Seat) delete_seat (key_terms (of Seat).table) (seat_key session number)
    (refl, (refl, refl), (lit≤ tt, refl)) (λ db. refl) (key_means Seat (seat_key session number))
