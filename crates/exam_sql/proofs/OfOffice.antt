-- The table office: how it is made, what its texts mean, and what they do.
use Rattle.exam_sql.proofs.Words.{Int, Null, Row, value_cmp, Trees, Term, col, Replace, InsertOr, Values, everything}
use Rattle.exam_sql.proofs.Words.{Error, understood, Executes, State, IsPlain, command_of, encode, begins, fits_kind}
use Rattle.exam_sql.proofs.Words.{is_free_name, same_name, ContainsIn, IsLoad, made_schema, first_schema, made}
use Rattle.exam_sql.proofs.Words.{store_schema, IsKeyed}
use Rattle.std.proofs.Common.{Bool, List, OnOk, Result, [], false, lit<, lit≤, pos, refl, true, ℕ, ℤ, ◌∷◌, ◌≡◌}
use Rattle.sqlite_sql.specs.Term.{lit}
use Rattle.exam_sql.specs.Changes.{with_row}
use Rattle.exam_sql.specs.Tables.{office}
use Rattle.exam_sql.proofs.Fits.{Fits, fits_given}
use Rattle.exam_sql.proofs.Keys.{cast_int, cast_null}
use Rattle.exam_sql.proofs.Loads.{load_of}
use Rattle.exam_sql.proofs.Keying.{by_rowid, or_false, or_twice}
use Rattle.exam_sql.proofs.Making.{Adds, IsCreate, adds_by}
use Rattle.exam_sql.proofs.Quiet.{IsQuery}
use Rattle.exam_sql.proofs.Failing.{Answers, answers}
use Rattle.exam_sql.proofs.StatementFails.{IsWhole}
use Rattle.exam_sql.proofs.Statements.{put_sets, sets_by}

-- the text that makes it is understood, and nothing forbids the table
create : IsCreate (made office.at) office.create
unfolding understood everything made
create = (refl, refl, (refl, refl), (lit≤ tt, refl))

pub adds : Adds office
unfolding everything encode value_cmp fits_kind is_free_name same_name begins lib.Ieee.is_nan lib.Ieee.lt made
adds = adds_by office create refl refl refl refl refl refl refl (office.create, (refl, refl))
    (office.table.name, (refl, refl)) refl (lit< tt) (lit< tt) refl refl refl (lit< tt)

-- it has one key, and no foreign key acts on its rows
pub keyed : IsKeyed store_schema office.at office.table office.key (0 ∷ [])
unfolding store_schema
keyed = by_rowid office refl refl refl refl (λ a b. or_twice _) (λ a b. or_false _) (λ a b. refl)

abbrev pub row : ℤ → ℤ → Row
row one version = Int one ∷ Int version ∷ []

-- the row as it is kept, after its rowid
abbrev pub columns : ℤ → ℤ → Row
columns one version = Null ∷ Int version ∷ []

pub fits : (one : ℤ) (version : ℤ) → Fits office.table office.key (Int one) (columns one version) (row one version)
fits one version = fits_given office.table office.key one (columns one version) (row one version) refl
    (simp (cast_null, cast_int)) refl (λ r. refl)

abbrev pub terms : List Term
terms = lit (Int (pos 1)) ∷ lit Null ∷ col 0 0 ∷ []

abbrev pub put_text : List ℕ
put_text = office.put

pub put_is : command_of (understood store_schema put_text) ≡ InsertOr office.at Replace (Values terms 3) []
unfolding understood everything store_schema
put_is = refl

pub put_plain : IsPlain (understood store_schema put_text)
unfolding understood everything store_schema
put_plain = (refl, refl)

pub puts : (old new : State) (version : ℤ) (r : Result ℕ Error) → Executes put_text (Int version ∷ []) old new r
    → OnOk r ((all : Trees) → ContainsIn store_schema old.now all
    → ContainsIn store_schema new.now (with_row office.table.tree office.key (row (pos 1) version) all))
puts old new version r h =
    sets_by store_schema office.at office.table office.key
    (0 ∷ []) keyed Replace [] put_text terms 3 put_is put_plain old new (Int version ∷ []) (row (pos 1) version) r
    (λ limit. put_sets store_schema office.at office.table office.key (0 ∷ []) keyed limit terms 3 (Int version ∷ [])
    (Int (pos 1)) (columns (pos 1) version) (row (pos 1) version) (fits (pos 1) version) refl) h

put_whole : IsWhole put_text 1 (understood store_schema put_text)
unfolding understood everything store_schema
put_whole = (lit≤ tt, refl)

pub put_answers : (old new : State) (version : ℤ) → old.now.schema ≡ store_schema
    → Answers put_text (Int version ∷ []) old new
put_answers old new version has =
    answers put_text (Int version ∷ []) old new store_schema has _ put_is tt put_plain put_whole

-- the text that loads shows each column, with the table of marks or without it
pub loads : (has_marks : Bool) → IsLoad (made_schema has_marks) office.table.tree office.load
unfolding understood everything store_schema first_schema
loads true = load_of (made_schema true) office refl refl (refl, refl) refl (λ db. refl) (λ r. refl)
loads false = load_of (made_schema false) office refl refl (refl, refl) refl (λ db. refl) (λ r. refl)

pub is_query : IsQuery office.load
unfolding everything
is_query schema base = refl
