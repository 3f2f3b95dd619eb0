-- From what a call gives to what is answered.
use Rattle.std.proofs.Common.{◌≡◌, ◌∙◌, ℕ, List, [], ◌∷◌, ◌++◌, map, Option, None, Some, refl, ap, sym}
use Rattle.std.proofs.Common.{subst}
use Rattle.std.proofs.Common.{inl, inr}
use Rattle.std.specs.Prelude.{◌⊎◌, IfOk, IsSome, IsSomeAnd, Result, Ok, Err, codes, option_and_then}
use Rattle.exam_types.specs.declared.refusal.Refusal.{Refusal}
use Rattle.std.specs.List.{flat_map}
use Rattle.std.specs.Option.{option_map}
use Rattle.std.specs.Ordering.{nat_cmp}
use Rattle.sqlite_trees.specs.declared.store.Store.{Ghosts}
use Rattle.exam_rules.specs.declared.rows.Candidate.{Candidate}
use Rattle.exam_rules.specs.Relations.{Code, row_at}
use Rattle.exam_commands.specs.Own.{OwnRows, OwnSessionRow, own_of, own_rows, shown}
use Rattle.exam_commands.specs.declared.own.Own.{Own}
use Rattle.exam_commands.specs.State.{State}
use Rattle.exam_views.specs.Desks.{rows_without_desks, session_without_desk}
use Rattle.exam_store.specs.Stores.{OfficeIn}
use Rattle.exam_request.specs.Answer.{Told, ok_told}
use Rattle.exam_request.specs.Asked.{Request}
use Rattle.exam_request.specs.Bodies.{clash_object, missed_in, page_body}
use Rattle.exam_request.specs.Json.{list_body}
use Rattle.exam_request.specs.declared.choice.Named.{Named}
use Rattle.exam_request.specs.declared.own_bodies.Page.{Page}
use Rattle.exam_request.specs.declared.own_bodies.Page.TheVariants as page
use Rattle.exam_http.specs.Answering.{Answers, AnswersFound, named_as}

-- ---- a number and its code

abbrev pub with_code : ℕ → Code → Named
with_code number code = record { number = number; code = code }

known : (office : State) (number : ℕ) (row : Option Candidate)
    → option_map (with_code number)
    (option_map (λ (own : OwnRows). own.code) (option_map (own_rows office number) row))
    ≡ option_map named_as (option_map (own_rows office number) row)
known office number None = refl
known office number (Some row) = refl

-- the code of this number, if the office has a candidate of it
pub named_at : (office : State) (number : ℕ) (code : Option Code)
    → code ≡ option_map (λ (own : OwnRows). own.code) (own_of office number)
    → option_map (with_code number) code ≡ option_map named_as (own_of office number)
named_at office number code is =
    ap (option_map (with_code number)) is ∙ known office number (row_at nat_cmp office.relations.candidates number)

-- the code of the number that a target names, if the office has a candidate of it
pub named_by : (office : State) (target : Option ℕ) (number : ℕ) (code : Option Code) → Some number ≡ target
    → code ≡ option_map (λ (own : OwnRows). own.code) (own_of office number)
    → option_map (with_code number) code ≡ option_map named_as (option_and_then (own_of office) target)
named_by office target number code at is =
    named_at office number code is ∙ ap (λ n. option_map named_as (option_and_then (own_of office) n)) at

-- a target that names no number names nobody
pub nobody : (office : State) (target : Option ℕ) → None ≡ target
    → None ≡ option_map named_as (option_and_then (own_of office) target)
nobody office target at = ap (λ n. option_map named_as (option_and_then (own_of office) n)) at

-- ---- a page

-- who is shown is viewed
pub viewed : (page : Page) (own : Option Own) (rows : Option OwnRows)
    → option_map (λ own. page_body page (shown own)) own ≡ option_map (page_body page) rows → IsSome rows → IsSome own
viewed page None None is some = absurd cc
viewed page None (Some rows) is some = absurd cc
viewed page (Some own) rows is some = refl

-- what is missed does not depend on desks
same_missed : (own : List OwnSessionRow)
    → flat_map missed_in (map session_without_desk own) ≡ flat_map missed_in own
same_missed [] = refl
same_missed (session ∷ rest) = ap (λ missed. missed_in session ++ missed) (same_missed rest)

same_clashes : (own : OwnRows) → page_body page.Clashes (rows_without_desks own) ≡ page_body page.Clashes own
same_clashes own = ap (λ missed. list_body (codes "clashes") (map clash_object missed)) (same_missed own.sessions)

-- a page of all rows of whoever is viewed
pub whole_viewed : (page : Page) (viewed : Result (Option Own) Refusal) (rows : Option OwnRows)
    → IfOk viewed (λ own. option_map shown own ≡ rows)
    → IfOk viewed (λ own. option_map (λ own. page_body page (shown own)) own ≡ option_map (page_body page) rows)
whole_viewed page (Err refusal) rows is = is
whole_viewed page (Ok own) rows is = through own ∙ ap (option_map (page_body page)) is
  where
    through : (own : Option Own)
        → option_map (λ own. page_body page (shown own)) own ≡ option_map (page_body page) (option_map shown own)
    through None = refl
    through (Some own) = refl

-- a page without desks, of all rows but the desks of whoever is viewed
pub deskless_viewed : (shows : Page) → (shows ≡ page.Clashes) ⊎ (shows ≡ page.Appeals)
    → (viewed : Result (Option Own) Refusal) (rows : Option OwnRows)
    → IfOk viewed (λ own. option_map shown own ≡ option_map rows_without_desks rows)
    → IfOk viewed (λ own. option_map (λ own. page_body shows (shown own)) own ≡ option_map (page_body shows) rows)
deskless_viewed shows which (Err refusal) rows is = is
deskless_viewed shows which (Ok own) rows is =
    whole_viewed shows (Ok own) (option_map rows_without_desks rows) is ∙ by which rows
  where
    same : (shows ≡ page.Clashes) ⊎ (shows ≡ page.Appeals) → (rows : OwnRows)
        → page_body shows (rows_without_desks rows) ≡ page_body shows rows
    same (inl clashes) rows =
        subst (λ p. page_body p (rows_without_desks rows) ≡ page_body p rows) (sym clashes) (same_clashes rows)
    same (inr appeals) rows = subst (λ p. page_body p (rows_without_desks rows) ≡ page_body p rows) (sym appeals) refl

    by : (shows ≡ page.Clashes) ⊎ (shows ≡ page.Appeals) → (rows : Option OwnRows)
        → option_map (page_body shows) (option_map rows_without_desks rows) ≡ option_map (page_body shows) rows
    by which None = refl
    by which (Some rows) = ap Some (same which rows)

pub page_told : (own : Option OwnRows) (page : Page) (body : List ℕ) (told : Told)
    → IsSomeAnd own (λ r. body ≡ page_body page r) → told ≡ ok_told body
    → IsSomeAnd own (λ r. told ≡ ok_told (page_body page r))
page_told None page body told is tells = absurd is
page_told (Some rows) page body told is tells = tells ∙ ap ok_told is

-- ---- a request

pub answered : {S : Type 0} (g : Ghosts S) (today : ℕ) (old : OfficeIn S) (request : Request) (told : Told)
    (new : OfficeIn S)
    → AnswersFound g today old request told new → Answers g today old request told new
answered g today old request told new (inl (shows, busy)) = inl busy
answered g today old request told new (inr does) = inr does
