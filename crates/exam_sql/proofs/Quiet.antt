-- A query leaves the database as it is, whatever its tables are; where it fails, it may undo the transaction.
use Rattle.exam_sql.proofs.Words.{cases_Bool, Row, Trees, Schema, Command, timed, Compiled, CompileError, Error}
use Rattle.exam_sql.proofs.Words.{understood, reads_listing, State, Shown, FailsToQuery, IsNotRun}
use Rattle.std.proofs.Common.{◌≡◌, ◌⊎◌, ℕ, List, [], None, Some, Option, Ok, Err, Result, inl, inr, refl, sym, ap, ◌∙◌}
use Rattle.sqlite_trees.specs.declared.store.Store.{Ghosts}
use Rattle.sqlite_schema.specs.declared.command.Returning.{Returning}
use Rattle.sqlite_resolve.specs.Compile.{compiled, planned, meaning, first, returning, with_command}
use Rattle.sqlite_resolve.specs.Lowering.{Checked, and_then}
use Rattle.sqlite.specs.Given.{HasBegun, HasGiven, Returns}
use Rattle.sqlite.specs.Held.{Held, state}
use Rattle.sqlite.specs.Listing.{if_select, is_select, listing_schema}
use Rattle.sqlite.specs.State.{CommitsShowing, FailsToShow, IsUnchanged, IsRolledBack}

-- the text has no RETURNING
abbrev pub IsQuery : List ℕ → Type 0
IsQuery text = (schema : Schema) (base : ℕ) → and_then (first text) (λ p. returning schema base p.statement) ≡ Ok None

planned_alone : {F : Type 0} (formats : F) (made : F × (Command × Option Returning) → Compiled)
    → ((plan : F × (Command × Option Returning)) → (made plan).returning ≡ plan.1.1)
    → (shown : Checked (Option Returning)) → shown ≡ Ok None
    → (k : Checked Command) (c : Compiled)
    → and_then (and_then (and_then shown (λ s. and_then k (λ it. Ok (it, s)))) (λ found. Ok (formats, found)))
    (λ plan. Ok (made plan)) ≡ Ok c → c.returning ≡ None
planned_alone formats made keeps (Err e) none k c is = absurd cc
planned_alone formats made keeps (Ok s) none (Err e) c is = absurd cc
planned_alone formats made keeps (Ok s) none (Ok it) c is =
    let same : made (formats, (it, s)) ≡ c = cc in
    let bare : s ≡ None = cc in
    sym (ap (λ (d : Compiled). d.returning) same) ∙ keeps (formats, (it, s)) ∙ bare

module _ (text : List ℕ) (query : IsQuery text) where
  compiled_alone : (schema : Schema) (c : Compiled) → compiled schema text ≡ Ok c → c.returning ≡ None
  unfolding compiled planned meaning
  compiled_alone schema c is =
      elim (first text) as
      (λ r. ((base : ℕ) → and_then r (λ p. returning schema base p.statement) ≡ Ok None)
      → and_then r (λ p. and_then (planned schema p) (λ plan. Ok (with_command p plan))) ≡ Ok c
      → c.returning ≡ None) [
        | Ok p ↦ λ none made. planned_alone _ (with_command p) (λ plan. refl) _ (none _) _ c made
        | Err e ↦ λ none made. absurd cc
      ] (query schema) is

  selected : (r : Result Compiled CompileError) (c : Compiled) → if_select r ≡ Ok c → r ≡ Ok c
  selected (Err e) c is = absurd cc
  selected (Ok k) c is =
      elim (cases_Bool (is_select k.command))
      [ inl is_one ↦ rw is_one at is | inr other ↦ absurd (let none = rw other at is in cc) ]

  alone : (schema : Schema) (c : Compiled) → understood schema text ≡ Ok c → c.returning ≡ None
  unfolding understood
  alone schema c is = elim (cases_Bool (reads_listing schema text)) [
    | inl listed ↦ compiled_alone listing_schema c (selected (compiled listing_schema text) c (rw listed at is))
    | inr unlisted ↦ compiled_alone schema c (rw unlisted at is)
  ]

  -- where it succeeds, nothing has changed
  pub shown_unchanged : (params : Row) (old new : State) (rows : List Row) → Shown text params old new rows
      → IsUnchanged old new
  unfolding Shown
  shown_unchanged params old new rows h = (rw (alone old.now.schema h.0 h.1.is) at h.2).3

  -- and it commits nothing
  pub commits_nothing : (params : Row) (s : State) (db : Trees) → CommitsShowing text params s db → ⊥
  unfolding CommitsShowing
  commits_nothing params s db h = let none = rw (alone s.now.schema h.0 h.1.is) at h.2 in cc

  -- where it begins, none of its rows is given yet, and nothing has changed
  pub begun : {S : Type 0} (g : Ghosts S) (params : Row) (old new : Held S) → HasBegun g text params old new
      → HasGiven g text params new [] × IsUnchanged (state g old) (state g new)
  begun g params old new (inl h) = h
  begun g params old new (inr h) = absurd (returns_none (understood old.schema text) refl h.0)
    where
      returns_none : (r : Result Compiled CompileError) → understood old.schema text ≡ r → Returns r → ⊥
      returns_none (Ok c) is some = let none = rw (alone old.schema c is) at some in absurd cc
      returns_none (Err e) is some = some

-- where a query fails, nothing has changed, or the transaction is undone
pub failed_unchanged : (text : List ℕ) (params : Row) (old new : State) (e : Error)
    → FailsToQuery text params old new e → IsUnchanged old new ⊎ IsRolledBack old new
unfolding FailsToQuery IsNotRun
failed_unchanged text params old new e (inl (inl (none, same))) = inl same
failed_unchanged text params old new e (inl (inr (cause, told, has, back, tells))) = inr back
failed_unchanged text params old new e (inr (c, it, fails)) = of_rows c.returning fails
  where
    of_rows : (what : Option Returning) → FailsToShow old new text c (timed params c.formats it.now) e what
        → IsUnchanged old new ⊎ IsRolledBack old new
    of_rows None h = inl h.3
    of_rows (Some what) (inl h) = inl h.1
    of_rows (Some what) (inr (cause, told, has, back, tells)) = inr back
