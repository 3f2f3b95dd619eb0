-- The sheet that words ask for.
use Rattle.exam_theorem.proofs.Words.{Text, Ghosts, Code, Answers, Said, job_shown, Line, Sheet, OfficeIn, LineEnd}
use Rattle.exam_theorem.proofs.Words.{line_of, sheet_of, PrintsAsked}
use Rattle.std.proofs.Common.{◌≡◌, ◌⊎◌, ℕ, List, Option, None, Some, refl, sym, ap, subst, inl, inr}
use Rattle.std.specs.Prelude.{Ok, Err, option_and_then}
use Rattle.exam_line.specs.declared.line.LineFault.{LineFault}
use Rattle.exam_line.specs.declared.line.LineFault.TheVariants.{NoMemory}
use Rattle.exam_theorem.specs.Orders.{sheet_asked}
use Rattle.exam_theorem.specs.declared.orders.LineStop.TheVariants as stop
use Rattle.exam_theorem.proofs.Reading.{line_is, no_line}

-- the sheet of a line that was read
asked_is : (words : List Text) (l : Line) → Answers (Ok l) words → sheet_asked words ≡ sheet_of (job_shown l.job)
asked_is words l h = ap (λ (o : Option Said). option_and_then (λ (s : Said). sheet_of s.job) o) (line_is words l h)

module _ {S W : Type 0} (g : Ghosts S) (contents : W → Option (List ℕ)) (old it : OfficeIn S) (words : List Text)
    (before : W) where
  pub unread : (f : LineFault) → Answers (Err f) words
      → PrintsAsked g contents old it (sheet_asked words) before (Err (stop.NoLine f)) before
  unread f h = by (no_line words f h)
    where
      short : (asked : Option (Code × Sheet))
          → PrintsAsked g contents old it asked before (Err (stop.NoLine NoMemory)) before
      short None = (NoMemory, refl, refl)
      short (Some asked) = inl (refl, refl)

      by : (f ≡ NoMemory) ⊎ (line_of words ≡ None)
          → PrintsAsked g contents old it (sheet_asked words) before (Err (stop.NoLine f)) before
      by (inl is) = subst (λ f. PrintsAsked g contents old it (sheet_asked words) before (Err (stop.NoLine f)) before)
          (sym is) (short (sheet_asked words))
      by (inr is) =
          subst (λ asked. PrintsAsked g contents old it asked before (Err (stop.NoLine f)) before)
          (sym (ap (λ (o : Option Said). option_and_then (λ (s : Said). sheet_of s.job) o) is)) (f, refl, refl)

  pub printed : (l : Line) (end : LineEnd) (after : W) → Answers (Ok l) words
      → PrintsAsked g contents old it (sheet_of (job_shown l.job)) before end after
      → PrintsAsked g contents old it (sheet_asked words) before end after
  printed l end after h prints =
      subst (λ asked. PrintsAsked g contents old it asked before end after) (sym (asked_is words l h)) prints
