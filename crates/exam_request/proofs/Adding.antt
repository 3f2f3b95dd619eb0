-- An insert of a route that conflicts with none.
use Rattle.std.proofs.Common.{◌≡◌, ℕ, List, refl}
use Rattle.std.specs.Prelude.{IfErr, OnOk, None, Result, Ok, Err}
use Rattle.matchit.specs.Route.{Scan}
use Rattle.matchit.specs.Router.{InsertsRead, Refused, RouteOf, nearest}
use Rattle.matchit.specs.Rows.{RowsOf}
use Rattle.matchit.specs.declared.error.InsertError.{InsertError}
use Rattle.matchit.specs.declared.error.InsertError.TheVariants.{Conflict, InvalidCatchAll, InvalidParam}
use Rattle.matchit.specs.declared.error.InsertError.TheVariants.{InvalidParamSegment, OutOfMemory}
use Rattle.exam_request.specs.Table.{FreePattern, with_read}
use Rattle.exam_request.specs.declared.routes.Route.{Route}

refused : (p : List ℕ) (rows : RowsOf (RouteOf Route)) (e : InsertError) → nearest p rows ≡ None → Refused p rows e
    → e ≡ OutOfMemory
refused p rows (Conflict with) free h = cc (free, h.1)
refused p rows OutOfMemory free h = refl
refused p rows InvalidParamSegment free h = absurd h
refused p rows InvalidParam free h = absurd h
refused p rows InvalidCatchAll free h = absurd h

pub fails_for_memory : (x : Result Scan InsertError) (route : Route) (old new : RowsOf (RouteOf Route))
    (r : Result (Unit {0}) InsertError) → FreePattern x old → InsertsRead x route old new r
    → IfErr r (λ e. e ≡ OutOfMemory)
fails_for_memory (Ok s) route old new (Ok u) free h = tt
fails_for_memory (Ok s) route old new (Err e) free h = refused s.pattern old e free h.1
fails_for_memory (Err x) route old new r free h = absurd free

pub adds : (x : Result Scan InsertError) (route : Route) (old new : RowsOf (RouteOf Route))
    (r : Result (Unit {0}) InsertError) → FreePattern x old → InsertsRead x route old new r
    → OnOk r (new ≡ with_read x route old)
adds (Ok s) route old new (Ok u) free h = h.1
adds (Ok s) route old new (Err e) free h = tt
adds (Err x) route old new r free h = absurd free
