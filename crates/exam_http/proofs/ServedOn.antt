-- A request that is served on a day.
use Rattle.std.proofs.Common.{inr, ℕ, List, Option}
use Rattle.std.specs.Prelude.{Result, Ok, Err}
use Rattle.sqlite_trees.specs.declared.store.Store.{Ghosts}
use Rattle.exam_store.specs.Stores.{OfficeIn}
use Rattle.exam_request.specs.Asked.{Request}
use Rattle.exam_request.specs.declared.fault.Fault.{Fault}
use Rattle.exam_http.specs.Serving.{Replies, ServedOn}
use Rattle.exam_http.specs.declared.serving.HttpFault.{HttpFault}
use Rattle.exam_http.specs.declared.serving.HttpFault.TheVariants.{Read, Write}

-- whoever replies to a request serves it
pub replied_on : {S W : Type 0} (g : Ghosts S) (contents : W → Option (List ℕ)) (today : ℕ)
    (asked : Result Request Fault) (old : OfficeIn S) (before : W) (result : Result (Unit {0}) HttpFault)
    (new : OfficeIn S) (after : W)
    → Replies g contents today asked old before result new after → ServedOn g today old new
replied_on g contents today asked old before (Ok done) new after h = inr (asked, h.0, h.1)
replied_on g contents today asked old before (Err Read) new after h = absurd h
replied_on g contents today asked old before (Err Write) new after h = inr (asked, h.0, h.1)
