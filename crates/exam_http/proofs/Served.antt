-- From what is replied to the whole of a request.
use Rattle.std.proofs.Common.{ℕ, List, Option}
use Rattle.std.specs.Prelude.{Result, Ok, Err}
use Rattle.sqlite_trees.specs.declared.store.Store.{Ghosts}
use Rattle.exam_store.specs.Stores.{OfficeIn}
use Rattle.exam_request.specs.Asked.{IsAnswerTo, asked_of}
use Rattle.exam_send.specs.Given.{Gave}
use Rattle.exam_request.specs.declared.reading.Asked.{Asked}
use Rattle.exam_http.specs.Serving.{Replies, Serves}
use Rattle.exam_http.specs.declared.serving.HttpFault.{HttpFault}
use Rattle.exam_http.specs.declared.serving.HttpFault.TheVariants.{Read, Write}
use Rattle.exam_request.specs.Sizes.{most_request}

pub served : {S W : Type 0} (g : Ghosts S) (contents : W → Option (List ℕ)) (today : ℕ) (input rest : Option (List ℕ))
    (a : Asked)
    (old : OfficeIn S) (before : W) (result : Result (Unit {0}) HttpFault) (new : OfficeIn S) (after : W)
    → Gave most_request input rest (IsAnswerTo (Ok a))
    → Replies g contents today (asked_of a) old before result new after
    → Serves g contents today input rest old before result new after
served g contents today input rest a old before (Ok done) new after read h =
    (h.0, record { asked = asked_of a; gave = read; answers = h.1 }, h.2)
served g contents today input rest a old before (Err Read) new after read h = absurd h
served g contents today input rest a old before (Err Write) new after read h =
    (h.0, record { asked = asked_of a; gave = read; answers = h.1 }, h.2)
