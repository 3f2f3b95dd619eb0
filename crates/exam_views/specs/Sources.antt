-- A source of appeals, which gives them one by one.
use Rattle.std.specs.Prelude.{◌≡◌, Bool, true, false, List, [], ◌∷◌, Option, None, Some}
use Rattle.exam_types.specs.declared.refusal.Refusal.{Refusal}
use Rattle.exam_types.specs.declared.refusal.Refusal.TheVariants as refusal
use Rattle.exam_views.specs.declared.view.AppealRow.{AppealRow}

-- it gives the first of the rows to come, and those after it are still to come; or no row is to come
abbrev pub Gives : Option AppealRow → List AppealRow → List AppealRow → Type 0
Gives None old new = (old ≡ []) × (new ≡ [])
Gives (Some row) old new = old ≡ row ∷ new

-- there is not enough memory, a call of the store failed, or the store holds no part of a good office
abbrev pub is_source_refusal : Refusal → Bool
is_source_refusal refusal.NoMemory = true
is_source_refusal refusal.Store = true
is_source_refusal refusal.BadStore = true
is_source_refusal e = false
