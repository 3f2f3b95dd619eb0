-- How many members an object has.
use Rattle.std.proofs.Common.{◌≡◌, ◌∙◌, ◌∷◌, [], ℕ, List, Bor, map, length, refl, ap, suc}
use Rattle.std.proofs.lemmas.List.{length-map}
use Rattle.json.specs.Json.{Json}
use Rattle.json.specs.Value.{members_of, members_view, value_view}
use Rattle.json.specs.declared.value.Value.{Value}
use Rattle.exam_request.specs.Posted.{count_of}

counted : (ms : List (Bor (List ℕ) × Json)) → count_of (members_of ms) ≡ length ms
counted [] = refl
counted (m ∷ ms) = ap suc (counted ms)

pub count_members : {A : Type 0} → (ms : List (Bor (List ℕ) × Value A)) → count_of (members_view ms) ≡ length ms
count_members ms = counted (map (λ m. (m.0, value_view m.1)) ms) ∙ length-map ms (λ m. (m.0, value_view m.1))
