-- What `serde_json` writes for objects is their text.
use Rattle.std.proofs.Common.{◌≡◌, ◌∙◌, ◌++◌, ◌||◌, ℕ, Bool, true, false, List, [], ◌∷◌, refl, sym, ap, append_assoc}
use Rattle.std.proofs.Common.{map, codes}
use Rattle.json.specs.Print.{quoted}
use Rattle.serde_json.specs.Data as values
use Rattle.serde_json.specs.View.{items_of}
use Rattle.serde_json.specs.Written.{comma_if, compact_text, has_float, items_have_float, items_text}
use Rattle.serde_json.specs.Written.{members_have_float, members_text}
use Rattle.exam_request.specs.Json.{Datum, Object, flag, list_body, listed, member_text, null, number, object_text}
use Rattle.exam_request.specs.Json.{text, text_of}
use Rattle.exam_request.specs.Values.{data_of, members_data, object_data}

printed : (d : Datum) → compact_text (data_of d) ≡ text_of d
printed null = refl
printed (number n) = refl
printed (flag true) = refl
printed (flag false) = refl
printed (text t) = refl

members_printed : (later : Bool) (ms : Object)
    → members_text later (members_data ms) ≡ listed member_text (comma_if later) (codes "}") ms
members_printed later [] = refl
members_printed later (m ∷ ms) =
    let left : List ℕ = members_text true (members_data ms) in
    ap (λ x. comma_if later ++ (quoted m.0 ++ 58 ∷ (x ++ left))) (printed m.1)
    ∙ ap (λ x. comma_if later ++ (quoted m.0 ++ 58 ∷ (text_of m.1 ++ x))) (members_printed true ms)
    ∙ ap (λ x. comma_if later ++ x)
    (sym (append_assoc (quoted m.0) (58 ∷ text_of m.1) (listed member_text (codes ",") (codes "}") ms)))

object_printed : (o : Object) → compact_text (object_data o) ≡ object_text o
object_printed o = ap (λ x. 123 ∷ x) (members_printed false o)

rows_printed : (later : Bool) (rows : List Object)
    → items_text later (items_of (map object_data rows))
    ++ codes "}" ≡ listed object_text (comma_if later) (codes "]}") rows
rows_printed later [] = refl
rows_printed later (o ∷ rows) =
    let left : List ℕ = items_text true (items_of (map object_data rows)) in
    append_assoc (comma_if later) (compact_text (object_data o) ++ left) (codes "}")
    ∙ ap (λ x. comma_if later ++ x) (append_assoc (compact_text (object_data o)) left (codes "}")
    ∙ ap (λ x. x ++ (left ++ codes "}")) (object_printed o)
    ∙ ap (λ x. object_text o ++ x) (rows_printed true rows))

-- a list of these objects under a name
abbrev pub list_data : List ℕ → List values.Data → values.Data
list_data name rows = values.object (values.member name (values.array (items_of rows)) values.no_members)

list_printed : (name : List ℕ) (rows : List Object)
    → compact_text (list_data name (map object_data rows)) ≡ list_body name rows
list_printed name rows = ap (λ x. 123 ∷ (quoted name ++ 58 ∷ 91 ∷ x)) (rows_printed false rows)

-- ---- no float

no_float : (d : Datum) → has_float (data_of d) ≡ false
no_float null = refl
no_float (number n) = refl
no_float (flag b) = refl
no_float (text t) = refl

members_without : (ms : Object) → members_have_float (members_data ms) ≡ false
members_without [] = refl
members_without (m ∷ ms) = ap (λ b. b || members_have_float (members_data ms)) (no_float m.1) ∙ members_without ms

rows_without : (rows : List Object) → items_have_float (items_of (map object_data rows)) ≡ false
rows_without [] = refl
rows_without (o ∷ rows) =
    ap (λ b. b || items_have_float (items_of (map object_data rows))) (members_without o) ∙ rows_without rows

-- ---- the body

pub list_written : (name : List ℕ) (rows : List values.Data) (all : List Object) (value : values.Data) (body : List ℕ)
    → rows ≡ map object_data all → value ≡ list_data name rows
    → (has_float value ≡ false → body ≡ compact_text value) → body ≡ list_body name all
list_written name rows all value body are is written =
    written (ap has_float same ∙ ap (λ b. b || false) (rows_without all)) ∙ ap compact_text same ∙ list_printed name all
  where
    same : value ≡ list_data name (map object_data all)
    same = is ∙ ap (list_data name) are
