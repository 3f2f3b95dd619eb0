-- Where `help` is no command of its own, a request for help or for the version is never one of two kinds that may come.
use Rattle.std.proofs.Common.{◌≡◌, ◌⊎◌, ◌∙◌, ◌&&◌, ℕ, zero, suc, Bool, cond, codes, not, true, false, List, [], ◌∷◌}
use Rattle.std.proofs.Common.{Option, Some, None, refl, sym, ap, inl, inr}
use Rattle.std.specs.Prelude.{◌==◌, encode_utf8, find, nat_lt, slice_get, is_some, length, drop}
use Rattle.std.specs.Option.{option_map_or}
use Rattle.std.specs.Str.{bytes_eq, chars}
use Rattle.clap.specs.Lexer.{long_of, short_of}
use Rattle.clap.specs.Facts.{unwrap_or_range}
use Rattle.clap.specs.ValueTests.{accepts}
use Rattle.clap.specs.Walk.{Held, Names, Row, Rule, Step, Text, Waiting, Walk, action_of, answers_to, arg_by_id}
use Rattle.clap.specs.Walk.{arg_by_index, arg_by_long, arg_by_short, attached_value, idle, most_values, next}
use Rattle.clap.specs.Walk.{nothing_held, option, positional, reacted, settled, subcommand, subcommand_met}
use Rattle.clap.specs.Walk.{takes_values, trailing, value, values_or_missing, walk, walk_from, walked, with_default}
use Rattle.clap.specs.Walk.{word_met}
use Rattle.clap.specs.Simple.{App, Shape, argument_words, built, entered, label_of, names_of}
use Rattle.clap.specs.Kinds.{IsAmong, Kinds, check_kinds, or_else, range_kinds, request_kinds, values_kinds}
use Rattle.clap.specs.Faults.{action_fault, built_fault, bundle_step_fault, count_fault, defaults_fault, entered_fault}
use Rattle.clap.specs.Faults.{fault_of, flag_word_fault, flags_fault, level_fault, long_fault, option_fault}
use Rattle.clap.specs.Faults.{other_fault, react_fault, set_fault, settle_fault, short_fault, step_fault, stray_fault}
use Rattle.clap.specs.Faults.{turn_fault, use_fault, walk_fault}
use Rattle.clap.specs.declared.builder.action.ArgAction.{ArgAction}
use Rattle.clap.specs.declared.builder.action.ArgAction.TheVariants as action
use Rattle.clap.specs.declared.builder.value_parser.ValueParser.{ValueParser}
use Rattle.clap.specs.declared.error.kind.ErrorKind.{ErrorKind}
use Rattle.clap.specs.declared.error.kind.ErrorKind.TheVariants as kind
use Rattle.exam_line.specs.Grammar.{grammar}

abbrev pub IsRequest : ErrorKind → Type 0
IsRequest k = (k ≡ kind.DisplayHelp) ⊎ (k ≡ kind.DisplayVersion)

-- a request is the one kind, or none of them
abbrev pub RequestAlone : Kinds → Type 0
RequestAlone ks = (asked : ErrorKind) → IsRequest asked → IsAmong asked ks → ks ≡ asked ∷ []

-- ---- how lists of kinds are put together

none : RequestAlone []
none asked is h = absurd h

one : (k : ErrorKind) → RequestAlone (k ∷ [])
one k asked is (inl e) = ap (λ x. x ∷ []) (sym e)
one k asked is (inr h) = absurd h

first : (a b : Kinds) → RequestAlone a → RequestAlone b → RequestAlone (or_else a b)
first [] b p q = q
first (k ∷ ks) b p q = p

either : (t : Bool) (a b : Kinds) → RequestAlone a → RequestAlone b → RequestAlone (cond t a b)
either true a b p q = p
either false a b p q = q

found : {X : Type 0} (f : X → Kinds) (o : Option X) (d : Kinds) → ((x : X) → RequestAlone (f x)) → RequestAlone d
    → RequestAlone (option_map_or f o d)
found f None d p q = q
found f (Some x) d p q = p x

-- ---- one use of an argument

of_values : (i : Bool) (p : ValueParser) (vs : List Text) → RequestAlone (values_kinds i p vs)
of_values i p [] = none
of_values i p (v ∷ vs) = first _ (values_kinds i p vs) (either (accepts i p v) [] _ none (one _)) (of_values i p vs)

of_range : (least most n : ℕ) → RequestAlone (range_kinds least most n)
of_range least most n =
    either (nat_lt 0 least && n == 0) _ _ (one kind.InvalidValue)
    (either (least == most) _ _ (either (least == n) _ _ none (one kind.WrongNumberOfValues))
    (either (nat_lt n least) _ _ (one kind.TooFewValues) (either (nat_lt most n) _ _ (one kind.TooManyValues) none)))

of_request : (a : ArgAction) → RequestAlone (request_kinds a)
of_request action.Set = none
of_request action.Append = none
of_request action.SetTrue = none
of_request action.SetFalse = none
of_request action.Count = none
of_request action.Help = one _
of_request action.HelpShort = one _
of_request action.HelpLong = one _
of_request action.Version = one _

of_check : (a b d : Bool) → RequestAlone (check_kinds a b d)
of_check a b d = either a _ _ (one _) (either b _ _ (one _) (either d _ _ (one _) none))

of_count : (a : Rule) (values : List Text) (rows : List Row) → RequestAlone (count_fault a values rows)
of_count a [] rows = either _ _ _ none (one _)
of_count a (v ∷ vs) rows = of_values _ _ (v ∷ vs)

of_set : (again : Bool) (a : Rule) (values : List Text) (rows : List Row) → RequestAlone (set_fault again a values rows)
of_set again a values rows = first _ _ (either _ _ _ (one _) none) (of_values _ _ values)

of_action : (act : ArgAction) (again : Bool) (a : Rule) (values : List Text) (rows : List Row)
    → RequestAlone (action_fault act again a values rows)
of_action action.Set again a values rows = of_set again a values rows
of_action action.Append again a values rows = of_values _ _ values
of_action action.SetTrue again a values rows = of_set again a values rows
of_action action.SetFalse again a values rows = of_set again a values rows
of_action action.Count again a values rows = of_count a values rows
of_action action.Help again a values rows = one _
of_action action.HelpShort again a values rows = one _
of_action action.HelpLong again a values rows = one _
of_action action.Version again a values rows = one _

of_use : (again : Bool) (a : Rule) (values : List Text) (rows : List Row) → RequestAlone (use_fault again a values rows)
of_use again a values rows =
    first _ _ (of_range (unwrap_or_range a.range).start_inclusive (most_values a) (length values))
    (of_action (action_of a) again a (values_or_missing a values) rows)

-- ---- the walk

of_settle : (c : List Rule) (again : Bool) (h : Held) → RequestAlone (settle_fault c again h)
of_settle c again h =
    found _ h.pending [] (λ p. found _ (arg_by_id c p.0) [] (λ a. of_use again a p.1 h.rows) none) none

of_react : (c : List Rule) (again : Bool) (a : Rule) (values : List Text) (h : Held)
    → RequestAlone (react_fault c again a values h)
of_react c again a values h = first _ _ (of_settle c again h) (of_use again a values (settled c h).rows)

of_option : (c : List Rule) (again : Bool) (a : Rule) (v : Option Text) (h : Held)
    → RequestAlone (option_fault c again a v h)
of_option c again a (Some v) h = of_react c again a (v ∷ []) h
of_option c again a None h = of_settle c again h

of_long : (c : List Rule) (again : Bool) (a : Option Rule) (v : Option Text) (h : Held)
    → RequestAlone (long_fault c again a v h)
of_long c again None v h = one _
of_long c again (Some a) v h =
    either (takes_values a) _ _ (of_option c again a v h) (either (is_some v) _ _ (one _) (of_react c again a [] h))

of_short : (c : List Rule) (again : Bool) (a : Option Rule) (rest : Text) (h : Held) (after : Held → Kinds)
    → ((h : Held) → RequestAlone (after h)) → RequestAlone (short_fault c again a rest h after)
of_short c again None rest h after alone = one _
of_short c again (Some a) rest h after alone =
    either (takes_values a) _ _ (of_option c again a (attached_value rest) h)
    (first _ _ (of_react c again a [] h) (alone (reacted c a [] h)))

of_bundle_step : (c : List Rule) (again : Bool) (x : Option ℕ) (flags : Text) (skip : ℕ) (h : Held)
    (after : Text → ℕ → Held → Kinds) → ((rest : Text) (skip : ℕ) (h : Held) → RequestAlone (after rest skip h))
    → RequestAlone (bundle_step_fault c again x flags skip h after)
of_bundle_step c again None flags skip h after alone = none
of_bundle_step c again (Some x) flags zero h after alone =
    let rest = drop (length (encode_utf8 x)) flags in
    of_short c again (arg_by_short c x) rest h (after rest 0) (alone rest 0)
of_bundle_step c again (Some x) flags (suc skip) h after alone = alone (drop (length (encode_utf8 x)) flags) skip h

of_flags : (c : List Rule) (again : Bool) (k : ℕ) (flags : Text) (skip : ℕ) (h : Held)
    → RequestAlone (flags_fault c again k flags skip h)
unfolding flags_fault
of_flags c again zero flags skip h = none
of_flags c again (suc k) flags skip h =
    of_bundle_step c again (slice_get (chars flags) 0) flags skip h (flags_fault c again k) (of_flags c again k)

of_flag_word : (c : List Rule) (again : Bool) (name : Option (Text × Option Text)) (word : Text) (h : Held)
    → RequestAlone (flag_word_fault c again name word h)
of_flag_word c again (Some p) word h = of_long c again (arg_by_long c p.0) p.1 h
of_flag_word c again None word h =
    found _ (short_of word) [] (λ flags. of_flags c again (length flags) flags h.skip (record h { skip = 0 })) none

no_command : (is_help disabled : Bool) (a : Kinds) → disabled ≡ true
    → RequestAlone (cond (is_help && not disabled) a [])
no_command true true a e = none
no_command true false a e = cc e
no_command false disabled a e = none

-- a word that is not taken at the end of `--` names no help
abbrev Quiet : Shape → Names → Type 0
Quiet s names = (waiting : Waiting) (word : Text) (h : Held)
    → RequestAlone (other_fault s (subcommand_met names waiting word) word h)

of_other : (s : Shape) → s.disable_help_subcommand ≡ true → (name : Option Text) (word : Text) (h : Held)
    → RequestAlone (other_fault s name word h)
of_other s off (Some name) word h = no_command (bytes_eq name (codes "help")) s.disable_help_subcommand _ off
of_other s off None word h =
    either (bytes_eq word (45 ∷ 45 ∷ [])) _ _ none (of_flag_word s.rules s.args_override_self (long_of word) word h)

of_no_name : (s : Shape) (word : Text) (h : Held) → RequestAlone (other_fault s None word h)
of_no_name s word h =
    either (bytes_eq word (45 ∷ 45 ∷ [])) _ _ none (of_flag_word s.rules s.args_override_self (long_of word) word h)

-- a command without commands of its own
leaf : (s : Shape) → Quiet s []
leaf s idle word h = of_no_name s word h
leaf s (option id) word h = of_no_name s word h
leaf s positional word h = of_no_name s word h

-- a request is no kind that differs from both
other : {X : Type 0} {asked k : ErrorKind} → IsRequest asked → asked ≡ k → (kind.DisplayHelp ≡ k → X)
    → (kind.DisplayVersion ≡ k → X) → X
other (inl e) same help version = help (sym e ∙ same)
other (inr e) same help version = version (sym e ∙ same)

of_stray : (s : Shape) → RequestAlone (stray_fault s)
of_stray s = either s.is_leaf _ _ (one _) (λ asked is among. elim among [
  | inl e ↦ other is e (λ h. cc h) (λ h. cc h)
  | inr rest ↦ elim rest [
    | inl e ↦ other is e (λ h. cc h) (λ h. cc h)
    | inr further ↦ absurd further
  ]
])

of_step : (s : Shape) (position : ℕ) (h : Held) (step : Step) → RequestAlone (step_fault s position h step)
of_step s position h (next waiting) = none
of_step s position h (trailing p) = none
of_step s position h (subcommand name) = none
of_step s position h value =
    found _ (arg_by_index s.rules position) (stray_fault s)
    (λ a. either _ _ _ none (of_settle s.rules s.args_override_self h)) (of_stray s)

of_turn : (s : Shape) (names : Names) → Quiet s names → (w : Walk) (word : Text)
    → RequestAlone (turn_fault s names w word)
of_turn s names quiet w word =
    let met = word_met s.rules names w.is_trailing w.waiting w.position word w.held in
    either (is_some w.stopped) _ _ none
    (first _ _ (either w.is_trailing _ _ none (quiet w.waiting word w.held)) (of_step s w.position met.0 met.1))

of_walk : (s : Shape) (names : Names) → Quiet s names → (words : List Text) (w : Walk)
    → RequestAlone (walk_fault s names w words)
unfolding walk_fault
of_walk s names quiet [] w = none
of_walk s names quiet (word ∷ rest) w =
    first _ _ (of_turn s names quiet w word) (of_walk s names quiet rest (walked s.rules names w word))

-- ---- the whole

of_defaults : (rules : List Rule) (rows : List Row) → RequestAlone (defaults_fault rows rules)
unfolding defaults_fault
of_defaults [] rows = none
of_defaults (a ∷ rest) rows =
    first _ _ (either _ _ _ none (first _ _ (of_request (action_of a)) (of_values _ _ a.defaults)))
    (of_defaults rest (with_default rows a))

of_level : (s : Shape) (names : Names) → Quiet s names
    → (h : Held) (words : List Text) (has_subcommand : Bool) (below : Kinds) → RequestAlone below
    → RequestAlone (level_fault s names h words has_subcommand below)
of_level s names quiet h words has_subcommand below alone =
    let end = (walk s.rules names h words).held in
    first _ _ (of_walk s names quiet words (walk_from h))
    (first _ _ alone (first _ _ (of_settle s.rules s.args_override_self end)
    (first _ _ (of_defaults s.rules (settled s.rules end).rows) (of_check _ _ _))))

of_entered : (a : App) (stop : Option (Text × List Text)) → RequestAlone (entered_fault a stop)
of_entered a stop =
    found _ stop [] (λ p. found _ (find (λ s. answers_to p.0 (label_of s)) a.subs) []
    (λ s. of_level s [] (leaf s) nothing_held p.1 false [] none) none) none

of_built : (a : App) → a.top.disable_help_subcommand ≡ true → (h : Held) (words : List Text)
    → RequestAlone (built_fault a h words)
of_built a off h words =
    let stop = (walk a.top.rules (names_of a) h words).stopped in
    of_level a.top (names_of a)
    (λ waiting word held. of_other a.top off (subcommand_met (names_of a) waiting word) word held) h words
    (is_some (entered a stop)) (entered_fault a stop) (of_entered a stop)

pub request_alone : (words : List Text) → RequestAlone (fault_of grammar words)
request_alone words = of_built (built grammar) refl nothing_held (argument_words grammar words)
