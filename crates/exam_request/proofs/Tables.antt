-- What the walk finds in the routes of the server, with keys of any type.
use Rattle.std.proofs.Common.{◌≡◌, ◌≢◌, inl, inr, ℕ, suc, ◌-◌, ◌<◌, List, [], ◌∷◌, ◌++◌, length, drop, Option, Some}
use Rattle.std.proofs.Common.{None, Bool, true, false, cond, refl, sym, ap, ◌∙◌, arith, ◌==◌, ◌&&◌, ◌||◌, true≢false}
use Rattle.std.proofs.Common.{length-append, codes, option_map, subst, ltb}
use Rattle.std.specs.Prelude.{option_and_then}
use Rattle.std.specs.Str.{bytes_eq}
use Rattle.std.specs.Cmp.Lexicographic.{bytes_decides}
use Rattle.std.proofs.Math.Seq.{drop-append_seam, drop-length}
use Rattle.std.proofs.lemmas.Bool.Decides.{nat_tests}
use Rattle.matchit.specs.Level.{IsText}
use Rattle.matchit.specs.Rows.{RowsOf, param_token, catch_all_token}
use Rattle.matchit.specs.Seek.{cuts, first, has_slash, longest_from, or_else, own, param_step, seek, segment, step}
use Rattle.matchit.specs.Seek.{with_suffix}
use Rattle.matchit.proofs.OnLiterals.{matchit_on_literals}
use Rattle.matchit.proofs.RouteLemmas.{text-of}
use Rattle.exam_request.specs.Targets.{Target, at_candidates, at_number, at_reference, behind, is_empty, part, reading}
use Rattle.exam_request.specs.Targets.{rest_after}
use Rattle.exam_request.specs.declared.routes.Route.{Route}
use Rattle.exam_request.specs.declared.routes.Route.TheVariants.{Appeal, Appeals, Clashes, Seats}
use Rattle.exam_request.proofs.Cuts.{Cut, IsCut, IsWhole, cut, cuts_none, cuts_slash}
use Rattle.exam_request.proofs.Walking.{beginning, beside, by_byte, led_by, or_else-none, own-led_by, seek-drop}
use Rattle.exam_request.proofs.Walking.{seek-empty, step-hit, step-miss}

-- the texts of parts are bytes
pub text_rest : (w text rest : List ℕ) → IsText text → rest_after w text ≡ Some rest → IsText rest
text_rest [] text rest h e = let same : text ≡ rest = cc e in rw same at h
text_rest (b ∷ w) [] rest h e = cc e
text_rest (b ∷ w) (x ∷ text) rest h e = by (x == b) e (text_rest w text rest h.1)
  where
    by : (v : Bool) → cond v (rest_after w text) None ≡ Some rest → (rest_after w text ≡ Some rest → IsText rest)
        → IsText rest
    by true e later = later e
    by false e later = cc e

pub text_behind : (text rest : List ℕ) → IsText text → behind text ≡ Some rest → IsText rest
text_behind [] rest h e = cc e
text_behind (x ∷ text) rest h e = by (x == 47) e (text_behind text rest h.1)
  where
    by : (v : Bool) → cond v (Some text) (behind text) ≡ Some rest → (behind text ≡ Some rest → IsText rest)
        → IsText rest
    by true e later = let same : text ≡ rest = cc e in rw same at h.1
    by false e later = later e

-- a beginning in two parts
pub rest_after-append : (w v text : List ℕ)
    → rest_after (w ++ v) text ≡ option_and_then (rest_after v) (rest_after w text)
rest_after-append [] v text = refl
rest_after-append (b ∷ w) v [] = refl
rest_after-append (b ∷ w) v (x ∷ text) = by (x == b) (rest_after-append w v text)
  where
    by : (q : Bool) → rest_after (w ++ v) text ≡ option_and_then (rest_after v) (rest_after w text)
        → cond q (rest_after (w ++ v) text) None ≡ option_and_then (rest_after v) (cond q (rest_after w text) None)
    by true e = e
    by false e = refl

-- a beginning with nothing behind it
pub ended : (w text : List ℕ) → rest_after w text ≡ Some [] → bytes_eq text w ≡ true
ended [] [] e = refl
ended [] (x ∷ text) e = cc e
ended (b ∷ w) [] e = cc e
ended (b ∷ w) (x ∷ text) e = by (x == b) e (ended w text)
  where
    by : (v : Bool) → cond v (rest_after w text) None ≡ Some []
        → (rest_after w text ≡ Some [] → bytes_eq text w ≡ true) → (v && bytes_eq text w) ≡ true
    by true e later = later e
    by false e later = cc e

module _ {K : Type 0} where
  -- the suffix after a parameter that a slash follows
  longest_kept : (seg : List ℕ) (u : RowsOf K) → longest_from seg (47 ∷ []) (led_by (47 ∷ []) u) ≡ 47 ∷ []
  longest_kept seg [] = refl
  longest_kept seg ((t, k) ∷ u) = longest_kept seg u

  longest_none : (seg : List ℕ) (u : RowsOf K) → cuts seg (47 ∷ []) ≡ false
      → longest_from seg [] (led_by (47 ∷ []) u) ≡ []
  longest_none seg [] h = refl
  longest_none seg ((t, k) ∷ u) h =
      subst (λ v. longest_from seg (cond v (47 ∷ []) []) (led_by (47 ∷ []) u) ≡ []) (sym h) (longest_none seg u h)

  longest_some : (seg t : List ℕ) (k : K) (u : RowsOf K) → cuts seg (47 ∷ []) ≡ true
      → longest_from seg [] (led_by (47 ∷ []) ((t, k) ∷ u)) ≡ 47 ∷ []
  longest_some seg t k u h =
      subst (λ v. longest_from seg (cond v (47 ∷ []) []) (led_by (47 ∷ []) u) ≡ 47 ∷ []) (sym h) (longest_kept seg u)

  suffix_all : (u : RowsOf K) → with_suffix (47 ∷ []) (led_by (47 ∷ []) u) ≡ led_by (47 ∷ []) u
  suffix_all [] = refl
  suffix_all ((t, k) ∷ u) = ap (λ x. (47 ∷ t, k) ∷ x) (suffix_all u)

  -- the step of a parameter, by the suffix that was chosen
  abbrev step_by : List ℕ → RowsOf K → List ℕ → ℕ × RowsOf K
  step_by chosen rows path =
      cond (ltb 0 (length chosen)) (length (segment path) - length chosen, with_suffix chosen rows)
      (cond (has_slash path) (0, []) (length path, rows))

  slashed : (t : List ℕ) (k : K) (u : RowsOf K) (path : List ℕ) → cuts (segment path) (47 ∷ []) ≡ true
      → param_step (led_by (47 ∷ []) ((t, k) ∷ u)) path ≡ (length (segment path) - 1, led_by (47 ∷ []) ((t, k) ∷ u))
  unfolding param_step
  slashed t k u path h =
      ap (λ l. step_by l (led_by (47 ∷ []) ((t, k) ∷ u)) path) (longest_some (segment path) t k u h)
      ∙ ap (λ r. (length (segment path) - 1, r)) (suffix_all ((t, k) ∷ u))

  unslashed : (u : RowsOf K) (path : List ℕ) → cuts (segment path) (47 ∷ []) ≡ false
      → param_step (led_by (47 ∷ []) u) path ≡ cond (has_slash path) (0, []) (length path, led_by (47 ∷ []) u)
  unfolding param_step
  unslashed u path h = ap (λ l. step_by l (led_by (47 ∷ []) u) path) (longest_none (segment path) u h)

  -- a parameter alone is tried
  by_param : (w : List ℕ) (u : RowsOf K) (y : ℕ) (p : List ℕ) → y < 256
      → seek 0 (led_by (param_token ∷ w) u) (y ∷ p)
      ≡ seek ((param_step (led_by w u) (y ∷ p)).0 - 1) (param_step (led_by w u) (y ∷ p)).1 p
  unfolding seek
  by_param w u y p h =
      let n1 : param_token ≢ y = λ e. omega arith in
      let n2 : param_token ≢ catch_all_token = λ e. omega arith in
      rw (
        step-miss y param_token w u n1,
        step-hit param_token w u,
        step-miss catch_all_token param_token w u n2,
        seek-empty 0 p,
        or_else-none,
      ) refl

  -- where a parameter takes all that is left
  seek_all : (r : RowsOf K) (p : List ℕ) → seek (suc (length p) - 1) r p ≡ own r
  unfolding seek
  seek_all r p =
      let all : suc (length p) - 1 ≡ length p = omega arith in
      seek-drop (suc (length p) - 1) r p ∙ ap (seek 0 r) (ap (λ n. drop n p) all ∙ drop-length p)

  -- what a parameter that a slash follows takes: nothing where no slash or no byte before it is there
  param_whole : (u : RowsOf K) (y : ℕ) (p : List ℕ) → IsWhole (y ∷ p)
      → seek ((param_step (led_by (47 ∷ []) u) (y ∷ p)).0 - 1) (param_step (led_by (47 ∷ []) u) (y ∷ p)).1 p
      ≡ own (led_by (47 ∷ []) u)
  param_whole u y p w =
      let none : cuts (segment (y ∷ p)) (47 ∷ []) ≡ false =
      ap (λ s. cuts s (47 ∷ [])) w.segment_is ∙ cuts_none (y ∷ p) w.slash in
      let step = unslashed u (y ∷ p) none ∙ ap (λ v. cond v (0, []) (length (y ∷ p), led_by (47 ∷ []) u)) w.slash in
      ap (λ s. seek (s.0 - 1) s.1 p) step ∙ seek_all (led_by (47 ∷ []) u) p

  param_empty : (u : RowsOf K) (y : ℕ) (p rest : List ℕ) → IsCut (y ∷ p) rest → part (y ∷ p) ≡ []
      → seek ((param_step (led_by (47 ∷ []) u) (y ∷ p)).0 - 1) (param_step (led_by (47 ∷ []) u) (y ∷ p)).1 p ≡ None
  param_empty u y p rest w e =
      let none : cuts (segment (y ∷ p)) (47 ∷ []) ≡ false =
      ap (λ s. cuts s (47 ∷ [])) (w.segment_is ∙ ap (λ s. s ++ 47 ∷ []) e) in
      let step = unslashed u (y ∷ p) none ∙ ap (λ v. cond v (0, []) (length (y ∷ p), led_by (47 ∷ []) u)) w.slash in
      ap (λ s. seek (s.0 - 1) s.1 p) step ∙ seek-empty (0 - 1) p

  param_part : (t : List ℕ) (k : K) (u : RowsOf K) (y : ℕ) (p rest : List ℕ) (x : ℕ) (q : List ℕ) → IsCut (y ∷ p) rest
      → part (y ∷ p) ≡ x ∷ q
      → seek ((param_step (led_by (47 ∷ []) ((t, k) ∷ u)) (y ∷ p)).0 - 1)
      (param_step (led_by (47 ∷ []) ((t, k) ∷ u)) (y ∷ p)).1 p ≡ first ((t, k) ∷ u) rest
  param_part t k u y p rest x q w e =
      let seg : segment (y ∷ p) ≡ (x ∷ q) ++ 47 ∷ [] = w.segment_is ∙ ap (λ s. s ++ 47 ∷ []) e in
      let some : cuts (segment (y ∷ p)) (47 ∷ []) ≡ true = ap (λ s. cuts s (47 ∷ [])) seg ∙ cuts_slash x q in
      let size = length-append q (47 ∷ []) in
      let skip : length (segment (y ∷ p)) - 1 - 1 ≡ length q = ap (λ s. length s - 1 - 1) seg ∙ omega arith in
      let tail : p ≡ q ++ 47 ∷ rest = ap (drop 1) (w.text ∙ ap (λ s. s ++ 47 ∷ rest) e) in
      let at : drop (length (segment (y ∷ p)) - 1 - 1) p ≡ 47 ∷ rest =
      ap (λ n. drop n p) skip ∙ ap (drop (length q)) tail ∙ drop-append_seam q (47 ∷ rest) in
      ap (λ s. seek (s.0 - 1) s.1 p) (slashed t k u (y ∷ p) some)
      ∙ seek-drop (length (segment (y ∷ p)) - 1 - 1) (led_by (47 ∷ []) ((t, k) ∷ u)) p
      ∙ ap (seek 0 (led_by (47 ∷ []) ((t, k) ∷ u))) at ∙ beginning (47 ∷ []) ((t, k) ∷ u) (47 ∷ rest) (omega arith, tt)

  none_twice : (b : Bool) → cond {A = Option K} b None None ≡ None
  none_twice true = refl
  none_twice false = refl

  -- a parameter that a slash follows
  pub before_slash : (t : List ℕ) (k : K) (u : RowsOf K) (path : List ℕ) → IsText path
      → first (led_by (param_token ∷ 47 ∷ []) ((t, k) ∷ u)) path
      ≡ cond (is_empty (part path)) None (option_and_then (first ((t, k) ∷ u)) (behind path))
  unfolding seek
  before_slash t k u [] h = own-led_by param_token (47 ∷ []) ((t, k) ∷ u)
  before_slash t k u (y ∷ p) h = by_param (47 ∷ []) ((t, k) ∷ u) y p h.0 ∙ by (cut (y ∷ p)) (part (y ∷ p)) refl
    where
      by : Cut (y ∷ p) → (q : List ℕ) → part (y ∷ p) ≡ q
          → seek ((param_step (led_by (47 ∷ []) ((t, k) ∷ u)) (y ∷ p)).0 - 1)
          (param_step (led_by (47 ∷ []) ((t, k) ∷ u)) (y ∷ p)).1 p
          ≡ cond (is_empty q) None (option_and_then (first ((t, k) ∷ u)) (behind (y ∷ p)))
      by (inl w) q e = param_whole ((t, k) ∷ u) y p w ∙ own-led_by 47 [] ((t, k) ∷ u)
          ∙ sym (ap (λ b. cond (is_empty q) None (option_and_then (first ((t, k) ∷ u)) b)) w.behind_is
          ∙ none_twice (is_empty q))
      by (inr (rest, w)) [] e = param_empty ((t, k) ∷ u) y p rest w e
      by (inr (rest, w)) (x ∷ q) e =
          param_part t k u y p rest x q w e ∙ sym (ap (option_and_then (first ((t, k) ∷ u))) w.behind_is)

  -- a parameter that ends the route
  pub at_end : (k : K) (path : List ℕ) → IsText path
      → first ((param_token ∷ [], k) ∷ []) path ≡ cond (is_empty path || has_slash path) None (Some k)
  unfolding seek param_step
  at_end k [] h = refl
  at_end k (y ∷ p) h = by_param [] (([], k) ∷ []) y p h.0 ∙ by (has_slash (y ∷ p))
    where
      by : (v : Bool) → seek ((cond {A = ℕ × RowsOf K} v (0, []) (suc (length p), ([], k) ∷ [])).0 - 1)
          (cond {A = ℕ × RowsOf K} v (0, []) (suc (length p), ([], k) ∷ [])).1 p ≡ cond v None (Some k)
      by true = seek-empty (0 - 1) p
      by false = seek_all (([], k) ∷ []) p

  -- ---- the routes

  -- the bytes end here
  ends : (w text : List ℕ) (k : K)
      → option_and_then (first (([], k) ∷ [])) (rest_after w text) ≡ cond (bytes_eq text w) (Some k) None
  unfolding seek
  ends [] [] k = refl
  ends [] (x ∷ text) k = by_byte (([], k) ∷ []) x text refl refl ∙ seek-empty 0 text
  ends (b ∷ w) [] k = refl
  ends (b ∷ w) (x ∷ text) k = by (x == b) (ends w text k)
    where
      by : (v : Bool) → option_and_then (first (([], k) ∷ [])) (rest_after w text)
          ≡ cond (bytes_eq text w) (Some k) None
          → option_and_then (first (([], k) ∷ [])) (cond v (rest_after w text) None)
          ≡ cond (v && bytes_eq text w) (Some k) None
      by true e = e
      by false e = refl

  exactly : (b : ℕ) (w text : List ℕ) (k : K) → IsText (b ∷ w)
      → first (led_by (b ∷ w) (([], k) ∷ [])) text ≡ cond (bytes_eq text (b ∷ w)) (Some k) None
  exactly b w text k h = beginning (b ∷ w) (([], k) ∷ []) text h ∙ ends (b ∷ w) text k

  -- the rows behind "/candidates/{number}/"
  abbrev pub under_number : (Route → K) → RowsOf K
  under_number key =
      (codes "appeals/" ++ param_token ∷ [], key Appeal) ∷ (codes "appeals", key Appeals)
      ∷ (codes "clashes", key Clashes) ∷ (codes "seats", key Seats) ∷ []

  abbrev pub all_routes : (Route → K) → RowsOf K
  all_routes key = led_by (codes "/candidates/") (led_by (param_token ∷ 47 ∷ []) (under_number key))

  -- the rows behind "/candidates/{number}/appeals"
  abbrev behind_appeals : (Route → K) → RowsOf K
  behind_appeals key = (47 ∷ param_token ∷ [], key Appeal) ∷ ([], key Appeals) ∷ []

  abbrev keyed : (Route → K) → Option Target → Option K
  keyed key t = option_map (λ x. key x.route) t

  referred : (key : Route → K) (n p : List ℕ)
      → cond (is_empty p || has_slash p) None (Some (key Appeal)) ≡ keyed key (at_reference n p)
  referred key n p = by (is_empty p || has_slash p)
    where
      by : (v : Bool) → cond v None (Some (key Appeal))
          ≡ keyed key (cond v None (Some (record { route = Appeal; number = n; reference = p })))
      by true = refl
      by false = refl

  after_appeals : (key : Route → K) (n : List ℕ) (r : Option (List ℕ))
      → ((rest : List ℕ) → r ≡ Some rest → IsText rest) → (r ≡ Some [] → ⊥)
      → option_and_then (first (behind_appeals key)) r
      ≡ keyed key (option_and_then (at_reference n) (option_and_then (rest_after (47 ∷ [])) r))
  unfolding seek
  after_appeals key n None texts more = refl
  after_appeals key n (Some []) texts more = absurd (more refl)
  after_appeals key n (Some (y ∷ p)) texts more = by_byte (behind_appeals key) y p refl refl ∙ by (y == 47) refl
    where
      by : (v : Bool) → (y == 47) ≡ v
          → seek 0 (step y (behind_appeals key)) p ≡ keyed key (option_and_then (at_reference n) (cond v (Some p) None))
      by true e =
          let is : y ≡ 47 = grind (arith, nat_tests) in
          rw is (at_end (key Appeal) p (texts (y ∷ p) refl).1 ∙ referred key n p)
      by false e =
          let other : (47 == y) ≡ false = grind (arith, nat_tests) in
          rw other (seek-empty 0 p)

  -- a text behind "/candidates/{number}/"
  behind_slash : (key : Route → K) (n text : List ℕ) → IsText text
      → first (under_number key) text ≡ keyed key (at_number n text)
  unfolding matchit_on_literals
  behind_slash key n text h =
      by (bytes_eq text (codes "seats")) refl (bytes_eq text (codes "clashes")) refl
      (bytes_eq text (codes "appeals")) refl
    where
      by : (s : Bool) → bytes_eq text (codes "seats") ≡ s → (c : Bool) → bytes_eq text (codes "clashes") ≡ c
          → (a : Bool) → bytes_eq text (codes "appeals") ≡ a
          → first (under_number key) text
          ≡ keyed key (cond s (Some (record { route = Seats; number = n; reference = [] }))
          (cond c (Some (record { route = Clashes; number = n; reference = [] }))
          (cond a (Some (record { route = Appeals; number = n; reference = [] }))
          (option_and_then (at_reference n) (rest_after (codes "appeals/") text)))))
      by true s c ec a ea = let is = (bytes_decides text (codes "seats")).0 s in rw is refl
      by false s true c a ea = let is = (bytes_decides text (codes "clashes")).0 c in rw is refl
      by false s false c true a = let is = (bytes_decides text (codes "appeals")).0 a in rw is refl
      by false s false c false a =
          let one = beside 97 (codes "ppeals") (behind_appeals key)
          ((codes "clashes", key Clashes) ∷ (codes "seats", key Seats) ∷ []) text (omega arith) refl refl refl in
          let two = beside 99 (codes "lashes") (([], key Clashes) ∷ []) ((codes "seats", key Seats) ∷ []) text
          (omega arith) refl refl refl in
          let clashes = exactly 99 (codes "lashes") text (key Clashes) (text-of (codes "clashes") refl)
          ∙ ap (λ v. cond v (Some (key Clashes)) None) c in
          let seats = exactly 115 (codes "eats") text (key Seats) (text-of (codes "seats") refl)
          ∙ ap (λ v. cond v (Some (key Seats)) None) s in
          let appeals = beginning (codes "appeals") (behind_appeals key) text (text-of (codes "appeals") refl) in
          let others : first ((codes "clashes", key Clashes) ∷ (codes "seats", key Seats) ∷ []) text ≡ None =
          two ∙ ap (λ q. or_else q (first ((codes "seats", key Seats) ∷ []) text)) clashes ∙ seats in
          let left = after_appeals key n (rest_after (codes "appeals") text)
          (λ rest e. text_rest (codes "appeals") text rest h e)
          (λ e. true≢false (sym (ended (codes "appeals") text e) ∙ a)) in
          one ∙ ap (or_else (first (led_by (codes "appeals") (behind_appeals key)) text)) others
          ∙ or_else-none (first (led_by (codes "appeals") (behind_appeals key)) text) ∙ appeals ∙ left
          ∙ ap (λ r. keyed key (option_and_then (at_reference n) r))
          (sym (rest_after-append (codes "appeals") (47 ∷ []) text))

  -- what the walk finds is the reading
  pub walk_reads : (key : Route → K) (target : List ℕ) → IsText target
      → first (all_routes key) target ≡ keyed key (reading target)
  walk_reads key target h =
      beginning (codes "/candidates/") (led_by (param_token ∷ 47 ∷ []) (under_number key)) target
      (text-of (codes "/candidates/") refl)
      ∙ by (rest_after (codes "/candidates/") target) (λ rest e. text_rest (codes "/candidates/") target rest h e)
    where
      inner : (text : List ℕ) → (empty : Bool) (b : Option (List ℕ)) → ((rest : List ℕ) → b ≡ Some rest → IsText rest)
          → cond empty None (option_and_then (first (under_number key)) b)
          ≡ keyed key (cond empty None (option_and_then (at_number (part text)) b))
      inner text true b t = refl
      inner text false None t = refl
      inner text false (Some rest) t = behind_slash key (part text) rest (t rest refl)

      by : (r : Option (List ℕ)) → ((rest : List ℕ) → r ≡ Some rest → IsText rest)
          → option_and_then (first (led_by (param_token ∷ 47 ∷ []) (under_number key))) r
          ≡ keyed key (option_and_then at_candidates r)
      by None t = refl
      by (Some text) t =
          before_slash (codes "appeals/" ++ param_token ∷ []) (key Appeal)
          ((codes "appeals", key Appeals) ∷ (codes "clashes", key Clashes) ∷ (codes "seats", key Seats) ∷ []) text
          (t text refl)
          ∙ inner text (is_empty (part text)) (behind text) (λ rest e. text_behind text rest (t text refl) e)
