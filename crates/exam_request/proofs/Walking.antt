-- The walk over a table whose rows begin with the same tokens, with keys of any type.
use Rattle.std.proofs.Common.{◌≡◌, ◌≢◌, ℕ, zero, suc, ◌-◌, ◌<◌, List, [], ◌∷◌, ◌++◌, length, drop, Option, Some, None}
use Rattle.std.proofs.Common.{Bool, true, false, cond, refl, sym, ap, ◌∙◌, arith, ◌==◌, append-nil}
use Rattle.std.specs.Prelude.{option_and_then}
use Rattle.std.proofs.lemmas.Bool.Decides.{nat_tests}
use Rattle.matchit.specs.Level.{IsText}
use Rattle.matchit.specs.Rows.{RowsOf, param_token, catch_all_token}
use Rattle.matchit.specs.Seek.{own, step, or_else, seek, first, param_step, has_slash}
use Rattle.exam_request.specs.Targets.{rest_after}

module _ {K : Type 0} where
  -- each row with these tokens in front
  abbrev pub led_by : List ℕ → RowsOf K → RowsOf K
  led_by w [] = []
  led_by w ((t, k) ∷ rows) = (w ++ t, k) ∷ led_by w rows

  led_by-nil : (rows : RowsOf K) → led_by [] rows ≡ rows
  led_by-nil [] = refl
  led_by-nil ((t, k) ∷ rows) = ap (λ x. (t, k) ∷ x) (led_by-nil rows)

  pub own-append : (x y : RowsOf K) → own (x ++ y) ≡ or_else (own x) (own y)
  own-append [] y = refl
  own-append (([], k) ∷ r) y = refl
  own-append ((a ∷ t, k) ∷ r) y = own-append r y

  pub step-append : (b : ℕ) (x y : RowsOf K) → step b (x ++ y) ≡ step b x ++ step b y
  step-append b [] y = refl
  step-append b (([], k) ∷ r) y = step-append b r y
  step-append b ((a ∷ t, k) ∷ r) y =
      elim (a == b) as (λ v. cond v ((t, k) ∷ step b (r ++ y)) (step b (r ++ y))
      ≡ cond v ((t, k) ∷ step b r) (step b r) ++ step b y) [
        | true ↦ ap (λ x. (t, k) ∷ x) (step-append b r y)
        | false ↦ step-append b r y
      ]

  pub own-led_by : (x : ℕ) (w : List ℕ) (r : RowsOf K) → own (led_by (x ∷ w) r) ≡ None
  own-led_by x w [] = refl
  own-led_by x w ((t, k) ∷ r) = own-led_by x w r

  pub step-hit : (b : ℕ) (w : List ℕ) (r : RowsOf K) → step b (led_by (b ∷ w) r) ≡ led_by w r
  step-hit b w [] = refl
  step-hit b w ((t, k) ∷ r) =
      let e : (b == b) ≡ true = grind (arith, nat_tests) in
      rw e (ap (λ x. (w ++ t, k) ∷ x) (step-hit b w r))

  pub step-miss : (b x : ℕ) (w : List ℕ) (r : RowsOf K) → x ≢ b → step b (led_by (x ∷ w) r) ≡ []
  step-miss b x w [] n = refl
  step-miss b x w ((t, k) ∷ r) n =
      let e : (x == b) ≡ false = grind (arith, nat_tests) in
      rw e (step-miss b x w r n)

  pub or_else-none : (a : Option K) → or_else a None ≡ a
  or_else-none None = refl
  or_else-none (Some k) = refl

  pub param_step-empty : (p : List ℕ) → (param_step {K = K} [] p).1 ≡ []
  unfolding param_step
  param_step-empty p =
      elim (has_slash p) as (λ v. (cond {A = ℕ × RowsOf K} v (0, []) (length p, [])).1 ≡ []) [
        | true ↦ refl
        | false ↦ refl
      ]

  pub seek-empty : (n : ℕ) (p : List ℕ) → seek {K = K} n [] p ≡ None
  unfolding seek
  seek-empty n [] = refl
  seek-empty (suc n) (b ∷ p) = seek-empty n p
  seek-empty zero (b ∷ p) =
      simp (seek-empty 0 p, param_step-empty (b ∷ p), seek-empty (((param_step {K = K} [] (b ∷ p)).0) - 1) p)

  pub seek-drop : (n : ℕ) (r : RowsOf K) (p : List ℕ) → seek n r p ≡ seek 0 r (drop n p)
  unfolding seek
  seek-drop zero r p = refl
  seek-drop (suc n) r [] = refl
  seek-drop (suc n) r (b ∷ p) = seek-drop n r p

  -- rows with no parameter and no catch-all in front go on with the byte alone
  pub by_byte : (r : RowsOf K) (y : ℕ) (p : List ℕ) → step param_token r ≡ [] → step catch_all_token r ≡ []
      → seek 0 r (y ∷ p) ≡ seek 0 (step y r) p
  unfolding seek
  by_byte r y p none one =
      rw (none, one) (simp
      (param_step-empty (y ∷ p), seek-empty ((param_step {K = K} [] (y ∷ p)).0 - 1) p, or_else-none))

  pub by_byte-led : (x : ℕ) (w : List ℕ) (t : RowsOf K) (y : ℕ) (p : List ℕ) → x < 256
      → seek 0 (led_by (x ∷ w) t) (y ∷ p) ≡ seek 0 (step y (led_by (x ∷ w) t)) p
  by_byte-led x w t y p h =
      let n1 : x ≢ param_token = λ e. omega arith in
      let n2 : x ≢ catch_all_token = λ e. omega arith in
      by_byte (led_by (x ∷ w) t) y p (step-miss param_token x w t n1) (step-miss catch_all_token x w t n2)

  -- bytes that all rows begin with
  pub beginning : (w : List ℕ) (t : RowsOf K) (path : List ℕ) → IsText w
      → first (led_by w t) path ≡ option_and_then (first t) (rest_after w path)
  unfolding seek
  beginning [] t path h = ap (λ r. first r path) (led_by-nil t)
  beginning (x ∷ w) t [] h = own-led_by x w t
  beginning (x ∷ w) t (y ∷ p) h = by_byte-led x w t y p h.0 ∙ by (y == x) refl (beginning w t p h.1)
    where
      by : (v : Bool) → (y == x) ≡ v → first (led_by w t) p ≡ option_and_then (first t) (rest_after w p)
          → seek 0 (step y (led_by (x ∷ w) t)) p ≡ option_and_then (first t) (cond v (rest_after w p) None)
      by true e ih =
          let xy : x ≡ y = grind (arith, nat_tests) in
          rw (← xy, step-hit x w t) ih
      by false e ih =
          let n : x ≢ y = λ q. grind (arith, nat_tests) in
          rw (step-miss y x w t n) (seek-empty 0 p)

  -- rows that begin with a byte, and others that begin with other bytes
  pub beside : (x : ℕ) (w : List ℕ) (t others : RowsOf K) (path : List ℕ) → x < 256 → step x others ≡ []
      → step param_token others ≡ [] → step catch_all_token others ≡ []
      → first (led_by (x ∷ w) t ++ others) path ≡ or_else (first (led_by (x ∷ w) t) path) (first others path)
  unfolding seek
  beside x w t others [] h a b c = own-append (led_by (x ∷ w) t) others
  beside x w t others (y ∷ p) h a b c =
      let n1 : x ≢ param_token = λ e. omega arith in
      let n2 : x ≢ catch_all_token = λ e. omega arith in
      let both = by_byte (led_by (x ∷ w) t ++ others) y p
      (step-append param_token (led_by (x ∷ w) t) others ∙ rw (step-miss param_token x w t n1) b)
      (step-append catch_all_token (led_by (x ∷ w) t) others ∙ rw (step-miss catch_all_token x w t n2) c) in
      both ∙ ap (λ r. seek 0 r p) (step-append y (led_by (x ∷ w) t) others) ∙ by (y == x) refl
      ∙ sym (ap (λ q. or_else q (first others (y ∷ p))) (by_byte-led x w t y p h)
      ∙ ap (or_else (seek 0 (step y (led_by (x ∷ w) t)) p)) (by_byte others y p b c))
    where
      by : (v : Bool) → (y == x) ≡ v
          → seek 0 (step y (led_by (x ∷ w) t) ++ step y others) p
          ≡ or_else (seek 0 (step y (led_by (x ∷ w) t)) p) (seek 0 (step y others) p)
      by true e =
          let xy : x ≡ y = grind (arith, nat_tests) in
          rw (← xy, a, append-nil, seek-empty 0 p, or_else-none)
      by false e =
          let n : x ≢ y = λ q. grind (arith, nat_tests) in
          rw (step-miss y x w t n, seek-empty 0 p)
