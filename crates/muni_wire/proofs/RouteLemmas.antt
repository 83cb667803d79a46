-- Which rows of a router a path finds, if no pattern has a parameter but a catch-all at its end.
use Rattle.std.proofs.Common.{◌≡◌, ◌⊎◌, inl, inr, ◌==◌, ◌&&◌, ◌||◌, ◌+◌, ◌-◌, ◌≤◌, ◌<◌, zero, suc, not, ℕ, List, [], ◌∷◌, ◌++◌, length, take, drop, codes, Bool, true, false, cond, ltb, leb, Option, Some, None, is_some, refl, sym, ap, ◌∙◌, arith}
use Rattle.std.specs.List.{list_all, list_any}
use Rattle.std.proofs.Math.Seq.{drop-append_seam}
use Rattle.std.proofs.lemmas.Bool.Decides.{nat_tests}
use Rattle.std.proofs.lemmas.List.{length-append, take_all}
use Rattle.matchit.specs.Params.{next_at, part_of, walk, wild_from, wild_stop}
use Rattle.matchit.specs.Rows.{RowsOf, catch_all_token, param_token}
use Rattle.matchit.specs.Seek.{first, has_slash, or_else, own, param_step, seek, step}

both : (a b : Bool) → (a && b) ≡ true → (a ≡ true) × (b ≡ true)
both true b e = (refl, e)
both false b e = cc e

and-both : (a b : Bool) → a ≡ true → b ≡ true → (a && b) ≡ true
and-both a b first second = rw (first, second) refl

no-first : (a b : Bool) → not (a || b) ≡ true → (a ≡ false) × (not b ≡ true)
no-first true b e = cc e
no-first false b e = (refl, e)

-- the path is the pattern, or goes on where that has a catch-all
abbrev pub Fits : List ℕ → List ℕ → Type 0
Fits t p = (t ≡ p) ⊎ ((w : List ℕ) × (b : ℕ) × (rest : List ℕ) × (t ≡ w ++ catch_all_token ∷ []) × (p ≡ w ++ b ∷ rest))

further : (b : ℕ) (t p : List ℕ) → Fits t p → Fits (b ∷ t) (b ∷ p)
further b t p (inl e) = inl (ap (λ l. b ∷ l) e)
further b t p (inr (w, c, rest, is, goes)) = inr (b ∷ w, c, rest, ap (λ l. b ∷ l) is, ap (λ l. b ∷ l) goes)

module _ {K : Type 0} where
  -- a row is one of these
  abbrev pub Has : List ℕ × K → RowsOf K → Type 0
  Has row [] = ⊥
  Has row (x ∷ rest) = (x ≡ row) ⊎ Has row rest

  abbrev pub no_param : RowsOf K → Bool
  no_param [] = true
  no_param ((t, key) ∷ rest) = not (list_any (λ x. x == param_token) t) && no_param rest

  step-kept : (b x : ℕ) (v : Bool) (t : List ℕ) (key : K) (rest : RowsOf K) → (x == b) ≡ v → not (list_any (λ x. x == param_token) (x ∷ t)) ≡ true
      → no_param (step b rest) ≡ true → no_param (cond v ((t, key) ∷ step b rest) (step b rest)) ≡ true
  step-kept b x true t key rest is none later = and-both _ _ (no-first (x == param_token) (list_any (λ x. x == param_token) t) none).1 later
  step-kept b x false t key rest is none later = later

  step-free : (b : ℕ) (rs : RowsOf K) → no_param rs ≡ true → no_param (step b rs) ≡ true
  step-free b [] free = refl
  step-free b (([], key) ∷ rest) free = step-free b rest free
  step-free b ((x ∷ t, key) ∷ rest) free =
      let here = both (not (list_any (λ x. x == param_token) (x ∷ t))) (no_param rest) free in
      step-kept b x (x == b) t key rest refl here.0 (step-free b rest here.1)

  step-param : (rs : RowsOf K) → no_param rs ≡ true → step param_token rs ≡ []
  step-param [] free = refl
  step-param (([], key) ∷ rest) free = step-param rest free
  step-param ((x ∷ t, key) ∷ rest) free =
      let here = both (not (list_any (λ x. x == param_token) (x ∷ t))) (no_param rest) free in
      let none = (no-first (x == param_token) (list_any (λ x. x == param_token) t) here.0).0 in
      rw none (step-param rest here.1)

  param-none : (p : List ℕ) → (param_step {K = K} [] p).1 ≡ []
  unfolding param_step
  param-none p =
      elim (has_slash p) as (λ v. (cond {A = ℕ × RowsOf K} v (0, []) (length p, [])).1 ≡ []) [
        | true ↦ refl
        | false ↦ refl
      ]

  seek-none : (k : ℕ) (p : List ℕ) → seek {K = K} k [] p ≡ None
  unfolding seek
  seek-none k [] = refl
  seek-none (suc k) (b ∷ p) = seek-none k p
  seek-none zero (b ∷ p) = simp (seek-none 0 p, param-none (b ∷ p), seek-none (((param_step {K = K} [] (b ∷ p)).0) - 1) p)

  seek-on : (rs : RowsOf K) (b : ℕ) (p : List ℕ) → no_param rs ≡ true → seek 0 rs (b ∷ p) ≡ or_else (seek 0 (step b rs) p) (own (step catch_all_token rs))
  unfolding seek
  seek-on rs b p free = rw (step-param rs free, param-none (b ∷ p), seek-none ((param_step {K = K} [] (b ∷ p)).0 - 1) p) refl

  -- ---- a route that is found fits the path

  step-has-by : (b x : ℕ) (v : Bool) (t : List ℕ) (key : K) (row : List ℕ × K) (rest : RowsOf K) → (x == b) ≡ v
      → (Has row (step b rest) → Has (b ∷ row.0, row.1) rest) → Has row (cond v ((t, key) ∷ step b rest) (step b rest)) → Has (b ∷ row.0, row.1) ((x ∷ t, key) ∷ rest)
  step-has-by b x true t key row rest is later (inl e) =
      let same : x ≡ b = grind (arith, nat_tests, is) in
      inl (ap (λ (r : List ℕ × K). (x ∷ r.0, r.1)) e ∙ ap (λ y. (y ∷ row.0, row.1)) same)
  step-has-by b x true t key row rest is later (inr e) = inr (later e)
  step-has-by b x false t key row rest is later e = inr (later e)

  step-has : (b : ℕ) (row : List ℕ × K) (rs : RowsOf K) → Has row (step b rs) → Has (b ∷ row.0, row.1) rs
  step-has b row [] h = h
  step-has b row (([], key) ∷ rest) h = inr (step-has b row rest h)
  step-has b row ((x ∷ t, key) ∷ rest) h = step-has-by b x (x == b) t key row rest refl (step-has b row rest) h

  own-has : (k : K) (rs : RowsOf K) → own rs ≡ Some k → Has ([], k) rs
  own-has k [] e = cc e
  own-has k (([], key) ∷ rest) e = inl (ap (λ k. ([], k)) (cc e))
  own-has k ((x ∷ t, key) ∷ rest) e = inr (own-has k rest e)

  either-of : (a b : Option K) (k : K) → or_else a b ≡ Some k → (a ≡ Some k) ⊎ (b ≡ Some k)
  either-of None b k e = inr e
  either-of (Some a) b k e = inl e

  found-by : (rs : RowsOf K) (b : ℕ) (p : List ℕ) (k : K) → (first (step b rs) p ≡ Some k → (t : List ℕ) × Has (t, k) (step b rs) × Fits t p)
      → (first (step b rs) p ≡ Some k) ⊎ (own (step catch_all_token rs) ≡ Some k) → (t : List ℕ) × Has (t, k) rs × Fits t (b ∷ p)
  found-by rs b p k later (inl e) =
      let found = later e in
      (b ∷ found.0, step-has b (found.0, k) rs found.1, further b found.0 p found.2)
  found-by rs b p k later (inr e) =
      (catch_all_token ∷ [], step-has catch_all_token ([], k) rs (own-has k (step catch_all_token rs) e), inr ([], b, p, refl, refl))

  pub found-fits : (rs : RowsOf K) (p : List ℕ) (k : K) → no_param rs ≡ true → first rs p ≡ Some k → (t : List ℕ) × Has (t, k) rs × Fits t p
  unfolding seek
  found-fits rs [] k free e = ([], own-has k rs e, inl refl)
  found-fits rs (b ∷ p) k free e =
      found-by rs b p k (found-fits (step b rs) p k (step-free b rs free)) (either-of (seek 0 (step b rs) p) (own (step catch_all_token rs)) k (sym (seek-on rs b p free) ∙ e))

  -- ---- a path that fits a route finds one

  has-step-by : (b x : ℕ) (v : Bool) (t : List ℕ) (key : K) (row : List ℕ × K) (rest : RowsOf K) → (x == b) ≡ v
      → (Has (b ∷ row.0, row.1) rest → Has row (step b rest)) → Has (b ∷ row.0, row.1) ((x ∷ t, key) ∷ rest) → Has row (cond v ((t, key) ∷ step b rest) (step b rest))
  has-step-by b x true t key row rest is later (inl e) = inl (ap (λ (r : List ℕ × K). (drop 1 r.0, r.1)) e)
  has-step-by b x true t key row rest is later (inr e) = inr (later e)
  has-step-by b x false t key row rest is later (inl e) =
      let same : x ∷ t ≡ b ∷ row.0 = ap (λ (r : List ℕ × K). r.0) e in
      let here : x ≡ b = cc same in
      absurd (grind (arith, nat_tests, is, here))
  has-step-by b x false t key row rest is later (inr e) = later e

  has-step : (b : ℕ) (row : List ℕ × K) (rs : RowsOf K) → Has (b ∷ row.0, row.1) rs → Has row (step b rs)
  has-step b row [] h = h
  has-step b row (([], key) ∷ rest) (inl e) = let none : [] ≡ b ∷ row.0 = ap (λ (r : List ℕ × K). r.0) e in cc none
  has-step b row (([], key) ∷ rest) (inr h) = has-step b row rest h
  has-step b row ((x ∷ t, key) ∷ rest) h = has-step-by b x (x == b) t key row rest refl (has-step b row rest) h

  has-own : (k : K) (rs : RowsOf K) → Has ([], k) rs → is_some (own rs) ≡ true
  has-own k [] h = absurd h
  has-own k (([], key) ∷ rest) h = refl
  has-own k ((x ∷ t, key) ∷ rest) (inl e) = let none : x ∷ t ≡ [] = ap (λ (r : List ℕ × K). r.0) e in cc none
  has-own k ((x ∷ t, key) ∷ rest) (inr h) = has-own k rest h

  or-first : (a b : Option K) → is_some a ≡ true → is_some (or_else a b) ≡ true
  or-first None b e = cc e
  or-first (Some a) b e = refl

  or-last : (a b : Option K) → is_some b ≡ true → is_some (or_else a b) ≡ true
  or-last None b e = e
  or-last (Some a) b e = refl

  -- a path that is a pattern
  pub whole-found : (rs : RowsOf K) (p : List ℕ) (k : K) → no_param rs ≡ true → Has (p, k) rs → is_some (first rs p) ≡ true
  unfolding seek
  whole-found rs [] k free h = has-own k rs h
  whole-found rs (b ∷ p) k free h =
      ap is_some (seek-on rs b p free) ∙ or-first (seek 0 (step b rs) p) (own (step catch_all_token rs)) (whole-found (step b rs) p k (step-free b rs free) (has-step b (p, k) rs h))

  -- one that goes on behind it
  pub behind-found : (rs : RowsOf K) (w : List ℕ) (b : ℕ) (rest : List ℕ) (k : K) → no_param rs ≡ true → Has (w ++ catch_all_token ∷ [], k) rs → is_some (first rs (w ++ b ∷ rest)) ≡ true
  unfolding seek
  behind-found rs [] b rest k free h =
      ap is_some (seek-on rs b rest free)
      ∙ or-last (seek 0 (step b rs) rest) (own (step catch_all_token rs)) (has-own k (step catch_all_token rs) (has-step catch_all_token ([], k) rs h))
  behind-found rs (x ∷ w) b rest k free h =
      ap is_some (seek-on rs x (w ++ b ∷ rest) free)
      ∙ or-first (seek 0 (step x rs) (w ++ b ∷ rest)) (own (step catch_all_token rs)) (behind-found (step x rs) w b rest k (step-free x rs free) (has-step x (w ++ catch_all_token ∷ [], k) rs h))

-- ---- the rest of a path

next-on : (len at : ℕ) → at < len → next_at len at ≡ at + 1
next-on len at inside = let test : ltb at len ≡ true = grind (arith, nat_tests, inside) in rw test refl

run-on : (w : List ℕ) (len token at : ℕ) → list_all (λ b. ltb b param_token) w ≡ true → at + length w ≤ len
    → wild_from (w ++ catch_all_token ∷ []) len token at ≡ (token + length w, at + length w)
run-on [] len token at low inside =
    let a : token ≡ token + 0 = omega arith in
    let b : at ≡ at + 0 = omega arith in
    ap (λ n. (n, at)) a ∙ ap (λ n. (token + 0, n)) b
run-on (x ∷ w) len token at low inside =
    let here = both (ltb x param_token) (list_all (λ b. ltb b param_token) w) low in
    let next = next-on len at (omega arith) in
    let a : token + 1 + length w ≡ token + length (x ∷ w) = omega arith in
    let b : at + 1 + length w ≡ at + length (x ∷ w) = omega arith in
    rw (here.0, next) (run-on w len (token + 1) (at + 1) here.1 (omega arith) ∙ ap (λ n. (n, at + 1 + length w)) a ∙ ap (λ n. (token + length (x ∷ w), n)) b)

part-rest : (w rest : List ℕ) → part_of (w ++ rest) (length w) (length (w ++ rest)) ≡ rest
part-rest w rest =
    let long : length (w ++ rest) ≡ length w + length rest = length-append w rest in
    let a : leb (length w) (length (w ++ rest)) ≡ true = grind (arith, nat_tests, long) in
    let b : leb (length (w ++ rest)) (length (w ++ rest)) ≡ true = grind (arith, nat_tests) in
    let n : length (w ++ rest) - length w ≡ length rest = omega (arith, long) in
    let front : drop (length w) (w ++ rest) ≡ rest = drop-append_seam w rest in
    let all : take (length rest) rest ≡ rest = take_all (length rest) rest (omega arith) in
    rw (a, b, n, front) all

pub walk-rest : (path w rest text : List ℕ) (start end : ℕ) → path ≡ w ++ rest → list_all (λ b. ltb b param_token) w ≡ true
    → ((p : List ℕ) → wild_stop (w ++ catch_all_token ∷ []) (length w) p (length w) ≡ length p) → part_of text start end ≡ codes "rest"
    → walk (w ++ catch_all_token ∷ []) text path ((start, end) ∷ []) 0 0 ≡ (codes "rest", rest) ∷ []
walk-rest path w rest text start end is low stop name =
    let none : 0 + length w ≡ length w = omega arith in
    let run = run-on w (length (w ++ rest)) 0 0 low (omega (arith, length-append w rest)) in
    ap (λ p. walk (w ++ catch_all_token ∷ []) text p ((start, end) ∷ []) 0 0) is ∙ rw (run, none, stop (w ++ rest), name, part-rest w rest) refl
