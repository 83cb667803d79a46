-- The routes of a server.
use Rattle.std.proofs.Common.{◌≡◌, ◌⊎◌, inl, inr, ◌==◌, ◌||◌, ◌+◌, ◌<◌, ℕ, List, [], ◌∷◌, ◌++◌, length, drop, get_or, not, codes, Bool, true, false, Option, Some, None, MatchOption, is_some, unwrap_or, IsUtf8, refl, sym, ap, subst, ◌∙◌, arith}
use Rattle.std.specs.List.{list_any, position_or_len}
use Rattle.std.specs.Option.{option_or}
use Rattle.std.proofs.Math.Seq.{drop-append_seam}
use Rattle.std.proofs.lemmas.Bool.Decides.{nat_tests}
use Rattle.std.proofs.lemmas.List.{append_cancel_right, length-append}
use Rattle.std.proofs.lemmas.List.Sums.{passes_at_first, prefix_len-le-length}
use Rattle.std.proofs.lemmas.Str.{IsCharBoundary-after_ascii, IsUtf8-drop, IsUtf8-take}
use Rattle.matchit.proofs.OnLiterals.{matchit_on_literals}
use Rattle.matchit.specs.Params.{AllText, named, walk}
use Rattle.matchit.specs.Rows.{catch_all_token}
use Rattle.matchit.specs.Router.{RouteOf}
use Rattle.matchit.specs.Seek.{first}
use Rattle.muni_msg.specs.IssueFields.{cusip_reading}
use Rattle.muni_wire_body.specs.declared.form.Form.{Form}
use Rattle.muni_wire_body.specs.declared.form.Form.TheVariants as form
use Rattle.muni_wire_body.specs.declared.look.Look.{Look}
use Rattle.muni_wire_body.specs.declared.look.Look.TheVariants as look
use Rattle.muni_wire.specs.PathLaws.{IsPathOf}
use Rattle.muni_wire.specs.Routes.{forms, look_at, look_of, of_book_at, path_of, posted_under, target_of}
use Rattle.muni_wire.specs.Table.{LeadsAlong, asked_by, confirmed_by, issue_by, list_after_by, list_by, looked, positions_by, table, version_by, with_route}
use Rattle.muni_wire.specs.declared.router.Route.{Route}
use Rattle.muni_wire.specs.declared.router.Route.TheVariants as route
use Rattle.muni_wire.specs.declared.routes.Target.{Target}
use Rattle.muni_wire.proofs.LookPathLemmas.{one-path}
use Rattle.muni_wire.proofs.PathLemmas.{IsOneOf, either, form-found, list-after-path, list-path, no-list, no-list-after, no-look, no-post, no-trade, of-book, trade-path}
use Rattle.muni_wire.proofs.RouteLemmas.{Fits, Has, behind-found, found-fits, no_param, walk-rest, whole-found}

abbrev Row : Type 0
Row = List ℕ × RouteOf Route

free : no_param table ≡ true
unfolding table with_route matchit_on_literals
free = refl

-- ---- a route that is found leads along it

-- the names of a route with their parts of a path
abbrev pub taken : Route → List ℕ → List (List ℕ × List ℕ)
taken (route.Post posted) rest = []
taken route.Issue rest = (codes "rest", rest) ∷ []
taken route.Trade rest = (codes "rest", rest) ∷ []
taken route.List rest = (codes "rest", rest) ∷ []
taken route.Positions rest = (codes "rest", rest) ∷ []
taken route.Latest rest = (codes "rest", rest) ∷ []

pub record IsFound (path : List ℕ) (r : RouteOf Route) : Type 0 where
  pub rest : List ℕ
  pub leads : LeadsAlong path r.value rest
  pub shows : walk r.pattern r.text path r.names 0 0 ≡ taken r.value rest

or-true : (b : Bool) → (b || true) ≡ true
or-true true = refl
or-true false = refl

has-last : (w : List ℕ) → list_any (λ x. x == catch_all_token) (w ++ catch_all_token ∷ []) ≡ true
has-last [] = refl
has-last (x ∷ w) = rw (has-last w) (or-true (x == catch_all_token))

post-found : (path t : List ℕ) (posted : Form) → list_any (λ x. x == catch_all_token) (posted_under posted) ≡ false → posted_under posted ≡ t → Fits t path → path ≡ posted_under posted
post-found path t posted none is (inl e) = sym (is ∙ e)
post-found path t posted none is (inr (w, b, rest, ends, goes)) =
    let some : list_any (λ x. x == catch_all_token) (posted_under posted) ≡ true = ap (list_any (λ x. x == catch_all_token)) (is ∙ ends) ∙ has-last w in
    absurd (cc (none, some))

rest-found : (path t w : List ℕ) → w ++ catch_all_token ∷ [] ≡ t → Fits t path → (rest : List ℕ) × (path ≡ w ++ rest) × (0 < length rest)
rest-found path t w is (inl e) = (catch_all_token ∷ [], sym (is ∙ e), omega arith)
rest-found path t w is (inr (v, b, rest, ends, goes)) =
    let same : v ≡ w = append_cancel_right v w (catch_all_token ∷ []) (sym (is ∙ ends)) in
    (b ∷ rest, goes ∙ ap (λ l. l ++ b ∷ rest) same, omega arith)

found-in : (path t : List ℕ) (r : RouteOf Route) → Has (t, r) table → Fits t path → IsFound path r
unfolding table with_route matchit_on_literals
found-in path t r (inl e) fits =
    subst (IsFound path) (ap (λ (row : Row). row.1) e)
    (record { rest = []; leads = post-found path t form.Amendment refl (ap (λ (row : Row). row.0) e) fits; shows = refl })
found-in path t r (inr (inl e)) fits =
    subst (IsFound path) (ap (λ (row : Row). row.1) e)
    (record { rest = []; leads = post-found path t form.Cancellation refl (ap (λ (row : Row). row.0) e) fits; shows = refl })
found-in path t r (inr (inr (inl e))) fits =
    subst (IsFound path) (ap (λ (row : Row). row.1) e)
    (record { rest = []; leads = post-found path t form.Check refl (ap (λ (row : Row). row.0) e) fits; shows = refl })
found-in path t r (inr (inr (inr (inl e)))) fits =
    subst (IsFound path) (ap (λ (row : Row). row.1) e)
    (record { rest = []; leads = post-found path t form.Correction refl (ap (λ (row : Row). row.0) e) fits; shows = refl })
found-in path t r (inr (inr (inr (inr (inl e))))) fits =
    let led = rest-found path t (codes "/issues/") (ap (λ (row : Row). row.0) e) fits in
    subst (IsFound path) (ap (λ (row : Row). row.1) e)
    (record { rest = led.0; leads = (led.1, led.2); shows = walk-rest path (codes "/issues/") led.0 (codes "/issues/{*rest}") 10 14 led.1 refl (λ p. refl) refl })
found-in path t r (inr (inr (inr (inr (inr (inl e)))))) fits =
    subst (IsFound path) (ap (λ (row : Row). row.1) e)
    (record { rest = []; leads = post-found path t form.Issue refl (ap (λ (row : Row). row.0) e) fits; shows = refl })
found-in path t r (inr (inr (inr (inr (inr (inr (inl e))))))) fits =
    let led = rest-found path t (codes "/latest/") (ap (λ (row : Row). row.0) e) fits in
    subst (IsFound path) (ap (λ (row : Row). row.1) e)
    (record { rest = led.0; leads = (led.1, led.2); shows = walk-rest path (codes "/latest/") led.0 (codes "/latest/{*rest}") 10 14 led.1 refl (λ p. refl) refl })
found-in path t r (inr (inr (inr (inr (inr (inr (inr (inl e)))))))) fits =
    let led = rest-found path t (codes "/lists/") (ap (λ (row : Row). row.0) e) fits in
    subst (IsFound path) (ap (λ (row : Row). row.1) e)
    (record { rest = led.0; leads = (led.1, led.2); shows = walk-rest path (codes "/lists/") led.0 (codes "/lists/{*rest}") 9 13 led.1 refl (λ p. refl) refl })
found-in path t r (inr (inr (inr (inr (inr (inr (inr (inr (inl e))))))))) fits =
    let led = rest-found path t (codes "/positions/") (ap (λ (row : Row). row.0) e) fits in
    subst (IsFound path) (ap (λ (row : Row). row.1) e)
    (record { rest = led.0; leads = (led.1, led.2); shows = walk-rest path (codes "/positions/") led.0 (codes "/positions/{*rest}") 13 17 led.1 refl (λ p. refl) refl })
found-in path t r (inr (inr (inr (inr (inr (inr (inr (inr (inr (inl e)))))))))) fits =
    subst (IsFound path) (ap (λ (row : Row). row.1) e)
    (record { rest = []; leads = post-found path t form.Quote refl (ap (λ (row : Row). row.0) e) fits; shows = refl })
found-in path t r (inr (inr (inr (inr (inr (inr (inr (inr (inr (inr (inl e))))))))))) fits =
    let led = rest-found path t (codes "/trades/") (ap (λ (row : Row). row.0) e) fits in
    subst (IsFound path) (ap (λ (row : Row). row.1) e)
    (record { rest = led.0; leads = (led.1, led.2); shows = walk-rest path (codes "/trades/") led.0 (codes "/trades/{*rest}") 10 14 led.1 refl (λ p. refl) refl })
found-in path t r (inr (inr (inr (inr (inr (inr (inr (inr (inr (inr (inr (inl e)))))))))))) fits =
    subst (IsFound path) (ap (λ (row : Row). row.1) e)
    (record { rest = []; leads = post-found path t form.Trade refl (ap (λ (row : Row). row.0) e) fits; shows = refl })
found-in path t r (inr (inr (inr (inr (inr (inr (inr (inr (inr (inr (inr (inr none)))))))))))) fits = absurd none

pub is-found : (path : List ℕ) (r : RouteOf Route) → first table path ≡ Some r → IsFound path r
is-found path r e = let found = found-fits table path r free e in found-in path found.0 r found.1 found.2

-- ---- a path that leads along a route finds one

leads-found : (path : List ℕ) (r : Route) (rest : List ℕ) → LeadsAlong path r rest → is_some (first table path) ≡ true
unfolding table with_route matchit_on_literals
leads-found path (route.Post form.Issue) rest leads = rw leads (whole-found table (codes "/issues") _ free (inr (inr (inr (inr (inr (inl refl)))))))
leads-found path (route.Post form.Amendment) rest leads = rw leads (whole-found table (codes "/amendments") _ free (inl refl))
leads-found path (route.Post form.Trade) rest leads = rw leads (whole-found table (codes "/trades") _ free (inr (inr (inr (inr (inr (inr (inr (inr (inr (inr (inr (inl refl)))))))))))))
leads-found path (route.Post form.Correction) rest leads = rw leads (whole-found table (codes "/corrections") _ free (inr (inr (inr (inl refl)))))
leads-found path (route.Post form.Cancellation) rest leads = rw leads (whole-found table (codes "/cancels") _ free (inr (inl refl)))
leads-found path (route.Post form.Quote) rest leads = rw leads (whole-found table (codes "/quotes") _ free (inr (inr (inr (inr (inr (inr (inr (inr (inr (inl refl)))))))))))
leads-found path (route.Post form.Check) rest leads = rw leads (whole-found table (codes "/checks") _ free (inr (inr (inl refl))))
leads-found path route.Issue [] leads = absurd (omega (arith, leads.1))
leads-found path route.Issue (b ∷ rest) leads = rw leads.0 (behind-found table (codes "/issues/") b rest _ free (inr (inr (inr (inr (inl refl))))))
leads-found path route.Trade [] leads = absurd (omega (arith, leads.1))
leads-found path route.Trade (b ∷ rest) leads = rw leads.0 (behind-found table (codes "/trades/") b rest _ free (inr (inr (inr (inr (inr (inr (inr (inr (inr (inr (inl refl))))))))))))
leads-found path route.List [] leads = absurd (omega (arith, leads.1))
leads-found path route.List (b ∷ rest) leads = rw leads.0 (behind-found table (codes "/lists/") b rest _ free (inr (inr (inr (inr (inr (inr (inr (inl refl)))))))))
leads-found path route.Positions [] leads = absurd (omega (arith, leads.1))
leads-found path route.Positions (b ∷ rest) leads = rw leads.0 (behind-found table (codes "/positions/") b rest _ free (inr (inr (inr (inr (inr (inr (inr (inr (inl refl))))))))))
leads-found path route.Latest [] leads = absurd (omega (arith, leads.1))
leads-found path route.Latest (b ∷ rest) leads = rw leads.0 (behind-found table (codes "/latest/") b rest _ free (inr (inr (inr (inr (inr (inr (inl refl))))))))

none-leads : (path : List ℕ) (r : Route) (rest : List ℕ) → first table path ≡ None → LeadsAlong path r rest → ⊥
none-leads path r rest none leads = let some = leads-found path r rest leads in cc (ap is_some none, some)

-- ---- and so does one under which something is asked

abbrev Leads : List ℕ → Type 0
Leads path = (r : Route) × (rest : List ℕ) × LeadsAlong path r rest

book-leads : (p : List ℕ) (t : Target) → IsOneOf p t → Leads p
book-leads p t (inl e) = let posted = no-post p t e in (route.Post posted.0, [], form-found p posted.0 forms posted.1)
book-leads p t (inr (inl e)) =
    let key = no-trade p t e in
    (route.Trade, key.0.desk ++ 47 ∷ key.0.reference, ((trade-path p key.0 (e ∙ ap Some key.1)).1, omega (arith, length-append key.0.desk (47 ∷ key.0.reference))))
book-leads p t (inr (inr (inl e))) =
    let desk = no-list p t e in
    let is = list-path p desk.0 (e ∙ ap Some desk.1) in
    (route.List, desk.0, (is.1, omega (arith, is.0.some)))
book-leads p t (inr (inr (inr e))) =
    let key = no-list-after p t e in
    (route.List, key.0.desk ++ 47 ∷ key.0.reference, ((list-after-path p key.0.desk key.0.reference (e ∙ ap Some key.1)).2, omega (arith, length-append key.0.desk (47 ∷ key.0.reference))))

cusip-some : (cusip : List ℕ) → cusip_reading cusip ≡ Some cusip → 0 < length cusip
cusip-some [] e = cc e
cusip-some (b ∷ rest) e = omega arith

look-leads : (p : List ℕ) (l : Look) → IsPathOf l p → Leads p
look-leads p (look.Issue cusip) is = (route.Issue, cusip, (is.1, cusip-some cusip is.0))
look-leads p (look.Version key number) is =
    let more = key.reference ++ 47 ∷ is.1 in
    (route.Trade, key.desk ++ 47 ∷ more, (is.3, omega (arith, length-append key.desk (47 ∷ more))))
look-leads p (look.Positions desk) is = (route.Positions, desk, (is.1, omega (arith, is.0.some)))
look-leads p (look.Latest desk) is = (route.Latest, desk, (is.1, omega (arith, is.0.some)))

either-leads : (p : List ℕ) (t : Target) → (of_book_at p ≡ Some t) ⊎ (look_at p ≡ Some t) → Leads p
either-leads p t (inl e) = book-leads p t (of-book p t e)
either-leads p t (inr e) = let found = no-look (look_of p) t e in look-leads p found.0 (one-path p found.0 found.1)

asked-leads : (p : List ℕ) (t : Target) → target_of p ≡ Some t → Leads p
unfolding target_of
asked-leads p t e = either-leads p t (either (of_book_at p) (look_at p) t e)

pub none-asked : (path : List ℕ) → first table path ≡ None → target_of path ≡ None
none-asked path none = by (target_of path) refl
  where
    by : (o : Option Target) → target_of path ≡ o → target_of path ≡ None
    by None is = is
    by (Some t) is = let led = asked-leads path t is in absurd (none-leads path led.0 led.1 none led.2)

-- ---- what is asked along a route

or-none : {A : Type 0} (o : Option A) → option_or o None ≡ o
or-none None = refl
or-none (Some a) = refl

pub asked-along : (path : List ℕ) (r : Route) (rest : List ℕ) → LeadsAlong path r rest → asked_by r rest ≡ target_of path
unfolding target_of of_book_at look_of
asked-along path (route.Post form.Issue) rest leads = rw leads refl
asked-along path (route.Post form.Amendment) rest leads = rw leads refl
asked-along path (route.Post form.Trade) rest leads = rw leads refl
asked-along path (route.Post form.Correction) rest leads = rw leads refl
asked-along path (route.Post form.Cancellation) rest leads = rw leads refl
asked-along path (route.Post form.Quote) rest leads = rw leads refl
asked-along path (route.Post form.Check) rest leads = rw leads refl
asked-along path route.Issue rest leads = sym (ap target_of leads.0 ∙ ap looked (or-none (issue_by rest)))
asked-along path route.Trade rest leads =
    sym (ap target_of leads.0
    ∙ ap (λ o. option_or o (looked (option_or (version_by rest) None))) (or-none (confirmed_by rest))
    ∙ ap (λ o. option_or (confirmed_by rest) (looked o)) (or-none (version_by rest)))
asked-along path route.List rest leads = sym (ap target_of leads.0 ∙ or-none (option_or (list_by rest) (list_after_by rest)))
asked-along path route.Positions rest leads = sym (ap target_of leads.0 ∙ ap looked (or-none (positions_by rest)))
asked-along path route.Latest rest leads = sym (ap target_of leads.0)

-- ---- the rest of a path is text

text-behind : (path w rest : List ℕ) (last : ℕ) → path ≡ w ++ rest → length w ≡ last + 1 → get_or (w ++ rest) last 0 < 128 → 0 < length rest → IsUtf8 path → IsUtf8 rest
text-behind path w rest last is long low some text =
    let whole : IsUtf8 (w ++ rest) = subst IsUtf8 is text in
    let cut = IsUtf8-drop (w ++ rest) (last + 1) whole (IsCharBoundary-after_ascii (w ++ rest) last whole (omega (arith, long, length-append w rest)) low) in
    subst IsUtf8 (ap (λ n. drop n (w ++ rest)) (sym long) ∙ drop-append_seam w rest) cut

name-text : IsUtf8 (codes "rest")
unfolding lib.Utf8.encode
name-text = (codes "rest", (refl, refl))

pub all-text : (path : List ℕ) (r : Route) (rest : List ℕ) → LeadsAlong path r rest → IsUtf8 path → AllText (taken r rest)
all-text path (route.Post posted) rest leads text = tt
all-text path route.Issue rest leads text = (name-text, text-behind path (codes "/issues/") rest 7 leads.0 refl (omega arith) leads.1 text, tt)
all-text path route.Trade rest leads text = (name-text, text-behind path (codes "/trades/") rest 7 leads.0 refl (omega arith) leads.1 text, tt)
all-text path route.List rest leads text = (name-text, text-behind path (codes "/lists/") rest 6 leads.0 refl (omega arith) leads.1 text, tt)
all-text path route.Positions rest leads text = (name-text, text-behind path (codes "/positions/") rest 10 leads.0 refl (omega arith) leads.1 text, tt)
all-text path route.Latest rest leads text = (name-text, text-behind path (codes "/latest/") rest 7 leads.0 refl (omega arith) leads.1 text, tt)

-- what stands under the name is that rest
pub named-rest : {X : Type 0} (now : X → List ℕ) (path : List ℕ) (r : Route) (rest : List ℕ) (got : Option X) (fallback : X) → LeadsAlong path r rest
    → MatchOption got (named (codes "rest") (taken r rest) ≡ None) (λ text. named (codes "rest") (taken r rest) ≡ Some (now text))
    → LeadsAlong path r (now (unwrap_or got fallback))
named-rest now path (route.Post posted) rest got fallback leads is = leads
named-rest now path route.Issue rest None fallback leads is = cc is
named-rest now path route.Issue rest (Some text) fallback leads is = subst (LeadsAlong path route.Issue) (cc is) leads
named-rest now path route.Trade rest None fallback leads is = cc is
named-rest now path route.Trade rest (Some text) fallback leads is = subst (LeadsAlong path route.Trade) (cc is) leads
named-rest now path route.List rest None fallback leads is = cc is
named-rest now path route.List rest (Some text) fallback leads is = subst (LeadsAlong path route.List) (cc is) leads
named-rest now path route.Positions rest None fallback leads is = cc is
named-rest now path route.Positions rest (Some text) fallback leads is = subst (LeadsAlong path route.Positions) (cc is) leads
named-rest now path route.Latest rest None fallback leads is = cc is
named-rest now path route.Latest rest (Some text) fallback leads is = subst (LeadsAlong path route.Latest) (cc is) leads

-- ---- so is the path of a target that is text

pub path-text : (target : List ℕ) → IsUtf8 target → IsUtf8 (path_of target)
path-text target text =
    let at = position_or_len (λ b. b == 63) target in
    IsUtf8-take target at text (
      prefix_len-le-length (λ b. not (b == 63)) target,
      λ inside high. (let here : (get_or target at 0 == 63) ≡ true = passes_at_first (λ b. b == 63) target 0 inside in absurd (grind (arith, nat_tests, here, high))),
    )
