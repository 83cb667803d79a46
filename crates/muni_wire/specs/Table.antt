-- The routes of a server.
use Rattle.std.specs.Prelude.{◌≡◌, ◌<◌, ℕ, List, [], ◌∷◌, ◌++◌, length, codes, Option, Some, None, option_map, Result, Ok, Err}
use Rattle.std.specs.Char.{is_ascii_alphanumeric}
use Rattle.std.specs.Option.{option_or}
use Rattle.std.specs.Result.{result_ok}
use Rattle.matchit.specs.Order.{placed}
use Rattle.matchit.specs.Route.{Scan, parse_route}
use Rattle.matchit.specs.Router.{RouteOf, route_from}
use Rattle.matchit.specs.Rows.{RowsOf}
use Rattle.matchit.specs.declared.error.InsertError.{InsertError}
use Rattle.muni_msg.specs.Fields.{◌>>=◌, version_number}
use Rattle.muni_msg.specs.IssueFields.{cusip_reading}
use Rattle.muni_msg.specs.Names.{is_desk_letter}
use Rattle.muni_msg.specs.NameReading.{name_reading}
use Rattle.muni_msg.specs.declared.command.Command.TheVariants.{Confirm, List as ListTrades}
use Rattle.muni_wire_body.specs.declared.look.Look.{Look}
use Rattle.muni_wire_body.specs.declared.look.Look.TheVariants as look
use Rattle.muni_wire_body.specs.declared.look.Request.TheVariants.{Book, Look as LookAt}
use Rattle.muni_wire_body.specs.declared.form.Form.TheVariants as form
use Rattle.muni_wire.specs.Routes.{key_of, parts_of, posted_under}
use Rattle.muni_wire.specs.declared.router.Route.{Route}
use Rattle.muni_wire.specs.declared.router.Route.TheVariants as route
use Rattle.muni_wire.specs.declared.routes.Target.{Target}
use Rattle.muni_wire.specs.declared.routes.Target.TheVariants as target

-- the rows of a router with one route more
abbrev pub with_scan : RowsOf (RouteOf Route) → Result Scan InsertError → Route → RowsOf (RouteOf Route)
with_scan rows (Ok scan) leads = placed (scan.pattern, route_from scan leads) rows
with_scan rows (Err error) leads = rows

unfoldable pub with_route : RowsOf (RouteOf Route) → List ℕ × Route → RowsOf (RouteOf Route)
with_route rows added = with_scan rows (parse_route added.0) added.1

-- and with these
abbrev pub with_routes : RowsOf (RouteOf Route) → List (List ℕ × Route) → RowsOf (RouteOf Route)
with_routes rows [] = rows
with_routes rows (first ∷ others) = with_routes (with_route rows first) others

-- the routes, where `{*rest}` stands for what follows and is not empty
abbrev pub routes : List (List ℕ × Route)
routes =
    (codes "/issues", route.Post form.Issue)
    ∷ (codes "/amendments", route.Post form.Amendment)
    ∷ (codes "/trades", route.Post form.Trade)
    ∷ (codes "/corrections", route.Post form.Correction)
    ∷ (codes "/cancels", route.Post form.Cancellation)
    ∷ (codes "/quotes", route.Post form.Quote)
    ∷ (codes "/checks", route.Post form.Check)
    ∷ (codes "/issues/{*rest}", route.Issue)
    ∷ (codes "/trades/{*rest}", route.Trade)
    ∷ (codes "/lists/{*rest}", route.List)
    ∷ (codes "/positions/{*rest}", route.Positions)
    ∷ (codes "/latest/{*rest}", route.Latest)
    ∷ []

-- the rows of a router with these routes and no others
unfoldable pub table : RowsOf (RouteOf Route)
table = with_routes [] routes

-- a path that leads along a route, with the rest of it
abbrev pub LeadsAlong : List ℕ → Route → List ℕ → Type 0
LeadsAlong path (route.Post posted) rest = path ≡ posted_under posted
LeadsAlong path route.Issue rest = (path ≡ codes "/issues/" ++ rest) × (0 < length rest)
LeadsAlong path route.Trade rest = (path ≡ codes "/trades/" ++ rest) × (0 < length rest)
LeadsAlong path route.List rest = (path ≡ codes "/lists/" ++ rest) × (0 < length rest)
LeadsAlong path route.Positions rest = (path ≡ codes "/positions/" ++ rest) × (0 < length rest)
LeadsAlong path route.Latest rest = (path ≡ codes "/latest/" ++ rest) × (0 < length rest)

-- a look as a target
abbrev pub looked : Option Look → Option Target
looked found = option_map (λ look. target.Get (LookAt look)) found

-- what is asked along each route by the rest of a path
abbrev pub issue_by : List ℕ → Option Look
issue_by rest = cusip_reading rest >>= λ cusip. Some (look.Issue cusip)

abbrev pub confirmed_by : List ℕ → Option Target
confirmed_by rest = key_of rest >>= λ key. Some (target.Get (Book (Confirm key)))

abbrev pub version_by : List ℕ → Option Look
version_by rest = do
  first ← parts_of rest
  second ← parts_of first.1
  desk ← result_ok (name_reading is_desk_letter 16 first.0)
  reference ← result_ok (name_reading is_ascii_alphanumeric 20 second.0)
  number ← version_number second.1
  Some (look.Version (record { desk = desk; reference = reference }) number)

abbrev pub list_by : List ℕ → Option Target
list_by rest =
    result_ok (name_reading is_desk_letter 16 rest) >>= λ desk. Some (target.Get (Book (ListTrades desk None)))

abbrev pub list_after_by : List ℕ → Option Target
list_after_by rest =
    key_of rest >>= λ key. Some (target.Get (Book (ListTrades key.desk (Some key.reference))))

abbrev pub positions_by : List ℕ → Option Look
positions_by rest = result_ok (name_reading is_desk_letter 16 rest) >>= λ desk. Some (look.Positions desk)

abbrev pub latest_by : List ℕ → Option Look
latest_by rest = result_ok (name_reading is_desk_letter 16 rest) >>= λ desk. Some (look.Latest desk)

abbrev pub asked_by : Route → List ℕ → Option Target
asked_by (route.Post posted) rest = Some (target.Post posted)
asked_by route.Issue rest = looked (issue_by rest)
asked_by route.Trade rest = option_or (confirmed_by rest) (looked (version_by rest))
asked_by route.List rest = option_or (list_by rest) (list_after_by rest)
asked_by route.Positions rest = looked (positions_by rest)
asked_by route.Latest rest = looked (latest_by rest)
