-- Which paths lead to which requests, in the words of the paths.
use Rattle.std.specs.Prelude.{◌≡◌, ℕ, List, ◌∷◌, ◌++◌, codes, Some, None}
use Rattle.std.specs.Char.{is_ascii_alphanumeric}
use Rattle.muni_msg.specs.Fields.{version_number}
use Rattle.muni_msg.specs.IssueFields.{cusip_reading}
use Rattle.muni_msg.specs.Names.{IsName, is_desk_letter}
use Rattle.muni_msg.specs.declared.command.Command.TheVariants.{Confirm, List as ListTrades}
use Rattle.muni_msg.specs.declared.command.Key.{Key}
use Rattle.muni_wire.specs.Routes.{posted_under, target_of}
use Rattle.muni_wire_body.specs.declared.look.Look.{Look}
use Rattle.muni_wire_body.specs.declared.look.Look.TheVariants as look
use Rattle.muni_wire_body.specs.declared.look.Request.TheVariants.{Book, Look as LookAt}
use Rattle.muni_wire_body.specs.declared.form.Form.{Form}
use Rattle.muni_wire_body.specs.declared.form.Form.TheVariants as form
use Rattle.muni_wire.specs.declared.routes.Target.TheVariants as target

-- a body is posted under each of these
pub record BodiesArePosted : Type 0 where
  pub issues : target_of (codes "/issues") ≡ Some (target.Post form.Issue)
  pub amendments : target_of (codes "/amendments") ≡ Some (target.Post form.Amendment)
  pub trades : target_of (codes "/trades") ≡ Some (target.Post form.Trade)
  pub corrections : target_of (codes "/corrections") ≡ Some (target.Post form.Correction)
  pub cancels : target_of (codes "/cancels") ≡ Some (target.Post form.Cancellation)
  pub quotes : target_of (codes "/quotes") ≡ Some (target.Post form.Quote)
  pub checks : target_of (codes "/checks") ≡ Some (target.Post form.Check)

-- the name of a desk and the reference of a trade
pub record IsKey (key : Key) : Type 0 where
  pub desk : IsName is_desk_letter 16 key.desk
  pub reference : IsName is_ascii_alphanumeric 20 key.reference

-- a trade is confirmed under its desk and its reference alone, which are names
abbrev pub TradesAreConfirmed : Type 0
TradesAreConfirmed =
    (path : List ℕ) (key : Key) → target_of path ≡ Some (target.Get (Book (Confirm key)))
    → IsKey key × (path ≡ codes "/trades/" ++ (key.desk ++ 47 ∷ key.reference))

-- a list is given under its desk alone, or under that and a reference
abbrev pub ListsAreGiven : Type 0
ListsAreGiven =
    (path desk : List ℕ) → target_of path ≡ Some (target.Get (Book (ListTrades desk None)))
    → IsName is_desk_letter 16 desk × (path ≡ codes "/lists/" ++ desk)

abbrev pub ListsGoOn : Type 0
ListsGoOn =
    (path desk after : List ℕ) → target_of path ≡ Some (target.Get (Book (ListTrades desk (Some after))))
    → IsName is_desk_letter 16 desk × IsName is_ascii_alphanumeric 20 after
    × (path ≡ codes "/lists/" ++ (desk ++ 47 ∷ after))

-- under no other path a body of that form is posted
abbrev pub BodiesHaveOnePath : Type 0
BodiesHaveOnePath =
    (path : List ℕ) (posted : Form) → target_of path ≡ Some (target.Post posted)
    → path ≡ posted_under posted

-- each trade is confirmed under its path
abbrev pub EachTradeIsConfirmed : Type 0
EachTradeIsConfirmed =
    (key : Key) → IsKey key
    → target_of (codes "/trades/" ++ (key.desk ++ 47 ∷ key.reference)) ≡ Some (target.Get (Book (Confirm key)))

-- the list of each desk is given under its path, from the start and after each reference
abbrev pub EachListIsGiven : Type 0
EachListIsGiven =
    (desk : List ℕ) → IsName is_desk_letter 16 desk
    → target_of (codes "/lists/" ++ desk) ≡ Some (target.Get (Book (ListTrades desk None)))

abbrev pub EachListGoesOn : Type 0
EachListGoesOn =
    (key : Key) → IsKey key
    → target_of (codes "/lists/" ++ (key.desk ++ 47 ∷ key.reference)) ≡ Some (target.Get (Book (ListTrades key.desk (Some key.reference))))

-- the paths of the looks at the tables
abbrev pub IsPathOf : Look → List ℕ → Type 0
IsPathOf (look.Issue cusip) path =
    (cusip_reading cusip ≡ Some cusip) × (path ≡ codes "/issues/" ++ cusip)
IsPathOf (look.Version key number) path =
    IsKey key × (text : List ℕ) × (version_number text ≡ Some number)
    × (path ≡ codes "/trades/" ++ (key.desk ++ 47 ∷ (key.reference ++ 47 ∷ text)))
IsPathOf (look.Positions desk) path = IsName is_desk_letter 16 desk × (path ≡ codes "/positions/" ++ desk)
IsPathOf (look.Latest desk) path = IsName is_desk_letter 16 desk × (path ≡ codes "/latest/" ++ desk)

-- each look is made under its paths, and under no other
abbrev pub LooksHavePaths : Type 0
LooksHavePaths =
    (path : List ℕ) (look : Look) → target_of path ≡ Some (target.Get (LookAt look)) → IsPathOf look path

abbrev pub EachLookIsMade : Type 0
EachLookIsMade =
    (path : List ℕ) (look : Look) → IsPathOf look path → target_of path ≡ Some (target.Get (LookAt look))
