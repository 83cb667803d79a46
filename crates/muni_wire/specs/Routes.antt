-- What is asked under the path of a request.
use Rattle.std.specs.Prelude.{ℕ, ◌+◌, ◌==◌, List, [], ◌∷◌, length, take, drop, find, position, codes, Option, Some, None, option_map, if◌then◌else◌}
use Rattle.std.specs.Char.{is_ascii_alphanumeric}
use Rattle.std.specs.List.{before_first}
use Rattle.std.specs.Option.{option_or}
use Rattle.std.specs.Result.{result_ok}
use Rattle.std.specs.Str.{bytes_eq}
use Rattle.muni_msg.specs.Fields.{◌>>=◌, version_number}
use Rattle.muni_msg.specs.IssueFields.{cusip_reading}
use Rattle.muni_msg.specs.Names.{is_desk_letter}
use Rattle.muni_msg.specs.NameReading.{name_reading}
use Rattle.muni_msg.specs.declared.command.Command.TheVariants.{Confirm, List as ListTrades}
use Rattle.muni_msg.specs.declared.command.Key.{Key}
use Rattle.muni_wire_body.specs.declared.look.Look.{Look}
use Rattle.muni_wire_body.specs.declared.look.Look.TheVariants as look
use Rattle.muni_wire_body.specs.declared.look.Request.TheVariants.{Book, Look as LookAt}
use Rattle.muni_wire_body.specs.declared.form.Form.{Form}
use Rattle.muni_wire_body.specs.declared.form.Form.TheVariants as form
use Rattle.muni_wire.specs.declared.routes.Target.{Target}
use Rattle.muni_wire.specs.declared.routes.Target.TheVariants as target

-- the path of a target: what stands before its first `?`
abbrev pub path_of : List ℕ → List ℕ
path_of target = before_first (λ b. b == 63) target

-- the forms of a body, and the path to which one is posted
abbrev pub forms : List Form
forms = form.Issue ∷ form.Amendment ∷ form.Trade ∷ form.Correction ∷ form.Cancellation ∷ form.Quote ∷ form.Check ∷ []

abbrev pub posted_under : Form → List ℕ
posted_under form.Issue = codes "/issues"
posted_under form.Amendment = codes "/amendments"
posted_under form.Trade = codes "/trades"
posted_under form.Correction = codes "/corrections"
posted_under form.Cancellation = codes "/cancels"
posted_under form.Quote = codes "/quotes"
posted_under form.Check = codes "/checks"

-- the form of the bodies that are posted to a path
abbrev pub form_of : List ℕ → Option Form
form_of path = find (λ form. bytes_eq path (posted_under form)) forms

abbrev pub post_at : List ℕ → Option Target
post_at path = option_map (λ form. target.Post form) (form_of path)

-- what follows a prefix
abbrev pub behind : List ℕ → List ℕ → Option (List ℕ)
behind prefix text =
    if bytes_eq (take (length prefix) text) prefix then Some (drop (length prefix) text) else None

-- a desk, a slash at this place, and a reference
abbrev pub key_at : List ℕ → ℕ → Option Key
key_at text slash = do
  desk ← result_ok (name_reading is_desk_letter 16 (take slash text))
  reference ← result_ok (name_reading is_ascii_alphanumeric 20 (drop (slash + 1) text))
  Some (record { desk = desk; reference = reference })

unfoldable pub key_of : List ℕ → Option Key
key_of text = position (λ b. b == 47) text >>= λ slash. key_at text slash

-- `/trades/`, a desk, a slash and a reference
abbrev pub trade_at : List ℕ → Option Target
trade_at path = do
  text ← behind (codes "/trades/") path
  key ← key_of text
  Some (target.Get (Book (Confirm key)))

-- `/lists/` and a desk
abbrev pub list_at : List ℕ → Option Target
list_at path = do
  text ← behind (codes "/lists/") path
  desk ← result_ok (name_reading is_desk_letter 16 text)
  Some (target.Get (Book (ListTrades desk None)))

-- `/lists/`, a desk, a slash and a reference
abbrev pub list_after_at : List ℕ → Option Target
list_after_at path = do
  text ← behind (codes "/lists/") path
  key ← key_of text
  Some (target.Get (Book (ListTrades key.desk (Some key.reference))))

-- what the book is asked under a path: the one of these that it is
unfoldable pub of_book_at : List ℕ → Option Target
of_book_at path = option_or (post_at path) (option_or (trade_at path) (option_or (list_at path) (list_after_at path)))

-- `/issues/` and a CUSIP
abbrev pub issue_at : List ℕ → Option Look
issue_at path = do
  text ← behind (codes "/issues/") path
  cusip ← cusip_reading text
  Some (look.Issue cusip)

-- what comes before the first slash and after it
abbrev pub parts_of : List ℕ → Option (List ℕ × List ℕ)
parts_of text = position (λ b. b == 47) text >>= λ slash. Some (take slash text, drop (slash + 1) text)

-- `/trades/`, a desk, a slash, a reference, a slash and a number
abbrev pub version_at : List ℕ → Option Look
version_at path = do
  text ← behind (codes "/trades/") path
  first ← parts_of text
  second ← parts_of first.1
  desk ← result_ok (name_reading is_desk_letter 16 first.0)
  reference ← result_ok (name_reading is_ascii_alphanumeric 20 second.0)
  number ← version_number second.1
  Some (look.Version (record { desk = desk; reference = reference }) number)

-- `/positions/` and a desk
abbrev pub positions_at : List ℕ → Option Look
positions_at path = do
  text ← behind (codes "/positions/") path
  desk ← result_ok (name_reading is_desk_letter 16 text)
  Some (look.Positions desk)

-- `/latest/` and a desk
abbrev pub latest_at : List ℕ → Option Look
latest_at path = do
  text ← behind (codes "/latest/") path
  desk ← result_ok (name_reading is_desk_letter 16 text)
  Some (look.Latest desk)

-- which look at the tables is asked for: the one of these
unfoldable pub look_of : List ℕ → Option Look
look_of path = option_or (issue_at path) (option_or (version_at path) (option_or (positions_at path) (latest_at path)))

abbrev pub look_at : List ℕ → Option Target
look_at path = option_map (λ look. target.Get (LookAt look)) (look_of path)

-- what is asked under a path
unfoldable pub target_of : List ℕ → Option Target
target_of path = option_or (of_book_at path) (look_at path)
