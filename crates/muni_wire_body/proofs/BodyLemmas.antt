-- The value of a body, by what the reader of JSON says of it.
use Rattle.std.proofs.Common.{◌≡◌, ◌≢◌, ℕ, List, Some, None, option_map, Bool, true, false, refl, IsUtf8}
use Rattle.std.specs.Str.{is_utf8}
use Rattle.std.proofs.lemmas.Str.{IsUtf8-from_is_utf8, is_utf8-from_IsUtf8}
use Rattle.serde_json.specs.Data.{Data}
use Rattle.serde_json.specs.Read.{read as read_json}
use Rattle.muni_wire_body.specs.Body.{command_in, data_of, request_in}
use Rattle.muni_wire_body.specs.declared.form.Form.{Form}
use Rattle.muni_wire_body.specs.declared.form.Form.TheVariants as form
use Rattle.muni_wire_body.specs.declared.look.Request.TheVariants.{Book}

-- what is no check is a command of the book
pub request-of-book : (posted : Form) (value : Data) → posted ≢ form.Check → request_in posted value ≡ option_map (λ command. Book command) (command_in posted value)
request-of-book form.Issue value other = refl
request-of-book form.Amendment value other = refl
request-of-book form.Trade value other = refl
request-of-book form.Correction value other = refl
request-of-book form.Cancellation value other = refl
request-of-book form.Quote value other = refl
request-of-book form.Check value other = absurd (other refl)

pub data-read : (body : List ℕ) (value : Data) → IsUtf8 body → read_json body ≡ Some value → data_of body ≡ Some value
data-read body value text read = rw (is_utf8-from_IsUtf8 body text) read

pub data-none : (body : List ℕ) → (IsUtf8 body → read_json body ≡ None) → data_of body ≡ None
data-none body none = by (is_utf8 body) refl
  where
    by : (b : Bool) → is_utf8 body ≡ b → data_of body ≡ None
    by true is = rw is (none (IsUtf8-from_is_utf8 body is))
    by false is = rw is refl
