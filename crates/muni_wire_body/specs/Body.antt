-- What a body asks for: the members of a JSON object (RFC 8259).
use Rattle.std.specs.Prelude.{ℕ, Bool, false, List, codes, Option, Some, None, option_map, if◌then◌else◌}
use Rattle.std.specs.Char.{is_ascii_alphanumeric}
use Rattle.std.specs.Result.{result_ok}
use Rattle.std.specs.Str.{is_utf8}
use Rattle.serde_json.specs.Data.{Data}
use Rattle.serde_json.specs.Read.{read as read_json}
use Rattle.serde_json.specs.Find.{get, as_bool, as_str}
use Rattle.arrayvec.specs.ArrayVec.{ArrayVec}
use Rattle.muni_dec.specs.Values.{par_reading}
use Rattle.muni_rule.specs.declared.basis.Basis.{Basis}
use Rattle.muni_days.specs.declared.day.Day.{Day}
use Rattle.muni_terms.specs.Check.{pays_interest}
use Rattle.muni_terms.specs.declared.row.IssueRow.{IssueRow}
use Rattle.muni_terms.specs.declared.row.Kind.{Kind}
use Rattle.muni_msg.specs.Fields.{◌>>=◌, day_in, kind_reading, basis_field, side_reading, given_reading, fee_field, version_number}
use Rattle.muni_msg.specs.IssueFields.{cusip_reading, issue_name_reading, coupon_by}
use Rattle.muni_msg.specs.Names.{is_desk_letter}
use Rattle.muni_msg.specs.NameReading.{name_reading}
use Rattle.muni_msg.specs.declared.asked.Asked.{Asked}
use Rattle.muni_msg.specs.declared.asked.Given.{Given}
use Rattle.muni_msg.specs.declared.asked.Side.{Side}
use Rattle.muni_msg.specs.declared.asked.Side.TheVariants.{Buy}
use Rattle.muni_msg.specs.declared.asked.Terms.{Terms}
use Rattle.muni_msg.specs.declared.command.Command.{Command}
use Rattle.muni_msg.specs.declared.command.Command.TheVariants as command
use Rattle.muni_msg.specs.declared.command.Key.{Key}
use Rattle.muni_msg.specs.declared.shown.Shown.{Shown}
use Rattle.muni_wire_body.specs.Calls.{calls_in}
use Rattle.muni_wire_body.specs.Members.{member, optional}
use Rattle.muni_wire_body.specs.Stated.{row_in}
use Rattle.muni_wire_body.specs.declared.look.Request.{Request}
use Rattle.muni_wire_body.specs.declared.look.Request.TheVariants.{Book, Check}
use Rattle.muni_wire_body.specs.declared.form.Form.{Form}
use Rattle.muni_wire_body.specs.declared.form.Form.TheVariants as form

-- the JSON value that a body is
abbrev pub data_of : List ℕ → Option Data
data_of body = if is_utf8 body then read_json body else None

-- the desk and the reference of a trade
abbrev pub desk_in : Data → Option (List ℕ)
desk_in value = member (codes "desk") value >>= λ text. result_ok (name_reading is_desk_letter 16 text)

abbrev pub reference_in : Data → Option (List ℕ)
reference_in value = member (codes "reference") value >>= λ text. result_ok (name_reading is_ascii_alphanumeric 20 text)

-- which trade of which desk
abbrev pub key_in : Data → Option Key
key_in value = do
  desk ← desk_in value
  reference ← reference_in value
  Some (record { desk = desk; reference = reference })

-- the number of a version
abbrev pub number_in : Data → Option ℕ
number_in value = member (codes "number") value >>= version_number

-- the number of the terms of its issue that a trade chooses, if it chooses one
abbrev pub issue_number_at : Option Data → Option (Option ℕ)
issue_number_at None = Some None
issue_number_at (Some found) =
    as_str found >>= λ text. option_map (λ number. Some number) (version_number text)

abbrev pub issue_number_in : Data → Option (Option ℕ)
issue_number_in value = issue_number_at (get (codes "issue") value)

-- a basis and a value
abbrev pub given_texts : Data → Option (List ℕ × List ℕ)
given_texts value = do
  basis ← member (codes "basis") value
  text ← member (codes "value") value
  Some (basis, text)

abbrev pub given_in : Data → Option Given
given_in value = given_texts value >>= λ texts. given_reading texts.0 texts.1

-- a CUSIP, a par, and a day under a name
abbrev pub cusip_in : Data → Option (List ℕ)
cusip_in value = member (codes "cusip") value >>= cusip_reading

abbrev pub par_in : Data → Option ℕ
par_in value = member (codes "par") value >>= λ text. result_ok (par_reading text)

abbrev pub date_in : List ℕ → Data → Option Day
date_in name value = member name value >>= day_in

-- what is asked on a side with a commission
unfoldable pub asked_in : Side → ℕ → Data → Option Asked
asked_in side fee value = do
  cusip ← cusip_in value
  par ← par_in value
  settle ← date_in (codes "settle") value
  given ← given_in value
  Some (record { cusip = cusip; par = par; settle = settle; given = given; side = side; fee = fee })

-- whether something is wanted: a Boolean, which may be left out
abbrev pub wanted_in : Option Data → Option Bool
wanted_in None = Some false
wanted_in (Some found) = as_bool found

-- what is to be shown after the figures of a quote
unfoldable pub shown_in : Data → Option Shown
shown_in value = do
  each ← wanted_in (get (codes "each") value)
  risk ← wanted_in (get (codes "risk") value)
  Some (record { each = each; risk = risk })

-- a commission, which may be left out
unfoldable pub fee_in : Data → Option ℕ
fee_in value = optional (codes "fee") value >>= fee_field

abbrev pub side_in : Data → Option Side
side_in value = member (codes "side") value >>= side_reading

-- the terms of a trade
unfoldable pub terms_in : Data → Option Terms
terms_in value = do
  side ← side_in value
  fee ← fee_in value
  asked ← asked_in side fee value
  Some (record { asked = asked })

-- a kind, with the first interest date if there is one
abbrev pub kind_with : List ℕ → Option Data → Option Kind
kind_with text None = kind_reading text None
kind_with text (Some first) = as_str first >>= λ date. kind_reading text (Some date)

abbrev pub kind_in : Data → Option Kind
kind_in value = member (codes "kind") value >>= λ text. kind_with text (get (codes "first") value)

-- how an issue pays and when: the kind, the dated date and the maturity
unfoldable pub calendar_in : Data → Option (Kind × Day × Day)
calendar_in value = do
  kind ← kind_in value
  dated ← date_in (codes "dated") value
  maturity ← date_in (codes "maturity") value
  Some (kind, dated, maturity)

-- a day count basis, which may be left out
unfoldable pub basis_in : Data → Option Basis
basis_in value = optional (codes "days") value >>= basis_field

-- the name of an issue, and its coupon beside a kind
abbrev pub name_in : Data → Option (ArrayVec ℕ)
name_in value = member (codes "name") value >>= issue_name_reading

abbrev pub coupon_in : Kind → Data → Option ℕ
coupon_in kind value = optional (codes "coupon") value >>= coupon_by (pays_interest kind)

-- the terms of an issue with a day count basis; the calls may be left out, and the coupon where no
-- interest is paid
unfoldable pub issue_with : Basis → Data → Option IssueRow
issue_with basis value = do
  calendar ← calendar_in value
  cusip ← cusip_in value
  name ← name_in value
  coupon ← coupon_in calendar.0 value
  calls ← calls_in value
  Some (record { cusip = cusip; name = name; kind = calendar.0; basis = basis; dated = calendar.1; maturity = calendar.2; coupon = coupon; calls = record { items = calls } })

abbrev pub issue_in : Data → Option IssueRow
issue_in value = basis_in value >>= λ basis. issue_with basis value

-- the command that a value of a form is; a check is none
unfoldable pub command_in : Form → Data → Option Command
command_in form.Issue value = do
  issue ← issue_in value
  Some (command.AddIssue issue)
command_in form.Amendment value = do
  number ← number_in value
  issue ← issue_in value
  Some (command.Amend number issue)
command_in form.Trade value = do
  key ← key_in value
  terms ← terms_in value
  chosen ← issue_number_in value
  Some (command.Enter key terms chosen)
command_in form.Correction value = do
  key ← key_in value
  number ← number_in value
  terms ← terms_in value
  chosen ← issue_number_in value
  Some (command.Correct key number terms chosen)
command_in form.Cancellation value = do
  key ← key_in value
  number ← number_in value
  Some (command.Cancel key number)
command_in form.Quote value = do
  asked ← asked_in Buy 0 value
  shown ← shown_in value
  Some (command.Quote asked shown)
command_in form.Check value = None

-- what a value of a form asks for
abbrev pub request_in : Form → Data → Option Request
request_in form.Check value = option_map (λ row. Check row) (row_in value)
request_in posted value = option_map (λ command. Book command) (command_in posted value)

-- what a body of a form asks for
abbrev pub request_of : Form → List ℕ → Option Request
request_of posted body = data_of body >>= request_in posted
