-- The options of `quote`.
use Rattle.std.specs.Prelude.{ℕ, Bool, true, false, nat_le, if◌then◌else◌, List, length, [], ◌∷◌, codes, Option, Some, None}
use Rattle.std.specs.Result.{result_ok}
use Rattle.muni_rule.specs.declared.basis.Basis.{Basis}
use Rattle.muni_rule.specs.declared.basis.Basis.TheVariants.{Thirty360}
use Rattle.muni_dec.specs.Digits.{number_reading}
use Rattle.muni_dec.specs.Values.{coupon_reading, par_reading}
use Rattle.muni_days.specs.declared.day.Day.{Day}
use Rattle.muni_terms.specs.Check.{pays_interest}
use Rattle.muni_terms.specs.declared.row.Call.{Call}
use Rattle.muni_terms.specs.declared.row.Kind.{Kind}
use Rattle.muni_terms.specs.declared.row.Kind.TheVariants.{Periodic, Zero, AtRedemption, Discount}
use Rattle.muni_terms.specs.declared.row.IssueRow.{IssueRow}
use Rattle.muni_msg.specs.Fields.{day_in, kind_reading, basis_reading, call_reading, given_reading}
use Rattle.muni_msg.specs.declared.asked.Asked.{Asked}
use Rattle.muni_msg.specs.declared.asked.Given.{Given}
use Rattle.muni_msg.specs.declared.asked.Side.TheVariants.{Buy}
use Rattle.muni_msg.specs.declared.shown.Shown.{Shown}
use Rattle.muni_desk.specs.Words.{◌>>=◌, are_options_beside, has_word, value_of, values_of}
use Rattle.muni_desk.specs.declared.command.DeskCommand.TheVariants.{Quote}
use Rattle.muni_desk.specs.declared.command.CommandLine.{CommandLine}

-- the options that may be given once
abbrev pub single_options : List (List ℕ)
single_options =
    codes "--kind=" ∷ codes "--dated=" ∷ codes "--first=" ∷ codes "--maturity="
    ∷ codes "--coupon=" ∷ codes "--settle=" ∷ codes "--par=" ∷ codes "--yield="
    ∷ codes "--price=" ∷ codes "--rate=" ∷ codes "--workers=" ∷ codes "--days=" ∷ []

-- all options
abbrev pub options : List (List ℕ)
options = codes "--call=" ∷ single_options

-- the word by which the figure of each redemption candidate is wanted
abbrev pub each_word : List ℕ
each_word = codes "--each"

-- and the word by which it is wanted how the price moves with the yield
abbrev pub risk_word : List ℕ
risk_word = codes "--risk"

abbrev pub plain_words : List (List ℕ)
plain_words = each_word ∷ risk_word ∷ []

-- what is to be shown after the figures
abbrev pub shown_of : List (List ℕ) → Shown
shown_of words = record { each = has_word each_word words; risk = has_word risk_word words }

-- a date that an option gives
abbrev pub date_of : List ℕ → List (List ℕ) → Option Day
date_of name words = value_of name words >>= λ text. day_in text

-- days are counted by 30/360 if no option says otherwise, and a note alone may say so
abbrev pub bond_day_count : Option (List ℕ) → Option Basis
bond_day_count (Some text) = None
bond_day_count None = Some Thirty360

abbrev pub note_day_count : Option (List ℕ) → Option Basis
note_day_count (Some text) = basis_reading text
note_day_count None = Some Thirty360

abbrev pub day_count_of : Kind → Option (List ℕ) → Option Basis
day_count_of (Periodic first) text = bond_day_count text
day_count_of Zero text = bond_day_count text
day_count_of AtRedemption text = note_day_count text
day_count_of Discount text = note_day_count text

-- the coupon, which is given exactly if there is interest
abbrev pub coupon_of : Bool → Option (List ℕ) → Option ℕ
coupon_of true (Some text) = result_ok (coupon_reading text)
coupon_of true None = None
coupon_of false (Some text) = None
coupon_of false None = Some 0

-- texts as calls, if each reads as one
abbrev pub calls_reading : List (List ℕ) → Option (List Call)
calls_reading [] = Some []
calls_reading (text ∷ texts) = do
  call ← call_reading text
  calls ← calls_reading texts
  Some (call ∷ calls)

-- the calls in their order, at most 40
abbrev pub calls_of : List (List ℕ) → Option (List Call)
calls_of words =
    if nat_le (length (values_of (codes "--call=") words)) 40
    then calls_reading (values_of (codes "--call=") words) else None

-- the par, which is 100 if none is given
abbrev pub par_of : Option (List ℕ) → Option ℕ
par_of (Some text) = result_ok (par_reading text)
par_of None = Some 100

-- exactly one of a yield, a price and a rate
abbrev pub one_given : (yld price rate : Option (List ℕ)) → Option Given
one_given (Some yld) None None = given_reading (codes "yield") yld
one_given None (Some price) None = given_reading (codes "price") price
one_given None None (Some rate) = given_reading (codes "rate") rate
one_given yld price rate = None

abbrev pub given_of : List (List ℕ) → Option Given
given_of words =
    one_given (value_of (codes "--yield=") words) (value_of (codes "--price=") words)
    (value_of (codes "--rate=") words)

-- from 1 to 16 workers, and one if no number is given
abbrev pub workers_in : Option (List ℕ) → Option ℕ
workers_in (Some text) = number_reading 20 1 16 text
workers_in None = Some 1

abbrev pub workers_of : List (List ℕ) → Option ℕ
workers_of words = workers_in (value_of (codes "--workers=") words)

-- the terms of the security, which has no number of its own
abbrev pub row_of : List (List ℕ) → Option IssueRow
row_of words = do
  kind ← value_of (codes "--kind=") words
      >>= λ text. kind_reading text (value_of (codes "--first=") words)
  basis ← day_count_of kind (value_of (codes "--days=") words)
  dated ← date_of (codes "--dated=") words
  maturity ← date_of (codes "--maturity=") words
  coupon ← coupon_of (pays_interest kind) (value_of (codes "--coupon=") words)
  calls ← calls_of words
  Some (record { cusip = codes "000000000"; name = record { items = codes "QUOTE" }; kind = kind; basis = basis; dated = dated; maturity = maturity; coupon = coupon; calls = record { items = calls } })

-- what is asked for of it, for a buyer and without a commission
abbrev pub asked_of : List (List ℕ) → Option Asked
asked_of words = do
  par ← par_of (value_of (codes "--par=") words)
  settle ← date_of (codes "--settle=") words
  given ← given_of words
  Some (record { cusip = codes "000000000"; par = par; settle = settle; given = given; side = Buy; fee = 0 })

-- a request, what is to be shown after its figures, and how many workers may compute
abbrev pub command_line : List (List ℕ) → Option CommandLine
command_line words = do
  row ← row_of words
  asked ← asked_of words
  workers ← workers_of words
  Some (record { command = Quote (record { row = row; asked = asked }) (shown_of words); workers = workers })

-- what words ask for that are options of the command, and perhaps the words of what is to be shown
abbrev pub quote_of : List (List ℕ) → Option CommandLine
quote_of words =
    if are_options_beside plain_words options single_options words then command_line words else None
