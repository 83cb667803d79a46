-- The line of a refusal.
use Rattle.std.specs.Prelude.{ℕ, List, [], ◌∷◌, ◌++◌, codes, decimal}
use Rattle.muni_dec.specs.Decimal.{decimal_text, signed_text}
use Rattle.muni_days.specs.Day.{civil, day_text}
use Rattle.muni_terms.specs.Fault.{fault_number}
use Rattle.muni_terms.specs.declared.disclosure.Boundary.{Boundary}
use Rattle.muni_terms.specs.declared.disclosure.Boundary.TheVariants.{Price, Yield}
use Rattle.muni_terms.specs.declared.row.TermsFault.{TermsFault}
use Rattle.muni_terms.specs.declared.row.TermsFault.TheVariants.{BadCusip, BadOrder, BadDay, BadCoupon, FirstTooLong, CallOffCalendar, CallsNotRising, BadCallPrice, TooLong, BadName, BadBasis, CalledNotLast}
use Rattle.muni_msg.specs.Refusal.{number_of, name_of}
use Rattle.muni_msg.specs.declared.version.Kept.{Kept}
use Rattle.muni_msg.specs.declared.version.Kept.TheVariants.{Issue, Version}
use Rattle.muni_msg.specs.declared.refusal.Range.{Range}
use Rattle.muni_msg.specs.declared.refusal.Range.TheVariants.{Below, Above, PriceBelowZero}
use Rattle.muni_msg.specs.declared.refusal.Refusal.{Refusal}
use Rattle.muni_msg.specs.declared.refusal.Refusal.TheVariants.{UnknownIssue, UnknownTrade, Conflict, BadTerms, SettleOutside, GivenOutOfRange, YieldBelow, YieldAbove, NoTime, Undecided, Canceled, WrongNumber, VersionsFull, DeskFull, WrongBasis}
use Rattle.muni_dec.specs.Line.{behind_blanks, line}

-- other contents are kept: those of an issue, or of the version with this number
abbrev pub kept_parts : Kept → List (List ℕ)
kept_parts (Issue issue) = codes "issue" ∷ []
kept_parts (Version number version) = codes "version" ∷ decimal number ∷ []

-- the day of a call, if a call is at fault
abbrev pub fault_day : TermsFault → List (List ℕ)
fault_day BadCusip = []
fault_day BadOrder = []
fault_day BadDay = []
fault_day BadCoupon = []
fault_day FirstTooLong = []
fault_day (CallOffCalendar date) = day_text (civil date) ∷ []
fault_day (CallsNotRising date) = day_text (civil date) ∷ []
fault_day (BadCallPrice date) = day_text (civil date) ∷ []
fault_day (CalledNotLast date) = day_text (civil date) ∷ []
fault_day TooLong = []
fault_day BadName = []
fault_day BadBasis = []

-- a fault of the terms: its number, and the day of a call
abbrev pub fault_parts : TermsFault → List (List ℕ)
fault_parts fault = decimal (fault_number fault) ∷ fault_day fault

-- which side of a range was left
abbrev pub range_text : Range → List ℕ
range_text Below = codes "below"
range_text Above = codes "above"
range_text PriceBelowZero = codes "price below zero"

-- the boundary at which a figure is undecided: a price in thousandths, or a yield to four decimals
abbrev pub boundary_parts : Boundary → List (List ℕ)
boundary_parts (Price price) = codes "price" ∷ decimal_text 3 price ∷ []
boundary_parts (Yield yld) = codes "yield" ∷ signed_text 4 yld ∷ []

-- what follows the name
abbrev pub detail : Refusal → List (List ℕ)
detail UnknownIssue = []
detail UnknownTrade = []
detail (Conflict kept) = kept_parts kept
detail (BadTerms fault) = fault_parts fault
detail SettleOutside = []
detail (GivenOutOfRange range) = range_text range ∷ []
detail (YieldBelow date) = day_text (civil date) ∷ []
detail YieldAbove = []
detail (NoTime date) = day_text (civil date) ∷ []
detail (Undecided date boundary) = day_text (civil date) ∷ boundary_parts boundary
detail Canceled = []
detail (WrongNumber next) = decimal next ∷ []
detail VersionsFull = []
detail DeskFull = []
detail WrongBasis = []

-- how the line of a refusal begins: with the number and the name
abbrev pub name_text : ℕ → List ℕ
name_text number = codes "REFUSED" ++ behind_blanks (decimal number ∷ name_of number ∷ [])

-- the line of a refusal: its number, its name and what follows it
abbrev pub refusal_text : Refusal → List ℕ
refusal_text refusal =
    line (codes "REFUSED" ∷ decimal (number_of refusal) ∷ name_of (number_of refusal)
    ∷ detail refusal)
