-- What the words of a command line say, in the rule's own words.
use Rattle.std.specs.Prelude.{◌≡◌, ◌≤◌, ◌↔◌, ◌⊎◌, ℕ, Bool, List, [], ◌∷◌, ◌++◌, length, map, filter, All, Contains, codes, Some, None, Ok}
use Rattle.std.specs.List.{AllZip}
use Rattle.arrayvec.specs.ArrayVec.{ArrayVec}
use Rattle.muni_rule.specs.declared.basis.Basis.{Basis}
use Rattle.muni_rule.specs.declared.basis.Basis.TheVariants.{Thirty360, Actual365}
use Rattle.muni_dec.specs.Digits.{number_reading}
use Rattle.muni_dec.specs.Values.{coupon_reading, par_reading, price_reading, yield_reading}
use Rattle.muni_days.specs.Day.{day_reading}
use Rattle.muni_rule.specs.declared.call_term.CallTerm.{CallTerm}
use Rattle.muni_rule.specs.declared.call_term.CallTerm.TheVariants.{OnDay, OnOrAfter, Called}
use Rattle.muni_terms.specs.declared.row.Call.{Call}
use Rattle.muni_terms.specs.declared.row.Kind.{Kind}
use Rattle.muni_terms.specs.declared.row.Kind.TheVariants.{Periodic, Zero, AtRedemption, Discount}
use Rattle.muni_terms.specs.declared.row.IssueRow.{IssueRow}
use Rattle.muni_msg.specs.declared.asked.Asked.{Asked}
use Rattle.muni_msg.specs.declared.asked.Given.{Given}
use Rattle.muni_msg.specs.declared.asked.Given.TheVariants.{AtYield, AtPrice, AtRate}
use Rattle.muni_msg.specs.declared.asked.Side.TheVariants.{Buy}
use Rattle.muni_msg.specs.declared.shown.Shown.{Shown}
use Rattle.muni_desk_export.specs.declared.wanted.Wanted.{Wanted}
use Rattle.muni_desk_export.specs.declared.wanted.Wanted.TheVariants as want
use Rattle.muni_desk.specs.Words.{word, is_option}
use Rattle.muni_desk.specs.QuoteOptions.{options, single_options}
use Rattle.muni_desk.specs.DrillOptions as drill
use Rattle.muni_desk.specs.Command.{command_of}
use Rattle.muni_desk.specs.declared.command.DeskCommand.{DeskCommand}
use Rattle.muni_desk.specs.declared.command.DeskCommand.TheVariants.{QuoteOne, Quote, Import, Load, Confirm, Serve, Positions, Mark, Figures, Check, CheckAlone, Export, Drill, Help}
use Rattle.muni_desk.specs.declared.command.CommandLine.{CommandLine}
use Rattle.muni_desk.specs.declared.drill.options.DrillRequest.{DrillRequest}
use Rattle.muni_desk.specs.declared.one_period.QuoteOneRequest.{QuoteOneRequest}
use Rattle.muni_desk.specs.declared.request.QuoteRequest.{QuoteRequest}
use Rattle.muni_desk.specs.OptionLaws.{IsOption, IsKnown, IsKnownBeside, AreOnceAtMost, Has, IsSingle, Says, Reads, Lacks, ReadsOr}
use Rattle.muni_desk.specs.StoreWordLaws.{IsImport, IsConfirm, IsConfirmAll, IsLoad, IsServe, IsPositions, IsStoreAlone, IsFigures, IsCheck, IsExport, IsList}

-- ---- the options of `quote`
-- the kind, and the first interest date exactly if it is `periodic`
abbrev pub SaysKind : List (List ℕ) → Kind → Type 0
SaysKind words (Periodic first) =
    Says words (codes "--kind=") (codes "periodic")
    × Reads words (codes "--first=") (λ text. day_reading text ≡ Ok first)
SaysKind words Zero = Says words (codes "--kind=") (codes "zero") × Lacks words (codes "--first=")
SaysKind words AtRedemption =
    Says words (codes "--kind=") (codes "at-redemption") × Lacks words (codes "--first=")
SaysKind words Discount =
    Says words (codes "--kind=") (codes "discount") × Lacks words (codes "--first=")

-- the basis by which days are counted: 30/360, or for a note what its option says
abbrev pub SaysNoteDays : List (List ℕ) → Basis → Type 0
SaysNoteDays words Thirty360 =
    Says words (codes "--days=") (codes "30/360") ⊎ Lacks words (codes "--days=")
SaysNoteDays words Actual365 = Says words (codes "--days=") (codes "actual/365")

abbrev pub SaysDays : List (List ℕ) → Kind → Basis → Type 0
SaysDays words (Periodic first) basis = Lacks words (codes "--days=") × (basis ≡ Thirty360)
SaysDays words Zero basis = Lacks words (codes "--days=") × (basis ≡ Thirty360)
SaysDays words AtRedemption basis = SaysNoteDays words basis
SaysDays words Discount basis = SaysNoteDays words basis

-- the coupon, exactly if securities of the kind pay interest
abbrev pub SaysCoupon : List (List ℕ) → Kind → ℕ → Type 0
SaysCoupon words (Periodic first) coupon =
    Reads words (codes "--coupon=") (λ text. coupon_reading text ≡ Ok coupon)
SaysCoupon words Zero coupon = Lacks words (codes "--coupon=") × (coupon ≡ 0)
SaysCoupon words AtRedemption coupon =
    Reads words (codes "--coupon=") (λ text. coupon_reading text ≡ Ok coupon)
SaysCoupon words Discount coupon = Lacks words (codes "--coupon=") × (coupon ≡ 0)

-- the mark that says on which days a call stands
abbrev pub mark : CallTerm → List ℕ
mark OnDay = []
mark OnOrAfter = codes "+"
mark Called = codes "!"

-- a text says a call: a date, a colon, a price and a mark
pub record IsCall (text : List ℕ) (call : Call) : Type 0 where
  pub date : List ℕ
  pub price : List ℕ
  pub joined : text ≡ date ++ codes ":" ++ (price ++ mark call.term)
  pub is_date : day_reading date ≡ Ok call.date
  pub is_price : price_reading price ≡ Ok call.price

-- the calls, at most 40: the words of their option, in their order,
-- are its name with each of these texts, and each text says the call in its place
pub record SaysCalls (words : List (List ℕ)) (calls : List Call) : Type 0 where
  pub texts : List (List ℕ)
  pub in_order :
      filter (is_option (codes "--call=")) words ≡ map (λ text. codes "--call=" ++ text) texts
  pub at_most : length texts ≤ 40
  pub are_read : AllZip IsCall texts calls

-- exactly one of a yield, a price and a rate
abbrev pub SaysGiven : List (List ℕ) → Given → Type 0
SaysGiven words (AtYield y) =
    Reads words (codes "--yield=") (λ text. yield_reading text ≡ Ok y)
    × Lacks words (codes "--price=") × Lacks words (codes "--rate=")
SaysGiven words (AtPrice price) =
    Lacks words (codes "--yield=")
    × Reads words (codes "--price=") (λ text. price_reading text ≡ Ok price)
    × Lacks words (codes "--rate=")
SaysGiven words (AtRate rate) =
    Lacks words (codes "--yield=") × Lacks words (codes "--price=")
    × Reads words (codes "--rate=") (λ text. yield_reading text ≡ Ok rate)

-- the terms of the security, which has no number of its own
pub record SaysTerms (words : List (List ℕ)) (row : IssueRow) : Type 0 where
  pub kind : SaysKind words row.kind
  pub days : SaysDays words row.kind row.basis
  pub dated : Reads words (codes "--dated=") (λ text. day_reading text ≡ Ok row.dated)
  pub maturity : Reads words (codes "--maturity=") (λ text. day_reading text ≡ Ok row.maturity)
  pub coupon : SaysCoupon words row.kind row.coupon
  pub calls : SaysCalls words row.calls.items
  pub cusip : row.cusip ≡ codes "000000000"
  pub name : row.name.items ≡ codes "QUOTE"

-- what is asked for of it, for a buyer and without a commission: the par is 100 if none is given
pub record SaysAsked (words : List (List ℕ)) (asked : Asked) : Type 0 where
  pub par :
      ReadsOr words (codes "--par=") (λ text. par_reading text ≡ Ok asked.par) (asked.par ≡ 100)
  pub settle : Reads words (codes "--settle=") (λ text. day_reading text ≡ Ok asked.settle)
  pub given : SaysGiven words asked.given
  pub cusip : asked.cusip ≡ codes "000000000"
  pub side : asked.side ≡ Buy
  pub fee : asked.fee ≡ 0

-- words after `quote`: from 1 to 16 workers, and one if no number is given; the redemption candidates are
-- shown if `--each` is among them, and how the price moves with the yield if `--risk` is
pub record IsQuote (words : List (List ℕ)) (request : QuoteRequest) (shown : Shown) (workers : ℕ) : Type 0 where
  pub known : All (IsKnownBeside (codes "--each" ∷ codes "--risk" ∷ []) options) words
  pub once : AreOnceAtMost (codes "--each" ∷ codes "--risk" ∷ []) words
  pub single : All (IsSingle words) single_options
  pub each : Has (codes "--each") words shown.each
  pub risk : Has (codes "--risk") words shown.risk
  pub terms : SaysTerms words request.row
  pub asked : SaysAsked words request.asked
  pub at_once :
      ReadsOr words (codes "--workers=") (λ text. number_reading 20 1 16 text ≡ Some workers)
      (workers ≡ 1)

-- ---- the options of `drill`
-- words after `drill`: up to 1,000 trades, a seed below 2^64, and from 1 to 16 workers
pub record IsDrill (words : List (List ℕ)) (request : DrillRequest) (workers : ℕ) : Type 0 where
  pub known : All (IsKnown drill.options) words
  pub single : All (IsSingle words) drill.options
  pub count :
      Reads words (codes "--count=") (λ text. number_reading 20 0 1_000 text ≡ Some request.count)
  pub seed :
      Reads words (codes "--seed=")
      (λ text. number_reading 20 0 18_446_744_073_709_551_615 text ≡ Some request.seed)
  pub at_once :
      Reads words (codes "--workers=") (λ text. number_reading 20 1 16 text ≡ Some workers)

-- ---- the words of `quote-one`
-- five words after `quote-one`, in their order; the next interest date has a day that every month
-- has, and is not before 1902
pub record IsQuoteOne (words : List (List ℕ)) (request : QuoteOneRequest) : Type 0 where
  pub five : length words ≡ 5
  pub coupon : coupon_reading (word words 0) ≡ Ok request.coupon
  pub next : day_reading (word words 1) ≡ Ok request.next
  pub settlement : day_reading (word words 2) ≡ Ok request.settlement
  pub redemption : price_reading (word words 3) ≡ Ok request.redemption
  pub yld : yield_reading (word words 4) ≡ Ok request.yld
  pub day_at_most : request.next.day ≤ 28
  pub year_at_least : 1902 ≤ request.next.year

-- ---- the command line
-- a name and the words after it ask for what a store keeps: the list of a desk's trades, their confirmations, how
-- much there is, or an export
abbrev pub AsksFor : List ℕ → List (List ℕ) → ArrayVec ℕ → Wanted → Type 0
AsksFor name words store (want.List desk) = (name ≡ codes "list") × IsList words store desk
AsksFor name words store (want.Confirmations desk) =
    (name ≡ codes "confirm") × IsConfirmAll words store desk
AsksFor name words store want.Counts = (name ≡ codes "check-store") × IsStoreAlone words store
AsksFor name words store other = (name ≡ codes "export") × IsExport words store other

-- the first word names the command, and those after it say what is asked of it
abbrev pub IsSaid : List (List ℕ) → DeskCommand → ℕ → Type 0
IsSaid [] command workers = ⊥
IsSaid (name ∷ words) (QuoteOne request) workers =
    (name ≡ codes "quote-one") × IsQuoteOne words request × (workers ≡ 1)
IsSaid (name ∷ words) (Quote request shown) workers =
    (name ≡ codes "quote") × IsQuote words request shown workers
IsSaid (name ∷ words) (Import store listed limit) workers =
    (name ≡ codes "import") × IsImport words store listed limit workers
IsSaid (name ∷ words) (Load store limit) workers =
    (name ≡ codes "load") × IsLoad words store limit × (workers ≡ 1)
IsSaid (name ∷ words) (Confirm store key) workers =
    (name ≡ codes "confirm") × IsConfirm words store key × (workers ≡ 1)
IsSaid (name ∷ words) (Serve store port connections limit) workers =
    (name ≡ codes "serve") × IsServe words store port connections limit workers
IsSaid (name ∷ words) (Positions store desk) workers =
    (name ≡ codes "positions") × IsPositions words store desk × (workers ≡ 1)
IsSaid (name ∷ words) (Mark store) workers =
    (name ≡ codes "mark") × IsStoreAlone words store × (workers ≡ 1)
IsSaid (name ∷ words) (Figures store options) workers =
    (name ≡ codes "figures") × IsFigures words store options workers
IsSaid (name ∷ words) (Check store desk) workers =
    (name ≡ codes "check") × IsCheck words store desk × (workers ≡ 1)
IsSaid (name ∷ words) CheckAlone workers =
    (name ≡ codes "check") × (words ≡ []) × (workers ≡ 1)
IsSaid (name ∷ words) (Export store wanted) workers =
    AsksFor name words store wanted × (workers ≡ 1)
IsSaid (name ∷ words) (Drill request) workers =
    (name ≡ codes "drill") × IsDrill words request workers
IsSaid (name ∷ words) Help workers =
    (name ≡ codes "help") × (words ≡ []) × (workers ≡ 1)

abbrev pub IsCommandLine : List (List ℕ) → CommandLine → Type 0
IsCommandLine words line = IsSaid words line.command line.workers

-- words are read as a command line exactly if they say it
abbrev pub ReadsCommandLines : Type 0
ReadsCommandLines =
    (words : List (List ℕ)) (line : CommandLine)
    → (command_of words ≡ Some line) ↔ IsCommandLine words line

-- and refused exactly if they say none
abbrev pub RefusesOtherWords : Type 0
RefusesOtherWords =
    (words : List (List ℕ))
    → (command_of words ≡ None) ↔ ((line : CommandLine) → ¬ (IsCommandLine words line))

-- a word is the option of one name at most
abbrev pub NamesAreApart : Type 0
NamesAreApart =
    (name other text : List ℕ) → Contains options name → Contains options other
    → IsOption name text → IsOption other text → name ≡ other
