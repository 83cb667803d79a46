-- The command `drill`: a book of generated trades, and the summary of the answers to them.
-- `ends` are those that the encloser gives to payments and a yield.
use Rattle.std.specs.Prelude.{◌≡◌, ℕ, zero, suc, ◌*◌, ◌%◌, ◌<◌, Bool, eqb, MatchBool, List, [], ◌∷◌, ◌++◌, length, slice_index_or, ℤ}
use Rattle.muni_rule.specs.Payments.{PaymentSeries}
use Rattle.muni_rule.specs.WorthEnds.{WorthEnds}
use Rattle.muni_desk.specs.Generator.{IsGenerated, state_after}
use Rattle.muni_desk.specs.Request.{IsAnswerOf}
use Rattle.muni_desk.specs.Sums.{Answered, AreSums, AreSmall, summary_text}
use Rattle.muni_desk.specs.declared.drill.options.DrillRequest.{DrillRequest}
use Rattle.muni_desk.specs.declared.drill.sums.Sums.{Sums}

-- The trade at a place of the book, counted from 0, with the right answer to it: each trade before it took
-- seven draws from the seed on.
pub record IsDrilled (ends : PaymentSeries → ℤ → WorthEnds) (seed place : ℕ) (it : Answered) : Type 0 where
  pub generated : IsGenerated (state_after seed (7 * place)) it.request
  pub answered : IsAnswerOf ends it.request.row it.request.asked it.answer

-- the book has the first so many trades from a seed, each with the right answer to it
abbrev pub IsBook : (ends : PaymentSeries → ℤ → WorthEnds) → (seed count : ℕ) → List Answered → Type 0
IsBook ends seed zero book = book ≡ []
IsBook ends seed (suc count) book =
    (earlier : List Answered) × (last : Answered) × IsBook ends seed count earlier
    × IsDrilled ends seed count last × (book ≡ earlier ++ last ∷ [])

-- sums over that book
pub record IsSummed (ends : PaymentSeries → ℤ → WorthEnds) (seed count : ℕ) (sums : Sums) : Type 0 where
  pub book : List Answered
  pub is_book : IsBook ends seed count book
  pub summed : AreSums book sums

-- the text is its summary
abbrev pub IsSummary : (ends : PaymentSeries → ℤ → WorthEnds) → DrillRequest → List ℕ → Type 0
IsSummary ends request text =
    (book : List Answered) × IsBook ends request.seed request.count book × (text ≡ summary_text book)

-- the earlier trades, and after them the one at a place
abbrev pub IsFollowed : (ends : PaymentSeries → ℤ → WorthEnds) → (seed place : ℕ) → (earlier part : List Answered) → Type 0
IsFollowed ends seed place earlier part =
    (last : Answered) × IsDrilled ends seed place last × (part ≡ earlier ++ last ∷ [])

-- those of the first so many trades that are at the chosen places, each with the right answer to it
abbrev pub IsPart : (ends : PaymentSeries → ℤ → WorthEnds) → (chosen : ℕ → Bool) → (seed count : ℕ) → List Answered → Type 0
IsPart ends chosen seed zero part = part ≡ []
IsPart ends chosen seed (suc count) part =
    (earlier : List Answered) × IsPart ends chosen seed count earlier
    × MatchBool (chosen count) (IsFollowed ends seed count earlier part) (part ≡ earlier)

-- sums over that part
pub record IsShare (ends : PaymentSeries → ℤ → WorthEnds) (chosen : ℕ → Bool) (seed count : ℕ) (sums : Sums) : Type 0 where
  pub part : List Answered
  pub is_part : IsPart ends chosen seed count part
  pub summed : AreSums part sums
  pub small : AreSmall sums

-- the trades are dealt out to the workers in turn, and a worker has the one at this place
abbrev pub is_dealt : (workers worker place : ℕ) → Bool
is_dealt workers worker place = eqb (place % workers) worker

-- the sums of each worker
abbrev pub AreShares : (ends : PaymentSeries → ℤ → WorthEnds) → (seed count : ℕ) → List Sums → Type 0
AreShares ends seed count shares =
    (worker : ℕ) (d : Sums) → worker < length shares
    → IsShare ends (is_dealt (length shares) worker) seed count (slice_index_or shares worker d)
