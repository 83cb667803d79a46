-- Searches that are looked at one after another, of which those are left out that reach a place.
use Rattle.std.proofs.Common.{◌≡◌, ◌≤◌, ◌<◌, ◌+◌, ℕ, List, [], ◌∷◌, ◌++◌, Bool, false, not, ◌&&◌, Option, length, drop, get_or, suc, refl, ap, sym, subst, arith, ◌∙◌, ℤ}
use Rattle.std.specs.Prelude.{min, nat_lt}
use Rattle.std.specs.List.{filter}
use Rattle.std.proofs.lemmas.Bool.Decides.{nat_tests}
use Rattle.std.proofs.lemmas.List.{append-nil, append_assoc}
use Rattle.std.proofs.lemmas.List.Elements.{filter-append}
use Rattle.std.proofs.Math.Seq.{drop-cons}
use Rattle.muni_rule.specs.Payments.{PaymentSeries}
use Rattle.muni_rule.specs.declared.verdict.Verdict.{Verdict}
use Rattle.muni_yield.specs.Bracket.{start_of, is_settled}
use Rattle.muni_yield.specs.Known.{IsGuided, guided_start, guided_reached}
use Rattle.muni_sched.specs.declared.candidate.Candidate.{Candidate}
use Rattle.muni_sched.specs.declared.candidate.Shape.{Shape}
use Rattle.muni_sched.specs.declared.candidate.Shape.TheVariants.{Many, One, AtRedemption, Discount}
use Rattle.muni_sched.specs.declared.search.OpenSearch.{OpenSearch}
use Rattle.muni_sched.specs.Search.{IsLookedAt, IsLookedAtBut, missed_after, is_passed, is_needed, searches_for, searches_from}
use Rattle.muni_sched.specs.ToCome.{to_come_of}
use Rattle.muni_sched.proofs.SearchLemmas.{missed-falls}
use Rattle.muni_sched.proofs.ZipLemmas.{zip-more}

-- the searches before a candidate, as they are looked at
pub record IsLookedUpTo (verdicts : PaymentSeries → ℕ → ℕ → Verdict) (place price : ℕ) (list : List Candidate) (c : ℕ) (kept : List OpenSearch) : Type 0 where
  pub before : List OpenSearch
  pub all : before ++ searches_from price c (drop c list) ≡ searches_from price 0 list
  pub but : IsLookedAtBut verdicts place before kept

-- ---- one search more
missed-append : (before : ℕ) (searches : List OpenSearch) (one : OpenSearch) → missed_after before (searches ++ one ∷ []) ≡ min (missed_after before searches) one.guided.window.no
missed-append before [] one = refl
missed-append before (it ∷ searches) one = missed-append (min before it.guided.window.no) searches one

none-needed : (settled passed known : Bool) → known ≡ false → (not settled && (not passed && known)) ≡ false
none-needed settled passed known none = grind (arith, nat_tests, none)

-- one that reaches a place that another does not is not needed
not-needed : (ceiling : Option ℤ) (missed place : ℕ) (one : OpenSearch) → one.guided.window.yes ≡ place → missed ≤ place → is_needed ceiling missed one ≡ false
not-needed ceiling missed place one is most =
    let far : nat_lt one.guided.window.yes missed ≡ false = grind (arith, nat_tests, is, most) in
    none-needed (is_settled one.guided.bracket) (is_passed ceiling one.guided.bracket) (nat_lt one.guided.window.yes missed) far

filter-none : (p : OpenSearch → Bool) (searches : List OpenSearch) (one : OpenSearch) → p one ≡ false → filter p (searches ++ one ∷ []) ≡ filter p searches
filter-none p searches one none =
    let last : filter p (one ∷ []) ≡ [] = rw none refl in
    filter-append p searches (one ∷ []) ∙ (ap (λ it. filter p searches ++ it) last ∙ append-nil (filter p searches))

-- the search of a candidate before its first question
abbrev pub first_of : ℕ → ℕ → PaymentSeries → OpenSearch
first_of price c series = record { candidate = c; guided = guided_start series price }

-- one is left out
but-shown : (verdicts : PaymentSeries → ℕ → ℕ → Verdict) (place price c : ℕ) (series : PaymentSeries) (before kept : List OpenSearch) → IsGuided verdicts (guided_reached series price place) → IsLookedAtBut verdicts place before kept → IsLookedAtBut verdicts place (before ++ first_of price c series ∷ []) kept
but-shown verdicts place price c series before kept guided but =
    let one : OpenSearch = record { candidate = c; guided = guided_reached series price place } in
    let here : IsLookedAt verdicts (first_of price c series) one = record { candidate = refl; bracket = refl; guided = guided } in
    record {
      looked = but.looked ++ one ∷ [];
      each = zip-more (IsLookedAt verdicts) before but.looked (first_of price c series) one but.each here;
      missed = λ m few. missed-append m but.looked one ∙ ((let low = missed-falls m but.looked in omega (arith, low, few)) ∙ but.missed m few);
      needed = λ ceiling m most. filter-none (is_needed ceiling m) but.looked one (not-needed ceiling m place one refl most) ∙ but.needed ceiling m most;
    }

-- one is kept
but-kept : (verdicts : PaymentSeries → ℕ → ℕ → Verdict) (place price c : ℕ) (series : PaymentSeries) (before kept : List OpenSearch) (one : OpenSearch) → one.candidate ≡ c → one.guided.bracket ≡ start_of series price → IsGuided verdicts one.guided → IsLookedAtBut verdicts place before kept → IsLookedAtBut verdicts place (before ++ first_of price c series ∷ []) (kept ++ one ∷ [])
but-kept verdicts place price c series before kept one candidate bracket guided but =
    let here : IsLookedAt verdicts (first_of price c series) one = record { candidate = candidate; bracket = bracket; guided = guided } in
    record {
      looked = but.looked ++ one ∷ [];
      each = zip-more (IsLookedAt verdicts) before but.looked (first_of price c series) one but.each here;
      missed = λ m few. missed-append m but.looked one ∙ (ap (λ low. min low one.guided.window.no) (but.missed m few) ∙ sym (missed-append m kept one));
      needed = λ ceiling m most. let p : OpenSearch → Bool = is_needed ceiling m in
          filter-append p but.looked (one ∷ []) ∙ (ap (λ it. it ++ filter p (one ∷ [])) (but.needed ceiling m most) ∙ sym (filter-append p kept (one ∷ [])));
    }

-- ---- one candidate more
-- the searches from a candidate on: its own, if it has many payments to come, and those of the rest
from-here : (price : ℕ) (list : List Candidate) (c : ℕ) (d : Candidate) → c < length list → searches_from price c (drop c list) ≡ searches_for price c (to_come_of (get_or list c d).shape) (searches_from price (c + 1) (drop (c + 1) list))
from-here price list c d inside =
    let step : suc c ≡ c + 1 = omega arith in
    ap (searches_from price c) (drop-cons list c d inside) ∙ ap (λ n. searches_for price c (to_come_of (get_or list c d).shape) (searches_from price (c + 1) (drop n list))) step

pub from-many : (price : ℕ) (list : List Candidate) (c : ℕ) (d : Candidate) (series : PaymentSeries) → c < length list → (get_or list c d).shape ≡ Many series → searches_from price c (drop c list) ≡ first_of price c series ∷ searches_from price (c + 1) (drop (c + 1) list)
from-many price list c d series inside is =
    from-here price list c d inside ∙ ap (λ shape. searches_for price c (to_come_of shape) (searches_from price (c + 1) (drop (c + 1) list))) is

none-for : (price c : ℕ) (shape : Shape) (rest : List OpenSearch) → ((series : PaymentSeries) → shape ≡ Many series → ⊥) → searches_for price c (to_come_of shape) rest ≡ rest
none-for price c (Many series) rest other = absurd (other series refl)
none-for price c (One payment) rest other = refl
none-for price c (AtRedemption payment) rest other = refl
none-for price c (Discount days basis) rest other = refl

pub from-one : (price : ℕ) (list : List Candidate) (c : ℕ) (d : Candidate) → c < length list → ((series : PaymentSeries) → (get_or list c d).shape ≡ Many series → ⊥) → searches_from price c (drop c list) ≡ searches_from price (c + 1) (drop (c + 1) list)
from-one price list c d inside other =
    from-here price list c d inside ∙ none-for price c (get_or list c d).shape (searches_from price (c + 1) (drop (c + 1) list)) other

-- none is looked at yet
pub looked-none : (verdicts : PaymentSeries → ℕ → ℕ → Verdict) (place price : ℕ) (list : List Candidate) → IsLookedUpTo verdicts place price list 0 []
looked-none verdicts place price list = record {
  before = [];
  all = refl;
  but = record { looked = []; each = tt; missed = λ before few. refl; needed = λ ceiling missed most. refl };
}

-- a candidate of one payment has no search
pub looked-one : (verdicts : PaymentSeries → ℕ → ℕ → Verdict) (place price : ℕ) (list : List Candidate) (c : ℕ) (kept : List OpenSearch) → searches_from price c (drop c list) ≡ searches_from price (c + 1) (drop (c + 1) list) → IsLookedUpTo verdicts place price list c kept → IsLookedUpTo verdicts place price list (c + 1) kept
looked-one verdicts place price list c kept same so_far = record {
  before = so_far.before;
  all = ap (λ it. so_far.before ++ it) (sym same) ∙ so_far.all;
  but = so_far.but;
}

all-more : (price : ℕ) (list : List Candidate) (c : ℕ) (series : PaymentSeries) (before : List OpenSearch) → searches_from price c (drop c list) ≡ first_of price c series ∷ searches_from price (c + 1) (drop (c + 1) list) → before ++ searches_from price c (drop c list) ≡ searches_from price 0 list → (before ++ first_of price c series ∷ []) ++ searches_from price (c + 1) (drop (c + 1) list) ≡ searches_from price 0 list
all-more price list c series before next all =
    append_assoc before (first_of price c series ∷ []) (searches_from price (c + 1) (drop (c + 1) list)) ∙ (ap (λ it. before ++ it) (sym next) ∙ all)

pub looked-shown : (verdicts : PaymentSeries → ℕ → ℕ → Verdict) (place price : ℕ) (list : List Candidate) (c : ℕ) (series : PaymentSeries) (kept : List OpenSearch) → searches_from price c (drop c list) ≡ first_of price c series ∷ searches_from price (c + 1) (drop (c + 1) list) → IsGuided verdicts (guided_reached series price place) → IsLookedUpTo verdicts place price list c kept → IsLookedUpTo verdicts place price list (c + 1) kept
looked-shown verdicts place price list c series kept next guided so_far = record {
  before = so_far.before ++ first_of price c series ∷ [];
  all = all-more price list c series so_far.before next so_far.all;
  but = but-shown verdicts place price c series so_far.before kept guided so_far.but;
}

pub looked-kept : (verdicts : PaymentSeries → ℕ → ℕ → Verdict) (place price : ℕ) (list : List Candidate) (c : ℕ) (series : PaymentSeries) (kept : List OpenSearch) (one : OpenSearch) → searches_from price c (drop c list) ≡ first_of price c series ∷ searches_from price (c + 1) (drop (c + 1) list) → one.candidate ≡ c → one.guided.bracket ≡ start_of series price → IsGuided verdicts one.guided → IsLookedUpTo verdicts place price list c kept → IsLookedUpTo verdicts place price list (c + 1) (kept ++ one ∷ [])
looked-kept verdicts place price list c series kept one next candidate bracket guided so_far = record {
  before = so_far.before ++ first_of price c series ∷ [];
  all = all-more price list c series so_far.before next so_far.all;
  but = but-kept verdicts place price c series so_far.before kept one candidate bracket guided so_far.but;
}

-- all are looked at
pub looked-all : (verdicts : PaymentSeries → ℕ → ℕ → Verdict) (place price : ℕ) (list : List Candidate) (c : ℕ) (kept : List OpenSearch) → drop c list ≡ [] → IsLookedUpTo verdicts place price list c kept → IsLookedAtBut verdicts place (searches_from price 0 list) kept
looked-all verdicts place price list c kept end so_far =
    let all : so_far.before ≡ searches_from price 0 list = sym (append-nil so_far.before) ∙ (ap (λ it. so_far.before ++ searches_from price c it) (sym end) ∙ so_far.all) in
    subst (λ searches. IsLookedAtBut verdicts place searches kept) all so_far.but
