-- What `==` says of rows.
use Rattle.std.proofs.Common.{◌≡◌, ℕ, List, refl, ap, arith}
use Rattle.std.specs.Bool.{Decides}
use Rattle.std.specs.Prelude.{nat_eq}
use Rattle.std.proofs.lemmas.Bool.Decides.{Decides-eqb, Decides-and, Decides-like}
use Rattle.std.proofs.lemmas.Slice.Eq.{slice_eq-Decides}
use lib.Pointwise.{pointwise}
use Rattle.muni_rule.specs.DayCount.{year_of}
use Rattle.muni_rule.specs.declared.basis.Basis.{Basis}
use Rattle.muni_rule.specs.declared.basis.Basis.TheVariants.{Thirty360, Actual365}
use Rattle.muni_rule.specs.declared.call_term.CallTerm.{CallTerm}
use Rattle.muni_rule.specs.declared.call_term.CallTerm.TheVariants.{OnDay, OnOrAfter, Called}
use Rattle.muni_days.proofs.DayLemmas.{same_day, day_decides}
use Rattle.muni_terms.specs.Row.{kind_key, kind_eq, term_key, call_eq, row_eq}
use Rattle.muni_terms.specs.declared.row.Call.{Call}
use Rattle.muni_terms.specs.declared.row.Kind.{Kind}
use Rattle.muni_terms.specs.declared.row.Kind.TheVariants.{Periodic, Zero, AtRedemption, Discount}
use Rattle.muni_terms.specs.declared.row.IssueRow.{IssueRow}

-- lists of numbers
numbers_decide : (xs ys : List ℕ) → Decides (pointwise nat_eq xs ys) (xs ≡ ys)
numbers_decide xs ys = slice_eq-Decides Decides-eqb xs ys (pointwise nat_eq xs ys) refl

-- calls
same_term : (term other : CallTerm) → term_key term ≡ term_key other → term ≡ other
same_term OnDay OnDay same = refl
same_term OnDay OnOrAfter same = absurd (omega arith)
same_term OnDay Called same = absurd (omega arith)
same_term OnOrAfter OnDay same = absurd (omega arith)
same_term OnOrAfter OnOrAfter same = refl
same_term OnOrAfter Called same = absurd (omega arith)
same_term Called OnDay same = absurd (omega arith)
same_term Called OnOrAfter same = absurd (omega arith)
same_term Called Called same = refl

term_decides : (term other : CallTerm) → Decides (nat_eq (term_key term) (term_key other)) (term ≡ other)
term_decides term other = Decides-like (nat_eq (term_key term) (term_key other)) (same_term term other) (ap term_key) (Decides-eqb (term_key term) (term_key other))

pub call_decides : (call other : Call) → Decides (call_eq call other) (call ≡ other)
call_decides call other =
    let price = Decides-and _ _ (Decides-eqb call.price other.price) (term_decides call.term other.term) in
    Decides-like (call_eq call other)
    (λ same. λ i. record { date = same.0 i; price = same.1.0 i; term = same.1.1 i })
    (λ same. (ap (λ it. it.date) same, (ap (λ it. it.price) same, ap (λ it. it.term) same)))
    (Decides-and _ _ (day_decides call.date other.date) price)

calls_decide : (calls others : List Call) → Decides (pointwise call_eq calls others) (calls ≡ others)
calls_decide calls others = slice_eq-Decides call_decides calls others (pointwise call_eq calls others) refl

-- kinds
same_kind : (kind other : Kind) → kind_key kind ≡ kind_key other → kind ≡ other
same_kind (Periodic first) (Periodic other) same = ap Periodic (same_day first other (cc))
same_kind (Periodic first) Zero same = absurd (cc)
same_kind (Periodic first) AtRedemption same = absurd (cc)
same_kind (Periodic first) Discount same = absurd (cc)
same_kind Zero (Periodic other) same = absurd (cc)
same_kind Zero Zero same = refl
same_kind Zero AtRedemption same = absurd (cc)
same_kind Zero Discount same = absurd (cc)
same_kind AtRedemption (Periodic other) same = absurd (cc)
same_kind AtRedemption Zero same = absurd (cc)
same_kind AtRedemption AtRedemption same = refl
same_kind AtRedemption Discount same = absurd (cc)
same_kind Discount (Periodic other) same = absurd (cc)
same_kind Discount Zero same = absurd (cc)
same_kind Discount AtRedemption same = absurd (cc)
same_kind Discount Discount same = refl

pub kind_decides : (kind other : Kind) → Decides (kind_eq kind other) (kind ≡ other)
kind_decides kind other = Decides-like (kind_eq kind other) (same_kind kind other) (ap kind_key) (numbers_decide (kind_key kind) (kind_key other))

-- bases
same_basis : (basis other : Basis) → year_of basis ≡ year_of other → basis ≡ other
same_basis Thirty360 Thirty360 same = refl
same_basis Thirty360 Actual365 same = absurd (omega arith)
same_basis Actual365 Thirty360 same = absurd (omega arith)
same_basis Actual365 Actual365 same = refl

pub basis_decides : (basis other : Basis) → Decides (nat_eq (year_of basis) (year_of other)) (basis ≡ other)
basis_decides basis other = Decides-like (nat_eq (year_of basis) (year_of other)) (same_basis basis other) (ap year_of) (Decides-eqb (year_of basis) (year_of other))

-- rows
pub row_decides : (row other : IssueRow) → Decides (row_eq row other) (row ≡ other)
row_decides row other =
    let dates = Decides-and _ _ (day_decides row.dated other.dated) (day_decides row.maturity other.maturity) in
    let texts = Decides-and _ _ (numbers_decide row.cusip other.cusip) (numbers_decide row.name.items other.name.items) in
    let calls = Decides-and _ _ (basis_decides row.basis other.basis) (calls_decide row.calls.items other.calls.items) in
    let terms = Decides-and _ _ (kind_decides row.kind other.kind) calls in
    Decides-like (row_eq row other)
    (λ same. λ i. record {
      cusip = same.1.0.0 i;
      name = record { items = same.1.0.1 i };
      kind = same.1.1.1.0 i;
      basis = same.1.1.1.1.0 i;
      dated = same.0.0 i;
      maturity = same.0.1 i;
      coupon = same.1.1.0 i;
      calls = record { items = same.1.1.1.1.1 i };
    })
    (λ same. (
      (ap (λ it. it.dated) same, ap (λ it. it.maturity) same),
      ((ap (λ it. it.cusip) same, ap (λ it. it.name.items) same), (ap (λ it. it.coupon) same, (ap (λ it. it.kind) same, (ap (λ it. it.basis) same, ap (λ it. it.calls.items) same)))),
    ))
    (Decides-and _ _ dates (Decides-and _ _ texts (Decides-and _ _ (Decides-eqb row.coupon other.coupon) terms)))
