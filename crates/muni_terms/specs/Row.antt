-- What `==` says of rows and of their parts.
use Rattle.std.specs.Prelude.{ℕ, Bool, nat_eq, List, [], ◌∷◌}
use Rattle.std.specs.Ordering.{on, eq_of_both}
use lib.Pointwise.{pointwise}
use Rattle.muni_rule.specs.DayCount.{year_of}
use Rattle.muni_rule.specs.declared.call_term.CallTerm.{CallTerm}
use Rattle.muni_rule.specs.declared.call_term.CallTerm.TheVariants.{OnDay, OnOrAfter, Called}
use Rattle.muni_days.specs.Day.{place_of}
use Rattle.muni_terms.specs.declared.row.Call.{Call}
use Rattle.muni_terms.specs.declared.row.Kind.{Kind}
use Rattle.muni_terms.specs.declared.row.Kind.TheVariants.{Periodic, Zero, AtRedemption, Discount}
use Rattle.muni_terms.specs.declared.row.IssueRow.{IssueRow}

-- numbers that tell kinds apart
abbrev pub kind_key : Kind → List ℕ
kind_key (Periodic first) = 0 ∷ place_of first ∷ []
kind_key Zero = 1 ∷ []
kind_key AtRedemption = 2 ∷ []
kind_key Discount = 3 ∷ []

-- what `==` says of two kinds
abbrev pub kind_eq : Kind → Kind → Bool
kind_eq = on kind_key (pointwise nat_eq)

-- numbers that tell apart on which days a call stands
abbrev pub term_key : CallTerm → ℕ
term_key OnDay = 0
term_key OnOrAfter = 1
term_key Called = 2

-- of two calls: all parts are equal
abbrev pub call_eq : Call → Call → Bool
call_eq =
    eq_of_both
    (on (λ call. place_of call.date) nat_eq)
    (eq_of_both (on (λ call. call.price) nat_eq) (on (λ call. term_key call.term) nat_eq))

-- and of two rows: all parts are
abbrev pub row_eq : IssueRow → IssueRow → Bool
row_eq =
    eq_of_both
    (eq_of_both
    (on (λ row. place_of row.dated) nat_eq)
    (on (λ row. place_of row.maturity) nat_eq))
    (eq_of_both
    (eq_of_both
    (on (λ row. row.cusip) (pointwise nat_eq))
    (on (λ row. row.name.items) (pointwise nat_eq)))
    (eq_of_both (on (λ row. row.coupon) nat_eq)
    (eq_of_both (on (λ row. row.kind) kind_eq)
    (eq_of_both (on (λ row. year_of row.basis) nat_eq)
    (on (λ row. row.calls.items) (pointwise call_eq))))))
