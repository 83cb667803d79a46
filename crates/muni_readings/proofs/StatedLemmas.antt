-- Figures differ nowhere exactly if each that is stated is the same.
use Rattle.std.proofs.Common.{◌≡◌, Bool, true, false, not, refl, List, [], ◌∷◌, Option, Some, None}
use Rattle.std.specs.Prelude.{IfSome, find, if◌then◌else◌, nat_eq}
use Rattle.std.specs.Bool.{Decides}
use Rattle.std.specs.Ordering.{on, int_eq}
use Rattle.std.proofs.lemmas.Bool.Decides.{Decides-eqb, Decides-int_eq}
use Rattle.muni_days.specs.Day.{place_of}
use Rattle.muni_days.proofs.DayLemmas.{day_decides}
use Rattle.muni_readings.specs.Laws.{RightIsAsStated}
use Rattle.muni_readings.specs.Stated.{is_stated, is_other, is_as_stated}
use Rattle.muni_readings.specs.declared.stated.Field.{Field}
use Rattle.muni_readings.specs.declared.stated.Field.TheVariants.{Price, Yield, Redemption, Days, Principal, Accrued, Total}

true-of : (test : Bool) (P : Type 0) → Decides test P → not test ≡ false → P
true-of true P decides same = decides.0 refl
true-of false P decides same = absurd (let never : true ≡ false = same in cc)

test-of : (test : Bool) (P : Type 0) → Decides test P → P → not test ≡ false
test-of true P decides holds = refl
test-of false P decides holds = absurd (let never : false ≡ true = decides.1 holds in cc)

-- a figure is not another than the stated one exactly if it is that one
agrees : {A : Type 0} (eq : A → A → Bool) (figure : A) (stated : Option A) → ((other : A) → Decides (eq figure other) (figure ≡ other)) → is_other (is_stated eq figure stated) ≡ false → IfSome stated (λ other. figure ≡ other)
agrees eq figure None decides same = tt
agrees eq figure (Some other) decides same = true-of (eq figure other) (figure ≡ other) (decides other) same

no-other : {A : Type 0} (eq : A → A → Bool) (figure : A) (stated : Option A) → ((other : A) → Decides (eq figure other) (figure ≡ other)) → IfSome stated (λ other. figure ≡ other) → is_other (is_stated eq figure stated) ≡ false
no-other eq figure None decides same = refl
no-other eq figure (Some other) decides same = test-of (eq figure other) (figure ≡ other) (decides other) same

-- nothing is found exactly if nothing passes
none-by : (p : Field → Bool) (first : Field) (rest : List Field) (test : Bool) → p first ≡ test → (if test then Some first else find p rest) ≡ None → (p first ≡ false) × (find p rest ≡ None)
none-by p first rest true is none = absurd (let never : Some first ≡ None = none in cc)
none-by p first rest false is none = (is, none)

none-first : (p : Field → Bool) (first : Field) (rest : List Field) → find p (first ∷ rest) ≡ None → (p first ≡ false) × (find p rest ≡ None)
none-first p first rest none = none-by p first rest (p first) refl none

none-both : (p : Field → Bool) (first : Field) (rest : List Field) → p first ≡ false → find p rest ≡ None → find p (first ∷ rest) ≡ None
none-both p first rest not_first none = rw not_first none

abbrev after_accrued : List Field
after_accrued = Total ∷ []

abbrev after_principal : List Field
after_principal = Accrued ∷ after_accrued

abbrev after_days : List Field
after_days = Principal ∷ after_principal

abbrev after_redemption : List Field
after_redemption = Days ∷ after_days

abbrev after_yield : List Field
after_yield = Redemption ∷ after_redemption

abbrev after_price : List Field
after_price = Yield ∷ after_yield

pub right-stated : RightIsAsStated
right-stated figures stated =
    let p : Field → Bool = λ of. is_other (is_as_stated of figures stated) in (
      λ none.
          let price = none-first p Price after_price none in
          let yld = none-first p Yield after_yield price.1 in
          let redemption = none-first p Redemption after_redemption yld.1 in
          let days = none-first p Days after_days redemption.1 in
          let principal = none-first p Principal after_principal days.1 in
          let accrued = none-first p Accrued after_accrued principal.1 in
          let total = none-first p Total [] accrued.1 in
          record {
            price = agrees nat_eq figures.price stated.price (Decides-eqb figures.price) price.0;
            yld = agrees int_eq figures.yld stated.yld (Decides-int_eq figures.yld) yld.0;
            redemption = agrees (on place_of nat_eq) figures.redemption stated.redemption (day_decides figures.redemption) redemption.0;
            days = agrees int_eq figures.days stated.days (Decides-int_eq figures.days) days.0;
            principal = agrees nat_eq figures.principal stated.principal (Decides-eqb figures.principal) principal.0;
            accrued = agrees nat_eq figures.accrued stated.accrued (Decides-eqb figures.accrued) accrued.0;
            total = agrees nat_eq figures.total stated.total (Decides-eqb figures.total) total.0;
          },
      λ are.
          none-both p Price after_price (no-other nat_eq figures.price stated.price (Decides-eqb figures.price) are.price)
          (none-both p Yield after_yield (no-other int_eq figures.yld stated.yld (Decides-int_eq figures.yld) are.yld)
          (none-both p Redemption after_redemption (no-other (on place_of nat_eq) figures.redemption stated.redemption (day_decides figures.redemption) are.redemption)
          (none-both p Days after_days (no-other int_eq figures.days stated.days (Decides-int_eq figures.days) are.days)
          (none-both p Principal after_principal (no-other nat_eq figures.principal stated.principal (Decides-eqb figures.principal) are.principal)
          (none-both p Accrued after_accrued (no-other nat_eq figures.accrued stated.accrued (Decides-eqb figures.accrued) are.accrued)
          (none-both p Total [] (no-other nat_eq figures.total stated.total (Decides-eqb figures.total) are.total) refl)))))),
    )
