-- A version more.
use Rattle.std.proofs.Common.{◌≡◌, ◌≤◌, ◌<◌, ℕ, ◌+◌, Bool, true, false, cond, List, [], ◌∷◌, ◌++◌, length, map, take, get_or, refl, sym, ap, ◌∙◌, arith}
use Rattle.std.specs.Option.{unwrap_or}
use Rattle.std.specs.Map.{lookup}
use Rattle.std.specs.BTreeMap.{is_at}
use Rattle.std.proofs.lemmas.List.{take_more, map-append}
use Rattle.muni_msg.specs.declared.command.Line.{Line}
use Rattle.std.specs.Prelude.{◌&&◌}
use Rattle.std.specs.Ordering.{eq_by_cmp}
use Rattle.std.proofs.lemmas.Map.Lookups.{exact_bytes}
use Rattle.std.proofs.lemmas.Map.Views.{tells_apart}
use Rattle.muni_msg.specs.declared.asked.Side.TheVariants.{Buy, Sell}
use Rattle.muni_msg.specs.declared.version.Version.{Version}
use Rattle.muni_keep.specs.Trades.{by_bytes}
use Rattle.muni_position.specs.Positions.{is_live}
use Rattle.muni_position.specs.Holding.{nothing, one, share, plus, holding_of, IsInRange}
use Rattle.muni_position.specs.Holdings.{Holdings, kept}
use Rattle.muni_position.specs.declared.holding.Holding.{Holding}
use Rattle.muni_position.proofs.HoldingLemmas.{same, plus_nothing, holding_of-nil, holding_of-cons, holding_of-append}

never : (b : Bool) → (b && false) ≡ false
never true = refl
never false = refl

-- a version adds nothing to another CUSIP than its own
pub share_other : (cusip : List ℕ) (version : Version) → eq_by_cmp by_bytes version.terms.asked.cusip cusip ≡ false → share cusip version ≡ nothing
unfolding share
share_other cusip version apart =
    ap (λ b. cond b (one version.terms.asked.side version.terms.asked.par version.figures.total) nothing) (ap (λ b. is_live version.act && b) apart ∙ never (is_live version.act))

pub added : (old mid new : Holdings) (version : Version) (sum : Holding) (other : List ℕ) → kept mid other ≡ kept old other
    → kept new other ≡ cond (eq_by_cmp by_bytes version.terms.asked.cusip other) sum (kept mid other)
    → sum ≡ plus (kept old version.terms.asked.cusip) (share version.terms.asked.cusip version)
    → kept new other ≡ plus (kept old other) (share other version)
added old mid new version sum other same is adds =
    let cusip = version.terms.asked.cusip in
    is
    ∙ elim (eq_by_cmp by_bytes cusip other) as (λ b. eq_by_cmp by_bytes cusip other ≡ b → cond b sum (kept mid other) ≡ plus (kept old other) (share other version)) [
      | true ↦ λ t. adds ∙ ap (λ k. plus (kept old k) (share k version)) (tells_apart exact_bytes cusip other t)
      | false ↦ λ t. same ∙ sym (ap (plus (kept old other)) (share_other other version t) ∙ plus_nothing (kept old other))
    ] refl

pub share_one : (cusip : List ℕ) (version : Version) → (share cusip version).live ≤ 1
unfolding share
share_one cusip version =
    elim (is_live version.act && eq_by_cmp by_bytes version.terms.asked.cusip cusip) as (λ b. (cond b (one version.terms.asked.side version.terms.asked.par version.figures.total) nothing).live ≤ 1) [
      | true ↦ elim version.terms.asked.side as (λ s. (one s version.terms.asked.par version.figures.total).live ≤ 1) [ Buy ↦ omega arith | Sell ↦ omega arith ]
      | false ↦ omega arith
    ]

plus_assoc : (a b c : Holding) → plus (plus a b) c ≡ plus a (plus b c)
plus_assoc a b c = same _ _ (omega arith) (omega arith) (omega arith) (omega arith) (omega arith)

holding_of-one : (cusip : List ℕ) (version : Version) → holding_of cusip (version ∷ []) ≡ share cusip version
holding_of-one cusip version = holding_of-cons cusip version [] ∙ ap (plus (share cusip version)) (holding_of-nil cusip) ∙ plus_nothing (share cusip version)

pub no_lines : (a : Holding) (cusip : List ℕ) → a ≡ plus a (holding_of cusip [])
no_lines a cusip = sym (ap (plus a) (holding_of-nil cusip) ∙ plus_nothing a)

-- one line more
pub line_more : (a old new : Holding) (cusip : List ℕ) (lines : List Line) (i : ℕ) (line : Line) → i < length lines → line ≡ get_or lines i line
    → new ≡ plus old (share cusip line.version) → old ≡ plus a (holding_of cusip (map (λ line. line.version) (take i lines)))
    → new ≡ plus a (holding_of cusip (map (λ line. line.version) (take (i + 1) lines)))
line_more a old new cusip lines i line within is more so_far =
    let version = λ (line : Line). line.version in
    let read = map version (take i lines) in
    let next : map version (take (i + 1) lines) ≡ read ++ line.version ∷ [] =
    ap (map version) (take_more lines i line within ∙ ap (λ l. take i lines ++ l ∷ []) (sym is)) ∙ map-append version (take i lines) (line ∷ []) in
    more ∙ ap (λ h. plus h (share cusip line.version)) so_far ∙ plus_assoc a (holding_of cusip read) (share cusip line.version)
    ∙ ap (plus a) (sym (ap (holding_of cusip) next ∙ holding_of-append cusip read (line.version ∷ []) ∙ ap (plus (holding_of cusip read)) (holding_of-one cusip line.version)))

pub kept_none : (holdings : Holdings) → holdings.entries ≡ [] → (cusip : List ℕ) → kept holdings cusip ≡ nothing
kept_none holdings empty cusip = ap (λ es. unwrap_or (lookup (is_at (by_bytes cusip)) es) nothing) empty

pub nothing_in_range : IsInRange nothing
nothing_in_range = record { few = omega arith; par = omega arith; money = omega arith }
