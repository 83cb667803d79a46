use Rattle.std.proofs.Common.{◌≡◌, ◌<◌, ◌+◌, ◌∙◌, length, take, get_or, sym, ap, arith}
use Rattle.std.specs.List.{slice_set}
use Rattle.std.proofs.lemmas.List.{take_all}
use Rattle.std.proofs.lemmas.Result.{err_from_is_err_and}
use Rattle.muni_desk_io.specs.declared.fault.Fault.TheVariants.{TooLarge}
use Rattle.muni_figures.specs.Shares.{rows_of_shares}
use Rattle.muni_figures.proofs.ShareLemmas.{counted-next, numbered-next, place-next, place-past, rows-within, same-all, same-set}
use Rattle.muni_figures.proofs.shares.number.Goals as goal

pub loop-i-init : goal.loop-i-init
loop-i-init c = record { same = same-all c.args.shares.now; numbered = tt; fits = c.ranges.first.fits; place = omega arith }

pub returns-in_err-place-clause-blocks : goal.returns-in_err-place-clause-blocks
returns-in_err-place-clause-blocks c =
    same-set c.loop-i.place c.args.shares.now c.loop-i.shares c.loop-i.i c.index-shares-i.result c.loop-i.invariant.same

pub returns-in_err-place-clause-too_many : goal.returns-in_err-place-clause-too_many
returns-in_err-place-clause-too_many c large =
    let old = c.args.shares.now in
    let i = c.loop-i.i in
    let place = c.loop-i.place in
    let d = c.index-shares-i.result in
    let shares = slice_set c.loop-i.shares i (record (get_or c.loop-i.shares i d) { place = place }) in
    let same = same-set place old c.loop-i.shares i d c.loop-i.invariant.same in
    let within : i < length old = omega (arith, c.loop-i-test.true) in
    let e = c.index-shares-i-in-loop-i.result in
    let had = length (rows_of_shares (take i old)) in
    let has = length (rows_of_shares (take (i + 1) old)) in
    let scan = (get_or shares i e).scan in
    let rows = counted-next old shares i e c.requires same within in
    let p = err_from_is_err_and c.from_residual.result c.from_residual.ensures.1 in
    let large_is = rw p.1 at large in
    let why : p.0 ≡ TooLarge = cc large_is in
    let past = place-past place scan c.next_place.result c.in_err-place.field-0.0 had has c.in_err-place.was c.next_place.ensures rows (sym p.2 ∙ why) in
    omega (arith, past, c.loop-i.invariant.place, rows-within old (i + 1))

pub loop-i-preserved : goal.loop-i-preserved
loop-i-preserved c =
    let old = c.args.shares.now in
    let i = c.loop-i.i in
    let place = c.loop-i.place in
    let d = c.index-shares-i.result in
    let shares = slice_set c.loop-i.shares i (record (get_or c.loop-i.shares i d) { place = place }) in
    let same = same-set place old c.loop-i.shares i d c.loop-i.invariant.same in
    let within : i < length old = omega (arith, c.loop-i-test.true) in
    let e = c.index-shares-i-in-loop-i.result in
    let had = length (rows_of_shares (take i old)) in
    let has = length (rows_of_shares (take (i + 1) old)) in
    let scan = (get_or shares i e).scan in
    let rows = counted-next old shares i e c.requires same within in
    let next = place-next place scan c.next_place.result c.in_ok-place.place had has c.in_ok-place.was c.next_place.ensures rows in
    let after : c.in_ok-place.place ≡ c.args.first + has = omega (arith, next.0, c.loop-i.invariant.place) in
    record {
      same = same;
      numbered = numbered-next c.args.first place c.in_ok-place.place old c.loop-i.shares i d c.loop-i.invariant.same within c.loop-i.invariant.numbered c.loop-i.invariant.place after next.1;
      fits = next.1;
      place = after;
    }

pub returns-clause-room : goal.returns-clause-room
returns-clause-room c =
    let old = c.args.shares.now in
    let all : length (rows_of_shares (take c.loop-i.i old)) ≡ length (rows_of_shares old) =
    ap (λ l. length (rows_of_shares l)) (take_all c.loop-i.i old (omega (arith, c.loop-i-test.false))) in
    omega (arith, all, c.loop-i.invariant.place, c.loop-i.invariant.fits)
